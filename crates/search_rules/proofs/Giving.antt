-- The facts that a set's assertions give, by numbers of a table, and the edges among them.
use Rattle.std.proofs.Common.{◌≡◌, ℕ, zero, suc, ◌+◌, ◌-◌, ◌<◌, ◌&&◌, ◌||◌, ◌⊎◌, Bool, true, false, eqb, ltb, List, []}
use Rattle.std.proofs.Common.{◌∷◌, ◌++◌, length, get_or, drop, Option, Some, None, refl, ap, sym, ◌∙◌, subst, arith}
use Rattle.std.proofs.Common.{inl, inr, map, append_assoc, drop-cons, add-one}
use Rattle.std.specs.Prelude.{slice_get, if◌then◌else◌}
use Rattle.std.specs.List.{All, list_all, list_any}
use Rattle.std.proofs.lemmas.Bool.{and_parts, and_from, or_right, ltb-true, lt-ltb, eqb-true, eq-eqb}
use Rattle.std.proofs.lemmas.List.{length-append, get_or_default}
use Rattle.std.proofs.lemmas.List.Elements.{All-nil, All-cons, All-append, All-head, All-tail, All-from_get_or}
use Rattle.std.proofs.lemmas.List.Elements.{All-get_or}
use Rattle.std.proofs.lemmas.List.Folds.{list_any_at, Any-from_list_any, list_any-append}
use Rattle.shq_terms.specs.Concept.{Concept}
use Rattle.shq_terms.specs.declared.axioms.Axiom.{Axiom}
use Rattle.shq_terms.specs.declared.axioms.Axiom.TheVariants.{SubClassOf, EquivalentClasses, DisjointClasses}
use Rattle.shq_terms.specs.declared.axioms.Axiom.TheVariants.{DisjointUnion, SubRole, EquivalentRoles, Domain, Range}
use Rattle.shq_terms.specs.declared.axioms.Axiom.TheVariants.{Functional, Transitive, Member, Pair, SameAll, Different}
use Rattle.shq_terms.specs.declared.axioms.Numbered.{Numbered}
use Rattle.shq_terms.specs.declared.axioms.Query.{Query}
use Rattle.calculus_specs.specs.Normal.{normal_form}
use Rattle.calculus_specs.specs.Shape.{Shape}
use Rattle.calculus_specs.specs.Tree.{tree_of}
use Rattle.calculus_specs.specs.Rows.{is_among}
use Rattle.calculus_specs.specs.Reading.{read_fact, is_fact_listed}
use Rattle.calculus_specs.specs.State.{speaks_below}
use Rattle.calculus_specs.specs.declared.facts.Fact.{Fact}
use Rattle.calculus_specs.specs.declared.facts.Fact.TheVariants.{Has, Edge, Apart, Same}
use Rattle.ontology_limits.specs.Counts.{has_counts_within}
use Rattle.ontology_limits.specs.Parts.{axiom_has_counts_within}
use Rattle.ontology_limits.specs.Facts.{same_facts, apart_facts}
use Rattle.ontology_limits.specs.Numbers.{Extends}
use Rattle.ontology_limits.proofs.Numbers.{length_extends, tree_stays}
use Rattle.absorption.specs.Theory.{fact_of_axiom, fact_in, listed_fact, nodes_pass, question_in}
use Rattle.absorption.specs.Steps.{SearchContext, IsGiven}
use Rattle.absorption.specs.Reached.{FactsHaveNumbers}
use Rattle.assertion_box.specs.Stated.{Stated, own_facts, own_facts_in, numbered_facts, stated_facts, stated_at}
use Rattle.assertion_box.specs.Laws.{AreGivenBy}
use Rattle.step_finders.specs.declared.state.Given.{Given}
use Rattle.step_finders.specs.Giving.{IsGivenAt, AreGiven, AreGivenInto}
use Rattle.search_rules.specs.RuleLists.{RuleLists, numbers_in, context_in}
use Rattle.search_rules.specs.GivenFacts.{fact_has_counts, IsFactNumber, IsNumbered, given_at, AreNumberedTo}
use Rattle.search_rules.specs.GivenFacts.{AreNumbered, edge_into, edges_into}
use Rattle.search_rules.proofs.Numbered.{each_pushed}

bool_cases : (b : Bool) → (b ≡ true) ⊎ (b ≡ false)
bool_cases true = inl refl
bool_cases false = inr refl

-- ---- cardinalities

all_same : (as_ : List ℕ) → list_all fact_has_counts (same_facts as_) ≡ true
all_same [] = refl
all_same (a ∷ []) = refl
all_same (a ∷ b ∷ bs) = all_same (b ∷ bs)

all_both : (fs gs : List (Fact Concept)) → list_all fact_has_counts fs ≡ true → list_all fact_has_counts gs ≡ true
    → list_all fact_has_counts (fs ++ gs) ≡ true
all_both [] gs h k = k
all_both (f ∷ fs) gs h k =
    let b = and_parts (fact_has_counts f) (list_all fact_has_counts fs) h in
    and_from (fact_has_counts f) (list_all fact_has_counts (fs ++ gs)) b.0 (all_both fs gs b.1 k)

all_apart : (a : ℕ) (bs : List ℕ) → list_all fact_has_counts (map (Apart a) bs) ≡ true
all_apart a [] = refl
all_apart a (b ∷ bs) = all_apart a bs

all_different : (as_ : List ℕ) → list_all fact_has_counts (apart_facts as_) ≡ true
all_different [] = refl
all_different (a ∷ as_) = all_both (map (Apart a) as_) (apart_facts as_) (all_apart a as_) (all_different as_)

own_counts : (a : Axiom) → axiom_has_counts_within 100 a ≡ true → list_all fact_has_counts (own_facts a) ≡ true
own_counts (Member c a) h = and_from (has_counts_within 100 c) true h refl
own_counts (Pair r a b) h = refl
own_counts (SameAll as_) h = all_same as_
own_counts (Different as_) h = all_different as_
own_counts (SubClassOf c d) h = refl
own_counts (EquivalentClasses cs) h = refl
own_counts (DisjointClasses cs) h = refl
own_counts (DisjointUnion c cs) h = refl
own_counts (SubRole r s) h = refl
own_counts (EquivalentRoles rs) h = refl
own_counts (Domain r c) h = refl
own_counts (Range r c) h = refl
own_counts (Functional r) h = refl
own_counts (Transitive r) h = refl

abbrev HasCounts : Stated → Type 0
HasCounts s = fact_has_counts s.fact ≡ true

numbered_counts : (k first : ℕ) (fs : List (Fact Concept)) → list_all fact_has_counts fs ≡ true
    → All HasCounts (numbered_facts k first fs)
numbered_counts k first [] h = All-nil HasCounts
numbered_counts k first (f ∷ fs) h =
    let b = and_parts (fact_has_counts f) (list_all fact_has_counts fs) h in
    All-cons HasCounts _ (numbered_facts k (first + 1) fs) b.0 (numbered_counts k (first + 1) fs b.1)

abbrev within : Numbered → Bool
within n = axiom_has_counts_within 100 n.axiom

counts_in : (axioms : List Numbered) (n : ℕ) → list_all within axioms ≡ true
    → list_all fact_has_counts (own_facts_in (slice_get axioms n)) ≡ true
counts_in [] n h = refl
counts_in (x ∷ axioms) zero h = own_counts x.axiom (and_parts (within x) (list_all within axioms) h).0
counts_in (x ∷ axioms) (suc n) h = counts_in axioms n (and_parts (within x) (list_all within axioms) h).1

-- the facts of axioms have no greater cardinalities than the axioms
pub stated_counts : (axioms : List Numbered) (ks : List ℕ) → list_all within axioms ≡ true
    → All HasCounts (stated_facts axioms ks)
stated_counts axioms [] h = All-nil HasCounts
stated_counts axioms (k ∷ ks) h =
    All-append HasCounts (numbered_facts k 1 (own_facts_in (slice_get axioms (k - 1)))) (stated_facts axioms ks)
    (numbered_counts k 1 (own_facts_in (slice_get axioms (k - 1))) (counts_in axioms (k - 1) h))
    (stated_counts axioms ks h)

-- ---- numbers stay while the table grows

module _ (a b : List Shape) (grown : Extends a b) where
  fact_stays : (f : Fact ℕ) (t : Fact Concept) → IsFactNumber a f t → IsFactNumber b f t
  fact_stays (Has x c) t h =
      let lt = ltb-true c (length a) h.listed in record {
        listed = lt-ltb c (length b) (omega (arith, lt, length_extends a b grown));
        reads = ap (Has x) (tree_stays a b grown c lt) ∙ h.reads;
      }
  fact_stays (Edge r x y) t h = record { listed = refl; reads = h.reads }
  fact_stays (Apart x y) t h = record { listed = refl; reads = h.reads }
  fact_stays (Same x y) t h = record { listed = refl; reads = h.reads }

  number_of_fact_stays : (s : Stated) (g : Given) → IsNumbered a s g → IsNumbered b s g
  number_of_fact_stays s g h =
      record { axiom_is = h.axiom_is; place_is = h.place_is; fact_is = fact_stays g.fact s.fact h.fact_is }

  pub numbered_stay : (stated : List Stated) (gs : List Given) (n : ℕ) → AreNumberedTo a stated gs n
      → AreNumberedTo b stated gs n
  numbered_stay stated gs n h = record { count = h.count; each = λ p lt. number_of_fact_stays _ _ (h.each p lt) }

  pub numbered_more : (stated : List Stated) (gs : List Given) (n : ℕ) (g : Given) → AreNumberedTo a stated gs n
      → IsNumbered b (stated_at stated n) g → AreNumberedTo b stated (gs ++ g ∷ []) (n + 1)
  numbered_more stated gs n g h is = record {
    count = length-append gs (g ∷ []) ∙ omega (arith, h.count);
    each =
        each_pushed (λ p x. IsNumbered b (stated_at stated p) x) (record { «axiom» = 0; place = 0; fact = Same 0 0 }) n
        gs g h.count (λ p lt. number_of_fact_stays _ _ (h.each p lt)) is;
  }

-- ---- they are what axioms give

-- a given fact is of listed individuals
of_listed : (k : ℕ) (axioms : List Numbered) (ks : List ℕ) (a p : ℕ) (f : Fact Concept)
    → fact_of_axiom k axioms ks a p ≡ Some f → nodes_pass (λ x. ltb x k) f ≡ true
of_listed k axioms ks a p f e = by (is_among ks a) refl
  where
    passes : (o : Option (Fact Concept)) → listed_fact k o ≡ Some f → nodes_pass (λ x. ltb x k) f ≡ true
    passes None e = cc
    passes (Some g) e = elim (bool_cases (nodes_pass (λ x. ltb x k) g)) [
      | inl yes_it ↦
          (let same : g ≡ f =
          (let is : listed_fact k (Some g) ≡ Some g = ap (λ (b : Bool). if b then Some g else None) yes_it in cc) in
          subst (λ (h : Fact Concept). nodes_pass (λ x. ltb x k) h ≡ true) same yes_it)
      | inr no_it ↦ (let is : listed_fact k (Some g) ≡ None = ap (λ (b : Bool). if b then Some g else None) no_it in cc)
    ]

    given : Option (Fact Concept)
    given = listed_fact k (fact_in (slice_get axioms (a - 1)) p)

    by : (b : Bool) → is_among ks a ≡ b → nodes_pass (λ x. ltb x k) f ≡ true
    by true among =
        let is : fact_of_axiom k axioms ks a p ≡ given = ap (λ (b : Bool). if b then given else None) among in
        passes (fact_in (slice_get axioms (a - 1)) p) (sym is ∙ e)
    by false out =
        let none : fact_of_axiom k axioms ks a p ≡ None = ap (λ (b : Bool). if b then given else None) out in
        cc

both_below : (x y k : ℕ) → (ltb x k && ltb y k) ≡ true → (ltb x (k + 1) && ltb y (k + 1)) ≡ true
both_below x y k h =
    let b = and_parts (ltb x k) (ltb y k) h in
    and_from (ltb x (k + 1)) (ltb y (k + 1)) (lt-ltb x (k + 1) (omega (arith, ltb-true x k b.0)))
    (lt-ltb y (k + 1) (omega (arith, ltb-true y k b.1)))

-- so it speaks of first nodes alone
speaks_of_first : (k : ℕ) (read : ℕ → Concept) (f : Fact ℕ) → nodes_pass (λ x. ltb x k) (read_fact read f) ≡ true
    → speaks_below (k + 1) f ≡ true
speaks_of_first k read (Has x c) h = lt-ltb x (k + 1) (omega (arith, ltb-true x k h))
speaks_of_first k read (Edge r x y) h = both_below x y k h
speaks_of_first k read (Apart x y) h = both_below x y k h
speaks_of_first k read (Same x y) h = both_below x y k h

abbrev no_given : Given
no_given = record { «axiom» = 0; place = 0; fact = Same 0 0 }

-- the fact of an axiom, found among the given ones
record Found (w : SearchContext) (gs : List Given) (a p : ℕ) (f : Fact Concept) : Type 0 where
  at : ℕ
  given : Given
  is_within : at < length gs
  stands : get_or gs at given ≡ given
  is_given : IsGivenAt w given
  reads : read_fact (tree_of w.table) given.fact ≡ f

found : (w : SearchContext) (gs : List Given) (a p : ℕ) (f : Fact Concept) → AreGiven w gs → w.fact_of a p ≡ Some f
    → Found w gs a p f
found w gs a p f are e =
    let any = Any-from_list_any (λ g. eqb g.«axiom» a && eqb g.place p) gs (are.every a p f e) in
    let g = any.1 in
    let here : IsGivenAt w g = subst (IsGivenAt w) any.3 (are.each any.0 g any.2) in
    let b = and_parts (eqb g.«axiom» a) (eqb g.place p) any.4 in
    let same : w.fact_of g.«axiom» g.place ≡ w.fact_of a p =
    ap (λ (k : ℕ). w.fact_of k g.place) (eqb-true g.«axiom» a b.0) ∙ ap (w.fact_of a) (eqb-true g.place p b.1) in
    let both : Some (read_fact (tree_of w.table) g.fact) ≡ Some f = sym here.is_there ∙ same ∙ e in
    record {
      at = any.0;
      given = g;
      is_within = any.2;
      stands = any.3;
      is_given = here;
      reads = (let k : read_fact (tree_of w.table) g.fact ≡ f = cc in k);
    }

module _ (r : RuleLists) where
  abbrev pub stated : List Stated
  stated = stated_facts r.ontology.axioms (numbers_in r)

  module _ (numbered : AreNumbered r.table stated r.given)
      (by : AreGivenBy (length r.ontology.individuals) r.ontology.axioms (numbers_in r) stated) where
    given_here : (p : ℕ) → p < length stated → IsGivenAt (context_in r) (given_at r.given p)
    given_here p lt =
        let w = context_in r in
        let s = stated_at stated p in
        let g = given_at r.given p in
        let n = numbered.each p lt in
        let fact =
        All-get_or (λ (t : Stated). w.fact_of t.axiom_number t.place ≡ Some (read_fact normal_form t.fact)) stated p
        (record { axiom_number = 0; place = 0; fact = Same 0 0 }) lt by.each in
        let there : w.fact_of g.«axiom» g.place ≡ Some (read_fact (tree_of r.table) g.fact) =
        ap (λ (k : ℕ). w.fact_of k g.place) n.axiom_is
        ∙ ap (w.fact_of s.axiom_number) n.place_is
        ∙ fact
        ∙ ap (λ (f : Fact Concept). Some f) (sym n.fact_is.reads) in
        record {
          is_there = there;
          listed = n.fact_is.listed;
          on_first = speaks_of_first (length r.ontology.individuals) (tree_of r.table) g.fact
              (of_listed (length r.ontology.individuals) r.ontology.axioms (numbers_in r) g.«axiom» g.place
              (read_fact (tree_of r.table) g.fact) there);
        }

    any_given : (a p : ℕ) → list_any (λ s. eqb s.axiom_number a && eqb s.place p) stated ≡ true
        → list_any (λ g. eqb g.«axiom» a && eqb g.place p) r.given ≡ true
    any_given a p h =
        let any = Any-from_list_any (λ s. eqb s.axiom_number a && eqb s.place p) stated h in
        let s = any.1 in
        let is : stated_at stated any.0 ≡ s =
        get_or_default stated any.0 (record { axiom_number = 0; place = 0; fact = Same 0 0 }) s any.2 ∙ any.3 in
        let n = numbered.each any.0 any.2 in
        list_any_at (λ g. eqb g.«axiom» a && eqb g.place p) r.given any.0 no_given
        (omega (arith, any.2, numbered.count))
        (ap (λ (k : ℕ). eqb k a && eqb (given_at r.given any.0).place p)
        (n.axiom_is ∙ ap (λ (t : Stated). t.axiom_number) is)
        ∙ ap (λ (k : ℕ). eqb s.axiom_number a && eqb k p) (n.place_is ∙ ap (λ (t : Stated). t.place) is)
        ∙ any.4)

    pub facts_given : AreGiven (context_in r) r.given
    facts_given = record {
      each = All-from_get_or (IsGivenAt (context_in r)) r.given no_given
          (λ p lt. given_here p (omega (arith, lt, numbered.count)));
      every = λ a p f e. any_given a p (by.every a p f e);
    }

  -- each fact that an axiom gives has numbers
  pub facts_numbered : AreGiven (context_in r) r.given → (q : Query)
      → FactsHaveNumbers (question_in r.ontology (numbers_in r) q) r.table
  facts_numbered are q a p f e =
      let one = found (context_in r) r.given a p f are e in
      record {
        fact = one.given.fact;
        reads = one.reads;
        listed = one.is_given.listed;
        on_first = one.is_given.on_first;
      }

-- given facts stay so while the table grows
read_stays : (a b : List Shape) → Extends a b → (f : Fact ℕ) → is_fact_listed (length a) f ≡ true
    → read_fact (tree_of b) f ≡ read_fact (tree_of a) f
read_stays a b grown (Has x c) h = ap (Has x) (tree_stays a b grown c (ltb-true c (length a) h))
read_stays a b grown (Edge r x y) h = refl
read_stays a b grown (Apart x y) h = refl
read_stays a b grown (Same x y) h = refl

listed_stays : (a b : List Shape) → Extends a b → (f : Fact ℕ) → is_fact_listed (length a) f ≡ true
    → is_fact_listed (length b) f ≡ true
listed_stays a b grown (Has x c) h =
    let lt = ltb-true c (length a) h in lt-ltb c (length b) (omega (arith, lt, length_extends a b grown))
listed_stays a b grown (Edge r x y) h = refl
listed_stays a b grown (Apart x y) h = refl
listed_stays a b grown (Same x y) h = refl

pub given_stay : (r : RuleLists) (new : List Shape) → Extends r.table new → AreGiven (context_in r) r.given
    → AreGiven (context_in (record r { table = new })) r.given
given_stay r new grown are = record {
  each = λ k d lt.
      let h = are.each k d lt in
      let f = (get_or r.given k d).fact in record {
        is_there = h.is_there ∙ ap (λ (t : Fact Concept). Some t) (sym (read_stays r.table new grown f h.listed));
        listed = listed_stays r.table new grown f h.listed;
        on_first = h.on_first;
      };
  every = are.every;
}

-- ---- edges by their ends

module _ (w : SearchContext) where
  is_given : (g : Given) → IsGivenAt w g → IsGiven w g.fact
  is_given g h = record {
    axiom_number = g.«axiom»;
    place = g.place;
    is_there = h.is_there;
    listed = h.listed;
    on_first = h.on_first;
  }

  abbrev IsInto : ℕ → ℕ × ℕ → Type 0
  IsInto x p = IsGiven w (Edge p.0 p.1 x)

  edge_given : (x : ℕ) (f : Fact ℕ) → IsGiven w f → All (IsInto x) (edge_into x f)
  edge_given x (Edge r y z) h = elim (bool_cases (eqb z x)) [
    | inl at ↦
        subst (λ (ps : List (ℕ × ℕ)). All (IsInto x) ps) (sym (ap (λ (b : Bool). if b then (r, y) ∷ [] else []) at))
        (All-cons (IsInto x) (r, y) [] (subst (λ (k : ℕ). IsGiven w (Edge r y k)) (eqb-true z x at) h)
        (All-nil (IsInto x)))
    | inr other ↦
        subst (λ (ps : List (ℕ × ℕ)). All (IsInto x) ps) (sym (ap (λ (b : Bool). if b then (r, y) ∷ [] else []) other))
        (All-nil (IsInto x))
  ]
  edge_given x (Has y c) h = All-nil (IsInto x)
  edge_given x (Apart y z) h = All-nil (IsInto x)
  edge_given x (Same y z) h = All-nil (IsInto x)

  edges_given : (x : ℕ) (gs : List Given) → All (IsGivenAt w) gs → All (IsInto x) (edges_into x gs)
  edges_given x [] h = All-nil (IsInto x)
  edges_given x (g ∷ gs) h =
      All-append (IsInto x) (edge_into x g.fact) (edges_into x gs)
      (edge_given x g.fact (is_given g (All-head (IsGivenAt w) g gs h)))
      (edges_given x gs (All-tail (IsGivenAt w) g gs h))

  -- an edge is among those at its end
  any_into : (r y x : ℕ) (gs : List Given) (at : ℕ) (g : Given) → at < length gs → get_or gs at g ≡ g
      → g.fact ≡ Edge r y x → list_any (λ p. eqb p.0 r && eqb p.1 y) (edges_into x gs) ≡ true
  any_into r y x [] at g lt is e = absurd (omega (arith, lt))
  any_into r y x (h ∷ gs) zero g lt is e =
      let own : edge_into x h.fact ≡ (r, y) ∷ [] =
      ap (edge_into x) (ap (λ (k : Given). k.fact) is ∙ e)
      ∙ ap (λ (b : Bool). if b then (r, y) ∷ [] else []) (eq-eqb x x refl) in
      list_any-append (λ p. eqb p.0 r && eqb p.1 y) (edge_into x h.fact) (edges_into x gs)
      ∙ ap (λ (ps : List (ℕ × ℕ)). list_any (λ p. eqb p.0 r && eqb p.1 y) ps
      || list_any (λ p. eqb p.0 r && eqb p.1 y) (edges_into x gs))
      own
      ∙ ap (λ (b : Bool). (b || false) || list_any (λ p. eqb p.0 r && eqb p.1 y) (edges_into x gs))
      (and_from (eqb r r) (eqb y y) (eq-eqb r r refl) (eq-eqb y y refl))
  any_into r y x (h ∷ gs) (suc at) g lt is e =
      list_any-append (λ p. eqb p.0 r && eqb p.1 y) (edge_into x h.fact) (edges_into x gs)
      ∙ or_right (list_any (λ p. eqb p.0 r && eqb p.1 y) (edge_into x h.fact)) _
      (any_into r y x gs at g (omega (arith, lt)) is e)

  is_edge : (read : ℕ → Concept) (f : Fact ℕ) (r y x : ℕ) → read_fact read f ≡ Edge r y x → f ≡ Edge r y x
  is_edge read (Has a c) r y x e = cc
  is_edge read (Edge s a b) r y x e = let one : s ≡ r = cc in let two : a ≡ y = cc in let three : b ≡ x = cc in cc
  is_edge read (Apart a b) r y x e = cc
  is_edge read (Same a b) r y x e = cc

  pub edges_are : (x : ℕ) (gs : List Given) → AreGiven w gs → AreGivenInto w x (edges_into x gs)
  edges_are x gs are = record {
    each = edges_given x gs are.each;
    every = λ r y given.
        let one = found w gs given.axiom_number given.place (Edge r y x) are given.is_there in
        any_into r y x gs one.at one.given one.is_within one.stands
        (is_edge (tree_of w.table) one.given.fact r y x one.reads);
  }

-- the edges of one fact more
pub one_edge_more : (x : ℕ) (given : List Given) (i : ℕ) (g : Given) (before after all : List (ℕ × ℕ))
    → i < length given → g ≡ get_or given i g
    → before ++ edges_into x (drop i given) ≡ all → after ≡ before ++ edge_into x g.fact
    → after ++ edges_into x (drop (i + 1) given) ≡ all
one_edge_more x given i g before after all lt is was put =
    let e : drop i given ≡ g ∷ drop (i + 1) given =
    subst (λ (h : Given). drop i given ≡ h ∷ drop (i + 1) given) (sym is) (rw add-one (drop-cons given i g lt)) in
    ap (λ (ps : List (ℕ × ℕ)). ps ++ edges_into x (drop (i + 1) given)) put
    ∙ append_assoc before (edge_into x g.fact) (edges_into x (drop (i + 1) given))
    ∙ ap (λ (gs : List Given). before ++ edges_into x gs) (sym e)
    ∙ was

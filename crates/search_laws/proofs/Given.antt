-- How many of the facts that axioms give are so: what is so stays so, and what a step puts is so.
use Rattle.std.proofs.Common.{◌≡◌, ℕ, zero, suc, ◌+◌, ◌<◌, ◌≤◌, cond, eqb, Bool, true, false, List, [], ◌∷◌, ◌++◌, map}
use Rattle.std.proofs.Common.{length, length-append, refl, ap, ◌∙◌, sym, subst, arith, inl, inr, eq-eqb}
use Rattle.std.specs.List.{range_with_len}
use Rattle.std.proofs.lemmas.Bool.{cases_Bool, cases_eq, or_left, ltb-true}
use Rattle.std.proofs.lemmas.Bool.Decides.{nat_tests}
use Rattle.shq_terms.specs.Concept.{Concept}
use Rattle.shq_terms.proofs.Bools.{counted_le, counted_at_most_one}
use Rattle.calculus_specs.specs.Same.{is_same}
use Rattle.calculus_specs.specs.Shape.{Shape, IsTable}
use Rattle.calculus_specs.specs.Tree.{tree_of}
use Rattle.calculus_specs.specs.Rows.{Row}
use Rattle.calculus_specs.specs.Rules.{Question}
use Rattle.calculus_specs.proofs.Same.{same_to_eq, same_itself}
use Rattle.calculus_specs.proofs.Unique.{numbers_unique}
use Rattle.calculus_specs.specs.declared.facts.Fact.{Fact}
use Rattle.calculus_specs.specs.declared.facts.Fact.TheVariants.{Has, Edge, Apart, Same}
use Rattle.calculus_specs.specs.Joins.{rep, merged}
use Rattle.calculus_specs.specs.State.{gives_edge, gives_apart, is_so}
use Rattle.calculus_specs.specs.Reading.{read_fact, is_fact_listed}
use Rattle.calculus_specs.proofs.Joined.{rep-snoc}
use Rattle.tableau_specs.specs.Lines.{first_passing}
use Rattle.tableau_specs.specs.Steps.{SearchContext, IsGiven}
use Rattle.tableau_specs.specs.Reached.{context_of}
use Rattle.search_laws.specs.ComputedClosure.{HasFacts}
use Rattle.search_laws.proofs.Counting.{cond_more}
use Rattle.search_laws.proofs.Within.{Among, among_map, among_contained}
use Rattle.search_laws.proofs.Rising.{any_right, had, has_last}
use Rattle.search_laws.proofs.Asked.{eqb_stays, has_stays, edge_stays, apart_stays, edge_at, apart_at}

-- ---- what is so

pub so_stays : (fs gs : List (Fact ℕ)) (f : Fact ℕ) → is_so fs f ≡ true → is_so (fs ++ gs) f ≡ true
so_stays fs gs (Has x c) h = has_stays fs gs x c h
so_stays fs gs (Edge r x y) h = edge_stays fs gs (λ s. eqb s r) x y h
so_stays fs gs (Apart x y) h = apart_stays fs gs x y h
so_stays fs gs (Same x y) h = eqb_stays fs gs x y h

merged_both : (b c : ℕ) → merged b c b ≡ merged b c c
merged_both b c = grind (arith, nat_tests)

pub so_last : (fs : List (Fact ℕ)) (f : Fact ℕ) → is_so (fs ++ f ∷ []) f ≡ true
so_last fs (Has x c) = had (fs ++ Has x c ∷ []) x c (has_last fs x c)
so_last fs (Edge r x y) =
    let now = fs ++ Edge r x y ∷ [] in
    let p : Fact ℕ → Bool = gives_edge (λ s. eqb s r) (rep now) (rep now x) (rep now y) in
    any_right p fs (Edge r x y ∷ [])
    (or_left (p (Edge r x y)) false (edge_at (λ s. eqb s r) (rep now) r x y (eq-eqb r r refl)))
so_last fs (Apart x y) =
    let now = fs ++ Apart x y ∷ [] in
    let p : Fact ℕ → Bool = gives_apart (rep now) (rep now x) (rep now y) in
    any_right p fs (Apart x y ∷ []) (or_left (p (Apart x y)) false (apart_at (rep now) x y))
so_last fs (Same x y) =
    let now = fs ++ Same x y ∷ [] in
    eq-eqb (rep now x) (rep now y)
    (rep-snoc fs (Same x y) x ∙ merged_both (rep fs x) (rep fs y) ∙ sym (rep-snoc fs (Same x y) y))

-- ---- how many of some facts are so

abbrev pub so_count : List (Fact ℕ) → List (Fact ℕ) → ℕ
so_count [] fs = 0
so_count (t ∷ ts) fs = so_count ts fs + cond (is_so fs t) 1 0

so_le : (ts fs gs : List (Fact ℕ)) → so_count ts fs ≤ so_count ts (fs ++ gs)
so_le [] fs gs = omega arith
so_le (t ∷ ts) fs gs =
    let rest = so_le ts fs gs in
    let here = counted_le (is_so fs t) (is_so (fs ++ gs) t) (so_stays fs gs t) in omega arith

so_more : (ts fs : List (Fact ℕ)) (f : Fact ℕ) → Among f ts → is_so fs f ≡ false
    → so_count ts fs + 1 ≤ so_count ts (fs ++ f ∷ [])
so_more [] fs f m out = absurd m
so_more (t ∷ ts) fs f m out = elim m [
  | inl e ↦
      let rest = so_le ts fs (f ∷ []) in
      let first =
      cond_more (is_so fs t) (is_so (fs ++ f ∷ []) t) (subst (λ (g : Fact ℕ). is_so fs g ≡ false) e out)
      (subst (λ (g : Fact ℕ). is_so (fs ++ f ∷ []) g ≡ true) e (so_last fs f)) in
      omega arith
  | inr later ↦
      let rest = so_more ts fs f later out in
      let first = counted_le (is_so fs t) (is_so (fs ++ f ∷ []) t) (so_stays fs (f ∷ []) t) in
      omega arith
]

pub so_most : (ts fs : List (Fact ℕ)) → so_count ts fs ≤ length ts
so_most [] fs = omega arith
so_most (t ∷ ts) fs = let rest = so_most ts fs in let here = counted_at_most_one (is_so fs t) in omega arith

-- a number of facts that no step makes less, and that each given fact which was not so makes greater
pub record IsGiveCount (w : SearchContext) (count : List (Fact ℕ) → ℕ) : Type 0 where
  pub not_less : (fs gs : List (Fact ℕ)) → count fs ≤ count (fs ++ gs)
  pub more : (fs : List (Fact ℕ)) (f : Fact ℕ) → IsGiven w f → is_so fs f ≡ false → count fs + 1 ≤ count (fs ++ f ∷ [])

pub counts_so : (w : SearchContext) (ts : List (Fact ℕ)) → ((f : Fact ℕ) → IsGiven w f → Among f ts)
    → IsGiveCount w (so_count ts)
counts_so w ts all = record { not_less = so_le ts; more = λ fs f given out. so_more ts fs f (all f given) out }

-- all facts
pub counts_all : (w : SearchContext) → IsGiveCount w (λ fs. length fs)
counts_all w = record {
  not_less = λ fs gs. omega (arith, length-append fs gs);
  more = λ fs f given out. omega (arith, length-append fs (f ∷ []));
}

-- ---- the numbers of given facts

-- the number of a concept in the table
abbrev number_in : List Shape → Concept → ℕ
number_in table c = first_passing (λ n. is_same (tree_of table n) c) (range_with_len 0 (length table))

abbrev pub numbered : List Shape → Fact Concept → Fact ℕ
numbered table (Has x c) = Has x (number_in table c)
numbered table (Edge r x y) = Edge r x y
numbered table (Apart x y) = Apart x y
numbered table (Same x y) = Same x y

-- the one that passes is found
first_is : (p : ℕ → Bool) (n a k : ℕ) → a ≤ n → n < a + k → p n ≡ true → ((y : ℕ) → y < a + k → p y ≡ true → y ≡ n)
    → first_passing p (range_with_len a k) ≡ n
first_is p n a zero le lt at only = absurd (omega arith)
first_is p n a (suc k) le lt at only = elim (cases_Bool (p a)) [
  | inl hit ↦ rw hit (only a (omega arith) hit)
  | inr miss ↦ rw miss (elim (cases_eq a n) [
    | inl here ↦ (let l = ap p here in cc)
    | inr ne ↦
        first_is p n (a + 1) k (omega (arith, le, ne)) (omega (arith, lt)) at (λ y mt h. only y (omega (arith, mt)) h)
  ])
]

module _ (table : List Shape) (good : IsTable table) where
  number_back : (n : ℕ) → n < length table → number_in table (tree_of table n) ≡ n
  number_back n lt =
      first_is (λ m. is_same (tree_of table m) (tree_of table n)) n 0 (length table) (omega arith) (omega (arith, lt))
      (same_itself (tree_of table n))
      (λ y mt h. numbers_unique table good y n (omega (arith, mt)) lt
      (same_to_eq (tree_of table y) (tree_of table n) h))

  pub numbered_back : (f : Fact ℕ) → is_fact_listed (length table) f ≡ true
      → numbered table (read_fact (tree_of table) f) ≡ f
  numbered_back (Has x c) h = ap (Has x) (number_back c (ltb-true c (length table) h))
  numbered_back (Edge r x y) h = refl
  numbered_back (Apart x y) h = refl
  numbered_back (Same x y) h = refl

  -- each given fact is one of those that axioms give, by numbers
  pub given_among : (q : Question) (rows : List Row) (facts : List (Fact Concept)) → HasFacts q facts → (f : Fact ℕ)
      → IsGiven (context_of q table rows) f → Among f (map (numbered table) facts)
  given_among q rows facts all f g =
      let t = read_fact (tree_of table) f in
      subst (λ (h : Fact ℕ). Among h (map (numbered table) facts)) (numbered_back f g.listed)
      (among_map (numbered table) t facts (among_contained t facts (all g.axiom_number g.place t g.is_there)))

-- A trail that is reached over a table is reached over each longer one.
use Rattle.std.proofs.Common.{◌≡◌, ℕ, zero, suc, ◌+◌, ◌<◌, ◌&&◌, ◌||◌, eqb, ltb, Bool, true, false, List, [], ◌∷◌, ◌++◌}
use Rattle.std.proofs.Common.{length, Option, Some, None, refl, ap, ◌∙◌, sym, arith, inl, inr, length-append}
use Rattle.std.specs.List.{list_any, list_all, All}
use Rattle.std.proofs.lemmas.List.{get_or_append_left}
use Rattle.std.proofs.lemmas.List.Elements.{All-nil, All-cons, All-head, All-tail, All-weaker, All-get_or}
use Rattle.std.proofs.lemmas.Bool.{or_cases, eqb-true, ltb-true, lt-ltb, cases_Bool, and_parts}
use Rattle.std.proofs.lemmas.Option.{slice_get_within, get_or_from_slice_get}
use Rattle.calculus_specs.specs.Concept.{Concept, name}
use Rattle.calculus_specs.specs.Normal.{negated_form}
use Rattle.calculus_specs.specs.Shape.{Shape, shape_of, IsTable}
use Rattle.calculus_specs.specs.Shape.Shape.{top}
use Rattle.calculus_specs.specs.Tree.{IsComplement, tree_of}
use Rattle.calculus_specs.specs.Rows.{Part, Row, Trigger, IsRowOf, IsChoice, part_at, conjunct_at}
use Rattle.calculus_specs.specs.Rows.Part.{inclusion, range}
use Rattle.calculus_specs.specs.Rows.Trigger.{always, names, edge, end_of}
use Rattle.calculus_specs.proofs.Tree.{tree_of-append}
use Rattle.calculus_specs.specs.declared.facts.Fact.{Fact}
use Rattle.calculus_specs.specs.declared.facts.Fact.TheVariants.{Has, Edge, Apart, Same}
use Rattle.calculus_specs.specs.Joins.{rep}
use Rattle.calculus_specs.specs.State.{gives_concept, has, concepts_at, label}
use Rattle.calculus_specs.specs.Reading.{read_fact, is_fact_listed, are_listed}
use Rattle.tableau_specs.specs.declared.Branch.{Branch}
use Rattle.tableau_specs.specs.declared.Item.{Item}
use Rattle.tableau_specs.specs.declared.Item.TheVariants.{Mark}
use Rattle.tableau_specs.specs.Items.{facts_of}
use Rattle.tableau_specs.specs.Clash.{IsClash, IsPlainClash}
use Rattle.tableau_specs.specs.Clash.IsClash.{of_bottom, of_names, of_most, of_differ}
use Rattle.tableau_specs.specs.Clash.IsPlainClash.{plain_bottom, plain_names, plain_most, plain_differ}
use Rattle.tableau_specs.specs.Steps.{SearchContext, IsGiven, has_name, has_names, is_triggered, is_named, Adds}
use Rattle.tableau_specs.specs.Steps.{IsCarried, Generates, MayBranch, IsAlternative, IsLegal}
use Rattle.tableau_specs.specs.Steps.Adds.{by_and, by_all, by_carry, by_row}
use Rattle.tableau_specs.specs.Steps.Generates.{by_some, by_least}
use Rattle.tableau_specs.specs.Steps.MayBranch.{on_union, on_filler, on_pair}
use Rattle.tableau_specs.specs.Steps.IsAlternative.{of_union, of_filler, of_complement, of_joining, of_parting}
use Rattle.tableau_specs.specs.Steps.IsLegal.{add, give, generate, choose, back}
use Rattle.tableau_specs.specs.Reached.{start, Follows, FactsHaveNumbers, context_of, IsReached}
use Rattle.tableau_specs.proofs.Listed.{listed, ItemListed, BranchListed, facts_listed, follows_listed, start_listed}
use Rattle.tableau_specs.proofs.Listed.{most_listed}
use Rattle.calculus_specs.specs.Rules.{Question}

-- ---- what listed facts give is listed

given_listed : (n c : ℕ) (m : ℕ → ℕ) (at : ℕ) (fs : List (Fact ℕ)) → are_listed n fs ≡ true
    → list_any (gives_concept (λ d. eqb d c) m at) fs ≡ true → c < n
given_listed n c m at [] h g = cc
given_listed n c m at (Has y d ∷ fs) h g =
    let t = and_parts (ltb d n) (are_listed n fs) h in
    elim (or_cases (eqb (m y) at && eqb d c) (list_any (gives_concept (λ e. eqb e c) m at) fs) g) [
      | inl here ↦ omega (arith, eqb-true d c (and_parts (eqb (m y) at) (eqb d c) here).1, ltb-true d n t.0)
      | inr later ↦ given_listed n c m at fs t.1 later
    ]
given_listed n c m at (Edge r y z ∷ fs) h g = given_listed n c m at fs h g
given_listed n c m at (Apart y z ∷ fs) h g = given_listed n c m at fs h g
given_listed n c m at (Same y z ∷ fs) h g = given_listed n c m at fs h g

concepts_listed : (n : ℕ) (m : ℕ → ℕ) (at : ℕ) (fs : List (Fact ℕ)) → are_listed n fs ≡ true
    → All (λ c. c < n) (concepts_at m at fs)
concepts_listed n m at [] h = All-nil (λ c. c < n)
concepts_listed n m at (Has y d ∷ fs) h =
    let t = and_parts (ltb d n) (are_listed n fs) h in
    let rest = concepts_listed n m at fs t.1 in
    elim (cases_Bool (eqb (m y) at)) [
      | inl hit ↦ rw hit (All-cons (λ c. c < n) d (concepts_at m at fs) (ltb-true d n t.0) rest)
      | inr miss ↦ rw miss rest
    ]
concepts_listed n m at (Edge r y z ∷ fs) h = concepts_listed n m at fs h
concepts_listed n m at (Apart y z ∷ fs) h = concepts_listed n m at fs h
concepts_listed n m at (Same y z ∷ fs) h = concepts_listed n m at fs h

any_agree : (p q : ℕ → Bool) (n : ℕ) (cs : List ℕ) → ((c : ℕ) → c < n → p c ≡ q c) → All (λ c. c < n) cs
    → list_any p cs ≡ list_any q cs
any_agree p q n [] same h = refl
any_agree p q n (c ∷ cs) same h =
    ap (λ (b : Bool). b || list_any p cs) (same c (All-head (λ d. d < n) c cs h))
    ∙ ap (λ (b : Bool). q c || b) (any_agree p q n cs same (All-tail (λ d. d < n) c cs h))

all_agree : (p q : ℕ → Bool) (cs : List ℕ) → ((c : ℕ) → p c ≡ q c) → list_all p cs ≡ list_all q cs
all_agree p q [] same = refl
all_agree p q (c ∷ cs) same =
    ap (λ (b : Bool). b && list_all p cs) (same c) ∙ ap (λ (b : Bool). q c && b) (all_agree p q cs same)

module _ (q : Question) (table more : List Shape) (rows : List Row) (good : IsTable table) where
  abbrev short : SearchContext
  short = context_of q table rows

  abbrev long : SearchContext
  long = context_of q (table ++ more) rows

  same_shape : (c : ℕ) → c < length table → shape_of (table ++ more) c ≡ shape_of table c
  same_shape c lt = get_or_append_left table more top c lt

  shape_up : (c : ℕ) (s : Shape) → ¬ (s ≡ top) → shape_of table c ≡ s → shape_of (table ++ more) c ≡ s
  shape_up c s ne e = same_shape c (listed table c (λ k. ne (sym e ∙ k))) ∙ e

  shape_down : (c : ℕ) (s : Shape) → c < length table → shape_of (table ++ more) c ≡ s → shape_of table c ≡ s
  shape_down c s lt e = sym (same_shape c lt) ∙ e

  -- ---- what depends on the facts

  module _ (fs : List (Fact ℕ)) (known : are_listed (length table) fs ≡ true) where
    has_listed : (x c : ℕ) → has fs x c ≡ true → c < length table
    has_listed x c h = elim (or_cases (eqb c 0) (list_any (gives_concept (λ d. eqb d c) (rep fs) (rep fs x)) fs) h) [
      | inl z ↦ omega (arith, eqb-true c 0 z, good.has_top)
      | inr g ↦ given_listed (length table) c (rep fs) (rep fs x) fs known g
    ]

    label_listed : (x : ℕ) → All (λ c. c < length table) (label fs x)
    label_listed x =
        All-cons (λ c. c < length table) 0 (concepts_at (rep fs) (rep fs x) fs) good.has_top
        (concepts_listed (length table) (rep fs) (rep fs x) fs known)

    same_name : (x : ℕ) (t : Concept) → has_name long fs x t ≡ has_name short fs x t
    same_name x (name a) =
        any_agree (λ c. is_named a (shape_of (table ++ more) c)) (λ c. is_named a (shape_of table c)) (length table)
        (label fs x)
        (λ c lt. ap (is_named a) (same_shape c lt)) (label_listed x)
    same_name x _ = refl

    same_names : (x : ℕ) (positions : List ℕ) (p : Option Part)
        → has_names long fs x positions p ≡ has_names short fs x positions p
    same_names x positions (Some (inclusion cs d)) =
        all_agree (λ i. has_name long fs x (conjunct_at cs i)) (λ i. has_name short fs x (conjunct_at cs i)) positions
        (λ i. same_name x (conjunct_at cs i))
    same_names x positions (Some (range r d)) = refl
    same_names x positions None = refl

    same_trigger : (x : ℕ) (p : Option Part) (t : Trigger) → is_triggered long fs x p t ≡ is_triggered short fs x p t
    same_trigger x p always = refl
    same_trigger x p (names positions) = same_names x positions p
    same_trigger x p (edge s) = refl
    same_trigger x p (end_of s) = refl

    plain_down : IsPlainClash q.first q.theory.below (table ++ more) fs → IsPlainClash q.first q.theory.below table fs
    plain_down (plain_bottom x c lt h sh) = plain_bottom x c lt h (shape_down c _ (has_listed x c h) sh)
    plain_down (plain_names x c d a lt h sh g th) =
        plain_names x c d a lt h (shape_down c _ (has_listed x c h) sh) g (shape_down d _ (has_listed x d g) th)
    plain_down (plain_most x c n s e lt h sh many apart) =
        plain_most x c n s e lt h (shape_down c _ (has_listed x c h) sh) many apart
    plain_down (plain_differ y z lt mt apart same) = plain_differ y z lt mt apart same

    clash_up : IsClash q.first q.theory.below table fs → IsClash q.first q.theory.below (table ++ more) fs
    clash_up (of_bottom x c lt h sh) = of_bottom x c lt h (shape_up c _ (λ k. cc) sh)
    clash_up (of_names x c d a lt h sh g th) =
        of_names x c d a lt h (shape_up c _ (λ k. cc) sh) g (shape_up d _ (λ k. cc) th)
    clash_up (of_most x c n s e ys lt h sh len all apart) =
        of_most x c n s e ys lt h (shape_up c _ (λ k. cc) sh) len all apart
    clash_up (of_differ y z lt mt apart same) = of_differ y z lt mt apart same

    carried_up : (x y c s t e : ℕ) → IsCarried short fs x y c s t e → IsCarried long fs x y c s t e
    carried_up x y c s t e h = record {
      begin_is_node = h.begin_is_node;
      end_is_node = h.end_is_node;
      holds = h.holds;
      shape = shape_up c _ (λ k. cc) h.shape;
      transitive = h.transitive;
      role_below = h.role_below;
      edge = h.edge;
    }

    adds_up : (x d : ℕ) → Adds short fs x d → Adds long fs x d
    adds_up x d (by_and x' c d' parts lt h sh m) = by_and x c d parts lt h (shape_up c _ (λ k. cc) sh) m
    adds_up x d (by_all x' y c s e lt mt h sh leads) = by_all x' x c s d lt mt h (shape_up c _ (λ k. cc) sh) leads
    adds_up x d (by_carry x' y c s t e d' carried sh) =
        by_carry x' x c s t e d (carried_up x' x c s t e carried) (shape_up d _ (λ k. cc) sh)
    adds_up x d (by_row x' row lt m used) =
        by_row x row lt m (same_trigger x (part_at q.theory row.axiom_number row.part_number) row.trigger ∙ used)

    generates_up : (new : List (Fact ℕ)) → Generates short fs new → Generates long fs new
    generates_up new (by_some x c s e at h sh none) =
        by_some x c s e (record { is_node = at.is_node; is_rep = at.is_rep; is_clear = at.is_clear }) h
        (shape_up c _ (λ k. cc) sh) none
    generates_up new (by_least x c n s e at h sh none) =
        by_least x c n s e (record { is_node = at.is_node; is_rep = at.is_rep; is_clear = at.is_clear }) h
        (shape_up c _ (λ k. cc) sh) none

    complement_down : (y e d : ℕ) → e < length table → ((c : ℕ) → IsComplement table e c → has fs y c ≡ false)
        → IsComplement (table ++ more) e d → has fs y d ≡ false
    complement_down y e d lt none h = elim (cases_Bool (has fs y d)) [
      | inr out ↦ out
      | inl there ↦
          let mt = has_listed y d there in
          none d (record {
            listed = mt;
            negates =
                sym (tree_of-append table more d mt) ∙ h.negates ∙ ap negated_form (tree_of-append table more e lt);
          })
    ]

    may_up : (b : Branch) → MayBranch short fs b → MayBranch long fs b
    may_up b (on_union x c parts lt h sh none) = on_union x c parts lt h (shape_up c _ (λ k. cc) sh) none
    may_up b (on_filler x c n s e y lt h sh next none out) =
        on_filler x c n s e y lt h (shape_up c _ (λ k. cc) sh) next none
        (λ d. complement_down y e d (most_listed short good c n s e sh) out)
    may_up b (on_pair x c n s e y z lt h sh many cy cz ne apart) =
        on_pair x c n s e y z lt h (shape_up c _ (λ k. cc) sh) many cy cz ne apart

  alternative_up : (b : Branch) (k : ℕ) (f : Fact ℕ) → BranchListed (length table) b → IsAlternative table b k f
      → IsAlternative (table ++ more) b k f
  alternative_up b k f lt (of_union x c k' d parts sh read) = of_union x c k' d parts (shape_up c _ (λ e. cc) sh) read
  alternative_up b k f lt (of_filler y e) = of_filler y e
  alternative_up b k f lt (of_complement y e d neg) =
      of_complement y e d (record {
        listed = omega (arith, neg.listed, length-append table more);
        negates =
            tree_of-append table more d neg.listed ∙ neg.negates
            ∙ ap negated_form (sym (tree_of-append table more e lt));
      })
  alternative_up b k f lt (of_joining y z) = of_joining y z
  alternative_up b k f lt (of_parting y z) = of_parting y z

  may_listed : (fs : List (Fact ℕ)) (b : Branch) → MayBranch short fs b → BranchListed (length table) b
  may_listed fs b (on_union x c parts lt h sh none) = tt
  may_listed fs b (on_filler x c n s e y lt h sh next none out) = most_listed short good c n s e sh
  may_listed fs b (on_pair x c n s e y z lt h sh many cy cz ne apart) = tt

  read_up : (f : Fact ℕ) → is_fact_listed (length table) f ≡ true
      → read_fact (tree_of table) f ≡ read_fact (tree_of (table ++ more)) f
  read_up (Has x c) h = ap (Has x) (sym (tree_of-append table more c (ltb-true c (length table) h)))
  read_up (Edge r x y) h = refl
  read_up (Apart x y) h = refl
  read_up (Same x y) h = refl

  still_listed : (f : Fact ℕ) → is_fact_listed (length table) f ≡ true
      → is_fact_listed (length (table ++ more)) f ≡ true
  still_listed (Has x c) h =
      lt-ltb c (length (table ++ more)) (omega (arith, ltb-true c (length table) h, length-append table more))
  still_listed (Edge r x y) h = refl
  still_listed (Apart x y) h = refl
  still_listed (Same x y) h = refl

  given_up : (f : Fact ℕ) → IsGiven short f → IsGiven long f
  given_up f h = record {
    axiom_number = h.axiom_number;
    place = h.place;
    is_there = h.is_there ∙ ap (λ (g : Fact Concept). Some g) (read_up f h.listed);
    listed = still_listed f h.listed;
    on_first = h.on_first;
  }

  -- ---- steps

  legal_up : (old new : List Item) → All (ItemListed (length table)) old → IsLegal short old new → IsLegal long old new
  legal_up old new h (add x d nc adds out) =
      let known = facts_listed (length table) old h in
      add x d (λ k. nc (plain_down (facts_of old) known k)) (adds_up (facts_of old) known x d adds) out
  legal_up old new h (give f nc given' out) =
      let known = facts_listed (length table) old h in
      give f (λ k. nc (plain_down (facts_of old) known k)) (given_up f given') out
  legal_up old new h (generate fs nc makes) =
      let known = facts_listed (length table) old h in
      generate fs (λ k. nc (plain_down (facts_of old) known k)) (generates_up (facts_of old) known fs makes)
  legal_up old new h (choose c f nc may one alt) =
      let known = facts_listed (length table) old h in
      choose c f (λ k. nc (plain_down (facts_of old) known k)) (may_up (facts_of old) known c.branch may) one
      (alternative_up c.branch 1 f (may_listed (facts_of old) c.branch may) alt)
  legal_up old new h (back place c f clash read alt) =
      let known = facts_listed (length table) old h in
      let about : BranchListed (length table) c.branch =
      (let g = All-get_or (ItemListed (length table)) old place (Mark c) (slice_get_within old place (Mark c) read) h in
      rw (get_or_from_slice_get old place (Mark c) (Mark c) read) at g) in
      back place c f (clash_up (facts_of old) known clash) read
      (alternative_up c.branch (c.alternative + 1) f about alt)

  row_up : (row : Row) → IsRowOf q.theory table row → IsRowOf q.theory (table ++ more) row
  row_up row h = record {
    part = h.part;
    is_there = h.is_there;
    listed = omega (arith, h.listed, length-append table more);
    is_right = h.is_right ∙ ap (λ (t : Concept). Some t) (sym (tree_of-append table more row.concept h.listed));
  }

  facts_up : FactsHaveNumbers q table → FactsHaveNumbers q (table ++ more)
  facts_up h a p f there =
      let n = h a p f there in
      record {
        fact = n.fact;
        reads = sym (read_up n.fact n.listed) ∙ n.reads;
        listed = still_listed n.fact n.listed;
        on_first = n.on_first;
      }

  module _ (fits : IsChoice q.theory table rows) where
    follows_up : (first : List Item) (k : ℕ) (trail : List Item) → All (ItemListed (length table)) first
        → Follows short first k trail → Follows long first k trail
    follows_up first zero trail h r = r
    follows_up first (suc k) trail h r = (
      r.0,
      follows_up first k r.0 h r.1,
      legal_up r.0 trail (follows_listed q table rows good fits first k r.0 h r.1) r.2,
    )

    choice_up : IsChoice q.theory (table ++ more) rows
    choice_up = record {
      rows_fit = All-weaker (IsRowOf q.theory table) (IsRowOf q.theory (table ++ more)) row_up rows fits.rows_fit;
      each_once = fits.each_once;
    }

pub reached_longer : (q : Question) (table more : List Shape) (rows : List Row) (k : ℕ) (trail : List Item)
    → IsReached q table rows k trail → IsTable (table ++ more) → IsReached q (table ++ more) rows k trail
reached_longer q table more rows k trail r good = record {
  is_table = good;
  is_choice = choice_up q table more rows r.is_table r.is_choice;
  facts_have_numbers = facts_up q table more rows r.is_table r.facts_have_numbers;
  at_first = r.at_first;
  sub_number = r.sub_number;
  sub_listed = omega (arith, r.sub_listed, length-append table more);
  sub_reads = tree_of-append table more r.sub_number r.sub_listed ∙ r.sub_reads;
  not_sup_number = r.not_sup_number;
  not_sup_listed = omega (arith, r.not_sup_listed, length-append table more);
  not_sup_reads = tree_of-append table more r.not_sup_number r.not_sup_listed ∙ r.not_sup_reads;
  follows = follows_up q table more rows r.is_table r.is_choice (start q.at r.sub_number r.not_sup_number) k trail
      (start_listed (length table) q.at r.sub_number r.not_sup_number r.sub_listed r.not_sup_listed) r.follows;
}

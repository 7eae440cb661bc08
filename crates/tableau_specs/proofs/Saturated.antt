-- A saturated trail has no clash: nodes that a rule line may count are all among the successors that a search counts.
use Rattle.std.proofs.Common.{◌≡◌, ℕ, zero, suc, ◌+◌, ◌<◌, ◌≤◌, ◌||◌, eqb, Bool, true, false, List, [], ◌∷◌, map}
use Rattle.std.proofs.Common.{length, refl, ap, ◌∙◌, sym, subst, arith, inl, inr, eq-eqb}
use Rattle.std.specs.List.{list_any, list_all, range_with_len, filter, All, AllPairs, Contains, IsDistinct}
use Rattle.std.specs.List.{AllByRecursion}
use Rattle.std.proofs.lemmas.List.{length-map}
use Rattle.std.proofs.lemmas.Bool.{eqb-true, or_cases, cases_Bool, and_parts}
use Rattle.std.proofs.lemmas.Bool.Decides.{nat_tests}
use Rattle.std.proofs.lemmas.Cmp.{nat_eq_equiv}
use Rattle.std.proofs.lemmas.List.FromFn.{length-range_with_len, get_or-range_with_len}
use Rattle.std.proofs.lemmas.List.Elements.{All-head, All-tail}
use Rattle.std.proofs.lemmas.List.Kept.{AllPairs-filter}
use Rattle.std.proofs.lemmas.Map.Made.{length-le_from_is_member}
use Rattle.std.proofs.lemmas.Map.Views.{any-filter_same}
use Rattle.calculus_specs.specs.declared.facts.Fact.{Fact}
use Rattle.calculus_specs.specs.declared.facts.Fact.TheVariants.{Same}
use Rattle.calculus_specs.specs.Joins.{rep}
use Rattle.calculus_specs.specs.State.{node_count_from, gives_concept, gives_edge, gives_apart, has, has_edge}
use Rattle.calculus_specs.specs.State.{is_successor, successors_from, are_apart, all_apart}
use Rattle.calculus_specs.proofs.Joined.{rep-le, rep-joined, joined-rep}
use Rattle.tableau_specs.specs.declared.Branch.TheVariants.{Pair}
use Rattle.tableau_specs.specs.declared.Item.{Item}
use Rattle.tableau_specs.specs.Items.{facts_of}
use Rattle.tableau_specs.specs.Clash.{filled_successors}
use Rattle.tableau_specs.specs.Clash.IsClash.{of_bottom, of_names, of_most, of_differ}
use Rattle.tableau_specs.specs.Clash.IsPlainClash.{plain_bottom, plain_names, plain_most, plain_differ}
use Rattle.tableau_specs.proofs.PlainClash.{FilledSuccessor, all_filled_parts}
use Rattle.tableau_specs.specs.Steps.{SearchContext, below_of, IsSaturated, HasClash}
use Rattle.tableau_specs.specs.Steps.MayBranch.{on_pair}
use Rattle.tableau_specs.specs.Steps.IsAlternative.{of_joining}
use Rattle.tableau_specs.specs.Reached.{start, Follows}
use Rattle.tableau_specs.proofs.Reached.{not_apart_itself}

-- ---- the representatives of nodes that are pairwise apart are different

all_false : (p : ℕ → Bool) (m : ℕ → ℕ) (a : ℕ) (ys : List ℕ) → ((y : ℕ) → p y ≡ true → eqb a (m y) ≡ false)
    → list_all p ys ≡ true → AllByRecursion (λ z. eqb a z ≡ false) (map m ys)
all_false p m a [] imp h = tt
all_false p m a (y ∷ ys) imp h = let t = and_parts (p y) (list_all p ys) h in (imp y t.0, all_false p m a ys imp t.1)

-- no node is apart from itself
abbrev NoneApartFromItself : List (Fact ℕ) → Type 0
NoneApartFromItself fs = (x : ℕ) → are_apart fs x x ≡ false

reps_differ : (fs : List (Fact ℕ)) → NoneApartFromItself fs → (y z : ℕ) → are_apart fs y z ≡ true
    → eqb (rep fs y) (rep fs z) ≡ false
reps_differ fs g y z h = elim (cases_Bool (eqb (rep fs y) (rep fs z))) [
  | inr ne ↦ ne
  | inl eq ↦
      let e = eqb-true (rep fs y) (rep fs z) eq in
      let same : are_apart fs y y ≡ true = ap (λ (a : ℕ). list_any (gives_apart (rep fs) (rep fs y) a) fs) e ∙ h in
      let none = g y in
      cc
]

distinct_reps : (fs : List (Fact ℕ)) → NoneApartFromItself fs → (ys : List ℕ) → all_apart fs ys ≡ true
    → IsDistinct eqb (map (rep fs) ys)
unfolding IsDistinct
distinct_reps fs g [] h = tt
distinct_reps fs g (y ∷ ys) h =
    let t = and_parts (list_all (are_apart fs y) ys) (all_apart fs ys) h in
    (all_false (are_apart fs y) (rep fs) (rep fs y) ys (reps_differ fs g y) t.0, distinct_reps fs g ys t.1)

-- ---- the representative of a successor with the filler is counted

rep-rep : (fs : List (Fact ℕ)) (y : ℕ) → rep fs (rep fs y) ≡ rep fs y
rep-rep fs y = sym (rep-joined fs y (rep fs y) (joined-rep fs y))

not_first : (z a : ℕ) → a ≤ z → eqb z a ≡ false → a + 1 ≤ z
not_first z a le miss = grind (arith, nat_tests)

range_ascending : (n : ℕ) → AllPairs (λ y z. y < z) (range_with_len 0 n)
range_ascending n i j d lt mt =
    omega (
      arith,
      lt,
      get_or-range_with_len 0 n i d (omega (arith, mt, length-range_with_len 0 n)),
      get_or-range_with_len 0 n j d (omega (arith, mt, length-range_with_len 0 n)),
    )

pub in_range : (z a n : ℕ) → a ≤ z → z < a + n → list_any (eqb z) (range_with_len a n) ≡ true
in_range z a zero le lt = absurd (omega arith)
in_range z a (suc n) le lt = elim (cases_Bool (eqb z a)) [
  | inl hit ↦ rw hit refl
  | inr miss ↦ rw miss (in_range z (a + 1) n (not_first z a le miss) (omega arith))
]

pub in_filter : (p : ℕ → Bool) (z : ℕ) (xs : List ℕ) → p z ≡ true → list_any (eqb z) xs ≡ true
    → list_any (eqb z) (filter p xs) ≡ true
in_filter p z xs h there = any-filter_same (eqb z) p true (λ k e. ap p (sym (eqb-true z k e)) ∙ h) xs ∙ there

module _ (w : SearchContext) (fs : List (Fact ℕ)) (x s e : ℕ) where
  abbrev counts : List ℕ
  counts = filled_successors w.first (below_of w) fs x s e

  pub filled_is_counted : (y : ℕ) → FilledSuccessor w.first (below_of w) fs x s e y
      → list_any (eqb (rep fs y)) counts ≡ true
  filled_is_counted y f =
      let z = rep fs y in
      let roles : ℕ → Bool = λ r. below_of w r s in
      let edge : has_edge fs roles x z ≡ true =
      ap (λ (a : ℕ). list_any (gives_edge roles (rep fs) (rep fs x) a) fs) (rep-rep fs y) ∙ f.edge in
      let next : is_successor fs roles x z ≡ true = rw (eq-eqb (rep fs z) z (rep-rep fs y)) edge in
      let holds : has fs z e ≡ true =
      ap (λ (a : ℕ). eqb e 0 || list_any (gives_concept (λ d. eqb d e) (rep fs) a) fs) (rep-rep fs y) ∙ f.holds in
      in_filter (λ v. has fs v e) z (successors_from w.first fs roles x) holds
      (in_filter (is_successor fs roles x) z (range_with_len 0 (node_count_from w.first fs)) next
      (in_range z 0 (node_count_from w.first fs) (omega arith) (omega (arith, rep-le fs y, f.is_node))))

  filled_are_counted : (q : ℕ) (ys : List ℕ) → All (FilledSuccessor w.first (below_of w) fs x s e) ys
      → list_any (eqb q) (map (rep fs) ys) ≡ true → list_any (eqb q) counts ≡ true
  filled_are_counted q [] all h = cc
  filled_are_counted q (y ∷ ys) all h =
      elim (or_cases (eqb q (rep fs y)) (list_any (eqb q) (map (rep fs) ys)) h) [
        | inl here ↦
            subst (λ (a : ℕ). list_any (eqb a) counts ≡ true) (sym (eqb-true q (rep fs y) here))
            (filled_is_counted y (All-head (FilledSuccessor w.first (below_of w) fs x s e) y ys all))
        | inr later ↦ filled_are_counted q ys (All-tail (FilledSuccessor w.first (below_of w) fs x s e) y ys all) later
      ]

  -- as many are counted as a rule line may name
  pub counted : NoneApartFromItself fs → (ys : List ℕ) → All (FilledSuccessor w.first (below_of w) fs x s e) ys
      → all_apart fs ys ≡ true → length ys ≤ length counts
  counted g ys all apart =
      omega (
        arith,
        length-map ys (rep fs),
        length-le_from_is_member nat_eq_equiv (map (rep fs) ys) counts (distinct_reps fs g ys apart)
            (λ q h. filled_are_counted q ys all h),
      )

  -- ---- the successors_from w.first that are counted are ascending

  ascending : AllPairs (λ y z. y < z) counts
  ascending =
      AllPairs-filter (λ y z. y < z) (λ v. has fs v e) (successors_from w.first fs (λ r. below_of w r s) x)
      (AllPairs-filter (λ y z. y < z) (is_successor fs (λ r. below_of w r s) x)
      (range_with_len 0 (node_count_from w.first fs)) (range_ascending (node_count_from w.first fs)))

-- ---- two that are not apart

record NotApart (fs : List (Fact ℕ)) (ys : List ℕ) : Type 0 where
  one : ℕ
  other : ℕ
  has_one : Contains ys one
  has_other : Contains ys other
  less : one < other
  not_apart : are_apart fs one other ≡ false

record Fails (p : ℕ → Bool) (ys : List ℕ) : Type 0 where
  at : ℕ
  is_in : Contains ys at
  fails : p at ≡ false

contains_more : (y v : ℕ) (ys : List ℕ) → Contains ys v → Contains (y ∷ ys) v
contains_more y v ys c = (suc c.0, omega (arith, c.1), c.2)

failing : (p : ℕ → Bool) (ys : List ℕ) → list_all p ys ≡ false → Fails p ys
failing p [] h = cc
failing p (y ∷ ys) h = elim (cases_Bool (p y)) [
  | inr bad ↦ record { at = y; is_in = (0, omega arith, refl); fails = bad }
  | inl ok ↦
      let r = failing p ys (rw ok at h) in
      record { at = r.at; is_in = contains_more y r.at ys r.is_in; fails = r.fails }
]

pairs_tail : (y : ℕ) (ys : List ℕ) → AllPairs (λ a b. a < b) (y ∷ ys) → AllPairs (λ a b. a < b) ys
pairs_tail y ys h i j d lt mt = h (suc i) (suc j) d (omega (arith, lt)) (omega (arith, mt))

pairs_head : (y v : ℕ) (ys : List ℕ) → AllPairs (λ a b. a < b) (y ∷ ys) → Contains ys v → y < v
pairs_head y v ys h c = let k = h 0 (suc c.0) v (omega arith) (omega (arith, c.1)) in subst (λ (b : ℕ). y < b) c.2 k

unapart : (fs : List (Fact ℕ)) (ys : List ℕ) → AllPairs (λ a b. a < b) ys → all_apart fs ys ≡ false → NotApart fs ys
unapart fs [] h f = cc
unapart fs (y ∷ ys) h f = elim (cases_Bool (list_all (are_apart fs y) ys)) [
  | inr bad ↦
      let r = failing (are_apart fs y) ys bad in
      record {
        one = y;
        other = r.at;
        has_one = (0, omega arith, refl);
        has_other = contains_more y r.at ys r.is_in;
        less = pairs_head y r.at ys h r.is_in;
        not_apart = r.fails;
      }
  | inl ok ↦
      let r = unapart fs ys (pairs_tail y ys h) (rw ok at f) in
      record {
        one = r.one;
        other = r.other;
        has_one = contains_more y r.one ys r.has_one;
        has_other = contains_more y r.other ys r.has_other;
        less = r.less;
        not_apart = r.not_apart;
      }
]

-- ---- the law

clear : (w : SearchContext) (trail : List Item) → NoneApartFromItself (facts_of trail) → IsSaturated w trail
    → ¬ HasClash w trail
clear w trail g sat (of_bottom x c lt h sh) = sat.no_clash (plain_bottom x c lt h sh)
clear w trail g sat (of_names x c d a lt h sh k th) = sat.no_clash (plain_names x c d a lt h sh k th)
clear w trail g sat (of_differ y z lt mt apart same) = sat.no_clash (plain_differ y z lt mt apart same)
clear w trail g sat (of_most x c n s e ys lt h sh len all apart) =
    let fs = facts_of trail in
    let more : n < length (filled_successors w.first (below_of w) fs x s e) =
    omega (arith, len, counted w fs x s e g ys (all_filled_parts w.first (below_of w) fs x s e ys all) apart) in
    elim (cases_Bool (all_apart fs (filled_successors w.first (below_of w) fs x s e))) [
      | inl every ↦ sat.no_clash (plain_most x c n s e lt h sh more every)
      | inr some ↦
          let r = unapart fs (filled_successors w.first (below_of w) fs x s e) (ascending w fs x s e) some in
          sat.no_choose (Pair r.one r.other) (Same r.one r.other)
          (on_pair x c n s e r.one r.other lt h sh more r.has_one r.has_other (λ k. absurd (omega (arith, k, r.less)))
          r.not_apart)
          (of_joining r.one r.other)
    ]

pub saturated_clear : (w : SearchContext) (at sub not_sup k : ℕ) (trail : List Item) → at < w.first
    → Follows w (start at sub not_sup) k trail → IsSaturated w trail → ¬ HasClash w trail
saturated_clear w at sub not_sup k trail lt r sat =
    clear w trail (not_apart_itself w at sub not_sup k trail lt r (inl sat.no_clash)) sat

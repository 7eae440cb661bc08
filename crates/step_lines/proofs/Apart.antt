-- Nodes that are apart by facts of few marks are known by facts of these marks.
use Rattle.std.proofs.Common.{◌≡◌, ℕ, ◌&&◌, ◌⊎◌, eqb, Bool, true, List, [], ◌∷◌, refl, ◌∙◌, sym, subst, inl, inr}
use Rattle.std.specs.List.{list_any, list_all}
use Rattle.std.proofs.lemmas.Bool.{and_parts, or_cases, eqb-true}
use Rattle.lane_sieve.specs.Sets.{NumberSet}
use Rattle.calculus_specs.specs.declared.facts.Fact.{Fact}
use Rattle.calculus_specs.specs.declared.facts.Fact.TheVariants.{Has, Edge, Apart, Same}
use Rattle.calculus_specs.specs.Joins.{rep, joins, IsJoined}
use Rattle.calculus_specs.specs.Joins.IsJoined.{itself, by_fact}
use Rattle.calculus_specs.specs.State.{gives_apart, are_apart}
use Rattle.calculus_specs.proofs.Joined.{joined-rep, joined_on, joined_back}
use Rattle.search_trace.specs.Noted.{is_within, within}
use Rattle.search_trace.specs.Trail.{MarkedFact}
use Rattle.search_trace.specs.Grounded.{named, is_known_within, is_grounded, AreGrounded}
use Rattle.search_trace.proofs.Among.{any_within}
use Rattle.step_lines.proofs.Going.{all_implies, wider}

module _ (first : ℕ) (u : NumberSet) (ms : List MarkedFact) (grounded : AreGrounded first ms) where
  abbrev known : ℕ → Bool
  known = is_known_within first u ms

  -- a fact that passes, and whose nodes are known
  record Found (p : Fact ℕ → Bool) : Type 0 where
    fact : Fact ℕ
    passes : p fact ≡ true
    are_known : list_all known (named fact) ≡ true

  find_in : (p : Fact ℕ → Bool) (xs : List MarkedFact) → list_all (is_grounded first ms) xs ≡ true
      → list_any (λ m. is_within u m && p m.item) xs ≡ true → Found p
  find_in p [] h any = cc
  find_in p (m ∷ xs) h any =
      let b = and_parts (is_grounded first ms m) (list_all (is_grounded first ms) xs) h in
      elim (or_cases (is_within u m && p m.item) (list_any (λ n. is_within u n && p n.item) xs) any) [
        | inl here ↦
            let c = and_parts (is_within u m) (p m.item) here in
            record {
              fact = m.item;
              passes = c.1;
              are_known =
                  all_implies (is_known_within first m.marks ms) known (wider first m.marks u c.0 ms) (named m.item)
                  b.0;
            }
        | inr later ↦ find_in p xs b.1 later
      ]

  found : (p : Fact ℕ → Bool) → list_any p (within u ms) ≡ true → Found p
  found p any = find_in p ms grounded (sym (any_within u p ms) ∙ any)

  first_known : (x : ℕ) (xs : List ℕ) → list_all known (x ∷ xs) ≡ true → known x ≡ true
  first_known x xs h = (and_parts (known x) (list_all known xs) h).0

  second_known : (x y : ℕ) → list_all known (x ∷ y ∷ []) ≡ true → known y ≡ true
  second_known x y h = first_known y [] (and_parts (known x) (list_all known (y ∷ [])) h).1

  same_known : (y z : ℕ) (f : Fact ℕ) → joins y z f ≡ true → list_all known (named f) ≡ true → known y ≡ true
  same_known y z (Same v w) h k = elim (or_cases (eqb v y && eqb w z) (eqb v z && eqb w y) h) [
    | inl a ↦
        subst (λ (n : ℕ). known n ≡ true) (eqb-true v y (and_parts (eqb v y) (eqb w z) a).0) (first_known v (w ∷ []) k)
    | inr a ↦ subst (λ (n : ℕ). known n ≡ true) (eqb-true w y (and_parts (eqb v z) (eqb w y) a).1) (second_known v w k)
  ]
  same_known y z (Has v c) h k = cc
  same_known y z (Edge r v w) h k = cc
  same_known y z (Apart v w) h k = cc

  -- a node that is joined to another is that one, or is known
  joined_known : (x y : ℕ) → IsJoined (within u ms) x y → (x ≡ y) ⊎ (known x ≡ true)
  joined_known x x' (itself y) = inl refl
  joined_known x x' (by_fact a b c any h) = elim (joined_known a b h) [
    | inl same ↦
        let f = found (joins b c) any in
        inr (subst (λ (n : ℕ). known n ≡ true) (sym same) (same_known b c f.fact f.passes f.are_known))
    | inr is ↦ inr is
  ]

  -- a node with the representative of a known node is known
  rep_known : (x y : ℕ) → eqb (rep (within u ms) y) (rep (within u ms) x) ≡ true → known y ≡ true → known x ≡ true
  rep_known x y h is =
      let fs = within u ms in
      let to-x : IsJoined fs y (rep fs x) =
      subst (IsJoined fs y) (eqb-true (rep fs y) (rep fs x) h) (joined-rep fs y) in
      let joined : IsJoined fs x y =
      joined_back fs y x (joined_on fs y (rep fs x) x to-x (joined_back fs x (rep fs x) (joined-rep fs x))) in
      elim (joined_known x y joined)
      [ inl same ↦ subst (λ (n : ℕ). known n ≡ true) (sym same) is | inr known_x ↦ known_x ]

  both_known : (x y : ℕ) (f : Fact ℕ)
      → gives_apart (rep (within u ms)) (rep (within u ms) x) (rep (within u ms) y) f ≡ true
      → list_all known (named f) ≡ true → (known x ≡ true) × (known y ≡ true)
  both_known x y (Apart v w) h k =
      let m = rep (within u ms) in
      elim (or_cases (eqb (m v) (m x) && eqb (m w) (m y)) (eqb (m v) (m y) && eqb (m w) (m x)) h) [
        | inl a ↦
            let b = and_parts (eqb (m v) (m x)) (eqb (m w) (m y)) a in
            (rep_known x v b.0 (first_known v (w ∷ []) k), rep_known y w b.1 (second_known v w k))
        | inr a ↦
            let b = and_parts (eqb (m v) (m y)) (eqb (m w) (m x)) a in
            (rep_known x w b.1 (second_known v w k), rep_known y v b.0 (first_known v (w ∷ []) k))
      ]
  both_known x y (Has v c) h k = cc
  both_known x y (Edge r v w) h k = cc
  both_known x y (Same v w) h k = cc

  -- the nodes that are apart are known
  pub apart_is_known : (x y : ℕ) → are_apart (within u ms) x y ≡ true → (known x ≡ true) × (known y ≡ true)
  apart_is_known x y h =
      let f = found (gives_apart (rep (within u ms)) (rep (within u ms) x) (rep (within u ms) y)) h in
      both_known x y f.fact f.passes f.are_known

-- Which axioms are named, and the part that a number of an axiom and one of a part find.
use Rattle.std.proofs.Common.{◌≡◌, ℕ, ◌+◌, ◌-◌, ◌<◌, ◌≤◌, ◌&&◌, ◌⊎◌, Bool, true, false, cond, ltb, leb, List, length}
use Rattle.std.proofs.Common.{Option, Some, None, refl, ap, subst, sym, ◌∙◌, arith, inl, inr}
use Rattle.std.specs.Prelude.{All, IsTrue, slice_get}
use Rattle.std.specs.FinSet as sets
use Rattle.std.proofs.lemmas.Bool.{le-leb, lt-leb, lt-ltb, cases_Bool, and_left, and_right}
use Rattle.std.proofs.lemmas.List.Elements.{All-get_or}
use Rattle.std.proofs.lemmas.Option.{slice_get_within, get_or_from_slice_get}
use Rattle.std.proofs.Math.Bool.{and-true}
use Rattle.axiom_sets.proofs.Ranges.{any-passing}
use Rattle.axiom_sets.specs.Sets.{Limited, IsWithin, member_list}
use Rattle.refutation_truth.specs.Numbered.{Numbered}
use Rattle.refutation_truth.specs.Shape.{Shape}
use Rattle.refutation_truth.specs.TheoryRows.{Part, is_among, part_at}
use Rattle.refutation_truth.specs.Part.{Part as Kept}
use Rattle.refutation_truth.specs.Parts.{StandsForPart, axiom_parts, axiom_has_counts_within, part_in}
use Rattle.refutation_truth.specs.Theory.{theory_of, parts_in, parts_at}
use Rattle.refutation_truth.proofs.NumberedParts.{numbered}
use Rattle.row_cache.specs.Rows.{AreInLimit, IsPartFound}

-- ---- the numbers of a set

pub among_members : (s : Limited) (a : ℕ) → 1 ≤ a → a ≤ s.limit → sets.contains s.members a ≡ is_among (member_list s) a
among_members s a low high =
    let p = sets.contains s.members in
    let within : (leb 0 a && ltb a (0 + (s.limit + 1))) ≡ true =
    rw (le-leb 0 a (omega arith), lt-ltb a (0 + (s.limit + 1)) (omega arith)) refl in
    sym (any-passing p 0 (s.limit + 1) a ∙ ap (λ (b : Bool). p a && b) within ∙ and-true (p a))

pub no_member : (s : Limited) (a : ℕ) → IsWithin s.limit s.members → (a < 1) ⊎ (s.limit < a)
    → false ≡ is_among (member_list s) a
no_member s a within outside =
    let p = sets.contains s.members in
    let none : p a ≡ false = elim (cases_Bool (p a)) [
      | inr f ↦ f
      | inl t ↦ elim outside
          [ inl lt ↦ absurd (omega (arith, (within a t).0)) | inr gt ↦ absurd (omega (arith, (within a t).1)) ]
    ] in
    sym (any-passing p 0 (s.limit + 1) a ∙ ap (λ (b : Bool). b && (leb 0 a && ltb a (0 + (s.limit + 1)))) none)

-- ---- the axiom of a number

-- what all axioms have, the axiom of a number has
all_have : (P : Numbered → Type 0) (axioms : List Numbered) (i : ℕ) (n : Numbered) → All P axioms
    → Some n ≡ slice_get axioms i → P n
all_have P axioms i n h e =
    subst P (get_or_from_slice_get axioms i n n (sym e))
    (All-get_or P axioms i n (slice_get_within axioms i n (sym e)) h)

pub axiom_in_limit : (axioms : List Numbered) (i : ℕ) (n : Numbered) → AreInLimit axioms → Some n ≡ slice_get axioms i
    → IsTrue (axiom_has_counts_within 100 n.axiom) × (length (axiom_parts n.axiom) ≤ 500000)
axiom_in_limit axioms i n h e =
    all_have (λ m. IsTrue (axiom_has_counts_within 100 m.axiom) × (length (axiom_parts m.axiom) ≤ 500000)) axioms i n h
    e

module _ (axioms : List Numbered) (ks : List ℕ) (a p : ℕ) (table : List Shape) where
  abbrev found : Option Part
  found = part_at (theory_of axioms ks) a p

  abbrev by_tests : Bool → Bool → List Part → Option Part
  by_tests named low parts = cond (named && low && leb p (length parts)) (Some (part_in parts (p - 1))) None

  pub not_named : false ≡ is_among ks a → IsPartFound table found None
  not_named h =
      let none : found ≡ None =
      numbered axioms ks a p ∙ ap (λ (b : Bool). by_tests b (leb 1 p) (parts_at axioms a)) (sym h) in
      subst (λ (o : Option Part). IsPartFound table o None) (sym none) tt

  pub no_part : (n : Numbered) → Some n ≡ slice_get axioms (a - 1) → (p < 1) ⊎ (length (axiom_parts n.axiom) < p)
      → IsPartFound table found None
  no_part n at outside =
      let parts : parts_at axioms a ≡ axiom_parts n.axiom = ap parts_in (sym at) in
      let count = length (axiom_parts n.axiom) in
      let test : (is_among ks a && leb 1 p && leb p count) ≡ false = elim outside [
        | inl lt ↦
            and_left (is_among ks a && leb 1 p) (leb p count) (and_right (is_among ks a) (leb 1 p) (lt-leb 1 p lt))
        | inr gt ↦ and_right (is_among ks a && leb 1 p) (leb p count) (lt-leb p count gt)
      ] in
      let none : found ≡ None =
      numbered axioms ks a p ∙ ap (by_tests (is_among ks a) (leb 1 p)) parts
      ∙ ap (λ (b : Bool). cond b (Some (part_in (axiom_parts n.axiom) (p - 1))) None) test in
      subst (λ (o : Option Part). IsPartFound table o None) (sym none) tt

  pub part_there : (n : Numbered) (k : Kept) → Some n ≡ slice_get axioms (a - 1) → true ≡ is_among ks a → 1 ≤ p
      → p ≤ length (axiom_parts n.axiom) → StandsForPart table k (part_in (axiom_parts n.axiom) (p - 1))
      → IsPartFound table found (Some k)
  part_there n k at named low high is =
      let parts : parts_at axioms a ≡ axiom_parts n.axiom = ap parts_in (sym at) in
      let test : (is_among ks a && leb 1 p && leb p (length (axiom_parts n.axiom))) ≡ true =
      rw (sym named, le-leb 1 p low, le-leb p (length (axiom_parts n.axiom)) high) refl in
      let there : found ≡ Some (part_in (axiom_parts n.axiom) (p - 1)) =
      numbered axioms ks a p ∙ ap (by_tests (is_among ks a) (leb 1 p)) parts
      ∙ ap (λ (b : Bool). cond b (Some (part_in (axiom_parts n.axiom) (p - 1))) None) test in
      subst (λ (o : Option Part). IsPartFound table o (Some k)) (sym there) is

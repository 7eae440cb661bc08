-- Whether a class of a set has no other class of the set below it.
use Rattle.std.proofs.Common.{◌≡◌, ℕ, ◌+◌, ◌-◌, ◌<◌, ◌&&◌, ◌||◌, not, Bool, true, false, eqb, refl, sym, ap, ◌∙◌, arith}
use Rattle.std.proofs.Common.{inl, inr}
use Rattle.std.specs.Prelude.{◌↔◌, IsTrue}
use Rattle.std.specs.FinSet as set
use Rattle.std.proofs.lemmas.Bool.{cases_Bool, cases_lt, and_parts, and_from, eqb-true, true≢false}
use Rattle.lane_sieve.specs.Sets.{NumberSet, DoMeet}
use Rattle.axiom_sets.specs.Sets.{Limited, IsWithin}
use Rattle.shq_meaning.specs.Below.{all_below}
use Rattle.shq_meaning.proofs.Below.{all_below-false}
use Rattle.subsumption.specs.ClassSets.{has_class, HoldsClasses}
use Rattle.subsumption.specs.Groups.{Parthood}
use Rattle.subsumption.proofs.Passing.{all_below_true}
use Rattle.subsumption.proofs.Members.{put_in, taken_out}

module _ (count class : ℕ) (r : Parthood) (s b t : Limited) (within : IsWithin b.limit b.members)
    (only : HoldsClasses count (has_class s) s)
    (below : (x : ℕ) → x < count + 2 → set.contains b.members (x + 1) ≡ r x class)
    (taken : t.members ≡ set.remove s.members (class + 1)) where
  -- another class of the set lies below
  abbrev lies_below : ℕ → Bool
  lies_below x = has_class s x && (not (eqb x class) && r x class)

  left : (x : ℕ) → has_class t x ≡ (not (eqb x class) && has_class s x)
  left x = ap (λ (m : NumberSet). set.contains m (x + 1)) taken ∙ taken_out s.members class x

  -- the two sets meet in such a one
  meets_there : (x : ℕ) → x < count → lies_below x ≡ true → DoMeet b.members t.members
  meets_there x lt h =
      let outer = and_parts (has_class s x) (not (eqb x class) && r x class) h in
      let inner = and_parts (not (eqb x class)) (r x class) outer.1 in (
        x + 1,
        below x (omega arith) ∙ inner.1,
        left x ∙ and_from (not (eqb x class)) (has_class s x) inner.0 outer.0,
      )

  lies_where : (x : ℕ) → set.contains b.members (x + 1) ≡ true → has_class t x ≡ true
      → (x < count) × (lies_below x ≡ true)
  lies_where x in_below in_left =
      let both = and_parts (not (eqb x class)) (has_class s x) (sym (left x) ∙ in_left) in
      elim (cases_lt x count) [
        | inr ge ↦ absurd (true≢false (sym both.1 ∙ only.outside x ge))
        | inl lt ↦ (
          lt,
          and_from (has_class s x) (not (eqb x class) && r x class) both.1
              (and_from (not (eqb x class)) (r x class) both.0 (sym (below x (omega arith)) ∙ in_below)),
        )
      ]

  meets_only_there : DoMeet b.members t.members → (x : ℕ) × (x < count) × (lies_below x ≡ true)
  meets_only_there (k, in_below, in_left) =
      let e : k - 1 + 1 ≡ k = omega (arith, (within k in_below).0) in
      let found =
      lies_where (k - 1) (ap (set.contains b.members) e ∙ in_below) (ap (set.contains t.members) e ∙ in_left) in
      (k - 1, found.0, found.1)

  pub lowest_where_apart : (m : Bool) → (IsTrue m ↔ DoMeet b.members t.members)
      → not m ≡ all_below count (λ x. not (lies_below x))
  lowest_where_apart true says =
      let found = meets_only_there (says.0 refl) in
      sym (all_below-false count (λ x. not (lies_below x)) found.0 found.1 (ap not found.2))
  lowest_where_apart false says =
      sym (all_below_true count (λ x. not (lies_below x)) (λ x lt. elim (cases_Bool (lies_below x)) [
        | inl h ↦ absurd (true≢false (sym (says.1 (meets_there x lt h))))
        | inr f ↦ ap not f
      ]))

  put_and_left : (u v w : Bool) → (u ≡ true → w ≡ true) → v ≡ (not u && w) → (v || (u && true)) ≡ w
  put_and_left true true w h e = sym (h refl)
  put_and_left true false w h e = sym (h refl)
  put_and_left false true w h e = e
  put_and_left false false w h e = e

  -- and when it is put back, the set is as before
  pub put_back : (u : Limited) → has_class s class ≡ true → u.members ≡ set.insert t.members (class + 1) → (x : ℕ)
      → has_class u x ≡ has_class s x
  put_back u member is x =
      ap (λ (m : NumberSet). set.contains m (x + 1)) is
      ∙ put_in t.members class x
      ∙ put_and_left (eqb x class) (has_class t x) (has_class s x) (λ e. ap (has_class s) (eqb-true x class e) ∙ member)
      (left x)

-- The axioms of a set of numbers are those whose numbers are in the set.
use Rattle.std.proofs.Common.{◌≡◌, ℕ, zero, suc, ◌+◌, ◌-◌, ◌<◌, ◌≤◌, Bool, true, false, List, [], ◌∷◌, ◌++◌, map}
use Rattle.std.proofs.Common.{length, drop, Option, Some, refl, ap, sym, subst, ◌∙◌, arith, add-one}
use Rattle.std.specs.Prelude.{slice_get, if◌then◌else◌, nat_le, ◌&&◌}
use Rattle.std.specs.FinSet as set
use Rattle.std.proofs.lemmas.Bool.Decides.{nat_tests}
use Rattle.pinpointing_specs.specs.NumberSets.{NumberSet, passing}
use Rattle.pinpointing_specs.proofs.Ranges.{passing_none, passing_take, passing_skip}
use Rattle.pinpointing_specs.specs.Sets.{Limited, IsWithin, member_list}
use Rattle.shq_terms.specs.Listed.{Listed}
use Rattle.shq_terms.specs.declared.axioms.Axiom.{Axiom}
use Rattle.shq_terms.specs.declared.axioms.Numbered.{Numbered}
use Rattle.pinpointing_specs.specs.Truth.{Entails}
use Rattle.pinpointing_specs.specs.LocalModule.{axioms_from, axioms_in_set}
use Rattle.pinpointing_specs.proofs.Grown.{grows}
use Rattle.refutation_truth.specs.Theory.{axioms_in, named_axioms}
use Rattle.run_log.specs.HonestLog.{IsAxiomSet, IsWhole, axioms_of}
use Rattle.run_log.specs.Laws.{SetsAreNamed, WholeIsAll, FollowsInMore}

-- ---- what stands at a place

get_at : (A : List Numbered) (k : ℕ) (a : Numbered) (rest : List Numbered) → drop k A ≡ a ∷ rest
    → slice_get A k ≡ Some a
get_at A zero a rest e = ap (λ (xs : List Numbered). slice_get xs 0) e
get_at [] (suc k) a rest e = cc
get_at (x ∷ xs) (suc k) a rest e = get_at xs k a rest e

rest_at : (A : List Numbered) (k : ℕ) (a : Numbered) (rest : List Numbered) → drop k A ≡ a ∷ rest
    → drop (suc k) A ≡ rest
rest_at A zero a rest e = ap (drop 1) e
rest_at [] (suc k) a rest e = cc
rest_at (x ∷ xs) (suc k) a rest e = rest_at xs k a rest e

-- ---- from a number on

module _ (A : List Numbered) (s : NumberSet) where
  abbrev named_from_on : ℕ → ℕ → List Axiom
  named_from_on first count = named_axioms A (passing (set.contains s) first count)

  -- one axiom more in front
  by_first : (a : Numbered) (rest : List Numbered) (k : ℕ) → slice_get A (k + 1 - 1) ≡ Some a
      → named_from_on (k + 1 + 1) (length rest) ≡ axioms_from (k + 1 + 1) s rest
      → (b : Bool) → set.contains s (k + 1) ≡ b
      → named_from_on (k + 1) (suc (length rest)) ≡ axioms_from (k + 1) s (a ∷ rest)
  by_first a rest k at after true h =
      ap (named_axioms A) (passing_take (set.contains s) (k + 1) (length rest) h)
      ∙ ap (λ (o : Option Numbered). axioms_in o ++ named_from_on (k + 1 + 1) (length rest)) at
      ∙ ap (λ (xs : List Axiom). a.axiom ∷ xs) after
      ∙ sym
      (ap (λ (b : Bool). if b then a.axiom ∷ axioms_from (k + 1 + 1) s rest else axioms_from (k + 1 + 1) s rest) h)
  by_first a rest k at after false h =
      ap (named_axioms A) (passing_skip (set.contains s) (k + 1) (length rest) h)
      ∙ after
      ∙ sym
      (ap (λ (b : Bool). if b then a.axiom ∷ axioms_from (k + 1 + 1) s rest else axioms_from (k + 1 + 1) s rest) h)

  pub named_from : (rest : List Numbered) (k : ℕ) → drop k A ≡ rest
      → named_from_on (k + 1) (length rest) ≡ axioms_from (k + 1) s rest
  named_from [] k e =
      ap (named_axioms A) (passing_none (set.contains s) (k + 1) 0 (λ j le lt. absurd (omega (arith, le, lt))))
  named_from (a ∷ rest) k e =
      let m : k + 1 - 1 ≡ k = omega arith in
      let at : slice_get A (k + 1 - 1) ≡ Some a = ap (slice_get A) m ∙ get_at A k a rest e in
      let after : drop (k + 1) A ≡ rest = ap (λ (n : ℕ). drop n A) (add-one k) ∙ rest_at A k a rest e in
      by_first a rest k at (named_from rest (k + 1) after) (set.contains s (k + 1)) refl

-- ---- a set

lacks_zero : (limit : ℕ) (s : NumberSet) → IsWithin limit s → set.contains s 0 ≡ false
lacks_zero limit s within = by (set.contains s 0) refl
  where
    by : (b : Bool) → set.contains s 0 ≡ b → b ≡ false
    by true h = let k = within 0 h in absurd (omega (arith, k.0))
    by false h = refl

pub axioms_are : (o : Listed) (s : Limited) → IsAxiomSet o s → axioms_of o s ≡ axioms_in_set s.members o.axioms
axioms_are o s is =
    let members : member_list s ≡ passing (set.contains s.members) 1 (length o.axioms) =
    ap (passing (set.contains s.members) 0) (add-one s.limit)
    ∙ passing_skip (set.contains s.members) 0 s.limit (lacks_zero s.limit s.members is.within)
    ∙ ap (passing (set.contains s.members) 1) is.limit_is in
    ap (named_axioms o.axioms) members ∙ named_from o.axioms s.members o.axioms 0 refl

pub follows_from : SetsAreNamed
follows_from o s q is = (
  λ h. subst (λ (as_ : List Axiom). Entails as_ q) (axioms_are o s is) h,
  λ h. subst (λ (as_ : List Axiom). Entails as_ q) (sym (axioms_are o s is)) h,
)

pub more : FollowsInMore
more o s t q is it part h =
    (follows_from o t q it).1 (grows o.axioms q s.members t.members part ((follows_from o s q is).0 h))

-- ---- all of them

pub whole_is_set : (o : Listed) (s : Limited) → IsWhole o s → IsAxiomSet o s
whole_is_set o s is = record {
  limit_is = is.limit_is;
  within = λ k h. let m : (nat_le 1 k && nat_le k (length o.axioms)) ≡ true = sym (is.is_full k) ∙ h in
      let a : 1 ≤ k = grind (arith, nat_tests) in
      let b : k ≤ length o.axioms = grind (arith, nat_tests) in
      (a, omega (arith, b, is.limit_is));
}

all_from : (s : NumberSet) (k : ℕ) (rest : List Numbered)
    → ((j : ℕ) → k ≤ j → j < k + length rest → set.contains s j ≡ true) → axioms_from k s rest ≡ map (λ n. n.axiom) rest
all_from s k [] all = refl
all_from s k (a ∷ rest) all =
    ap (λ (b : Bool). if b then a.axiom ∷ axioms_from (k + 1) s rest else axioms_from (k + 1) s rest)
    (all k (omega arith) (omega arith))
    ∙ ap (λ (xs : List Axiom). a.axiom ∷ xs)
    (all_from s (k + 1) rest (λ j le lt. all j (omega (arith, le)) (omega (arith, lt))))

pub whole : WholeIsAll
whole o s is =
    axioms_are o s (whole_is_set o s is)
    ∙ all_from s.members 1 o.axioms (λ j le lt.
    let m : (nat_le 1 j && nat_le j (length o.axioms)) ≡ true = grind (arith, nat_tests) in
    is.is_full j ∙ m)

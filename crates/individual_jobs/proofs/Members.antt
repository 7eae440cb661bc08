-- An individual is an instance exactly where some justification of that was found.
use Rattle.std.proofs.Common.{◌≡◌, ℕ, zero, suc, ◌+◌, ◌≤◌, ◌&&◌, Bool, true, false, List, [], ◌∷◌, length, refl, sym}
use Rattle.std.proofs.Common.{◌∙◌, subst, arith, inl, inr, eq-eqb}
use Rattle.std.specs.Prelude.{◌↔◌, nat_le}
use Rattle.std.specs.List.{Contains}
use Rattle.std.specs.FinSet as set
use Rattle.std.specs.Ordering.{nat_cmp}
use Rattle.std.proofs.lemmas.Bool.{cases_Bool, cases_eq, ne_eqb, true≢false}
use Rattle.std.proofs.lemmas.Bool.Decides.{nat_tests}
use Rattle.lane_sieve.proofs.Bits.{contains_insert}
use Rattle.axiom_sets.specs.Sets.{Limited}
use Rattle.pinpointing_specs.specs.Smallest.{numbers_to, rest, IsExplored}
use Rattle.pinpointing_specs.specs.LocalModule.{FollowsFrom, axioms_in_set, of_axioms}
use Rattle.pinpointing_specs.proofs.Choices.{in_numbers_to, to_rest}
use Rattle.pinpointing_specs.proofs.Grown.{grows}
use Rattle.shq_terms.specs.Listed.{Listed}
use Rattle.shq_terms.specs.declared.axioms.Axiom.{Axiom}
use Rattle.shq_terms.specs.declared.axioms.Query.{Query}
use Rattle.shq_meaning.specs.Truth.{Entails}
use Rattle.realizer.specs.Theory.{all_axioms}
use Rattle.realizer.specs.HonestLog.{IsWhole, IsJustificationSet}
use Rattle.realizer.proofs.Named.{axioms_are, whole_is_set, whole}

-- ---- the set of all axioms

numbers_full : (n k : ℕ) → set.contains (numbers_to n) k ≡ (nat_le 1 k && nat_le k n)
unfolding numbers_to
numbers_full zero k =
    let none : (nat_le 1 k && nat_le k 0) ≡ false = grind (arith, nat_tests) in set.contains-empty nat_cmp k ∙ sym none
numbers_full (suc n) k =
    contains_insert (numbers_to n) (n + 1) k
    ∙ (elim (cases_eq k (n + 1)) [
      | inl e ↦
          let in_it : (nat_le 1 k && nat_le k (suc n)) ≡ true = grind (arith, nat_tests) in
          rw (eq-eqb k (n + 1) e) (sym in_it)
      | inr ne ↦
          let same : (nat_le 1 k && nat_le k n) ≡ (nat_le 1 k && nat_le k (suc n)) = grind (arith, nat_tests) in
          rw (ne_eqb k (n + 1) ne) (numbers_full n k ∙ same)
    ])

module _ (o : Listed) (q : Query) where
  abbrev all_numbers : Limited
  all_numbers = of_axioms o.axioms (numbers_to (length o.axioms))

  all_is_whole : IsWhole o all_numbers
  all_is_whole = record { limit_is = refl; is_full = numbers_full (length o.axioms) }

  are_all : axioms_in_set (numbers_to (length o.axioms)) o.axioms ≡ all_axioms o.axioms
  are_all = sym (axioms_are o all_numbers (whole_is_set o all_numbers all_is_whole)) ∙ whole o all_numbers all_is_whole

  from_all : Entails (all_axioms o.axioms) q → FollowsFrom o.axioms q (numbers_to (length o.axioms))
  from_all h = subst (λ (as_ : List Axiom). Entails as_ q) (sym are_all) h

  to_all : FollowsFrom o.axioms q (numbers_to (length o.axioms)) → Entails (all_axioms o.axioms) q
  to_all h = subst (λ (as_ : List Axiom). Entails as_ q) are_all h

  -- ---- what a finished search tells of all axioms

  some_follows : (j : Limited) → IsJustificationSet o q j → Entails (all_axioms o.axioms) q
  some_follows j x =
      to_all (grows o.axioms q j.members (numbers_to (length o.axioms))
      (λ k in_j. let inside = x.is_one.within k in_j in in_numbers_to (length o.axioms) k inside.0 inside.1)
      x.is_one.yes_set)

  none_follows : (leaves : List Limited) → IsExplored (FollowsFrom o.axioms q) (length o.axioms) [] leaves
      → ¬ Entails (all_axioms o.axioms) q
  none_follows leaves explored h =
      let leaf = explored.covered set.empty (λ j listed. absurd (omega (arith, listed.1))) in
      (explored.ends leaf.0 leaf.1).1 (grows o.axioms q (numbers_to (length o.axioms)) (rest leaf.0) (λ k in_all.
      let both : (nat_le 1 k && nat_le k (length o.axioms)) ≡ true = sym (numbers_full (length o.axioms) k) ∙ in_all in
      let low : 1 ≤ k = grind (arith, nat_tests) in
      let high : k ≤ length o.axioms = grind (arith, nat_tests) in
      to_rest leaf.0 k low (omega (arith, high, explored.leaf_limits leaf.0 leaf.1))
      (elim (cases_Bool (set.contains leaf.0.members k)) [
        | inl there ↦ absurd (true≢false (sym (leaf.2 k there) ∙ set.contains-empty nat_cmp k))
        | inr out ↦ out
      ])) (from_all h))

-- whether there is a set
abbrev pub has_some : List Limited → Bool
has_some [] = false
has_some (j ∷ js) = true

pub decided : (o : Listed) (q : Query) (js leaves : List Limited)
    → ((j : Limited) → Contains js j → IsJustificationSet o q j)
    → IsExplored (FollowsFrom o.axioms q) (length o.axioms) js leaves
    → has_some js ≡ true ↔ Entails (all_axioms o.axioms) q
decided o q [] leaves are explored =
    (λ h. (let k : false ≡ true = h in absurd (cc k)), λ h. absurd (none_follows o q leaves explored h))
decided o q (j ∷ js) leaves are explored = (λ h. some_follows o q j (are j (0, omega arith, refl)), λ h. refl)

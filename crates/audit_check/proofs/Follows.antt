-- What is shown of sets of axioms.
use Rattle.std.proofs.Common.{◌≡◌, ℕ, suc, ◌+◌, ◌-◌, ◌<◌, ◌≤◌, ◌||◌, Bool, true, false, List, [], ◌∷◌, length, get_or}
use Rattle.std.proofs.Common.{Option, Some, None, refl, ap, sym, ◌∙◌, arith}
use Rattle.std.specs.Prelude.{slice_get, if◌then◌else◌}
use Rattle.std.specs.List.{list_all}
use Rattle.std.specs.FinSet as set
use Rattle.std.proofs.lemmas.Bool.{and_parts, and_from, true≢false}
use Rattle.std.proofs.lemmas.List.Folds.{list_all-append}
use Rattle.lane_sieve.specs.Sets.{NumberSet}
use Rattle.axiom_sets.specs.Sets.{Limited, IsWithin, member_list}
use Rattle.axiom_sets.proofs.Listed.{member_list-at}
use Rattle.pinpointing_specs.specs.Smallest.{rest}
use Rattle.pinpointing_specs.specs.LocalModule.{axioms_from, axioms_in_set, FollowsFrom}
use Rattle.pinpointing_specs.proofs.Choices.{in_rest}
use Rattle.pinpointing_specs.proofs.InSet.{to_set}
use Rattle.shq_terms.specs.Listed.{Listed}
use Rattle.shq_terms.specs.declared.axioms.Numbered.{Numbered}
use Rattle.shq_terms.specs.declared.axioms.Query.{Query}
use Rattle.shq_meaning.specs.Truth.{Interpretation, meets, meets_all, refutes_at}
use Rattle.shq_meaning.proofs.Members.{member_passes}
use Rattle.finite_model.specs.ModelLists.{meaning}
use Rattle.refutation_check.specs.Theory.{axioms_in, named_axioms}
use Rattle.refutation_check.proofs.Entailed.{entailed}
use Rattle.refutation_tree.specs.RefutationLists.{RefutationLists}
use Rattle.refutation_check.specs.Verdicts.{IsValid}
use Rattle.audit_file.specs.declared.entries.Repair.{Repair}
use Rattle.audit_check.specs.Sound.{meets_rest, IsCounterModel}

-- ---- from a refutation

module _ (axioms : List Numbered) (s : NumberSet) (i : Interpretation)
    (met : meets_all i (axioms_in_set s axioms) ≡ true) where
  one_met : (k : ℕ) → 1 ≤ k → set.contains s k ≡ true → (n : Option Numbered) → slice_get axioms (k - 1) ≡ n
      → list_all (meets i) (axioms_in n) ≡ true
  one_met k some member None is = refl
  one_met k some member (Some a) is =
      let e : k ≡ k - 1 + 1 = omega arith in
      and_from (meets i a.axiom) true
      (member_passes (meets i) (axioms_in_set s axioms) met a.axiom
      (to_set s axioms (k - 1) a is (ap (set.contains s) (sym e) ∙ member)))
      refl

  named_met : (ks : List ℕ) → ((j : ℕ) → j < length ks → (1 ≤ get_or ks j 0) × (set.contains s (get_or ks j 0) ≡ true))
      → list_all (meets i) (named_axioms axioms ks) ≡ true
  named_met [] members = refl
  named_met (k ∷ ks) members =
      let first = members 0 (omega arith) in
      list_all-append (meets i) (axioms_in (slice_get axioms (k - 1))) (named_axioms axioms ks)
      ∙ and_from (list_all (meets i) (axioms_in (slice_get axioms (k - 1))))
      (list_all (meets i) (named_axioms axioms ks)) (one_met k first.0 first.1 (slice_get axioms (k - 1)) refl)
      (named_met ks (λ j lt. members (suc j) (omega (arith, lt))))

-- a query with a valid refutation over a set follows from the set
pub follows_over : (o : Listed) (s : Limited) (q : Query) (r : RefutationLists) → IsWithin s.limit s.members
    → IsValid o s q r → FollowsFrom o.axioms q s.members
follows_over o s q r within valid i some placed met x lt =
    let listed : (j : ℕ) → j < length (member_list r.axioms)
    → (1 ≤ get_or (member_list r.axioms) j 0) × (set.contains s.members (get_or (member_list r.axioms) j 0) ≡ true) =
    (λ j less.
    let member = valid.named (get_or (member_list r.axioms) j 0) (member_list-at r.axioms j less).0 in
    ((within (get_or (member_list r.axioms) j 0) member).0, member)) in
    entailed (length o.individuals) o.axioms (member_list r.axioms) q r.shapes r.lines valid.refutes i some placed
    (named_met o.axioms s.members i met (member_list r.axioms) listed) x lt

-- ---- from a model

rest_met : (i : Interpretation) (r : Limited) (k : ℕ) (as_ : List Numbered) → meets_rest i k r.members as_ ≡ true
    → list_all (meets i) (axioms_from k (rest r) as_) ≡ true
rest_met i r k [] h = refl
rest_met i r k (a ∷ as_) h =
    let parts = and_parts (set.contains r.members k || meets i a.axiom) (meets_rest i (k + 1) r.members as_) h in
    by parts.0 (set.contains (rest r) k) refl (rest_met i r (k + 1) as_ parts.1)
  where
    met : set.contains r.members k ≡ false → (set.contains r.members k || meets i a.axiom) ≡ true
        → meets i a.axiom ≡ true
    met out either = ap (λ (b : Bool). b || meets i a.axiom) (sym out) ∙ either

    by : (set.contains r.members k || meets i a.axiom) ≡ true → (b : Bool) → set.contains (rest r) k ≡ b
        → list_all (meets i) (axioms_from (k + 1) (rest r) as_) ≡ true
        → list_all (meets i)
        (if b then a.axiom ∷ axioms_from (k + 1) (rest r) as_ else axioms_from (k + 1) (rest r) as_)
        ≡ true
    by either true in_rest' others =
        and_from (meets i a.axiom) (list_all (meets i) (axioms_from (k + 1) (rest r) as_))
        (met (in_rest r k in_rest') either) others
    by either false out others = others

-- a query with a counter-model does not follow without the repair
pub follows_not : (axioms : List Numbered) (q : Query) (r : Repair) → IsCounterModel axioms q r
    → FollowsFrom axioms q (rest r.set) → ⊥
follows_not axioms q r shows follows =
    let x = shows.refutes.0 in
    let lt = shows.refutes.1 in
    let none : refutes_at (meaning r.model) q x ≡ false =
    follows (meaning r.model) (omega (arith, lt)) shows.places
    (rest_met (meaning r.model) r.set 1 axioms shows.meets_them) x lt in
    true≢false (sym shows.refutes.2 ∙ none)

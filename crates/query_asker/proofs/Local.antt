-- The axioms of a set that are in a part of all axioms.
use Rattle.std.proofs.Common.{◌≡◌, ℕ, ◌+◌, ◌<◌, ◌≤◌, Bool, true, false, List, [], ◌∷◌, length, not, refl, ap, sym, ◌∙◌}
use Rattle.std.proofs.Common.{subst, arith}
use Rattle.std.specs.Prelude.{◌&&◌, Option, None, Some, if◌then◌else◌}
use Rattle.std.specs.Cmp.{nat_cmp_total}
use Rattle.std.specs.FinSet as set
use Rattle.std.proofs.lemmas.Bool.{and_from}
use Rattle.shq_terms.proofs.Bools.{same_truth}
use Rattle.lane_sieve.specs.Sets.{NumberSet}
use Rattle.axiom_sets.specs.Sets.{Limited, IsWithin}
use Rattle.pinpointing_specs.specs.Smallest.{numbers_to}
use Rattle.pinpointing_specs.proofs.Choices.{in_numbers_to}
use Rattle.shq_terms.specs.Listed.{Listed}
use Rattle.shq_terms.specs.declared.axioms.Axiom.{Axiom}
use Rattle.shq_terms.specs.declared.axioms.Numbered.{Numbered}
use Rattle.shq_terms.specs.declared.axioms.Query.{Query}
use Rattle.shq_meaning.specs.Truth.{Entails}
use Rattle.pinpointing_specs.specs.LocalModule.{axioms_from, axioms_in_set, FollowsFrom}
use Rattle.pinpointing_specs.proofs.Grown.{grows}
use Rattle.pinpointing_specs.proofs.Kept.{keeps, intersection_part}
use Rattle.query_asker.specs.AskerLists.{AskerLists}
use Rattle.query_asker.specs.Told.{KeepsAnswers, ModulesKeepAnswers}
use Rattle.query_asker.specs.Asking.{part_of, IsPartIn, IsLocalPart}

pub modules_do : ModulesKeepAnswers
modules_do axioms q m is_module s =
    (keeps axioms q m is_module s, grows axioms q (set.intersection s m) s (intersection_part s m))

-- ---- all axioms

-- two sets that agree about the numbers of the axioms have the same of these
same_from : (s t : NumberSet) (k : ℕ) (rest : List Numbered)
    → ((j : ℕ) → k ≤ j → j < k + length rest → set.contains s j ≡ set.contains t j)
    → axioms_from k s rest ≡ axioms_from k t rest
same_from s t k [] same = refl
same_from s t k (a ∷ rest) same =
    let after : axioms_from (k + 1) s rest ≡ axioms_from (k + 1) t rest =
    same_from s t (k + 1) rest (λ j le lt. same j (omega (arith, le)) (omega (arith, lt))) in
    ap (λ (b : Bool). if b then a.axiom ∷ axioms_from (k + 1) s rest else axioms_from (k + 1) s rest)
    (same k (omega arith) (omega arith))
    ∙ ap (λ (xs : List Axiom). if set.contains t k then a.axiom ∷ xs else xs) after

all_in : (s : NumberSet) (n j : ℕ) → 1 ≤ j → j ≤ n
    → set.contains s j ≡ set.contains (set.intersection s (numbers_to n)) j
all_in s n j low high =
    same_truth (set.contains s j) (set.contains (set.intersection s (numbers_to n)) j)
    (λ h. set.contains-intersection nat_cmp_total s (numbers_to n) j
    ∙ and_from (set.contains s j) (set.contains (numbers_to n) j) h (in_numbers_to n j low high))
    (λ h. intersection_part s (numbers_to n) j h)

pub all_keep : (axioms : List Numbered) (q : Query) → KeepsAnswers axioms q (numbers_to (length axioms))
all_keep axioms q s =
    let m = numbers_to (length axioms) in
    let same : axioms_in_set s axioms ≡ axioms_in_set (set.intersection s m) axioms =
    same_from s (set.intersection s m) 1 axioms (λ j le lt. all_in s (length axioms) j le (omega (arith, lt))) in (
      λ h. subst (λ (as_ : List Axiom). Entails as_ q) same h,
      λ h. subst (λ (as_ : List Axiom). Entails as_ q) (sym same) h,
    )

-- ---- the local part of a set

same_members : (s t : NumberSet) → ((k : ℕ) → set.contains s k ≡ set.contains t k) → s ≡ t
same_members s t e = set.same_set nat_cmp_total set.nat_cmp-IsAntisymmetric s t e

-- a set of axioms is its part among all
part_of_all : (n : ℕ) (s : NumberSet) → IsWithin n s → s ≡ set.intersection s (numbers_to n)
part_of_all n s within =
    same_members s (set.intersection s (numbers_to n))
    (λ k. same_truth (set.contains s k) (set.contains (set.intersection s (numbers_to n)) k)
    (λ h. let w = within k h in sym (all_in s n k w.0 w.1) ∙ h)
    (λ h. intersection_part s (numbers_to n) k h))

members_are : (o : Listed) (among : Option Limited) (s p : Limited) → IsWithin (length o.axioms) s.members
    → IsPartIn among s p
    → (p.limit ≡ s.limit) × (p.members ≡ set.intersection s.members (part_of o among))
members_are o None s p within e = (
  ap (λ (x : Limited). x.limit) e,
  ap (λ (x : Limited). x.members) e ∙ part_of_all (length o.axioms) s.members within,
)
members_are o (Some m) s p within both = both

pub is_local : (a : AskerLists) (among : Option Limited) (s p : Limited) → a.local_part ≡ part_of a.ontology among
    → KeepsAnswers a.ontology.axioms a.query a.local_part
    → IsWithin (length a.ontology.axioms) s.members → IsPartIn among s p → IsLocalPart a s p
is_local a among s p e keeps within h =
    let both = members_are a.ontology among s p within h in
    let members : p.members ≡ set.intersection s.members a.local_part =
    both.1 ∙ ap (λ (m : NumberSet). set.intersection s.members m) (sym e) in
    record {
      limit = both.0;
      members = members;
      keeps = λ f. subst (FollowsFrom a.ontology.axioms a.query) (sym members) ((keeps s.members).0 f);
    }

-- a set without what is outside another one
pub without_outside : (s m : NumberSet) → set.difference s (set.difference s m) ≡ set.intersection s m
without_outside s m =
    same_members (set.difference s (set.difference s m)) (set.intersection s m)
    (λ k. set.contains-difference nat_cmp_total s (set.difference s m) k
    ∙ ap (λ (b : Bool). set.contains s k && not b) (set.contains-difference nat_cmp_total s m k)
    ∙ twice (set.contains s k) (set.contains m k)
    ∙ sym (set.contains-intersection nat_cmp_total s m k))
  where
    twice : (a b : Bool) → (a && not (a && not b)) ≡ (a && b)
    twice true true = refl
    twice true false = refl
    twice false b = refl

-- A set of axioms that holds each justification of a query keeps its answers.
use Rattle.std.proofs.Common.{◌≡◌, ℕ, zero, suc, ◌<◌, true, List, length, sym, ◌∙◌, subst, arith, inl, inr}
use Rattle.std.specs.Cmp.{nat_cmp_total}
use Rattle.std.specs.FinSet as set
use Rattle.std.proofs.lemmas.Bool.{cases_Bool, cases_eq, true≢false, and_parts, and_from}
use Rattle.lane_sieve.specs.Sets.{NumberSet, IsPart}
use Rattle.axiom_sets.specs.Sets.{IsWithin}
use Rattle.shq_terms.specs.declared.axioms.Numbered.{Numbered}
use Rattle.shq_terms.specs.declared.axioms.Query.{Query}
use Rattle.shq_meaning.specs.Truth.{refutes_at}
use Rattle.pinpointing_specs.specs.Smallest.{numbers_to}
use Rattle.pinpointing_specs.specs.LocalModule.{FollowsFrom, IsJustification}
use Rattle.pinpointing_specs.proofs.Choices.{in_without, to_without}
use Rattle.pinpointing_specs.proofs.Grown.{grows}
use Rattle.pinpointing_specs.proofs.Kept.{intersection_part}
use Rattle.set_questions.proofs.Rest.{numbers_within}
use Rattle.query_asker.specs.Told.{HoldersKeepAnswers}
use Rattle.query_asker.proofs.Local.{all_keep}

to_both : (s t : NumberSet) (k : ℕ) → set.contains s k ≡ true → set.contains t k ≡ true
    → set.contains (set.intersection s t) k ≡ true
to_both s t k in_s in_t =
    set.contains-intersection nat_cmp_total s t k ∙ and_from (set.contains s k) (set.contains t k) in_s in_t

in_second : (s t : NumberSet) → IsPart (set.intersection s t) t
in_second s t k h =
    (and_parts (set.contains s k) (set.contains t k) (sym (set.contains-intersection nat_cmp_total s t k) ∙ h)).1

-- a set without two members is part of the set without the second of them
without_two : (t : NumberSet) (k n : ℕ) → IsPart (set.remove (set.remove t k) n) (set.remove t n)
without_two t k n m h =
    let outer = in_without (set.remove t k) n m h in
    to_without t n m outer.0 (in_without t k m outer.1).1

module _ (axioms : List Numbered) (q : Query) where
  -- Where the query follows from a set whose members above k are all needed for that, it cannot be that no
  -- justification is part of the set: those up to k that are not needed are taken out, the greatest first.
  shrunk : (k : ℕ) (t : NumberSet) → IsWithin (length axioms) t → FollowsFrom axioms q t
      → ((n : ℕ) → k < n → set.contains t n ≡ true → ¬ FollowsFrom axioms q (set.remove t n))
      → ¬ ((j : NumberSet) → IsPart j t → ¬ IsJustification axioms q j)
  shrunk zero t within follows needed none =
      none t (λ n h. h) (record {
        within = within;
        yes_set = follows;
        needed = λ n member. needed n (within n member).0 member;
      })
  shrunk (suc k) t within follows needed none =
      let last_needed : ¬ FollowsFrom axioms q (set.remove t (suc k)) =
      λ less. shrunk k (set.remove t (suc k)) (λ n h. within n (in_without t (suc k) n h).1) less
      (λ n above member still.
      let both = in_without t (suc k) n member in
      needed n (omega (arith, above, both.0)) both.1
      (grows axioms q (set.remove (set.remove t (suc k)) n) (set.remove t n) (without_two t (suc k) n) still))
      (λ j part. none j (λ n h. (in_without t (suc k) n (part n h)).1)) in
      shrunk k t within follows (λ n above member less. elim (cases_eq n (suc k)) [
        | inl e ↦ last_needed (subst (λ (x : ℕ). FollowsFrom axioms q (set.remove t x)) e less)
        | inr ne ↦ needed n (omega (arith, above, ne)) member less
      ]) none

  -- those numbers of the set that are numbers of axioms
  abbrev cut : NumberSet → NumberSet
  cut s = set.intersection s (numbers_to (length axioms))

  cut_within : (s : NumberSet) → IsWithin (length axioms) (cut s)
  cut_within s k h = numbers_within (length axioms) k (in_second s (numbers_to (length axioms)) k h)

  -- it cannot be that the query follows from a set of which no justification is part
  some_part : (s : NumberSet) → FollowsFrom axioms q s
      → ¬ ((j : NumberSet) → IsPart j s → ¬ IsJustification axioms q j)
  some_part s follows none =
      shrunk (length axioms) (cut s) (cut_within s) ((all_keep axioms q s).0 follows)
      (λ n above member. absurd (omega (arith, above, (cut_within s n member).1)))
      (λ j part. none j (λ k h. intersection_part s (numbers_to (length axioms)) k (part k h)))

  -- To follow is an equation of truth values for each element: it holds where it cannot fail, and where it failed no
  -- justification would be part of the set.
  held_follows : (m s : NumberSet) → ((j : NumberSet) → IsJustification axioms q j → IsPart j m)
      → FollowsFrom axioms q s → FollowsFrom axioms q (set.intersection s m)
  held_follows m s holds follows i some placed met x lt =
      elim (cases_Bool (refutes_at i q x)) [
        | inl refuted ↦
            absurd (some_part s follows (λ j part just.
            let both : IsPart j (set.intersection s m) = λ k h. to_both s m k (part k h) (holds j just k h) in
            true≢false
            (sym refuted ∙ grows axioms q j (set.intersection s m) both just.yes_set i some placed met x lt)))
        | inr not_refuted ↦ not_refuted
      ]

pub holders_do : HoldersKeepAnswers
holders_do axioms q m holds s =
    (held_follows axioms q m s holds, grows axioms q (set.intersection s m) s (intersection_part s m))

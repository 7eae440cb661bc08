-- What audited lists are.
use Rattle.std.proofs.Common.{◌≡◌, ℕ, ◌≤◌, true, List, sym, ◌∙◌, subst, inl, inr}
use Rattle.std.specs.List.{Contains}
use Rattle.std.specs.FinSet as set
use Rattle.std.proofs.lemmas.Bool.{cases_Bool, true≢false}
use Rattle.lane_sieve.specs.Sets.{NumberSet, IsPart}
use Rattle.axiom_sets.specs.Sets.{Limited}
use Rattle.pinpointing_specs.specs.Smallest.{rest, without, Grows, MeetsEach, IsExplored}
use Rattle.pinpointing_specs.proofs.Choices.{part_or_more, in_rest, to_rest, in_without}
use Rattle.pinpointing_specs.proofs.Explored.{laws_of_lists, laws_of_leaves}
use Rattle.audit_check.specs.Audits.{IsAudited, AuditedAreMinimalYes, AuditedAreMinimalRemovals}
use Rattle.audit_check.proofs.Hits.{has_smallest, smallest_hits_alone}

module _ (holds : NumberSet → Type 0) (limit : ℕ) (justifications repairs : List Limited) (grows : Grows holds)
    (audited : IsAudited holds limit justifications repairs) where
  -- what a listed set lacks when it is without k meets each listed set
  met_outside : (j : Limited) (k : ℕ) → Contains justifications j → set.contains j.members k ≡ true
      → MeetsEach justifications (rest (without j k))
  met_outside j k listed member s s_listed =
      elim (part_or_more s.members (set.remove j.members k)) [
        | inl part ↦
            let same = audited.antichain s j s_listed listed (λ m h. (in_without j.members k m (part m h)).1) in
            let in_s : set.contains s.members k ≡ true =
            subst (λ (x : Limited). set.contains x.members k ≡ true) (sym same) member in
            absurd ((in_without j.members k k (part k in_s)).0 (λ i. k))
        | inr more ↦
            let inside = audited.within s s_listed more.0 more.1 in (
              more.0,
              more.1,
              to_rest (without j k) more.0 inside.0
                  (subst (λ (n : ℕ). more.0 ≤ n) (audited.limits s s_listed ∙ sym (audited.limits j listed)) inside.1)
                  more.2,
            )
      ]

  covered : (t : NumberSet) → MeetsEach justifications t → (l : Limited) × Contains repairs l × IsPart l.members t
  covered = has_smallest limit justifications audited.limits audited.within repairs audited.transversals

  needed : (j : Limited) → Contains justifications j → (k : ℕ) → set.contains j.members k ≡ true
      → ¬ holds (without j k).members
  needed j listed k member yes' =
      let repair = covered (rest (without j k)) (met_outside j k listed member) in
      let r = repair.0 in
      let repair_limit = ((audited.transversals r).0 repair.1).0 in
      audited.ends r repair.1
      (grows (set.remove j.members k) (rest r)
      (λ m h. let inside = audited.within j listed m (in_without j.members k m h).1 in
      to_rest r m inside.0 (subst (λ (n : ℕ). m ≤ n) (audited.limits j listed ∙ sym repair_limit) inside.1)
      (elim (cases_Bool (set.contains r.members m)) [
        | inl in_r ↦ absurd (true≢false (sym h ∙ in_rest (without j k) m (repair.2 m in_r)))
        | inr out ↦ out
      ]))
      yes')

  pub explored : IsExplored holds limit justifications repairs
  explored =
      record {
        limits = audited.limits;
        smallest =
            λ j listed. record {
              within = audited.within j listed;
              yes_set = audited.yes_sets j listed;
              needed = needed j listed;
            };
        leaf_limits = λ r listed. ((audited.transversals r).0 listed).0;
        ends = λ r listed. (((audited.transversals r).0 listed).1.within, audited.ends r listed);
        covered = covered;
      }

pub audited_yes : (holds : NumberSet → Type 0) → AuditedAreMinimalYes holds
audited_yes holds limit justifications repairs grows audited =
    laws_of_lists holds limit justifications repairs grows (explored holds limit justifications repairs grows audited)

pub audited_removals : (holds : NumberSet → Type 0) → AuditedAreMinimalRemovals holds
audited_removals holds limit justifications repairs grows audited r e =
    let law =
    laws_of_leaves holds limit justifications repairs grows (explored holds limit justifications repairs grows audited)
    r e in (
      λ listed. law.0 (listed, smallest_hits_alone justifications r ((audited.transversals r).0 listed).1),
      λ smallest. (law.1 smallest).0,
    )

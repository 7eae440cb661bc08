-- From places that hold to a sound audit, and back.
use Rattle.std.proofs.Common.{◌≡◌, ℕ, ◌+◌, ◌<◌, List, length, get_or, refl, ap, sym, ◌∙◌, subst, arith, inl, inr}
use Rattle.std.specs.declared.cmp.Ordering.TheVariants.{Less}
use Rattle.std.specs.FinSet as set
use Rattle.std.proofs.lemmas.Bool.{cases_lt}
use Rattle.std.proofs.lemmas.List.{length-map, get_or_default}
use Rattle.axiom_sets.specs.Sets.{Limited, list_cmp}
use Rattle.pinpointing_specs.specs.Order.{IsAscending}
use Rattle.audit_check.specs.Audits.{IsAntichain}
use Rattle.audit_check.specs.Listed.{ContainsAnother}
use Rattle.audit_check.specs.Transversals.{AreTransversals}
use Rattle.audit_check.proofs.Ascending.{none_contains, not_before_itself}
use Rattle.shq_terms.specs.Listed.{Listed}
use Rattle.shq_terms.specs.declared.axioms.Query.{Query}
use Rattle.certificate_lines.specs.Malformed.{clamped_line}
use Rattle.audit_file.specs.AuditLists.{AuditLists, justified_sets, repaired_sets, IsOrdered}
use Rattle.audit_file.specs.declared.entries.Justification.{Justification}
use Rattle.audit_file.specs.declared.entries.Repair.{Repair}
use Rattle.audit_check.specs.Sound.{IsSound}
use Rattle.audit_check.specs.Verdicts.{JustificationHolds, JustificationsHold, RepairHolds, RepairsHold, FailsFirst}
use Rattle.audit_check.specs.Verdicts.{IsFirstFailing, IsVerdict}
use Rattle.audit_check.specs.Laws.{VerdictsAreUnique}
use Rattle.audit_check.specs.declared.verdict.AuditVerdict.{AuditVerdict}
use Rattle.audit_check.specs.declared.verdict.AuditVerdict.TheVariants.{Accepted, Justification as FirstJustification}
use Rattle.audit_check.specs.declared.verdict.AuditVerdict.TheVariants.{Repair as FirstRepair, Transversal}
use Rattle.audit_check.proofs.Items.{at_place, of_place}

-- what is known of each list is known of both
pub ordered_both : (js : List Justification) (rs : List Repair) → IsAscending (justified_sets js)
    → IsAscending (repaired_sets rs) → IsOrdered js rs
ordered_both js rs up more = record { justifications = up; repairs = more }

module _ (o : Listed) (q : Query) (a : AuditLists) where
  -- where all places hold and the lists fit each other, the audit is sound
  pub sound_from : JustificationsHold o q a.justifications (length a.justifications)
      → RepairsHold o.axioms q a.repairs (length a.repairs)
      → AreTransversals (length o.axioms) (justified_sets a.justifications) (repaired_sets a.repairs) → IsSound o q a
  sound_from js rs fit = record {
    antichain =
        none_contains (justified_sets a.justifications)
        (λ place lt. (js place
        (omega (arith, lt, length-map a.justifications (λ (j : Justification). j.set)))).contains_none);
    shown = λ j listed. let at = at_place a.justifications j listed in (js at.0 at.1).shown j at.2;
    modelled = λ r listed. let at = at_place a.repairs r listed in rs at.0 at.1 r at.2;
    transversals = fit;
  }

  -- of ascending sets none contains another one where none is part of another
  none_contained : (sets : List Limited) → IsAscending sets → IsAntichain sets → (place : ℕ) → place < length sets
      → ContainsAnother sets place → ⊥
  none_contained sets up antichain place lt found =
      let d : Limited = record { limit = 0; members = set.empty } in
      let j = found.0 in
      let same : get_or sets j d ≡ get_or sets place d =
      antichain (get_or sets j d) (get_or sets place d) (j, found.1, get_or_default sets j (get_or sets j d) d found.1)
      (place, lt, get_or_default sets place (get_or sets place d) d lt) (found.2.1 d) in
      elim (cases_lt j place) [
        | inl less ↦
            not_before_itself (get_or sets place d)
            (subst (λ (x : Limited). list_cmp x (get_or sets place d) ≡ Less) same (up j place d less lt))
        | inr more ↦
            not_before_itself (get_or sets place d)
            (subst (λ (x : Limited). list_cmp (get_or sets place d) x ≡ Less) same
            (up place j d (omega (arith, more, found.2.0)) found.1))
      ]

  holds_where_sound : IsOrdered a.justifications a.repairs → IsSound o q a → (place : ℕ)
      → place < length a.justifications → JustificationHolds o q a.justifications place
  holds_where_sound order sound place lt = record {
    contains_none = none_contained (justified_sets a.justifications) order.justifications sound.antichain place
        (omega (arith, lt, length-map a.justifications (λ (j : Justification). j.set)));
    shown = λ j is. sound.shown j (of_place a.justifications place j is);
  }

  repair_where_sound : IsSound o q a → (place : ℕ) → RepairHolds o.axioms q a.repairs place
  repair_where_sound sound place r is = sound.modelled r (of_place a.repairs place r is)

  -- of two places that are the first at which something fails, each is the other
  one_first : (holds : ℕ → Type 0) (count p r : ℕ) → FailsFirst holds count p → FailsFirst holds count r → p ≡ r
  one_first holds count p r first other = elim (cases_lt p r) [
    | inl less ↦ absurd (first.fails (other.before p less))
    | inr more ↦ elim (cases_lt r p)
        [ inl less ↦ absurd (other.fails (first.before r less)) | inr most ↦ omega (arith, more, most) ]
  ]

  one_number : (holds : ℕ → Type 0) (count m n : ℕ) → IsFirstFailing holds count m → IsFirstFailing holds count n
      → m ≡ n
  one_number holds count m n first other =
      first.1 ∙ ap (λ (k : ℕ). clamped_line (k + 1)) (one_first holds count first.0 other.0 first.2 other.2)
      ∙ sym other.1

  same_verdict : (v w : AuditVerdict) → IsOrdered a.justifications a.repairs → IsVerdict o q a v → IsVerdict o q a w
      → v ≡ w
  same_verdict Accepted Accepted order p r = refl
  same_verdict Accepted (FirstJustification n) order p r = absurd (r.2.fails (holds_where_sound order p r.0 r.2.within))
  same_verdict Accepted (FirstRepair n) order p r = absurd (r.1.2.fails (repair_where_sound p r.1.0))
  same_verdict Accepted Transversal order p r = absurd (r.2 p.transversals)
  same_verdict (FirstJustification m) Accepted order p r = absurd (p.2.fails (holds_where_sound order r p.0 p.2.within))
  same_verdict (FirstJustification m) (FirstJustification n) order p r =
      ap (λ (k : ℕ). FirstJustification k)
      (one_number (JustificationHolds o q a.justifications) (length a.justifications) m n p r)
  same_verdict (FirstJustification m) (FirstRepair n) order p r = absurd (p.2.fails (r.0 p.0 p.2.within))
  same_verdict (FirstJustification m) Transversal order p r = absurd (p.2.fails (r.0 p.0 p.2.within))
  same_verdict (FirstRepair m) Accepted order p r = absurd (p.1.2.fails (repair_where_sound r p.1.0))
  same_verdict (FirstRepair m) (FirstJustification n) order p r = absurd (r.2.fails (p.0 r.0 r.2.within))
  same_verdict (FirstRepair m) (FirstRepair n) order p r =
      ap (λ (k : ℕ). FirstRepair k) (one_number (RepairHolds o.axioms q a.repairs) (length a.repairs) m n p.1 r.1)
  same_verdict (FirstRepair m) Transversal order p r = absurd (p.1.2.fails (r.1 p.1.0 p.1.2.within))
  same_verdict Transversal Accepted order p r = absurd (p.2 r.transversals)
  same_verdict Transversal (FirstJustification n) order p r = absurd (r.2.fails (p.0 r.0 r.2.within))
  same_verdict Transversal (FirstRepair n) order p r = absurd (r.1.2.fails (p.1 r.1.0 r.1.2.within))
  same_verdict Transversal Transversal order p r = refl

pub one_verdict : VerdictsAreUnique
one_verdict = same_verdict

use Rattle.std.proofs.Common.{◌≡◌, ℕ, List, length, sym, ◌∙◌, subst}
use Rattle.std.specs.List.{All}
use Rattle.std.proofs.lemmas.Bool.{true≢false}
use Rattle.axiom_sets.specs.Sets.{Limited, IsWithin}
use Rattle.audit_check.specs.Transversals.{AreTransversals}
use Rattle.audit_file.specs.AuditLists.{justified_sets, repaired_sets}
use Rattle.audit_file.specs.declared.entries.Repair.{Repair}
use Rattle.audit_check.specs.Verdicts.{RepairsHold}
use Rattle.audit_check.proofs.Accepted.{sound_from}
use Rattle.audit_check.proofs.Complete.{lists_all}
use Rattle.audit_check.proofs.Places.{justified_limits}
use Rattle.audit_check.proofs.verdict.verify_repairs.Goals as goal

pub do_lists_fit-requires : goal.do_lists_fit-requires
do_lists_fit-requires c k d lt =
    let o = c.args.ontology.now in
    let all =
    subst (λ (xs : List Limited). All (λ (s : Limited). s.limit ≡ length o.axioms) xs) (sym c.requires.sets)
    (justified_limits o c.args.audit.now.justifications c.requires.of_axioms.justified) in
    all k d lt ∙ sym c.axiom_count.ensures.count

pub returns-then-fits-clause-verdict : goal.returns-then-fits-clause-verdict
returns-then-fits-clause-verdict c =
    let o = c.args.ontology.now in
    let q = c.args.query.now in
    let a = c.args.audit.now in
    let repairs =
    subst (λ (xs : List Repair). RepairsHold o.axioms q xs (length xs)) c.repairs.ensures.list c.in_default.ensures in
    sound_from o q a c.requires.hold repairs
    (subst (λ (n : ℕ). AreTransversals n (justified_sets a.justifications) (repaired_sets a.repairs))
    c.axiom_count.ensures.count
    (subst (λ (xs : List Limited). AreTransversals c.axiom_count.result xs (repaired_sets a.repairs)) c.requires.sets
    (c.in_ok-fits.ensures.0 c.if-fits.true)))

pub returns-then-fits-clause-all : goal.returns-then-fits-clause-all
returns-then-fits-clause-all c _ =
    lists_all c.args.ontology.now c.args.query.now c.args.audit.now c.requires.of_axioms
    (subst (λ (xs : List Limited). All (λ (s : Limited). IsWithin s.limit s.members) xs) c.requires.sets
    c.requires.within)
    (returns-then-fits-clause-verdict c)

pub returns-else-fits-clause-verdict : goal.returns-else-fits-clause-verdict
returns-else-fits-clause-verdict c =
    let o = c.args.ontology.now in
    let q = c.args.query.now in
    let a = c.args.audit.now in (
      c.requires.hold,
      subst (λ (xs : List Repair). RepairsHold o.axioms q xs (length xs)) c.repairs.ensures.list c.in_default.ensures,
      λ are.
          true≢false
          (sym (c.in_ok-fits.ensures.1
          (subst (λ (xs : List Limited). AreTransversals c.axiom_count.result xs (repaired_sets a.repairs))
          (sym c.requires.sets)
          (subst (λ (n : ℕ). AreTransversals n (justified_sets a.justifications) (repaired_sets a.repairs))
          (sym c.axiom_count.ensures.count) are)))
          ∙ c.if-fits.false),
    )

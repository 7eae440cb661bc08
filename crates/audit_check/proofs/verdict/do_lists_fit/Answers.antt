use Rattle.std.proofs.Common.{List, ap, ◌∙◌, subst}
use Rattle.std.specs.Prelude.{◌↔◌, IsTrue, IfOk}
use Rattle.axiom_sets.specs.Sets.{Limited}
use Rattle.audit_check.specs.Transversals.{AreTransversals}
use Rattle.audit_file.specs.AuditLists.{repaired_sets}
use Rattle.audit_check.proofs.verdict.do_lists_fit.Goals as goal

pub returns : goal.returns
returns c =
    subst (λ (xs : List Limited). IfOk c.are_transversals.result
    (λ b. IsTrue b ↔ AreTransversals c.args.limit c.args.sets.now xs))
    (c.deref.ensures.value ∙ c.in_ok-repairs.ensures ∙ ap repaired_sets c.repairs.ensures.list)
    c.are_transversals.ensures

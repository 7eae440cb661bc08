use Rattle.std.proofs.Common.{ap, ◌∙◌}
use Rattle.std.specs.FinSet as set
use Rattle.axiom_sets.specs.Sets.{Limited}
use Rattle.audit_jobs.proofs.Keeping.{names_are}
use Rattle.audit_jobs.proofs.evidence.keep_refutation.Goals as goal

pub returns-clause-axioms : goal.returns-clause-axioms
returns-clause-axioms c =
    let names = c.args.names in
    names_are names c.put_all.new.self c.args.refutation.axioms c.requires.none c.requires.limit c.put_all.ensures.limit
    (c.put_all.ensures.members ∙ ap (λ (s : Limited). set.union names.members s.members) c.axioms_used.ensures)

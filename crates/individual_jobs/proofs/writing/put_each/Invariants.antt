use Rattle.std.proofs.Common.{◌≡◌, ◌++◌, drop}
use Rattle.individual_jobs.specs.Reasons.{reason_lines}
use Rattle.individual_jobs.proofs.writing.put_each.Given as goal

abbrev pub invariant-loop-one : goal.invariant-loop-one
invariant-loop-one l =
    l.text.items ++ reason_lines l.ontology (drop l.one-index l.reasons)
    ≡ l.fn.text.items ++ reason_lines l.ontology l.reasons

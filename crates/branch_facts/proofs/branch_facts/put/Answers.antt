use Rattle.branch_facts.proofs.Grown.{after_begins, on_err}
use Rattle.branch_facts.proofs.branch_facts.put.Goals as goal

pub returns-in_err-push-clause-begins : goal.returns-in_err-push-clause-begins
returns-in_err-push-clause-begins c =
    on_err c.from_residual-in_err-push.result _
    (after_begins c.args.index.now c.put.new.self c.args.entry.fact c.in_ok-put.ensures.put)

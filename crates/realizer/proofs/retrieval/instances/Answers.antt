use Rattle.std.proofs.lemmas.Result.{err_from_is_err_and}
use Rattle.realizer.proofs.retrieval.instances.Goals as goal

pub returns-in_err-found-clause-halted : goal.returns-in_err-found-clause-halted
returns-in_err-found-clause-halted c =
    let p = err_from_is_err_and c.from_residual-in_err-found.result c.from_residual-in_err-found.ensures.1 in
    rw (p.1, p.2) c.in_ok-outcome.ensures.goes_on

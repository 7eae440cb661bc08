use Rattle.std.proofs.Common.{sym, subst}
use Rattle.std.proofs.lemmas.Result.{err_from_is_err_and}
use Rattle.ofn_expressions.specs.Walk.{AgreesWithTests}
use Rattle.ofn_reader.proofs.Heads.{numbered_stops, numbered_goes}
use Rattle.ofn_reader.proofs.axioms.read_operands_of.Goals as goal

pub returns-in_err-begin_axiom-clause-tests : goal.returns-in_err-begin_axiom-clause-tests
returns-in_err-begin_axiom-clause-tests c =
    let p = err_from_is_err_and c.from_residual.result c.from_residual.ensures.1 in
    rw (p.1, p.2)
    (λ known. numbered_stops c.args.prefixes.now c.args.kind c.args.line c.args.items.now c.args.state.now.counts
    c.in_err-begin_axiom.field-0.0 (c.in_err-begin_axiom.ensures.tests known))

pub returns-clause-tests : goal.returns-clause-tests
returns-clause-tests c =
    subst (AgreesWithTests c.read_operands.result c.read_operands.new.state.counts)
    (sym (numbered_goes c.args.prefixes.now c.args.kind c.args.line c.args.items.now c.args.state.now.counts
    c.begin_axiom.new.state.counts c.in_ok-begin_axiom.ensures.tests))
    c.read_operands.ensures.tests

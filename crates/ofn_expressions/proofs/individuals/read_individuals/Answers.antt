use Rattle.std.proofs.lemmas.Result.{err_from_is_err_and}
use Rattle.ofn_expressions.specs.Individuals.{individual_tests}
use Rattle.ofn_expressions.proofs.Growing.{grows_grows}
use Rattle.ofn_expressions.proofs.Lists.{tests_step, tests_stop}
use Rattle.ofn_expressions.proofs.IndividualLists.{all_individuals_tests, individuals_cons, individuals_step}
use Rattle.ofn_expressions.proofs.individuals.read_individuals.Goals as goal

pub returns-in_err-individual-clause-tests : goal.returns-in_err-individual-clause-tests
returns-in_err-individual-clause-tests c =
    let p = err_from_is_err_and c.from_residual.result c.from_residual.ensures.1 in
    rw (p.1, p.2)
    (λ known. tests_stop (individual_tests c.args.prefixes.now) (all_individuals_tests c.args.prefixes.now)
    (individuals_cons c.args.prefixes.now) c.args.items.now c.loop-item.item-index c.item-item.result c.item-item.is
    c.loop-item-test.true c.loop-item.state.counts c.in_err-individual.field-0.0 _
    (c.in_err-individual.ensures.tests known) c.loop-item.invariant.tests)

pub loop-item-preserved : goal.loop-item-preserved
loop-item-preserved c = record {
  tests =
      tests_step (individual_tests c.args.prefixes.now) (all_individuals_tests c.args.prefixes.now)
      (individuals_cons c.args.prefixes.now) c.args.items.now c.loop-item.item-index c.item-item.result c.item-item.is
      c.loop-item-test.true c.loop-item.state.counts c.read_individual.new.state.counts _
      c.in_ok-individual.ensures.tests c.loop-item.invariant.tests;
  grown =
      grows_grows c.args.state.now c.loop-item.state c.read_individual.new.state c.loop-item.invariant.grown
      c.read_individual.ensures.grown;
  value =
      individuals_step c.args.prefixes.now c.args.items.now c.loop-item.item-index c.item-item.result c.item-item.is
      c.loop-item-test.true c.loop-item.state.counts c.read_individual.new.state.counts c.in_ok-individual.individual
      c.loop-item.individuals c.push.new.self c.in_ok-individual.ensures.tests c.in_ok-individual.ensures.value
      c.in_ok-push.ensures.pushed c.loop-item.invariant.value;
}

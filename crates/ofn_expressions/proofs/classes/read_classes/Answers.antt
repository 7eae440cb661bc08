use Rattle.std.proofs.lemmas.Result.{err_from_is_err_and}
use Rattle.ofn_expressions.specs.Classes.{class_tests, classes_tests}
use Rattle.ofn_expressions.proofs.Growing.{grows_grows}
use Rattle.ofn_expressions.proofs.Lists.{tests_step, tests_stop, classes_cons, value_step, value_done}
use Rattle.ofn_expressions.proofs.classes.read_classes.Goals as goal

pub returns-in_err-concept-clause-tests : goal.returns-in_err-concept-clause-tests
returns-in_err-concept-clause-tests c =
    let p = err_from_is_err_and c.from_residual.result c.from_residual.ensures.1 in
    rw (p.1, p.2)
    (λ known. tests_stop (class_tests c.args.prefixes.now) (classes_tests c.args.prefixes.now)
    (classes_cons c.args.prefixes.now) c.args.items.now c.loop-item.item-index c.item-item.result c.item-item.is
    c.loop-item-test.true c.loop-item.state.counts c.in_err-concept.field-0.0 _ (c.in_err-concept.ensures.tests known)
    c.loop-item.invariant.tests)

pub loop-item-preserved : goal.loop-item-preserved
loop-item-preserved c = record {
  tests =
      tests_step (class_tests c.args.prefixes.now) (classes_tests c.args.prefixes.now)
      (classes_cons c.args.prefixes.now) c.args.items.now c.loop-item.item-index c.item-item.result c.item-item.is
      c.loop-item-test.true c.loop-item.state.counts c.read_class.new.state.counts _ c.in_ok-concept.ensures.tests
      c.loop-item.invariant.tests;
  grown =
      grows_grows c.args.state.now c.loop-item.state c.read_class.new.state c.loop-item.invariant.grown
      c.read_class.ensures.grown;
  value =
      value_step c.args.prefixes.now c.args.items.now c.loop-item.item-index c.item-item.result c.item-item.is
      c.loop-item-test.true c.loop-item.state.counts c.read_class.new.state.counts c.in_ok-concept.concept
      c.loop-item.concepts c.push.new.self c.in_ok-concept.ensures.tests c.in_ok-concept.ensures.value
      c.in_ok-push.ensures.pushed c.loop-item.invariant.value;
}

pub returns-clause-value : goal.returns-clause-value
returns-clause-value c =
    value_done c.args.prefixes.now c.args.items.now c.loop-item.item-index c.loop-item-test.false
    c.loop-item.state.counts c.loop-item.concepts c.loop-item.invariant.value

use Rattle.std.proofs.Common.{◌++◌}
use Rattle.std.proofs.lemmas.Result.{err_from_is_err_and}
use Rattle.ofn_tree.specs.Items.{items_of}
use Rattle.ofn_expressions.proofs.Lists.{tests_step, tests_stop}
use Rattle.ofn_reader.specs.Axioms.{axiom_tests, axioms_in}
use Rattle.ofn_reader.proofs.Numbering.{all_axioms_tests, axioms_cons, axioms_value}
use Rattle.ofn_reader.proofs.axioms.read_axioms.Goals as goal

pub loop-item-preserved : goal.loop-item-preserved
loop-item-preserved c = record {
  tests =
      tests_step (axiom_tests c.args.prefixes.now) (all_axioms_tests c.args.prefixes.now)
      (axioms_cons c.args.prefixes.now) c.args.items.now c.loop-item.item-index c.item-item.result c.item-item.is
      c.loop-item-test.true c.loop-item.state.counts c.read_axiom.new.state.counts _ c.in_ok-read_axiom.ensures.tests
      c.loop-item.invariant.tests;
  whole = c.in_ok-read_axiom.ensures.whole;
  value =
      axioms_value c.args.prefixes.now c.args.items.now c.loop-item.item-index c.item-item.result c.item-item.is
      c.loop-item-test.true c.loop-item.state.counts c.read_axiom.new.state.counts c.loop-item.state.read
      c.read_axiom.new.state.read
      (λ later. c.args.state.now.read ++ axioms_in c.args.prefixes.now later (items_of c.args.items.now))
      c.in_ok-read_axiom.ensures.tests c.in_ok-read_axiom.ensures.value c.loop-item.invariant.value;
}

pub returns-in_err-read_axiom-clause-tests : goal.returns-in_err-read_axiom-clause-tests
returns-in_err-read_axiom-clause-tests c =
    let p = err_from_is_err_and c.from_residual.result c.from_residual.ensures.1 in
    rw (p.1, p.2)
    (λ known. tests_stop (axiom_tests c.args.prefixes.now) (all_axioms_tests c.args.prefixes.now)
    (axioms_cons c.args.prefixes.now) c.args.items.now c.loop-item.item-index c.item-item.result c.item-item.is
    c.loop-item-test.true c.loop-item.state.counts c.in_err-read_axiom.field-0.0 _
    (c.in_err-read_axiom.ensures.tests known) c.loop-item.invariant.tests)

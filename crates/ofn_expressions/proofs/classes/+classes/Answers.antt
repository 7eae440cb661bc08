use Rattle.std.proofs.Common.{◌≡◌, arith, ap, sym, subst}
use Rattle.std.proofs.lemmas.Result.{err_from_is_err_and}
use Rattle.ofn_tree.specs.Items.{nesting, items_of}
use Rattle.ofn_expressions.specs.Keywords.{class_keyword}
use Rattle.ofn_expressions.specs.Classes.{class_tests, classes_tests, each_class}
use Rattle.ofn_expressions.proofs.Growing.{grows_grows}
use Rattle.ofn_expressions.proofs.Groups.{group_stops, group_goes}
use Rattle.ofn_expressions.proofs.Lists.{nesting_at, tests_step, tests_stop, value_step, value_done, classes_cons}
use Rattle.ofn_expressions.specs.Classes.{cardinality_of, role_of, concept_of, concepts_of, first, quantified, bounded}
use Rattle.ofn_expressions.specs.Classes.{IsListed}
use Rattle.ofn_expressions.proofs.Operands.{restriction_means, cardinality_means, cardinality_value}
use Rattle.ofn_expressions.proofs.classes.+classes.Goals as goal

pub read_operand_list-read_class-requires : goal.read_operand_list-read_class-requires
read_operand_list-read_class-requires t c = (
  omega (
    arith,
    c.decreases,
    ap nesting c.item-item.is,
    nesting_at c.args.items.now c.loop-item.item-index c.item-item.result c.loop-item-test.true,
  ),
  tt,
)

pub read_operand_list-loop-item-preserved : goal.read_operand_list-loop-item-preserved
read_operand_list-loop-item-preserved t c = record {
  tests =
      tests_step (class_tests c.args.prefixes.now) (classes_tests c.args.prefixes.now)
      (classes_cons c.args.prefixes.now) c.args.items.now c.loop-item.item-index c.item-item.result c.item-item.is
      c.loop-item-test.true c.loop-item.state.counts c.read_class.new.state.counts _ c.in_ok-concept.ensures.tests
      c.loop-item.invariant.tests;
  grown =
      grows_grows c.args.state.now c.loop-item.state c.read_class.new.state c.loop-item.invariant.grown
      c.read_class.ensures.grown;
  value =
      value_step c.args.prefixes.now c.args.items.now c.loop-item.item-index c.item-item.result c.item-item.is
      c.loop-item-test.true c.loop-item.state.counts c.read_class.new.state.counts c.in_ok-concept.concept
      c.loop-item.concepts.items c.push_concept.new.concepts.items c.in_ok-concept.ensures.tests
      c.in_ok-concept.ensures.value c.in_ok-push_concept.ensures c.loop-item.invariant.value;
}

pub read_operand_list-returns-clause-value : goal.read_operand_list-returns-clause-value
read_operand_list-returns-clause-value t c =
    value_done c.args.prefixes.now c.args.items.now c.loop-item.item-index c.loop-item-test.false
    c.loop-item.state.counts c.loop-item.concepts.items c.loop-item.invariant.value

pub read_operand_list-returns-in_err-concept-clause-tests : goal.read_operand_list-returns-in_err-concept-clause-tests
read_operand_list-returns-in_err-concept-clause-tests t c =
    let p = err_from_is_err_and c.from_residual.result c.from_residual.ensures.1 in
    rw (p.1, p.2)
    (λ known. tests_stop (class_tests c.args.prefixes.now) (classes_tests c.args.prefixes.now)
    (classes_cons c.args.prefixes.now) c.args.items.now c.loop-item.item-index c.item-item.result c.item-item.is
    c.loop-item-test.true c.loop-item.state.counts c.in_err-concept.field-0.0 _ (c.in_err-concept.ensures.tests known)
    c.loop-item.invariant.tests)

pub read_group-returns-in_err-keyword-clause-tests : goal.read_group-returns-in_err-keyword-clause-tests
read_group-returns-in_err-keyword-clause-tests t c =
    let p = err_from_is_err_and c.from_residual.result c.from_residual.ensures.1 in
    rw (p.1, p.2)
    (λ known. group_stops c.args.prefixes.now (class_keyword c.args.text.now) c.args.line c.args.items.now _
    c.args.state.now.counts c.in_err-keyword.field-0.0 (c.in_err-keyword.ensures.tests known))

pub read_group-returns-clause-tests : goal.read_group-returns-clause-tests
read_group-returns-clause-tests t c =
    group_goes c.args.prefixes.now (class_keyword c.args.text.now) c.args.line c.args.items.now
    (each_class c.args.prefixes.now (items_of c.args.items.now)) c.args.state.now.counts c.read_operands.result
    c.in_ok-keyword.keyword c.read_head.new.state.counts c.read_operands.new.state.counts c.in_ok-keyword.ensures.tests
    c.in_ok-keyword.ensures.keyword.0 c.read_operands.ensures.tests

pub read_restriction-returns-clause-value : goal.read_restriction-returns-clause-value
read_restriction-returns-clause-value t c = λ later keeps.
    subst (λ d. (quantified c.args.quantifier (role_of c.args.prefixes.now later c.args.role.now)
    (concept_of c.args.prefixes.now later c.args.filler.now)
    ≡ d)
    × IsListed later d)
    (sym c.restriction.ensures)
    (restriction_means c.args.prefixes.now c.args.quantifier c.args.role.now c.args.filler.now
    c.read_role.new.state.counts c.read_boxed.new.state.counts c.in_ok-role.role c.in_ok-filler.filler.value
    c.in_ok-role.ensures.value c.in_ok-filler.ensures.tests c.in_ok-filler.ensures.value later keeps)

pub read_cardinality-returns-clause-value : goal.read_cardinality-returns-clause-value
read_cardinality-returns-clause-value t c = λ later keeps.
    subst (λ d. (bounded c.args.bound (cardinality_of c.args.number.now)
    (role_of c.args.prefixes.now later c.args.role.now)
    (first (concepts_of c.args.prefixes.now later (items_of c.args.filler.now)))
    ≡ d)
    × IsListed later d)
    (sym c.cardinality.ensures)
    (cardinality_means c.args.prefixes.now c.args.bound (cardinality_of c.args.number.now) c.in_ok-number.number
    c.args.role.now c.args.filler.now c.read_role.new.state.counts c.read_filler.new.state.counts c.in_ok-role.role
    c.in_ok-filler.filler.value c.in_ok-number.ensures.value c.in_ok-role.ensures.value c.in_ok-filler.ensures.tests
    c.in_ok-filler.ensures.value later keeps)

pub read_operands-returns-in-Cardinality-clause-value : goal.read_operands-returns-in-Cardinality-clause-value
read_operands-returns-in-Cardinality-clause-value t c =
    cardinality_value c.args.prefixes.now c.args.keyword c.in-Cardinality.bound c.args.items.now c.split_at.result.1.now
    c.index-items-0-in-Cardinality.result c.index-items-1-in-Cardinality.result c.read_cardinality.result _
    c.in-Cardinality.is c.index-items-0-in-Cardinality.is c.index-items-1-in-Cardinality.is c.split_at.ensures.back
    c.requires c.read_cardinality.ensures.value

use Rattle.std.proofs.lemmas.Result.{err_from_is_err_and}
use Rattle.ofn_expressions.specs.Classes.{role_tests}
use Rattle.ofn_expressions.proofs.Growing.{grows_grows}
use Rattle.ofn_expressions.proofs.Lists.{tests_step, tests_stop, all_roles_tests, roles_cons, roles_step}
use Rattle.ofn_expressions.proofs.roles.read_roles.Goals as goal

pub returns-in_err-role-clause-tests : goal.returns-in_err-role-clause-tests
returns-in_err-role-clause-tests c =
    let p = err_from_is_err_and c.from_residual.result c.from_residual.ensures.1 in
    rw (p.1, p.2)
    (λ known. tests_stop (role_tests c.args.prefixes.now) (all_roles_tests c.args.prefixes.now)
    (roles_cons c.args.prefixes.now) c.args.items.now c.loop-item.item-index c.item-item.result c.item-item.is
    c.loop-item-test.true c.loop-item.state.counts c.in_err-role.field-0.0 _ (c.in_err-role.ensures.tests known)
    c.loop-item.invariant.tests)

pub loop-item-preserved : goal.loop-item-preserved
loop-item-preserved c = record {
  tests =
      tests_step (role_tests c.args.prefixes.now) (all_roles_tests c.args.prefixes.now) (roles_cons c.args.prefixes.now)
      c.args.items.now c.loop-item.item-index c.item-item.result c.item-item.is c.loop-item-test.true
      c.loop-item.state.counts c.read_role.new.state.counts _ c.in_ok-role.ensures.tests c.loop-item.invariant.tests;
  grown =
      grows_grows c.args.state.now c.loop-item.state c.read_role.new.state c.loop-item.invariant.grown
      c.read_role.ensures.grown;
  value =
      roles_step c.args.prefixes.now c.args.items.now c.loop-item.item-index c.item-item.result c.item-item.is
      c.loop-item-test.true c.loop-item.state.counts c.read_role.new.state.counts c.in_ok-role.role c.loop-item.roles
      c.push.new.self c.in_ok-role.ensures.tests c.in_ok-role.ensures.value c.in_ok-push.ensures.pushed
      c.loop-item.invariant.value;
}

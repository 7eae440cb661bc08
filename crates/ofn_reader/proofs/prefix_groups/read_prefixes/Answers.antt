use Rattle.std.proofs.lemmas.Result.{err_from_is_err_and}
use Rattle.ofn_reader.specs.Prefixes.{prefixes_tests, prefixes_behind}
use Rattle.ofn_reader.proofs.Declaring.{prefixes_step, prefixes_stop, declared_step}
use Rattle.ofn_reader.proofs.prefix_groups.read_prefixes.Goals as goal

pub loop-group-preserved : goal.loop-group-preserved
loop-group-preserved c = record {
  tests =
      prefixes_step c.args.groups.now c.loop-group.group-index c.group-item.result c.group-item.is
      c.loop-group-test.true (prefixes_tests c.args.prefixes.now c.args.groups.now) c.loop-group.prefixes
      c.read_prefix.new.prefixes c.in_ok-read_prefix.ensures.tests c.in_ok-read_prefix.ensures.declared
      c.loop-group.invariant.tests;
  declared =
      declared_step c.args.groups.now c.loop-group.group-index c.group-item.result c.group-item.is
      c.loop-group-test.true (prefixes_behind c.args.prefixes.now c.args.groups.now) c.loop-group.prefixes
      c.read_prefix.new.prefixes c.in_ok-read_prefix.ensures.declared c.loop-group.invariant.declared;
}

pub returns-in_err-read_prefix-clause-tests : goal.returns-in_err-read_prefix-clause-tests
returns-in_err-read_prefix-clause-tests c =
    let p = err_from_is_err_and c.from_residual.result c.from_residual.ensures.1 in
    λ s. rw (p.1, p.2)
    (λ known. prefixes_stop c.args.groups.now c.loop-group.group-index c.group-item.result c.group-item.is
    c.loop-group-test.true (prefixes_tests c.args.prefixes.now c.args.groups.now) c.loop-group.prefixes
    c.in_err-read_prefix.field-0.0 s (c.in_err-read_prefix.ensures.tests s known) (c.loop-group.invariant.tests s))

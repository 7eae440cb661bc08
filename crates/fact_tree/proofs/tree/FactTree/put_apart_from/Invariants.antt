use Rattle.std.proofs.Common.{◌≡◌, ◌+◌, ◌-◌}
use Rattle.calculus_specs.specs.State.{apart_from}
use Rattle.fact_tree.specs.Told.{Continues}
use Rattle.fact_tree.proofs.Law.{count_in}
use Rattle.fact_tree.proofs.Fresh.{with_more}
use Rattle.fact_tree.proofs.tree.FactTree.put_apart_from.Given as goal

abbrev pub invariant-loop-place : goal.invariant-loop-place
invariant-loop-place g l = record {
  facts : with_more l.self (apart_from l.node (l.first + l.place) (l.count - l.place))
      ≡ with_more l.fn.self (apart_from l.node l.first l.count);
  nodes : count_in l.self ≡ count_in l.fn.self;
  begins : Continues l.fn.self l.self;
}

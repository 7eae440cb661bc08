use Rattle.std.proofs.Common.{◌≡◌, drop}
use Rattle.fact_tree.specs.Kept.{putting, Begins}
use Rattle.fact_tree.proofs.node.Node.put_concepts.Given as goal

abbrev pub invariant-loop-index : goal.invariant-loop-index
invariant-loop-index g l = record {
  same : putting (drop l.index l.concepts) l.self ≡ putting l.concepts l.fn.self;
  begins : Begins l.fn.self l.self;
}

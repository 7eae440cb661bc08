use Rattle.realizer.specs.Asked.{AreAlike, IsAmid}
use Rattle.realizer.proofs.Counting.{open_count}
use Rattle.realizer.proofs.typing.Typing.settle.Given as goal

abbrev pub invariant-loop-types : goal.invariant-loop-types
invariant-loop-types l = record {
  amid : IsAmid l.oracle l.relation l.self.axioms l.individual l.self.rows.items l.types;
  alike : AreAlike l.fn.oracle l.oracle;
}

abbrev pub decreases-loop-types : goal.decreases-loop-types
decreases-loop-types l = open_count l.relation.count l.self.rows.items l.individual l.types

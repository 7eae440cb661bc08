use Rattle.realizer.specs.Asked.{AreAlike, IsBefore}
use Rattle.realizer.proofs.typing.Typing.settle_all.Given as goal

abbrev pub invariant-loop-individual : goal.invariant-loop-individual
invariant-loop-individual l = record {
  before : IsBefore l.oracle l.relation l.self.axioms l.individual l.self.rows.items;
  alike : AreAlike l.fn.oracle l.oracle;
}

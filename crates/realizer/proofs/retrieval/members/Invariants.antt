use Rattle.std.proofs.Common.{◌≡◌}
use Rattle.shq_terms.specs.Concept.{top}
use Rattle.realizer.specs.Asked.{AreAlike, IsAsking}
use Rattle.realizer.proofs.retrieval.members.Given as goal

abbrev pub invariant-loop-individual : goal.invariant-loop-individual
invariant-loop-individual l = record {
  asking : IsAsking l.oracle l.fn.query.sup l.individual l.members;
  sub : l.query.sub ≡ top;
  sup : l.query.sup ≡ l.fn.query.sup;
  alike : AreAlike l.fn.oracle l.oracle;
}

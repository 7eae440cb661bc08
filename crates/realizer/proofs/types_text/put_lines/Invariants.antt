use Rattle.std.proofs.Common.{◌≡◌, ◌++◌, drop, length, true}
use Rattle.realizer.specs.Realization.{type_lines}
use Rattle.realizer.specs.Listing.{lines_are_listed}
use Rattle.realizer.proofs.types_text.put_lines.Given as goal

abbrev pub invariant-loop-line : goal.invariant-loop-line
invariant-loop-line l = record {
  put : l.out.items ++ type_lines l.ontology (drop l.line-index l.lines)
      ≡ l.fn.out.items ++ type_lines l.ontology l.lines;
  listed : lines_are_listed (length l.ontology.classes) (length l.ontology.individuals) (drop l.line-index l.lines)
      ≡ true;
}

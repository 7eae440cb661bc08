use Rattle.std.proofs.Common.{◌≡◌}
use Rattle.subsumption.specs.Rows.{holds}
use Rattle.realizer.specs.Realization.{type_lists}
use Rattle.realizer.specs.TypeRows.{typed_by}
use Rattle.realizer.proofs.direct_types.lines_by.Given as goal

abbrev pub invariant-loop-individual : goal.invariant-loop-individual
invariant-loop-individual l =
    l.lines.items ≡ type_lists l.relation.count (holds l.relation) l.individual (typed_by l.rows)

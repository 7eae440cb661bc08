use Rattle.std.proofs.Common.{◌≡◌, length}
use Rattle.finite_model.specs.ModelLists.{meaning}
use Rattle.realizer.proofs.Pruned.{ArePrunedTo}
use Rattle.realizer.proofs.typing.Typing.prune.Given as goal

abbrev pub invariant-loop-other : goal.invariant-loop-other
invariant-loop-other l = record {
  pruned : ArePrunedTo (meaning l.model) (length l.ontology.classes) l.individual l.other l.fn.self.rows.items
      l.self.rows.items;
  axioms : l.self.axioms ≡ l.fn.self.axioms;
}

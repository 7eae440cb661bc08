use Rattle.std.proofs.Common.{◌≡◌, drop}
use Rattle.finite_model.specs.ModelText.{with_elements}
use Rattle.finite_model.proofs.reading.put_elements.Given as goal

abbrev pub invariant-loop-x : goal.invariant-loop-x
invariant-loop-x l = record {
  put : with_elements l.class (drop l.x-index l.elements) l.model ≡ with_elements l.class l.elements l.fn.model;
  same_size : l.model.size ≡ l.fn.model.size;
}

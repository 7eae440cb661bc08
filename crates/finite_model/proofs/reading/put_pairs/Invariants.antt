use Rattle.std.proofs.Common.{◌≡◌, drop}
use Rattle.finite_model.specs.ModelText.{with_pairs}
use Rattle.finite_model.proofs.reading.put_pairs.Given as goal

abbrev pub invariant-loop-pair : goal.invariant-loop-pair
invariant-loop-pair l = record {
  put : with_pairs l.role (drop l.pair-index l.pairs) l.model ≡ with_pairs l.role l.pairs l.fn.model;
  same_size : l.model.size ≡ l.fn.model.size;
}

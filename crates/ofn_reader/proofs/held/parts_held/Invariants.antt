use Rattle.std.proofs.Common.{◌≡◌, ◌≤◌, ◌-◌, drop}
use Rattle.ofn_reader.specs.Held.{parts_held}
use Rattle.ofn_reader.proofs.held.parts_held.Given as goal

abbrev pub invariant-loop-numbered : goal.invariant-loop-numbered
invariant-loop-numbered l = record {
  left : l.left - parts_held (drop l.numbered-index l.axioms) ≡ 500000 - parts_held l.axioms;
  within : l.left ≤ 500000;
}

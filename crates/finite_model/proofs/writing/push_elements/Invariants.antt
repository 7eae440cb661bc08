use Rattle.std.proofs.Common.{◌≡◌, ◌++◌, drop}
use Rattle.std.specs.List.{flat_map}
use Rattle.finite_model.specs.Written.{element_text}
use Rattle.finite_model.proofs.writing.push_elements.Given as goal

abbrev pub invariant-loop-x : goal.invariant-loop-x
invariant-loop-x l =
    l.text.items ++ flat_map element_text (drop l.x-index l.elements)
    ≡ l.fn.text.items ++ flat_map element_text l.elements

use Rattle.std.proofs.Common.{◌≡◌, ◌++◌, map}
use Rattle.std.specs.Prelude.{decimal}
use Rattle.text_laws.specs.Canonical.{spaced}
use Rattle.job_inputs.proofs.pieces.put_spaced.Given as goal

abbrev pub invariant-loop-number : goal.invariant-loop-number
invariant-loop-number l =
    l.out.items ++ spaced (map decimal l.number-iterator) ≡ l.fn.out.items ++ spaced (map decimal l.fn.numbers)

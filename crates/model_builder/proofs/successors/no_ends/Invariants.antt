use Rattle.std.proofs.Common.{◌≡◌, ℕ, false, length}
use Rattle.model_builder.specs.Walks.{is_end}
use Rattle.model_builder.proofs.successors.no_ends.Given as goal

abbrev pub invariant-loop-element : goal.invariant-loop-element
invariant-loop-element l =
    record { long : length l.next.items ≡ l._element; none : (x y : ℕ) → is_end l.next.items x y ≡ false }

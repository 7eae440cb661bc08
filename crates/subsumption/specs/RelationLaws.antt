-- What follows of relations.
use Rattle.std.specs.Prelude.{◌≡◌, ℕ, ◌+◌, ◌<◌, ◌≤◌, Bool, length}
use Rattle.shq_terms.specs.Listed.{Listed}
use Rattle.subsumption.specs.Rows.{Rows, holds, IsAtFirst, Relates, IsOrder}
use Rattle.subsumption.specs.Subsumption.{IsSubsumption}

-- at first it is an order
abbrev pub FirstIsOrder : Type 0
FirstIsOrder = (count : ℕ) (r : Rows) → IsAtFirst count r → IsOrder (count + 2) (holds r)

-- and it stays one
abbrev pub RelatingKeepsOrder : Type 0
RelatingKeepsOrder = (x y : ℕ) (old new : Rows) → x < old.count + 2 → y < old.count + 2 → Relates x y old new
    → IsOrder (old.count + 2) (holds old) → IsOrder (new.count + 2) (holds new)

-- two relations that say which class is included in which are the same
abbrev pub SubsumptionIsOne : Type 0
SubsumptionIsOne = (o : Listed) (r s : ℕ → ℕ → Bool) → IsSubsumption o r → IsSubsumption o s → (x y : ℕ)
    → x ≤ length o.classes + 1 → y ≤ length o.classes + 1 → r x y ≡ s x y

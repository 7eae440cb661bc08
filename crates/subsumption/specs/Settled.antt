-- The relation of the classes of an ontology, where each pair of them is settled.
use Rattle.std.specs.Prelude.{◌≡◌, ◌⊎◌, ℕ, ◌+◌, ◌<◌, List, length}
use Rattle.shq_terms.specs.Listed.{Listed}
use Rattle.shq_oracle.specs.Entry.{Entry}
use Rattle.shq_oracle.specs.HonestLog.{IsChain}
use Rattle.shq_oracle.specs.Shown.{IsRuledOut}
use Rattle.subsumption.specs.Rows.{Rows, holds, IsOrder}
use Rattle.subsumption.specs.Subsumption.{class_at, IsSubsumption}

-- the log leads from the class of the one number to that of the other, or rules out that the one is included in the
-- other
abbrev pub IsShownPair : ℕ → List Entry → ℕ → ℕ → Type 0
IsShownPair count log x y = IsChain log (class_at count x) (class_at count y)
    ⊎ IsRuledOut log (class_at count x) (class_at count y)

-- it says of each two classes whether the one is included in the other, and the log shows it of the class of each
-- number
pub record IsSettled (o : Listed) (log : List Entry) (r : Rows) : Type 0 where
  pub count_is : r.count ≡ length o.classes
  pub order : IsOrder (length o.classes + 2) (holds r)
  pub is_so : IsSubsumption o (holds r)
  pub shown : (x y : ℕ) → x < length o.classes + 2 → y < length o.classes + 2 → IsShownPair (length o.classes) log x y

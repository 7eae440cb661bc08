-- What a classification says.
use Rattle.std.specs.Prelude.{◌≡◌, ◌+◌, List, length}
use Rattle.shq_terms.specs.Listed.{Listed}
use Rattle.subsumption.specs.Entry.{Entry}
use Rattle.subsumption.specs.Shown.{ShowsClasses}
use Rattle.subsumption.specs.Rows.{Rows, holds, IsOrder}
use Rattle.subsumption.specs.Subsumption.{IsSubsumption}

-- it says of each two classes whether the one is included in the other, and the log shows it
pub record IsClassified (o : Listed) (log : List Entry) (r : Rows) : Type 0 where
  pub count_is : r.count ≡ length o.classes
  pub order : IsOrder (length o.classes + 2) (holds r)
  pub is_so : IsSubsumption o (holds r)
  pub shown : ShowsClasses o log

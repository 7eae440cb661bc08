-- How a run ends that was not refused.
use Rattle.job_inputs.specs.declared.status.Status.{Status}
use Rattle.job_inputs.specs.declared.status.Status.TheVariants.{Done, Rejected, BadWords, BadText, Outside, Limit}
use Rattle.job_inputs.specs.declared.status.Status.TheVariants.{ReadFault, WriteFault, Undecided, NoMemory}

-- it is done, and this is so; or undecided, and this is
abbrev pub IsEnd : (done undecided : Type 0) → Status → Type 0
IsEnd done undecided Done = done
IsEnd done undecided Undecided = undecided
IsEnd done undecided Rejected = ⊥
IsEnd done undecided BadWords = ⊥
IsEnd done undecided BadText = ⊥
IsEnd done undecided Outside = ⊥
IsEnd done undecided Limit = ⊥
IsEnd done undecided ReadFault = ⊥
IsEnd done undecided WriteFault = ⊥
IsEnd done undecided NoMemory = ⊥

-- The number with which the program ends, and what it says of the run.
use Rattle.std.specs.Prelude.{◌≡◌, ℕ, List, Option}
use Rattle.ontology_jobs.specs.Status.{Status}
use Rattle.ontology_jobs.specs.Status.TheVariants.{Done, Rejected, BadWords, BadText, Outside, Limit, ReadFault}
use Rattle.ontology_jobs.specs.Status.TheVariants.{WriteFault, Undecided, NoMemory}
use Rattle.ontology_jobs.specs.Entry.{Entry}
use Rattle.ontology_jobs.specs.Words.{request_of}
use Rattle.ontology_jobs.specs.Answers.{AnsweredAll, Leaves}
use Rattle.ontology_jobs.specs.Laws.{HasSpentAll, HasSpentNoTest}
use Rattle.ontology_jobs.specs.Complete.{IsComplete}

-- the number of a status
abbrev pub exit_number : Status → ℕ
exit_number Done = 0
exit_number Rejected = 1
exit_number BadWords = 2
exit_number BadText = 3
exit_number Outside = 4
exit_number Limit = 5
exit_number ReadFault = 6
exit_number WriteFault = 7
exit_number Undecided = 8
exit_number NoMemory = 9

-- a run answered the words, and ended so
pub record HasEnded (held left before now : Option (List ℕ)) (words : List (List ℕ)) (status : Status) : Type 0 where
  pub log : List Entry
  pub answered : AnsweredAll held before now words status log
  pub leaves : Leaves words held left status
  pub undecided : status ≡ Undecided → HasSpentAll (request_of words) log
  pub unspent : status ≡ NoMemory → HasSpentNoTest (request_of words) log
  pub complete : IsComplete (request_of words) held status log

-- it ended with the status of this number
pub record EndsBy (held left before now : Option (List ℕ)) (words : List (List ℕ)) (number : ℕ) : Type 0 where
  pub status : Status
  pub number_is : number ≡ exit_number status
  pub ended : HasEnded held left before now words status

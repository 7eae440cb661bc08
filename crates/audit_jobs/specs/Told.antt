-- What a test with evidence tells.
use Rattle.std.specs.Prelude.{◌≡◌}
use Rattle.axiom_sets.specs.Sets.{Limited}
use Rattle.set_questions.specs.Asked.{Answers, ShowsNoOther, AsksInBudget}
use Rattle.set_questions.specs.Meaning.{one_more}
use Rattle.set_questions.specs.declared.entail.Reply.{Reply}
use Rattle.run_log.specs.Entries.{nodes_of}
use Rattle.pinpointing_jobs.specs.AskerLists.{AskerLists}
use Rattle.pinpointing_jobs.specs.Told.{asker_meaning, IsUnknown}
use Rattle.pinpointing_jobs.specs.Asking.{IsLater}

-- the answer about the set, of which the log gained at most a test, which was counted, and which shows no more than it
-- tells; that it ended because the budget was spent is told
pub record HasTold (old new : AskerLists) (s : Limited) (reply : Reply) : Type 0 where
  pub answer : Answers (asker_meaning new) s reply
  pub unknown : IsUnknown new s reply
  pub shown : ShowsNoOther (asker_meaning old) (asker_meaning new) reply
  pub in_budget : AsksInBudget (asker_meaning old) (asker_meaning new) reply
  pub later : IsLater old new
  pub counted : new.asks ≡ one_more old.asks
  pub nodes : nodes_of new.gained ≡ nodes_of old.gained

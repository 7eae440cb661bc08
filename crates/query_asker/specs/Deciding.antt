-- What is known of a set without a test, and what a test with evidence adds.
use Rattle.std.specs.Prelude.{◌≡◌, ◌⊎◌, ℕ, List, [], ◌∷◌, ◌++◌}
use Rattle.axiom_sets.specs.Sets.{Limited}
use Rattle.shq_terms.specs.declared.axioms.Query.{Query}
use Rattle.set_questions.specs.Meaning.{one_more}
use Rattle.set_questions.specs.Asked.{Answers}
use Rattle.shq_oracle.specs.Entry.{Entry}
use Rattle.shq_oracle.specs.Entry.TheVariants.{Test}
use Rattle.shq_oracle.specs.TestEnd.{TestEnd}
use Rattle.shq_oracle.specs.Entries.{IsAnswered}
use Rattle.shq_oracle.specs.Decided.{EndsAs}
use Rattle.shq_oracle.specs.declared.answer.Outcome.{Outcome}
use Rattle.shq_oracle.specs.declared.answer.Outcome.TheVariants.{Undecided}
use Rattle.query_asker.specs.declared.known.Known.{Known}
use Rattle.query_asker.specs.declared.known.Known.TheVariants.{Answered, Unknown}
use Rattle.query_asker.specs.AskerLists.{AskerLists}
use Rattle.query_asker.specs.Told.{asker_meaning, part_in, IsUnknown}
use Rattle.query_asker.specs.Asking.{IsLocalPart}

-- the answer of the log, and then one ask more was counted; or no entry answers for the local part, and nothing has
-- changed
abbrev pub IsKnown : AskerLists → AskerLists → Limited → Known → Type 0
IsKnown old new s (Answered reply) = (new ≡ record old { asks = one_more old.asks })
    × Answers (asker_meaning new) s reply × IsUnknown new (part_in new s) reply
IsKnown old new s (Unknown part) = (new ≡ old) × IsLocalPart old s part × (¬ IsAnswered old.gained part old.query)

-- one test of the set, which ended with the outcome
pub record IsOneTestAs (q : Query) (s : Limited) (v : Outcome) (more : List Entry) : Type 0 where
  pub steps : ℕ
  pub ended : TestEnd
  pub is_more : more ≡ Test s q steps ended ∷ []
  pub matches : EndsAs v ended

-- The log gained one such test; or none, and then the budget was spent before it. One ask more was counted.
pub record GainsTest (old new : AskerLists) (s : Limited) (v : Outcome) : Type 0 where
  pub more : List Entry
  pub is_more : new ≡ record old { gained = old.gained ++ more; asks = one_more old.asks }
  pub is_test : IsOneTestAs old.query s v more ⊎ ((more ≡ []) × (v ≡ Undecided))

-- The log gained one test of the set, or nothing. One ask more was counted.
pub record GainsAtMostOne (old new : AskerLists) (s : Limited) : Type 0 where
  pub more : List Entry
  pub is_more : new ≡ record old { gained = old.gained ++ more; asks = one_more old.asks }
  pub at_most_one : (more ≡ []) ⊎ ((steps : ℕ) × (ended : TestEnd) × (more ≡ Test s old.query steps ended ∷ []))

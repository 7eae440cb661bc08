-- How an asker answers.
use Rattle.std.specs.Prelude.{◌≡◌, ℕ, ◌≤◌, Option, None, Some, IfSome, List, ◌++◌, length, take, drop}
use Rattle.std.specs.FinSet as set
use Rattle.lane_sieve.specs.Sets.{NumberSet}
use Rattle.axiom_sets.specs.Sets.{Limited}
use Rattle.pinpointing_specs.specs.Smallest.{numbers_to}
use Rattle.shq_terms.specs.Listed.{Listed}
use Rattle.shq_terms.specs.declared.axioms.Query.{Query}
use Rattle.shq_oracle.specs.Limits.{IsInLimit}
use Rattle.pinpointing_specs.specs.LocalModule.{FollowsFrom}
use Rattle.set_questions.specs.Asked.{Answers}
use Rattle.set_questions.specs.declared.entail.Reply.{Reply}
use Rattle.set_questions.specs.declared.entail.Reply.TheVariants.{Yes, No, Spent}
use Rattle.shq_oracle.specs.Entry.{Entry}
use Rattle.shq_oracle.specs.Entries.{IsAnswered}
use Rattle.shq_oracle.specs.OracleLists.{OracleLists}
use Rattle.shq_oracle.specs.declared.answer.Outcome.{Outcome}
use Rattle.shq_oracle.specs.declared.answer.Outcome.TheVariants as Found
use Rattle.query_asker.specs.declared.memo.Memo.{Memo}
use Rattle.query_asker.specs.AskerLists.{AskerLists}
use Rattle.query_asker.specs.Told.{KeepsAnswers, AreTestsOfOthers, asker_meaning, IsAskerLog}
use Rattle.query_asker.specs.Memory.{IsMemo}

-- ---- what an asker is made of

-- the axioms of a module, or all axioms where none is given
abbrev pub part_of : Listed → Option Limited → NumberSet
part_of o None = numbers_to (length o.axioms)
part_of o (Some m) = m.members

-- what contracts see of an asker over an oracle
abbrev pub lists_of : OracleLists → Query → Option Limited → ℕ → ℕ → AskerLists
lists_of o q among first asks =
    record {
      ontology = o.ontology;
      query = q;
      budget = o.budget;
      local_part = part_of o.ontology among;
      before = take first o.log;
      gained = drop first o.log;
      asks = asks;
    }

-- what no call changes and each needs
pub record CanAsk (a : AskerLists) : Type 0 where
  pub in_limit : IsInLimit a.ontology a.query
  pub others : AreTestsOfOthers a.query a.before
  pub keeps : KeepsAnswers a.ontology.axioms a.query a.local_part

-- an asker over an oracle may ask, and remembers its part of the log
pub record IsAsker (o : OracleLists) (q : Query) (among : Option Limited) (first : ℕ) (memo : Memo) (asks : ℕ) :
    Type 0 where
  pub first_within : first ≤ length o.log
  pub limit : IfSome among (λ m. m.limit ≡ length o.ontology.axioms)
  pub can_ask : CanAsk (lists_of o q among first asks)
  pub is_log : IsAskerLog (lists_of o q among first asks)
  pub remembers : IsMemo memo (drop first o.log)

-- ---- one ask

-- of the set s those are left that are in the module, or all where none is given
abbrev pub IsPartIn : Option Limited → Limited → Limited → Type 0
IsPartIn None s p = p ≡ s
IsPartIn (Some m) s p = (p.limit ≡ s.limit) × (p.members ≡ set.intersection s.members m.members)

-- of the set s those are left that are in the local part
pub record IsLocalPart (a : AskerLists) (s p : Limited) : Type 0 where
  pub limit : p.limit ≡ s.limit
  pub members : p.members ≡ set.intersection s.members a.local_part
  pub keeps : FollowsFrom a.ontology.axioms a.query s.members → FollowsFrom a.ontology.axioms a.query p.members

-- the answer of the log, where it has one: a yes or a no
abbrev pub IsRecalled : AskerLists → Limited → Option Reply → Type 0
IsRecalled a s None = ¬ IsAnswered a.gained s a.query
IsRecalled a s (Some (Yes u)) = Answers (asker_meaning a) s (Yes u)
IsRecalled a s (Some No) = Answers (asker_meaning a) s No
IsRecalled a s (Some Spent) = ⊥

-- some entries more, and perhaps another count of asks
pub record IsLater (old new : AskerLists) : Type 0 where
  pub more : List Entry
  pub is_more : new ≡ record old { gained = old.gained ++ more; asks = new.asks }

-- what the outcome of a test says of the set
abbrev pub reply_of : Outcome → Reply
reply_of (Found.Yes u) = Yes u
reply_of Found.No = No
reply_of Found.Undecided = Spent

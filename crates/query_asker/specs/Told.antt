-- What an asker means, and what its part of the log is.
use Rattle.std.specs.Prelude.{◌≡◌, ◌⊎◌, ◌↔◌, ℕ, ◌-◌, ◌^◌, ◌≤◌, Bool, true, false, List, [], ◌∷◌, ◌++◌, length, All}
use Rattle.std.specs.Prelude.{Contains}
use Rattle.std.specs.List.{list_any}
use Rattle.std.specs.FinSet as set
use Rattle.lane_sieve.specs.Sets.{NumberSet, IsPart}
use Rattle.axiom_sets.specs.Sets.{Limited}
use Rattle.pinpointing_specs.specs.Smallest.{Grows}
use Rattle.shq_terms.specs.declared.axioms.Numbered.{Numbered}
use Rattle.shq_terms.specs.declared.axioms.Query.{Query}
use Rattle.set_questions.specs.Meaning.{Meaning}
use Rattle.set_questions.specs.declared.entail.Reply.{Reply}
use Rattle.set_questions.specs.declared.entail.Reply.TheVariants.{Yes, No as NoReply, Spent}
use Rattle.pinpointing_specs.specs.LocalModule.{FollowsFrom, IsLocalModule, IsJustification}
use Rattle.pinpointing_specs.proofs.Grown.{grows}
use Rattle.shq_oracle.specs.Entry.{Entry}
use Rattle.shq_oracle.specs.Entry.TheVariants.{Test, Node}
use Rattle.shq_oracle.specs.TestEnd.TheVariants.{No}
use Rattle.shq_oracle.specs.Entries.{spent_of, nodes_of, test_count, is_spent, IsAnswered}
use Rattle.shq_oracle.specs.HonestLog.{EachIsHonest, EndsWhenSpent, AreTestsOf, AsksNoAnswer, IsTestIn}
use Rattle.shq_oracle.specs.Shown.{IsShownYes}
use Rattle.query_asker.specs.AskerLists.{AskerLists}

-- the query follows from some of the axioms just where it follows from those of them that are in m
abbrev pub KeepsAnswers : List Numbered → Query → NumberSet → Type 0
KeepsAnswers axioms q m = (s : NumberSet) → FollowsFrom axioms q s ↔ FollowsFrom axioms q (set.intersection s m)

-- so it is with a local module
abbrev pub ModulesKeepAnswers : Type 0
ModulesKeepAnswers = (axioms : List Numbered) (q : Query) (m : NumberSet) → IsLocalModule axioms q m
    → KeepsAnswers axioms q m

-- and with each set that holds every justification of the query
abbrev pub HoldersKeepAnswers : Type 0
HoldersKeepAnswers = (axioms : List Numbered) (q : Query) (m : NumberSet)
    → ((j : NumberSet) → IsJustification axioms q j → IsPart j m) → KeepsAnswers axioms q m

-- each test is one of another query
abbrev pub IsTestOfOther : Query → Entry → Type 0
IsTestOfOther q (Test s p steps e) = ¬ (p ≡ q)
IsTestOfOther q (Node s) = Unit {0}

-- each entry is a test of another query, or no test
abbrev pub AreTestsOfOthers : Query → List Entry → Type 0
AreTestsOfOthers q log = All (IsTestOfOther q) log

-- a test found that the query does not follow from a set that has each axiom of s that is in m
pub record IsShownNoIn (log : List Entry) (q : Query) (m s : NumberSet) : Type 0 where
  pub tested : Limited
  pub steps : ℕ
  pub is_no : Contains log (Test tested q steps No)
  pub has_part : (k : ℕ) → set.contains s k ≡ true → set.contains m k ≡ true → set.contains tested.members k ≡ true

-- no entry of the log answers about those axioms of s among which it asks
abbrev pub IsLeftOut : AskerLists → NumberSet → Type 0
IsLeftOut a s =
    ¬ IsAnswered a.gained (record { limit = length a.ontology.axioms; members = set.intersection s a.local_part })
    a.query

-- the yes-sets are those from which the query follows
abbrev pub asker_meaning : AskerLists → Meaning
asker_meaning a = record {
  size = length a.ontology.axioms;
  holds = FollowsFrom a.ontology.axioms a.query;
  left = a.budget - spent_of (a.before ++ a.gained);
  asks = a.asks;
  taken = nodes_of a.gained;
  shown_yes = IsShownYes a.gained a.query;
  shown_no = IsShownNoIn a.gained a.query a.local_part;
  unknown = IsLeftOut a;
  ran_out = list_any is_spent a.gained;
}

pub asker_grows : (a : AskerLists) → Grows (asker_meaning a).holds
asker_grows a = grows a.ontology.axioms a.query

-- what holds of the entries that the log gained, and with those before
pub record IsAskerLog (a : AskerLists) : Type 0 where
  pub honest : EachIsHonest a.ontology a.gained
  pub ends : EndsWhenSpent a.budget (a.before ++ a.gained)
  pub within : spent_of (a.before ++ a.gained) ≤ a.budget
  pub tests : AreTestsOf a.query a.gained
  pub new : AsksNoAnswer a.gained
  pub in_module : All (IsTestIn a.local_part) a.gained
  -- there are no more tests than asks, of which so many at least are counted as fit 64 bits
  pub few : (test_count a.gained ≤ a.asks) ⊎ (a.asks ≡ 2 ^ 64 - 1)

-- ---- calls

-- of the set those axioms among which it asks
abbrev pub part_in : AskerLists → Limited → Limited
part_in a s = record { limit = s.limit; members = set.intersection s.members a.local_part }

-- want of budget is answered only where no entry of the log answers
abbrev pub IsUnknown : AskerLists → Limited → Reply → Type 0
IsUnknown a s (Yes u) = Unit {0}
IsUnknown a s NoReply = Unit {0}
IsUnknown a s Spent = ¬ IsAnswered a.gained s a.query

-- just the node was logged, or nothing has changed
abbrev pub LogsNode : AskerLists → AskerLists → Limited → Bool → Type 0
LogsNode old new node true = new ≡ record old { gained = old.gained ++ Node node ∷ [] }
LogsNode old new node false = new ≡ old

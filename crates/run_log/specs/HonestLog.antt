-- Honest logs: what the log of a job says is so, and nothing was asked that it answers already.
use Rattle.std.specs.Prelude.{◌≡◌, ℕ, ◌+◌, ◌*◌, ◌<◌, ◌≤◌, true, List, [], ◌∷◌, length, take, Some, slice_get, All}
use Rattle.std.specs.Prelude.{Contains}
use Rattle.std.specs.List.{list_any}
use Rattle.pinpointing_specs.specs.NumberSets.{NumberSet, IsPart}
use Rattle.pinpointing_specs.specs.Sets.{Limited, IsFull, IsWithin, member_list}
use Rattle.pinpointing_specs.specs.Nodes.{AreNodes}
use Rattle.shq_terms.specs.Concept.{Concept, top, bottom, name}
use Rattle.shq_terms.specs.Listed.{Listed}
use Rattle.shq_terms.specs.declared.axioms.Axiom.{Axiom}
use Rattle.shq_terms.specs.declared.axioms.On.TheVariants.{Any}
use Rattle.shq_terms.specs.declared.axioms.Query.{Query}
use Rattle.pinpointing_specs.specs.Truth.{Entails}
use Rattle.pinpointing_specs.specs.LocalModule.{IsLocalModule, IsJustification}
use Rattle.calculus_specs.specs.Rows.{Row}
use Rattle.calculus_specs.specs.Rules.{Question}
use Rattle.refutation_truth.specs.Theory.{named_axioms, question_in}
use Rattle.tableau_specs.specs.declared.Item.{Item}
use Rattle.tableau_specs.specs.Steps.{IsLegal}
use Rattle.tableau_specs.specs.Reached.{context_of, IsReached, Costs}
use Rattle.run_log.specs.Trails.{TrailLists}
use Rattle.run_log.specs.declared.entry.Entry.{Entry}
use Rattle.run_log.specs.declared.entry.Entry.TheVariants.{Test, Node}
use Rattle.run_log.specs.declared.entry.TestEnd.{TestEnd}
use Rattle.run_log.specs.declared.entry.TestEnd.TheVariants.{Yes, No, Spent}
use Rattle.run_log.specs.Entries.{spent_of, nodes_of, test_count, is_spent, IsAnswered}

-- ---- sets of axioms

-- a set of axioms of the ontology, by their numbers
pub record IsAxiomSet (o : Listed) (s : Limited) : Type 0 where
  pub limit_is : s.limit ≡ length o.axioms
  pub within : IsWithin s.limit s.members

-- the set of all of them
pub record IsWhole (o : Listed) (s : Limited) : Type 0 where
  pub limit_is : s.limit ≡ length o.axioms
  pub is_full : IsFull (length o.axioms) s.members

-- the axioms of a set, in order
abbrev pub axioms_of : Listed → Limited → List Axiom
axioms_of o s = named_axioms o.axioms (member_list s)

-- what a search of the axioms of the set for a counter-example to the query asks
abbrev pub asked_of : Listed → Limited → Query → Question
asked_of o s q = question_in o (member_list s) q

-- the query follows from the axioms of the set
abbrev pub FollowsIn : Listed → Limited → Query → Type 0
FollowsIn o s q = Entails (axioms_of o s) q

-- ---- the tests

-- so many legal steps decide whether the query follows from the axioms of the set
abbrev pub CostsSteps : Listed → Limited → Query → ℕ → Type 0
CostsSteps o s q steps = Costs (asked_of o s q) (FollowsIn o s q) steps

-- the query follows from the axioms u, which are part of the set, and so many steps decide
pub record IsHonestYes (o : Listed) (s : Limited) (q : Query) (steps : ℕ) (u : Limited) : Type 0 where
  pub of_axioms : IsAxiomSet o u
  pub part : IsPart u.members s.members
  pub follows : FollowsIn o u q
  pub cost : CostsSteps o s q steps

-- the query does not follow from the set, and so many steps decide
pub record IsHonestNo (o : Listed) (s : Limited) (q : Query) (steps : ℕ) : Type 0 where
  pub follows_not : ¬ FollowsIn o s q
  pub cost : CostsSteps o s q steps

-- so many legal steps over some rows reach the trail, and over these rows one more step is legal
pub record GoesOn (o : Listed) (s : Limited) (q : Query) (steps : ℕ) (t : TrailLists) : Type 0 where
  pub rows : List Row
  pub reached : IsReached (asked_of o s q) t.table rows steps t.items
  pub next : List Item
  pub is_legal : IsLegal (context_of (asked_of o s q) t.table rows) t.items next

-- what the end of a test of the set says is so
abbrev pub IsHonestEnd : Listed → Limited → Query → ℕ → TestEnd → Type 0
IsHonestEnd o s q steps (Yes u) = IsHonestYes o s q steps u
IsHonestEnd o s q steps No = IsHonestNo o s q steps
IsHonestEnd o s q steps (Spent t) = GoesOn o s q steps t

-- what the entry says is so
abbrev pub IsHonestEntry : Listed → Entry → Type 0
IsHonestEntry o (Test s q steps e) = IsAxiomSet o s × IsHonestEnd o s q steps e
IsHonestEntry o (Node s) = IsAxiomSet o s

-- each entry of the log says what is so
abbrev pub EachIsHonest : Listed → List Entry → Type 0
EachIsHonest o log = All (IsHonestEntry o) log

-- ---- the budget

-- the log has spent no more than the budget
abbrev pub IsWithinBudget : ℕ → List Entry → Type 0
IsWithinBudget budget log = spent_of log ≤ budget

-- a test that ended since the budget was spent is the last entry, and the whole budget is spent
pub record EndsWhenSpent (budget : ℕ) (log : List Entry) : Type 0 where
  pub is_last : (place : ℕ) (e : Entry) → slice_get log place ≡ Some e → is_spent e ≡ true → place + 1 ≡ length log
  pub is_whole : list_any is_spent log ≡ true → spent_of log ≡ budget

-- what holds of the log of every job
pub record IsHonestWithin (o : Listed) (budget : ℕ) (log : List Entry) : Type 0 where
  pub within : IsWithinBudget budget log
  pub honest : EachIsHonest o log
  pub ends : EndsWhenSpent budget log

-- ---- one question

-- there is one test, of all axioms, and of the query
pub record IsOneTest (o : Listed) (q : Query) (log : List Entry) : Type 0 where
  pub asked : Limited
  pub steps : ℕ
  pub ended : TestEnd
  pub is_whole : IsWhole o asked
  pub is_log : log ≡ Test asked q steps ended ∷ []

-- ---- classification

-- a class of the ontology, owl:Thing or owl:Nothing
abbrev pub IsClass : Listed → Concept → Type 0
IsClass o (name a) = a < length o.classes
IsClass o top = Unit {0}
IsClass o bottom = Unit {0}
IsClass o _ = ⊥

-- the entry tests, by all axioms and of all elements, whether one class is included in another
abbrev pub IsClassTest : Listed → Entry → Type 0
IsClassTest o (Test s q steps e) = IsWhole o s × IsClass o q.sub × IsClass o q.sup × ¬ (q.sub ≡ q.sup) × (q.on ≡ Any)
IsClassTest o (Node s) = ⊥

-- each test of the log is one that a classification makes
abbrev pub AreClassTests : Listed → List Entry → Type 0
AreClassTests o log = All (IsClassTest o) log

-- no query is tested twice
abbrev pub AsksNothingTwice : List Entry → Type 0
AsksNothingTwice log = (i j : ℕ) (s t : Limited) (p q : Query) (m n : ℕ) (e f : TestEnd)
    → i < j → slice_get log i ≡ Some (Test s p m e) → slice_get log j ≡ Some (Test t q n f) → ¬ (p ≡ q)

-- one step from a class to one in which it is included: a test of all elements of the former found so, or the latter is
-- owl:Thing, or the former is owl:Nothing
pub data IsStep (log : List Entry) : Concept → Concept → Type 0 where
  by_test : (s : Limited) (q : Query) (steps : ℕ) (u : Limited) → q.on ≡ Any → Contains log (Test s q steps (Yes u))
      → IsStep log q.sub q.sup
  in_top : (x : Concept) → IsStep log x top
  of_bottom : (y : Concept) → IsStep log bottom y

-- such steps lead from x to y; none leads from x to x
pub data IsChain (log : List Entry) : Concept → Concept → Type 0 where
  none : (x : Concept) → IsChain log x x
  onward : (x y z : Concept) → IsStep log x y → IsChain log y z → IsChain log x z

-- no query is tested that earlier tests answer with yes
abbrev pub AsksNoChain : List Entry → Type 0
AsksNoChain log = (place : ℕ) (s : Limited) (q : Query) (steps : ℕ) (e : TestEnd)
    → slice_get log place ≡ Some (Test s q steps e) → ¬ IsChain (take place log) q.sub q.sup

-- ---- pinpointing

-- if the entry is a test, it is one of this query
abbrev pub IsTestOf : Query → Entry → Type 0
IsTestOf q (Test s p steps e) = p ≡ q
IsTestOf q (Node s) = Unit {0}

-- each test is one of the query
abbrev pub AreTestsOf : Query → List Entry → Type 0
AreTestsOf q log = All (IsTestOf q) log

-- no set is tested for which an earlier entry answers
abbrev pub AsksNoAnswer : List Entry → Type 0
AsksNoAnswer log = (place : ℕ) (s : Limited) (q : Query) (steps : ℕ) (e : TestEnd)
    → slice_get log place ≡ Some (Test s q steps e) → ¬ IsAnswered (take place log) s q

-- a justification of the query, as a set of axioms of the ontology
pub record IsJustificationSet (o : Listed) (q : Query) (j : Limited) : Type 0 where
  pub limit_is : j.limit ≡ length o.axioms
  pub is_one : IsJustification o.axioms q j.members

-- the nodes are those of a hitting-set tree: the first is empty, each other one is an earlier one with one member more,
-- of a justification that is apart from the earlier one, and none stands twice
pub record AreTreeNodes (o : Listed) (q : Query) (log : List Entry) : Type 0 where
  pub labels : List Limited
  pub justifications : All (IsJustificationSet o q) labels
  pub nodes : AreNodes labels (nodes_of log)

-- for each node there are at most as many tests as axioms, and one
abbrev pub AsksFewPerNode : Listed → List Entry → Type 0
AsksFewPerNode o log = test_count log ≤ (length o.axioms + 1) * length (nodes_of log)

-- if the entry is a test, it is one of axioms of this set
abbrev pub IsTestIn : NumberSet → Entry → Type 0
IsTestIn m (Test s q steps e) = IsPart s.members m
IsTestIn m (Node s) = Unit {0}

-- each set that is tested is part of the query's local module
pub record StaysInModule (o : Listed) (q : Query) (log : List Entry) : Type 0 where
  pub local_part : NumberSet
  pub is_module : IsLocalModule o.axioms q local_part
  pub within : All (IsTestIn local_part) log

-- ---- the whole

-- what a log belongs to: the question whether a query follows, a classification, or the search for justifications and
-- repairs
pub data Purpose : Type 0 where
  decision : Query → Purpose
  classification : Purpose
  pinpointing : Query → Purpose

-- an honest log of the question whether a query follows: it has one test, of that
pub record IsDecisionLog (o : Listed) (q : Query) (budget : ℕ) (log : List Entry) : Type 0 where
  pub budget_kept : IsHonestWithin o budget log
  pub one : IsOneTest o q log

-- an honest log of a classification: its tests are between classes, none is made twice, and none if earlier tests lead
-- to a yes
pub record IsClassificationLog (o : Listed) (budget : ℕ) (log : List Entry) : Type 0 where
  pub budget_kept : IsHonestWithin o budget log
  pub tests : AreClassTests o log
  pub once : AsksNothingTwice log
  pub new : AsksNoChain log

-- an honest log of a search for justifications and repairs: its tests are of the query and within its local module, and
-- none is made that an earlier entry answers; its nodes are those of a hitting-set tree, with few tests for each
pub record IsPinpointingLog (o : Listed) (q : Query) (budget : ℕ) (log : List Entry) : Type 0 where
  pub budget_kept : IsHonestWithin o budget log
  pub tests : AreTestsOf q log
  pub new : AsksNoAnswer log
  pub nodes : AreTreeNodes o q log
  pub few : AsksFewPerNode o log
  pub in_module : StaysInModule o q log

-- the log of such a question is honest
abbrev pub IsHonest : Listed → Purpose → ℕ → List Entry → Type 0
IsHonest o (decision q) budget log = IsDecisionLog o q budget log
IsHonest o classification budget log = IsClassificationLog o budget log
IsHonest o (pinpointing q) budget log = IsPinpointingLog o q budget log

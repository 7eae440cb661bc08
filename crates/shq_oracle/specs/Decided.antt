-- What the answer to a question is, and what the log says of it.
use Rattle.std.specs.Prelude.{◌≡◌, ℕ, ◌≤◌, ◌<◌, Bool, true, false, IsTrue, List, [], ◌∷◌, ◌++◌, Option, None, Some}
use Rattle.std.specs.Prelude.{IfSome}
use Rattle.lane_sieve.specs.Sets.{IsPart}
use Rattle.axiom_sets.specs.Sets.{Limited, member_list}
use Rattle.shq_terms.specs.Listed.{Listed}
use Rattle.shq_terms.specs.declared.axioms.Query.{Query}
use Rattle.calculus_specs.specs.Valid.{IsRefutation}
use Rattle.run_log.specs.Theory.{question_in}
use Rattle.tableau.specs.Named.{NamesNoOther}
use Rattle.tableau.specs.RefutationLists.{RefutationLists}
use Rattle.tableau.specs.ReadBack.{IsWritable}
use Rattle.model_builder.specs.ModelLists.{ModelLists, meaning}
use Rattle.model_builder.specs.Written.{uses_listed_names}
use Rattle.tableau.specs.CounterModelLaws.{IsCounterModel}
use Rattle.tableau_specs.specs.declared.Item.{Item}
use Rattle.tableau_specs.specs.Steps.{IsLegal}
use Rattle.tableau_specs.specs.Reached.{IsReached}
use Rattle.tableau.specs.declared.search.End.{End}
use Rattle.tableau.specs.declared.search.End.TheVariants.{Saturated, Closed, Lost, Spent as OutOfFuel}
use Rattle.tableau.specs.RuleLists.{RuleLists, AreNumbersOf, numbers_in, context_in}
use Rattle.tableau.specs.Beginning.{LastMeets}
use Rattle.tableau.specs.SearchState.{SearchState, context_of, trail_of, IsReachedBy, HasRun}
use Rattle.tableau.specs.Steps.{IsAtModel, IsAtRefutation, ShowsApart}
use Rattle.run_log.specs.declared.entry.Entry.{Entry}
use Rattle.run_log.specs.declared.entry.Entry.TheVariants.{Test, Node}
use Rattle.run_log.specs.declared.entry.TestEnd.{TestEnd}
use Rattle.run_log.specs.declared.entry.TestEnd.TheVariants as E
use Rattle.run_log.specs.Entries.{spent_of}
use Rattle.run_log.specs.HonestLog.{IsHonestEnd, IsHonestEntry}
use Rattle.shq_oracle.specs.declared.answer.Answer.{Answer}
use Rattle.shq_oracle.specs.declared.answer.Answer.TheVariants as Answered
use Rattle.shq_oracle.specs.declared.answer.Outcome.{Outcome}
use Rattle.shq_oracle.specs.declared.answer.Outcome.TheVariants.{Yes, No, Undecided}
use Rattle.shq_oracle.specs.declared.answer.Shown.{Shown}
use Rattle.shq_oracle.specs.declared.found.Found.{Found}
use Rattle.shq_oracle.specs.declared.tested.Tested.{Tested}
use Rattle.shq_oracle.specs.OracleLists.{OracleLists}
use Rattle.shq_oracle.specs.ApartLists.{ApartLists, AreApart, IsAbout, classes_of, entry_of}

-- a refutation of the query over the axioms of the set that it names, which can be written; it names only role axioms
-- and axioms that stand in its lines
pub record IsProof (o : Listed) (s : Limited) (q : Query) (r : RefutationLists) : Type 0 where
  pub named : IsPart r.axioms.members s.members
  pub standing : NamesNoOther o.axioms s r.lines r.axioms
  pub refutes : IsRefutation (question_in o (member_list r.axioms) q) r.shapes r.lines
  pub writable : IsWritable o r

-- a counter-model of the set and the query, which can be written
pub record IsRefuting (o : Listed) (s : Limited) (q : Query) (m : ModelLists) : Type 0 where
  pub refutes : IsCounterModel o (member_list s) q (meaning m)
  pub writable : IsTrue (uses_listed_names o m)

-- the evidence of an answer shows whether the query follows from the set
abbrev pub IsAnswer : Listed → Limited → Query → Answer → Type 0
IsAnswer o s q (Answered.Entailed r) = IsProof o s q r
IsAnswer o s q (Answered.NotEntailed m) = IsRefuting o s q m
IsAnswer o s q Answered.Undecided = Unit {0}

-- an answer without its evidence
abbrev pub outcome_of : Answer → Outcome
outcome_of (Answered.Entailed r) = Yes r.axioms
outcome_of (Answered.NotEntailed m) = No
outcome_of Answered.Undecided = Undecided

-- the axioms of a yes are those that some refutation names
abbrev pub IsOutcome : Listed → Limited → Query → Outcome → Type 0
IsOutcome o s q (Yes u) = (r : RefutationLists) × IsProof o s q r × (u ≡ r.axioms)
IsOutcome o s q No = Unit {0}
IsOutcome o s q Undecided = Unit {0}

-- the end of a test has the outcome; a yes has its axioms
abbrev pub EndsAs : Outcome → TestEnd → Type 0
EndsAs (Yes v) (E.Yes u) = u ≡ v
EndsAs No E.No = Unit {0}
EndsAs Undecided (E.Spent t) = Unit {0}
EndsAs v e = ⊥

-- the end of a test is that of its answer; a yes has the axioms that the refutation names
abbrev pub Matches : Answer → TestEnd → Type 0
Matches a e = EndsAs (outcome_of a) e

-- the log has one entry more: an honest test of the set and the query, which ended with the outcome
pub record AddsTest (o : Listed) (s : Limited) (q : Query) (before after : List Entry) (v : Outcome) : Type 0 where
  pub steps : ℕ
  pub ended : TestEnd
  pub is_log : after ≡ before ++ Test s q steps ended ∷ []
  pub matches : EndsAs v ended
  pub honest : IsHonestEntry o (Test s q steps ended)

-- the same, which ended as it was answered
abbrev pub AppendsTest : Listed → Limited → Query → List Entry → List Entry → Answer → Type 0
AppendsTest o s q before after a = AddsTest o s q before after (outcome_of a)

-- Some legal steps of a search for the query, begun from nothing, lead to a trail whose last item speaks of another
-- first node than the one in question. There is no such node if no individual is listed and the query is on any
-- element: the node in question is number 0 then, and the only first one
pub record MeetsOther (rules : RuleLists) (q : Query) : Type 0 where
  pub steps : ℕ
  pub trail : List Item
  pub reached : IsReached (question_in rules.ontology (numbers_in rules) q) rules.table (context_in rules).rows steps
      trail
  pub meets : LastMeets (context_in rules).first (question_in rules.ontology (numbers_in rules) q).at trail

-- A search for the query by the axioms of the set, which ended at a model after so many legal steps; its run has the
-- trail after each of them. It goes on from a beginning only if a search from nothing can meet another first node
pub record EndsAtModel (o : Listed) (s : Limited) (q : Query) (steps : ℕ) (search : SearchState) : Type 0 where
  pub ontology_is : search.rules.ontology ≡ o
  pub set_is : search.rules.set ≡ s
  pub query_is : search.query ≡ q
  pub steps_are : search.steps ≡ steps
  pub numbers : AreNumbersOf search.rules search.query search.sub search.not_sup
  pub reached : IsReachedBy search
  pub has_run : HasRun search
  pub behind : search.behind ≡ true → MeetsOther search.rules search.query
  pub at_model : IsAtModel search

-- The further classes that a test with this outcome returns. If the query does not follow, they are exactly those that
-- are left out by a search over the same set and query which ends at a model after as many steps as the test took. None
-- are returned if the search asks for more than whether anything is in the subclass, nor with another outcome.
abbrev pub AreFurther : Listed → Limited → Query → ℕ → Outcome → Option Limited → Type 0
AreFurther o s q steps (Yes u) classes = classes ≡ None
AreFurther o s q steps No classes = (search : SearchState) × EndsAtModel o s q steps search × ShowsApart search classes
AreFurther o s q steps Undecided classes = classes ≡ None

-- the same, and the further classes are returned, each with as many steps as the test took
pub record AddsShown (o : Listed) (s : Limited) (q : Query) (before after : List Entry) (v : Shown) : Type 0 where
  pub test : AddsTest o s q before after v.outcome
  pub about : IfSome v.apart (IsAbout o s q.sub)
  pub counted : IfSome v.apart (λ a. a.steps ≡ test.steps)
  pub further : AreFurther o s q test.steps v.outcome (classes_of v.apart)

-- the entry that the class expression is not included in the class was put last, and it is honest; or nothing has
-- changed
abbrev pub Notes : OracleLists → OracleLists → ApartLists → ℕ → Bool → Type 0
Notes old new a class true = (new.log ≡ old.log ++ entry_of a class ∷ [])
    × IsHonestEntry old.ontology (entry_of a class)
Notes old new a class false = new ≡ old

-- if the outcome is undecided, nothing of the budget is left
abbrev pub SpendsAll : OracleLists → Outcome → Type 0
SpendsAll l (Yes u) = Unit {0}
SpendsAll l No = Unit {0}
SpendsAll l Undecided = spent_of l.log ≡ l.budget

-- if the answer is undecided, nothing of the budget is left
abbrev pub LeavesNothing : OracleLists → Answer → Type 0
LeavesNothing l a = SpendsAll l (outcome_of a)

-- a node was logged by one unit of the budget, or nothing was left and nothing has changed
abbrev pub TakesNode : OracleLists → OracleLists → Limited → Bool → Type 0
TakesNode old new node true = (spent_of old.log < old.budget) × (new.log ≡ old.log ++ Node node ∷ [])
TakesNode old new node false = (spent_of old.log ≡ old.budget) × (new.log ≡ old.log)

-- ---- one search

-- how many steps an outcome may take of the fuel: all of it if it is undecided, and no more than there is otherwise
abbrev pub IsFueled : ℕ → ℕ → Outcome → Type 0
IsFueled fuel steps (Yes u) = steps ≤ fuel
IsFueled fuel steps No = steps ≤ fuel
IsFueled fuel steps Undecided = steps ≡ fuel

-- a search with so much fuel ended a test of the set and the query with this outcome, after so many steps
pub record EndsTest (o : Listed) (s : Limited) (q : Query) (fuel : ℕ) (v : Outcome) (steps : ℕ) (ended : TestEnd) :
    Type 0 where
  pub matches : EndsAs v ended
  pub honest : IsHonestEnd o s q steps ended
  pub fueled : IsFueled fuel steps v

-- what a search with so much fuel finds
pub record IsFound (o : Listed) (s : Limited) (q : Query) (fuel : ℕ) (f : Found) : Type 0 where
  pub answer : IsAnswer o s q f.answer
  pub test : EndsTest o s q fuel (outcome_of f.answer) f.steps f.ended

-- the outcome of a search with so much fuel, and its further classes if they are wanted
pub record IsTested (o : Listed) (s : Limited) (q : Query) (fuel : ℕ) (wanted : Bool) (t : Tested) : Type 0 where
  pub outcome : IsOutcome o s q t.outcome
  pub apart : IfSome t.apart (AreApart o s q.sub t.steps)
  pub further : wanted ≡ true → AreFurther o s q t.steps t.outcome t.apart
  pub test : EndsTest o s q fuel t.outcome t.steps t.ended

-- the same of a search, with its rules and its query
abbrev pub IsFoundBy : SearchState → ℕ → Found → Type 0
IsFoundBy s fuel f = IsFound s.rules.ontology s.rules.set s.query fuel f

-- the test is that of the search's own set and query
abbrev pub IsTestedBy : SearchState → ℕ → Bool → Tested → Type 0
IsTestedBy s fuel wanted t = IsTested s.rules.ontology s.rules.set s.query fuel wanted t

-- the numbers of a search stand for its query
abbrev pub HasNumbers : SearchState → Type 0
HasNumbers s = AreNumbersOf s.rules s.query s.sub s.not_sup

-- one more step of the search is legal
abbrev pub MayGoOn : SearchState → Type 0
MayGoOn s = (next : List Item) × IsLegal (context_of s) (trail_of s) next

-- a search that had so much fuel ended so, and that shows its outcome
abbrev pub HasEnded : ℕ → SearchState → End → Type 0
HasEnded fuel s Saturated = IsAtModel s
HasEnded fuel s (Closed r) = IsAtRefutation r s
HasEnded fuel s Lost = ⊥
HasEnded fuel s OutOfFuel = (s.steps ≡ fuel) × MayGoOn s

-- a search has found no outcome, and may go on: memory was not refused, it has made no more steps than it may, and a
-- search from nothing for its query can meet another first node
pub record IsGoingOn (fuel : ℕ) (s : SearchState) : Type 0 where
  pub whole : s.failed ≡ false
  pub goes_on : s.ended ≡ false
  pub within : s.steps ≤ fuel
  pub meets : MeetsOther s.rules s.query

-- if no outcome was found, the search may go on
abbrev pub MayRunOn : ℕ → SearchState → Option Tested → Type 0
MayRunOn fuel s None = IsGoingOn fuel s
MayRunOn fuel s (Some t) = Unit {0}

-- whether a search ended without an outcome
abbrev pub is_lost : End → Bool
is_lost Lost = true
is_lost Saturated = false
is_lost (Closed r) = false
is_lost OutOfFuel = false

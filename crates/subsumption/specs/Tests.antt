-- One test of a query by all axioms.
use Rattle.std.specs.Prelude.{◌≡◌, ℕ, Bool, true, false, List, [], ◌∷◌, ◌++◌, Option, Some, None, slice_get}
use Rattle.axiom_sets.specs.Sets.{Limited}
use Rattle.shq_terms.specs.declared.axioms.Query.{Query}
use Rattle.shq_oracle.specs.Entry.{Entry}
use Rattle.shq_oracle.specs.Entry.TheVariants.{Test}
use Rattle.shq_oracle.specs.TestEnd.{TestEnd}
use Rattle.shq_oracle.specs.TestEnd.TheVariants as E
use Rattle.shq_oracle.specs.Entries.{spent_of}
use Rattle.shq_oracle.specs.HonestLog.{IsHonestEntry}
use Rattle.shq_oracle.specs.OracleLists.{OracleLists}
use Rattle.shq_oracle.specs.ApartLists.{ApartLists}
use Rattle.shq_oracle.specs.declared.answer.Outcome.{Outcome}
use Rattle.shq_oracle.specs.declared.answer.Outcome.TheVariants as O
use Rattle.subsumption.specs.Subsumption.{query_at}
use Rattle.subsumption.specs.LogEnds.{BeginsWith}
use Rattle.subsumption.specs.declared.testing.Verdict.{Verdict}
use Rattle.subsumption.specs.declared.testing.Verdict.TheVariants.{Yes, No, Spent}

-- an outcome without its axioms
abbrev pub verdict_of : Outcome → Verdict
verdict_of (O.Yes u) = Yes
verdict_of O.No = No
verdict_of O.Undecided = Spent

-- a test ended so
abbrev pub EndsAs : Verdict → TestEnd → Type 0
EndsAs Yes (E.Yes u) = Unit {0}
EndsAs No E.No = Unit {0}
EndsAs Spent (E.Spent t) = Unit {0}
EndsAs v e = ⊥

-- where the budget is the verdict, nothing of it is left
abbrev pub SpendsAll : OracleLists → Verdict → Type 0
SpendsAll l Spent = spent_of l.log ≡ l.budget
SpendsAll l _ = Unit {0}

-- one entry more: an honest test of the set and the query, which ended so
pub record IsTested (before after : OracleLists) (s : Limited) (q : Query) (v : Verdict) : Type 0 where
  pub steps : ℕ
  pub ended : TestEnd
  pub is_log : after.log ≡ before.log ++ Test s q steps ended ∷ []
  pub ends_as : EndsAs v ended
  pub honest : IsHonestEntry before.ontology (Test s q steps ended)
  pub spends : SpendsAll after v

-- an entry that it does not follow was put last, or nothing has changed
abbrev pub IsNoted : OracleLists → OracleLists → Limited → Query → Bool → Type 0
IsNoted before after s q true = IsTested before after s q No
IsNoted before after s q false = after ≡ before

-- what was shown last, where anything was, and else what was kept
abbrev pub newest : Option ApartLists → Option ApartLists → Option ApartLists
newest (Some a) kept = Some a
newest None kept = kept

-- the log began so: its first entry tests whether x is included in y
abbrev pub FirstAsks : ℕ → ℕ → ℕ → List Entry → Type 0
FirstAsks count x y log = (s : Limited) × (steps : ℕ) × (e : TestEnd)
    × (slice_get log 0 ≡ Some (Test s (query_at count x y) steps e))

-- where nothing was logged, the log began so, or it has not begun
abbrev pub Begins : ℕ → ℕ → ℕ → OracleLists → OracleLists → Type 0
Begins count x y before after = before.log ≡ [] → BeginsWith (query_at count x y) after.log

-- where nothing was logged, the log began so
abbrev pub HasBegun : ℕ → ℕ → ℕ → OracleLists → OracleLists → Type 0
HasBegun count x y before after = before.log ≡ [] → FirstAsks count x y after.log

-- only the log differs, and its first entry stays
pub record AreAlike (before after : OracleLists) : Type 0 where
  pub ontology : after.ontology ≡ before.ontology
  pub budget : after.budget ≡ before.budget
  pub first : (e : Entry) → slice_get before.log 0 ≡ Some e → slice_get after.log 0 ≡ Some e

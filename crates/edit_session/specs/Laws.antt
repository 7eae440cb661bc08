-- What follows of sessions.
use Rattle.std.specs.Prelude.{◌≡◌, ◌↔◌, ℕ, List, [], ◌++◌}
use Rattle.pinpointing_specs.specs.LocalModule.{axioms_in_set}
use Rattle.shq_terms.specs.Listed.{Listed}
use Rattle.shq_terms.specs.declared.axioms.Numbered.{Numbered}
use Rattle.shq_terms.specs.declared.axioms.Query.{Query}
use Rattle.shq_meaning.specs.Truth.{Entails}
use Rattle.ofn_reader.specs.DocumentContext.{DocumentContext}
use Rattle.ofn_reader.specs.Queries.{IsQueryOn}
use Rattle.shq_oracle.specs.Entry.{Entry}
use Rattle.edit_session.specs.Noted.{nothing_noted}
use Rattle.edit_session.specs.Sessions.{State, SessionLists, begun}
use Rattle.edit_session.specs.ScriptLines.{request, asks}
use Rattle.edit_session.specs.Said.{Said, no_line, IsYes}
use Rattle.edit_session.specs.SessionLog.{IsHonestThen, IsSessionLog}
use Rattle.edit_session.specs.Lines.{MayGoOn}

-- an entry that was honest is honest still where axioms are added and other names are listed
abbrev pub EntriesStayHonest : Type 0
EntriesStayHonest = (o p : Listed) (more : List Numbered) (e : Entry) → p.axioms ≡ o.axioms ++ more → IsHonestThen o e
    → IsHonestThen p e

-- A query is answered with no exactly where it does not follow from the live axioms, as if these stood in a document
-- alone; where it does, with yes and some live axioms from which it follows.
abbrev pub IsFromScratch : State → Query → List ℕ → Type 0
IsFromScratch s q answer = ((answer ≡ no_line) ↔ (¬ Entails (axioms_in_set s.live s.ontology.axioms) q))
    × (Entails (axioms_in_set s.live s.ontology.axioms) q → IsYes s q answer)

-- a query is answered as a new run on the live axioms would answer it
abbrev pub AnswersAreFromScratch : Type 0
AnswersAreFromScratch = (s next : State) (l text answer : List ℕ) (both : Listed) (q : Query) → request l ≡ asks text
    → IsQueryOn s.context s.ontology text both q → Said s l next answer → IsFromScratch s q answer

-- any session may go on with an empty log, whatever was noted of others
abbrev pub EmptyLogsServe : Type 0
EmptyLogsServe = (s : SessionLists) (budget : ℕ) → MayGoOn s budget []

-- a new session may go on with an empty log, which is honest
abbrev pub NewSessionsMayGoOn : Type 0
NewSessionsMayGoOn = (o : Listed) (kept : DocumentContext) (budget : ℕ)
    → MayGoOn (record { state = begun o kept; noted = nothing_noted }) budget [] × IsSessionLog o budget []

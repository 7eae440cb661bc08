-- What is said to a line of a script, and which session it leaves.
use Rattle.std.specs.Prelude.{◌≡◌, ◌⊎◌, ℕ, Bool, true, false, List, [], ◌∷◌, ◌++◌, codes, decimal, Some}
use Rattle.std.specs.FinSet as set
use Rattle.lane_sieve.specs.Sets.{IsPart}
use Rattle.axiom_sets.specs.Sets.{Limited, IsWithin}
use Rattle.pinpointing_specs.specs.LocalModule.{FollowsFrom}
use Rattle.shq_terms.specs.Listed.{Listed}
use Rattle.shq_terms.specs.declared.axioms.Query.{Query}
use Rattle.ofn_expressions.specs.declared.refusal.Refusal.{Refusal}
use Rattle.ofn_reader.specs.Additions.{IsAdditionTo, IsNoAdditionTo}
use Rattle.ofn_reader.specs.Queries.{IsQueryOn, IsNoQueryOn}
use Rattle.job_inputs.specs.Answer.{line}
use Rattle.job_inputs.specs.Complaints.{Complaint, complaint, complaint_text}
use Rattle.job_inputs.specs.declared.complaint.Place.TheVariants as place
use Rattle.job_inputs.specs.SetText.{set_text}
use Rattle.edit_session.specs.Sessions.{State}
use Rattle.edit_session.specs.ScriptLines.{Request, adds, removes, asks, other, request}

-- ---- answers

-- the answer to a line that asks for nothing
abbrev pub bad_line : List ℕ
bad_line = line (codes "bad line")

-- `axiom` or `removed`, and a number
abbrev pub numbered_line : List ℕ → ℕ → List ℕ
numbered_line word k = line (word ++ (32 ∷ decimal k))

-- `yes`, and the numbers of some axioms
abbrev pub yes_line : Limited → List ℕ
yes_line u = line (codes "yes " ++ set_text u)

-- the answer to a query that does not follow
abbrev pub no_line : List ℕ
no_line = line (codes "no")

-- what is wrong with a text that is refused, as it is said of a query
pub record SaysWrong (refusal : Refusal) (answer : List ℕ) : Type 0 where
  pub wrong : Complaint
  pub is_wrong : complaint refusal ≡ Some wrong
  pub is_text : answer ≡ complaint_text place.Query wrong

-- ---- what is said

-- a text is refused, and nothing changes
pub record IsRefusedText (old new : State) (answer : List ℕ) (why : Refusal → Type 0) : Type 0 where
  pub refusal : Refusal
  pub is_why : why refusal
  pub same : new ≡ old
  pub says : SaysWrong refusal answer

-- The text is an axiom. It is put last, with its names, and is live.
pub record IsAdded (old : State) (text : List ℕ) (new : State) (answer : List ℕ) : Type 0 where
  pub number : ℕ
  pub is_axiom : IsAdditionTo old.context old.ontology text new.ontology new.context number
  pub is_live : new.live ≡ set.insert old.live number
  pub says : answer ≡ numbered_line (codes "axiom") number

-- A live axiom is live no more; a number that no live axiom has is refused.
abbrev pub IsRemoved : Bool → State → ℕ → State → List ℕ → Type 0
IsRemoved true old k new answer = (new ≡ record old { live = set.remove old.live k })
    × (answer ≡ numbered_line (codes "removed") k)
IsRemoved false old k new answer = (new ≡ old) × (answer ≡ bad_line)

-- yes, with live axioms from which the query follows
pub record IsYes (s : State) (q : Query) (answer : List ℕ) : Type 0 where
  pub found : Limited
  pub within : IsWithin found.limit found.members
  pub are_live : IsPart found.members s.live
  pub follows : FollowsFrom s.ontology.axioms q found.members
  pub says : answer ≡ yes_line found

-- no, and the query does not follow from the live axioms
pub record IsNo (s : State) (q : Query) (answer : List ℕ) : Type 0 where
  pub follows_not : ¬ FollowsFrom s.ontology.axioms q s.live
  pub says : answer ≡ no_line

-- The text is a query, which is answered. Names that it alone brought are listed no more after that.
pub record IsAnswered (old : State) (text : List ℕ) (new : State) (answer : List ℕ) : Type 0 where
  pub both : Listed
  pub query : Query
  pub is_query : IsQueryOn old.context old.ontology text both query
  pub verdict : IsYes old query answer ⊎ IsNo old query answer
  pub same : new ≡ old

-- what is said to the addition of a text, to the removal of a number, and to a query
abbrev pub IsAddedOrRefused : State → List ℕ → State → List ℕ → Type 0
IsAddedOrRefused old text new answer = IsAdded old text new answer
    ⊎ IsRefusedText old new answer (IsNoAdditionTo old.context old.ontology text)

-- what a line `remove` does and is answered, where the axiom is live or not
abbrev pub IsRemovedOrNot : State → ℕ → State → List ℕ → Type 0
IsRemovedOrNot old k new answer = IsRemoved (set.contains old.live k) old k new answer

-- what a line `ask` does and is answered: the query is answered, or its text is refused
abbrev pub IsAnsweredOrRefused : State → List ℕ → State → List ℕ → Type 0
IsAnsweredOrRefused old text new answer = IsAnswered old text new answer
    ⊎ IsRefusedText old new answer (IsNoQueryOn old.context old.ontology text)

-- what is said to a request, and which session it leaves
abbrev pub SaidTo : State → Request → State → List ℕ → Type 0
SaidTo old (adds text) new answer = IsAddedOrRefused old text new answer
SaidTo old (removes k) new answer = IsRemovedOrNot old k new answer
SaidTo old (asks text) new answer = IsAnsweredOrRefused old text new answer
SaidTo old other new answer = (new ≡ old) × (answer ≡ bad_line)

-- what is said to a line, with its line feed, and the session after it
abbrev pub Said : State → List ℕ → State → List ℕ → Type 0
Said old l new answer = SaidTo old (request l) new answer

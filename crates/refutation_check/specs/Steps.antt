-- What lines do to the branches that are open.
use Rattle.std.specs.Prelude.{◌≡◌, ℕ, ◌+◌, Bool, true, false, length, List, [], ◌∷◌, ◌++◌, Option, Some, None}
use Rattle.calculus_specs.specs.Line.{Line}
use Rattle.calculus_specs.specs.Rules.{Known, nothing_known}
use Rattle.calculus_specs.specs.Valid.{concept_at, open_after, open_after_all, IsBrokenAt}
use Rattle.refutation_rules.specs.declared.outcome.Outcome.{Outcome}
use Rattle.refutation_rules.specs.Outcomes.{branches_after}
use Rattle.refutation_rules.specs.RefutationContext.{RefutationContext, question}
use Rattle.refutation_check.specs.declared.checking.Verdict.{Verdict}
use Rattle.refutation_check.specs.declared.checking.Verdict.TheVariants.{Accepted, Rejected}
use Rattle.refutation_check.specs.Open.{Open, branches, are_known, AreNumberedBranches, IsReady}

-- the branches that a line leaves of those that are open, and several lines of the one that knows nothing
abbrev pub left_by_line : RefutationContext → Open → Line → Option (List Known)
left_by_line f o line = open_after (question f) (concept_at f.shapes) (are_known f.table (branches o)) line

-- what is known in the branches that lines leave open, or none where a line breaks the rules
abbrev pub left_by_lines : RefutationContext → List Line → Option (List Known)
left_by_lines f lines = open_after_all (question f) (concept_at f.shapes) (nothing_known ∷ []) lines

-- what a line leaves is open now, and its concepts are numbers of the table
pub record IsLeft (left : Option (List Known)) (f : RefutationContext) (o : Open) : Type 0 where
  pub are : left ≡ Some (are_known f.table (branches o))
  pub listed : AreNumberedBranches (length f.table) (branches o)

-- or no branch was open, or the premises of the line do not hold in the first one
abbrev pub IsLeftIf : Bool → Option (List Known) → RefutationContext → Open → Type 0
IsLeftIf true left f o = IsLeft left f o
IsLeftIf false left f o = left ≡ None

-- whether the line could be read, of the branches that are open before
abbrev pub IsStep : RefutationContext → Open → Line → RefutationContext → Open → Bool → Type 0
IsStep f o line g p taken = IsLeftIf taken (left_by_line f o line) g p

-- the branch is ready for the outcome, if there is one
abbrev pub IsReadyIf : Open → Option Outcome → Type 0
IsReadyIf o None = Unit {0}
IsReadyIf o (Some outcome) = IsReady o.branch outcome

-- the outcome, if there is one, has taken the place of the branch
abbrev pub IsPutIf : Open → Option Outcome → Open → Type 0
IsPutIf o None p = Unit {0}
IsPutIf o (Some outcome) p = branches p ≡ branches_after o.branch outcome ++ o.waiting

-- lines are accepted where they leave no branch open, and rejected where they break the rules
abbrev pub IsReadAs : RefutationContext → List Line → Verdict → Type 0
IsReadAs f lines Accepted = left_by_lines f lines ≡ Some []
IsReadAs f lines (Rejected place) = IsBrokenAt (question f) (concept_at f.shapes) lines place

-- after so many lines, all of which could be read
abbrev pub IsEnd : Open → ℕ → Verdict → Type 0
IsEnd o count Accepted = o.closed ≡ true
IsEnd o count (Rejected place) = (o.closed ≡ false) × (place ≡ count + 1)

-- where a line could be read, the concepts of the branches are numbers of the table
abbrev pub IsGoingOn : RefutationContext → Open → Bool → Type 0
IsGoingOn f o true = AreNumberedBranches (length f.table) (branches o)
IsGoingOn f o false = Unit {0}

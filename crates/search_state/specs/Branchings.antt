-- The marks of a trail, and the open branchings of the trace to which they belong.
use Rattle.std.specs.Prelude.{◌≡◌, ℕ, ◌+◌, ◌^◌, ◌<◌, true, List, [], ◌∷◌, take, drop, length, Some, slice_get}
use Rattle.std.specs.List.{list_all}
use Rattle.calculus_specs.specs.declared.facts.Fact.{Fact}
use Rattle.tableau_specs.specs.declared.Branch.{Branch}
use Rattle.tableau_specs.specs.declared.Choice.{Choice}
use Rattle.tableau_specs.specs.Steps.{SearchContext, IsAlternative}
use Rattle.tableau_specs.specs.LineLaws.{IsNumbered}
use Rattle.search_trace.specs.Premises.{Added}
use Rattle.search_trace.specs.Grounded.{is_known_within, AreGrounded}
use Rattle.search_trace.specs.Places.{Place}
use Rattle.step_agenda.specs.Entry.{Entry}
use Rattle.step_agenda.specs.Entry.TheVariants.{Mark}
use Rattle.step_lines.specs.Serving.{branch_nodes}
use Rattle.step_lines.specs.Kinds.{IsChild, alternative_count}
use Rattle.search_state.specs.Marked.{marked_in}

-- the children of a branch's line add what its alternatives are, and each alternative has a number for its concept
pub record AreAlternatives (w : SearchContext) (fs : List (Fact ℕ)) (b : Branch) (children : List Added) : Type 0 where
  pub each : (k : ℕ) (f : Fact ℕ) → IsAlternative w.table b (k + 1) f → IsChild w fs children k f
  pub count : length children ≡ alternative_count w.table b
  pub numbered : IsNumbered w.table b

-- The mark of the branching stands at this place of the trail. The nodes of its branch are known before it, each of its
-- alternatives has a number in a mark, and those that come after the one taken are left.
pub record IsMarkOf (w : SearchContext) (es : List Entry) (at : ℕ) (p : Place) : Type 0 where
  pub choice : Choice
  pub stands : slice_get es at ≡ Some (Mark choice)
  pub line : choice.line ≡ p.mark
  pub before : marked_in (take at es) ≡ p.facts
  pub grounded : AreGrounded w.first p.facts
  pub known : list_all (is_known_within w.first p.marks p.facts) (branch_nodes choice.branch) ≡ true
  pub facts : List (Fact ℕ)
  pub children : List Added
  pub alternatives : AreAlternatives w facts choice.branch children
  pub small : alternative_count w.table choice.branch < 2 ^ 32
  pub rest : drop choice.alternative children ≡ p.rest

-- the marks of the branchings stand at these places of the trail, the latest first
abbrev pub AreMarks : SearchContext → List Entry → List ℕ → List Place → Type 0
AreMarks w es [] [] = Unit {0}
AreMarks w es [] (p ∷ ps) = ⊥
AreMarks w es (at ∷ ats) [] = ⊥
AreMarks w es (at ∷ ats) (p ∷ ps) = IsMarkOf w es at p × AreMarks w (take at es) ats ps

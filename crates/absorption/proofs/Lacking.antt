-- What a closed table has.
use Rattle.std.proofs.Common.{ℕ, List}
use Rattle.calculus_specs.specs.declared.facts.Fact.{Fact}
use Rattle.tableau_specs.specs.declared.Branch.{Branch}
use Rattle.tableau_specs.specs.Items.{facts_of}
use Rattle.tableau_specs.specs.Steps.{SearchContext, MayBranch}
use Rattle.tableau_specs.specs.Steps.MayBranch.{on_union, on_filler, on_pair}
use Rattle.tableau_specs.specs.LineLaws.{IsNumbered}
use Rattle.tableau_specs.specs.StepLaws.{CarriedAreListed}
use Rattle.tableau_specs.proofs.End.{end_of_search}
use Rattle.absorption.specs.ClosureLaws.{IsClosedFor, ClosedTablesLackNothing, NoStepIsAnEnd}

numbered : (w : SearchContext) (fs : List (Fact ℕ)) → IsClosedFor w → (b : Branch) → MayBranch w fs b
    → IsNumbered w.table b
numbered w fs closed b (on_union x c parts a h s l) = tt
numbered w fs closed b (on_filler x c n s e y a h shape next l k) = closed.complements c n s e shape
numbered w fs closed b (on_pair x c n s e y z a h shape more i j two apart) = tt

carried : (w : SearchContext) (fs : List (Fact ℕ)) → IsClosedFor w → CarriedAreListed w fs
carried w fs closed x y c s t e h = closed.carried c s e t h.shape h.transitive h.role_below

pub lack_nothing : ClosedTablesLackNothing
lack_nothing w fs closed = (carried w fs closed, numbered w fs closed)

pub no_step : NoStepIsAnEnd
no_step w at sub not_sup k trail lt reached closed none no_legal =
    (end_of_search w at sub not_sup k trail lt reached).1 none (carried w (facts_of trail) closed) no_legal

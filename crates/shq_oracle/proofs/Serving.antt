-- A beginning that is kept serves the rules.
use Rattle.std.proofs.Common.{ℕ, Bool, subst}
use Rattle.std.specs.Prelude.{Option, Some, None, Result, Ok, Err, IfOk, IfSome}
use Rattle.axiom_sets.specs.Sets.{Limited}
use Rattle.shq_terms.specs.NoMemory.{NoMemory}
use Rattle.shq_terms.specs.declared.axioms.Query.{Query}
use Rattle.shq_terms.specs.Listed.{Listed}
use Rattle.tableau.specs.RuleLists.{RuleLists, IsGrown}
use Rattle.tableau.specs.Beginning.{BeginningLists, Serves, IsBeginningOf}
use Rattle.tableau.specs.SearchState.{SearchState}
use Rattle.tableau.proofs.Serving.{serves_still}
use Rattle.shq_oracle.specs.declared.tested.Tested.{Tested}
use Rattle.shq_oracle.specs.Decided.{IsTested}

-- what a search is for others serves its rules
pub served_by : (s : SearchState) (kept : Option BeginningLists) → IsBeginningOf s kept → IfSome kept (Serves s.rules)
served_by s None is = tt
served_by s (Some b) is = is.serves

-- it still does once they have more numbers
pub served_still : (old new : RuleLists) (kept : Option BeginningLists) → IsGrown old new
    → IfSome kept (Serves old) → IfSome kept (Serves new)
served_still old new None grown h = tt
served_still old new (Some b) grown h = serves_still old new b grown h

-- what a test is by rules that have grown, it is by the old ones
pub tested_grown : (old new : RuleLists) (q : Query) (fuel : ℕ) (wanted : Bool) → IsGrown old new
    → (tested : Result Tested NoMemory) → IfOk tested (IsTested new.ontology new.set q fuel wanted)
    → IfOk tested (IsTested old.ontology old.set q fuel wanted)
tested_grown old new q fuel wanted grown (Ok t) h =
    subst (λ (s : Limited). IsTested old.ontology s q fuel wanted t) grown.set
    (subst (λ (o : Listed). IsTested o new.set q fuel wanted t) grown.ontology h)
tested_grown old new q fuel wanted grown (Err e) h = tt

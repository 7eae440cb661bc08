-- What lines say of a refutation whose axioms are in the set.
use Rattle.std.proofs.Common.{◌≡◌, ℕ, zero, suc, List, length, Result, Ok, Err, subst, arith}
use Rattle.std.specs.Prelude.{IfOk}
use Rattle.axiom_sets.specs.NumberSets.{IsPart}
use Rattle.axiom_sets.specs.Sets.{Limited, member_list}
use Rattle.shq_terms.specs.NoMemory.{NoMemory}
use Rattle.shq_terms.specs.Listed.{Listed}
use Rattle.shq_terms.specs.declared.axioms.Query.{Query}
use Rattle.calculus_specs.specs.Line.{Line}
use Rattle.calculus_specs.specs.Valid.{concept_at, IsBrokenAt}
use Rattle.calculus_specs.proofs.Stack.{run_refutes}
use Rattle.refutation_rules.specs.RefutationLists.{RefutationLists}
use Rattle.refutation_rules.specs.RefutationContext.{RefutationContext}
use Rattle.refutation_check.specs.declared.checking.Verdict.{Verdict}
use Rattle.refutation_check.specs.declared.checking.Verdict.TheVariants.{Accepted, Rejected}
use Rattle.refutation_check.specs.Steps.{IsReadAs}
use Rattle.refutation_check.specs.Verdicts.{named_question, IsRejectedAt, IsJudgedAs}

-- the context is that of a refutation of a query
pub record IsFor (o : Listed) (query : Query) (r : RefutationLists) (f : RefutationContext) : Type 0 where
  pub individuals_are : f.individuals ≡ length o.individuals
  pub axioms_are : f.axioms ≡ o.axioms
  pub named_are : f.named ≡ member_list r.axioms
  pub query_is : f.query ≡ query
  pub shapes_are : f.shapes ≡ r.shapes

module _ (o : Listed) (set : Limited) (query : Query) (r : RefutationLists)
    (named : IsPart r.axioms.members set.members) where
  abbrev context : RefutationContext → RefutationContext
  context f = record {
    individuals = length o.individuals;
    axioms = o.axioms;
    named = member_list r.axioms;
    query = query;
    shapes = r.shapes;
    table = f.table;
  }

  same_context : (f : RefutationContext) → IsFor o query r f → f ≡ context f
  same_context f h i = record {
    individuals = h.individuals_are i;
    axioms = h.axioms_are i;
    named = h.named_are i;
    query = h.query_is i;
    shapes = h.shapes_are i;
    table = f.table;
  }

  rejected : (place : ℕ) → IsBrokenAt (named_question o query r) (concept_at r.shapes) r.lines place
      → IsRejectedAt o set query r place
  rejected zero b = absurd (omega (arith, b.counts))
  rejected (suc place) b = record { named = named; breaks = b }

  judged : (f : RefutationContext) (v : Verdict) → IsReadAs (context f) r.lines v → IsJudgedAs o set query r v
  judged f Accepted h = record { named = named; refutes = run_refutes (named_question o query r) r.shapes r.lines h }
  judged f (Rejected place) h = rejected place h

  read_as : (f : RefutationContext) (lines : List Line) (v : Verdict) → IsFor o query r f → lines ≡ r.lines
      → IsReadAs f lines v → IsJudgedAs o set query r v
  read_as f lines v is e h =
      judged f v
      (subst (λ (ls : List Line). IsReadAs (context f) ls v) e
      (subst (λ (g : RefutationContext). IsReadAs g lines v) (same_context f is) h))

  pub judged_ok : (f : RefutationContext) (lines : List Line) (result : Result Verdict NoMemory) → IsFor o query r f
      → lines ≡ r.lines → IfOk result (IsReadAs f lines) → IfOk result (IsJudgedAs o set query r)
  judged_ok f lines (Ok v) is e h = read_as f lines v is e h
  judged_ok f lines (Err e') is e h = tt

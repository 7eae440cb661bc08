-- What the rules of a search are made of, and what is always so of them.
use Rattle.std.specs.Prelude.{◌≡◌, ℕ, ◌+◌, ◌<◌, List, length}
use Rattle.shq_terms.specs.Listed.{Listed}
use Rattle.shq_terms.specs.declared.axioms.Query.{Query}
use Rattle.absorption.specs.Sets.{Limited, member_list}
use Rattle.calculus_specs.specs.Shape.{Shape, IsTable}
use Rattle.calculus_specs.specs.Normal.{normal_form, negated_form}
use Rattle.calculus_specs.specs.Tree.{tree_of}
use Rattle.calculus_specs.specs.Rows.{Theory}
use Rattle.ontology_limits.specs.Numbers.{Extends}
use Rattle.absorption.specs.Theory.{theory_of, fact_of_axiom, question_in}
use Rattle.absorption.specs.Steps.{SearchContext}
use Rattle.absorption.specs.Reached.{FactsHaveNumbers}
use Rattle.absorption.specs.ClosureLaws.{IsClosedFor}
use Rattle.absorption.specs.Rows.{plain_rows}
use Rattle.absorption.specs.Places.{FiledRows, all_filed}
use Rattle.absorption.specs.Tables.{IsRowTable}
use Rattle.step_finders.specs.declared.state.Given.{Given}
use Rattle.step_finders.specs.Giving.{AreGiven}

-- the ontology, the set of its axioms that are read, the concepts by number, the rows of the set, and the facts that it
-- gives of individuals
pub record RuleLists : Type 0 where
  pub ontology : Listed
  pub set : Limited
  pub table : List Shape
  pub filed : FiledRows
  pub given : List Given

-- the numbers of the axioms, ascending
abbrev pub numbers_in : RuleLists → List ℕ
numbers_in r = member_list r.set

-- the theory of the axioms of the rules
abbrev pub theory_in : RuleLists → Theory
theory_in r = theory_of r.ontology.axioms (numbers_in r)

-- what the steps of a search read: each individual has a first node, and there is one more
abbrev pub context_in : RuleLists → SearchContext
context_in r = record {
  theory = theory_in r;
  table = r.table;
  rows = plain_rows (all_filed r.filed);
  first = length r.ontology.individuals + 1;
  fact_of = fact_of_axiom (length r.ontology.individuals) r.ontology.axioms (numbers_in r);
}

-- The rows and the given facts are those of the set, by numbers of the table, which lacks none that a search can need.
pub record IsReady (r : RuleLists) : Type 0 where
  pub tabled : IsTable r.table
  pub closed : IsClosedFor (context_in r)
  pub row_table : IsRowTable r.ontology.axioms (numbers_in r) r.table r.filed
  pub facts_are : AreGiven (context_in r) r.given
  pub have_numbers : (q : Query) → FactsHaveNumbers (question_in r.ontology (numbers_in r) q) r.table

-- the same ontology, set, rows and given facts, and each number that there was
pub record IsGrown (old new : RuleLists) : Type 0 where
  pub ontology : new.ontology ≡ old.ontology
  pub set : new.set ≡ old.set
  pub filed : new.filed ≡ old.filed
  pub given : new.given ≡ old.given
  pub table : Extends old.table new.table

-- the numbers stand for the normal form of the query's left side, and for that of the complement of its right side
pub record AreNumbersOf (r : RuleLists) (q : Query) (sub not_sup : ℕ) : Type 0 where
  pub sub_listed : sub < length r.table
  pub sub_is : tree_of r.table sub ≡ normal_form q.sub
  pub not_sup_listed : not_sup < length r.table
  pub not_sup_is : tree_of r.table not_sup ≡ negated_form q.sup

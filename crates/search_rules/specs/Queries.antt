-- What it is that the numbers of a query are found.
use Rattle.std.specs.Prelude.{◌≡◌, List, Option, None, Some}
use Rattle.calculus_specs.specs.Normal.{normal_form, negated_form}
use Rattle.calculus_specs.specs.Shape.{Shape, IsTable}
use Rattle.shq_terms.specs.declared.axioms.Query.{Query}
use Rattle.ontology_limits.specs.Numbers.{Extends, IsNumber}
use Rattle.ontology_limits.specs.RoleAxiom.{RoleAxiom}
use Rattle.ontology_limits.specs.Steps.{is_transitive}
use Rattle.ontology_limits.specs.Paths.{is_below}
use Rattle.absorption.specs.Closed.{IsClosed}
use Rattle.absorption.specs.Places.{RowsByNumber}
use Rattle.search_rules.specs.declared.query_numbers.QueryNumbers.{QueryNumbers}
use Rattle.search_rules.specs.Lists.{NumberLists}
use Rattle.search_rules.specs.Tables.{AreNumberLists}

-- the table is as before, or these are its lists
abbrev pub HasListsIf : List Shape → List Shape → List RoleAxiom → RowsByNumber → Option NumberLists → Type 0
HasListsIf old new roles at_names None = new ≡ old
HasListsIf old new roles at_names (Some lists) = AreNumberLists new roles at_names lists

-- the numbers are those of what the query asks, in a closed table that begins with the earlier one
pub record IsFound (old new : List Shape) (roles : List RoleAxiom) (at_names : RowsByNumber) (q : Query)
    (found : QueryNumbers) : Type 0 where
  pub kept : Extends old new
  pub tabled : IsTable new
  pub closed : IsClosed (is_below roles) (is_transitive roles) new
  pub sub_is : IsNumber new found.sub (normal_form q.sub)
  pub not_sup_is : IsNumber new found.not_sup (negated_form q.sup)
  pub lists : HasListsIf old new roles at_names found.tables

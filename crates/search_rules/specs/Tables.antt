-- The tables that answer what the rules are asked, by number.
use Rattle.std.specs.Prelude.{◌≡◌, ℕ, ◌<◌, ◌&&◌, Bool, List, [], map, length, Option, None, Some, MatchOption}
use Rattle.std.specs.Prelude.{slice_index_or}
use Rattle.std.specs.FinSet as sets
use Rattle.axiom_sets.specs.Sets.{Limited}
use Rattle.calculus_specs.specs.Shape.{Shape, shape_of}
use Rattle.calculus_specs.specs.Shape.Shape.{all_of}
use Rattle.calculus_specs.specs.Tree.{IsComplement}
use Rattle.ontology_limits.specs.Meeting.{is_role_number}
use Rattle.ontology_limits.specs.RoleAxiom.{RoleAxiom}
use Rattle.ontology_limits.specs.RoleAxioms.{role_axioms}
use Rattle.ontology_limits.specs.Steps.{is_transitive}
use Rattle.ontology_limits.specs.Paths.{is_below}
use Rattle.absorption.specs.Steps.{SearchContext}
use Rattle.absorption.specs.Places.{RowsByNumber, FiledRows}
use Rattle.step_finders.specs.Found.{AreCarriesOf}
use Rattle.step_finders.specs.Clashing.{AreMosts}
use Rattle.search_rules.specs.declared.edge_tables.Side.TheVariants.{Begin, End}
use Rattle.search_rules.specs.Lists.{list_at, NumberLists, EdgeLists}
use Rattle.search_rules.specs.RuleLists.{RuleLists, numbers_in, IsReady}
use Rattle.search_rules.specs.Files.{plain_of, waits_for, rows_at_shape, edge_rows}

-- what a search reads of a table and roles alone
abbrev pub role_context : List Shape → List RoleAxiom → SearchContext
role_context table roles = record {
  theory = record { parts = []; below = is_below roles; is_transitive = is_transitive roles };
  table = table;
  rows = [];
  first = 1;
  fact_of = λ a p. None;
}

-- the role and the filler of a universal restriction
abbrev pub universal_of : Shape → Option (ℕ × ℕ)
universal_of (all_of s e) = Some (s, e)
universal_of _ = None

-- the complement of a number, where the table has one
abbrev pub FindsComplement : List Shape → ℕ → Option ℕ → Type 0
FindsComplement table c found = MatchOption found ((d : ℕ) → ¬ IsComplement table c d) (λ d. IsComplement table c d)

-- the lists are those of the concepts of a table
pub record AreNumberLists (table : List Shape) (roles : List RoleAxiom) (at_names : RowsByNumber) (lists : NumberLists)
    : Type 0 where
  pub carries_are : (c : ℕ) → AreCarriesOf (role_context table roles) (shape_of table c) (list_at lists.carries c)
  pub complements_are : (c : ℕ) → c < length table → FindsComplement table c (slice_index_or lists.complements c None)
  pub mosts_are : (c : ℕ) → AreMosts table c (list_at lists.mosts c)
  pub named_are : (c : ℕ) → list_at lists.named c ≡ rows_at_shape at_names (shape_of table c)

-- they are those of the rows
pub record AreEdgeLists (below : ℕ → ℕ → Bool) (filed : FiledRows) (lists : EdgeLists) : Type 0 where
  pub general_are : lists.general ≡ map plain_of filed.general
  pub begins_are : (r : ℕ) → list_at lists.begins r ≡ edge_rows below (waits_for Begin) filed.at_roles r
  pub ends_are : (r : ℕ) → list_at lists.ends r ≡ edge_rows below (waits_for End) filed.at_roles r

-- what is kept of the rules is what it is to be
pub record AreKept (r : RuleLists) (role_set : Limited) (roles : List RoleAxiom) (numbers : NumberLists)
    (edges : EdgeLists) : Type 0 where
  pub ready : IsReady r
  pub role_limit : role_set.limit ≡ r.set.limit
  pub role_members : (k : ℕ) → sets.contains role_set.members k
      ≡ (sets.contains r.set.members k && is_role_number r.ontology.axioms k)
  pub roles_are : roles ≡ role_axioms r.ontology.axioms (numbers_in r)
  pub number_lists : AreNumberLists r.table roles r.filed.at_names numbers
  pub edge_lists : AreEdgeLists (is_below roles) r.filed edges

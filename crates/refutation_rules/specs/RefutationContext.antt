-- What the rule lines of one refutation are read by.
use Rattle.std.specs.Prelude.{◌≡◌, ℕ, ◌<◌, ◌≤◌, ◌&&◌, true, List, [], ◌∷◌, length, Option, Some, None}
use Rattle.std.specs.List.{list_all}
use Rattle.shq_terms.specs.Concept.{Concept, bottom, name, complement, all_of}
use Rattle.shq_terms.specs.declared.axioms.Numbered.{Numbered as Axiom}
use Rattle.calculus_specs.specs.Normal.{normal_form, negated_form}
use Rattle.calculus_specs.specs.Shape.{Shape, has_parts_below, is_normal}
use Rattle.calculus_specs.specs.Tree.{tree_over, trees_of, tree_of}
use Rattle.calculus_specs.specs.Rows.{Theory, part_at}
use Rattle.shq_terms.specs.declared.axioms.Query.{Query}
use Rattle.shq_nnf.specs.Numbers.{IsNumber}
use Rattle.shq_nnf.specs.Shapes.{form_of}
use Rattle.shq_nnf.specs.declared.shapes.Shape.{Shape as Shown}
use Rattle.role_box.specs.declared.role_axiom.RoleAxiom.{RoleAxiom}
use Rattle.role_box.specs.RoleAxioms.{role_axioms}
use Rattle.row_cache.specs.Cache.{CacheState}
use Rattle.row_cache.specs.Rows.{row_for, IsRow, range_for, IsRange}
use Rattle.row_cache.specs.declared.cached_row.CachedRow.{CachedRow}
use Rattle.row_cache.specs.declared.cached_row.CachedRange.{CachedRange}
use Rattle.branch_facts.specs.NumberedBranch.{NumberedBranch as Branch, has_node}
use Rattle.calculus_specs.specs.State.{has, has_tree, has_edge}
use Rattle.calculus_specs.specs.declared.facts.Fact.TheVariants.{Has}
use Rattle.calculus_specs.specs.Line.{Line}
use Rattle.calculus_specs.specs.Line.Line.{carry_line, choose_line, clash_line}
use Rattle.calculus_specs.specs.Rules.{Question, Known, knows, when, children_of, at_concept}
use Rattle.calculus_specs.specs.Rules.{with_facts as known_with}
use Rattle.calculus_specs.specs.Valid.{concept_at}
use Rattle.row_cache.specs.Theory.{theory_of, question_of}
use Rattle.refutation_rules.specs.declared.outcome.Outcome.{Outcome}
use Rattle.refutation_rules.specs.Numbers.{AreAllNumbered}
use Rattle.refutation_rules.specs.Outcomes.{known_of, branch_with_facts, children_after, IsFitIfSome}

-- how many individuals the ontology lists, its axioms and the numbers of those that are named, the query, the shapes of
-- the refutation's concepts, and the table by whose numbers branches are kept
pub record RefutationContext : Type 0 where
  pub individuals : ℕ
  pub axioms : List Axiom
  pub named : List ℕ
  pub query : Query
  pub shapes : List Shape
  pub table : List Shape

-- what is to be refuted
abbrev pub question : RefutationContext → Question
question f = question_of f.individuals f.axioms f.named f.query

-- the theory of the axioms that the refutation names
abbrev pub theory : RefutationContext → Theory
theory f = theory_of f.axioms f.named

-- the branches that a line leaves of one
abbrev pub line_children : RefutationContext → Branch → Line → Option (List Known)
line_children f k line = children_of (question f) (concept_at f.shapes) (known_of f.table k) line

-- what a line leaves of a branch is what the outcome says, and its facts and nodes fit
pub record IsOutcome (f : RefutationContext) (k : Branch) (line : Line) (o : Option Outcome) : Type 0 where
  pub children : line_children f k line ≡ children_after f.table k o
  pub fit : IsFitIfSome (length f.table) k o

-- the number of the table that stands for the concept, if there is one
abbrev pub StandsFor : List Shape → Option Concept → Option ℕ → Type 0
StandsFor table c None = c ≡ None
StandsFor table c (Some n) = (c ≡ Some (tree_of table n)) × (n < length table)

-- the line goes on from the concept of this shape
pub record IsHeldShape (f : RefutationContext) (k : Branch) (x c : ℕ) (s : Shape) : Type 0 where
  pub parts_below : has_parts_below (length f.table) s ≡ true
  pub normal : is_normal f.table s ≡ true
  pub goes_on : (answer : Concept → Option (List Known))
      → at_concept (known_of f.table k) x (concept_at f.shapes c) answer ≡ answer (tree_over (trees_of f.table) s)

-- the shape of the concept where the node is known and has it
abbrev pub IsHeld : RefutationContext → Branch → ℕ → ℕ → Option Shown → Type 0
IsHeld f k x c None = (answer : Concept → Option (List Known))
    → at_concept (known_of f.table k) x (concept_at f.shapes c) answer ≡ None
IsHeld f k x c (Some s) = IsHeldShape f k x c (form_of s)

-- what is left of the branch, where the premises hold, is that the node y is in the concept of the number, if there is
-- one
abbrev pub AddsConcept : List Shape → Branch → Option (List Known) → ℕ → Option ℕ → Type 0
AddsConcept table k children y None = children ≡ None
AddsConcept table k children y (Some n) = (n < length table)
    × (children ≡ Some (known_of table (branch_with_facts k (Has y n ∷ [])) ∷ []))

-- where the premises of the line hold, it leaves that the node is in the concept of the number, if there is one
abbrev pub LineAdds : RefutationContext → Branch → Line → ℕ → Option ℕ → Type 0
LineAdds f k line y found = AddsConcept f.table k (line_children f k line) y found

-- and the same for a restriction that a role passes on, by the number of its filler
abbrev pub LinePassesOn : RefutationContext → Branch → ℕ → ℕ → ℕ → ℕ → Option ℕ → Type 0
LinePassesOn f k x y t c None = line_children f k (carry_line x y t c) ≡ None
LinePassesOn f k x y t c (Some e) = (e < length f.table)
    × (line_children f k (carry_line x y t c)
    ≡ Some (known_with (known_of f.table k) (Has y (all_of t (tree_of f.table e)) ∷ []) ∷ []))

-- a branch for the concept of the number and one for its complement, if there is a number
abbrev pub LineChooses : RefutationContext → Branch → ℕ → ℕ → Option ℕ → Type 0
LineChooses f k y c None = line_children f k (choose_line y c) ≡ None
LineChooses f k y c (Some n) = (n < length f.table)
    × (line_children f k (choose_line y c)
    ≡ Some (known_with (known_of f.table k) (Has y (tree_of f.table n) ∷ [])
    ∷ known_with (known_of f.table k) (Has y (negated_form (tree_of f.table n)) ∷ []) ∷ []))

-- the branch is closed if the node has the complement of the class, if there is one
abbrev pub LineCloses : RefutationContext → Branch → ℕ → ℕ → Option ℕ → Type 0
LineCloses f k x c None = line_children f k (clash_line x c) ≡ None
LineCloses f k x c (Some a) =
    line_children f k (clash_line x c) ≡ when (has_tree (known_of f.table k).facts x (complement (name a))) (Some [])

-- ---- rows that are used

-- the row of a part for some positions, and that of a range axiom, by the axioms that the refutation names
abbrev pub IsUsableRow : RefutationContext → ℕ → ℕ → List ℕ → Option CachedRow → Type 0
IsUsableRow f a p positions row = IsRow f.table (row_for (part_at (theory f) a p) positions) row

-- the range is that of the named axiom, or there is none
abbrev pub IsUsableRange : RefutationContext → ℕ → Option CachedRange → Type 0
IsUsableRange f a row = IsRange f.table (range_for (part_at (theory f) a 1)) row

-- the concept of the row where the node is known and has each of the premises
abbrev pub row_used : Branch → ℕ → Option CachedRow → Option ℕ
row_used k x None = None
row_used k x (Some r) = when (has_node k x && list_all (has k.facts x) r.premises) (Some r.concept)

-- the class of the range where an edge of a role below its own leads from one node to the other
abbrev pub range_used : RefutationContext → Branch → ℕ → ℕ → Option CachedRange → Option ℕ
range_used f k x y None = None
range_used f k x y (Some r) =
    when (knows (known_of f.table k) x && knows (known_of f.table k) y
    && has_edge (known_of f.table k).facts (λ q. (theory f).below q r.role) x y)
    (Some r.concept)

-- what is kept for a refutation of a query: there is a number for each first node, the roles are by the axioms that the
-- refutation names, and its concepts, the two sides of the query and bottom have their numbers in the table
pub record IsRefutationContext (individuals : ℕ) (rows : CacheState) (shapes : List Shape) (query : Query)
    (roles : List RoleAxiom) (numbers : List ℕ) (sub not_sup none : ℕ) : Type 0 where
  pub few_individuals : individuals ≤ 20000
  pub roles_are : roles ≡ role_axioms rows.axioms rows.named
  pub concepts : AreAllNumbered shapes rows.table numbers
  pub sub_is : IsNumber rows.table sub (normal_form query.sub)
  pub not_sup_is : IsNumber rows.table not_sup (negated_form query.sup)
  pub bottom_is : IsNumber rows.table none bottom

-- the same context over a longer table
pub record IsSameButTable (earlier later : RefutationContext) : Type 0 where
  pub individuals : later.individuals ≡ earlier.individuals
  pub axioms : later.axioms ≡ earlier.axioms
  pub named : later.named ≡ earlier.named
  pub query : later.query ≡ earlier.query
  pub shapes : later.shapes ≡ earlier.shapes

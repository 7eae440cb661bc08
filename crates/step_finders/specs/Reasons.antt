-- Why a node gets a concept: what the rule line of the step asks.
use Rattle.std.specs.Prelude.{◌≡◌, ℕ, ◌<◌, ◌==◌, true, false, List, Some, Contains, slice_get}
use Rattle.std.specs.List.{list_all}
use Rattle.calculus_specs.specs.Rows.Trigger.{always, edge, end_of}
use Rattle.calculus_specs.specs.Shape.{shape_of}
use Rattle.calculus_specs.specs.Shape.Shape.{intersection, all_of}
use Rattle.calculus_specs.specs.declared.facts.Fact.{Fact}
use Rattle.calculus_specs.specs.State.{node_count_from, has, has_edge}
use Rattle.tableau_specs.specs.Steps.{SearchContext, Adds}
use Rattle.step_finders.specs.declared.state.PlainRow.{PlainRow}
use Rattle.step_finders.specs.declared.state.NamedRow.{NamedRow}
use Rattle.step_finders.specs.declared.reason.Addition.{Addition}
use Rattle.step_finders.specs.declared.reason.Reason.{Reason}
use Rattle.step_finders.specs.declared.reason.Reason.TheVariants as R
use Rattle.step_finders.specs.Found.{Files, IsPlain, IsAtEdge, IsNamed}

-- an edge by this very role leads from node x to node y
pub record IsEdge (first : ℕ) (fs : List (Fact ℕ)) (r x y : ℕ) : Type 0 where
  pub begin_is_node : x < node_count_from first fs
  pub end_is_node : y < node_count_from first fs
  pub leads : has_edge fs (λ q. q == r) x y ≡ true

module _ (w : SearchContext) (fs : List (Fact ℕ)) where
  -- x has the intersection c, of which d is a part
  pub record IsByAnd (c x d : ℕ) : Type 0 where
    pub is_node : x < node_count_from w.first fs
    pub holds : has fs x c ≡ true
    pub parts : List ℕ
    pub shape : shape_of w.table c ≡ intersection parts
    pub is_part : Contains parts d

  -- an edge leads to x from a node with the universal restriction c, whose filler is d
  pub record IsByAll (from r c x d : ℕ) : Type 0 where
    pub is_edge : IsEdge w.first fs r from x
    pub holds : has fs from c ≡ true
    pub role : ℕ
    pub shape : shape_of w.table c ≡ all_of role d
    pub role_below : w.theory.below r role ≡ true

  -- an edge leads to x from a node with the universal restriction c, which a transitive role carries on as d
  pub record IsByCarry (from r over c x d : ℕ) : Type 0 where
    pub is_edge : IsEdge w.first fs r from x
    pub holds : has fs from c ≡ true
    pub role : ℕ
    pub filler : ℕ
    pub shape : shape_of w.table c ≡ all_of role filler
    pub transitive : w.theory.is_transitive over ≡ true
    pub over_below : w.theory.below over role ≡ true
    pub role_below : w.theory.below r over ≡ true
    pub carried : shape_of w.table d ≡ all_of over filler

  -- x has all that a row waits for, which stands at this place among those that wait for c, and gives d
  pub record IsByNamed (files : Files) (c place x d : ℕ) : Type 0 where
    pub is_node : x < node_count_from w.first fs
    pub row : NamedRow
    pub stands : slice_get (files.named c) place ≡ Some row
    pub is_named : IsNamed w row
    pub waits : list_all (has fs x) row.waits ≡ true
    pub gives : row.gives ≡ d

  -- the row is used at each node, and gives d
  pub record IsByGeneral (u : PlainRow) (x d : ℕ) : Type 0 where
    pub is_node : x < node_count_from w.first fs
    pub is_plain : IsPlain w always u
    pub gives : u.gives ≡ d

  -- an edge leads from x to another node, and the row that gives d is used where such an edge begins
  pub record IsByBegin (r to : ℕ) (u : PlainRow) (x d : ℕ) : Type 0 where
    pub is_edge : IsEdge w.first fs r x to
    pub is_at_edge : IsAtEdge w edge r u
    pub gives : u.gives ≡ d

  -- an edge leads from another node to x, and the row that gives d is used where such an edge ends
  pub record IsByEnd (from r : ℕ) (u : PlainRow) (x d : ℕ) : Type 0 where
    pub is_edge : IsEdge w.first fs r from x
    pub is_at_edge : IsAtEdge w end_of r u
    pub gives : u.gives ≡ d

  -- this is why node x gets d
  abbrev pub HasReason : Files → Reason → ℕ → ℕ → Type 0
  HasReason files (R.And c) x d = IsByAnd c x d
  HasReason files (R.All from r c) x d = IsByAll from r c x d
  HasReason files (R.Carry from r over c) x d = IsByCarry from r over c x d
  HasReason files (R.Named c place) x d = IsByNamed files c place x d
  HasReason files (R.General u) x d = IsByGeneral u x d
  HasReason files (R.Begin r to u) x d = IsByBegin r to u x d
  HasReason files (R.End from r u) x d = IsByEnd from r u x d

  -- a concept that is to be added to a node, and why
  pub record IsAddition (files : Files) (a : Addition) : Type 0 where
    pub adds : Adds w fs a.node a.concept
    pub lacks : has fs a.node a.concept ≡ false
    pub reason : HasReason files a.reason a.node a.concept

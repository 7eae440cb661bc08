-- What a full look through a state finds, and what it means that it finds nothing.
use Rattle.std.specs.Prelude.{◌≡◌, ℕ, ◌<◌, ◌==◌, true, false, List, All, Contains, map, Some, slice_get}
use Rattle.std.specs.List.{list_any, list_all}
use Rattle.shq_nnf.specs.Concept.{Concept}
use Rattle.calculus_specs.specs.Rows.{Row, Trigger, part_at, conjunct_at}
use Rattle.calculus_specs.specs.Rows.Part.{inclusion}
use Rattle.calculus_specs.specs.Rows.Trigger.{always, names, edge, end_of}
use Rattle.shq_nnf.specs.Numbers.{AreNumbers}
use Rattle.step_finders.specs.declared.state.PlainRow.{PlainRow}
use Rattle.step_finders.specs.declared.state.NamedRow.{NamedRow}
use Rattle.calculus_specs.specs.Shape.{Shape, shape_of}
use Rattle.calculus_specs.specs.Shape.Shape.{intersection, all_of}
use Rattle.calculus_specs.specs.declared.facts.Fact.{Fact}
use Rattle.calculus_specs.specs.State.{node_count_from, has, is_successor}
use Rattle.tableau_specs.specs.Steps.{SearchContext, below_of, Adds, IsCarried, is_used_at}

-- a pair of a transitive role t below s and a concept 'all t e'
pub record IsCarry (w : SearchContext) (s e : ℕ) (pair : ℕ × ℕ) : Type 0 where
  pub transitive : w.theory.is_transitive pair.0 ≡ true
  pub role_below : w.theory.below pair.0 s ≡ true
  pub shape : shape_of w.table pair.1 ≡ all_of pair.0 e

-- the pairs for 'all s e' are such, and there is one for each transitive role below s
pub record AreCarries (w : SearchContext) (s e : ℕ) (pairs : List (ℕ × ℕ)) : Type 0 where
  pub each : All (IsCarry w s e) pairs
  pub every : (t : ℕ) → w.theory.is_transitive t ≡ true → w.theory.below t s ≡ true
      → list_any (λ p. p.0 == t) pairs ≡ true

-- the pairs are those to which a shape 'all' is carried
abbrev pub AreCarriesOf : SearchContext → Shape → List (ℕ × ℕ) → Type 0
AreCarriesOf w (all_of s e) pairs = AreCarries w s e pairs
AreCarriesOf w _ pairs = Unit {0}

-- ---- rows, filed by what they wait for

-- the places where rows are looked up: those that are used at each node; those that wait for a concept, by that
-- concept; those that are used where an edge of a role begins, and where one ends, by that role
pub record Files : Type 0 where
  pub general : List PlainRow
  pub named : ℕ → List NamedRow
  pub begins : ℕ → List PlainRow
  pub ends : ℕ → List PlainRow

-- the plain row is a row of the search with this trigger
pub record IsPlain (w : SearchContext) (t : Trigger) (u : PlainRow) : Type 0 where
  pub row : Row
  pub is_in : Contains w.rows row
  pub axiom_is : row.axiom_number ≡ u.«axiom»
  pub part_is : row.part_number ≡ u.part
  pub gives_is : row.concept ≡ u.gives
  pub trigger_is : row.trigger ≡ t

-- it is used at edges of r: its role is above r
pub record IsAtEdge (w : SearchContext) (trigger : ℕ → Trigger) (r : ℕ) (u : PlainRow) : Type 0 where
  pub role : ℕ
  pub role_above : w.theory.below r role ≡ true
  pub is_plain : IsPlain w (trigger role) u

-- it is a row of the search that waits for the names at its positions, by their numbers
pub record IsNamed (w : SearchContext) (u : NamedRow) : Type 0 where
  pub row : Row
  pub is_in : Contains w.rows row
  pub axiom_is : row.axiom_number ≡ u.«axiom»
  pub part_is : row.part_number ≡ u.part
  pub gives_is : row.concept ≡ u.gives
  pub trigger_is : row.trigger ≡ names u.positions
  pub conjuncts : List Concept
  pub right : Concept
  pub is_part : part_at w.theory u.«axiom» u.part ≡ Some (inclusion conjuncts right)
  pub waits_are : AreNumbers w.table u.waits (map (conjunct_at conjuncts) u.positions)

-- the plain row gives x nothing that it does not have
abbrev pub PlainHolds : List (Fact ℕ) → ℕ → PlainRow → Type 0
PlainHolds fs x u = has fs x u.gives ≡ true

-- the row gives x nothing that it does not have
pub record NamedHold (fs : List (Fact ℕ)) (x : ℕ) (u : NamedRow) : Type 0 where
  pub holds : list_all (has fs x) u.waits ≡ true → has fs x u.gives ≡ true

-- the node has all names that a row waits for, and lacks what the row gives
pub record NamedLacks (fs : List (Fact ℕ)) (x : ℕ) (u : NamedRow) : Type 0 where
  pub waits : list_all (has fs x) u.waits ≡ true
  pub lacks : has fs x u.gives ≡ false

-- the row at this place gives x the concept d, which it does not have
pub record NamedDue (fs : List (Fact ℕ)) (x : ℕ) (us : List NamedRow) (place d : ℕ) : Type 0 where
  pub row : NamedRow
  pub stands : slice_get us place ≡ Some row
  pub gives : row.gives ≡ d
  pub due : NamedLacks fs x row

-- one of the rows gives x what it does not have
pub record PlainDue (fs : List (Fact ℕ)) (x : ℕ) (us : List PlainRow) (u : PlainRow) : Type 0 where
  pub is_in : Contains us u
  pub lacks : has fs x u.gives ≡ false

-- what waits for a concept of x holds there
pub record NamesHold (files : Files) (fs : List (Fact ℕ)) (x : ℕ) : Type 0 where
  pub at_names : (c : ℕ) → has fs x c ≡ true → All (NamedHold fs x) (files.named c)

-- what is used where an edge of r from x to y begins and ends holds there
pub record EdgeHolds (files : Files) (fs : List (Fact ℕ)) (x r y : ℕ) : Type 0 where
  pub at_begin : All (PlainHolds fs x) (files.begins r)
  pub at_end : All (PlainHolds fs y) (files.ends r)

-- what the rows ask of edges is so at each edge from the node
pub record EdgesHold (files : Files) (fs : List (Fact ℕ)) (x : ℕ) : Type 0 where
  pub at_edges : (r y : ℕ) → is_successor fs (λ q. q == r) x y ≡ true → EdgeHolds files fs x r y

-- what is filed holds at x
pub record HoldsRows (files : Files) (fs : List (Fact ℕ)) (x : ℕ) : Type 0 where
  pub at_each : All (PlainHolds fs x) files.general
  pub names : NamesHold files fs x
  pub edges : EdgesHold files fs x

-- the rows of the search are filed, and nothing else
pub record AreFiled (w : SearchContext) (files : Files) : Type 0 where
  pub general : All (IsPlain w always) files.general
  pub named : (c : ℕ) → All (IsNamed w) (files.named c)
  pub begins : (r : ℕ) → All (IsAtEdge w edge r) (files.begins r)
  pub ends : (r : ℕ) → All (IsAtEdge w end_of r) (files.ends r)
  -- each row is filed: where all that is filed holds at all nodes, each row that is used holds
  pub each_filed : (fs : List (Fact ℕ)) → ((x : ℕ) → x < node_count_from w.first fs → HoldsRows files fs x)
      → (x : ℕ) (row : Row) → x < node_count_from w.first fs → Contains w.rows row → is_used_at w fs row x ≡ true
      → has fs x row.concept ≡ true

module _ (w : SearchContext) (fs : List (Fact ℕ)) where
  -- each successor of x by a role below s has e
  pub record AllEndsHave (x s e : ℕ) : Type 0 where
    pub have : (y : ℕ) → is_successor fs (λ r. below_of w r s) x y ≡ true → has fs y e ≡ true

  -- an edge of role q, below s, leads from x to the representative y, which does not have e
  pub record LacksAtEnd (x s e q y : ℕ) : Type 0 where
    pub next : is_successor fs (λ r. r == q) x y ≡ true
    pub role_below : below_of w q s ≡ true
    pub lacks : has fs y e ≡ false

  -- what the pairs carry from x is there
  abbrev pub AllCarried : ℕ → List (ℕ × ℕ) → Type 0
  AllCarried x pairs = All (λ p. AllEndsHave x p.0 p.1) pairs

  -- a universal restriction that is to be carried to a successor of x by a transitive role below s has a number, and is
  -- there
  pub record NoneToCarry (x s e : ℕ) : Type 0 where
    pub carried : (t y : ℕ) → w.theory.is_transitive t ≡ true → w.theory.below t s ≡ true
        → is_successor fs (λ r. below_of w r t) x y ≡ true
        → (d : ℕ) × (shape_of w.table d ≡ all_of t e) × (has fs y d ≡ true)

  -- nothing is to be added since x has a concept of this shape
  abbrev pub NoneByShape : ℕ → Shape → Type 0
  NoneByShape x (intersection parts) = All (λ d. has fs x d ≡ true) parts
  NoneByShape x (all_of s e) = AllEndsHave x s e × NoneToCarry x s e
  NoneByShape x _ = Unit {0}

  pub record NoneByConcepts (x : ℕ) : Type 0 where
    pub none : (c : ℕ) → has fs x c ≡ true → NoneByShape x (shape_of w.table c)

  -- ---- all of Add

  -- nothing is to be added because of what x has
  pub record NothingFrom (files : Files) (x : ℕ) : Type 0 where
    pub by_concepts : NoneByConcepts x
    pub by_rows : HoldsRows files fs x

  -- nothing is to be added to any node
  pub record NothingToAdd : Type 0 where
    pub no_add : (x d : ℕ) → Adds w fs x d → has fs x d ≡ true
    pub no_carry : (x y c s t e : ℕ) → IsCarried w fs x y c s t e
        → (d : ℕ) × (shape_of w.table d ≡ all_of t e) × (has fs y d ≡ true)

-- Laws of the trails that a search reaches. They hold in any context, from any start.
use Rattle.std.specs.Prelude.{◌≡◌, ℕ, ◌<◌, ◌⊎◌, Bool, true, false, List, ◌++◌, length, take, Some, slice_get}
use Rattle.calculus_specs.specs.Concept.{Concept}
use Rattle.calculus_specs.specs.Normal.{normal_form, negated_form}
use Rattle.calculus_specs.specs.Shape.{Shape, shape_of, IsTable}
use Rattle.calculus_specs.specs.Shape.Shape.{all_of}
use Rattle.calculus_specs.specs.Tree.{tree_of}
use Rattle.calculus_specs.specs.Rows.{Row}
use Rattle.calculus_specs.specs.declared.facts.Fact.{Fact}
use Rattle.calculus_specs.specs.declared.facts.Fact.TheVariants.{Has, Edge, Apart, Same}
use Rattle.calculus_specs.specs.Joins.{rep}
use Rattle.calculus_specs.specs.State.{node_count_from, parent_from, has, has_edge, is_successor, are_apart}
use Rattle.calculus_specs.specs.Reading.{are_listed}
use Rattle.tableau_specs.specs.declared.Block.TheVariants.{Clear, Under}
use Rattle.tableau_specs.specs.Blocked.{block_of}
use Rattle.tableau_specs.specs.declared.Branch.{Branch}
use Rattle.tableau_specs.specs.declared.Branch.TheVariants.{Or, Choose, Pair}
use Rattle.tableau_specs.specs.declared.Item.{Item}
use Rattle.tableau_specs.specs.declared.Item.TheVariants.{Fact as Says, Mark}
use Rattle.tableau_specs.specs.Items.{facts_of}
use Rattle.tableau_specs.specs.Steps.{SearchContext, IsGiven, IsCarried, IsLegal, IsSaturated, HasClash, HasPlainClash}
use Rattle.tableau_specs.specs.KeptKinds.{IsKept}
use Rattle.tableau_specs.specs.Reached.{start, Follows, IsReached}
use Rattle.calculus_specs.specs.Rules.{Question}

-- whether a role is any role
abbrev pub any_role : ℕ → Bool
any_role r = true

-- ---- each node stands before it is spoken of

-- the branch speaks of nodes below n
abbrev pub BranchIsOn : ℕ → Branch → Type 0
BranchIsOn n (Or x c) = x < n
BranchIsOn n (Choose y e) = y < n
BranchIsOn n (Pair y z) = (y < n) × (z < n)

-- the item speaks of the first n nodes alone; an edge leads to the next, or is given
abbrev pub IsOn : SearchContext → ℕ → Item → Type 0
IsOn w n (Says (Has x c)) = x < n
IsOn w n (Says (Edge r x y)) = (x < n) × ((y ≡ n) ⊎ IsGiven w (Edge r x y))
IsOn w n (Says (Apart y z)) = (y < n) × (z < n)
IsOn w n (Says (Same y z)) = (y < n) × (z < n)
IsOn w n (Mark c) = BranchIsOn n c.branch

-- each item of a trail speaks of nodes that stand in the trail before it
abbrev pub NodesStandBefore : Type 0
NodesStandBefore = (w : SearchContext) (at sub not_sup k : ℕ) (trail : List Item) → at < w.first
    → Follows w (start at sub not_sup) k trail
    → (place : ℕ) (item : Item) → slice_get trail place ≡ Some item
    → IsOn w (node_count_from w.first (facts_of (take place trail))) item

-- ---- where there is no plain clash, or nothing is given, no node is apart from itself

-- without a plain clash, or where no fact is given, no node is apart from itself
abbrev pub NoneIsApartFromItself : Type 0
NoneIsApartFromItself = (w : SearchContext) (at sub not_sup k : ℕ) (trail : List Item) → at < w.first
    → Follows w (start at sub not_sup) k trail
    → ¬ HasPlainClash w trail ⊎ ((f : Fact ℕ) → ¬ IsGiven w f) → (x : ℕ) → are_apart (facts_of trail) x x ≡ false

-- ---- joined nodes are successors of one node, or given as one

-- y and z are two successors of one node that are not apart
pub record AreSiblings (fs : List (Fact ℕ)) (y z : ℕ) : Type 0 where
  pub above : ℕ
  pub first : is_successor fs any_role above y ≡ true
  pub second : is_successor fs any_role above z ≡ true
  pub are_two : ¬ (y ≡ z)
  pub not_apart : are_apart fs y z ≡ false

-- two nodes that a trail joins are siblings, unless the join is given
abbrev pub JoinsAreOfSiblings : Type 0
JoinsAreOfSiblings = (w : SearchContext) (at sub not_sup k : ℕ) (trail : List Item) → at < w.first
    → Follows w (start at sub not_sup) k trail
    → (place y z : ℕ) → slice_get trail place ≡ Some (Says (Same y z))
    → AreSiblings (facts_of (take place trail)) y z ⊎ IsGiven w (Same y z)

-- y is a child of x, read through joins: the representative of y has a parent, which is joined to x
pub record IsChild (first : ℕ) (fs : List (Fact ℕ)) (x y : ℕ) : Type 0 where
  pub up : ℕ
  pub is_parent : parent_from first fs (rep fs y) ≡ Some up
  pub is_joined : rep fs up ≡ rep fs x

-- a given edge leads from x to y, read through joins; so both are first nodes then
pub record IsGivenEdge (w : SearchContext) (fs : List (Fact ℕ)) (x y : ℕ) : Type 0 where
  pub role : ℕ
  pub begin : ℕ
  pub end : ℕ
  pub is_given : IsGiven w (Edge role begin end)
  pub at_begin : rep fs begin ≡ rep fs x
  pub at_end : rep fs end ≡ rep fs y
  pub begins_first : rep fs x < w.first
  pub ends_first : rep fs y < w.first

-- where an edge leads from x to y, a given one does, or y is a child of x
abbrev pub LeadsDown : SearchContext → List (Fact ℕ) → ℕ → ℕ → Type 0
LeadsDown w fs x y = IsGivenEdge w fs x y ⊎ IsChild w.first fs x y

-- where an edge leads from one node to another, a given one does, or the other is a child of the first
abbrev pub SuccessorsAreChildren : Type 0
SuccessorsAreChildren = (w : SearchContext) (at sub not_sup k : ℕ) (trail : List Item) → at < w.first
    → Follows w (start at sub not_sup) k trail
    → (roles : ℕ → Bool) (x y : ℕ) → has_edge (facts_of trail) roles x y ≡ true → LeadsDown w (facts_of trail) x y

-- a parent is less than its node, so that blocked nodes are found by recursion on the number
abbrev pub ParentsAreLess : Type 0
ParentsAreLess = (w : SearchContext) (at sub not_sup k : ℕ) (trail : List Item) → at < w.first
    → Follows w (start at sub not_sup) k trail
    → (x p : ℕ) → parent_from w.first (facts_of trail) x ≡ Some p → p < x

-- ---- below a clear node no successor is under a block

-- a successor of a node that is clear does not stand under a blocked node
abbrev pub ClearHasNoneUnder : Type 0
ClearHasNoneUnder = (w : SearchContext) (at sub not_sup k : ℕ) (trail : List Item) → at < w.first
    → Follows w (start at sub not_sup) k trail
    → (roles : ℕ → Bool) (x y : ℕ) → rep (facts_of trail) x ≡ x → block_of w.first (facts_of trail) x ≡ Clear
    → is_successor (facts_of trail) roles x y ≡ true
    → ¬ (block_of w.first (facts_of trail) y ≡ Under)

-- ---- the concepts of a trail are in the table

-- the facts of a trail have numbers of concepts of the table alone
abbrev pub NumbersAreListed : Type 0
NumbersAreListed = (q : Question) (table : List Shape) (rows : List Row) (k : ℕ) (trail : List Item)
    → IsReached q table rows k trail → are_listed (length table) (facts_of trail) ≡ true

-- ---- what the rules keep

-- each concept that the facts give is of the kind, and so is the role of each edge
pub record AreOfKind (table : List Shape) (fs : List (Fact ℕ)) (p : Concept → Bool) (e : ℕ → Bool) : Type 0 where
  pub concepts : (x c : ℕ) → has fs x c ≡ true → p (tree_of table c) ≡ true
  pub edges : (roles : ℕ → Bool) (x y : ℕ) → has_edge fs roles x y ≡ true → (r : ℕ) × (roles r ≡ true) × (e r ≡ true)

-- where the concepts of the start are of a kind that the rules keep, so is all that a reached trail says
abbrev pub KeptKindsStay : Type 0
KeptKindsStay = (q : Question) (table : List Shape) (rows : List Row) (k : ℕ) (trail : List Item)
    → IsReached q table rows k trail
    → (p : Concept → Bool) (e : ℕ → Bool) → IsKept q.theory q.fact_of (λ c. p c ≡ true) (λ r. e r ≡ true)
    → p (normal_form q.sub) ≡ true → p (negated_form q.sup) ≡ true → AreOfKind table (facts_of trail) p e

-- ---- a table may grow while a search goes on

-- a trail that is reached over a table is reached over one with more shapes too
abbrev pub TablesMayGrow : Type 0
TablesMayGrow = (q : Question) (table more : List Shape) (rows : List Row) (k : ℕ) (trail : List Item)
    → IsReached q table rows k trail → IsTable (table ++ more) → IsReached q (table ++ more) rows k trail

-- ---- a saturated trail has no clash of any kind

-- a trail that is saturated has no clash
abbrev pub SaturatedHasNoClash : Type 0
SaturatedHasNoClash = (w : SearchContext) (at sub not_sup k : ℕ) (trail : List Item) → at < w.first
    → Follows w (start at sub not_sup) k trail → IsSaturated w trail → ¬ HasClash w trail

-- ---- saturated trails are those from which no step is legal

-- each concept that is to be carried has a number in the table
abbrev pub CarriedAreListed : SearchContext → List (Fact ℕ) → Type 0
CarriedAreListed w fs = (x y c s t e : ℕ) → IsCarried w fs x y c s t e → (d : ℕ) × (shape_of w.table d ≡ all_of t e)

-- no step is legal from a saturated trail, and one without a plain clash and without a legal step is saturated
abbrev pub SaturatedIsTheEnd : Type 0
SaturatedIsTheEnd = (w : SearchContext) (at sub not_sup k : ℕ) (trail : List Item) → at < w.first
    → Follows w (start at sub not_sup) k trail
    → (IsSaturated w trail → (new : List Item) → ¬ IsLegal w trail new)
    × (¬ HasPlainClash w trail → CarriedAreListed w (facts_of trail) → ((new : List Item) → ¬ IsLegal w trail new)
    → IsSaturated w trail)

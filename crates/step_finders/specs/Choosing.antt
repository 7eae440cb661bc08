-- What there is to choose, and what it means that there is nothing.
use Rattle.std.specs.Prelude.{◌≡◌, ℕ, ◌<◌, ◌==◌, true, false, List, length}
use Rattle.std.specs.List.{list_any}
use Rattle.calculus_specs.specs.Shape.{Shape, shape_of}
use Rattle.calculus_specs.specs.Shape.Shape.{union, at_most}
use Rattle.calculus_specs.specs.Tree.{IsComplement}
use Rattle.calculus_specs.specs.declared.facts.Fact.{Fact}
use Rattle.calculus_specs.specs.State.{node_count_from, has, is_successor, all_apart}
use Rattle.tableau_specs.specs.declared.Branch.{Branch}
use Rattle.tableau_specs.specs.declared.Branch.TheVariants.{Or, Choose, Pair}
use Rattle.tableau_specs.specs.Clash.{filled_successors}
use Rattle.tableau_specs.specs.Steps.{SearchContext, below_of, MayBranch, IsAlternative}
use Rattle.step_finders.specs.declared.choosing.Choosing.{Choosing}
use Rattle.step_finders.specs.declared.choosing.Choosing.TheVariants as C
use Rattle.step_finders.specs.Filled.{AreUnapart}
use Rattle.step_finders.specs.Reasons.{IsEdge}

-- what a mark of the choice chooses between
abbrev pub branch_of : Choosing → Branch
branch_of (C.Union x c) = Or x c
branch_of (C.Filler y e from r c) = Choose y e
branch_of (C.Pair y z from r q c) = Pair y z

module _ (w : SearchContext) (fs : List (Fact ℕ)) where
  -- x has the union c
  pub record IsByUnion (x c : ℕ) : Type 0 where
    pub is_node : x < node_count_from w.first fs
    pub holds : has fs x c ≡ true
    pub parts : List ℕ
    pub shape : shape_of w.table c ≡ union parts

  -- an edge of r leads to y from a node with the 'at most' c, whose filler is e
  pub record IsByFiller (y e from r c : ℕ) : Type 0 where
    pub is_edge : IsEdge w.first fs r from y
    pub holds : has fs from c ≡ true
    pub count : ℕ
    pub role : ℕ
    pub shape : shape_of w.table c ≡ at_most count role e
    pub role_below : w.theory.below r role ≡ true

  -- edges of r to y, and of q to z, lead from a node with the 'at most' c, whose filler both have
  pub record IsByPair (y z from r q c : ℕ) : Type 0 where
    pub first_edge : IsEdge w.first fs r from y
    pub second_edge : IsEdge w.first fs q from z
    pub holds : has fs from c ≡ true
    pub count : ℕ
    pub role : ℕ
    pub filler : ℕ
    pub shape : shape_of w.table c ≡ at_most count role filler
    pub first_below : w.theory.below r role ≡ true
    pub second_below : w.theory.below q role ≡ true
    pub first_has : has fs y filler ≡ true
    pub second_has : has fs z filler ≡ true

  -- this is why there is something to choose
  abbrev pub HasGround : Choosing → Type 0
  HasGround (C.Union x c) = IsByUnion x c
  HasGround (C.Filler y e from r c) = IsByFiller y e from r c
  HasGround (C.Pair y z from r q c) = IsByPair y z from r q c

  -- there is something to choose, with a first alternative, and why
  pub record IsChoosable (c : Choosing) : Type 0 where
    pub may : MayBranch w fs (branch_of c)
    pub why : HasGround c
    pub first : Fact ℕ
    pub is_first : IsAlternative w.table (branch_of c) 1 first

  -- y has the complement of e
  pub record HasComplement (y e : ℕ) : Type 0 where
    pub complement : ℕ
    pub is_complement : IsComplement w.table e complement
    pub holds : has fs y complement ≡ true

  abbrev pub LacksComplement : ℕ → ℕ → Type 0
  LacksComplement y e = (d : ℕ) → IsComplement w.table e d → has fs y d ≡ false

  -- y has e or its complement
  pub data IsDecided (y e : ℕ) : Type 0 where
    by_filler : has fs y e ≡ true → IsDecided y e
    by_complement : HasComplement y e → IsDecided y e

  pub record IsUndecided (y e : ℕ) : Type 0 where
    pub lacks : has fs y e ≡ false
    pub lacks_complement : LacksComplement y e

  pub record AllDecided (x s e : ℕ) : Type 0 where
    pub decided : (y : ℕ) → is_successor fs (λ r. below_of w r s) x y ≡ true → IsDecided y e

  -- an edge of role q, below s, leads from x to the representative y, which has neither e nor its complement
  pub record UndecidedAtEnd (x s e q y : ℕ) : Type 0 where
    pub next : is_successor fs (λ r. r == q) x y ≡ true
    pub role_below : below_of w q s ≡ true
    pub undecided : IsUndecided y e

  -- no two of the successors that are counted are to be made one or kept apart
  pub record NoPair (x n s e : ℕ) : Type 0 where
    pub are_apart : n < length (filled_successors w.first (below_of w) fs x s e)
        → all_apart fs (filled_successors w.first (below_of w) fs x s e) ≡ true

  pub record IsPair (x n s e y z : ℕ) : Type 0 where
    pub more : n < length (filled_successors w.first (below_of w) fs x s e)
    pub two : AreUnapart fs (filled_successors w.first (below_of w) fs x s e) y z

  -- an edge of role q, below s, leads from x to y
  pub record IsRoleTo (x s y q : ℕ) : Type 0 where
    pub next : is_successor fs (λ r. r == q) x y ≡ true
    pub role_below : below_of w q s ≡ true

  -- no part is to be chosen since x has a concept of this shape
  abbrev pub NoUnionByShape : ℕ → Shape → Type 0
  NoUnionByShape x (union parts) = list_any (has fs x) parts ≡ true
  NoUnionByShape x _ = Unit {0}

  -- nothing is to be chosen at successors since x has a concept of this shape
  abbrev pub NoMostByShape : ℕ → Shape → Type 0
  NoMostByShape x (at_most n s e) = AllDecided x s e × NoPair x n s e
  NoMostByShape x _ = Unit {0}

  -- no two successors are to be made one or kept apart since x has a concept of this shape
  abbrev pub NoPairByShape : ℕ → Shape → Type 0
  NoPairByShape x (at_most n s e) = NoPair x n s e
  NoPairByShape x _ = Unit {0}

  pub record NoUnionAt (x : ℕ) : Type 0 where
    pub none : (c : ℕ) → has fs x c ≡ true → NoUnionByShape x (shape_of w.table c)

  pub record NoMostAt (x : ℕ) : Type 0 where
    pub none : (c : ℕ) → has fs x c ≡ true → NoMostByShape x (shape_of w.table c)

  -- no part of a union is to be chosen at any node
  abbrev pub NoUnion : Type 0
  NoUnion = (x : ℕ) → x < node_count_from w.first fs → NoUnionAt x

  -- nothing is to be chosen at successors of any node
  abbrev pub NoMost : Type 0
  NoMost = (x : ℕ) → x < node_count_from w.first fs → NoMostAt x

  pub record NothingToChoose : Type 0 where
    pub none : (b : Branch) → ¬ MayBranch w fs b

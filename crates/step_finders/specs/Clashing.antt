-- A plain clash that a step makes, and what it means that there is none.
use Rattle.std.specs.Prelude.{◌≡◌, ℕ, ◌<◌, ◌==◌, Bool, true, false, List, All, length}
use Rattle.std.specs.List.{list_any}
use Rattle.calculus_specs.specs.Shape.{Shape, shape_of}
use Rattle.calculus_specs.specs.Shape.Shape.{bottom, name, not_name, at_most}
use Rattle.calculus_specs.specs.declared.facts.Fact.{Fact}
use Rattle.calculus_specs.specs.declared.facts.Fact.TheVariants.{Edge}
use Rattle.calculus_specs.specs.State.{node_count_from, has, has_edge, are_apart, all_apart}
use Rattle.calculus_specs.specs.Joins.{rep}
use Rattle.tableau_specs.specs.Clash.{filled_successors, IsPlainClash}
use Rattle.tableau_specs.specs.Steps.{SearchContext, below_of, IsGiven}
use Rattle.tableau_specs.specs.StepLaws.{LeadsDown}
use Rattle.tableau_specs.specs.Near.{IsOverrun, ClashesBy, ClashesByNew, ClashesByApart, ClashesByJoin, ClashesByEdge}
use Rattle.step_finders.specs.declared.clash.Clash.{Clash}
use Rattle.step_finders.specs.declared.clash.Clash.TheVariants.{Bottom, Both, Most, Differ}

-- concept c is an 'at most' with this filler
pub record IsMost (table : List Shape) (d c : ℕ) : Type 0 where
  pub count : ℕ
  pub role : ℕ
  pub shape : shape_of table c ≡ at_most count role d

-- the list has each 'at most' with this filler
pub record AreMosts (table : List Shape) (d : ℕ) (cs : List ℕ) : Type 0 where
  pub each : All (IsMost table d) cs
  pub every : (c n s : ℕ) → shape_of table c ≡ at_most n s d → list_any (λ k. k == c) cs ≡ true

-- c is no 'at most' that counts successors by r
pub record CountsNot (w : SearchContext) (r c : ℕ) : Type 0 where
  pub none : (n s e : ℕ) → shape_of w.table c ≡ at_most n s e → below_of w r s ≡ false

-- each edge to x is a given one between first nodes, or leads to a child
abbrev pub AreLedTo : SearchContext → List (Fact ℕ) → ℕ → Type 0
AreLedTo w fs x = (roles : ℕ → Bool) (z : ℕ) → has_edge fs roles z x ≡ true → LeadsDown w fs z x

module _ (w : SearchContext) (fs : List (Fact ℕ)) where
  pub record HasBottom (x c : ℕ) : Type 0 where
    pub is_node : x < node_count_from w.first fs
    pub holds : has fs x c ≡ true
    pub shape : shape_of w.table c ≡ bottom

  pub record HasBoth (x c d : ℕ) : Type 0 where
    pub is_node : x < node_count_from w.first fs
    pub class : ℕ
    pub holds : has fs x c ≡ true
    pub shape : shape_of w.table c ≡ name class
    pub holds_other : has fs x d ≡ true
    pub shape_other : shape_of w.table d ≡ not_name class

  pub record HasMost (x c : ℕ) : Type 0 where
    pub is_node : x < node_count_from w.first fs
    pub count : ℕ
    pub role : ℕ
    pub filler : ℕ
    pub overrun : IsOverrun w.first (below_of w) w.table fs x c count role filler

  pub record HasDiffer (x y : ℕ) : Type 0 where
    pub first_is_node : x < node_count_from w.first fs
    pub second_is_node : y < node_count_from w.first fs
    pub apart : are_apart fs x y ≡ true
    pub one : rep fs x ≡ rep fs y

  -- the clash is a plain one
  abbrev pub IsShown : Clash → Type 0
  IsShown (Bottom x c) = HasBottom x c
  IsShown (Both x c d) = HasBoth x c d
  IsShown (Most x c) = HasMost x c
  IsShown (Differ x y) = HasDiffer x y

  abbrev pub AnswersOverrun : ℕ → ℕ → ℕ → ℕ → Bool → Type 0
  AnswersOverrun x n s e true = (n < length (filled_successors w.first (below_of w) fs x s e))
      × (all_apart fs (filled_successors w.first (below_of w) fs x s e) ≡ true)
  AnswersOverrun x n s e false = n < length (filled_successors w.first (below_of w) fs x s e)
      → all_apart fs (filled_successors w.first (below_of w) fs x s e) ≡ false

  -- no 'at most' of p in the list is overrun
  pub record NotOverrun (p d c : ℕ) : Type 0 where
    pub none : (n s : ℕ) → ¬ IsOverrun w.first (below_of w) w.table fs p c n s d

  -- no 'at most' of p with filler d is overrun
  pub record NoneOverrun (p d : ℕ) : Type 0 where
    pub none : (c n s : ℕ) → ¬ IsOverrun w.first (below_of w) w.table fs p c n s d

  -- c is not overrun, where it counts successors by r
  pub record NotOverrunOver (p r d c : ℕ) : Type 0 where
    pub none : (n s : ℕ) → below_of w r s ≡ true → ¬ IsOverrun w.first (below_of w) w.table fs p c n s d

  -- x has no concept that clashes with d, of this shape, at x itself
  abbrev pub NoneByShape : ℕ → Shape → Type 0
  NoneByShape x bottom = ⊥
  NoneByShape x (name a) = (c : ℕ) → has fs x c ≡ true → ¬ (shape_of w.table c ≡ not_name a)
  NoneByShape x (not_name a) = (c : ℕ) → has fs x c ≡ true → ¬ (shape_of w.table c ≡ name a)
  NoneByShape x (at_most n s e) = AnswersOverrun x n s e false
  NoneByShape x _ = Unit {0}

  -- no 'at most' above x with filler d is overrun
  pub record NoneAbove (x d : ℕ) : Type 0 where
    pub none : (z c n s : ℕ) → has_edge fs (λ r. below_of w r s) z x ≡ true
        → ¬ IsOverrun w.first (below_of w) w.table fs z c n s d

  -- no 'at most' with filler d is overrun at a node from which an axiom gives an edge to x
  pub record NoneInto (d x : ℕ) : Type 0 where
    pub none : (r z : ℕ) → IsGiven w (Edge r z x) → NoneOverrun z d

  -- x has no plain clash by d
  pub record NoClashBy (x d : ℕ) : Type 0 where
    pub none : ¬ ClashesBy w.first (below_of w) w.table fs x d

  -- no 'at most' of x with this filler that counts successors by r is overrun
  pub record NoneOver (x r d : ℕ) : Type 0 where
    pub none : (c n s : ℕ) → below_of w r s ≡ true → ¬ IsOverrun w.first (below_of w) w.table fs x c n s d

  -- there is no plain clash by new nodes with concept e at the ends of edges of role s from x
  pub record NoClashByNew (x s e : ℕ) : Type 0 where
    pub none : ¬ ClashesByNew w.first (below_of w) w.table fs x s e

  -- there is none since an edge of role r leads from x to y
  pub record NoClashByEdge (r x y : ℕ) : Type 0 where
    pub none : ¬ ClashesByEdge w.first (below_of w) w.table fs r x y

  -- there is none since y and z are apart
  pub record NoClashByApart (y z : ℕ) : Type 0 where
    pub none : ¬ ClashesByApart w.first (below_of w) w.table fs y z

  -- there is none since y is one with another node
  pub record NoClashByJoin (y : ℕ) : Type 0 where
    pub none : ¬ ClashesByJoin w.first (below_of w) w.table fs y

  -- no concept of x makes a plain clash at x itself, nor is x apart from itself
  pub record NoneAt (x : ℕ) : Type 0 where
    pub by_concepts : (c : ℕ) → has fs x c ≡ true → NoneByShape x (shape_of w.table c)
    pub apart : are_apart fs x x ≡ false

-- what is shown is a plain clash
abbrev pub ShownClashesArePlain : Type 0
ShownClashesArePlain = (w : SearchContext) (fs : List (Fact ℕ)) (clash : Clash) → IsShown w fs clash
    → IsPlainClash w.first (below_of w) w.table fs

-- When a refutation is valid: its lines are in preorder a tree in which every branch ends in a line without children.
use Rattle.std.specs.Prelude.{◌≡◌, ℕ, ◌+◌, ◌≤◌, nat_lt, ◌&&◌, List, [], ◌∷◌, ◌++◌, length, take, drop, Option, Some}
use Rattle.std.specs.Prelude.{None, if◌then◌else◌}
use Rattle.std.specs.Option.{option_and_then, option_map}
use Rattle.shq_base.specs.Concept.{Concept}
use Rattle.calculus_specs.specs.Shape.{Shape}
use Rattle.calculus_specs.specs.Shape.Shape.{top}
use Rattle.calculus_specs.specs.Tree.{tree_of}
use Rattle.calculus_specs.specs.Line.{Line, Tree, node, Trees, no_trees, tree, preorder}
use Rattle.calculus_specs.specs.Rules.{Question, Known, children_of, nothing_known}

-- the concept of a number in a refutation, whose shapes are numbered from 1
abbrev pub concept_at : List Shape → ℕ → Option Concept
concept_at shapes c = if nat_lt 0 c && nat_lt c (length shapes + 1) then Some (tree_of (top ∷ shapes) c) else None

module _ (q : Question) (concept : ℕ → Option Concept) where
  -- the premises of the tree's line hold under what is known, and each child is shut under what it adds
  abbrev mutual
    pub IsShut : Known → Tree → Type 0
    IsShut k (node line kids) = AreShut (children_of q concept k line) kids

    -- the trees, one for each child, are shut; none are where the premises do not hold
    pub AreShut : Option (List Known) → Trees → Type 0
    AreShut None ts = ⊥
    AreShut (Some []) no_trees = Unit {0}
    AreShut (Some []) (tree t ts) = ⊥
    AreShut (Some (k ∷ ks)) no_trees = ⊥
    AreShut (Some (k ∷ ks)) (tree t ts) = IsShut k t × AreShut (Some ks) ts

  -- the open branches that a line leaves of those that are open, of which it belongs to the first
  abbrev pub open_after : List Known → Line → Option (List Known)
  open_after [] line = None
  open_after (k ∷ ks) line = option_map (λ (new : List Known). new ++ ks) (children_of q concept k line)

  -- and those that several lines leave
  abbrev pub open_after_all : List Known → List Line → Option (List Known)
  open_after_all ks [] = Some ks
  open_after_all ks (line ∷ lines) =
      option_and_then (λ (left : List Known). open_after_all left lines) (open_after ks line)

  -- whether what follows the lines read breaks the rules: a line whose premises do not hold, or an end that leaves a
  -- branch open
  abbrev pub Breaks : List Known → List Line → Type 0
  Breaks [] [] = ⊥
  Breaks (k ∷ ks) [] = Unit {0}
  Breaks ks (line ∷ lines) = open_after ks line ≡ None

  -- the place, from 1, of the first line that breaks the rules, or one more than the number of lines where the end does
  pub record IsBrokenAt (lines : List Line) (place : ℕ) : Type 0 where
    pub count : ℕ
    pub counts : place ≡ count + 1
    pub within : count ≤ length lines
    pub left : List Known
    pub before : open_after_all (nothing_known ∷ []) (take count lines) ≡ Some left
    pub breaks : Breaks left (drop count lines)

-- the lines, over these shapes, refute what is in question
pub record IsRefutation (q : Question) (shapes : List Shape) (lines : List Line) : Type 0 where
  pub tree : Tree
  pub in_preorder : preorder tree ≡ lines
  pub is_shut : IsShut q (concept_at shapes) nothing_known tree

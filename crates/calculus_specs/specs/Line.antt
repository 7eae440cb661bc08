-- The lines of a refutation, and trees of them.
use Rattle.std.specs.Prelude.{ℕ, List, [], ◌∷◌, ◌++◌}

-- Nodes are called x, y and z, and c is the number of a concept.
pub data Line : Type 0 where
  start_line : Line
  and_line : (x c : ℕ) → Line
  or_line : (x c : ℕ) → Line
  all_line : (x y c : ℕ) → Line
  carry_line : (x y role c : ℕ) → Line
  row_line : (x axiom_number part_number : ℕ) (positions : List ℕ) → Line
  range_line : (x y axiom_number : ℕ) → Line
  some_line : (x y c : ℕ) → Line
  least_line : (x y c : ℕ) → Line
  choose_line : (y c : ℕ) → Line
  pair_line : (y z : ℕ) → Line
  bottom_line : (x : ℕ) → Line
  clash_line : (x c : ℕ) → Line
  most_line : (x c : ℕ) (ys : List ℕ) → Line
  fact_line : (axiom_number place : ℕ) → Line
  differ_line : (y z : ℕ) → Line

mutual
  -- a line and the trees of its children
  pub data Tree : Type 0 where
    node : Line → Trees → Tree

  pub data Trees : Type 0 where
    no_trees : Trees
    tree : Tree → Trees → Trees

-- the lines in preorder
abbrev mutual
  pub preorder : Tree → List Line
  preorder (node line kids) = line ∷ preorders kids

  pub preorders : Trees → List Line
  preorders no_trees = []
  preorders (tree t ts) = preorder t ++ preorders ts

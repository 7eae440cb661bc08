-- Clashes: what shuts a branch by itself. There are `first` first nodes.
use Rattle.std.specs.Prelude.{◌≡◌, ℕ, ◌+◌, ◌<◌, nat_lt, ◌&&◌, Bool, true, List, length, filter}
use Rattle.std.specs.List.{list_all}
use Rattle.calculus_specs.specs.Shape.{Shape, shape_of}
use Rattle.calculus_specs.specs.Shape.Shape.{bottom, name, not_name, at_most}
use Rattle.calculus_specs.specs.declared.facts.Fact.{Fact}
use Rattle.calculus_specs.specs.State.{node_count_from, has, has_edge, successors_from, all_apart, are_apart}
use Rattle.calculus_specs.specs.Joins.{rep}

-- whether y is a successor of x with the filler e: a node at the end of an edge below s from x that has e. It may have
-- been joined to another node, since facts are read through joins
abbrev pub is_filled_successor : ℕ → (ℕ → ℕ → Bool) → List (Fact ℕ) → ℕ → ℕ → ℕ → ℕ → Bool
is_filled_successor first below fs x s e y =
    nat_lt y (node_count_from first fs) && has_edge fs (λ r. below r s) x y && has fs y e

-- the representatives of these, ascending
abbrev pub filled_successors : ℕ → (ℕ → ℕ → Bool) → List (Fact ℕ) → ℕ → ℕ → ℕ → List ℕ
filled_successors first below fs x s e = filter (λ y. has fs y e) (successors_from first fs (λ r. below r s) x)

module _ (first : ℕ) (below : ℕ → ℕ → Bool) (table : List Shape) (fs : List (Fact ℕ)) where
  -- the premises of a rule line without children hold
  pub data IsClash : Type 0 where
    of_bottom : (x c : ℕ) → x < node_count_from first fs → has fs x c ≡ true → shape_of table c ≡ bottom → IsClash
    of_names : (x c d a : ℕ) → x < node_count_from first fs → has fs x c ≡ true → shape_of table c ≡ name a
        → has fs x d ≡ true → shape_of table d ≡ not_name a → IsClash
    of_most : (x c n s e : ℕ) (ys : List ℕ) → x < node_count_from first fs → has fs x c ≡ true
        → shape_of table c ≡ at_most n s e
        → length ys ≡ n + 1 → list_all (is_filled_successor first below fs x s e) ys ≡ true → all_apart fs ys ≡ true
        → IsClash
    of_differ : (y z : ℕ) → y < node_count_from first fs → z < node_count_from first fs → are_apart fs y z ≡ true
        → rep fs y ≡ rep fs z → IsClash

  -- the clashes that a search looks for: for 'at most' all the successors with the filler are taken, and no choice
  pub data IsPlainClash : Type 0 where
    plain_bottom : (x c : ℕ) → x < node_count_from first fs → has fs x c ≡ true → shape_of table c ≡ bottom
        → IsPlainClash
    plain_names : (x c d a : ℕ) → x < node_count_from first fs → has fs x c ≡ true → shape_of table c ≡ name a
        → has fs x d ≡ true → shape_of table d ≡ not_name a → IsPlainClash
    plain_most : (x c n s e : ℕ) → x < node_count_from first fs → has fs x c ≡ true → shape_of table c ≡ at_most n s e
        → n < length (filled_successors first below fs x s e)
        → all_apart fs (filled_successors first below fs x s e) ≡ true → IsPlainClash
    plain_differ : (y z : ℕ) → y < node_count_from first fs → z < node_count_from first fs → are_apart fs y z ≡ true
        → rep fs y ≡ rep fs z → IsPlainClash

-- Plain clashes near what has changed: one step more makes a plain clash at few nodes, and by few of their concepts.
use Rattle.std.specs.Prelude.{◌≡◌, ℕ, ◌<◌, ◌⊎◌, Bool, true, List, length}
use Rattle.calculus_specs.specs.Shape.{Shape, shape_of}
use Rattle.calculus_specs.specs.Shape.Shape.{bottom, name, not_name, at_most}
use Rattle.calculus_specs.specs.declared.facts.Fact.{Fact}
use Rattle.calculus_specs.specs.State.{node_count_from, has, has_edge, are_apart, all_apart}
use Rattle.tableau_specs.specs.Clash.{filled_successors}
use Rattle.calculus_specs.specs.Joins.{rep}

module _ (first : ℕ) (below : ℕ → ℕ → Bool) (table : List Shape) (fs : List (Fact ℕ)) where
  -- concept c of node x is an 'at most', and the successors of x with its filler are too many and pairwise apart
  pub record IsOverrun (x c n s e : ℕ) : Type 0 where
    pub holds : has fs x c ≡ true
    pub shape : shape_of table c ≡ at_most n s e
    pub more : n < length (filled_successors first below fs x s e)
    pub every : all_apart fs (filled_successors first below fs x s e) ≡ true

  -- that node x has concept d makes a plain clash: d is bottom, x has its complement, d is an 'at most' of too many, or
  -- d is the filler of one at a node with an edge to x
  pub data ClashesBy (x d : ℕ) : Type 0 where
    by_bottom : shape_of table d ≡ bottom → ClashesBy x d
    by_name : (c a : ℕ) → shape_of table d ≡ name a → has fs x c ≡ true → shape_of table c ≡ not_name a → ClashesBy x d
    by_complement : (c a : ℕ) → shape_of table d ≡ not_name a → has fs x c ≡ true → shape_of table c ≡ name a
        → ClashesBy x d
    by_most : (n s e : ℕ) → IsOverrun x d n s e → ClashesBy x d
    by_filler : (z c n s : ℕ) → z < node_count_from first fs → has_edge fs (λ r. below r s) z x ≡ true
        → IsOverrun z c n s d → ClashesBy x d

  -- that new nodes with concept e are at the ends of edges of role s from x makes a plain clash: e is bottom, or x has
  -- an 'at most' of too many, of a role above s, whose filler is e or top
  pub data ClashesByNew (x s e : ℕ) : Type 0 where
    new_bottom : shape_of table e ≡ bottom → ClashesByNew x s e
    new_overrun : (c m t d : ℕ) → below s t ≡ true → (d ≡ 0) ⊎ (d ≡ e) → IsOverrun x c m t d → ClashesByNew x s e

  -- that nodes y and z are apart makes a plain clash: a node with edges to both has an 'at most' of too many, whose
  -- filler both have, or they are one
  pub data ClashesByApart (y z : ℕ) : Type 0 where
    apart_overrun : (x c n s e : ℕ) → x < node_count_from first fs → has_edge fs (λ r. below r s) x y ≡ true
        → has fs y e ≡ true → has_edge fs (λ r. below r s) x z ≡ true → has fs z e ≡ true
        → IsOverrun x c n s e → ClashesByApart y z
    apart_differ : rep fs y ≡ rep fs z → ClashesByApart y z

  -- that node y is one with another makes a plain clash: it is apart from itself, or has a class and the class's
  -- complement, or an 'at most' of too many, or a node with an edge to it has one whose filler it has
  pub data ClashesByJoin (y : ℕ) : Type 0 where
    join_names : (c d a : ℕ) → has fs y c ≡ true → shape_of table c ≡ name a → has fs y d ≡ true
        → shape_of table d ≡ not_name a → ClashesByJoin y
    join_most : (c n s e : ℕ) → IsOverrun y c n s e → ClashesByJoin y
    join_filler : (x c n s e : ℕ) → x < node_count_from first fs → has_edge fs (λ r. below r s) x y ≡ true
        → has fs y e ≡ true → IsOverrun x c n s e → ClashesByJoin y
    join_differ : are_apart fs y y ≡ true → ClashesByJoin y

  -- that an edge of role r leads from x to y makes a plain clash: x has an 'at most' of too many, of a role above r,
  -- whose filler y has
  pub data ClashesByEdge (r x y : ℕ) : Type 0 where
    edge_overrun : (c m t d : ℕ) → below r t ≡ true → has fs y d ≡ true → IsOverrun x c m t d → ClashesByEdge r x y

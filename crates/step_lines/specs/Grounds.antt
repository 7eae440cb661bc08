-- Facts by which a node is known, and facts of the successors that are too many.
use Rattle.std.specs.Prelude.{◌≡◌, ℕ, ◌+◌, ◌==◌, true, List, [], ◌∷◌, ◌++◌, map, take, length, All}
use Rattle.std.specs.List.{list_all}
use Rattle.lane_sieve.specs.Sets.{NumberSet}
use Rattle.calculus_specs.specs.declared.facts.Fact.{Fact}
use Rattle.calculus_specs.specs.declared.facts.Fact.TheVariants.{Has, Edge, Apart}
use Rattle.calculus_specs.specs.State.{has, is_so, is_successor, all_apart}
use Rattle.tableau_specs.specs.Clash.{filled_successors}
use Rattle.tableau_specs.specs.Steps.{SearchContext, below_of}
use Rattle.search_trace.specs.Grounded.{is_known_within, AreGrounded}
use Rattle.search_trace.specs.Trail.{MarkedFact}
use Rattle.step_lines.specs.Serving.{HoldWithin}

-- the grounds are so, and x is known by the marks by which they hold
pub record GroundsNode (first : ℕ) (fs : List (Fact ℕ)) (x : ℕ) (grounds : List (Fact ℕ)) : Type 0 where
  pub are_so : list_all (is_so fs) grounds ≡ true
  pub knows : (u : NumberSet) (ms : List MarkedFact) → AreGrounded first ms → HoldWithin u ms grounds
      → is_known_within first u ms x ≡ true

-- the grounds are so, and x is known by them where there are no concepts by which it is
pub record IsFirst (first : ℕ) (fs : List (Fact ℕ)) (x : ℕ) (concepts : List ℕ) (grounds : List (Fact ℕ)) : Type 0 where
  pub are_so : list_all (is_so fs) grounds ≡ true
  pub grounds_node : concepts ≡ [] → GroundsNode first fs x grounds

-- a successor of x by a role below s has e
pub record IsFilledEnd (w : SearchContext) (fs : List (Fact ℕ)) (x s e y : ℕ) : Type 0 where
  pub next : is_successor fs (λ r. below_of w r s) x y ≡ true
  pub holds : has fs y e ≡ true

-- the first such successors, one more than n, pairwise apart
pub record AreMany (w : SearchContext) (fs : List (Fact ℕ)) (x n s e : ℕ) (ys : List ℕ) : Type 0 where
  pub first : ys ≡ take (n + 1) (filled_successors w.first (below_of w) fs x s e)
  pub count : length ys ≡ n + 1
  pub each : All (IsFilledEnd w fs x s e) ys
  pub apart : all_apart fs ys ≡ true

-- an edge of a role below s leads from x to a node with e
pub record IsLink (w : SearchContext) (fs : List (Fact ℕ)) (x s e : ℕ) (link : ℕ × ℕ) : Type 0 where
  pub next : is_successor fs (λ q. q == link.0) x link.1 ≡ true
  pub role_below : below_of w link.0 s ≡ true
  pub holds : has fs link.1 e ≡ true

-- the links to these nodes, in order
pub record AreLinks (w : SearchContext) (fs : List (Fact ℕ)) (x s e : ℕ) (ys : List ℕ) (links : List (ℕ × ℕ)) :
    Type 0 where
  pub each : All (IsLink w fs x s e) links
  pub ends : map (λ l. l.1) links ≡ ys

-- the edges, and what their ends have
abbrev pub link_facts : ℕ → ℕ → List (ℕ × ℕ) → List (Fact ℕ)
link_facts x e [] = []
link_facts x e (l ∷ ls) = Edge l.0 x l.1 ∷ Has l.1 e ∷ link_facts x e ls

-- that the nodes are pairwise apart
abbrev pub apart_facts : List ℕ → List (Fact ℕ)
apart_facts [] = []
apart_facts (y ∷ ys) = map (Apart y) ys ++ apart_facts ys

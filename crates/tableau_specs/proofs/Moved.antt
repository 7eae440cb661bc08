-- What is said of a node is said of each node with its representative.
use Rattle.std.proofs.Common.{◌≡◌, ℕ, ◌<◌, ◌&&◌, ◌||◌, eqb, Bool, true, List, length, ap, ◌∙◌, sym, subst}
use Rattle.std.specs.List.{list_any, range_with_len, filter}
use Rattle.calculus_specs.specs.Shape.{Shape}
use Rattle.calculus_specs.specs.declared.facts.Fact.{Fact}
use Rattle.calculus_specs.specs.Joins.{rep}
use Rattle.calculus_specs.specs.State.{node_count_from, gives_concept, gives_edge, gives_apart, has, has_edge}
use Rattle.calculus_specs.specs.State.{are_apart, all_apart}
use Rattle.tableau_specs.specs.Clash.{filled_successors}
use Rattle.tableau_specs.specs.Near.{IsOverrun}

module _ (fs : List (Fact ℕ)) where
  pub has_at : (y z c : ℕ) → rep fs y ≡ rep fs z → has fs y c ≡ has fs z c
  has_at y z c e = ap (λ (a : ℕ). eqb c 0 || list_any (gives_concept (λ d. eqb d c) (rep fs) a) fs) e

  pub edge_from : (roles : ℕ → Bool) (y z v : ℕ) → rep fs y ≡ rep fs z → has_edge fs roles y v ≡ has_edge fs roles z v
  edge_from roles y z v e = ap (λ (a : ℕ). list_any (gives_edge roles (rep fs) a (rep fs v)) fs) e

  pub edge_to : (roles : ℕ → Bool) (y z v : ℕ) → rep fs y ≡ rep fs z → has_edge fs roles v y ≡ has_edge fs roles v z
  edge_to roles y z v e = ap (λ (a : ℕ). list_any (gives_edge roles (rep fs) (rep fs v) a) fs) e

  pub apart_at : (y z v : ℕ) → rep fs y ≡ rep fs z → are_apart fs y v ≡ are_apart fs z v
  apart_at y z v e = ap (λ (a : ℕ). list_any (gives_apart (rep fs) a (rep fs v)) fs) e

  pub filled_at : (first : ℕ) (below : ℕ → ℕ → Bool) (y z s e : ℕ) → rep fs y ≡ rep fs z
      → filled_successors first below fs y s e ≡ filled_successors first below fs z s e
  filled_at first below y z s e same =
      ap (λ (a : ℕ). filter (λ v. has fs v e)
      (filter (λ v. eqb (rep fs v) v && list_any (gives_edge (λ r. below r s) (rep fs) a (rep fs v)) fs)
      (range_with_len 0 (node_count_from first fs))))
      same

  pub overrun_at : (first : ℕ) (below : ℕ → ℕ → Bool) (table : List Shape) (y z c n s e : ℕ) → rep fs y ≡ rep fs z
      → IsOverrun first below table fs y c n s e → IsOverrun first below table fs z c n s e
  overrun_at first below table y z c n s e same h = record {
    holds = sym (has_at y z c same) ∙ h.holds;
    shape = h.shape;
    more = subst (λ (vs : List ℕ). n < length vs) (filled_at first below y z s e same) h.more;
    every = subst (λ (vs : List ℕ). all_apart fs vs ≡ true) (filled_at first below y z s e same) h.every;
  }

-- Successors with the filler, and that those which a plain clash counts are premises of a rule line.
use Rattle.std.proofs.Common.{◌≡◌, ℕ, zero, suc, ◌+◌, ◌<◌, ◌&&◌, eqb, ltb, Bool, true, List, [], ◌∷◌, take, get_or}
use Rattle.std.proofs.Common.{refl, arith, inl, inr}
use Rattle.std.specs.List.{list_any, list_all, range_with_len, All}
use Rattle.std.proofs.lemmas.Bool.{eqb-true, ltb-true, lt-ltb, or_cases, and_parts}
use Rattle.std.proofs.lemmas.List.{length-take-le}
use Rattle.std.proofs.lemmas.List.Elements.{All-nil, All-cons, All-head, All-tail, All-filter, All-take, filter_passes}
use Rattle.calculus_specs.specs.Shape.{Shape}
use Rattle.calculus_specs.specs.declared.facts.Fact.{Fact}
use Rattle.calculus_specs.specs.declared.facts.Fact.TheVariants.{Has, Edge, Apart, Same}
use Rattle.calculus_specs.specs.Joins.{rep}
use Rattle.calculus_specs.specs.State.{node_count_from, gives_edge, has, has_edge, is_successor, successors_from}
use Rattle.calculus_specs.specs.State.{are_apart, all_apart}
use Rattle.calculus_specs.proofs.Joined.{rep-le}
use Rattle.tableau_specs.specs.Clash.{is_filled_successor, filled_successors, IsClash, IsPlainClash}
use Rattle.tableau_specs.specs.Clash.IsClash.{of_bottom, of_names, of_most, of_differ}
use Rattle.tableau_specs.specs.Clash.IsPlainClash.{plain_bottom, plain_names, plain_most, plain_differ}

pub successor_is_rep : (fs : List (Fact ℕ)) (roles : ℕ → Bool) (x y : ℕ) → is_successor fs roles x y ≡ true
    → rep fs y ≡ y
successor_is_rep fs roles x y h = eqb-true (rep fs y) y (and_parts (eqb (rep fs y) y) (has_edge fs roles x y) h).0

pub successor_has_edge : (fs : List (Fact ℕ)) (roles : ℕ → Bool) (x y : ℕ) → is_successor fs roles x y ≡ true
    → has_edge fs roles x y ≡ true
successor_has_edge fs roles x y h = (and_parts (eqb (rep fs y) y) (has_edge fs roles x y) h).1

list_all_take : (p : ℕ → Bool) (n : ℕ) (ys : List ℕ) → list_all p ys ≡ true → list_all p (take n ys) ≡ true
list_all_take p zero ys h = refl
list_all_take p (suc n) [] h = refl
list_all_take p (suc n) (y ∷ ys) h = let t = and_parts (p y) (list_all p ys) h in rw t.0 (list_all_take p n ys t.1)

all_apart_take : (fs : List (Fact ℕ)) (n : ℕ) (ys : List ℕ) → all_apart fs ys ≡ true → all_apart fs (take n ys) ≡ true
all_apart_take fs zero ys h = refl
all_apart_take fs (suc n) [] h = refl
all_apart_take fs (suc n) (y ∷ ys) h =
    let t = and_parts (list_all (are_apart fs y) ys) (all_apart fs ys) h in
    rw (list_all_take (are_apart fs y) n ys t.0) (all_apart_take fs n ys t.1)

module _ (first : ℕ) where
  -- a representative at the end of an edge is a node
  pub end_is_node : (all fs : List (Fact ℕ)) (roles : ℕ → Bool) (from y : ℕ)
      → list_any (gives_edge roles (rep all) from y) fs ≡ true → y < node_count_from first fs
  end_is_node all [] roles from y h = cc
  end_is_node all (Edge r v w ∷ fs) roles from y h =
      elim (or_cases (roles r && eqb (rep all v) from && eqb (rep all w) y)
      (list_any (gives_edge roles (rep all) from y) fs) h) [
        | inl here ↦ omega (
          arith,
          eqb-true (rep all w) y (and_parts (roles r && eqb (rep all v) from) (eqb (rep all w) y) here).1,
          rep-le all w,
        )
        | inr later ↦ omega (arith, end_is_node all fs roles from y later)
      ]
  end_is_node all (Has v c ∷ fs) roles from y h = end_is_node all fs roles from y h
  end_is_node all (Apart v w ∷ fs) roles from y h = end_is_node all fs roles from y h
  end_is_node all (Same v w ∷ fs) roles from y h = end_is_node all fs roles from y h

  pub edge_ends_at_node : (fs : List (Fact ℕ)) (roles : ℕ → Bool) (x y : ℕ) → has_edge fs roles x y ≡ true
      → rep fs y < node_count_from first fs
  edge_ends_at_node fs roles x y h = end_is_node fs fs roles (rep fs x) (rep fs y) h

  pub successor_is_node : (fs : List (Fact ℕ)) (roles : ℕ → Bool) (x y : ℕ) → is_successor fs roles x y ≡ true
      → y < node_count_from first fs
  successor_is_node fs roles x y h =
      omega (arith, successor_is_rep fs roles x y h, edge_ends_at_node fs roles x y (successor_has_edge fs roles x y h))

  -- ---- successors with the filler

  -- what the test of a successor with the filler says
  pub record FilledSuccessor (below : ℕ → ℕ → Bool) (fs : List (Fact ℕ)) (x s e y : ℕ) : Type 0 where
    pub is_node : y < node_count_from first fs
    pub edge : has_edge fs (λ r. below r s) x y ≡ true
    pub holds : has fs y e ≡ true

  module _ (below : ℕ → ℕ → Bool) (fs : List (Fact ℕ)) (x s e : ℕ) where
    pub filled_parts : (y : ℕ) → is_filled_successor first below fs x s e y ≡ true → FilledSuccessor below fs x s e y
    filled_parts y h =
        let t = and_parts (ltb y (node_count_from first fs) && has_edge fs (λ r. below r s) x y) (has fs y e) h in
        let u = and_parts (ltb y (node_count_from first fs)) (has_edge fs (λ r. below r s) x y) t.0 in
        record { is_node = ltb-true y (node_count_from first fs) u.0; edge = u.1; holds = t.1 }

    pub filled_from : (y : ℕ) → FilledSuccessor below fs x s e y → is_filled_successor first below fs x s e y ≡ true
    filled_from y f = rw (lt-ltb y (node_count_from first fs) f.is_node, f.edge) f.holds

    pub all_filled_parts : (ys : List ℕ) → list_all (is_filled_successor first below fs x s e) ys ≡ true
        → All (FilledSuccessor below fs x s e) ys
    all_filled_parts [] h = All-nil (FilledSuccessor below fs x s e)
    all_filled_parts (y ∷ ys) h =
        let t =
        and_parts (is_filled_successor first below fs x s e y) (list_all (is_filled_successor first below fs x s e) ys)
        h in
        All-cons (FilledSuccessor below fs x s e) y ys (filled_parts y t.0) (all_filled_parts ys t.1)

    pub all_filled_from : (ys : List ℕ) → All (FilledSuccessor below fs x s e) ys
        → list_all (is_filled_successor first below fs x s e) ys ≡ true
    all_filled_from [] h = refl
    all_filled_from (y ∷ ys) h =
        rw (filled_from y (All-head (FilledSuccessor below fs x s e) y ys h))
        (all_filled_from ys (All-tail (FilledSuccessor below fs x s e) y ys h))

  -- each of their representatives is a successor, and has the filler
  pub filled_are_successors : (below : ℕ → ℕ → Bool) (fs : List (Fact ℕ)) (x s e : ℕ)
      → All (λ y. is_successor fs (λ r. below r s) x y ≡ true) (filled_successors first below fs x s e)
  filled_are_successors below fs x s e =
      All-filter (λ y. has fs y e) (λ y. is_successor fs (λ r. below r s) x y ≡ true)
      (successors_from first fs (λ r. below r s) x)
      (filter_passes (is_successor fs (λ r. below r s) x) (range_with_len 0 (node_count_from first fs)))

  pub filled_have_filler : (below : ℕ → ℕ → Bool) (fs : List (Fact ℕ)) (x s e : ℕ)
      → All (λ y. has fs y e ≡ true) (filled_successors first below fs x s e)
  filled_have_filler below fs x s e = filter_passes (λ y. has fs y e) (successors_from first fs (λ r. below r s) x)

  pub filled_are_filled : (below : ℕ → ℕ → Bool) (fs : List (Fact ℕ)) (x s e : ℕ)
      → All (FilledSuccessor below fs x s e) (filled_successors first below fs x s e)
  filled_are_filled below fs x s e k d lt =
      let y : ℕ = get_or (filled_successors first below fs x s e) k d in
      let h = filled_are_successors below fs x s e k d lt in
      record {
        is_node = successor_is_node fs (λ r. below r s) x y h;
        edge = successor_has_edge fs (λ r. below r s) x y h;
        holds = filled_have_filler below fs x s e k d lt;
      }

  pub plain_is_clash : (below : ℕ → ℕ → Bool) (table : List Shape) (fs : List (Fact ℕ))
      → IsPlainClash first below table fs → IsClash first below table fs
  plain_is_clash below table fs (plain_bottom x c lt h sh) = of_bottom x c lt h sh
  plain_is_clash below table fs (plain_names x c d a lt h sh g th) = of_names x c d a lt h sh g th
  plain_is_clash below table fs (plain_most x c n s e lt h sh more apart) =
      let ys = filled_successors first below fs x s e in
      of_most x c n s e (take (n + 1) ys) lt h sh (length-take-le (n + 1) ys (omega (arith, more)))
      (all_filled_from below fs x s e (take (n + 1) ys)
      (All-take (FilledSuccessor below fs x s e) (n + 1) ys (filled_are_filled below fs x s e)))
      (all_apart_take fs (n + 1) ys apart)
  plain_is_clash below table fs (plain_differ y z lt mt apart same) = of_differ y z lt mt apart same

-- An edge more between nodes.
use Rattle.std.proofs.Common.{◌≡◌, ℕ, ◌<◌, ◌&&◌, ◌||◌, eqb, Bool, true, false, List, [], ◌∷◌, ◌++◌, length, refl, ap}
use Rattle.std.proofs.Common.{◌∙◌, sym, subst, arith, inl, inr}
use Rattle.std.specs.Prelude.{◌↔◌}
use Rattle.std.specs.List.{list_any, list_all, filter, range_with_len}
use Rattle.std.proofs.lemmas.Bool.{eqb-true, cases_Bool, and_parts}
use Rattle.std.proofs.Math.Bool.{or-false}
use Rattle.calculus_specs.specs.Shape.{Shape}
use Rattle.calculus_specs.specs.declared.facts.Fact.{Fact}
use Rattle.calculus_specs.specs.declared.facts.Fact.TheVariants.{Edge}
use Rattle.calculus_specs.specs.Joins.{rep}
use Rattle.calculus_specs.specs.State.{node_count_from, gives_concept, gives_edge, gives_apart, has, has_edge}
use Rattle.calculus_specs.specs.State.{is_successor, are_apart, all_apart}
use Rattle.tableau_specs.specs.Clash.{filled_successors, IsPlainClash}
use Rattle.tableau_specs.specs.Clash.IsPlainClash.{plain_bottom, plain_names, plain_most, plain_differ}
use Rattle.tableau_specs.proofs.TreeShaped.{reps-snoc, count-edge}
use Rattle.tableau_specs.specs.Near.{ClashesByEdge}
use Rattle.tableau_specs.specs.Near.ClashesByEdge.{edge_overrun}
use Rattle.tableau_specs.proofs.After.{any-snoc}
use Rattle.tableau_specs.proofs.ClashBlock.{filter_filter}
use Rattle.tableau_specs.proofs.Moved.{has_at, overrun_at}

-- a test of a new edge that fails for each filler
no_more : (a E N H : Bool) → (N ≡ true → H ≡ false) → ((a && (E || N)) && H) ≡ ((a && E) && H)
no_more false E N H out = refl
no_more true true N H out = refl
no_more true false false H out = refl
no_more true false true H out = out refl

module _ (first : ℕ) (below : ℕ → ℕ → Bool) (table : List Shape) (fs : List (Fact ℕ)) (r x y : ℕ)
    (lx : x < node_count_from first fs) (ly : y < node_count_from first fs) where
  abbrev after : List (Fact ℕ)
  after = fs ++ Edge r x y ∷ []

  reps : rep after ≡ rep fs
  reps = reps-snoc fs (Edge r x y)

  count : node_count_from first after ≡ node_count_from first fs
  count = omega (arith, count-edge first fs r x y)

  holds : (v c : ℕ) → has after v c ≡ has fs v c
  holds v c =
      ap (λ (m : ℕ → ℕ). eqb c 0 || list_any (gives_concept (λ e. eqb e c) m (m v)) after) reps
      ∙ ap (λ (b : Bool). eqb c 0 || b)
      (any-snoc (gives_concept (λ e. eqb e c) (rep fs) (rep fs v)) fs (Edge r x y)
      ∙ or-false (list_any (gives_concept (λ e. eqb e c) (rep fs) (rep fs v)) fs))

  aparts : (v w : ℕ) → are_apart after v w ≡ are_apart fs v w
  aparts v w =
      ap (λ (m : ℕ → ℕ). list_any (gives_apart m (m v) (m w)) after) reps
      ∙ any-snoc (gives_apart (rep fs) (rep fs v) (rep fs w)) fs (Edge r x y) ∙ or-false (are_apart fs v w)

  -- an edge as before, or this one
  edges : (roles : ℕ → Bool) (v w : ℕ)
      → has_edge after roles v w
      ≡ (has_edge fs roles v w || (roles r && eqb (rep fs x) (rep fs v) && eqb (rep fs y) (rep fs w)))
  edges roles v w =
      ap (λ (m : ℕ → ℕ). list_any (gives_edge roles m (m v) (m w)) after) reps
      ∙ any-snoc (gives_edge roles (rep fs) (rep fs v) (rep fs w)) fs (Edge r x y)

  -- whether the edge may make v have one more that fits
  abbrev is_near : ℕ → ℕ → ℕ → Bool
  is_near v t d = (below r t && eqb (rep fs x) (rep fs v)) && has fs y d

  abbrev fits : List (Fact ℕ) → ℕ → ℕ → ℕ → ℕ → Bool
  fits gs v t d w = is_successor gs (λ q. below q t) v w && has gs w d

  filled_is : (gs : List (Fact ℕ)) (v t d : ℕ)
      → filled_successors first below gs v t d ≡ filter (fits gs v t d) (range_with_len 0 (node_count_from first gs))
  filled_is gs v t d =
      filter_filter (is_successor gs (λ q. below q t) v) (λ w. has gs w d) (range_with_len 0 (node_count_from first gs))

  same_fits : (v t d : ℕ) → is_near v t d ≡ false → (w : ℕ) → fits after v t d w ≡ fits fs v t d w
  same_fits v t d far w =
      (λ i. (eqb (reps i w) w && edges (λ q. below q t) v w i) && holds w d i)
      ∙ no_more (eqb (rep fs w) w) (has_edge fs (λ q. below q t) v w)
      (below r t && eqb (rep fs x) (rep fs v) && eqb (rep fs y) (rep fs w)) (has fs w d) (λ new.
      let u = and_parts (below r t && eqb (rep fs x) (rep fs v)) (eqb (rep fs y) (rep fs w)) new in
      has_at fs w y d (sym (eqb-true (rep fs y) (rep fs w) u.1)) ∙ rw u.0 at far)

  same_filled : (v t d : ℕ) → is_near v t d ≡ false
      → filled_successors first below after v t d ≡ filled_successors first below fs v t d
  same_filled v t d far =
      filled_is after v t d ∙ (λ i. filter (λ w. same_fits v t d far w i) (range_with_len 0 (count i)))
      ∙ sym (filled_is fs v t d)

  each_apart : (v : ℕ) (ws : List ℕ) → list_all (are_apart after v) ws ≡ list_all (are_apart fs v) ws
  each_apart v ws = ap (λ (p : ℕ → Bool). list_all p ws) (λ i w. aparts v w i)

  same_apart : (vs : List ℕ) → all_apart after vs ≡ all_apart fs vs
  same_apart [] = refl
  same_apart (v ∷ vs) = λ i. each_apart v vs i && same_apart vs i

  old : (v : ℕ) → v < node_count_from first after → v < node_count_from first fs
  old v lt = subst (λ (k : ℕ). v < k) count lt

  one_before : (a b : ℕ) → rep after a ≡ rep after b → rep fs a ≡ rep fs b
  one_before a b e = sym (ap (λ (m : ℕ → ℕ). m a) reps) ∙ e ∙ ap (λ (m : ℕ → ℕ). m b) reps

  near : ¬ IsPlainClash first below table fs → IsPlainClash first below table after
      → ClashesByEdge first below table after r x y
  near none (plain_bottom v c lt h sh) = absurd (none (plain_bottom v c (old v lt) (sym (holds v c) ∙ h) sh))
  near none (plain_names v c d a lt h sh g th) =
      absurd (none (plain_names v c d a (old v lt) (sym (holds v c) ∙ h) sh (sym (holds v d) ∙ g) th))
  near none (plain_differ a b lt mt h e) =
      absurd (none (plain_differ a b (old a lt) (old b mt) (sym (aparts a b) ∙ h) (one_before a b e)))
  near none (plain_most v c m t d lt h sh more every) = elim (cases_Bool (is_near v t d)) [
    | inl hit ↦
        let u = and_parts (below r t && eqb (rep fs x) (rep fs v)) (has fs y d) hit in
        let k = and_parts (below r t) (eqb (rep fs x) (rep fs v)) u.0 in
        let same : rep after v ≡ rep after x =
        ap (λ (n : ℕ → ℕ). n v) reps ∙ sym (eqb-true (rep fs x) (rep fs v) k.1) ∙ sym (ap (λ (n : ℕ → ℕ). n x) reps) in
        edge_overrun c m t d k.0 (holds y d ∙ u.1) (overrun_at after first below table v x c m t d same
        (record { holds = h; shape = sh; more = more; every = every }))
    | inr miss ↦
        let same = same_filled v t d miss in
        absurd (none
        (plain_most v c m t d (old v lt) (sym (holds v c) ∙ h) sh (subst (λ (vs : List ℕ). m < length vs) same more)
        (sym (same_apart (filled_successors first below fs v t d))
        ∙ subst (λ (vs : List ℕ). all_apart after vs ≡ true) same every)))
  ]

  far : ClashesByEdge first below table after r x y → IsPlainClash first below table after
  far (edge_overrun c m t d b there h) =
      plain_most x c m t d (subst (λ (k : ℕ). x < k) (sym count) lx) h.holds h.shape h.more h.every

pub edge_clashes : (first : ℕ) (below : ℕ → ℕ → Bool) (table : List Shape) (fs : List (Fact ℕ)) (r x y : ℕ)
    → x < node_count_from first fs → y < node_count_from first fs → ¬ IsPlainClash first below table fs
    → IsPlainClash first below table (fs ++ Edge r x y ∷ [])
    ↔ ClashesByEdge first below table (fs ++ Edge r x y ∷ []) r x y
edge_clashes first below table fs r x y lx ly none =
    (near first below table fs r x y lx ly none, far first below table fs r x y lx ly)

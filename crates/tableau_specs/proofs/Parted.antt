-- Two nodes apart.
use Rattle.std.proofs.Common.{◌≡◌, ℕ, ◌+◌, ◌<◌, ◌&&◌, ◌||◌, max, eqb, Bool, true, false, List, [], ◌∷◌, ◌++◌, length}
use Rattle.std.proofs.Common.{refl, ap, ◌∙◌, sym, subst, inl, inr, eq-eqb}
use Rattle.std.specs.Prelude.{◌↔◌}
use Rattle.std.specs.List.{list_any, filter, range_with_len}
use Rattle.std.proofs.lemmas.Bool.{eqb-true, or_cases, cases_Bool, and_parts, or_right}
use Rattle.std.proofs.Math.Bool.{or-false}
use Rattle.calculus_specs.specs.Shape.{Shape}
use Rattle.calculus_specs.specs.declared.facts.Fact.{Fact}
use Rattle.calculus_specs.specs.declared.facts.Fact.TheVariants.{Has, Edge, Apart, Same}
use Rattle.calculus_specs.specs.Joins.{rep}
use Rattle.calculus_specs.specs.State.{node_count_from, gives_concept, gives_edge, gives_apart, has, has_edge}
use Rattle.calculus_specs.specs.State.{are_apart, all_apart}
use Rattle.tableau_specs.specs.Clash.{filled_successors, IsPlainClash}
use Rattle.tableau_specs.proofs.PlainClash.{FilledSuccessor}
use Rattle.tableau_specs.specs.Clash.IsPlainClash.{plain_bottom, plain_names, plain_most, plain_differ}
use Rattle.tableau_specs.proofs.PlainClash.{filled_are_filled}
use Rattle.tableau_specs.proofs.TreeShaped.{reps-snoc}
use Rattle.tableau_specs.specs.Near.{ClashesByApart}
use Rattle.tableau_specs.specs.Near.ClashesByApart.{apart_overrun, apart_differ}
use Rattle.tableau_specs.proofs.After.{any-snoc, all_apart_same}
use Rattle.tableau_specs.proofs.Moved.{has_at, edge_to}

count-apart : (first : ℕ) (fs : List (Fact ℕ)) (x y : ℕ)
    → node_count_from first (fs ++ Apart x y ∷ []) ≡ node_count_from first fs
count-apart first [] x y = refl
count-apart first (Edge r v w ∷ fs) x y = ap (max (w + 1)) (count-apart first fs x y)
count-apart first (Has v d ∷ fs) x y = count-apart first fs x y
count-apart first (Apart v w ∷ fs) x y = count-apart first fs x y
count-apart first (Same v w ∷ fs) x y = count-apart first fs x y

module _ (first : ℕ) (below : ℕ → ℕ → Bool) (table : List Shape) (fs : List (Fact ℕ)) (y z : ℕ) where
  abbrev after : List (Fact ℕ)
  after = fs ++ Apart y z ∷ []

  reps : rep after ≡ rep fs
  reps = reps-snoc fs (Apart y z)

  holds : (x c : ℕ) → has after x c ≡ has fs x c
  holds x c =
      ap (λ (m : ℕ → ℕ). eqb c 0 || list_any (gives_concept (λ e. eqb e c) m (m x)) after) reps
      ∙ ap (λ (b : Bool). eqb c 0 || b)
      (any-snoc (gives_concept (λ e. eqb e c) (rep fs) (rep fs x)) fs (Apart y z)
      ∙ or-false (list_any (gives_concept (λ e. eqb e c) (rep fs) (rep fs x)) fs))

  edges : (roles : ℕ → Bool) (x v : ℕ) → has_edge after roles x v ≡ has_edge fs roles x v
  edges roles x v =
      ap (λ (m : ℕ → ℕ). list_any (gives_edge roles m (m x) (m v)) after) reps
      ∙ any-snoc (gives_edge roles (rep fs) (rep fs x) (rep fs v)) fs (Apart y z) ∙ or-false (has_edge fs roles x v)

  fits_same : (x s e : ℕ) → filled_successors first below after x s e ≡ filled_successors first below fs x s e
  fits_same x s e =
      λ i. filter (λ v. holds v e i)
      (filter (λ v. eqb (reps i v) v && edges (λ r. below r s) x v i) (range_with_len 0 (count-apart first fs y z i)))

  -- a pair that is apart as before, or is this one
  apart_is : (a b : ℕ)
      → are_apart after a b ≡ (are_apart fs a b || gives_apart {C = ℕ} (rep fs) (rep fs a) (rep fs b) (Apart y z))
  apart_is a b =
      ap (λ (m : ℕ → ℕ). list_any (gives_apart m (m a) (m b)) after) reps
      ∙ any-snoc (gives_apart (rep fs) (rep fs a) (rep fs b)) fs (Apart y z)

  abbrev is_near : ℕ → ℕ → ℕ → Bool
  is_near x s e = (has_edge fs (λ r. below r s) x y && has fs y e) && (has_edge fs (λ r. below r s) x z && has fs z e)

  module _ (x s e : ℕ) (far : is_near x s e ≡ false) where
    -- a filler with the representative of v makes v one
    fills : (a v : ℕ) → FilledSuccessor first below fs x s e a → rep fs v ≡ rep fs a
        → (has_edge fs (λ r. below r s) x v && has fs v e) ≡ true
    fills a v h same = rw (edge_to fs (λ r. below r s) v a x same ∙ h.edge, has_at fs v a e same ∙ h.holds) refl

    apart_before : (a b : ℕ) → FilledSuccessor first below fs x s e a → FilledSuccessor first below fs x s e b
        → are_apart after a b ≡ are_apart fs a b
    apart_before a b ha hb =
        apart_is a b ∙ elim (cases_Bool (gives_apart {C = ℕ} (rep fs) (rep fs a) (rep fs b) (Apart y z))) [
          | inr out ↦ rw out (or-false (are_apart fs a b))
          | inl hit ↦
              elim (or_cases (eqb (rep fs y) (rep fs a) && eqb (rep fs z) (rep fs b))
              (eqb (rep fs y) (rep fs b) && eqb (rep fs z) (rep fs a)) hit) [
                | inl t ↦
                    let u = and_parts (eqb (rep fs y) (rep fs a)) (eqb (rep fs z) (rep fs b)) t in
                    (let k = fills a y ha (eqb-true (rep fs y) (rep fs a) u.0) in
                    let l = fills b z hb (eqb-true (rep fs z) (rep fs b) u.1) in let m = rw (k, l) at far in cc)
                | inr t ↦
                    let u = and_parts (eqb (rep fs y) (rep fs b)) (eqb (rep fs z) (rep fs a)) t in
                    (let k = fills b y hb (eqb-true (rep fs y) (rep fs b) u.0) in
                    let l = fills a z ha (eqb-true (rep fs z) (rep fs a) u.1) in let m = rw (k, l) at far in cc)
              ]
        ]

  one_before : (a b : ℕ) → rep after a ≡ rep after b → rep fs a ≡ rep fs b
  one_before a b e = sym (ap (λ (m : ℕ → ℕ). m a) reps) ∙ e ∙ ap (λ (m : ℕ → ℕ). m b) reps

  -- where the new pair is of one representative, so are y and z
  both : (a b : ℕ) → rep fs a ≡ rep fs b → gives_apart {C = ℕ} (rep fs) (rep fs a) (rep fs b) (Apart y z) ≡ true
      → rep fs y ≡ rep fs z
  both a b e h =
      elim (or_cases (eqb (rep fs y) (rep fs a) && eqb (rep fs z) (rep fs b))
      (eqb (rep fs y) (rep fs b) && eqb (rep fs z) (rep fs a)) h) [
        | inl t ↦
            let u = and_parts (eqb (rep fs y) (rep fs a)) (eqb (rep fs z) (rep fs b)) t in
            eqb-true (rep fs y) (rep fs a) u.0 ∙ e ∙ sym (eqb-true (rep fs z) (rep fs b) u.1)
        | inr t ↦
            let u = and_parts (eqb (rep fs y) (rep fs b)) (eqb (rep fs z) (rep fs a)) t in
            eqb-true (rep fs y) (rep fs b) u.0 ∙ sym e ∙ sym (eqb-true (rep fs z) (rep fs a) u.1)
      ]

  itself : gives_apart {C = ℕ} (rep fs) (rep fs y) (rep fs z) (Apart y z) ≡ true
  itself = rw (eq-eqb (rep fs y) (rep fs y) refl, eq-eqb (rep fs z) (rep fs z) refl) refl

  near : ¬ IsPlainClash first below table fs → IsPlainClash first below table after
      → ClashesByApart first below table after y z
  near none (plain_bottom x c lt h sh) =
      absurd (none (plain_bottom x c (subst (λ (k : ℕ). x < k) (count-apart first fs y z) lt) (sym (holds x c) ∙ h) sh))
  near none (plain_names x c d a lt h sh g th) =
      absurd (none
      (plain_names x c d a (subst (λ (k : ℕ). x < k) (count-apart first fs y z) lt) (sym (holds x c) ∙ h) sh
      (sym (holds x d) ∙ g) th))
  near none (plain_most x c n s e lt h sh more every) = elim (cases_Bool (is_near x s e)) [
    | inl hit ↦
        let t =
        and_parts (has_edge fs (λ r. below r s) x y && has fs y e) (has_edge fs (λ r. below r s) x z && has fs z e)
        hit in
        let u = and_parts (has_edge fs (λ r. below r s) x y) (has fs y e) t.0 in
        let v = and_parts (has_edge fs (λ r. below r s) x z) (has fs z e) t.1 in
        apart_overrun x c n s e lt (edges (λ r. below r s) x y ∙ u.0) (holds y e ∙ u.1)
        (edges (λ r. below r s) x z ∙ v.0) (holds z e ∙ v.1)
        (record { holds = h; shape = sh; more = more; every = every })
    | inr miss ↦
        let ys = filled_successors first below fs x s e in
        let every' : all_apart fs ys ≡ true =
        sym (all_apart_same fs after (FilledSuccessor first below fs x s e) (apart_before x s e miss) ys
        (filled_are_filled first below fs x s e))
        ∙ subst (λ (vs : List ℕ). all_apart after vs ≡ true) (fits_same x s e) every in
        absurd (none
        (plain_most x c n s e (subst (λ (k : ℕ). x < k) (count-apart first fs y z) lt) (sym (holds x c) ∙ h) sh
        (subst (λ (vs : List ℕ). n < length vs) (fits_same x s e) more) every'))
  ]
  near none (plain_differ a b lt mt h e) =
      elim (or_cases (are_apart fs a b) (gives_apart {C = ℕ} (rep fs) (rep fs a) (rep fs b) (Apart y z))
      (sym (apart_is a b) ∙ h)) [
        | inl old ↦
            absurd (none
            (plain_differ a b (subst (λ (k : ℕ). a < k) (count-apart first fs y z) lt)
            (subst (λ (k : ℕ). b < k) (count-apart first fs y z) mt) old (one_before a b e)))
        | inr new ↦
            apart_differ
            (ap (λ (m : ℕ → ℕ). m y) reps ∙ both a b (one_before a b e) new ∙ sym (ap (λ (m : ℕ → ℕ). m z) reps))
      ]

  far : y < node_count_from first after → z < node_count_from first after → ClashesByApart first below table after y z
      → IsPlainClash first below table after
  far ly lz (apart_overrun x c n s e lt ey hy ez hz h) = plain_most x c n s e lt h.holds h.shape h.more h.every
  far ly lz (apart_differ e) =
      plain_differ y z ly lz
      (apart_is y z
      ∙ or_right (are_apart fs y z) (gives_apart {C = ℕ} (rep fs) (rep fs y) (rep fs z) (Apart y z)) itself)
      e

pub apart_clashes : (first : ℕ) (below : ℕ → ℕ → Bool) (table : List Shape) (fs : List (Fact ℕ)) (y z : ℕ)
    → y < node_count_from first fs → z < node_count_from first fs → ¬ IsPlainClash first below table fs
    → IsPlainClash first below table (fs ++ Apart y z ∷ [])
    ↔ ClashesByApart first below table (fs ++ Apart y z ∷ []) y z
apart_clashes first below table fs y z ly lz none =
    let count = sym (count-apart first fs y z) in (
      near first below table fs y z none,
      far first below table fs y z (subst (λ (k : ℕ). y < k) count ly) (subst (λ (k : ℕ). z < k) count lz),
    )

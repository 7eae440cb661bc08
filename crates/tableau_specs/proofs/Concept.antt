-- A concept more at a node.
use Rattle.std.proofs.Common.{◌≡◌, ℕ, ◌<◌, ◌&&◌, ◌||◌, ◌⊎◌, eqb, Bool, true, false, List, [], ◌∷◌, ◌++◌, length, refl}
use Rattle.std.proofs.Common.{ap, ◌∙◌, sym, subst, inl, inr, eq-eqb}
use Rattle.std.proofs.lemmas.Bool.{eqb-true, or_cases, cases_Bool, and_parts, or_right}
use Rattle.std.specs.Prelude.{◌↔◌}
use Rattle.std.proofs.Math.Bool.{or-false}
use Rattle.calculus_specs.specs.Shape.{Shape, shape_of}
use Rattle.calculus_specs.specs.Shape.Shape.{bottom, name, not_name}
use Rattle.calculus_specs.specs.declared.facts.Fact.{Fact}
use Rattle.calculus_specs.specs.declared.facts.Fact.TheVariants.{Has}
use Rattle.calculus_specs.specs.Joins.{rep}
use Rattle.calculus_specs.specs.State.{node_count_from, has, has_edge, are_apart, all_apart}
use Rattle.tableau_specs.specs.Clash.{filled_successors, IsPlainClash}
use Rattle.tableau_specs.specs.Clash.IsPlainClash.{plain_bottom, plain_names, plain_most, plain_differ}
use Rattle.tableau_specs.specs.Near.{IsOverrun, ClashesBy}
use Rattle.tableau_specs.specs.Near.ClashesBy.{by_bottom, by_name, by_complement, by_most, by_filler}
use Rattle.tableau_specs.proofs.After.{IsAlike, filled_alike, all_apart_alike, has_alike, has-has}
use Rattle.tableau_specs.proofs.Moved.{has_at, edge_to, overrun_at}

module _ (first : ℕ) (below : ℕ → ℕ → Bool) (table : List Shape) (fs : List (Fact ℕ)) (x d : ℕ) where
  abbrev after : List (Fact ℕ)
  after = fs ++ Has x d ∷ []

  alike : IsAlike first fs after
  alike = has_alike fs x d first

  -- a node has a concept as before, or it is the new one at x
  cases_has : (y c : ℕ) → has after y c ≡ true → (has fs y c ≡ true) ⊎ ((rep fs x ≡ rep fs y) × (d ≡ c))
  cases_has y c h = elim (or_cases (has fs y c) (eqb (rep fs x) (rep fs y) && eqb d c) (sym (has-has fs x d y c) ∙ h)) [
    | inl old ↦ inl old
    | inr new ↦
        let t = and_parts (eqb (rep fs x) (rep fs y)) (eqb d c) new in
        inr (eqb-true (rep fs x) (rep fs y) t.0, eqb-true d c t.1)
  ]

  new_there : has after x d ≡ true
  new_there =
      has-has fs x d x d
      ∙ or_right (has fs x d) (eqb (rep fs x) (rep fs x) && eqb d d)
      (rw (eq-eqb (rep fs x) (rep fs x) refl, eq-eqb d d refl) refl)

  same_reps : (y z : ℕ) → rep fs y ≡ rep fs z → rep after y ≡ rep after z
  same_reps y z e = ap (λ (m : ℕ → ℕ). m y) alike.reps ∙ e ∙ sym (ap (λ (m : ℕ → ℕ). m z) alike.reps)

  -- the successors of y that fit are as before, where the new concept is no filler or x no successor of y
  as_before : (y s e : ℕ) → (has_edge fs (λ r. below r s) y x && eqb d e) ≡ false
      → filled_successors first below after y s e ≡ filled_successors first below fs y s e
  as_before y s e out =
      filled_alike first fs after alike below y s e
      (λ z next. has-has fs x d z e
      ∙ ap (λ (b : Bool). has fs z e || b) (elim (cases_Bool (eqb (rep fs x) (rep fs z) && eqb d e)) [
        | inr miss ↦ miss
        | inl new ↦
            let t = and_parts (eqb (rep fs x) (rep fs z)) (eqb d e) new in
            let edge =
            edge_to fs (λ r. below r s) x z y (eqb-true (rep fs x) (rep fs z) t.0)
            ∙ (and_parts (eqb (rep fs z) z) (has_edge fs (λ r. below r s) y z) next).1 in
            (let k = rw (edge, t.1) at out in cc)
      ]) ∙ or-false (has fs z e))

  module _ (none : ¬ IsPlainClash first below table fs) where
    near_bottom : (y c : ℕ) → y < node_count_from first fs → shape_of table c ≡ bottom
        → (has fs y c ≡ true) ⊎ ((rep fs x ≡ rep fs y) × (d ≡ c)) → ClashesBy first below table after x d
    near_bottom y c lt sh (inl old) = absurd (none (plain_bottom y c lt old sh))
    near_bottom y c lt sh (inr new) = by_bottom (ap (shape_of table) new.1 ∙ sh)

    near_names : (y c e a : ℕ) → y < node_count_from first fs → shape_of table c ≡ name a → has after y c ≡ true
        → shape_of table e ≡ not_name a → has after y e ≡ true
        → (has fs y c ≡ true) ⊎ ((rep fs x ≡ rep fs y) × (d ≡ c))
        → (has fs y e ≡ true) ⊎ ((rep fs x ≡ rep fs y) × (d ≡ e)) → ClashesBy first below table after x d
    near_names y c e a lt sh h th g (inl old) (inl old') = absurd (none (plain_names y c e a lt old sh old' th))
    near_names y c e a lt sh h th g (inr new) k =
        by_name e a (ap (shape_of table) new.1 ∙ sh) (has_at after x y e (same_reps x y new.0) ∙ g) th
    near_names y c e a lt sh h th g (inl old) (inr new) =
        by_complement c a (ap (shape_of table) new.1 ∙ th) (has_at after x y c (same_reps x y new.0) ∙ h) sh

    near_most : (y c n s e : ℕ) → y < node_count_from first fs → IsOverrun first below table after y c n s e
        → (has fs y c ≡ true) ⊎ ((rep fs x ≡ rep fs y) × (d ≡ c)) → ClashesBy first below table after x d
    near_most y c n s e lt h (inr new) =
        by_most n s e
        (subst (λ (k : ℕ). IsOverrun first below table after x k n s e) (sym new.1)
        (overrun_at after first below table y x c n s e (sym (same_reps x y new.0)) h))
    near_most y c n s e lt h (inl old) = elim (cases_Bool (has_edge fs (λ r. below r s) y x && eqb d e)) [
      | inl near ↦
          let t = and_parts (has_edge fs (λ r. below r s) y x) (eqb d e) near in
          by_filler y c n s (subst (λ (k : ℕ). y < k) (sym alike.nodes) lt) (alike.edges (λ r. below r s) y x ∙ t.0)
          (subst (λ (k : ℕ). IsOverrun first below table after y c n s k) (sym (eqb-true d e t.1)) h)
      | inr far ↦
          let same = as_before y s e far in
          absurd (none (plain_most y c n s e lt old h.shape (subst (λ (vs : List ℕ). n < length vs) same h.more)
          (sym (all_apart_alike first fs after alike (filled_successors first below fs y s e))
          ∙ subst (λ (vs : List ℕ). all_apart after vs ≡ true) same h.every)))
    ]

    near_differ : (y z : ℕ) → y < node_count_from first fs → z < node_count_from first fs → are_apart after y z ≡ true
        → rep after y ≡ rep after z → ClashesBy first below table after x d
    near_differ y z lt mt h e =
        absurd (none
        (plain_differ y z lt mt (sym (alike.aparts y z) ∙ h)
        (sym (ap (λ (m : ℕ → ℕ). m y) alike.reps) ∙ e ∙ ap (λ (m : ℕ → ℕ). m z) alike.reps)))

    concept_near : IsPlainClash first below table after → ClashesBy first below table after x d
    concept_near (plain_bottom y c lt h sh) =
        near_bottom y c (subst (λ (k : ℕ). y < k) alike.nodes lt) sh (cases_has y c h)
    concept_near (plain_names y c e a lt h sh g th) =
        near_names y c e a (subst (λ (k : ℕ). y < k) alike.nodes lt) sh h th g (cases_has y c h) (cases_has y e g)
    concept_near (plain_most y c n s e lt h sh more every) =
        near_most y c n s e (subst (λ (k : ℕ). y < k) alike.nodes lt)
        (record { holds = h; shape = sh; more = more; every = every }) (cases_has y c h)
    concept_near (plain_differ y z lt mt h e) =
        near_differ y z (subst (λ (k : ℕ). y < k) alike.nodes lt) (subst (λ (k : ℕ). z < k) alike.nodes mt) h e

  concept_far : x < node_count_from first after → ClashesBy first below table after x d
      → IsPlainClash first below table after
  concept_far lt (by_bottom sh) = plain_bottom x d lt new_there sh
  concept_far lt (by_name c a sh h th) = plain_names x d c a lt new_there sh h th
  concept_far lt (by_complement c a sh h th) = plain_names x c d a lt h th new_there sh
  concept_far lt (by_most n s e h) = plain_most x d n s e lt h.holds h.shape h.more h.every
  concept_far lt (by_filler z c n s mt edge h) = plain_most z c n s d mt h.holds h.shape h.more h.every

pub concept_clashes : (first : ℕ) (below : ℕ → ℕ → Bool) (table : List Shape) (fs : List (Fact ℕ)) (x d : ℕ)
    → x < node_count_from first fs → ¬ IsPlainClash first below table fs
    → IsPlainClash first below table (fs ++ Has x d ∷ []) ↔ ClashesBy first below table (fs ++ Has x d ∷ []) x d
concept_clashes first below table fs x d lt none = (
  concept_near first below table fs x d none,
  concept_far first below table fs x d (subst (λ (k : ℕ). x < k) (sym (has_alike fs x d first).nodes) lt),
)

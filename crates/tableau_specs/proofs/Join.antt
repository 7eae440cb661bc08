-- Two nodes become one.
use Rattle.std.proofs.Common.{◌≡◌, ℕ, ◌<◌, ◌&&◌, ◌⊎◌, eqb, Bool, true, false, List, [], ◌∷◌, ◌++◌, length, refl, ◌∙◌}
use Rattle.std.proofs.Common.{sym, subst, inl, inr}
use Rattle.std.specs.Prelude.{◌↔◌}
use Rattle.std.specs.List.{list_any, filter, range_with_len}
use Rattle.std.proofs.lemmas.Bool.{cases_Bool, and_parts}
use Rattle.std.proofs.lemmas.List.Elements.{All-weaker}
use Rattle.calculus_specs.specs.Shape.{Shape, shape_of}
use Rattle.calculus_specs.specs.Shape.Shape.{bottom}
use Rattle.calculus_specs.specs.declared.facts.Fact.{Fact}
use Rattle.calculus_specs.specs.declared.facts.Fact.TheVariants.{Same}
use Rattle.calculus_specs.specs.Joins.{rep}
use Rattle.calculus_specs.specs.State.{node_count_from, gives_apart, has, has_edge, is_successor, are_apart, all_apart}
use Rattle.tableau_specs.specs.Clash.{filled_successors, IsPlainClash}
use Rattle.tableau_specs.proofs.PlainClash.{FilledSuccessor}
use Rattle.tableau_specs.specs.Clash.IsPlainClash.{plain_bottom, plain_names, plain_most, plain_differ}
use Rattle.tableau_specs.proofs.PlainClash.{filled_are_filled}
use Rattle.tableau_specs.specs.Near.{IsOverrun, ClashesByJoin}
use Rattle.tableau_specs.specs.Near.ClashesByJoin.{join_names, join_most, join_filler, join_differ}
use Rattle.tableau_specs.proofs.After.{all_apart_same}
use Rattle.tableau_specs.proofs.ClashBlock.{filter_filter}
use Rattle.tableau_specs.proofs.Moved.{has_at, edge_to, overrun_at}
use Rattle.tableau_specs.proofs.Merged.{is_in, count-join, out_rep, out_has, out_edge, out_apart, has_stays, edge_stays}
use Rattle.tableau_specs.proofs.Merged.{in_rep, had}

module _ (first : ℕ) (below : ℕ → ℕ → Bool) (table : List Shape) (fs : List (Fact ℕ)) (y z : ℕ)
    (ly : y < node_count_from first fs) (lz : z < node_count_from first fs) where
  abbrev joined : List (Fact ℕ)
  joined = fs ++ Same y z ∷ []

  abbrev fits : List (Fact ℕ) → ℕ → ℕ → ℕ → ℕ → Bool
  fits gs v s e w = is_successor gs (λ r. below r s) v w && has gs w e

  filled_is : (gs : List (Fact ℕ)) (v s e : ℕ)
      → filled_successors first below gs v s e ≡ filter (fits gs v s e) (range_with_len 0 (node_count_from first gs))
  filled_is gs v s e =
      filter_filter (is_successor gs (λ r. below r s) v) (λ w. has gs w e) (range_with_len 0 (node_count_from first gs))

  abbrev is_near : ℕ → ℕ → ℕ → Bool
  is_near v s e = has_edge joined (λ r. below r s) v y && has joined y e

  no_fit : (a p q : Bool) → (p && q) ≡ false → ((a && p) && q) ≡ false
  no_fit true p q h = h
  no_fit false p q h = refl

  module _ (v s e : ℕ) (out : is_in fs y z v ≡ false) (far : is_near v s e ≡ false) where
    -- neither of the two is counted after it
    not_after : (w : ℕ) → is_in fs y z w ≡ true → (has_edge joined (λ r. below r s) v w && has joined w e) ≡ false
    not_after w h =
        (λ i. edge_to joined (λ r. below r s) w y v (in_rep fs y z w h) i && has_at joined w y e (in_rep fs y z w h) i)
        ∙ far

    -- nor before it
    not_before : (w : ℕ) → is_in fs y z w ≡ true → (has_edge fs (λ r. below r s) v w && has fs w e) ≡ false
    not_before w h = elim (cases_Bool (has_edge fs (λ r. below r s) v w && has fs w e)) [
      | inr miss ↦ miss
      | inl hit ↦
          let t = and_parts (has_edge fs (λ r. below r s) v w) (has fs w e) hit in
          (let k = edge_stays fs y z (λ r. below r s) v w t.0 in
          let l = has_stays fs y z w e t.1 in let n = not_after w h in let p = rw (k, l) at n in cc)
    ]

    same_fits : (w : ℕ) → fits joined v s e w ≡ fits fs v s e w
    same_fits w = elim (cases_Bool (is_in fs y z w)) [
      | inr away ↦
          λ i. (eqb (out_rep fs y z w away i) w && out_edge fs y z (λ r. below r s) v w out away i)
          && out_has fs y z w e away i
      | inl here ↦
          no_fit (eqb (rep joined w) w) (has_edge joined (λ r. below r s) v w) (has joined w e) (not_after w here)
          ∙ sym (no_fit (eqb (rep fs w) w) (has_edge fs (λ r. below r s) v w) (has fs w e) (not_before w here))
    ]

    same_filled : filled_successors first below joined v s e ≡ filled_successors first below fs v s e
    same_filled =
        filled_is joined v s e ∙ (λ i. filter (λ w. same_fits w i) (range_with_len 0 (count-join fs y z first i)))
        ∙ sym (filled_is fs v s e)

    filler_away : (w : ℕ) → FilledSuccessor first below fs v s e w → is_in fs y z w ≡ false
    filler_away w h = elim (cases_Bool (is_in fs y z w)) [
      | inr away ↦ away
      | inl here ↦ (let k = not_before w here in let l = rw (h.edge, h.holds) at k in cc)
    ]

    same_apart : all_apart joined (filled_successors first below fs v s e)
        ≡ all_apart fs (filled_successors first below fs v s e)
    same_apart =
        all_apart_same fs joined (λ w. is_in fs y z w ≡ false) (λ a b ha hb. out_apart fs y z a b ha hb)
        (filled_successors first below fs v s e)
        (All-weaker (FilledSuccessor first below fs v s e) (λ w. is_in fs y z w ≡ false) filler_away
        (filled_successors first below fs v s e) (filled_are_filled first below fs v s e))

  old_node : (v : ℕ) → v < node_count_from first joined → v < node_count_from first fs
  old_node v lt = subst (λ (k : ℕ). v < k) (count-join fs y z first) lt

  module _ (none : ¬ IsPlainClash first below table fs) where
    bottom_before : (c : ℕ) → shape_of table c ≡ bottom → (has fs y c ≡ true) ⊎ (has fs z c ≡ true) → ⊥
    bottom_before c sh (inl h) = none (plain_bottom y c ly h sh)
    bottom_before c sh (inr h) = none (plain_bottom z c lz h sh)

    near_in : (v : ℕ) → is_in fs y z v ≡ true → (c : ℕ) → has joined v c ≡ has joined y c
    near_in v here c = has_at joined v y c (in_rep fs y z v here)

    near_most : (v c n s e : ℕ) → v < node_count_from first joined → is_in fs y z v ≡ false
        → IsOverrun first below table joined v c n s e → ClashesByJoin first below table joined y
    near_most v c n s e lt away h = elim (cases_Bool (is_near v s e)) [
      | inl hit ↦
          let t = and_parts (has_edge joined (λ r. below r s) v y) (has joined y e) hit in
          join_filler v c n s e lt t.0 t.1 h
      | inr miss ↦
          let same = same_filled v s e away miss in
          absurd (none
          (plain_most v c n s e (old_node v lt) (sym (out_has fs y z v c away) ∙ h.holds) h.shape
          (subst (λ (vs : List ℕ). n < length vs) same h.more)
          (sym (same_apart v s e away miss) ∙ subst (λ (vs : List ℕ). all_apart joined vs ≡ true) same h.every)))
    ]

    -- two nodes that are apart and are y
    at_itself : (a b : ℕ) → rep joined a ≡ rep joined y → rep joined b ≡ rep joined y → are_apart joined a b ≡ true
        → are_apart joined y y ≡ true
    at_itself a b ea eb h = (λ i. list_any (gives_apart (rep joined) (sym ea i) (sym eb i)) joined) ∙ h

    near : IsPlainClash first below table joined → ClashesByJoin first below table joined y
    near (plain_bottom v c lt h sh) = elim (cases_Bool (is_in fs y z v)) [
      | inl here ↦ absurd (bottom_before c sh (had fs y z c (sym (near_in v here c) ∙ h)))
      | inr away ↦ absurd (none (plain_bottom v c (old_node v lt) (sym (out_has fs y z v c away) ∙ h) sh))
    ]
    near (plain_names v c d a lt h sh g th) = elim (cases_Bool (is_in fs y z v)) [
      | inl here ↦ join_names c d a (sym (near_in v here c) ∙ h) sh (sym (near_in v here d) ∙ g) th
      | inr away ↦
          absurd (none
          (plain_names v c d a (old_node v lt) (sym (out_has fs y z v c away) ∙ h) sh
          (sym (out_has fs y z v d away) ∙ g) th))
    ]
    near (plain_most v c n s e lt h sh more every) =
        let o : IsOverrun first below table joined v c n s e =
        record { holds = h; shape = sh; more = more; every = every } in
        elim (cases_Bool (is_in fs y z v)) [
          | inl here ↦ join_most c n s e (overrun_at joined first below table v y c n s e (in_rep fs y z v here) o)
          | inr away ↦ near_most v c n s e lt away o
        ]
    near (plain_differ a b lt mt h e) = elim (cases_Bool (is_in fs y z a)) [
      | inl here ↦ join_differ (at_itself a b (in_rep fs y z a here) (sym e ∙ in_rep fs y z a here) h)
      | inr away ↦ elim (cases_Bool (is_in fs y z b)) [
        | inl here ↦ join_differ (at_itself a b (e ∙ in_rep fs y z b here) (in_rep fs y z b here) h)
        | inr away' ↦
            absurd (none
            (plain_differ a b (old_node a lt) (old_node b mt) (sym (out_apart fs y z a b away away') ∙ h)
            (sym (out_rep fs y z a away) ∙ e ∙ out_rep fs y z b away')))
      ]
    ]

  far : y < node_count_from first joined → ClashesByJoin first below table joined y
      → IsPlainClash first below table joined
  far lt (join_names c d a h sh g th) = plain_names y c d a lt h sh g th
  far lt (join_most c n s e h) = plain_most y c n s e lt h.holds h.shape h.more h.every
  far lt (join_filler x c n s e mt edge there h) = plain_most x c n s e mt h.holds h.shape h.more h.every
  far lt (join_differ h) = plain_differ y y lt lt h refl

pub join_clashes : (first : ℕ) (below : ℕ → ℕ → Bool) (table : List Shape) (fs : List (Fact ℕ)) (y z : ℕ)
    → y < node_count_from first fs → z < node_count_from first fs → ¬ IsPlainClash first below table fs
    → IsPlainClash first below table (fs ++ Same y z ∷ []) ↔ ClashesByJoin first below table (fs ++ Same y z ∷ []) y
join_clashes first below table fs y z ly lz none = (
  near first below table fs y z ly lz none,
  far first below table fs y z ly lz (subst (λ (k : ℕ). y < k) (sym (count-join fs y z first)) ly),
)

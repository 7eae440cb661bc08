-- What inserting a kept shape into the set makes of the table.
use Rattle.std.proofs.Common.{◌≡◌, ℕ, zero, suc, ◌+◌, ◌<◌, ◌≤◌, Bool, true, false, ◌||◌, List, [], ◌∷◌, ◌++◌, map}
use Rattle.std.proofs.Common.{length, refl, ap, subst, sym, ◌∙◌, inl, inr, ◌⊎◌, arith, length-append, Some}
use Rattle.std.specs.Prelude.{slice_get, if◌then◌else◌}
use Rattle.std.specs.List.{list_any}
use Rattle.std.proofs.lemmas.List.{map-append}
use Rattle.calculus_specs.specs.Shape.{shape_of, has_parts_below, is_normal, IsTable}
use Rattle.shq_nnf.specs.declared.shapes.OwnedShape.{OwnedShape}
use Rattle.shq_nnf.specs.contracts.shapes.OwnedShapePartialEq.TheImpl.{ghosts}
use Rattle.shq_nnf.specs.Shapes.{form_of_owned}
use Rattle.shq_nnf.specs.Numbers.{IsPut}
use Rattle.shq_nnf.proofs.Same.{same_form, form_same}
use Rattle.shq_nnf.proofs.Grown.{table_with_new}

pub found_at : (k : OwnedShape) (keys : List OwnedShape) (c : ℕ) → c < length keys
    → shape_of (map form_of_owned keys) c ≡ form_of_owned k → list_any (ghosts.eq k) keys ≡ true
found_at k [] c lt e = absurd (omega arith)
found_at k (x ∷ xs) zero lt e = ap (λ b. b || list_any (ghosts.eq k) xs) (form_same k x (sym e))
found_at k (x ∷ xs) (suc c) lt e = by (ghosts.eq k x) (found_at k xs c (omega arith) e)
  where
    by : (b : Bool) → list_any (ghosts.eq k) xs ≡ true → (b || list_any (ghosts.eq k) xs) ≡ true
    by true h = refl
    by false h = h

length_map : (keys : List OwnedShape) → length (map form_of_owned keys) ≡ length keys
length_map [] = refl
length_map (k ∷ ks) = ap suc (length_map ks)

abbrev with_key : Bool → List OwnedShape → OwnedShape → List OwnedShape
with_key b keys k = if b then keys else keys ++ k ∷ []

module _ (keys after : List OwnedShape) (k : OwnedShape)
    (inserted : after ≡ with_key (list_any (ghosts.eq k) keys) keys k) where
  pub length_inserted : length after ≤ length keys + 1
  length_inserted = by (list_any (ghosts.eq k) keys) inserted
    where
      by : (b : Bool) → after ≡ with_key b keys k → length after ≤ length keys + 1
      by true e = let f = ap length e in omega arith
      by false e = let f = ap length e in omega (arith, length-append keys (k ∷ []))

  pub grown_inserted : (map form_of_owned after ≡ map form_of_owned keys)
      ⊎ (map form_of_owned after ≡ map form_of_owned keys ++ form_of_owned k ∷ [])
  grown_inserted = by (list_any (ghosts.eq k) keys) inserted
    where
      by : (b : Bool) → after ≡ with_key b keys k
          → (map form_of_owned after ≡ map form_of_owned keys)
          ⊎ (map form_of_owned after ≡ map form_of_owned keys ++ form_of_owned k ∷ [])
      by true e = inl (ap (map form_of_owned) e)
      by false e = inr (ap (map form_of_owned) e ∙ map-append form_of_owned keys (k ∷ []))

  pub table_inserted : IsTable (map form_of_owned keys)
      → has_parts_below (length (map form_of_owned keys)) (form_of_owned k) ≡ true
      → is_normal (map form_of_owned keys) (form_of_owned k) ≡ true → IsTable (map form_of_owned after)
  table_inserted good below normal = by (list_any (ghosts.eq k) keys) refl
    where
      by : (b : Bool) → list_any (ghosts.eq k) keys ≡ b → IsTable (map form_of_owned after)
      by true e = subst IsTable (sym (ap (map form_of_owned) (inserted ∙ ap (λ v. with_key v keys k) e))) good
      by false e =
          let is : map form_of_owned after ≡ map form_of_owned keys ++ form_of_owned k ∷ [] =
          ap (map form_of_owned) (inserted ∙ ap (λ v. with_key v keys k) e) ∙ map-append form_of_owned keys (k ∷ []) in
          let absent : (c : ℕ) → c < length (map form_of_owned keys)
          → shape_of (map form_of_owned keys) c ≡ form_of_owned k → ⊥ =
          λ c lt same.
          let found : list_any (ghosts.eq k) keys ≡ true = found_at k keys c (omega (arith, length_map keys)) same in
          absurd (cc (sym found ∙ e)) in
          subst IsTable (sym is) (table_with_new (map form_of_owned keys) (form_of_owned k) good below normal absent)

shape_at : (keys : List OwnedShape) (n : ℕ) (k : OwnedShape) → slice_get keys n ≡ Some k
    → (n < length (map form_of_owned keys)) × (shape_of (map form_of_owned keys) n ≡ form_of_owned k)
shape_at [] n k h = cc
shape_at (x ∷ xs) zero k h = let e : x ≡ k = cc in (omega arith, ap form_of_owned e)
shape_at (x ∷ xs) (suc n) k h = let t = shape_at xs n k h in (omega (arith, t.0), t.1)

pub put_inserted : (keys after : List OwnedShape) (k x : OwnedShape) (n : ℕ)
    → after ≡ with_key (list_any (ghosts.eq k) keys) keys k → slice_get after n ≡ Some x → ghosts.eq k x ≡ true
    → IsPut (map form_of_owned keys) (form_of_owned k) (map form_of_owned after) n
put_inserted keys after k x n inserted at same =
    let t = shape_at after n x at in
    record { listed = t.0; has_shape = t.1 ∙ sym (same_form k x same); grown = grown_inserted keys after k inserted }

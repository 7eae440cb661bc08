-- Shapes that are numbered from 1, one more of them, and kept shapes among them.
use Rattle.std.proofs.Common.{◌≡◌, ℕ, zero, suc, ◌+◌, ◌<◌, ◌&&◌, ◌||◌, not, eqb, eq-eqb, Bool, true, false, List, []}
use Rattle.std.proofs.Common.{◌∷◌, ◌++◌, length, take, map, refl, ap, sym, ◌∙◌, inl, inr, ◌⊎◌, Some, None, arith}
use Rattle.std.proofs.Common.{length-append}
use Rattle.std.specs.Prelude.{slice_get, slice_index_or}
use Rattle.std.specs.List.{list_any}
use Rattle.std.proofs.lemmas.Bool.{and_parts, and_from, eqb-true, cases_lt}
use Rattle.std.proofs.lemmas.List.{get_or_append_left, get_or_push, take-append-le, take_all}
use Rattle.std.proofs.lemmas.Slice.Eq.{bytes_eq-Decides}
use Rattle.shq_nnf.specs.Shape.{Shape}
use Rattle.shq_nnf.specs.Shape.Shape.{top, bottom, name, not_name, intersection, union, some_of, all_of}
use Rattle.shq_nnf.specs.Shape.Shape.{at_least, at_most}
use Rattle.shq_nnf.specs.declared.shapes.OwnedShape.{OwnedShape}
use Rattle.shq_nnf.specs.declared.shapes.OwnedShape.TheVariants.{Top, Bottom, Name, NotName, And, Or, SomeOf, AllOf}
use Rattle.shq_nnf.specs.declared.shapes.OwnedShape.TheVariants.{Min, Max}
use Rattle.shq_nnf.specs.contracts.shapes.OwnedShapePartialEq.TheImpl.{ghosts}
use Rattle.shq_nnf.specs.Shapes.{form_of_owned}
use Rattle.refutation_tree.specs.Shapes.{shape_at, fits, same_shape, is_among_shapes, admits, AreShapes}

-- ---- the test of equal shapes

pub same_is_equal : (s t : Shape) → same_shape s t ≡ true → s ≡ t
same_is_equal top top h = refl
same_is_equal bottom bottom h = refl
same_is_equal (name a) (name b) h = ap name (eqb-true a b h)
same_is_equal (not_name a) (not_name b) h = ap not_name (eqb-true a b h)
same_is_equal (intersection cs) (intersection ds) h = ap intersection ((bytes_eq-Decides cs ds).0 h)
same_is_equal (union cs) (union ds) h = ap union ((bytes_eq-Decides cs ds).0 h)
same_is_equal (some_of r c) (some_of s d) h =
    let t = and_parts (eqb r s) (eqb c d) h in let p = eqb-true r s t.0 in let q = eqb-true c d t.1 in cc
same_is_equal (all_of r c) (all_of s d) h =
    let t = and_parts (eqb r s) (eqb c d) h in let p = eqb-true r s t.0 in let q = eqb-true c d t.1 in cc
same_is_equal (at_least n r c) (at_least m s d) h =
    let t = and_parts (eqb n m) (eqb r s && eqb c d) h in
    let u = and_parts (eqb r s) (eqb c d) t.1 in
    let o = eqb-true n m t.0 in let p = eqb-true r s u.0 in let q = eqb-true c d u.1 in cc
same_is_equal (at_most n r c) (at_most m s d) h =
    let t = and_parts (eqb n m) (eqb r s && eqb c d) h in
    let u = and_parts (eqb r s) (eqb c d) t.1 in
    let o = eqb-true n m t.0 in let p = eqb-true r s u.0 in let q = eqb-true c d u.1 in cc
same_is_equal s t h = cc

pub same_as_itself : (s : Shape) → same_shape s s ≡ true
same_as_itself top = refl
same_as_itself bottom = refl
same_as_itself (name a) = eq-eqb a a refl
same_as_itself (not_name a) = eq-eqb a a refl
same_as_itself (intersection cs) = (bytes_eq-Decides cs cs).1 refl
same_as_itself (union cs) = (bytes_eq-Decides cs cs).1 refl
same_as_itself (some_of r c) = and_from (eqb r r) (eqb c c) (eq-eqb r r refl) (eq-eqb c c refl)
same_as_itself (all_of r c) = and_from (eqb r r) (eqb c c) (eq-eqb r r refl) (eq-eqb c c refl)
same_as_itself (at_least n r c) =
    and_from (eqb n n) (eqb r r && eqb c c) (eq-eqb n n refl)
    (and_from (eqb r r) (eqb c c) (eq-eqb r r refl) (eq-eqb c c refl))
same_as_itself (at_most n r c) =
    and_from (eqb n n) (eqb r r && eqb c c) (eq-eqb n n refl)
    (and_from (eqb r r) (eqb c c) (eq-eqb r r refl) (eq-eqb c c refl))

-- a shape at a place is listed
pub listed_at : (s : Shape) (ts : List Shape) (n : ℕ) → n < length ts → slice_index_or ts n top ≡ s
    → is_among_shapes ts s ≡ true
listed_at s [] n lt e = absurd (omega arith)
listed_at s (t ∷ ts) zero lt e = ap (λ b. b || is_among_shapes ts s) (ap (same_shape s) e ∙ same_as_itself s)
listed_at s (t ∷ ts) (suc n) lt e = by (same_shape s t) (listed_at s ts n (omega arith) e)
  where
    by : (b : Bool) → is_among_shapes ts s ≡ true → (b || is_among_shapes ts s) ≡ true
    by true h = refl
    by false h = h

-- ---- one shape more

module _ (t : List Shape) (s : Shape) (good : AreShapes t) (admitted : admits t s ≡ true) where
  abbrev more : List Shape
  more = t ++ s ∷ []

  more_length : length more ≡ length t + 1
  more_length = length-append t (s ∷ [])

  old_shape : (n : ℕ) → n < length t → slice_index_or more n top ≡ slice_index_or t n top
  old_shape n lt = get_or_append_left t (s ∷ []) top n lt

  last_shape : slice_index_or more (length t) top ≡ s
  last_shape = get_or_push t s top (length t) refl

  parts : (fits t s ≡ true) × (not (is_among_shapes t s) ≡ true)
  parts = and_parts (fits t s) (not (is_among_shapes t s)) admitted

  absent : (n : ℕ) → n < length t → slice_index_or t n top ≡ s → ⊥
  absent n lt e = let clash : false ≡ true = sym (ap not (listed_at s t n lt e)) ∙ parts.1 in absurd (cc clash)

  place : (n : ℕ) → n < length more → (n < length t) ⊎ (n ≡ length t)
  place n lt = elim (cases_lt n (length t)) [ inl less ↦ inl less | inr rest ↦ inr (omega (arith, more_length)) ]

  pub shapes_push : AreShapes more
  shapes_push = record {
    fit = λ n lt. elim (place n lt) [
      | inl less ↦
          let front : take n more ≡ take n t = take-append-le n t (s ∷ []) (omega arith) in
          ap (λ (f : List Shape). fits f (slice_index_or more n top)) front ∙ ap (fits (take n t)) (old_shape n less)
          ∙ good.fit n less
      | inr last ↦
          let front : take n more ≡ t = take-append-le n t (s ∷ []) (omega arith) ∙ take_all n t (omega arith) in
          let here : slice_index_or more n top ≡ s = ap (λ k. slice_index_or more k top) last ∙ last_shape in
          ap (λ (f : List Shape). fits f (slice_index_or more n top)) front ∙ ap (fits t) here ∙ parts.0
    ];
    are_distinct = λ n m lt mt e. elim (place n lt) [
      | inl less ↦ elim (place m mt) [
        | inl under ↦ good.are_distinct n m less under (sym (old_shape n less) ∙ e ∙ old_shape m under)
        | inr last ↦
            absurd (absent n less (sym (old_shape n less) ∙ e ∙ ap (λ k. slice_index_or more k top) last ∙ last_shape))
      ]
      | inr here ↦ elim (place m mt) [
        | inl under ↦
            absurd
            (absent m under (sym (old_shape m under) ∙ sym e ∙ ap (λ k. slice_index_or more k top) here ∙ last_shape))
        | inr last ↦ here ∙ sym last
      ]
    ];
  }

-- ---- kept shapes

kept_same : (a b : OwnedShape) → ghosts.eq a b ≡ same_shape (form_of_owned a) (form_of_owned b)
kept_same Top Top = refl
kept_same Bottom Bottom = refl
kept_same (Name x) (Name y) = refl
kept_same (NotName x) (NotName y) = refl
kept_same (And xs) (And ys) = refl
kept_same (Or xs) (Or ys) = refl
kept_same (SomeOf r c) (SomeOf s d) = refl
kept_same (AllOf r c) (AllOf s d) = refl
kept_same (Min n r c) (Min m s d) = refl
kept_same (Max n r c) (Max m s d) = refl
kept_same a b = refl

pub kept_listed : (k : OwnedShape) (keys : List OwnedShape)
    → list_any (ghosts.eq k) keys ≡ is_among_shapes (map form_of_owned keys) (form_of_owned k)
kept_listed k [] = refl
kept_listed k (x ∷ xs) =
    ap (λ b. b || list_any (ghosts.eq k) xs) (kept_same k x)
    ∙ ap (λ b. same_shape (form_of_owned k) (form_of_owned x) || b) (kept_listed k xs)

pub shape_there : (keys : List OwnedShape) (n : ℕ) (k : OwnedShape) → Some k ≡ slice_get keys n
    → form_of_owned k ≡ shape_at (map form_of_owned keys) (suc n)
shape_there [] n k at = cc
shape_there (x ∷ xs) zero k at = let e : k ≡ x = cc in ap form_of_owned e
shape_there (x ∷ xs) (suc n) k at = shape_there xs n k at

pub shape_missing : (keys : List OwnedShape) (n : ℕ) → None ≡ slice_get keys n
    → shape_at (map form_of_owned keys) (suc n) ≡ top
shape_missing [] n at = refl
shape_missing (x ∷ xs) zero at = cc
shape_missing (x ∷ xs) (suc n) at = shape_missing xs n at

-- A row that is put at its place.
use Rattle.std.proofs.Common.{◌≡◌, ℕ, Bool, cond, eqb, List, [], ◌∷◌, ◌++◌, refl, ap, sym, subst, ◌∙◌, append_assoc}
use Rattle.std.proofs.Common.{inl, inr}
use Rattle.std.specs.Prelude.{All, Some, unwrap_or, nat_eq}
use Rattle.std.specs.Map.{lookup}
use Rattle.std.specs.List.Sorted.{IsPermutation}
use Rattle.std.proofs.lemmas.Bool.{cases_Bool, eqb-true, eq-eqb}
use Rattle.std.proofs.lemmas.List.Elements.{All-nil, All-cons, All-head, All-tail, All-push}
use Rattle.std.proofs.lemmas.List.Sorted.{IsPermutation-refl, IsPermutation-sym, IsPermutation-trans}
use Rattle.std.proofs.lemmas.List.Sorted.{IsPermutation-middle, IsPermutation-to_front, IsPermutation-append_left}
use Rattle.std.proofs.lemmas.List.Sorted.{IsPermutation-append_right, IsPermutation-push_more}
use Rattle.indexmap.specs.IndexMap.{insert_entry}
use Rattle.calculus_specs.specs.Shape.{Shape}
use Rattle.absorption.specs.declared.row.Row.{Row}
use Rattle.absorption.specs.declared.place.Place.{Place}
use Rattle.absorption.specs.declared.place.Place.TheVariants.{Name, Role, General}
use Rattle.absorption.specs.Places.{RowsByNumber, FiledRows, rows_under, rows_in, all_filed, WaitsForName, WaitsForEdge}
use Rattle.absorption.specs.Places.{WaitsForNothing, IsPlaceOf, KeysDiffer, StandInPlaces, with_row, with_filed}
use Rattle.absorption.specs.Places.{IsFiled}

-- ---- one list

-- the list is taken out and put back with the row at its end
pub row_inserted : (es : RowsByNumber) (k : ℕ) (l : List Row) (r : Row) → l ≡ rows_under es k ++ r ∷ []
    → insert_entry nat_eq (insert_entry nat_eq es k []) k l ≡ with_row es k r
row_inserted [] k l r e =
    ap (λ (b : Bool). cond b ((k, l) ∷ []) ((k, []) ∷ (k, l) ∷ [])) (eq-eqb k k refl)
    ∙ ap (λ (m : List Row). (k, m) ∷ []) e
row_inserted (f ∷ fs) k l r e = elim (cases_Bool (eqb k f.0)) [
  | inl hit ↦
      let there : l ≡ f.1 ++ r ∷ [] =
      e ∙ ap (λ (b : Bool). unwrap_or (cond b (Some f.1) (lookup (nat_eq k) fs)) [] ++ r ∷ []) hit in
      ap (λ (b : Bool). insert_entry nat_eq (cond b ((f.0, []) ∷ fs) (f ∷ insert_entry nat_eq fs k [])) k l) hit
      ∙ ap (λ (b : Bool). cond b ((f.0, l) ∷ fs) ((f.0, []) ∷ insert_entry nat_eq fs k l)) hit
      ∙ ap (λ (m : List Row). (f.0, m) ∷ fs) there
      ∙ sym (ap (λ (b : Bool). cond b ((f.0, f.1 ++ r ∷ []) ∷ fs) (f ∷ with_row fs k r)) hit)
  | inr miss ↦
      let there : l ≡ rows_under fs k ++ r ∷ [] =
      e ∙ ap (λ (b : Bool). unwrap_or (cond b (Some f.1) (lookup (nat_eq k) fs)) [] ++ r ∷ []) miss in
      ap (λ (b : Bool). insert_entry nat_eq (cond b ((f.0, []) ∷ fs) (f ∷ insert_entry nat_eq fs k [])) k l) miss
      ∙ ap (λ (b : Bool). cond b ((f.0, l) ∷ insert_entry nat_eq fs k [])
      (f ∷ insert_entry nat_eq (insert_entry nat_eq fs k []) k l))
      miss
      ∙ ap (λ (m : RowsByNumber). f ∷ m) (row_inserted fs k l r there)
      ∙ sym (ap (λ (b : Bool). cond b ((f.0, f.1 ++ r ∷ []) ∷ fs) (f ∷ with_row fs k r)) miss)
]

-- the row is one more
one_more : (es : RowsByNumber) (k : ℕ) (r : Row) → IsPermutation (r ∷ rows_in es) (rows_in (with_row es k r))
one_more [] k r = IsPermutation-refl (r ∷ [])
one_more (f ∷ fs) k r = elim (cases_Bool (eqb k f.0)) [
  | inl hit ↦
      let same : rows_in (with_row (f ∷ fs) k r) ≡ f.1 ++ r ∷ rows_in fs =
      ap (λ (b : Bool). rows_in (cond b ((f.0, f.1 ++ r ∷ []) ∷ fs) (f ∷ with_row fs k r))) hit
      ∙ append_assoc f.1 (r ∷ []) (rows_in fs) in
      subst (λ (l : List Row). IsPermutation (r ∷ rows_in (f ∷ fs)) l) (sym same)
      (IsPermutation-sym (f.1 ++ r ∷ rows_in fs) (r ∷ (f.1 ++ rows_in fs)) (IsPermutation-middle f.1 r (rows_in fs)))
  | inr miss ↦
      let same : rows_in (with_row (f ∷ fs) k r) ≡ f.1 ++ rows_in (with_row fs k r) =
      ap (λ (b : Bool). rows_in (cond b ((f.0, f.1 ++ r ∷ []) ∷ fs) (f ∷ with_row fs k r))) miss in
      subst (λ (l : List Row). IsPermutation (r ∷ rows_in (f ∷ fs)) l) (sym same)
      (IsPermutation-trans (r ∷ (f.1 ++ rows_in fs)) (f.1 ++ r ∷ rows_in fs) (f.1 ++ rows_in (with_row fs k r))
      (IsPermutation-sym (f.1 ++ r ∷ rows_in fs) (r ∷ (f.1 ++ rows_in fs)) (IsPermutation-middle f.1 r (rows_in fs)))
      (IsPermutation-append_right f.1 (r ∷ rows_in fs) (rows_in (with_row fs k r)) (one_more fs k r)))
]

-- what holds of the rows under each number holds of it too
stand_more : (P : ℕ → Row → Type 0) (es : RowsByNumber) (k : ℕ) (r : Row) → All (λ e. All (P e.0) e.1) es → P k r
    → All (λ e. All (P e.0) e.1) (with_row es k r)
stand_more P [] k r h p =
    All-cons (λ e. All (P e.0) e.1) (k, r ∷ []) [] (All-cons (P k) r [] p (All-nil (P k)))
    (All-nil (λ e. All (P e.0) e.1))
stand_more P (f ∷ fs) k r h p =
    let head = All-head (λ e. All (P e.0) e.1) f fs h in
    let tail = All-tail (λ e. All (P e.0) e.1) f fs h in
    elim (cases_Bool (eqb k f.0)) [
      | inl hit ↦
          let here : P f.0 r = subst (λ (n : ℕ). P n r) (eqb-true k f.0 hit) p in
          subst (λ (b : Bool). All (λ e. All (P e.0) e.1) (cond b ((f.0, f.1 ++ r ∷ []) ∷ fs) (f ∷ with_row fs k r)))
          (sym hit)
          (All-cons (λ e. All (P e.0) e.1) (f.0, f.1 ++ r ∷ []) fs (All-push (P f.0) f.1 r head here) tail)
      | inr miss ↦
          subst (λ (b : Bool). All (λ e. All (P e.0) e.1) (cond b ((f.0, f.1 ++ r ∷ []) ∷ fs) (f ∷ with_row fs k r)))
          (sym miss)
          (All-cons (λ e. All (P e.0) e.1) f (with_row fs k r) head (stand_more P fs k r tail p))
    ]

-- ---- all lists

module _ (f : FiledRows) (r : Row) where
  one_more_filed : (place : Place) → IsPermutation (r ∷ all_filed f) (all_filed (with_filed f place r))
  one_more_filed (Name class) =
      IsPermutation-append_left f.general (r ∷ (rows_in f.at_names ++ rows_in f.at_roles))
      (rows_in (with_row f.at_names class r) ++ rows_in f.at_roles)
      (IsPermutation-append_left (rows_in f.at_roles) (r ∷ rows_in f.at_names) (rows_in (with_row f.at_names class r))
      (one_more f.at_names class r))
  one_more_filed (Role role) =
      IsPermutation-append_left f.general (r ∷ (rows_in f.at_names ++ rows_in f.at_roles))
      (rows_in f.at_names ++ rows_in (with_row f.at_roles role r))
      (IsPermutation-trans (r ∷ (rows_in f.at_names ++ rows_in f.at_roles))
      (rows_in f.at_names ++ r ∷ rows_in f.at_roles) (rows_in f.at_names ++ rows_in (with_row f.at_roles role r))
      (IsPermutation-sym (rows_in f.at_names ++ r ∷ rows_in f.at_roles) (r ∷ (rows_in f.at_names ++ rows_in f.at_roles))
      (IsPermutation-middle (rows_in f.at_names) r (rows_in f.at_roles)))
      (IsPermutation-append_right (rows_in f.at_names) (r ∷ rows_in f.at_roles) (rows_in (with_row f.at_roles role r))
      (one_more f.at_roles role r)))
  one_more_filed General =
      let filed = rows_in f.at_names ++ rows_in f.at_roles in
      IsPermutation-trans (r ∷ (filed ++ f.general)) (filed ++ r ∷ f.general) (filed ++ (f.general ++ r ∷ []))
      (IsPermutation-sym (filed ++ r ∷ f.general) (r ∷ (filed ++ f.general)) (IsPermutation-middle filed r f.general))
      (IsPermutation-append_right filed (r ∷ f.general) (f.general ++ r ∷ [])
      (IsPermutation-sym (f.general ++ r ∷ []) (r ∷ f.general) (IsPermutation-to_front f.general r)))

  filed_stand : (t : List Shape) (place : Place) → StandInPlaces t f → IsPlaceOf t r place
      → StandInPlaces t (with_filed f place r)
  filed_stand t (Name class) h is = record {
    at_names = stand_more (WaitsForName t) f.at_names class r h.at_names is;
    at_roles = h.at_roles;
    in_general = h.in_general;
  }
  filed_stand t (Role role) h is = record {
    at_names = h.at_names;
    at_roles = stand_more WaitsForEdge f.at_roles role r h.at_roles is;
    in_general = h.in_general;
  }
  filed_stand t General h is = record {
    at_names = h.at_names;
    at_roles = h.at_roles;
    in_general = All-push WaitsForNothing f.general r h.in_general is;
  }

pub filed_more : (t : List Shape) (rows : List Row) (f g : FiledRows) (r : Row) (place : Place) → IsFiled t rows f
    → IsPlaceOf t r place → g ≡ with_filed f place r → KeysDiffer g → IsFiled t (rows ++ r ∷ []) g
filed_more t rows f g r place h is e keys =
    let into : IsPermutation (r ∷ all_filed f) (all_filed g) =
    subst (λ (k : FiledRows). IsPermutation (r ∷ all_filed f) (all_filed k)) (sym e) (one_more_filed f r place) in
    record {
      all = IsPermutation-push_more rows (all_filed f) (all_filed g) r h.all into;
      places = subst (StandInPlaces t) (sym e) (filed_stand f r t place h.places is);
      keys = keys;
    }

pub none_filed : (t : List Shape) (g : FiledRows) → g ≡ record { at_names = []; at_roles = []; general = [] }
    → KeysDiffer g → IsFiled t [] g
none_filed t g e keys =
    let none : FiledRows = record { at_names = []; at_roles = []; general = [] } in
    record {
      all = subst (λ (k : FiledRows). IsPermutation [] (all_filed k)) (sym e) (IsPermutation-refl []);
      places = subst (StandInPlaces t) (sym e) (record {
        at_names = All-nil (λ e. All (WaitsForName t e.0) e.1);
        at_roles = All-nil (λ e. All (WaitsForEdge e.0) e.1);
        in_general = All-nil WaitsForNothing;
      });
      keys = keys;
    }

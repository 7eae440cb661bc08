-- How the rows of a table are found.
use Rattle.std.proofs.Common.{◌⊎◌, ◌≡◌, ℕ, Bool, false, cond, eqb, List, [], ◌∷◌, ◌++◌, refl, ap, sym, subst, ◌∙◌}
use Rattle.std.proofs.Common.{arith, inl, inr}
use Rattle.std.specs.Prelude.{All, Contains, Some, nat_eq, unwrap_or}
use Rattle.std.specs.List.{IsDistinct}
use Rattle.std.specs.Map.{lookup, keys_of}
use Rattle.std.proofs.lemmas.Bool.{cases_Bool, eqb-true, eq-eqb, false≢true}
use Rattle.std.proofs.lemmas.List.Elements.{All-from_recursion, All-head, All-tail, All-contains, Contains-append_left}
use Rattle.std.proofs.lemmas.List.Elements.{Contains-append_right, Contains-append_cases}
use Rattle.std.proofs.lemmas.Map.Keys.{IsDistinct-head, IsDistinct-tail}
use Rattle.calculus_specs.specs.Shape.{Shape}
use Rattle.absorption.specs.declared.row.Row.{Row}
use Rattle.absorption.specs.declared.row.Trigger.{Trigger}
use Rattle.absorption.specs.declared.row.Trigger.TheVariants.{Always, Names, Edge, End}
use Rattle.absorption.specs.Places.{RowsByNumber, FiledRows, rows_under, rows_in, WaitsForName, WaitsForEdge}
use Rattle.absorption.specs.Places.{WaitsForNothing}
use Rattle.absorption.specs.Laws.{IsFoundBy, FoundRowsWait, EachRowIsFound}

-- ---- what is found

-- a row under a number is one of the rows, and has what those under the number have
record Under (P : ℕ → Row → Type 0) (es : RowsByNumber) (k : ℕ) (r : Row) : Type 0 where
  is_in : Contains (rows_in es) r
  has : P k r

none_under : (k : ℕ) (r : Row) → Contains (rows_under [] k) r → ⊥
none_under k r h = omega (arith, h.1)

under : (P : ℕ → Row → Type 0) (es : RowsByNumber) (k : ℕ) (r : Row) → All (λ e. All (P e.0) e.1) es
    → Contains (rows_under es k) r → Under P es k r
under P [] k r h is = absurd (none_under k r is)
under P (f ∷ fs) k r h is = elim (cases_Bool (eqb k f.0)) [
  | inl hit ↦
      let here : Contains f.1 r =
      subst (λ (b : Bool). Contains (unwrap_or (cond b (Some f.1) (lookup (nat_eq k) fs)) []) r) hit is in
      record {
        is_in = Contains-append_left f.1 (rows_in fs) r here;
        has =
            subst (λ (n : ℕ). P n r) (sym (eqb-true k f.0 hit))
            (All-contains (P f.0) f.1 r (All-head (λ e. All (P e.0) e.1) f fs h) here);
      }
  | inr miss ↦
      let later =
      under P fs k r (All-tail (λ e. All (P e.0) e.1) f fs h)
      (subst (λ (b : Bool). Contains (unwrap_or (cond b (Some f.1) (lookup (nat_eq k) fs)) []) r) miss is) in
      record { is_in = Contains-append_right f.1 (rows_in fs) r later.is_in; has = later.has }
]

pub finds : FoundRowsWait
finds t f h =
    let filed = rows_in f.at_names ++ rows_in f.at_roles in
    record {
      by_name = λ class r is.
          let u = under (WaitsForName t) f.at_names class r h.at_names is in (
            Contains-append_left filed f.general r
                (Contains-append_left (rows_in f.at_names) (rows_in f.at_roles) r u.is_in),
            u.has,
          );
      by_role = λ role r is.
          let u = under WaitsForEdge f.at_roles role r h.at_roles is in (
            Contains-append_left filed f.general r
                (Contains-append_right (rows_in f.at_names) (rows_in f.at_roles) r u.is_in),
            u.has,
          );
      general =
          λ r is. (
            Contains-append_right filed f.general r is,
            All-contains WaitsForNothing f.general r h.in_general is,
          );
    }

-- ---- each row is found

-- a row that is under some number is found under a number for which it has what those under it have
record Found (P : ℕ → Row → Type 0) (es : RowsByNumber) (r : Row) : Type 0 where
  number : ℕ
  has : P number r
  is_in : Contains (rows_under es number) r
  listed : Contains (keys_of es) number

none_in : (r : Row) → Contains (rows_in []) r → ⊥
none_in r h = omega (arith, h.1)

-- another number than the first is looked for among the others
passed : (f : ℕ × List Row) (fs : RowsByNumber) (k : ℕ) → eqb k f.0 ≡ false → rows_under (f ∷ fs) k ≡ rows_under fs k
passed f fs k miss = ap (λ (b : Bool). unwrap_or (cond b (Some f.1) (lookup (nat_eq k) fs)) []) miss

flipped : (a b : ℕ) → eqb a b ≡ false → eqb b a ≡ false
flipped a b h = elim (cases_Bool (eqb b a)) [
  | inl t ↦ let e : a ≡ b = sym (eqb-true b a t) in absurd (false≢true (sym h ∙ eq-eqb a b e))
  | inr f ↦ f
]

found : (P : ℕ → Row → Type 0) (es : RowsByNumber) (r : Row) → IsDistinct nat_eq (keys_of es)
    → All (λ e. All (P e.0) e.1) es → Contains (rows_in es) r → Found P es r
found P [] r distinct h is = absurd (none_in r is)
found P (f ∷ fs) r distinct h is = elim (Contains-append_cases f.1 (rows_in fs) r is) [
  | inl here ↦ record {
    number = f.0;
    has = All-contains (P f.0) f.1 r (All-head (λ e. All (P e.0) e.1) f fs h) here;
    is_in =
        subst (λ (b : Bool). Contains (unwrap_or (cond b (Some f.1) (lookup (nat_eq f.0) fs)) []) r)
        (sym (eq-eqb f.0 f.0 refl)) here;
    listed = (0, omega arith, refl);
  }
  | inr later ↦
      let w =
      found P fs r (IsDistinct-tail nat_eq f.0 (keys_of fs) distinct) (All-tail (λ e. All (P e.0) e.1) f fs h) later in
      let other : eqb f.0 w.number ≡ false =
      All-contains (λ k. eqb f.0 k ≡ false) (keys_of fs) w.number
      (All-from_recursion (λ k. eqb f.0 k ≡ false) (keys_of fs) (IsDistinct-head nat_eq f.0 (keys_of fs) distinct))
      w.listed in
      record {
        number = w.number;
        has = w.has;
        is_in =
            subst (λ (l : List Row). Contains l r) (sym (passed f fs w.number (flipped f.0 w.number other))) w.is_in;
        listed = Contains-append_right (f.0 ∷ []) (keys_of fs) w.number w.listed;
      }
]

-- ---- by its trigger

module _ (t : List Shape) (f : FiledRows) (r : Row) where
  same_role : (w : Found WaitsForEdge f.at_roles r) (role : ℕ) → (r.trigger ≡ Edge role) ⊎ (r.trigger ≡ End role)
      → Contains (rows_under f.at_roles role) r
  same_role w role waits = subst (λ (k : ℕ). Contains (rows_under f.at_roles k) r) (same w.has waits) w.is_in
    where
      same : WaitsForEdge w.number r → (r.trigger ≡ Edge role) ⊎ (r.trigger ≡ End role) → w.number ≡ role
      same (inl a) (inl b) = cc
      same (inl a) (inr b) = cc
      same (inr a) (inl b) = cc
      same (inr a) (inr b) = cc

  by_name : Found (WaitsForName t) f.at_names r → (trigger : Trigger) → r.trigger ≡ trigger → IsFoundBy trigger t f r
  by_name w Always e = let on = w.has.waits in cc
  by_name w (Names positions) e = (w.number, w.has, w.is_in)
  by_name w (Edge role) e = let on = w.has.waits in cc
  by_name w (End role) e = let on = w.has.waits in cc

  by_role : Found WaitsForEdge f.at_roles r → (trigger : Trigger) → r.trigger ≡ trigger → IsFoundBy trigger t f r
  by_role w Always e = elim w.has [ inl on ↦ cc | inr on ↦ cc ]
  by_role w (Names positions) e = elim w.has [ inl on ↦ cc | inr on ↦ cc ]
  by_role w (Edge role) e = same_role w role (inl e)
  by_role w (End role) e = same_role w role (inr e)

  in_general : WaitsForNothing r → Contains f.general r → (trigger : Trigger) → r.trigger ≡ trigger
      → IsFoundBy trigger t f r
  in_general on is Always e = is
  in_general on is (Names positions) e = cc
  in_general on is (Edge role) e = cc
  in_general on is (End role) e = cc

pub each_found : EachRowIsFound
each_found t f h keys r is = elim (Contains-append_cases (rows_in f.at_names ++ rows_in f.at_roles) f.general r is) [
  | inl filed ↦ elim (Contains-append_cases (rows_in f.at_names) (rows_in f.at_roles) r filed) [
    | inl named ↦ by_name t f r (found (WaitsForName t) f.at_names r keys.classes h.at_names named) r.trigger refl
    | inr edged ↦ by_role t f r (found WaitsForEdge f.at_roles r keys.roles h.at_roles edged) r.trigger refl
  ]
  | inr plain ↦ in_general t f r (All-contains WaitsForNothing f.general r h.in_general plain) plain r.trigger refl
]

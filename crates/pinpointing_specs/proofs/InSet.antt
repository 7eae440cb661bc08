-- The axioms of a set, and their places.
use Rattle.std.proofs.Common.{◌≡◌, ℕ, zero, suc, ◌+◌, Bool, true, false, List, [], ◌∷◌, Some, None, refl, ap, sym, ◌∙◌}
use Rattle.std.proofs.Common.{arith}
use Rattle.std.specs.Prelude.{slice_get, if◌then◌else◌}
use Rattle.std.specs.List.{Contains}
use Rattle.std.specs.FinSet as set
use Rattle.axiom_sets.specs.NumberSets.{NumberSet}
use Rattle.shq_meaning.specs.Axiom.{Axiom}
use Rattle.shq_meaning.specs.Numbered.{Numbered}
use Rattle.pinpointing_specs.specs.LocalModule.{axioms_from, axioms_in_set}

-- the axiom stands at a place whose number, from k on, is in the set
pub record InSetFrom (k : ℕ) (s : NumberSet) (axioms : List Numbered) (a : Axiom) : Type 0 where
  pub place : ℕ
  pub numbered : Numbered
  pub is_there : slice_get axioms place ≡ Some numbered
  pub member : set.contains s (place + k) ≡ true
  pub is : numbered.axiom ≡ a

abbrev pub InSet : NumberSet → List Numbered → Axiom → Type 0
InSet s axioms a = InSetFrom 1 s axioms a

later : (k : ℕ) (s : NumberSet) (b : Numbered) (bs : List Numbered) (a : Axiom) → InSetFrom (k + 1) s bs a
    → InSetFrom k s (b ∷ bs) a
later k s b bs a at = record {
  place = suc at.place;
  numbered = at.numbered;
  is_there = at.is_there;
  member = let e : suc at.place + k ≡ at.place + (k + 1) = omega arith in ap (set.contains s) e ∙ at.member;
  is = at.is;
}

pub in_set_from : (k : ℕ) (s : NumberSet) (axioms : List Numbered) (a : Axiom) → Contains (axioms_from k s axioms) a
    → InSetFrom k s axioms a
in_set_from k s [] a (n, lt, is) = absurd (omega (arith, lt))
in_set_from k s (b ∷ bs) a listed = by (set.contains s k) refl listed (in_set_from (k + 1) s bs a)
  where
    by : (v : Bool) → set.contains s k ≡ v
        → Contains (if v then b.axiom ∷ axioms_from (k + 1) s bs else axioms_from (k + 1) s bs) a
        → (Contains (axioms_from (k + 1) s bs) a → InSetFrom (k + 1) s bs a) → InSetFrom k s (b ∷ bs) a
    by true member (zero, lt, is) rest = record {
      place = 0;
      numbered = b;
      is_there = refl;
      member = let e : 0 + k ≡ k = omega arith in ap (set.contains s) e ∙ member;
      is = is;
    }
    by true member (suc n, lt, is) rest = later k s b bs a (rest (n, omega (arith, lt), is))
    by false member at rest = later k s b bs a (rest at)

pub to_set_from : (k : ℕ) (s : NumberSet) (axioms : List Numbered) (place : ℕ) (a : Numbered)
    → slice_get axioms place ≡ Some a → set.contains s (place + k) ≡ true → Contains (axioms_from k s axioms) a.axiom
to_set_from k s [] place a there member = let e : None ≡ Some a = there in absurd (cc e)
to_set_from k s (b ∷ bs) zero a there member =
    let e : 0 + k ≡ k = omega arith in
    let here : set.contains s k ≡ true = ap (set.contains s) (sym e) ∙ member in
    let same : b ≡ a = cc there in
    rw here (0, omega arith, ap (λ (x : Numbered). x.axiom) same)
to_set_from k s (b ∷ bs) (suc place) a there member =
    let e : suc place + k ≡ place + (k + 1) = omega arith in
    by (set.contains s k) (to_set_from (k + 1) s bs place a there (ap (set.contains s) (sym e) ∙ member))
  where
    by : (v : Bool) → Contains (axioms_from (k + 1) s bs) a.axiom
        → Contains (if v then b.axiom ∷ axioms_from (k + 1) s bs else axioms_from (k + 1) s bs) a.axiom
    by true (n, lt, is) = (suc n, omega (arith, lt), is)
    by false at = at

pub in_set : (s : NumberSet) (axioms : List Numbered) (a : Axiom) → Contains (axioms_in_set s axioms) a
    → InSet s axioms a
in_set = in_set_from 1

pub to_set : (s : NumberSet) (axioms : List Numbered) (place : ℕ) (a : Numbered) → slice_get axioms place ≡ Some a
    → set.contains s (place + 1) ≡ true → Contains (axioms_in_set s axioms) a.axiom
to_set = to_set_from 1

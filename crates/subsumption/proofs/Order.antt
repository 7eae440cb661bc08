-- Relations that are kept are reflexive and transitive.
use Rattle.std.proofs.Common.{◌≡◌, ◌≢◌, ℕ, ◌+◌, ◌<◌, ◌&&◌, ◌||◌, true, refl, sym, ◌∙◌, ap, arith, inl, inr, eq-eqb}
use Rattle.std.specs.Prelude.{◌==◌}
use Rattle.std.proofs.lemmas.Bool.{and_parts, and_from, or_cases, or_left, or_right, eqb-true}
use Rattle.subsumption.specs.Rows.{Rows, holds, is_bounded, Relates, IsOrder}
use Rattle.subsumption.specs.RelationLaws.{FirstIsOrder, RelatingKeepsOrder}

-- ---- at first

module _ (greatest least : ℕ) (apart : greatest ≢ least) where
  to_itself : (x : ℕ) → is_bounded greatest least x x ≡ true
  to_itself x = or_left (x == x || x == greatest) (x == least) (or_left (x == x) (x == greatest) (eq-eqb x x refl))

  to_greatest : (x y : ℕ) → y ≡ greatest → is_bounded greatest least x y ≡ true
  to_greatest x y e =
      or_left (x == y || y == greatest) (x == least) (or_right (x == y) (y == greatest) (eq-eqb y greatest e))

  from_least : (x y : ℕ) → x ≡ least → is_bounded greatest least x y ≡ true
  from_least x y e = or_right (x == y || y == greatest) (x == least) (eq-eqb x least e)

  through : (x y z : ℕ) → is_bounded greatest least x y ≡ true → is_bounded greatest least y z ≡ true
      → is_bounded greatest least x z ≡ true
  through x y z h k =
      elim (or_cases (x == y || y == greatest) (x == least) h) [
        | inr e ↦ from_least x z (eqb-true x least e)
        | inl h' ↦ elim (or_cases (x == y) (y == greatest) h') [
          | inl e ↦ ap (λ (v : ℕ). is_bounded greatest least v z) (eqb-true x y e) ∙ k
          | inr e ↦ elim (or_cases (y == z || z == greatest) (y == least) k) [
            | inr f ↦ absurd (apart (sym (eqb-true y greatest e) ∙ eqb-true y least f))
            | inl k' ↦ elim (or_cases (y == z) (z == greatest) k') [
              | inl f ↦ to_greatest x z (sym (eqb-true y z f) ∙ eqb-true y greatest e)
              | inr f ↦ to_greatest x z (eqb-true z greatest f)
            ]
          ]
        ]
      ]

pub first_order : FirstIsOrder
first_order count r first =
    let apart : count ≢ count + 1 = λ e. omega (arith, e) in
    record {
      reflexive = λ x lt. first.pairs x x lt lt ∙ to_itself count (count + 1) apart x;
      transitive = λ x y z lx ly lz h k. first.pairs x z lx lz
          ∙ through count (count + 1) apart x y z (sym (first.pairs x y lx ly) ∙ h) (sym (first.pairs y z ly lz) ∙ k);
    }

-- ---- and later

module _ (x y : ℕ) (old new : Rows) (lx : x < old.count + 2) (ly : y < old.count + 2) (r : Relates x y old new)
    (order : IsOrder (old.count + 2) (holds old)) where
  stays : (a b : ℕ) → a < old.count + 2 → b < old.count + 2 → holds old a b ≡ true → holds new a b ≡ true
  stays a b la lb h = r.pairs a b la lb ∙ or_left (holds old a b) (holds old a x && holds old y b) h

  comes : (a b : ℕ) → a < old.count + 2 → b < old.count + 2 → holds old a x ≡ true → holds old y b ≡ true
      → holds new a b ≡ true
  comes a b la lb h k =
      r.pairs a b la lb
      ∙ or_right (holds old a b) (holds old a x && holds old y b) (and_from (holds old a x) (holds old y b) h k)

  closed : (a b c : ℕ) → a < old.count + 2 → b < old.count + 2 → c < old.count + 2 → holds new a b ≡ true
      → holds new b c ≡ true → holds new a c ≡ true
  closed a b c la lb lc h k =
      let first = or_cases (holds old a b) (holds old a x && holds old y b) (sym (r.pairs a b la lb) ∙ h) in
      let second = or_cases (holds old b c) (holds old b x && holds old y c) (sym (r.pairs b c lb lc) ∙ k) in
      elim first [
        | inl ab ↦ elim second [
          | inl bc ↦ stays a c la lc (order.transitive a b c la lb lc ab bc)
          | inr w ↦
              let p = and_parts (holds old b x) (holds old y c) w in
              comes a c la lc (order.transitive a b x la lb lx ab p.0) p.1
        ]
        | inr v ↦ let q = and_parts (holds old a x) (holds old y b) v in elim second [
          | inl bc ↦ comes a c la lc q.0 (order.transitive y b c ly lb lc q.1 bc)
          | inr w ↦ let p = and_parts (holds old b x) (holds old y c) w in comes a c la lc q.0 p.1
        ]
      ]

  pub stays_order : IsOrder (new.count + 2) (holds new)
  stays_order = record {
    reflexive =
        λ a lt. let la : a < old.count + 2 = omega (arith, lt, r.count_is) in stays a a la la (order.reflexive a la);
    transitive =
        λ a b c la lb lc. closed a b c (omega (arith, la, r.count_is)) (omega (arith, lb, r.count_is))
        (omega (arith, lc, r.count_is));
  }

pub relating_order : RelatingKeepsOrder
relating_order x y old new lx ly r order = stays_order x y old new lx ly r order

-- What the lists of a representative say is what the facts say of it.
use Rattle.std.proofs.Common.{◌≡◌, ℕ, ◌<◌, ◌≢◌, min, max, Bool, true, false, List, [], ◌∷◌, ◌++◌, length, refl, ap, sym}
use Rattle.std.proofs.Common.{◌∙◌, arith, inl, inr, Option, Some, None, get_or-set_same, get_or-set_other}
use Rattle.std.specs.Prelude.{◌==◌, ◌&&◌, ◌||◌}
use Rattle.std.specs.List.{list_any}
use Rattle.std.proofs.lemmas.Bool.{cases_eq, cases_lt, eq-eqb, ne_eqb}
use Rattle.std.proofs.lemmas.Bool.Decides.{nat_tests}
use Rattle.std.proofs.lemmas.List.{length-set, length-append}
use Rattle.std.proofs.Math.Seq.{get_or-append_seam}
use Rattle.std.proofs.Math.ListN.{get_or-append}
use Rattle.std.proofs.Math.Bool.{or-false, or_assoc}
use Rattle.calculus_specs.proofs.Bools.{or_exchange}
use Rattle.calculus_specs.specs.declared.facts.Fact.{Fact}
use Rattle.calculus_specs.specs.Joins.{merged}
use Rattle.fact_tree.specs.Kept.{Lists, Kept, new_lists, bare, absorbing, lists_at, changed_at, grown, linked}
use Rattle.fact_tree.specs.Entries.{IsLinked}

-- ---- lists

pub any-append : {X : Type 0} (p : X → Bool) (xs ys : List X) → list_any p (xs ++ ys) ≡ (list_any p xs || list_any p ys)
any-append p [] ys = refl
any-append p (x ∷ xs) ys = elim (p x) as (λ b. (b || list_any p (xs ++ ys)) ≡ ((b || list_any p xs) || list_any p ys))
    [ true ↦ refl | false ↦ any-append p xs ys ]

pub any-snoc : {X : Type 0} (p : X → Bool) (xs : List X) (x : X) → list_any p (xs ++ x ∷ []) ≡ (list_any p xs || p x)
any-snoc p xs x = any-append p xs (x ∷ []) ∙ ap (λ (b : Bool). list_any p xs || b) (or-false (p x))

pub any_or : {X : Type 0} (p q r : X → Bool) → ((x : X) → p x ≡ (q x || r x)) → (xs : List X)
    → list_any p xs ≡ (list_any q xs || list_any r xs)
any_or p q r h [] = refl
any_or p q r h (x ∷ xs) = (λ i. h x i || any_or p q r h xs i) ∙ or_exchange (q x) (r x) (list_any q xs) (list_any r xs)

pub any_same : {X : Type 0} (p q : X → Bool) → ((x : X) → p x ≡ q x) → (xs : List X) → list_any p xs ≡ list_any q xs
any_same p q h [] = refl
any_same p q h (x ∷ xs) = λ i. h x i || any_same p q h xs i

-- ---- what facts give to nodes

abbrev pub gives_by : {P : Type 0} → (P → Bool) → (ℕ → ℕ) → ℕ → Option (ℕ × P) → Bool
gives_by q m x None = false
gives_by q m x (Some p) = m p.0 == x && q p.1

module _ {P : Type 0} (get : Lists → List P) (pick : Fact ℕ → Option (ℕ × P)) (base : List P) where
  abbrev pub gives : (P → Bool) → (ℕ → ℕ) → ℕ → Fact ℕ → Bool
  gives q m x f = gives_by q m x (pick f)

  abbrev pub Told : (ℕ → ℕ) → List (Fact ℕ) → Kept → Type 0
  Told m fs k = (q : P → Bool) (x : ℕ) → x < length k.nodes → m x ≡ x
      → list_any q (get (lists_at k x)) ≡ (list_any q base || list_any (gives q m x) fs)

  -- a fact that gives nothing of this kind
  pub told_on : (m : ℕ → ℕ) (fs : List (Fact ℕ)) (f : Fact ℕ) (k : Kept) → pick f ≡ None → Told m fs k
      → Told m (fs ++ f ∷ []) k
  told_on m fs f k none h q x lt own =
      h q x lt own
      ∙ ap (λ (b : Bool). list_any q base || b)
      (sym (any-snoc (gives q m x) fs f
      ∙ ap (λ (o : Option (ℕ × P)). list_any (gives q m x) fs || gives_by q m x o) none
      ∙ or-false (list_any (gives q m x) fs)))

  pub told_skip : (m : ℕ → ℕ) (fs : List (Fact ℕ)) (k : Kept) (at : ℕ) (change : Lists → Lists) → at < length k.nodes
      → ((n : Lists) → get (change n) ≡ get n) → Told m fs k → Told m fs (changed_at at change k)
  told_skip m fs k at change within same h q x lt own =
      let inside : x < length k.nodes = omega (arith, lt, length-set k.nodes at (change (lists_at k at))) in
      elim (cases_eq x at) [
        | inl e ↦
            let here : lists_at (changed_at at change k) x ≡ change (lists_at k at) =
            ap (lists_at (changed_at at change k)) e
            ∙ get_or-set_same k.nodes at (change (lists_at k at)) bare within in
            ap (λ (n : Lists). list_any q (get n)) here ∙ ap (list_any q) (same (lists_at k at))
            ∙ ap (λ (n : ℕ). list_any q (get (lists_at k n))) (sym e) ∙ h q x inside own
        | inr other ↦
            ap (λ (n : Lists). list_any q (get n)) (get_or-set_other k.nodes at x (change (lists_at k at)) bare other)
            ∙ h q x inside own
      ]

  pub told_put : (m : ℕ → ℕ) (fs : List (Fact ℕ)) (f : Fact ℕ) (k : Kept) (y : ℕ) (p : P) (change : Lists → Lists)
      → pick f ≡ Some (y, p) → m y < length k.nodes
      → ((q : P → Bool) (n : Lists) → list_any q (get (change n)) ≡ (list_any q (get n) || q p)) → Told m fs k
      → Told m (fs ++ f ∷ []) (changed_at (m y) change k)
  told_put m fs f k y p change is within puts h q x lt own =
      let at = m y in
      let inside : x < length k.nodes = omega (arith, lt, length-set k.nodes at (change (lists_at k at))) in
      let more : list_any (gives q m x) (fs ++ f ∷ []) ≡ (list_any (gives q m x) fs || (m y == x && q p)) =
      any-snoc (gives q m x) fs f ∙ ap (λ (o : Option (ℕ × P)). list_any (gives q m x) fs || gives_by q m x o) is in
      elim (cases_eq x at) [
        | inl e ↦
            let here : lists_at (changed_at at change k) x ≡ change (lists_at k x) =
            ap (lists_at (changed_at at change k)) e ∙ get_or-set_same k.nodes at (change (lists_at k at)) bare within
            ∙ ap (λ (n : ℕ). change (lists_at k n)) (sym e) in
            let hit : (m y == x && q p) ≡ q p = ap (λ (b : Bool). b && q p) (eq-eqb (m y) x (sym e)) in
            ap (λ (n : Lists). list_any q (get n)) here ∙ puts q (lists_at k x)
            ∙ ap (λ (b : Bool). b || q p) (h q x inside own)
            ∙ or_assoc (list_any q base) (list_any (gives q m x) fs) (q p)
            ∙ sym
            (ap (λ (b : Bool). list_any q base || b) (more ∙ ap (λ (b : Bool). list_any (gives q m x) fs || b) hit))
        | inr other ↦
            let miss : (m y == x && q p) ≡ false = ap (λ (b : Bool). b && q p) (ne_eqb (m y) x (λ e. other (sym e))) in
            ap (λ (n : Lists). list_any q (get n)) (get_or-set_other k.nodes at x (change (lists_at k at)) bare other)
            ∙ h q x inside own
            ∙ sym (ap (λ (b : Bool). list_any q base || b)
            (more ∙ ap (λ (b : Bool). list_any (gives q m x) fs || b) miss ∙ or-false (list_any (gives q m x) fs)))
      ]

  pub told_grown : (m : ℕ → ℕ) (fs : List (Fact ℕ)) (k : Kept) (origin : ℕ × ℕ)
      → get (new_lists (length k.nodes) origin) ≡ base
      → ((q : P → Bool) → list_any (gives q m (length k.nodes)) fs ≡ false) → Told m fs k → Told m fs (grown origin k)
  told_grown m fs k origin new nothing h q x lt own = elim (cases_lt x (length k.nodes)) [
    | inl before ↦
        ap (λ (n : Lists). list_any q (get n))
        (get_or-append k.nodes (new_lists (length k.nodes) origin ∷ []) bare x before)
        ∙ h q x before own
    | inr behind ↦
        let at : x ≡ length k.nodes =
        omega (arith, behind, lt, length-append k.nodes (new_lists (length k.nodes) origin ∷ [])) in
        let here : lists_at (grown origin k) x ≡ new_lists (length k.nodes) origin =
        ap (lists_at (grown origin k)) at ∙ get_or-append_seam k.nodes (new_lists (length k.nodes) origin) [] bare in
        ap (λ (n : Lists). list_any q (get n)) here ∙ ap (list_any q) new
        ∙ sym (ap (λ (n : ℕ). list_any q base || list_any (gives q m n) fs) at
        ∙ ap (λ (b : Bool). list_any q base || b) (nothing q) ∙ or-false (list_any q base))
  ]

  -- ---- joins

  merged_is_low : (a b v : ℕ) → (merged a b v == min a b) ≡ (v == min a b || v == max a b)
  merged_is_low a b v = grind (arith, nat_tests)

  merged_is_other : (a b v x : ℕ) → x ≢ min a b → x ≢ max a b → (merged a b v == x) ≡ (v == x)
  merged_is_other a b v x low high = grind (arith, nat_tests)

  and_or : (a b c : Bool) → ((a || b) && c) ≡ ((a && c) || (b && c))
  and_or true true true = refl
  and_or true true false = refl
  and_or true false true = refl
  and_or true false false = refl
  and_or false b c = refl

  gives_low : (m : ℕ → ℕ) (y z : ℕ) (q : P → Bool) (f : Fact ℕ)
      → gives q (λ v. merged (m y) (m z) (m v)) (min (m y) (m z)) f
      ≡ (gives q m (min (m y) (m z)) f || gives q m (max (m y) (m z)) f)
  gives_low m y z q f = by (pick f)
    where
      by : (o : Option (ℕ × P))
          → gives_by q (λ v. merged (m y) (m z) (m v)) (min (m y) (m z)) o
          ≡ (gives_by q m (min (m y) (m z)) o || gives_by q m (max (m y) (m z)) o)
      by None = refl
      by (Some p) =
          ap (λ (b : Bool). b && q p.1) (merged_is_low (m y) (m z) (m p.0))
          ∙ and_or (m p.0 == min (m y) (m z)) (m p.0 == max (m y) (m z)) (q p.1)

  gives_other : (m : ℕ → ℕ) (y z x : ℕ) (q : P → Bool) → x ≢ min (m y) (m z) → x ≢ max (m y) (m z) → (f : Fact ℕ)
      → gives q (λ v. merged (m y) (m z) (m v)) x f ≡ gives q m x f
  gives_other m y z x q low high f = by (pick f)
    where
      by : (o : Option (ℕ × P)) → gives_by q (λ v. merged (m y) (m z) (m v)) x o ≡ gives_by q m x o
      by None = refl
      by (Some p) = ap (λ (b : Bool). b && q p.1) (merged_is_other (m y) (m z) (m p.0) x low high)

  or_twice : (a b c : Bool) → ((a || b) || (a || c)) ≡ (a || (b || c))
  or_twice true b c = refl
  or_twice false b c = refl

  merged_high_moves : (a b : ℕ) → a ≢ b → merged a b (max a b) ≢ max a b
  merged_high_moves a b differ = grind (arith, nat_tests)

  pub told_linked : (m : ℕ → ℕ) (fs : List (Fact ℕ)) (k : Kept) (y z : ℕ) → IsLinked m k → m y ≢ m z
      → y < length k.nodes → z < length k.nodes
      → ((q : P → Bool) (a b : Lists) → list_any q (get (absorbing b a)) ≡ (list_any q (get a) || list_any q (get b)))
      → Told m fs k
      → m (min (m y) (m z)) ≡ min (m y) (m z) → m (max (m y) (m z)) ≡ max (m y) (m z)
      → Told (λ v. merged (m y) (m z) (m v)) fs (linked (max (m y) (m z)) (min (m y) (m z)) k)
  told_linked m fs k y z ok differ ly lz absorbs h low-own high-own q x lt own =
      let low = min (m y) (m z) in
      let high = max (m y) (m z) in
      let next : ℕ → ℕ = λ (v : ℕ). merged (m y) (m z) (m v) in
      let v = absorbing (lists_at k high) (lists_at k low) in
      let inside : x < length k.nodes = omega (arith, lt, length-set k.nodes low v) in
      let low-in : low < length k.nodes = omega (arith, ok.below y, ly) in
      let high-in : high < length k.nodes = omega (arith, ok.below y, ok.below z, ly, lz) in
      elim (cases_eq x low) [
        | inl e ↦
            let here : lists_at (linked high low k) x ≡ v =
            ap (lists_at (linked high low k)) e ∙ get_or-set_same k.nodes low v bare low-in in
            let both : list_any (gives q next low) fs ≡ (list_any (gives q m low) fs || list_any (gives q m high) fs) =
            any_or (gives q next low) (gives q m low) (gives q m high) (gives_low m y z q) fs in
            ap (λ (n : Lists). list_any q (get n)) here ∙ absorbs q (lists_at k low) (lists_at k high)
            ∙ (λ i. h q low low-in low-own i || h q high high-in high-own i)
            ∙ or_twice (list_any q base) (list_any (gives q m low) fs) (list_any (gives q m high) fs)
            ∙ sym (ap (λ (n : ℕ). list_any q base || list_any (gives q next n) fs) e
            ∙ ap (λ (b : Bool). list_any q base || b) both)
        | inr other ↦
            let not-high : x ≢ high =
            λ e. merged_high_moves (m y) (m z) differ (ap (merged (m y) (m z)) (sym (ap m e ∙ high-own)) ∙ own ∙ e) in
            let stays : m x ≡ x = still m y z x (λ e. absurd (moved m y z x e low-own own other)) own in
            ap (λ (n : Lists). list_any q (get n)) (get_or-set_other k.nodes low x v bare other) ∙ h q x inside stays
            ∙ ap (λ (b : Bool). list_any q base || b)
            (sym (any_same (gives q next x) (gives q m x) (gives_other m y z x q other not-high) fs))
      ]
    where
      moved : (n : ℕ → ℕ) (v w u : ℕ) → n u ≡ max (n v) (n w) → n (min (n v) (n w)) ≡ min (n v) (n w)
          → merged (n v) (n w) (n u) ≡ u → u ≢ min (n v) (n w) → ⊥
      moved n v w u e low-is is ne = ne (sym is ∙ ap (merged (n v) (n w)) e ∙ to-low (n v) (n w))
        where
          to-low : (a b : ℕ) → merged a b (max a b) ≡ min a b
          to-low a b = grind (arith, nat_tests)

      still : (n : ℕ → ℕ) (v w u : ℕ) → n u ≢ max (n v) (n w) → merged (n v) (n w) (n u) ≡ u → n u ≡ u
      still n v w u ne is = sym (stay (n v) (n w) (n u) ne) ∙ is
        where
          stay : (a b t : ℕ) → t ≢ max a b → merged a b t ≡ t
          stay a b t ne = grind (arith, nat_tests)

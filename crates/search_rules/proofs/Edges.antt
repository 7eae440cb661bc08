-- The rows of edges, one row and one role at a time.
use Rattle.std.proofs.Common.{◌≡◌, ℕ, ◌+◌, ◌<◌, ◌≤◌, Bool, true, false, eqb, List, [], ◌∷◌, ◌++◌, take, length, get_or}
use Rattle.std.proofs.Common.{refl, ap, sym, ◌∙◌, subst, arith, append-nil, cond}
use Rattle.std.specs.List.{All, flat_map}
use Rattle.std.proofs.lemmas.Bool.{ne_eqb}
use Rattle.std.proofs.lemmas.List.{take_more, take_all}
use Rattle.std.proofs.lemmas.Grind.{flat_map-append}
use Rattle.std.proofs.lemmas.List.Elements.{All-head, All-tail, All-push}
use Rattle.absorption.specs.declared.row.Row.{Row}
use Rattle.absorption.specs.declared.row.Trigger.{Trigger}
use Rattle.absorption.specs.Places.{RowsByNumber, rows_under}
use Rattle.search_rules.specs.Files.{row_if, passing_rows, rows_above, rows_among}

flat_one : {X A : Type 0} (f : X → List A) (xs : List X) (x : X) → flat_map f (xs ++ x ∷ []) ≡ flat_map f xs ++ f x
flat_one f xs x = flat_map-append f xs (x ∷ []) ∙ ap (λ l. flat_map f xs ++ l) (append-nil (f x))

pub passing_more : (p : Trigger → Bool) (rows : List Row) (i : ℕ) (r : Row) → i < length rows → r ≡ get_or rows i r
    → passing_rows p (take (i + 1) rows) ≡ passing_rows p (take i rows) ++ row_if (p r.trigger) r
passing_more p rows i r lt is =
    ap (passing_rows p) (take_more rows i r lt)
    ∙ flat_one (λ (q : Row). row_if (p q.trigger) q) (take i rows) (get_or rows i r)
    ∙ ap (λ (q : Row). passing_rows p (take i rows) ++ row_if (p q.trigger) q) (sym is)

pub among_more : (below : ℕ → ℕ → Bool) (p : Trigger → Bool) (lists : RowsByNumber) (roles : List ℕ) (r i : ℕ)
    → i < length roles
    → rows_among below p lists (take (i + 1) roles) r
    ≡ rows_among below p lists (take i roles) r ++ rows_above below p lists r (get_or roles i 0)
among_more below p lists roles r i lt =
    ap (λ (l : List ℕ). rows_among below p lists l r) (take_more roles i 0 lt)
    ∙ flat_one (rows_above below p lists r) (take i roles) (get_or roles i 0)

-- a role that is below itself alone, and none of these roles, has no rows among them
pub none_above : (below : ℕ → ℕ → Bool) (p : Trigger → Bool) (lists : RowsByNumber) (limit r : ℕ)
    → ((s : ℕ) → below r s ≡ eqb r s) → limit ≤ r → (roles : List ℕ) → All (λ s. s < limit) roles
    → rows_among below p lists roles r ≡ []
none_above below p lists limit r only le [] h = refl
none_above below p lists limit r only le (s ∷ ss) h =
    let less : s < limit = All-head (λ s. s < limit) s ss h in
    let other : r ≡ s → ⊥ = λ same. omega (arith, same, less) in
    let here : rows_above below p lists r s ≡ [] = by (below r s) (only s ∙ ne_eqb r s other) in
    (λ i. here i ++ none_above below p lists limit r only le ss (All-tail (λ s. s < limit) s ss h) i)
  where
    by : (b : Bool) → b ≡ false → cond b (passing_rows p (rows_under lists s)) [] ≡ []
    by true e = cc
    by false e = refl

-- ---- the limit of some roles

pub limit_more : (used : List ℕ) (i limit new : ℕ) → i < length used → limit ≤ new → get_or used i 0 < new
    → All (λ s. s < limit) (take i used) → All (λ s. s < new) (take (i + 1) used)
limit_more used i limit new lt le less h =
    subst (All (λ s. s < new)) (sym (take_more used i 0 lt))
    (All-push (λ s. s < new) (take i used) (get_or used i 0)
    (λ k d at. (let before = h k d at in omega (arith, before, le))) less)

pub limit_all : (used : List ℕ) (i limit : ℕ) → length used ≤ i → All (λ s. s < limit) (take i used)
    → All (λ s. s < limit) used
limit_all used i limit le h = subst (All (λ s. s < limit)) (take_all i used le) h

pub none_behind : (below : ℕ → ℕ → Bool) (p : Trigger → Bool) (lists : RowsByNumber) (limit r : ℕ)
    → ((s : ℕ) → below r s ≡ eqb r s) → limit ≤ r → (roles : List ℕ) → All (λ s. s < limit) roles
    → [] ≡ rows_among below p lists roles r
none_behind below p lists limit r only le roles h = sym (none_above below p lists limit r only le roles h)

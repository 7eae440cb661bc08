-- One of a list is taken out.
use Rattle.std.proofs.Common.{◌≡◌, ℕ, ◌+◌, ◌<◌, ◌≤◌, List, [], ◌∷◌, ◌++◌, length, take, drop, get_or, ap, sym, ◌∙◌}
use Rattle.std.proofs.Common.{subst, arith, inl, inr}
use Rattle.std.specs.List.{Contains}
use Rattle.std.proofs.lemmas.List.{take-append-drop, take_more}
use Rattle.std.proofs.lemmas.List.Elements.{Contains-append_left, Contains-append_right, Contains-append_cases}
use Rattle.std.proofs.lemmas.List.Elements.{Contains-push_cases}
use Rattle.axiom_sets.specs.Sets.{Limited}
use Rattle.audit_jobs.specs.Taken.{TakesOut}

module _ {X : Type 0} (set_of : X → Limited) (s : Limited) (old new : List X) (place : ℕ) (x : X)
    (lt : place < length old) (is : x ≡ get_or old place x) (of : set_of x ≡ s)
    (left : new ≡ take place old ++ drop (place + 1) old) where
  abbrev front : List X
  front = take place old

  abbrev behind : List X
  behind = drop (place + 1) old

  split : old ≡ (front ++ x ∷ []) ++ behind
  split =
      sym (take-append-drop (place + 1) old)
      ∙ ap (λ (xs : List X). xs ++ behind) (take_more old place x lt ∙ ap (λ (y : X). front ++ y ∷ []) (sym is))

  others : (y : X) → Contains old y → ¬ (set_of y ≡ s) → Contains new y
  others y at differs =
      subst (λ (xs : List X). Contains xs y) (sym left)
      (elim (Contains-append_cases (front ++ x ∷ []) behind y (subst (λ (xs : List X). Contains xs y) split at)) [
        | inl early ↦ elim (Contains-push_cases front x y early) [
          | inl before ↦ Contains-append_left front behind y before
          | inr here ↦ absurd (differs (ap set_of (sym here) ∙ of))
        ]
        | inr later ↦ Contains-append_right front behind y later
      ])

  fewer : (y : X) → Contains new y → Contains old y
  fewer y at =
      subst (λ (xs : List X). Contains xs y) (sym split)
      (elim (Contains-append_cases front behind y (subst (λ (xs : List X). Contains xs y) left at)) [
        | inl before ↦ Contains-append_left (front ++ x ∷ []) behind y (Contains-append_left front (x ∷ []) y before)
        | inr later ↦ Contains-append_right (front ++ x ∷ []) behind y later
      ])

  pub taken : TakesOut set_of s old new x
  taken = record { is_of = of; was = (place, lt, sym is); others = others; fewer = fewer }

-- where no place has it, the list has none
pub none_has : {X : Type 0} (set_of : X → Limited) (s : Limited) (xs : List X) (n : ℕ) → length xs ≤ n
    → ((k : ℕ) (d : X) → k < n → ¬ (set_of (get_or xs k d) ≡ s)) → (x : X) → Contains xs x → ¬ (set_of x ≡ s)
none_has set_of s xs n le none x at is = none at.0 x (omega (arith, at.1, le)) (ap set_of at.2 ∙ is)

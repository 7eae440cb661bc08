-- What a step puts stands at the end.
use Rattle.std.proofs.Common.{◌≡◌, ℕ, zero, suc, ◌+◌, ◌<◌, ◌≤◌, ◌||◌, Bool, true, false, List, [], ◌∷◌, ◌++◌, length}
use Rattle.std.proofs.Common.{take, drop, refl, ap, ◌∙◌, sym, arith, length-append, append_assoc}
use Rattle.std.specs.List.{list_any}
use Rattle.std.proofs.lemmas.List.{take-append-le, length-take-le}
use Rattle.std.proofs.lemmas.Option.{slice_get_within}
use Rattle.calculus_specs.specs.declared.facts.Fact.{Fact}
use Rattle.calculus_specs.specs.declared.facts.Fact.TheVariants.{Has}
use Rattle.tableau_specs.specs.declared.Choice.{Choice}
use Rattle.tableau_specs.specs.declared.Item.{Item}
use Rattle.tableau_specs.specs.declared.Item.TheVariants.{Fact as Says, Mark}
use Rattle.tableau_specs.specs.Items.{facts_of, says}
use Rattle.tableau_specs.specs.Steps.{next_choice}
use Rattle.tableau_specs.specs.Steps.IsLegal.{add, give, generate, choose, back}
use Rattle.tableau_specs.proofs.Built.{facts_of-mark}
use Rattle.search_laws.specs.ReuseLaws.{StepsPutLast}

abbrev any_of : (Fact ℕ → Bool) → List Item → Bool
any_of p is = list_any p (facts_of is)

any-items : (p : Fact ℕ → Bool) (is js : List Item) → any_of p (is ++ js) ≡ (any_of p is || any_of p js)
any-items p [] js = refl
any-items p (Says f ∷ is) js = elim (p f) as (λ b. (b || any_of p (is ++ js)) ≡ ((b || any_of p is) || any_of p js))
    [ true ↦ refl | false ↦ any-items p is js ]
any-items p (Mark c ∷ is) js = any-items p is js

taken_and_left : {A : Type 0} → (n : ℕ) (xs : List A) → take n xs ++ drop n xs ≡ xs
taken_and_left zero xs = refl
taken_and_left (suc n) [] = refl
taken_and_left (suc n) (x ∷ xs) = ap (λ ys. x ∷ ys) (taken_and_left n xs)

-- a front has no facts but those of the whole
front_within : (p : Fact ℕ → Bool) (n : ℕ) (is : List Item) → (any_of p (take n is) || any_of p is) ≡ any_of p is
front_within p n is =
    ap (λ (js : List Item). any_of p (take n is) || any_of p js) (sym (taken_and_left n is))
    ∙ ap (λ (b : Bool). any_of p (take n is) || b) (any-items p (take n is) (drop n is))
    ∙ twice (any_of p (take n is)) (any_of p (drop n is))
    ∙ sym (any-items p (take n is) (drop n is)) ∙ ap (any_of p) (taken_and_left n is)
  where
    twice : (a b : Bool) → (a || (a || b)) ≡ (a || b)
    twice true b = refl
    twice false b = refl

-- where the front of the new trail has no facts but the old ones, its end has all that is new
by_front : (p : Fact ℕ → Bool) (place : ℕ) (old new : List Item)
    → (any_of p (take place new) || any_of p old) ≡ any_of p old
    → (any_of p new || any_of p old) ≡ (any_of p (drop place new) || any_of p old)
by_front p place old new h =
    ap (λ (is : List Item). any_of p is || any_of p old) (sym (taken_and_left place new))
    ∙ ap (λ (b : Bool). b || any_of p old) (any-items p (take place new) (drop place new))
    ∙ turned (any_of p (take place new)) (any_of p (drop place new)) (any_of p old) h
  where
    turned : (a b c : Bool) → (a || c) ≡ c → ((a || b) || c) ≡ (b || c)
    turned false b c h = refl
    turned true true c h = refl
    turned true false c h = h

-- a trail that only grows
grown : (p : Fact ℕ → Bool) (place : ℕ) (old more : List Item) → place ≤ length old
    → (any_of p (take place (old ++ more)) || any_of p old) ≡ any_of p old
grown p place old more le =
    ap (λ (is : List Item). any_of p is || any_of p old) (take-append-le place old more le) ∙ front_within p place old

-- a trail that is cut at a mark
cut : (p : Fact ℕ → Bool) (place n : ℕ) (old : List Item) (c : Choice) (f : Fact ℕ) → place ≤ n + 1 → n ≤ length old
    → (any_of p (take place (take n old ++ Mark c ∷ Says f ∷ [])) || any_of p old) ≡ any_of p old
cut p place n old c f le mt =
    let marked : List Item = take n old ++ Mark c ∷ [] in
    let long : length marked ≡ n + 1 =
    omega (arith, length-append (take n old) (Mark c ∷ []), length-take-le n old mt) in
    let front : take place (take n old ++ Mark c ∷ Says f ∷ []) ≡ take place marked =
    ap (take place) (sym (append_assoc (take n old) (Mark c ∷ []) (Says f ∷ [])))
    ∙ take-append-le place marked (Says f ∷ []) (omega (arith, long)) in
    let inner : any_of p marked ≡ any_of p (take n old) = ap (list_any p) (facts_of-mark (take n old) c) in
    ap (λ (is : List Item). any_of p is || any_of p old) front
    ∙ inside (any_of p (take place marked)) (any_of p marked) (any_of p old) (front_within p place marked)
    (ap (λ (b : Bool). b || any_of p old) inner ∙ front_within p n old)
  where
    inside : (a b c : Bool) → (a || b) ≡ b → (b || c) ≡ c → (a || c) ≡ c
    inside false b c h g = refl
    inside true b c h g = ap (λ (t : Bool). t || c) h ∙ g

pub steps_put_last : StepsPutLast
steps_put_last w old new' (add x d nc adds out) place le lt p =
    by_front p place old new' (grown p place old (Says (Has x d) ∷ []) le)
steps_put_last w old new' (give f nc is_given out) place le lt p =
    by_front p place old new' (grown p place old (Says f ∷ []) le)
steps_put_last w old new' (generate fs nc makes) place le lt p =
    by_front p place old new' (grown p place old (says fs) le)
steps_put_last w old new' (choose c f nc may one alt) place le lt p =
    by_front p place old new' (grown p place old (Mark c ∷ Says f ∷ []) le)
steps_put_last w old new' (back n c f clash read alt) place le lt p =
    let low : n < length old = slice_get_within old n (Mark c) read in
    let long : length (take n old) ≡ n = length-take-le n old (omega (arith, low)) in
    by_front p place old new'
    (cut p place n old (next_choice w c) f
    (omega (arith, lt, long, length-append (take n old) (Mark (next_choice w c) ∷ Says f ∷ []))) (omega (arith, low)))

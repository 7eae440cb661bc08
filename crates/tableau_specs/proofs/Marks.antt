-- Trails that a search reaches: what they speak of, and what stands before their marks.
use Rattle.std.proofs.Common.{◌≡◌, ℕ, zero, suc, ◌+◌, ◌<◌, true, List, [], ◌∷◌, ◌++◌, length, take, Some, sym, subst}
use Rattle.std.proofs.Common.{arith}
use Rattle.std.specs.Prelude.{slice_get}
use Rattle.std.proofs.lemmas.List.{take_at, take-take, take-append-le}
use Rattle.calculus_specs.specs.declared.facts.Fact.{Fact}
use Rattle.calculus_specs.specs.declared.facts.Fact.TheVariants.{Has}
use Rattle.calculus_specs.specs.State.{speak_of_nodes}
use Rattle.tableau_specs.specs.declared.Choice.{Choice}
use Rattle.tableau_specs.specs.declared.Item.{Item}
use Rattle.tableau_specs.specs.declared.Item.TheVariants.{Fact as Says, Mark}
use Rattle.tableau_specs.specs.Items.{facts_of, says}
use Rattle.tableau_specs.specs.Steps.{SearchContext, IsGiven, IsLegal, HasPlainClash, next_choice}
use Rattle.tableau_specs.specs.Steps.IsLegal.{add, give, generate, choose, back}
use Rattle.tableau_specs.specs.Reached.{start, Follows}
use Rattle.tableau_specs.proofs.Reached.{reached_built}
use Rattle.tableau_specs.proofs.TreeShaped.{built_speak}
use Rattle.tableau_specs.proofs.Legal.{given_on_first}

-- ---- marks

data InAppend (is js : List Item) (place : ℕ) (c : Choice) : Type 0 where
  in_front : place < length is → slice_get is place ≡ Some (Mark c) → InAppend is js place c
  behind : (q : ℕ) → place ≡ length is + q → slice_get js q ≡ Some (Mark c) → InAppend is js place c

one_behind : (i : Item) (is js : List Item) (place : ℕ) (c : Choice) → InAppend is js place c
    → InAppend (i ∷ is) js (suc place) c
one_behind i is js place c (in_front lt h) = in_front (omega (arith, lt)) h
one_behind i is js place c (behind q at h) = behind q (omega (arith, at)) h

mark_in : (is js : List Item) (place : ℕ) (c : Choice) → slice_get (is ++ js) place ≡ Some (Mark c)
    → InAppend is js place c
mark_in [] js place c h = behind place (omega arith) h
mark_in (i ∷ is) js zero c h = in_front (omega arith) h
mark_in (i ∷ is) js (suc place) c h = one_behind i is js place c (mark_in is js place c h)

no_mark_said : (fs : List (Fact ℕ)) (q : ℕ) (c : Choice) → slice_get (says fs) q ≡ Some (Mark c) → ⊥
no_mark_said [] q c h = cc
no_mark_said (f ∷ fs) zero c h = cc
no_mark_said (f ∷ fs) (suc q) c h = no_mark_said fs q c h

read_of_take : (n : ℕ) (is : List Item) (i : ℕ) (v : Item) → slice_get (take n is) i ≡ Some v
    → (i < n) × (slice_get is i ≡ Some v)
read_of_take zero is i v h = cc
read_of_take (suc n) [] i v h = cc
read_of_take (suc n) (j ∷ is) zero v h = (omega arith, h)
read_of_take (suc n) (j ∷ is) (suc i) v h = let t = read_of_take n is i v h in (omega (arith, t.0), t.1)

module _ (w : SearchContext) where
  abbrev AreBefore : List Item → Type 0
  AreBefore trail = (place : ℕ) (c : Choice) → slice_get trail place ≡ Some (Mark c)
      → ¬ HasPlainClash w (take place trail)

  -- a longer trail, by what stands behind the front
  at_place : (is js : List Item) (place : ℕ) (c : Choice) → AreBefore is
      → ((q : ℕ) (d : Choice) → slice_get js q ≡ Some (Mark d) → ¬ HasPlainClash w (take (length is + q) (is ++ js)))
      → InAppend is js place c
      → ¬ HasPlainClash w (take place (is ++ js))
  at_place is js place c h more (in_front lt k) =
      subst (λ (t : List Item). ¬ HasPlainClash w t) (sym (take-append-le place is js (omega (arith, lt))))
      (h place c k)
  at_place is js place c h more (behind q at k) =
      subst (λ (p : ℕ). ¬ HasPlainClash w (take p (is ++ js))) (sym at) (more q c k)

  before_more : (is js : List Item) → AreBefore is
      → ((q : ℕ) (c : Choice) → slice_get js q ≡ Some (Mark c) → ¬ HasPlainClash w (take (length is + q) (is ++ js)))
      → AreBefore (is ++ js)
  before_more is js h more place c g = at_place is js place c h more (mark_in is js place c g)

  said_more : (is : List Item) (fs : List (Fact ℕ)) → AreBefore is → AreBefore (is ++ says fs)
  said_more is fs h = before_more is (says fs) h (λ q c k. absurd (no_mark_said fs q c k))

  -- a mark and a fact more
  marked_at : (is : List Item) (m : Choice) (f : Fact ℕ) → ¬ HasPlainClash w is → (q : ℕ) (c : Choice)
      → slice_get (Mark m ∷ Says f ∷ []) q ≡ Some (Mark c)
      → ¬ HasPlainClash w (take (length is + q) (is ++ Mark m ∷ Says f ∷ []))
  marked_at is m f none zero c k =
      subst (λ (t : List Item). ¬ HasPlainClash w t)
      (sym (take_at is (Mark m ∷ Says f ∷ []) (length is + 0) (omega arith))) none
  marked_at is m f none (suc zero) c k = cc
  marked_at is m f none (suc (suc q)) c k = cc

  marked_more : (is : List Item) (m : Choice) (f : Fact ℕ) → AreBefore is → ¬ HasPlainClash w is
      → AreBefore (is ++ Mark m ∷ Says f ∷ [])
  marked_more is m f h none = before_more is (Mark m ∷ Says f ∷ []) h (marked_at is m f none)

  taken : (is : List Item) (n : ℕ) → AreBefore is → AreBefore (take n is)
  taken is n h place c k =
      let t = read_of_take n is place (Mark c) k in
      subst (λ (u : List Item). ¬ HasPlainClash w u) (sym (take-take place n is (omega (arith, t.0)))) (h place c t.1)

  legal_before : (old new : List Item) → AreBefore old → IsLegal w old new → AreBefore new
  legal_before old new h (add x d nc adds out) = said_more old (Has x d ∷ []) h
  legal_before old new h (give f nc given out) = said_more old (f ∷ []) h
  legal_before old new h (generate fs nc makes) = said_more old fs h
  legal_before old new h (choose c f nc may one alt) = marked_more old c f h nc
  legal_before old new h (back place c f clash read alt) =
      marked_more (take place old) (next_choice w c) f (taken old place h) (h place c read)

  start_before : (at a b : ℕ) → AreBefore (start at a b)
  start_before at a b place c k = absurd (no_mark_said (Has at a ∷ Has at b ∷ []) place c k)

  pub follows_before : (at a b k : ℕ) (trail : List Item) → Follows w (start at a b) k trail → AreBefore trail
  follows_before at a b zero trail r = subst AreBefore (sym r) (start_before at a b)
  follows_before at a b (suc k) trail r = legal_before r.0 trail (follows_before at a b k r.0 r.1) r.2

pub reached_before : (w : SearchContext) (at sub not_sup k : ℕ) (trail : List Item) → at < w.first
    → Follows w (start at sub not_sup) k trail
    → (place : ℕ) (c : Choice) → slice_get trail place ≡ Some (Mark c) → ¬ HasPlainClash w (take place trail)
reached_before w at sub not_sup k trail lt r = follows_before w at sub not_sup k trail r

pub reached_speak : (w : SearchContext) (at sub not_sup k : ℕ) (trail : List Item) → at < w.first
    → Follows w (start at sub not_sup) k trail → speak_of_nodes w.first (facts_of trail) ≡ true
reached_speak w at sub not_sup k trail lt r =
    built_speak w.first (IsGiven w) (given_on_first w) trail (reached_built w at sub not_sup k trail lt r)

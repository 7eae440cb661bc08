-- The node in question keeps the concepts of the start.
use Rattle.std.proofs.Common.{◌≡◌, ℕ, zero, suc, ◌&&◌, eqb, true, List, [], ◌∷◌, ◌++◌, take, Some, refl, ap, ◌∙◌, sym}
use Rattle.std.proofs.Common.{subst, eq-eqb}
use Rattle.std.specs.List.{list_any, slice_get}
use Rattle.std.proofs.lemmas.Bool.{and_from, or_left, or_right}
use Rattle.std.proofs.lemmas.List.{append_assoc, append-nil}
use Rattle.calculus_specs.specs.declared.facts.Fact.{Fact}
use Rattle.calculus_specs.specs.declared.facts.Fact.TheVariants.{Has}
use Rattle.calculus_specs.specs.Joins.{rep}
use Rattle.calculus_specs.specs.State.{gives_concept, has}
use Rattle.tableau_specs.specs.declared.Item.{Item}
use Rattle.tableau_specs.specs.declared.Item.TheVariants.{Fact as Says, Mark}
use Rattle.tableau_specs.specs.Items.{facts_of, says}
use Rattle.tableau_specs.specs.Steps.{SearchContext, IsLegal}
use Rattle.tableau_specs.specs.Steps.IsLegal.{add, give, generate, choose, back}
use Rattle.tableau_specs.specs.Reached.{start, Follows}

abbrev Begins : ℕ → ℕ → ℕ → List Item → Type 0
Begins at a b trail = (rest : List Item) × (trail ≡ start at a b ++ rest)

begins_longer : (at a b : ℕ) (old new : List Item) → Begins at a b old → Begins at a b (old ++ new)
begins_longer at a b old new h =
    (h.0 ++ new, ap (λ (is : List Item). is ++ new) h.1 ∙ append_assoc (start at a b) h.0 new)

begins_cut : (at a b : ℕ) (rest : List Item) (place c : ℕ) (mark : Item)
    → slice_get (start at a b ++ rest) place ≡ Some mark → ((f : Fact ℕ) → ¬ (mark ≡ Says f))
    → Begins at a b (take place (start at a b ++ rest))
begins_cut at a b rest zero c mark read not_fact =
    absurd (not_fact (Has at a) (let e : mark ≡ Says (Has at a) = cc in e))
begins_cut at a b rest (suc zero) c mark read not_fact =
    absurd (not_fact (Has at b) (let e : mark ≡ Says (Has at b) = cc in e))
begins_cut at a b rest (suc (suc place)) c mark read not_fact = (take place rest, refl)

legal_begins : (w : SearchContext) (at a b : ℕ) (old new : List Item) → Begins at a b old → IsLegal w old new
    → Begins at a b new
legal_begins w at a b old new' h (add x d nc adds out) = begins_longer at a b old (Says (Has x d) ∷ []) h
legal_begins w at a b old new' h (give f nc given out) = begins_longer at a b old (Says f ∷ []) h
legal_begins w at a b old new' h (generate new nc makes) = begins_longer at a b old (says new) h
legal_begins w at a b old new' h (choose c f nc may one alt) = begins_longer at a b old (Mark c ∷ Says f ∷ []) h
legal_begins w at a b old new' h (back place c f clash read alt) =
    begins_longer at a b (take place old) (_ ∷ Says f ∷ [])
    (subst (λ (is : List Item). Begins at a b (take place is)) (sym h.1)
    (begins_cut at a b h.0 place 0 (Mark c) (subst (λ (is : List Item). slice_get is place ≡ Some (Mark c)) h.1 read)
    (λ g e. cc)))

pub follows_begins : (w : SearchContext) (at a b k : ℕ) (trail : List Item) → Follows w (start at a b) k trail
    → Begins at a b trail
follows_begins w at a b zero trail r = ([], r ∙ sym (append-nil (start at a b)))
follows_begins w at a b (suc k) trail r = legal_begins w at a b r.0 trail (follows_begins w at a b k r.0 r.1) r.2

first_given : (m : ℕ → ℕ) (at a : ℕ) (fs : List (Fact ℕ))
    → list_any (gives_concept (λ d. eqb d a) m (m at)) (Has at a ∷ fs) ≡ true
first_given m at a fs =
    or_left (eqb (m at) (m at) && eqb a a) (list_any (gives_concept (λ d. eqb d a) m (m at)) fs)
    (and_from (eqb (m at) (m at)) (eqb a a) (eq-eqb (m at) (m at) refl) (eq-eqb a a refl))

has_first : (at a b : ℕ) (rest : List Item) → has (facts_of (start at a b ++ rest)) at a ≡ true
has_first at a b rest =
    let fs = facts_of (start at a b ++ rest) in
    or_right (eqb a 0) (list_any (gives_concept (λ d. eqb d a) (rep fs) (rep fs at)) fs)
    (first_given (rep fs) at a (Has at b ∷ facts_of rest))

has_second : (at a b : ℕ) (rest : List Item) → has (facts_of (start at a b ++ rest)) at b ≡ true
has_second at a b rest =
    let fs = facts_of (start at a b ++ rest) in
    or_right (eqb b 0) (list_any (gives_concept (λ d. eqb d b) (rep fs) (rep fs at)) fs)
    (or_right (gives_concept (λ d. eqb d b) (rep fs) (rep fs at) (Has at a))
    (list_any (gives_concept (λ d. eqb d b) (rep fs) (rep fs at)) (Has at b ∷ facts_of rest))
    (first_given (rep fs) at b (facts_of rest)))

pub start_stays : (w : SearchContext) (at a b k : ℕ) (trail : List Item) → Follows w (start at a b) k trail
    → (has (facts_of trail) at a ≡ true) × (has (facts_of trail) at b ≡ true)
start_stays w at a b k trail r =
    let h = follows_begins w at a b k trail r in (
      subst (λ (is : List Item). has (facts_of is) at a ≡ true) (sym h.1) (has_first at a b h.0),
      subst (λ (is : List Item). has (facts_of is) at b ≡ true) (sym h.1) (has_second at a b h.0),
    )

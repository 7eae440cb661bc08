-- Chains from classes and from individuals.
use Rattle.std.proofs.Common.{◌≡◌, ◌⊎◌, ℕ, List, refl, subst, sym, ◌∙◌, inl, inr}
use Rattle.std.specs.Prelude.{Contains}
use Rattle.axiom_sets.specs.Sets.{Limited}
use Rattle.shq_terms.specs.Concept.{Concept, top, bottom}
use Rattle.shq_terms.specs.declared.axioms.On.{On}
use Rattle.shq_terms.specs.declared.axioms.On.TheVariants.{Any, Individual}
use Rattle.shq_terms.specs.declared.axioms.Query.{Query}
use Rattle.subsumption.specs.Entry.{Entry}
use Rattle.subsumption.specs.Entry.TheVariants.{Test}
use Rattle.subsumption.specs.TestEnd.TheVariants.{Yes}
use Rattle.subsumption.specs.HonestLog.{IsStep, IsChain}
use Rattle.subsumption.specs.HonestLog.IsStep.{by_test as class_test, in_top as class_in_top}
use Rattle.subsumption.specs.HonestLog.IsStep.{of_bottom as class_of_bottom}
use Rattle.subsumption.specs.HonestLog.IsChain.{none as no_class_step, onward as class_onward}
use Rattle.realizer.specs.Places.{Place, class_place, individual_place, left_of, IsPlaceStep, IsPlaceChain}
use Rattle.realizer.specs.Places.IsPlaceStep.{by_test, in_top, of_bottom}
use Rattle.realizer.specs.Places.IsPlaceChain.{none, onward}

same_class : (x y : Concept) → class_place x ≡ class_place y → x ≡ y
same_class x y h = cc

same_individual : (a b : ℕ) → individual_place a ≡ individual_place b → a ≡ b
same_individual a b h = cc

no_individual : (x : Concept) (a : ℕ) → class_place x ≡ individual_place a → ⊥
no_individual x a h = cc

-- ---- from a class

-- a query whose left side is a class is of all elements
of_all : (q : Query) (x : Concept) (on : On) → q.on ≡ on → left_of q.sub on ≡ class_place x → (q.on ≡ Any) × (q.sub ≡ x)
of_all q x Any is e = (is, same_class q.sub x e)
of_all q x (Individual a) is e = absurd (no_individual x a (sym e))

-- the step leads to a class, and is one between classes
abbrev ClassStep : List Entry → Concept → Place → Type 0
ClassStep log x p = (z : Concept) × (p ≡ class_place z) × IsStep log x z

class_step : (log : List Entry) (p r : Place) → IsPlaceStep log p r → (x : Concept) → p ≡ class_place x
    → ClassStep log x r
class_step log _ _ (by_test s q steps u there) x e =
    let all = of_all q x q.on refl e in
    (q.sup, refl, subst (λ (c : Concept). IsStep log c q.sup) all.1 (class_test s q steps u all.0 there))
class_step log _ _ (in_top p) x e = (top, refl, class_in_top x)
class_step log _ _ (of_bottom y) x e =
    (y, refl, subst (λ (c : Concept). IsStep log c y) (same_class bottom x e) (class_of_bottom y))

abbrev ClassChain : List Entry → Concept → Place → Type 0
ClassChain log x p = (z : Concept) × (p ≡ class_place z) × IsChain log x z

chain_at : (log : List Entry) (p r : Place) → IsPlaceChain log p r → (x : Concept) → p ≡ class_place x
    → ClassChain log x r
chain_at log _ _ (none p) x e = (x, e, no_class_step x)
chain_at log _ _ (onward p q r step rest) x e =
    let first = class_step log p q step x e in
    let more = chain_at log q r rest first.0 first.1 in
    (more.0, more.1, class_onward x first.0 more.0 first.2 more.2)

-- a chain from class to class is one of classes alone
pub class_chain : (log : List Entry) (x y : Concept) → IsPlaceChain log (class_place x) (class_place y)
    → IsChain log x y
class_chain log x y chain = at_end (chain_at log (class_place x) (class_place y) chain x refl)
  where
    at_end : ClassChain log x (class_place y) → IsChain log x y
    at_end (z, end, c) = subst (IsChain log x) (sym (same_class y z end)) c

-- ---- from an individual

-- the class to which a first step leads: that of all things, or one of which a test found that the individual is in it
abbrev pub IsFirstClass : List Entry → ℕ → Concept → Type 0
IsFirstClass log a z = (z ≡ top)
    ⊎ ((s : Limited) × (q : Query) × (steps : ℕ) × (u : Limited) × (q.on ≡ Individual a) × (q.sup ≡ z)
    × Contains log (Test s q steps (Yes u)))

-- a query whose left side is an individual is on it
on_one : (q : Query) (a : ℕ) (on : On) → q.on ≡ on → left_of q.sub on ≡ individual_place a → q.on ≡ Individual a
on_one q a Any is e = absurd (no_individual q.sub a e)
on_one q a (Individual b) is e = is ∙ again (same_individual b a e)
  where
    again : b ≡ a → Individual b ≡ Individual a
    again h = cc

abbrev FirstStep : List Entry → ℕ → Place → Type 0
FirstStep log a p = (z : Concept) × (p ≡ class_place z) × IsFirstClass log a z

first_step : (log : List Entry) (p r : Place) → IsPlaceStep log p r → (a : ℕ) → p ≡ individual_place a
    → FirstStep log a r
first_step log _ _ (by_test s q steps u there) a e =
    (q.sup, refl, inr (s, q, steps, u, on_one q a q.on refl e, refl, there))
first_step log _ _ (in_top p) a e = (top, refl, inl refl)
first_step log _ _ (of_bottom y) a e = absurd (no_individual bottom a e)

abbrev pub FromIndividual : List Entry → ℕ → Concept → Type 0
FromIndividual log a y = (z : Concept) × IsFirstClass log a z × IsChain log z y

-- a chain from an individual to a class is such a step and a chain of classes
pub individual_chain : (log : List Entry) (a : ℕ) (y : Concept) → IsPlaceChain log (individual_place a) (class_place y)
    → FromIndividual log a y
individual_chain log a y chain = by (individual_place a) (class_place y) chain refl refl
  where
    by : (p r : Place) → IsPlaceChain log p r → p ≡ individual_place a → r ≡ class_place y → FromIndividual log a y
    by _ _ (none p) e f = absurd (no_individual y a (sym f ∙ e))
    by _ _ (onward p q r step rest) e f = onto (first_step log p q step a e)
      where
        onto : FirstStep log a q → FromIndividual log a y
        onto (z, at, first) = at_end (chain_at log q r rest z at)
          where
            at_end : ClassChain log z r → FromIndividual log a y
            at_end (w, end, c) = (z, first, subst (IsChain log z) (same_class w y (sym end ∙ f)) c)

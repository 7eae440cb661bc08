-- Where the steps that a trail keeps stand.
use Rattle.std.proofs.Common.{◌≡◌, ℕ, zero, suc, ◌<◌, ◌⊎◌, List, [], ◌∷◌, ◌++◌, take, Some, refl, ap, ◌∙◌, sym}
use Rattle.std.proofs.Common.{subst, arith, inl, inr, append_assoc}
use Rattle.std.specs.List.{slice_get}
use Rattle.std.proofs.lemmas.List.{append-nil}
use Rattle.calculus_specs.specs.Shape.{Shape}
use Rattle.calculus_specs.specs.declared.facts.Fact.{Fact}
use Rattle.calculus_specs.specs.declared.facts.Fact.TheVariants.{Has}
use Rattle.tableau_specs.specs.declared.Branch.{Branch}
use Rattle.tableau_specs.specs.declared.Choice.{Choice}
use Rattle.tableau_specs.specs.declared.Item.{Item}
use Rattle.tableau_specs.specs.declared.Item.TheVariants.{Fact as Says, Mark}
use Rattle.tableau_specs.specs.Items.{facts_of, says}
use Rattle.tableau_specs.specs.Steps.{SearchContext, MayBranch, IsAlternative}
use Rattle.tableau_specs.specs.Steps.IsAlternative.{of_union, of_filler, of_complement, of_joining, of_parting}
use Rattle.tableau_specs.specs.Reached.{start}
use Rattle.search_laws.specs.KeptSteps.{IsGrown}
use Rattle.search_laws.specs.KeptSteps.IsGrown.{at_first, by_add, by_give, by_make, by_choice}

-- ---- lists

pub facts_of-append : (is js : List Item) → facts_of (is ++ js) ≡ facts_of is ++ facts_of js
facts_of-append [] js = refl
facts_of-append (Says f ∷ is) js = ap (λ (fs : List (Fact ℕ)). f ∷ fs) (facts_of-append is js)
facts_of-append (Mark c ∷ is) js = facts_of-append is js

pub facts_of-says : (fs : List (Fact ℕ)) → facts_of (says fs) ≡ fs
facts_of-says [] = refl
facts_of-says (f ∷ fs) = ap (λ (gs : List (Fact ℕ)). f ∷ gs) (facts_of-says fs)

-- where an item of a longer list stands: among the first or among the others
abbrev Stands : List Item → List Item → ℕ → Item → Type 0
Stands old new place i =
    ((slice_get old place ≡ Some i) × (take place (old ++ new) ≡ take place old))
    ⊎ ((q : ℕ) × (slice_get new q ≡ Some i) × (take place (old ++ new) ≡ old ++ take q new))

stands : (old new : List Item) (place : ℕ) (i : Item) → slice_get (old ++ new) place ≡ Some i → Stands old new place i
stands [] new place i h = inr (place, h, refl)
stands (j ∷ old) new zero i h = inl (h, refl)
stands (j ∷ old) new (suc place) i h = elim (stands old new place i h) [
  | inl low ↦ inl (low.0, ap (λ (is : List Item). j ∷ is) low.1)
  | inr high ↦ inr (high.0, high.1, ap (λ (is : List Item). j ∷ is) high.2)
]

no_mark_in : (fs : List (Fact ℕ)) (q : ℕ) (c : Choice) → ¬ (slice_get (says fs) q ≡ Some (Mark c))
no_mark_in [] q c h = cc
no_mark_in (f ∷ fs) zero c h = cc
no_mark_in (f ∷ fs) (suc q) c h = no_mark_in fs q c h

-- ---- the steps before a mark

pub record IsCut (w : SearchContext) (first : List Item) (ds : List ℕ) (trail : List Item) (place : ℕ) (c : Choice) :
    Type 0 where
  pub before : List ℕ
  pub after : List ℕ
  pub numbers : ds ≡ before ++ c.alternative ∷ after
  pub grown : IsGrown w first before (take place trail)
  pub may : MayBranch w (facts_of (take place trail)) c.branch

module _ (w : SearchContext) (at a b : ℕ) where
  abbrev Cut : List ℕ → List Item → ℕ → Choice → Type 0
  Cut ds trail place c = IsCut w (start at a b) ds trail place c

  -- a step more leaves what stands before an earlier mark
  longer : (ds : List ℕ) (n : ℕ) (old new : List Item) (place : ℕ) (c : Choice)
      → take place (old ++ new) ≡ take place old → Cut ds old place c → Cut (ds ++ n ∷ []) (old ++ new) place c
  longer ds n old new place c same k = record {
    before = k.before;
    after = k.after ++ n ∷ [];
    numbers = ap (λ (es : List ℕ). es ++ n ∷ []) k.numbers ∙ append_assoc k.before (c.alternative ∷ k.after) (n ∷ []);
    grown = subst (IsGrown w (start at a b) k.before) (sym same) k.grown;
    may = subst (λ (is : List Item). MayBranch w (facts_of is) c.branch) (sym same) k.may;
  }

  pub cut : (ds : List ℕ) (trail : List Item) → IsGrown w (start at a b) ds trail → (place : ℕ) (c : Choice)
      → slice_get trail place ≡ Some (Mark c) → Cut ds trail place c
  cut ds trail at_first place c h = absurd (no_mark_in (Has at a ∷ Has at b ∷ []) place c h)
  cut ds trail (by_add es old x d g adds out) place c h = elim (stands old (Says (Has x d) ∷ []) place (Mark c) h) [
    | inl low ↦ longer es 1 old (Says (Has x d) ∷ []) place c low.1 (cut es old g place c low.0)
    | inr high ↦ absurd (no_mark_in (Has x d ∷ []) high.0 c high.1)
  ]
  cut ds trail (by_give es old f g is_given out) place c h = elim (stands old (Says f ∷ []) place (Mark c) h) [
    | inl low ↦ longer es 1 old (Says f ∷ []) place c low.1 (cut es old g place c low.0)
    | inr high ↦ absurd (no_mark_in (f ∷ []) high.0 c high.1)
  ]
  cut ds trail (by_make es old new g makes) place c h = elim (stands old (says new) place (Mark c) h) [
    | inl low ↦ longer es 1 old (says new) place c low.1 (cut es old g place c low.0)
    | inr high ↦ absurd (no_mark_in new high.0 c high.1)
  ]
  cut ds trail (by_choice es old e f g may alt) place c h = elim (stands old (Mark e ∷ Says f ∷ []) place (Mark c) h) [
    | inl low ↦ longer es e.alternative old (Mark e ∷ Says f ∷ []) place c low.1 (cut es old g place c low.0)
    | inr high ↦ here high.0 high.1 high.2
  ]
    where
      here : (q : ℕ) → slice_get (Mark e ∷ Says f ∷ []) q ≡ Some (Mark c)
          → take place (old ++ Mark e ∷ Says f ∷ []) ≡ old ++ take q (Mark e ∷ Says f ∷ [])
          → Cut (es ++ e.alternative ∷ []) (old ++ Mark e ∷ Says f ∷ []) place c
      here zero read same =
          let k : e ≡ c = cc in
          let all : take place (old ++ Mark e ∷ Says f ∷ []) ≡ old = same ∙ append-nil old in
          record {
            before = es;
            after = [];
            numbers = ap (λ (o : Choice). es ++ o.alternative ∷ []) k;
            grown = subst (IsGrown w (start at a b) es) (sym all) g;
            may =
                subst (λ (o : Choice). MayBranch w (facts_of (take place (old ++ Mark e ∷ Says f ∷ []))) o.branch) k
                (subst (λ (is : List Item). MayBranch w (facts_of is) e.branch) (sym all) may);
          }
      here (suc zero) read same = absurd (cc)
      here (suc (suc q)) read same = absurd (cc)

-- ---- trails that a search reaches keep steps

abbrev pub AreOnes : List ℕ → Type 0
AreOnes [] = Unit {0}
AreOnes (d ∷ ds) = (d ≡ 1) × AreOnes ds

pub ones_front : (ds es : List ℕ) → AreOnes (ds ++ es) → AreOnes ds
ones_front [] es h = tt
ones_front (d ∷ ds) es h = (h.0, ones_front ds es h.1)

pub ones_back : (ds es : List ℕ) → AreOnes (ds ++ es) → AreOnes es
ones_back [] es h = h
ones_back (d ∷ ds) es h = ones_back ds es h.1

pub alternatives_from_one : (table : List Shape) (b : Branch) (k : ℕ) (f : Fact ℕ) → IsAlternative table b k f → 0 < k
alternatives_from_one table b k f (of_union x c k' d parts sh read) = omega arith
alternatives_from_one table b k f (of_filler y e) = omega arith
alternatives_from_one table b k f (of_complement y e d neg) = omega arith
alternatives_from_one table b k f (of_joining y z) = omega arith
alternatives_from_one table b k f (of_parting y z) = omega arith

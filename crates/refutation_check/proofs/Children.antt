-- What lines leave keeps to the numbers of the table.
use Rattle.std.proofs.Common.{◌≡◌, ℕ, zero, suc, ◌+◌, ◌<◌, ◌&&◌, true, List, [], ◌∷◌, ◌++◌, map, Option, Some, None}
use Rattle.std.proofs.Common.{refl, ◌∙◌}
use Rattle.std.specs.List.{All}
use Rattle.std.proofs.lemmas.Bool.{lt-ltb, and_from, and_parts}
use Rattle.std.proofs.lemmas.List.Folds.{list_all-append}
use Rattle.std.proofs.lemmas.List.Elements.{All-nil, All-cons}
use Rattle.calculus_specs.specs.declared.facts.Fact.{Fact}
use Rattle.calculus_specs.specs.declared.facts.Fact.TheVariants.{Has}
use Rattle.calculus_specs.specs.State.{new_nodes, apart_from, pairwise_apart}
use Rattle.calculus_specs.specs.Reading.{is_fact_listed, are_listed}
use Rattle.refutation_rules.specs.NumberedBranch.{NumberedBranch as Branch}
use Rattle.refutation_rules.specs.declared.outcome.Outcome.{Outcome}
use Rattle.refutation_rules.specs.declared.outcome.Outcome.TheVariants.{Closed, Started, More, Nodes, Branches}
use Rattle.refutation_rules.specs.Outcomes.{branch_with_facts, branches_after, IsFit, IsFitIfSome, IsBranch}
use Rattle.refutation_check.specs.Open.{Open}
use Rattle.refutation_check.specs.Steps.{IsReadyIf}
use Rattle.refutation_check.proofs.Begun.{IsBegun}

pub ready_if : (n : ℕ) (o : Open) (out : Option Outcome) → IsBranch n o.branch → IsFitIfSome n o.branch out
    → IsReadyIf o out
ready_if n o None is fit = tt
ready_if n o (Some Closed) is fit = tt
ready_if n o (Some (Started m)) is fit = (fit.0, is.begun fit.0, fit.3)
ready_if n o (Some (More fs)) is fit = tt
ready_if n o (Some (Nodes m)) is fit = (fit.1, fit.2)
ready_if n o (Some (Branches fs)) is fit = tt

module _ (n : ℕ) where
  both_listed : (fs gs : List (Fact ℕ)) → are_listed n fs ≡ true → are_listed n gs ≡ true
      → are_listed n (fs ++ gs) ≡ true
  both_listed fs gs h k = list_all-append (is_fact_listed n) fs gs ∙ and_from (are_listed n fs) (are_listed n gs) h k

  nodes_listed : (x s c : ℕ) → c < n → (count first : ℕ) → are_listed n (new_nodes x s c first count) ≡ true
  nodes_listed x s c l zero first = refl
  nodes_listed x s c l (suc count) first =
      and_from (is_fact_listed n (Has first c)) (are_listed n (new_nodes x s c (first + 1) count)) (lt-ltb c n l)
      (nodes_listed x s c l count (first + 1))

  aparts_listed : (x count first : ℕ) → are_listed n (apart_from x first count) ≡ true
  aparts_listed x zero first = refl
  aparts_listed x (suc count) first = aparts_listed x count (first + 1)

  pairs_listed : (count first : ℕ) → are_listed n (pairwise_apart first count) ≡ true
  pairs_listed zero first = refl
  pairs_listed (suc count) first =
      both_listed (apart_from first (first + 1) count) (pairwise_apart (first + 1) count)
      (aparts_listed first count (first + 1)) (pairs_listed count (first + 1))

  abbrev HasListedFacts : Branch → Type 0
  HasListedFacts k = are_listed n k.facts ≡ true

  one : (k : Branch) → HasListedFacts k → All HasListedFacts (k ∷ [])
  one k h = All-cons HasListedFacts k [] h (All-nil HasListedFacts)

  each_listed : (k : Branch) (fs : List (Fact ℕ)) → HasListedFacts k → are_listed n fs ≡ true
      → All HasListedFacts (map (λ f. branch_with_facts k (f ∷ [])) fs)
  each_listed k [] h l = All-nil HasListedFacts
  each_listed k (f ∷ fs) h l =
      let p = and_parts (is_fact_listed n f) (are_listed n fs) l in
      All-cons HasListedFacts (branch_with_facts k (f ∷ [])) (map (λ g. branch_with_facts k (g ∷ [])) fs)
      (both_listed k.facts (f ∷ []) h (and_from (is_fact_listed n f) true p.0 refl)) (each_listed k fs h p.1)

  all_listed : (k : Branch) (o : Outcome) → HasListedFacts k → IsFit n k o → All HasListedFacts (branches_after k o)
  all_listed k Closed h fit = All-nil HasListedFacts
  all_listed k (Started m) h fit =
      one _ (and_from (is_fact_listed n (Has m.asked m.sub)) (is_fact_listed n (Has m.asked m.not_sup) && true)
      (lt-ltb m.sub n fit.1) (and_from (is_fact_listed n (Has m.asked m.not_sup)) true (lt-ltb m.not_sup n fit.2) refl))
  all_listed k (More fs) h fit = one _ (both_listed k.facts fs.items h fit)
  all_listed k (Nodes m) h fit =
      one _ (both_listed k.facts _ h
      (both_listed (new_nodes m.from m.role m.concept m.first m.count) (pairwise_apart m.first m.count)
      (nodes_listed m.from m.role m.concept fit.0 m.count m.first) (pairs_listed m.count m.first)))
  all_listed k (Branches fs) h fit = each_listed k fs.items h fit

  pub children_are : (k : Branch) (o : Outcome) → IsBranch n k → IsFit n k o → All IsBegun (branches_after k o)
      → All (IsBranch n) (branches_after k o)
  children_are k o is fit begun i d l =
      record { listed = all_listed k o is.listed fit i d l; begun = λ e. absurd (begun i d l e) }

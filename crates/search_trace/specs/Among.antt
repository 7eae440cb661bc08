-- What stands in one list and in another, and what a branch knows beside another.
use Rattle.std.specs.Prelude.{◌≡◌, Bool, true, List, [], ◌∷◌, filter}
use Rattle.std.specs.FinSet as sets
use Rattle.std.specs.List.{list_any}
use Rattle.refutation_tree.specs.NumberSets.{NumberSet}
use Rattle.calculus_specs.specs.Rules.{Known}
use Rattle.search_trace.specs.Noted.{items, Noted}

-- what stands in xs stands in ys: no test finds more there
abbrev pub IsAmong : {A : Type 0} → List A → List A → Type 0
IsAmong {A} xs ys = (p : A → Bool) → list_any p xs ≡ true → list_any p ys ≡ true

-- what one branch knows another knows
pub record IsPart (less more : Known) : Type 0 where
  pub nodes : IsAmong less.nodes more.nodes
  pub facts : IsAmong less.facts more.facts

-- `new` has all of `old` that rests on sets that pass the test, and no node that `old` does not know
pub record Keeps (may_stay : NumberSet → Bool) (old new : Noted) : Type 0 where
  pub nodes : IsAmong (filter (λ m. may_stay m.marks) old.nodes) new.nodes
  pub facts : IsAmong (filter (λ m. may_stay m.marks) old.facts) new.facts
  pub no_more : IsAmong (items new.nodes) (items old.nodes)

-- each of the branches keeps what may stay of the one in the same place
abbrev pub AllKeep : (NumberSet → Bool) → List Noted → List Noted → Type 0
AllKeep may_stay [] [] = Unit {0}
AllKeep may_stay [] (n ∷ ns) = ⊥
AllKeep may_stay (o ∷ os) [] = ⊥
AllKeep may_stay (o ∷ os) (n ∷ ns) = Keeps may_stay o n × AllKeep may_stay os ns

-- a set that is part of one that passes passes
abbrev pub IsDownward : (NumberSet → Bool) → Type 0
IsDownward may_stay = (s t : NumberSet) → sets.is_subset s t ≡ true → may_stay t ≡ true → may_stay s ≡ true

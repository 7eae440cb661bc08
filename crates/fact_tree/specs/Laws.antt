-- Facts that are added take nothing back.
use Rattle.std.specs.Prelude.{◌≡◌, ℕ, true, List, ◌++◌}
use Rattle.calculus_specs.specs.declared.facts.Fact.{Fact}
use Rattle.calculus_specs.specs.State.{is_so}

-- what is so in the state of some facts stays so when facts are put behind them
abbrev pub FactsStay : Type 0
FactsStay = (fs new : List (Fact ℕ)) (f : Fact ℕ) → is_so fs f ≡ true → is_so (fs ++ new) f ≡ true

use Rattle.std.proofs.Common.{◌≡◌, ℕ, ◌<◌, length}
use Rattle.calculus_specs.specs.Shape.{shape_of}
use Rattle.step_finders.specs.Found.{AreCarriesOf}
use Rattle.search_rules.specs.Lists.{list_at}
use Rattle.search_rules.specs.Tables.{role_context}
use Rattle.search_rules.proofs.carries.carry_lists.Given as goal

abbrev pub invariant-loop-number : goal.invariant-loop-number
invariant-loop-number l = record {
  long : length l.lists.items ≡ l.number;
  each : (c : ℕ) → c < l.number
      → AreCarriesOf (role_context l.concepts l.roles) (shape_of l.concepts c) (list_at l.lists.items c);
}

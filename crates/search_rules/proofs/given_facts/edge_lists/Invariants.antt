use Rattle.std.proofs.Common.{◌≡◌, ℕ, ◌++◌, drop}
use Rattle.search_rules.specs.Lists.{list_at}
use Rattle.search_rules.specs.GivenFacts.{edges_into}
use Rattle.search_rules.proofs.given_facts.edge_lists.Given as goal

abbrev pub invariant-loop-one : goal.invariant-loop-one
invariant-loop-one l = (x : ℕ)
    → list_at l.lists.items x ++ edges_into x (drop l.one-index l.given) ≡ edges_into x l.given

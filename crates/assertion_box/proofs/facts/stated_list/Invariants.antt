use Rattle.std.proofs.Common.{◌≡◌, ◌++◌, drop}
use Rattle.assertion_box.specs.Stated.{stated_facts}
use Rattle.assertion_box.proofs.facts.stated_list.Given as goal

abbrev pub invariant-loop-number : goal.invariant-loop-number
invariant-loop-number l = l.facts ++ stated_facts l.all (drop l.number-index l.only) ≡ stated_facts l.all l.only

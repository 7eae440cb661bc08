use Rattle.std.proofs.Common.{◌≡◌}
use Rattle.std.specs.List.{All}
use Rattle.axiom_sets.specs.Sets.{Limited}
use Rattle.pinpointing_tests.proofs.written_sets.put_sets.Given as goal

abbrev pub invariant-loop-word : goal.invariant-loop-word
invariant-loop-word l = All (λ (s : Limited). s.limit ≡ l.count) l.sets.items

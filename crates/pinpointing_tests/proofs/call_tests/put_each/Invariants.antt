use Rattle.std.proofs.Common.{◌≡◌}
use Rattle.std.specs.List.{All}
use Rattle.axiom_sets.specs.Sets.{Limited}
use Rattle.set_questions.specs.Kept.{kept_sets}
use Rattle.pinpointing_tests.proofs.call_tests.put_each.Given as goal

abbrev pub invariant-loop-word : goal.invariant-loop-word
invariant-loop-word l = All (λ (s : Limited). s.limit ≡ 4) (kept_sets l.chain)

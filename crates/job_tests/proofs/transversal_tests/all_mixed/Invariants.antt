use Rattle.std.proofs.Common.{◌≡◌}
use Rattle.std.specs.List.{All}
use Rattle.axiom_sets.specs.Sets.{Limited}
use Rattle.job_tests.proofs.transversal_tests.all_mixed.Given as goal

abbrev pub invariant-loop-row : goal.invariant-loop-row
invariant-loop-row l = All (λ (s : Limited). s.limit ≡ 30) l.sets.items

use Rattle.std.proofs.Common.{◌≡◌, ℕ, ◌&&◌}
use Rattle.role_box.specs.Rows.{has, linked}
use Rattle.role_box.specs.Closure.{any_below}
use Rattle.role_box.proofs.closure.joined_rows.Given as goal

abbrev pub invariant-loop-role : goal.invariant-loop-role
invariant-loop-role l = (s : ℕ) → has l.joined s ≡ any_below l.role (λ t. has l.roles t && linked l.rows t s)

use Rattle.std.proofs.Common.{◌≡◌, ℕ, ◌<◌, true, eqb}
use Rattle.std.specs.List.{list_any}
use Rattle.row_cache.specs.Steps.{is_transitive}
use Rattle.absorption.proofs.closing.transitive_roles.Given as goal

abbrev pub invariant-loop-role : goal.invariant-loop-role
invariant-loop-role l = (t : ℕ) → t < l.role → is_transitive l.roles t ≡ true
    → list_any (λ r. eqb r t) l.found.items ≡ true

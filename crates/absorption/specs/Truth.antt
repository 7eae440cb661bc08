-- Where the trigger of a row holds in a finite interpretation, and what it means that the row is met.
use Rattle.std.specs.Prelude.{ℕ, Bool, true, false, nat_le, List, Option, Some, None}
use Rattle.std.specs.List.{list_all}
use Rattle.shq_terms.specs.Concept.{Concept}
use Rattle.calculus_specs.specs.Rows.{Part, inclusion, range, conjunct_at, Trigger}
use Rattle.calculus_specs.specs.Rows.Trigger.{always, names, edge, end_of}
use Rattle.row_cache.specs.Below.{all_below, count_below}
use Rattle.row_cache.specs.Truth.{Interpretation, implies, holds, out_degree}

-- how many pairs of the role end at the element
abbrev pub in_degree : Interpretation → ℕ → ℕ → ℕ
in_degree i r x = count_below i.size (λ z. i.in_role r z x)

-- whether the element is in the conjuncts at these positions
abbrev pub holds_at : Interpretation → Part → List ℕ → ℕ → Bool
holds_at i (inclusion cs d) ps x = list_all (λ p. holds i (conjunct_at cs p) x) ps
holds_at i (range r d) ps x = false

-- whether the trigger of a row of the part holds at the element: a pair of the role begins there, or ends there
abbrev pub is_triggered : Interpretation → Part → Trigger → ℕ → Bool
is_triggered i q always x = true
is_triggered i q (names ps) x = holds_at i q ps x
is_triggered i q (edge s) x = nat_le 1 (out_degree i s x)
is_triggered i q (end_of s) x = nat_le 1 (in_degree i s x)

-- each element at which the trigger holds is in the concept
abbrev pub meets_row : Interpretation → Part → Trigger → Concept → Bool
meets_row i q t c = all_below i.size (λ x. implies (is_triggered i q t x) (holds i c x))

-- the row has a concept, and is met
abbrev pub meets_row_if : Interpretation → Part → Trigger → Option Concept → Bool
meets_row_if i q t None = false
meets_row_if i q t (Some c) = meets_row i q t c

-- What an axiom says of each element by itself and which elements can break it, and what an assertion says.
use Rattle.std.specs.Prelude.{ℕ, Bool, true, false, ◌&&◌, ◌||◌, nat_le, List, slice_index}
use Rattle.std.specs.List.{list_all, list_any}
use Rattle.shq_terms.specs.Concept.{Concept, parts_of}
use Rattle.shq_meaning.specs.Below.{all_below}
use Rattle.shq_meaning.specs.Truth.{Interpretation, implies, same, holds, hold_any, each_successor, all_same}
use Rattle.shq_meaning.specs.Truth.{none_twice, out_degree, are_same, are_different, is_asked_at}
use Rattle.shq_terms.specs.declared.axioms.Axiom.{Axiom}
use Rattle.shq_terms.specs.declared.axioms.Axiom.TheVariants.{SubClassOf, EquivalentClasses, DisjointClasses}
use Rattle.shq_terms.specs.declared.axioms.Axiom.TheVariants.{DisjointUnion, SubRole, EquivalentRoles, Domain, Range}
use Rattle.shq_terms.specs.declared.axioms.Axiom.TheVariants.{Functional, Transitive, Member, Pair, SameAll, Different}
use Rattle.shq_terms.specs.declared.axioms.Query.{Query}
use Rattle.finite_model.specs.ModelLists.{ModelLists, meaning, begins}

-- the element is in the whole where it is in a part, and in at most one part
abbrev pub is_split : Interpretation → Concept → List Concept → ℕ → Bool
is_split i a cs x = same (holds i a x) (hold_any i (parts_of cs) x) && none_twice i cs x

-- the element is in the whole or in a part
abbrev pub in_whole_or_part : Interpretation → Concept → List Concept → ℕ → Bool
in_whole_or_part i a cs x = holds i a x || hold_any i (parts_of cs) x

-- each successor of y in the role r is one of x in the role s
abbrev pub row_within : Interpretation → ℕ → ℕ → ℕ → ℕ → Bool
row_within i r y s x = all_below i.size (λ z. implies (i.in_role r y z) (i.in_role s x z))

-- the element has the same successors in all of the roles
abbrev pub rows_equal : Interpretation → List ℕ → ℕ → Bool
rows_equal i rs x = list_all (λ s. row_within i (slice_index rs 0) x s x && row_within i s x (slice_index rs 0) x) rs

-- each successor of the element hands its own successors on to it
abbrev pub row_is_transitive : Interpretation → ℕ → ℕ → Bool
row_is_transitive i r x = all_below i.size (λ y. implies (i.in_role r x y) (row_within i r y r x))

-- the axiom is met at the element; assertions say nothing of an element by itself
abbrev pub met_at : Interpretation → Axiom → ℕ → Bool
met_at i (SubClassOf c d) x = implies (holds i c x) (holds i d x)
met_at i (EquivalentClasses cs) x = all_same i cs x
met_at i (DisjointClasses cs) x = none_twice i cs x
met_at i (DisjointUnion a cs) x = is_split i a cs x
met_at i (SubRole r s) x = row_within i r x s x
met_at i (EquivalentRoles rs) x = rows_equal i rs x
met_at i (Domain r c) x = implies (nat_le 1 (out_degree i r x)) (holds i c x)
met_at i (Range r c) x = each_successor i r (holds i c) x
met_at i (Functional r) x = nat_le (out_degree i r x) 1
met_at i (Transitive r) x = row_is_transitive i r x
met_at i (Member c a) x = true
met_at i (Pair r a b) x = true
met_at i (SameAll as_) x = true
met_at i (Different as_) x = true

-- the assertion is met; other axioms assert nothing of individuals
abbrev pub assertion_is_met : Interpretation → Axiom → Bool
assertion_is_met i (SubClassOf c d) = true
assertion_is_met i (EquivalentClasses cs) = true
assertion_is_met i (DisjointClasses cs) = true
assertion_is_met i (DisjointUnion a cs) = true
assertion_is_met i (SubRole r s) = true
assertion_is_met i (EquivalentRoles rs) = true
assertion_is_met i (Domain r c) = true
assertion_is_met i (Range r c) = true
assertion_is_met i (Functional r) = true
assertion_is_met i (Transitive r) = true
assertion_is_met i (Member c a) = holds i c (i.individual a)
assertion_is_met i (Pair r a b) = i.in_role r (i.individual a) (i.individual b)
assertion_is_met i (SameAll as_) = are_same i as_
assertion_is_met i (Different as_) = are_different i as_

-- some pair of one of the roles begins with the element
abbrev pub begins_any : ModelLists → List ℕ → ℕ → Bool
begins_any k rs x = list_any (λ r. begins k r x) rs

-- the element is in a class expression, or begins a pair of a role, without which the axiom is met at it
abbrev pub can_break : ModelLists → Axiom → ℕ → Bool
can_break k (SubClassOf c d) x = holds (meaning k) c x
can_break k (EquivalentClasses cs) x = hold_any (meaning k) (parts_of cs) x
can_break k (DisjointClasses cs) x = hold_any (meaning k) (parts_of cs) x
can_break k (DisjointUnion a cs) x = in_whole_or_part (meaning k) a cs x
can_break k (SubRole r s) x = begins k r x
can_break k (EquivalentRoles rs) x = begins_any k rs x
can_break k (Domain r c) x = begins k r x
can_break k (Range r c) x = begins k r x
can_break k (Functional r) x = begins k r x
can_break k (Transitive r) x = begins k r x
can_break k (Member c a) x = false
can_break k (Pair r a b) x = false
can_break k (SameAll as_) x = false
can_break k (Different as_) x = false

-- the query speaks of the element, and the element is in its left side
abbrev pub can_refute : Interpretation → Query → ℕ → Bool
can_refute i q x = is_asked_at i q.on x && holds i q.sub x

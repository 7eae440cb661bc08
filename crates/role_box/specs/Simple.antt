-- Simple roles by all axioms of an ontology, and the axioms that count other roles.
use Rattle.std.specs.Prelude.{◌≡◌, ℕ, Bool, true, false, ◌&&◌, not, List, length, Option, None, Some}
use Rattle.std.specs.List.{list_all, find, range_with_len}
use Rattle.std.specs.Option.{option_map}
use Rattle.shq_terms.specs.declared.axioms.Axiom.{Axiom}
use Rattle.shq_terms.specs.declared.axioms.Axiom.TheVariants.{SubClassOf, EquivalentClasses, DisjointClasses}
use Rattle.shq_terms.specs.declared.axioms.Axiom.TheVariants.{DisjointUnion, SubRole, EquivalentRoles, Domain, Range}
use Rattle.shq_terms.specs.declared.axioms.Axiom.TheVariants.{Functional, Transitive, Member, Pair, SameAll, Different}
use Rattle.shq_terms.specs.declared.axioms.Numbered.{Numbered}
use Rattle.role_box.specs.declared.role_axiom.RoleAxiom.{RoleAxiom}
use Rattle.role_box.specs.RoleAxioms.{role_axioms}
use Rattle.role_box.specs.Steps.{is_transitive}
use Rattle.role_box.specs.Paths.{role_limit, is_below}
use Rattle.role_box.specs.Closure.{any_below}
use Rattle.role_box.specs.Counted.{counted_by}

-- whether no role that one of the axioms makes transitive is below the role
unfoldable pub is_simple : List RoleAxiom → ℕ → Bool
is_simple axioms s = not (any_below (role_limit axioms) (λ t. is_transitive axioms t && is_below axioms t s))

-- the role axioms of an ontology with these axioms
abbrev pub all_role_axioms : List Numbered → List RoleAxiom
all_role_axioms axioms = role_axioms axioms (range_with_len 1 (length axioms))

-- whether each of the roles is simple
abbrev pub are_simple : List RoleAxiom → List ℕ → Bool
are_simple roles rs = list_all (is_simple roles) rs

-- whether each role that the axiom counts is simple
abbrev pub counts_simple : List RoleAxiom → Numbered → Bool
counts_simple roles n = are_simple roles (counted_by n.axiom)

-- the line of the first of these axioms that counts a role which is not simple
abbrev pub first_not_simple : List RoleAxiom → List Numbered → Option ℕ
first_not_simple roles axioms = option_map (λ (n : Numbered). n.line) (find (λ n. not (counts_simple roles n)) axioms)

-- the same by all role axioms of an ontology with these axioms
abbrev pub line_not_simple : List Numbered → Option ℕ
line_not_simple axioms = first_not_simple (all_role_axioms axioms) axioms

-- each of the roles is simple by all axioms
abbrev pub are_simple_by : List Numbered → List ℕ → Bool
are_simple_by axioms rs = are_simple (all_role_axioms axioms) rs

-- ---- what a function is given of the roles

-- the axiom makes a role transitive
abbrev pub is_transitivity : Axiom → Bool
is_transitivity (SubClassOf c d) = false
is_transitivity (EquivalentClasses cs) = false
is_transitivity (DisjointClasses cs) = false
is_transitivity (DisjointUnion c cs) = false
is_transitivity (SubRole r s) = false
is_transitivity (EquivalentRoles rs) = false
is_transitivity (Domain r c) = false
is_transitivity (Range r c) = false
is_transitivity (Functional r) = false
is_transitivity (Transitive r) = true
is_transitivity (Member c a) = false
is_transitivity (Pair r a b) = false
is_transitivity (SameAll as_) = false
is_transitivity (Different as_) = false

-- the role axioms of an ontology, or nothing where they make no role transitive: each role is simple then
abbrev pub AreRolesOf : List Numbered → Option (List RoleAxiom) → Type 0
AreRolesOf axioms None = (r : ℕ) → is_simple (all_role_axioms axioms) r ≡ true
AreRolesOf axioms (Some roles) = roles ≡ all_role_axioms axioms

-- whether each of the roles is simple, and the line of the first axiom that counts another one, by what is given
abbrev pub are_simple_in : Option (List RoleAxiom) → List ℕ → Bool
are_simple_in None rs = true
are_simple_in (Some roles) rs = are_simple roles rs

-- the line of the first axiom that counts a role which is not simple, where roles have to be looked at
abbrev pub line_in : Option (List RoleAxiom) → List Numbered → Option ℕ
line_in None axioms = None
line_in (Some roles) axioms = first_not_simple roles axioms

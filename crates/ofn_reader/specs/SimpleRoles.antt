-- Which roles are simple by role axioms and one axiom more, told by those alone.
use Rattle.std.specs.Prelude.{ℕ, Bool, true, ◌&&◌, ◌||◌, not, List}
use Rattle.std.specs.List.{list_all, list_any}
use Rattle.shq_terms.specs.declared.axioms.Axiom.{Axiom}
use Rattle.shq_terms.specs.declared.axioms.Axiom.TheVariants.{SubClassOf, EquivalentClasses, DisjointClasses}
use Rattle.shq_terms.specs.declared.axioms.Axiom.TheVariants.{DisjointUnion, SubRole, EquivalentRoles, Domain, Range}
use Rattle.shq_terms.specs.declared.axioms.Axiom.TheVariants.{Functional, Transitive, Member, Pair, SameAll, Different}
use Rattle.role_box.specs.declared.role_axiom.RoleAxiom.{RoleAxiom}
use Rattle.role_box.specs.Paths.{is_below}
use Rattle.role_box.specs.Simple.{is_simple}

-- where these are made equivalent, no new way leads to t from a role that is not simple
abbrev pub joins_simple : List RoleAxiom → List ℕ → ℕ → Bool
joins_simple roles rs t = list_all (is_simple roles) rs || not (list_any (λ r. is_below roles r t) rs)

-- the axiom leaves t simple
abbrev pub leaves_simple : List RoleAxiom → Axiom → ℕ → Bool
leaves_simple roles (SubClassOf c d) t = true
leaves_simple roles (EquivalentClasses cs) t = true
leaves_simple roles (DisjointClasses cs) t = true
leaves_simple roles (DisjointUnion c cs) t = true
leaves_simple roles (SubRole r s) t = is_simple roles r || not (is_below roles s t)
leaves_simple roles (EquivalentRoles rs) t = joins_simple roles rs t
leaves_simple roles (Domain r c) t = true
leaves_simple roles (Range r c) t = true
leaves_simple roles (Functional r) t = true
leaves_simple roles (Transitive r) t = not (is_below roles r t)
leaves_simple roles (Member c a) t = true
leaves_simple roles (Pair r a b) t = true
leaves_simple roles (SameAll as_) t = true
leaves_simple roles (Different as_) t = true

-- the role is simple by these axioms of roles and one axiom more
abbrev pub simple_with : List RoleAxiom → Axiom → ℕ → Bool
simple_with roles a t = is_simple roles t && leaves_simple roles a t

-- What the axioms of some numbers say of roles alone.
use Rattle.std.specs.Prelude.{ℕ, ◌-◌, List, [], ◌∷◌, ◌++◌, Option, None, Some, slice_get}
use Rattle.shq_terms.specs.declared.axioms.Axiom.{Axiom}
use Rattle.shq_terms.specs.declared.axioms.Axiom.TheVariants.{SubClassOf, EquivalentClasses, DisjointClasses}
use Rattle.shq_terms.specs.declared.axioms.Axiom.TheVariants.{DisjointUnion, SubRole, EquivalentRoles, Domain, Range}
use Rattle.shq_terms.specs.declared.axioms.Axiom.TheVariants.{Functional, Transitive, Member, Pair, SameAll, Different}
use Rattle.shq_terms.specs.declared.axioms.Numbered.{Numbered}
use Rattle.role_box.specs.declared.role_axiom.RoleAxiom.{RoleAxiom}
use Rattle.role_box.specs.declared.role_axiom.RoleAxiom.TheVariants.{Inclusion, Equivalence, Transitivity}

-- an axiom as a role axiom, in a list of one; the axioms of other kinds give none
abbrev pub role_part : Axiom → List RoleAxiom
role_part (SubClassOf c d) = []
role_part (EquivalentClasses cs) = []
role_part (DisjointClasses cs) = []
role_part (DisjointUnion c cs) = []
role_part (SubRole r s) = Inclusion r s ∷ []
role_part (EquivalentRoles rs) = Equivalence rs ∷ []
role_part (Domain r c) = []
role_part (Range r c) = []
role_part (Functional r) = []
role_part (Transitive r) = Transitivity r ∷ []
role_part (Member c a) = []
role_part (Pair r a b) = []
role_part (SameAll as_) = []
role_part (Different as_) = []

-- what an axiom says of roles, where there is one
abbrev pub role_part_at : Option Numbered → List RoleAxiom
role_part_at None = []
role_part_at (Some n) = role_part n.axiom

-- the role axioms among the axioms of these numbers, which count from 1
abbrev pub role_axioms : List Numbered → List ℕ → List RoleAxiom
role_axioms axioms [] = []
role_axioms axioms (k ∷ ks) = role_part_at (slice_get axioms (k - 1)) ++ role_axioms axioms ks

-- The roles that number restrictions are over (OWL 2 Structural Specification, section 8.3).
use Rattle.std.specs.Prelude.{ℕ, List, [], ◌∷◌, ◌++◌}
use Rattle.shq_terms.specs.Concept.{Concept, top, bottom, name, complement, intersection, union, some_of, all_of}
use Rattle.shq_terms.specs.Concept.{at_least, at_most, exactly, Parts, no_parts, part, parts_of}
use Rattle.shq_terms.specs.declared.axioms.Axiom.{Axiom}
use Rattle.shq_terms.specs.declared.axioms.Axiom.TheVariants.{SubClassOf, EquivalentClasses, DisjointClasses}
use Rattle.shq_terms.specs.declared.axioms.Axiom.TheVariants.{DisjointUnion, SubRole, EquivalentRoles, Domain, Range}
use Rattle.shq_terms.specs.declared.axioms.Axiom.TheVariants.{Functional, Transitive, Member, Pair, SameAll, Different}
use Rattle.shq_terms.specs.declared.axioms.Query.{Query}

-- the roles of the cardinalities in a class expression, at any depth and whatever their numbers are
abbrev mutual
  pub counted_roles : Concept → List ℕ
  counted_roles top = []
  counted_roles bottom = []
  counted_roles (name a) = []
  counted_roles (complement c) = counted_roles c
  counted_roles (intersection cs) = counted_in cs
  counted_roles (union cs) = counted_in cs
  counted_roles (some_of r c) = counted_roles c
  counted_roles (all_of r c) = counted_roles c
  counted_roles (at_least n r c) = r ∷ counted_roles c
  counted_roles (at_most n r c) = r ∷ counted_roles c
  counted_roles (exactly n r c) = r ∷ counted_roles c

  pub counted_in : Parts → List ℕ
  counted_in no_parts = []
  counted_in (part c cs) = counted_roles c ++ counted_in cs

-- the same of an axiom, in which a functional role is counted too
abbrev pub counted_by : Axiom → List ℕ
counted_by (SubClassOf c d) = counted_roles c ++ counted_roles d
counted_by (EquivalentClasses cs) = counted_in (parts_of cs)
counted_by (DisjointClasses cs) = counted_in (parts_of cs)
counted_by (DisjointUnion c cs) = counted_roles c ++ counted_in (parts_of cs)
counted_by (SubRole r s) = []
counted_by (EquivalentRoles rs) = []
counted_by (Domain r c) = counted_roles c
counted_by (Range r c) = counted_roles c
counted_by (Functional r) = r ∷ []
counted_by (Transitive r) = []
counted_by (Member c a) = counted_roles c
counted_by (Pair r a b) = []
counted_by (SameAll as_) = []
counted_by (Different as_) = []

-- the roles that number restrictions on either side of a query are over
abbrev pub counted_by_query : Query → List ℕ
counted_by_query q = counted_roles q.sub ++ counted_roles q.sup

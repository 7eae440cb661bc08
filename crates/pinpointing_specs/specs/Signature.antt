-- The signature of class expressions, axioms and queries: the names of classes and roles that stand in them.
-- Individuals are no part of it.
use Rattle.std.specs.Prelude.{Bool, false, eqb, List, [], ◌∷◌, ◌++◌, map}
use Rattle.std.specs.List.{list_any}
use Rattle.shq_meaning.specs.Concept.{Concept, top, bottom, name, complement, intersection, union, some_of, all_of}
use Rattle.shq_meaning.specs.Concept.{at_least, at_most, exactly, Parts, no_parts, part, parts_of}
use Rattle.shq_meaning.specs.Axiom.{Axiom}
use Rattle.shq_meaning.specs.Axiom.TheVariants.{SubClassOf, EquivalentClasses, DisjointClasses}
use Rattle.shq_meaning.specs.Axiom.TheVariants.{DisjointUnion, SubRole, EquivalentRoles, Domain, Range}
use Rattle.shq_meaning.specs.Axiom.TheVariants.{Functional, Transitive, Member, Pair, SameAll, Different}
use Rattle.shq_meaning.specs.Query.{Query}
use Rattle.pinpointing_specs.specs.declared.module_laws.Name.{Name}
use Rattle.pinpointing_specs.specs.declared.module_laws.Name.TheVariants.{Class, Role}

-- the two names are the same
abbrev pub same_name : Name → Name → Bool
same_name (Class a) (Class b) = eqb a b
same_name (Class a) (Role s) = false
same_name (Role r) (Class b) = false
same_name (Role r) (Role s) = eqb r s

-- the name is one of these
abbrev pub is_among : List Name → Name → Bool
is_among names n = list_any (same_name n) names

-- the names in order, each as often as it stands there
abbrev mutual
  pub concept_names : Concept → List Name
  concept_names top = []
  concept_names bottom = []
  concept_names (name a) = Class a ∷ []
  concept_names (complement c) = concept_names c
  concept_names (intersection cs) = parts_names cs
  concept_names (union cs) = parts_names cs
  concept_names (some_of r c) = Role r ∷ concept_names c
  concept_names (all_of r c) = Role r ∷ concept_names c
  concept_names (at_least n r c) = Role r ∷ concept_names c
  concept_names (at_most n r c) = Role r ∷ concept_names c
  concept_names (exactly n r c) = Role r ∷ concept_names c

  pub parts_names : Parts → List Name
  parts_names no_parts = []
  parts_names (part c cs) = concept_names c ++ parts_names cs

-- the names of classes and roles that stand in an axiom
abbrev pub axiom_names : Axiom → List Name
axiom_names (SubClassOf c d) = concept_names c ++ concept_names d
axiom_names (EquivalentClasses cs) = parts_names (parts_of cs)
axiom_names (DisjointClasses cs) = parts_names (parts_of cs)
axiom_names (DisjointUnion c cs) = concept_names c ++ parts_names (parts_of cs)
axiom_names (SubRole r s) = Role r ∷ Role s ∷ []
axiom_names (EquivalentRoles rs) = map Role rs
axiom_names (Domain r c) = Role r ∷ concept_names c
axiom_names (Range r c) = Role r ∷ concept_names c
axiom_names (Functional r) = Role r ∷ []
axiom_names (Transitive r) = Role r ∷ []
axiom_names (Member c a) = concept_names c
axiom_names (Pair r a b) = Role r ∷ []
axiom_names (SameAll as_) = []
axiom_names (Different as_) = []

-- the names of classes and roles that stand in a query
abbrev pub query_names : Query → List Name
query_names q = concept_names q.sub ++ concept_names q.sup

-- Small expressions, axioms and ontologies.
use Rattle.std.specs.Prelude.{ℕ, List, [], ◌∷◌, ◌++◌, codes}
use Rattle.shq_terms.specs.Concept.{Concept, top, bottom, name, complement, intersection, union, some_of, all_of}
use Rattle.shq_terms.specs.Concept.{at_least, at_most, exactly, parts_of}
use Rattle.shq_terms.specs.Listed.{Listed}
use Rattle.ofn_writer.specs.Canonical.{line}
use Rattle.shq_terms.specs.declared.axioms.Axiom.{Axiom}
use Rattle.shq_terms.specs.declared.axioms.Axiom.TheVariants.{SubClassOf, EquivalentClasses, DisjointClasses}
use Rattle.shq_terms.specs.declared.axioms.Axiom.TheVariants.{DisjointUnion, SubRole, EquivalentRoles, Domain, Range}
use Rattle.shq_terms.specs.declared.axioms.Axiom.TheVariants.{Functional, Transitive, Member, Pair, SameAll, Different}

-- classes A and B, roles R and S, individuals a and b
abbrev pub names : Listed
names = record {
  axioms = [];
  classes = codes "A" ∷ codes "B" ∷ [];
  roles = codes "R" ∷ codes "S" ∷ [];
  individuals = codes "a" ∷ codes "b" ∷ [];
}

-- exactly 20 S of A and not B
abbrev pub exactly_twenty : Concept
exactly_twenty = exactly 20 1 (intersection (parts_of (name 0 ∷ complement (name 1) ∷ [])))

-- its text
abbrev pub exactly_twenty_text : List ℕ
exactly_twenty_text = codes "ObjectExactCardinality(20 <S> ObjectIntersectionOf(<A> ObjectComplementOf(<B>)))"

-- all R of nothing, or of what has no R
abbrev pub all_but : Concept
all_but = all_of 0 (union (parts_of (bottom ∷ at_most 0 0 top ∷ [])))

-- its text
abbrev pub all_but_text : List ℕ
all_but_text = codes "ObjectAllValuesFrom(<R> ObjectUnionOf(owl:Nothing ObjectMaxCardinality(0 <R> owl:Thing)))"

-- an inclusion in at least 0, which holds of everything
abbrev pub wide : Axiom
wide = SubClassOf (name 1) (at_least 0 1 (name 0))

-- a class that is equivalent to nothing
abbrev pub nothing : Axiom
nothing = EquivalentClasses (bottom ∷ name 1 ∷ [])

-- disjoint classes, one of them twice
abbrev pub apart : Axiom
apart = DisjointClasses (name 0 ∷ name 1 ∷ name 1 ∷ [])

-- a disjoint union of a name and a restriction
abbrev pub split : Axiom
split = DisjointUnion (name 0) (name 1 ∷ some_of 0 (name 0) ∷ [])

-- an inclusion of roles
abbrev pub lower : Axiom
lower = SubRole 1 0

-- equivalent roles, one of them twice
abbrev pub equal : Axiom
equal = EquivalentRoles (0 ∷ 1 ∷ 0 ∷ [])

-- a domain
abbrev pub left : Axiom
left = Domain 0 (name 1)

-- a range
abbrev pub right : Axiom
right = Range 1 top

-- a functional role
abbrev pub single : Axiom
single = Functional 1

-- an individual in a restriction
abbrev pub inside : Axiom
inside = Member (some_of 0 (name 1)) 1

-- a role from one individual to another
abbrev pub joined : Axiom
joined = Pair 1 0 1

-- individuals that are the same, one of them twice
abbrev pub one : Axiom
one = SameAll (1 ∷ 0 ∷ 0 ∷ [])

-- individuals that are different
abbrev pub two : Axiom
two = Different (0 ∷ 1 ∷ [])

-- three axioms over classes A and B, a role R and an individual a
abbrev pub small : Listed
small = record {
  axioms = record { «axiom» = SubClassOf (name 1) (name 0); line = 3 } ∷ record { «axiom» = Transitive 0; line = 7 }
      ∷ record { «axiom» = Member (name 0) 0; line = 8 } ∷ [];
  classes = codes "A" ∷ codes "B" ∷ [];
  roles = codes "R" ∷ [];
  individuals = codes "a" ∷ [];
}

-- the text of a small ontology
abbrev pub small_text : List ℕ
small_text =
    line (codes "Ontology(")
    ++ line (codes "Declaration(Class(<A>))")
    ++ line (codes "Declaration(Class(<B>))")
    ++ line (codes "Declaration(ObjectProperty(<R>))")
    ++ line (codes "Declaration(NamedIndividual(<a>))")
    ++ line (codes "SubClassOf(<B> <A>)")
    ++ line (codes "TransitiveObjectProperty(<R>)")
    ++ line (codes "ClassAssertion(<A> <a>)")
    ++ line (codes ")")

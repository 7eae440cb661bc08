-- The canonical text of class expressions, axioms and ontologies (OWL 2 Structural Specification, sections 8 and 9, in
-- functional-style syntax): full IRIs, one blank between items, the filler of a cardinality always written.
use Rattle.std.specs.Prelude.{ℕ, List, [], ◌∷◌, ◌++◌, codes, decimal, slice_index_or}
use Rattle.shq_terms.specs.Concept.{Concept, top, bottom, name, complement, intersection, union, some_of, all_of}
use Rattle.shq_terms.specs.Concept.{at_least, at_most, exactly, Parts, no_parts, part, parts_of}
use Rattle.shq_terms.specs.Listed.{Listed}
use Rattle.shq_terms.specs.declared.axioms.Axiom.{Axiom}
use Rattle.shq_terms.specs.declared.axioms.Axiom.TheVariants.{SubClassOf, EquivalentClasses, DisjointClasses}
use Rattle.shq_terms.specs.declared.axioms.Axiom.TheVariants.{DisjointUnion, SubRole, EquivalentRoles, Domain, Range}
use Rattle.shq_terms.specs.declared.axioms.Axiom.TheVariants.{Functional, Transitive, Member, Pair, SameAll, Different}
use Rattle.shq_terms.specs.declared.axioms.Numbered.{Numbered}

-- an IRI between `<` and `>`
abbrev pub iri_text : List ℕ → List ℕ
iri_text iri = 60 ∷ (iri ++ 62 ∷ [])

-- the text of a class: its IRI
abbrev pub class_text : Listed → ℕ → List ℕ
class_text o a = iri_text (slice_index_or o.classes a [])

-- the text of a role: its IRI
abbrev pub role_text : Listed → ℕ → List ℕ
role_text o r = iri_text (slice_index_or o.roles r [])

-- the text of an individual: its IRI
abbrev pub individual_text : Listed → ℕ → List ℕ
individual_text o a = iri_text (slice_index_or o.individuals a [])

-- items with one blank in front of each
abbrev pub spaced : List (List ℕ) → List ℕ
spaced [] = []
spaced (t ∷ ts) = 32 ∷ (t ++ spaced ts)

-- items with one blank between
abbrev pub items_text : List (List ℕ) → List ℕ
items_text [] = []
items_text (t ∷ ts) = t ++ spaced ts

-- a keyword and its items
abbrev pub group_text : List ℕ → List (List ℕ) → List ℕ
group_text keyword items = keyword ++ (40 ∷ (items_text items ++ 41 ∷ []))

abbrev mutual
  -- the canonical text of a class expression
  pub concept_text : Listed → Concept → List ℕ
  concept_text o top = codes "owl:Thing"
  concept_text o bottom = codes "owl:Nothing"
  concept_text o (name a) = class_text o a
  concept_text o (complement c) = group_text (codes "ObjectComplementOf") (concept_text o c ∷ [])
  concept_text o (intersection cs) = group_text (codes "ObjectIntersectionOf") (part_texts o cs)
  concept_text o (union cs) = group_text (codes "ObjectUnionOf") (part_texts o cs)
  concept_text o (some_of r c) = group_text (codes "ObjectSomeValuesFrom") (role_text o r ∷ concept_text o c ∷ [])
  concept_text o (all_of r c) = group_text (codes "ObjectAllValuesFrom") (role_text o r ∷ concept_text o c ∷ [])
  concept_text o (at_least n r c) =
      group_text (codes "ObjectMinCardinality") (decimal n ∷ role_text o r ∷ concept_text o c ∷ [])
  concept_text o (at_most n r c) =
      group_text (codes "ObjectMaxCardinality") (decimal n ∷ role_text o r ∷ concept_text o c ∷ [])
  concept_text o (exactly n r c) =
      group_text (codes "ObjectExactCardinality") (decimal n ∷ role_text o r ∷ concept_text o c ∷ [])

  -- the canonical text of each part, in order
  pub part_texts : Listed → Parts → List (List ℕ)
  part_texts o no_parts = []
  part_texts o (part c cs) = concept_text o c ∷ part_texts o cs

-- the texts of class expressions
abbrev pub class_texts : Listed → List Concept → List (List ℕ)
class_texts o cs = part_texts o (parts_of cs)

-- the items of a restriction: its role and its filler
abbrev pub restriction_items : Listed → ℕ → Concept → List (List ℕ)
restriction_items o r c = role_text o r ∷ concept_text o c ∷ []

-- the items of a cardinality restriction: its number, its role and its filler
abbrev pub bounded_items : Listed → ℕ → ℕ → Concept → List (List ℕ)
bounded_items o n r c = decimal n ∷ restriction_items o r c

-- the text of each role, in order
abbrev pub role_texts : Listed → List ℕ → List (List ℕ)
role_texts o [] = []
role_texts o (r ∷ rs) = role_text o r ∷ role_texts o rs

-- the text of each individual, in order
abbrev pub individual_texts : Listed → List ℕ → List (List ℕ)
individual_texts o [] = []
individual_texts o (a ∷ as_) = individual_text o a ∷ individual_texts o as_

-- the canonical text of an axiom
abbrev pub axiom_text : Listed → Axiom → List ℕ
axiom_text o (SubClassOf c d) = group_text (codes "SubClassOf") (concept_text o c ∷ concept_text o d ∷ [])
axiom_text o (EquivalentClasses cs) = group_text (codes "EquivalentClasses") (part_texts o (parts_of cs))
axiom_text o (DisjointClasses cs) = group_text (codes "DisjointClasses") (part_texts o (parts_of cs))
axiom_text o (DisjointUnion c cs) = group_text (codes "DisjointUnion") (concept_text o c ∷ part_texts o (parts_of cs))
axiom_text o (SubRole r s) = group_text (codes "SubObjectPropertyOf") (role_text o r ∷ role_text o s ∷ [])
axiom_text o (EquivalentRoles rs) = group_text (codes "EquivalentObjectProperties") (role_texts o rs)
axiom_text o (Domain r c) = group_text (codes "ObjectPropertyDomain") (role_text o r ∷ concept_text o c ∷ [])
axiom_text o (Range r c) = group_text (codes "ObjectPropertyRange") (role_text o r ∷ concept_text o c ∷ [])
axiom_text o (Functional r) = group_text (codes "FunctionalObjectProperty") (role_text o r ∷ [])
axiom_text o (Transitive r) = group_text (codes "TransitiveObjectProperty") (role_text o r ∷ [])
axiom_text o (Member c a) = group_text (codes "ClassAssertion") (concept_text o c ∷ individual_text o a ∷ [])
axiom_text o (Pair r a b) =
    group_text (codes "ObjectPropertyAssertion") (role_text o r ∷ individual_text o a ∷ individual_text o b ∷ [])
axiom_text o (SameAll as_) = group_text (codes "SameIndividual") (individual_texts o as_)
axiom_text o (Different as_) = group_text (codes "DifferentIndividuals") (individual_texts o as_)

-- a text and the line feed that ends its line
abbrev pub line : List ℕ → List ℕ
line text = text ++ 10 ∷ []

-- the declaration of an IRI as a class, an object property or a named individual
abbrev pub declaration_text : List ℕ → List ℕ → List ℕ
declaration_text kind iri = group_text (codes "Declaration") (group_text kind (iri_text iri ∷ []) ∷ [])

-- a line for each name, which declares it as an entity of this kind
abbrev pub declaration_lines : List ℕ → List (List ℕ) → List ℕ
declaration_lines kind [] = []
declaration_lines kind (iri ∷ iris) = line (declaration_text kind iri) ++ declaration_lines kind iris

-- a line for each axiom, in order
abbrev pub axiom_lines : Listed → List Numbered → List ℕ
axiom_lines o [] = []
axiom_lines o (a ∷ as_) = line (axiom_text o a.axiom) ++ axiom_lines o as_

-- a document: the declarations of the classes, of the roles and of the individuals in list order, and the axioms
abbrev pub ontology_text : Listed → List ℕ
ontology_text o =
    line (codes "Ontology(")
    ++ (declaration_lines (codes "Class") o.classes
    ++ (declaration_lines (codes "ObjectProperty") o.roles
    ++ (declaration_lines (codes "NamedIndividual") o.individuals ++ (axiom_lines o o.axioms ++ line (codes ")")))))

-- What the axioms of an ontology come to in the counts of a reader: their class expressions, and their parts.
use Rattle.std.specs.Prelude.{ℕ, ◌+◌, min, List, [], ◌∷◌, length}
use Rattle.shq_terms.specs.Concept.{Concept, top, bottom, name, complement, intersection, union, some_of, all_of}
use Rattle.shq_terms.specs.Concept.{at_least, at_most, exactly, Parts, no_parts, part, parts_of}
use Rattle.shq_terms.specs.Listed.{Listed}
use Rattle.shq_terms.specs.declared.axioms.Axiom.{Axiom}
use Rattle.shq_terms.specs.declared.axioms.Axiom.TheVariants as A
use Rattle.shq_terms.specs.declared.axioms.Numbered.{Numbered}
use Rattle.ofn_expressions.specs.Counts.{Counts}
use Rattle.ofn_reader.specs.Axioms.{parts_by_item_count}
use Rattle.ofn_reader.specs.declared.keywords.AxiomKind.{AxiomKind}
use Rattle.ofn_reader.specs.declared.keywords.AxiomKind.TheVariants as K

-- ---- class expressions

-- how many class expressions there are in one, itself among them
abbrev mutual
  pub expressions : Concept → ℕ
  expressions top = 1
  expressions bottom = 1
  expressions (name a) = 1
  expressions (complement c) = 1 + expressions c
  expressions (intersection cs) = 1 + all_expressions cs
  expressions (union cs) = 1 + all_expressions cs
  expressions (some_of r c) = 1 + expressions c
  expressions (all_of r c) = 1 + expressions c
  expressions (at_least n r c) = 1 + expressions c
  expressions (at_most n r c) = 1 + expressions c
  expressions (exactly n r c) = 1 + expressions c

  pub all_expressions : Parts → ℕ
  all_expressions no_parts = 0
  all_expressions (part c cs) = expressions c + all_expressions cs

-- the same in an axiom; the class of a disjoint union is a name
abbrev pub axiom_expressions : Axiom → ℕ
axiom_expressions (A.SubClassOf c d) = expressions c + expressions d
axiom_expressions (A.EquivalentClasses cs) = all_expressions (parts_of cs)
axiom_expressions (A.DisjointClasses cs) = all_expressions (parts_of cs)
axiom_expressions (A.DisjointUnion c cs) = 1 + all_expressions (parts_of cs)
axiom_expressions (A.SubRole r s) = 0
axiom_expressions (A.EquivalentRoles rs) = 0
axiom_expressions (A.Domain r c) = expressions c
axiom_expressions (A.Range r c) = expressions c
axiom_expressions (A.Functional r) = 0
axiom_expressions (A.Transitive r) = 0
axiom_expressions (A.Member c a) = expressions c
axiom_expressions (A.Pair r a b) = 0
axiom_expressions (A.SameAll as_) = 0
axiom_expressions (A.Different as_) = 0

-- how many class expressions axioms have together
abbrev pub expression_count : List Numbered → ℕ
expression_count [] = 0
expression_count (a ∷ more) = axiom_expressions a.axiom + expression_count more

-- ---- parts

-- the kind of an axiom
abbrev pub kind_of : Axiom → AxiomKind
kind_of (A.SubClassOf c d) = K.SubClassOf
kind_of (A.EquivalentClasses cs) = K.EquivalentClasses
kind_of (A.DisjointClasses cs) = K.DisjointClasses
kind_of (A.DisjointUnion c cs) = K.DisjointUnion
kind_of (A.SubRole r s) = K.SubRole
kind_of (A.EquivalentRoles rs) = K.EquivalentRoles
kind_of (A.Domain r c) = K.Domain
kind_of (A.Range r c) = K.Range
kind_of (A.Functional r) = K.Functional
kind_of (A.Transitive r) = K.Transitive
kind_of (A.Member c a) = K.Member
kind_of (A.Pair r a b) = K.Pair
kind_of (A.SameAll as_) = K.SameAll
kind_of (A.Different as_) = K.Different

-- how many items an axiom is written with, besides annotations
abbrev pub items_in : Axiom → ℕ
items_in (A.SubClassOf c d) = 2
items_in (A.EquivalentClasses cs) = length cs
items_in (A.DisjointClasses cs) = length cs
items_in (A.DisjointUnion c cs) = length cs + 1
items_in (A.SubRole r s) = 2
items_in (A.EquivalentRoles rs) = length rs
items_in (A.Domain r c) = 2
items_in (A.Range r c) = 2
items_in (A.Functional r) = 1
items_in (A.Transitive r) = 1
items_in (A.Member c a) = 2
items_in (A.Pair r a b) = 3
items_in (A.SameAll as_) = length as_
items_in (A.Different as_) = length as_

-- how many parts were counted for an axiom, and for axioms together
abbrev pub parts_in : Axiom → ℕ
parts_in a = parts_by_item_count (kind_of a) (items_in a)

-- how many parts and facts the axioms have together
abbrev pub parts_held : List Numbered → ℕ
parts_held [] = 0
parts_held (a ∷ more) = parts_in a.axiom + parts_held more

-- ---- counts

-- The counts of a reader that goes on from an ontology: what its axioms hold, and its names. An ontology that holds
-- more than a document may have, as none that was read does, has no room left.
abbrev pub counts_of : Listed → Counts
counts_of o = record {
  axioms = length o.axioms;
  parts = min (parts_held o.axioms) 500000;
  nodes = min (expression_count o.axioms) 262144;
  classes = o.classes;
  roles = o.roles;
  individuals = o.individuals;
}

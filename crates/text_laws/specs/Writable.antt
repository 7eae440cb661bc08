-- Which ontologies can be written: those within the limits whose names may stand between `<` and `>`.
use Rattle.std.specs.Prelude.{◌≡◌, ℕ, ◌+◌, ◌≤◌, max, Bool, true, false, not, ◌&&◌, List, nat_le, is_none}
use Rattle.std.specs.List.{list_all}
use Rattle.std.specs.Str.{is_utf8}
use Rattle.shq_terms.specs.Concept.{Concept, top, bottom, name, complement, intersection, union, some_of, all_of}
use Rattle.shq_terms.specs.Concept.{at_least, at_most, exactly, Parts, no_parts, part, parts_of}
use Rattle.shq_terms.specs.Listed.{Listed}
use Rattle.shq_terms.specs.Distinct.{AreDistinct}
use Rattle.shq_terms.specs.declared.axioms.Axiom.{Axiom}
use Rattle.shq_terms.specs.declared.axioms.Axiom.TheVariants.{SubClassOf, EquivalentClasses, DisjointClasses}
use Rattle.shq_terms.specs.declared.axioms.Axiom.TheVariants.{DisjointUnion, SubRole, EquivalentRoles, Domain, Range}
use Rattle.shq_terms.specs.declared.axioms.Axiom.TheVariants.{Functional, Transitive, Member, Pair, SameAll, Different}
use Rattle.shq_terms.specs.declared.axioms.Numbered.{Numbered}
use Rattle.ontology_limits.specs.Limits.{IsOntologyInLimit}
use Rattle.ofn_tree.specs.Lexemes.{is_iri_byte}
use Rattle.ofn_expressions.specs.Constructs.{excluded_role_name}
use Rattle.ofn_expressions.specs.Classes.{is_thing, is_nothing}
use Rattle.ofn_reader.specs.Held.{expression_count}

-- ---- names

-- an IRI that may stand in a document: UTF-8, with no whitespace, no control character and none of `< > "`
abbrev pub is_iri : List ℕ → Bool
is_iri iri = is_utf8 iri && list_all is_iri_byte iri

-- `owl:Thing` and `owl:Nothing` are no names of classes
abbrev pub is_class_iri : List ℕ → Bool
is_class_iri iri = is_iri iri && (not (is_thing iri) && not (is_nothing iri))

-- `owl:topObjectProperty` and `owl:bottomObjectProperty` are no names of roles
abbrev pub is_role_iri : List ℕ → Bool
is_role_iri iri = is_iri iri && is_none (excluded_role_name iri)

-- ---- class expressions

-- how many brackets are open at once in the text of an expression
abbrev mutual
  pub brackets : Concept → ℕ
  brackets top = 0
  brackets bottom = 0
  brackets (name a) = 0
  brackets (complement c) = brackets c + 1
  brackets (intersection cs) = most_brackets cs + 1
  brackets (union cs) = most_brackets cs + 1
  brackets (some_of r c) = brackets c + 1
  brackets (all_of r c) = brackets c + 1
  brackets (at_least n r c) = brackets c + 1
  brackets (at_most n r c) = brackets c + 1
  brackets (exactly n r c) = brackets c + 1

  pub most_brackets : Parts → ℕ
  most_brackets no_parts = 0
  most_brackets (part c cs) = max (brackets c) (most_brackets cs)

-- ---- axioms

-- a class that is named, and no group
abbrev pub is_named : Concept → Bool
is_named top = true
is_named bottom = true
is_named (name a) = true
is_named _ = false

-- how many brackets are open at once in the text of an axiom
abbrev pub axiom_brackets : Axiom → ℕ
axiom_brackets (SubClassOf c d) = max (brackets c) (brackets d) + 1
axiom_brackets (EquivalentClasses cs) = most_brackets (parts_of cs) + 1
axiom_brackets (DisjointClasses cs) = most_brackets (parts_of cs) + 1
axiom_brackets (DisjointUnion c cs) = most_brackets (parts_of cs) + 1
axiom_brackets (SubRole r s) = 1
axiom_brackets (EquivalentRoles rs) = 1
axiom_brackets (Domain r c) = brackets c + 1
axiom_brackets (Range r c) = brackets c + 1
axiom_brackets (Functional r) = 1
axiom_brackets (Transitive r) = 1
axiom_brackets (Member c a) = brackets c + 1
axiom_brackets (Pair r a b) = 1
axiom_brackets (SameAll as_) = 1
axiom_brackets (Different as_) = 1

-- whether an axiom of this form is read: the class of a disjoint union has to be named
abbrev pub is_readable : Axiom → Bool
is_readable (SubClassOf c d) = true
is_readable (EquivalentClasses cs) = true
is_readable (DisjointClasses cs) = true
is_readable (DisjointUnion c cs) = is_named c
is_readable (SubRole r s) = true
is_readable (EquivalentRoles rs) = true
is_readable (Domain r c) = true
is_readable (Range r c) = true
is_readable (Functional r) = true
is_readable (Transitive r) = true
is_readable (Member c a) = true
is_readable (Pair r a b) = true
is_readable (SameAll as_) = true
is_readable (Different as_) = true

-- ---- ontologies

-- The ontology can be written so that it is read again. It is within the limits, and its names are IRIs that may stand
-- in a document, each once. The bracket after `Ontology` is open round each axiom.
pub record CanBeWritten (o : Listed) : Type 0 where
  pub within : IsOntologyInLimit o
  pub class_iris : list_all is_class_iri o.classes ≡ true
  pub role_iris : list_all is_role_iri o.roles ≡ true
  pub individual_iris : list_all is_iri o.individuals ≡ true
  pub distinct_classes : AreDistinct o.classes
  pub distinct_roles : AreDistinct o.roles
  pub distinct_individuals : AreDistinct o.individuals
  pub readable : list_all (λ (a : Numbered). is_readable a.axiom) o.axioms ≡ true
  pub nested : list_all (λ (a : Numbered). nat_le (axiom_brackets a.axiom) 63) o.axioms ≡ true
  pub few_expressions : expression_count o.axioms ≤ 262144

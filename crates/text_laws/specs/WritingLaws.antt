-- What is written of an ontology, and of class expressions, queries and axioms over its names, is read again.
use Rattle.std.specs.Prelude.{◌≡◌, ℕ, ◌+◌, ◌^◌, ◌≤◌, true, List, map, length, Some, codes}
use Rattle.shq_terms.specs.Concept.{Concept, top, bottom}
use Rattle.shq_terms.specs.Listed.{Listed, with_axiom}
use Rattle.shq_terms.specs.declared.axioms.Axiom.{Axiom}
use Rattle.shq_terms.specs.declared.axioms.Axiom.TheVariants.{SubClassOf, Member}
use Rattle.shq_terms.specs.declared.axioms.Numbered.{Numbered}
use Rattle.shq_terms.specs.declared.axioms.On.{On}
use Rattle.shq_terms.specs.declared.axioms.On.TheVariants.{Any, Individual}
use Rattle.shq_terms.specs.declared.axioms.Query.{Query}
use Rattle.ontology_limits.specs.Limits.{IsOntologyInLimit, IsInLimit}
use Rattle.ofn_expressions.specs.Names.{Prefix, prefix_iri}
use Rattle.ofn_reader.specs.DocumentContext.{DocumentContext}
use Rattle.ofn_reader.specs.Documents.{IsDocument}
use Rattle.ofn_reader.specs.Queries.{IsQuery, IsClass, query_start}
use Rattle.ofn_writer.specs.Canonical.{concept_text, axiom_text, ontology_text}
use Rattle.ofn_reader.specs.Held.{expressions, axiom_expressions, expression_count, counts_of}
use Rattle.ofn_reader.specs.Additions.{IsAddition}
use Rattle.text_laws.specs.Writable.{brackets, axiom_brackets, is_readable, CanBeWritten}

-- the axioms without their lines
abbrev pub axioms_of : List Numbered → List Axiom
axioms_of as_ = map (λ (a : Numbered). a.axiom) as_

-- The text is a document of the ontology: it lists the classes, roles and individuals in their order, and the axioms in
-- theirs, on lines of its own.
pub record IsDocumentOf (text : List ℕ) (o : Listed) : Type 0 where
  pub read : Listed
  pub kept : DocumentContext
  pub end : ℕ
  pub is_document : IsDocument text read kept end
  pub classes : read.classes ≡ o.classes
  pub roles : read.roles ≡ o.roles
  pub individuals : read.individuals ≡ o.individuals
  pub axioms : axioms_of read.axioms ≡ axioms_of o.axioms

-- the text of an ontology that can be written is a document of it
abbrev pub WrittenOntologiesAreRead : Type 0
WrittenOntologiesAreRead = (o : Listed) → CanBeWritten o → IsDocumentOf (ontology_text o) o

-- what a document says meets that condition
abbrev pub DocumentsCanBeWritten : Type 0
DocumentsCanBeWritten = (text : List ℕ) (o : Listed) (kept : DocumentContext) (end : ℕ) → IsDocument text o kept end
    → CanBeWritten o

-- so each ontology that is read is read again from its canonical text
abbrev pub DocumentsAreReadAgain : Type 0
DocumentsAreReadAgain = (text : List ℕ) (o : Listed) (kept : DocumentContext) (end : ℕ) → IsDocument text o kept end
    → IsDocumentOf (ontology_text o) o

-- the names and axioms of two ontologies are the same, on whatever lines
pub record AreSame (o p : Listed) : Type 0 where
  pub classes : o.classes ≡ p.classes
  pub roles : o.roles ≡ p.roles
  pub individuals : o.individuals ≡ p.individuals
  pub axioms : axioms_of o.axioms ≡ axioms_of p.axioms

-- the canonical text tells two ontologies apart
abbrev pub EqualTextsSayTheSame : Type 0
EqualTextsSayTheSame = (o p : Listed) → CanBeWritten o → CanBeWritten p → ontology_text o ≡ ontology_text p
    → AreSame o p

-- ---- class expressions and queries

-- the IRI that the prefix `owl:` stands for
abbrev pub owl_iri : List ℕ
owl_iri = codes "http://www.w3.org/2002/07/owl#"

-- the prefix of `owl:Thing` and `owl:Nothing` stands for its IRI
abbrev pub KnowsOwl : List Prefix → Type 0
KnowsOwl ps = prefix_iri ps (codes "owl") ≡ Some owl_iri

-- so it does in each document, whatever other prefixes it declares
abbrev pub DocumentsKnowOwl : Type 0
DocumentsKnowOwl = (text : List ℕ) (o : Listed) (kept : DocumentContext) (end : ℕ) → IsDocument text o kept end
    → KnowsOwl kept.prefixes

-- The text of a class expression over the names of an ontology is that expression, and lists no other name, where the
-- limits leave room: its text is short enough for a query, at most 64 brackets are open at once, and its expressions
-- fit beside those that were counted.
abbrev pub ClassTextsAreRead : Type 0
ClassTextsAreRead =
    (o : Listed) (c : Concept) (ps : List Prefix) (nodes : ℕ) → CanBeWritten o
    → IsInLimit o (record { sub = c; sup = bottom; on = Any }) → KnowsOwl ps → length (concept_text o c) ≤ 2 ^ 24
    → brackets c ≤ 64 → nodes + expressions c ≤ 262144
    → IsClass ps o.axioms (query_start o nodes) (concept_text o c) (query_start o (nodes + expressions c)) c

-- the axiom that a query asks for, by what it speaks of
abbrev pub axiom_on : On → Concept → Concept → Axiom
axiom_on Any c d = SubClassOf c d
axiom_on (Individual a) c d = Member d a

abbrev pub query_axiom : Query → Axiom
query_axiom q = axiom_on q.on q.sub q.sup

abbrev pub query_text : Listed → Query → List ℕ
query_text o q = axiom_text o (query_axiom q)

-- an axiom asks of an individual only whether it is in a class
abbrev pub HasAxiomOn : On → Concept → Type 0
HasAxiomOn Any c = Unit {0}
HasAxiomOn (Individual a) c = c ≡ top

abbrev pub HasAxiom : Query → Type 0
HasAxiom q = HasAxiomOn q.on q.sub

-- the same of a query
abbrev pub QueryTextsAreRead : Type 0
QueryTextsAreRead =
    (o : Listed) (q : Query) (ps : List Prefix) (nodes : ℕ) → CanBeWritten o → IsInLimit o q → HasAxiom q → KnowsOwl ps
    → length (query_text o q) ≤ 2 ^ 24 → axiom_brackets (query_axiom q) ≤ 64
    → nodes + axiom_expressions (query_axiom q) ≤ 262144
    → IsQuery ps o.axioms (query_start o nodes) (query_text o q)
    (query_start o (nodes + axiom_expressions (query_axiom q))) q

-- ---- axioms that are put into an ontology

-- The text of an axiom of any kind over the names of an ontology is that axiom, and lists no other name, where the
-- limits leave room for it: the ontology is within them with it, the class of a disjoint union is named, the text is
-- short enough, at most 64 brackets are open at once, and its expressions fit beside those of the ontology. What is
-- counted behind it is what the ontology then holds.
abbrev pub AxiomTextsAreRead : Type 0
AxiomTextsAreRead =
    (o : Listed) (a : Axiom) (ps : List Prefix) → CanBeWritten o → IsOntologyInLimit (with_axiom o a 1) → KnowsOwl ps
    → is_readable a ≡ true → length (axiom_text o a) ≤ 2 ^ 24 → axiom_brackets a ≤ 64
    → expression_count o.axioms + axiom_expressions a ≤ 262144
    → IsAddition ps o.axioms (counts_of o) (axiom_text o a) (counts_of (with_axiom o a 1)) a

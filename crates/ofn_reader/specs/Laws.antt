-- A text says one thing at most, and is refused only where it says nothing.
use Rattle.std.specs.Prelude.{◌≡◌, ℕ, List}
use Rattle.shq_terms.specs.Concept.{Concept}
use Rattle.shq_terms.specs.Listed.{Listed}
use Rattle.shq_terms.specs.declared.axioms.Axiom.{Axiom}
use Rattle.shq_terms.specs.declared.axioms.Numbered.{Numbered}
use Rattle.shq_terms.specs.declared.axioms.Query.{Query}
use Rattle.ofn_expressions.specs.Counts.{Counts}
use Rattle.ofn_expressions.specs.Names.{Prefix}
use Rattle.ofn_expressions.specs.declared.refusal.Refusal.{Refusal}
use Rattle.ofn_reader.specs.DocumentContext.{DocumentContext}
use Rattle.ofn_reader.specs.Documents.{IsDocument, IsNoDocument}
use Rattle.ofn_reader.specs.Queries.{IsQuery, IsNoQuery, IsClass, IsNoClass}
use Rattle.ofn_reader.specs.Additions.{IsAddition, IsNoAddition}

-- the ontology of a document, what queries take over, and its end
abbrev pub DocumentsAreUnique : Type 0
DocumentsAreUnique =
    (text : List ℕ) (o p : Listed) (j k : DocumentContext) (d e : ℕ) → IsDocument text o j d → IsDocument text p k e
    → (o ≡ p) × (j ≡ k) × (d ≡ e)

-- a text that is a document is not refused as one
abbrev pub DocumentsAreNotRefused : Type 0
DocumentsAreNotRefused = (text : List ℕ) (o : Listed) (k : DocumentContext) (d : ℕ) (e : Refusal)
    → IsDocument text o k d → IsNoDocument text e → ⊥

-- the counts after a query, and its two expressions
abbrev pub QueriesAreUnique : Type 0
QueriesAreUnique = (ps : List Prefix) (axioms : List Numbered) (s : Counts) (text : List ℕ) (a b : Counts) (p q : Query)
    → IsQuery ps axioms s text a p → IsQuery ps axioms s text b q → (a ≡ b) × (p ≡ q)

-- a text that is a query is not refused as one
abbrev pub QueriesAreNotRefused : Type 0
QueriesAreNotRefused = (ps : List Prefix) (axioms : List Numbered) (s : Counts) (text : List ℕ) (a : Counts) (q : Query)
    (e : Refusal)
    → IsQuery ps axioms s text a q → IsNoQuery ps axioms s text e → ⊥

-- the counts after a class expression, and the expression
abbrev pub ClassesAreUnique : Type 0
ClassesAreUnique = (ps : List Prefix) (axioms : List Numbered) (s : Counts) (text : List ℕ) (a b : Counts)
    (c d : Concept)
    → IsClass ps axioms s text a c → IsClass ps axioms s text b d → (a ≡ b) × (c ≡ d)

-- a text that is a class expression is not refused as one
abbrev pub ClassesAreNotRefused : Type 0
ClassesAreNotRefused = (ps : List Prefix) (axioms : List Numbered) (s : Counts) (text : List ℕ) (a : Counts)
    (c : Concept) (e : Refusal)
    → IsClass ps axioms s text a c → IsNoClass ps axioms s text e → ⊥

-- a text is refused for one reason at most
abbrev pub DocumentRefusalsAreUnique : Type 0
DocumentRefusalsAreUnique = (text : List ℕ) (e f : Refusal) → IsNoDocument text e → IsNoDocument text f → e ≡ f

-- a text is refused as a query in one way at most
abbrev pub QueryRefusalsAreUnique : Type 0
QueryRefusalsAreUnique = (ps : List Prefix) (axioms : List Numbered) (s : Counts) (text : List ℕ) (e f : Refusal)
    → IsNoQuery ps axioms s text e → IsNoQuery ps axioms s text f → e ≡ f

-- a text is refused as a class expression in one way at most
abbrev pub ClassRefusalsAreUnique : Type 0
ClassRefusalsAreUnique = (ps : List Prefix) (axioms : List Numbered) (s : Counts) (text : List ℕ) (e f : Refusal)
    → IsNoClass ps axioms s text e → IsNoClass ps axioms s text f → e ≡ f

-- the counts after an axiom that is put into an ontology, and the axiom
abbrev pub AdditionsAreUnique : Type 0
AdditionsAreUnique = (ps : List Prefix) (axioms : List Numbered) (s : Counts) (text : List ℕ) (a b : Counts)
    (p q : Axiom)
    → IsAddition ps axioms s text a p → IsAddition ps axioms s text b q → (a ≡ b) × (p ≡ q)

-- a text that is an axiom which may be put in is not refused as one
abbrev pub AdditionsAreNotRefused : Type 0
AdditionsAreNotRefused = (ps : List Prefix) (axioms : List Numbered) (s : Counts) (text : List ℕ) (a : Counts)
    (p : Axiom) (e : Refusal)
    → IsAddition ps axioms s text a p → IsNoAddition ps axioms s text e → ⊥

-- a text is refused as an axiom to be put in in one way at most
abbrev pub AdditionRefusalsAreUnique : Type 0
AdditionRefusalsAreUnique = (ps : List Prefix) (axioms : List Numbered) (s : Counts) (text : List ℕ) (e f : Refusal)
    → IsNoAddition ps axioms s text e → IsNoAddition ps axioms s text f → e ≡ f

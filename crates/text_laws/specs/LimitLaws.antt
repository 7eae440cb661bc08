-- What is read is within the limits.
use Rattle.std.specs.Prelude.{◌≡◌, ℕ, ◌≤◌, true, List, length}
use Rattle.shq_terms.specs.Concept.{Concept, bottom}
use Rattle.shq_terms.specs.Listed.{Listed, with_names_cut}
use Rattle.shq_terms.specs.Uses.{all_use_listed}
use Rattle.shq_terms.specs.declared.axioms.Axiom.{Axiom}
use Rattle.shq_terms.specs.declared.axioms.On.TheVariants.{Any}
use Rattle.shq_terms.specs.declared.axioms.Query.{Query}
use Rattle.ontology_limits.specs.Limits.{IsOntologyInLimit, IsInLimit}
use Rattle.certificate_lines.specs.Names.{AreNames}
use Rattle.ofn_expressions.specs.Counts.{Counts}
use Rattle.ofn_expressions.specs.Names.{Prefix}
use Rattle.ofn_reader.specs.DocumentContext.{DocumentContext}
use Rattle.ofn_reader.specs.Documents.{IsDocument}
use Rattle.ofn_reader.specs.Queries.{IsQuery, IsClass, query_start}
use Rattle.ofn_reader.specs.Held.{counts_of}
use Rattle.ofn_reader.specs.Additions.{IsAddition, added_to}

-- the ontology of a document
abbrev pub DocumentsAreInLimit : Type 0
DocumentsAreInLimit = (text : List ℕ) (o : Listed) (kept : DocumentContext) (end : ℕ) → IsDocument text o kept end
    → IsOntologyInLimit o

-- the ontology with the names that it and a query on it list together
abbrev pub with_names : Listed → Counts → Listed
with_names o after = record o { classes = after.classes; roles = after.roles; individuals = after.individuals }

-- with the query on the document, which lists the names of both
abbrev pub QueriesAreInLimit : Type 0
QueriesAreInLimit =
    (text : List ℕ) (o : Listed) (kept : DocumentContext) (end : ℕ) → IsDocument text o kept end
    → (query : List ℕ) (after : Counts) (q : Query)
    → IsQuery kept.prefixes o.axioms (query_start o kept.nodes) query after q → IsInLimit (with_names o after) q

-- with a class expression, asked whether it has no element
abbrev pub ClassesAreInLimit : Type 0
ClassesAreInLimit =
    (text : List ℕ) (o : Listed) (kept : DocumentContext) (end : ℕ) → IsDocument text o kept end
    → (class : List ℕ) (after : Counts) (c : Concept)
    → IsClass kept.prefixes o.axioms (query_start o kept.nodes) class after c
    → IsInLimit (with_names o after) (record { sub = c; sup = bottom; on = Any })

-- the names of both can be written into a certificate and read back
pub record AreWritable (o : Listed) : Type 0 where
  pub classes : AreNames o.classes
  pub roles : AreNames o.roles
  pub individuals : AreNames o.individuals

-- with the names that a query brings, the names of a document can still be written
abbrev pub QueriesListNames : Type 0
QueriesListNames =
    (text : List ℕ) (o : Listed) (kept : DocumentContext) (end : ℕ) → IsDocument text o kept end
    → (query : List ℕ) (after : Counts) (q : Query)
    → IsQuery kept.prefixes o.axioms (query_start o kept.nodes) query after q → AreWritable (with_names o after)

-- with the names that a class expression brings, the names of a document can still be written
abbrev pub ClassesListNames : Type 0
ClassesListNames =
    (text : List ℕ) (o : Listed) (kept : DocumentContext) (end : ℕ) → IsDocument text o kept end
    → (class : List ℕ) (after : Counts) (c : Concept)
    → IsClass kept.prefixes o.axioms (query_start o kept.nodes) class after c → AreWritable (with_names o after)

-- ---- any ontology within the limits

-- an ontology within the limits, with an axiom that is put into it, is within them
abbrev pub AdditionsStayInLimit : Type 0
AdditionsStayInLimit =
    (ps : List Prefix) (o : Listed) (text : List ℕ) (behind : Counts) (a : Axiom) → IsOntologyInLimit o
    → IsAddition ps o.axioms (counts_of o) text behind a → IsOntologyInLimit (added_to o behind a)

-- so is one with a query on it, however many nodes were counted before, where it lists the names of both
abbrev pub QueriesStayInLimit : Type 0
QueriesStayInLimit =
    (ps : List Prefix) (o : Listed) (nodes : ℕ) (query : List ℕ) (after : Counts) (q : Query) → IsOntologyInLimit o
    → IsQuery ps o.axioms (query_start o nodes) query after q → IsInLimit (with_names o after) q

-- an ontology in limit stays so with a class expression that is read on it
abbrev pub ClassesStayInLimit : Type 0
ClassesStayInLimit =
    (ps : List Prefix) (o : Listed) (nodes : ℕ) (class : List ℕ) (after : Counts) (c : Concept) → IsOntologyInLimit o
    → IsClass ps o.axioms (query_start o nodes) class after c
    → IsInLimit (with_names o after) (record { sub = c; sup = bottom; on = Any })

-- with as many names alone as the ontology had, it is as before the query
abbrev pub QueriesAreCutAgain : Type 0
QueriesAreCutAgain =
    (ps : List Prefix) (o : Listed) (nodes : ℕ) (query : List ℕ) (after : Counts) (q : Query)
    → IsQuery ps o.axioms (query_start o nodes) query after q
    → with_names_cut (with_names o after) (length o.classes) (length o.roles) (length o.individuals) ≡ o

-- an ontology within the limits of which names are cut that no axiom uses is within them
abbrev pub CutsStayInLimit : Type 0
CutsStayInLimit =
    (o : Listed) (classes roles individuals : ℕ) → IsOntologyInLimit o → classes ≤ length o.classes
    → roles ≤ length o.roles → individuals ≤ length o.individuals
    → all_use_listed classes roles individuals o.axioms ≡ true
    → IsOntologyInLimit (with_names_cut o classes roles individuals)

-- ---- counts

-- what was counted of a document is what its ontology holds, and queries go on from its nodes
abbrev pub DocumentsAreCounted : Type 0
DocumentsAreCounted = (text : List ℕ) (o : Listed) (kept : DocumentContext) (end : ℕ) → (d : IsDocument text o kept end)
    → (d.behind ≡ counts_of o) × (kept.nodes ≡ (counts_of o).nodes)

-- so it is of an ontology and an axiom that is put into it
abbrev pub AdditionsAreCounted : Type 0
AdditionsAreCounted = (ps : List Prefix) (o : Listed) (text : List ℕ) (behind : Counts) (a : Axiom)
    → IsAddition ps o.axioms (counts_of o) text behind a → behind ≡ counts_of (added_to o behind a)

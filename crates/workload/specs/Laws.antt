-- The texts of workloads are documents, and their query is one on them.
use Rattle.std.specs.Prelude.{◌≡◌, ℕ, ◌+◌, ◌*◌, ◌≤◌, true, List, [], length, drop, Some, codes}
use Rattle.shq_terms.specs.Concept.{name}
use Rattle.shq_terms.specs.Listed.{Listed}
use Rattle.shq_terms.specs.declared.axioms.On.TheVariants.{Any}
use Rattle.shq_terms.specs.declared.axioms.Query.{Query}
use Rattle.ofn_tree.specs.TokenLaws.{IsGap}
use Rattle.ofn_expressions.specs.Names.{prefix_iri}
use Rattle.ofn_reader.specs.DocumentContext.{DocumentContext}
use Rattle.ofn_reader.specs.Documents.{IsDocument}
use Rattle.ofn_reader.specs.Queries.{IsQueryOn}
use Rattle.workload.specs.WorkloadText.{workload_text}
use Rattle.text_laws.specs.WritingLaws.{axioms_of}
use Rattle.workload.specs.WorkloadAxioms.{prefix_iri_of_workloads, workload_classes, workload_roles, workload_axioms}

-- The text is a document of the workload of n groups: it lists exactly the workload's classes, roles and axioms, each
-- in their order, and no individual. Nothing but whitespace stands behind it. A query on it may use the empty prefix,
-- and goes on from so many class expressions.
pub record IsWorkload (n : ℕ) (text : List ℕ) : Type 0 where
  pub read : Listed
  pub kept : DocumentContext
  pub end : ℕ
  pub is_document : IsDocument text read kept end
  pub alone : IsGap true (drop end text)
  pub classes : read.classes ≡ workload_classes n
  pub roles : read.roles ≡ workload_roles
  pub individuals : read.individuals ≡ []
  pub axioms : axioms_of read.axioms ≡ workload_axioms n
  pub count : length read.axioms ≡ 4 * n + 7
  pub knows : prefix_iri kept.prefixes [] ≡ Some prefix_iri_of_workloads
  pub nodes : kept.nodes ≡ 13 * n + 18

-- the text of each workload of up to 4,000 groups is its document
abbrev pub WorkloadsAreDocuments : Type 0
WorkloadsAreDocuments = (n : ℕ) → n ≤ 4000 → IsWorkload n (workload_text n)

-- The query of a workload asks whether the first class is in the sixth. It is a query on such a document, and lists no
-- name.
abbrev pub asked : Query
asked = record { sub = name 0; sup = name 5; on = Any }

-- the query of workloads is read on each of them
abbrev pub WorkloadQueriesAreRead : Type 0
WorkloadQueriesAreRead = (n : ℕ) (text : List ℕ) (w : IsWorkload n text) → n ≤ 4000
    → IsQueryOn w.kept w.read (codes "SubClassOf(:Q0 :Q3)") w.read asked

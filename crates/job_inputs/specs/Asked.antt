-- A query on a document, what keeps a document or a query from being read, and what is replied.
use Rattle.std.specs.Prelude.{◌≡◌, ℕ, List}
use Rattle.shq_terms.specs.Listed.{Listed}
use Rattle.shq_terms.specs.declared.axioms.Query.{Query as Asked}
use Rattle.text_laws.specs.Counts.{Counts}
use Rattle.text_laws.specs.Refusal.{Refusal}
use Rattle.text_laws.specs.DocumentContext.{DocumentContext}
use Rattle.text_laws.specs.Documents.{IsNoDocument}
use Rattle.text_laws.specs.Queries.{IsQuery, IsNoQuery, query_start}
use Rattle.text_laws.specs.LimitLaws.{with_names}
use Rattle.job_inputs.specs.declared.unread.Unread.{Unread}
use Rattle.job_inputs.specs.declared.unread.Unread.TheVariants as U
use Rattle.job_inputs.specs.declared.verdict.Verdict.{Verdict}

-- the text is this query on a document, and they list these counts together
abbrev pub IsAsked : Listed → DocumentContext → List ℕ → Counts → Asked → Type 0
IsAsked o kept query counts asked = IsQuery kept.prefixes o.axioms (query_start o kept.nodes) query counts asked

-- why the text is no query on a document
abbrev pub IsNotAsked : Listed → DocumentContext → List ℕ → Refusal → Type 0
IsNotAsked o kept query e = IsNoQuery kept.prefixes o.axioms (query_start o kept.nodes) query e

-- why a document is not read, unless memory was refused
abbrev pub IsUndocumented : List ℕ → Unread → Type 0
IsUndocumented bytes (U.Document e) = IsNoDocument bytes e
IsUndocumented bytes U.NoMemory = Unit {0}
IsUndocumented bytes u = ⊥

-- the text is this query on a document, and both list these names together
abbrev pub IsReadQuery : Listed → DocumentContext → List ℕ → Listed → Asked → Type 0
IsReadQuery o kept query both asked = (counts : Counts) × IsAsked o kept query counts asked
    × (both ≡ with_names o counts)

-- why a query is not read, unless memory was refused
abbrev pub IsUnasked : Listed → DocumentContext → List ℕ → Unread → Type 0
IsUnasked o kept query (U.Query e) = IsNotAsked o kept query e
IsUnasked o kept query U.NoMemory = Unit {0}
IsUnasked o kept query u = ⊥

-- What is replied: the verdict on the certificate; why the document, or the query, is refused; or the number of the
-- first malformed line of what should be a certificate.
pub data Reply : Type 0 where
  judged : Verdict → Reply
  refused_document : Refusal → Reply
  refused_query : Refusal → Reply
  malformed_line : ℕ → Reply

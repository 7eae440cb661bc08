-- What is asked of a document.
use Rattle.std.specs.Prelude.{◌≡◌, ℕ, ◌+◌, List, drop}
use Rattle.shq_terms.specs.Concept.{Concept, bottom}
use Rattle.shq_terms.specs.Listed.{Listed}
use Rattle.shq_terms.specs.declared.axioms.On.TheVariants.{Any}
use Rattle.shq_terms.specs.declared.axioms.Query.{Query as Asked}
use Rattle.text_laws.specs.Counts.{Counts}
use Rattle.text_laws.specs.Refusal.{Refusal}
use Rattle.text_laws.specs.Refusal.TheVariants.{BadShape}
use Rattle.text_laws.specs.DocumentContext.{DocumentContext}
use Rattle.text_laws.specs.Documents.{IsDocument, IsNoDocument}
use Rattle.text_laws.specs.Queries.{IsClass, IsNoClass, query_start}
use Rattle.text_laws.specs.LimitLaws.{with_names}
use Rattle.job_inputs.specs.Asked.{IsAsked, IsNotAsked, Reply, refused_document, refused_query}
use Rattle.job_inputs.specs.declared.unread.Unread.{Unread}
use Rattle.job_inputs.specs.declared.unread.Unread.TheVariants as U
use Rattle.job_inputs.specs.Rest.{IsOnlyGap, IsStray, line_at}
use Rattle.job_inputs.specs.declared.reading.WrittenQuestion.{WrittenQuestion}
use Rattle.job_inputs.specs.declared.reading.WrittenQuestion.TheVariants as Q

-- the text is this class expression on a document, and they list these counts together
abbrev pub IsClassOf : Listed → DocumentContext → List ℕ → Counts → Concept → Type 0
IsClassOf o kept class counts c = IsClass kept.prefixes o.axioms (query_start o kept.nodes) class counts c

-- why a text is no class expression on an ontology
abbrev pub IsNoClassOf : Listed → DocumentContext → List ℕ → Refusal → Type 0
IsNoClassOf o kept class e = IsNoClass kept.prefixes o.axioms (query_start o kept.nodes) class e

-- a question in its text: whether a class expression has an element, or whether a statement follows
pub data Text : Type 0 where
  has_element : List ℕ → Text
  follows : List ℕ → Text

-- a question of the code, with its text as bytes
abbrev pub question_text : WrittenQuestion → Text
question_text (Q.HasElement class) = has_element class.now
question_text (Q.Follows statement) = follows statement.now

-- the query of a question on a document; that a class expression has an element is refuted by its inclusion in nothing,
-- of any element
abbrev pub IsAskedBy : Listed → DocumentContext → Text → Counts → Asked → Type 0
IsAskedBy o kept (has_element class) counts q = IsClassOf o kept class counts q.sub × (q.sup ≡ bottom) × (q.on ≡ Any)
IsAskedBy o kept (follows statement) counts q = IsAsked o kept statement counts q

-- why the text is no question on a document
abbrev pub IsNotAskedBy : Listed → DocumentContext → Text → Refusal → Type 0
IsNotAskedBy o kept (has_element class) e = IsNoClassOf o kept class e
IsNotAskedBy o kept (follows statement) e = IsNotAsked o kept statement e

-- ---- documents alone

-- the bytes are a document with nothing else after it
pub record IsDocumentAlone (bytes : List ℕ) (o : Listed) (kept : DocumentContext) : Type 0 where
  pub end : ℕ
  pub is_document : IsDocument bytes o kept end
  pub alone : IsOnlyGap (drop end bytes)

-- why they are not: they begin with no document, or something stands after it
pub data IsNotAlone (bytes : List ℕ) : Refusal → Type 0 where
  no_document : (e : Refusal) → IsNoDocument bytes e → IsNotAlone bytes e
  more : (o : Listed) (kept : DocumentContext) (end place : ℕ) → IsDocument bytes o kept end
      → IsStray (drop end bytes) place
      → IsNotAlone bytes (BadShape (line_at bytes (end + place)))

-- ---- questions

-- the bytes are a document alone, the text is this query on it, and both list these names together
pub record IsQuestion (question : Text) (bytes : List ℕ) (both : Listed) (q : Asked) : Type 0 where
  pub document : Listed
  pub kept : DocumentContext
  pub counts : Counts
  pub is_document : IsDocumentAlone bytes document kept
  pub is_asked : IsAskedBy document kept question counts q
  pub both_are : both ≡ with_names document counts

-- what is refused: the document, else the question
pub data IsRefusedQuestion (question : Text) (bytes : List ℕ) : Reply → Type 0 where
  document : (e : Refusal) → IsNotAlone bytes e → IsRefusedQuestion question bytes (refused_document e)
  query : (o : Listed) (kept : DocumentContext) (e : Refusal) → IsDocumentAlone bytes o kept
      → IsNotAskedBy o kept question e → IsRefusedQuestion question bytes (refused_query e)

-- ---- while it is read

-- the names of the document and of the query on it are listed
pub record IsReadQuestion (o : Listed) (kept : DocumentContext) (question : Text) (both : Listed) (q : Asked) :
    Type 0 where
  pub counts : Counts
  pub is_asked : IsAskedBy o kept question counts q
  pub both_are : both ≡ with_names o counts

-- why a document is not read, unless memory was refused
abbrev pub IsUnreadDocument : List ℕ → Unread → Type 0
IsUnreadDocument bytes (U.Document e) = IsNotAlone bytes e
IsUnreadDocument bytes (U.Query e) = ⊥
IsUnreadDocument bytes (U.Line n) = ⊥
IsUnreadDocument bytes U.NoMemory = Unit {0}

-- why a question is not, unless memory was refused
abbrev pub IsUnreadQuestion : Listed → DocumentContext → Text → Unread → Type 0
IsUnreadQuestion o kept question (U.Query e) = IsNotAskedBy o kept question e
IsUnreadQuestion o kept question (U.Document e) = ⊥
IsUnreadQuestion o kept question (U.Line n) = ⊥
IsUnreadQuestion o kept question U.NoMemory = Unit {0}

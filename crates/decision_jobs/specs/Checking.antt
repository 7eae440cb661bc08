-- What is verified, and what the verification says.
use Rattle.std.specs.Prelude.{◌≡◌, ℕ, ◌+◌, List, [], ◌∷◌, length, Option, Some, None, Ok, drop, if◌then◌else◌}
use Rattle.shq_terms.specs.Listed.{Listed}
use Rattle.shq_terms.specs.declared.axioms.Numbered.{Numbered}
use Rattle.shq_terms.specs.declared.axioms.Query.{Query as Asked}
use Rattle.shq_meaning.specs.Truth.{Interpretation, PlacesIndividuals, meets, refutes_at}
use Rattle.shq_meaning.specs.Least.{IsFirstBelow}
use Rattle.shq_oracle.specs.Limits.{IsInLimit}
use Rattle.finite_model.specs.ModelLists.{ModelLists as Model, meaning}
use Rattle.calculus_specs.specs.Valid.{concept_at, IsBrokenAt, IsRefutation}
use Rattle.refutation_tree.specs.RefutationLists.{RefutationLists as Refutation}
use Rattle.shq_oracle.specs.Verdicts.{named_question}
use Rattle.shq_oracle.specs.Verdict.{Verdict as CheckerVerdict}
use Rattle.shq_oracle.specs.Verdict.TheVariants.{Accepted, Rejected}
use Rattle.ofn_expressions.specs.Counts.{Counts}
use Rattle.ofn_expressions.specs.declared.refusal.Refusal.{Refusal}
use Rattle.ofn_reader.specs.DocumentContext.{DocumentContext}
use Rattle.ofn_reader.specs.Documents.{IsDocument, IsNoDocument}
use Rattle.job_inputs.specs.LimitLaws.{with_names}
use Rattle.certificate_lines.specs.Malformed.{IsFirstMalformed}
use Rattle.decision_jobs.specs.Certificates.{certificate_lines, certificate, Fits}
use Rattle.decision_jobs.specs.Malformed.{certificate_read}
use Rattle.decision_jobs.specs.declared.certificate.Certificate.{Certificate}
use Rattle.decision_jobs.specs.declared.certificate.Certificate.TheVariants as C
use Rattle.decision_jobs.specs.declared.checking.Claim.{Claim}
use Rattle.decision_jobs.specs.declared.checking.Input.{Input}
use Rattle.job_inputs.specs.declared.verdict.Verdict.{Verdict}
use Rattle.job_inputs.specs.declared.verdict.Verdict.TheVariants.{NotEntailed, Entailed, Axiom, Query, Line}
use Rattle.job_inputs.specs.Asked.{IsAsked, IsNotAsked, Reply, judged, refused_document, refused_query, malformed_line}
use Rattle.job_inputs.specs.declared.unread.Unread.{Unread}
use Rattle.job_inputs.specs.declared.unread.Unread.TheVariants as U

-- the query on a document, and the certificate that follows the document, over the names of both
pub record IsClaim (o : Listed) (kept : DocumentContext) (query rest : List ℕ) (both : Listed) (claim : Claim) :
    Type 0 where
  pub counts : Counts
  pub is_query : IsAsked o kept query counts claim.asked
  pub listed : both ≡ with_names o counts
  pub found : certificate both rest ≡ Ok claim.certificate

-- a document with what is claimed of it
abbrev pub input_with : Listed → Claim → Input
input_with o c = record { ontology = o; asked = c.asked; certificate = c.certificate }

-- the document, the query and the certificate that these texts are
pub record IsInput (query bytes : List ℕ) (input : Input) : Type 0 where
  pub document : Listed
  pub kept : DocumentContext
  pub end : ℕ
  pub is_document : IsDocument bytes document kept end
  pub is_claim : IsClaim document kept query (drop end bytes) input.ontology
      (record { asked = input.asked; certificate = input.certificate })

-- ontology and query are in limit, and the certificate fits them
pub record CanBeJudged (input : Input) : Type 0 where
  pub within : IsInLimit input.ontology input.asked
  pub fits : Fits input.ontology input.certificate

-- the number of the first axiom that is not met, where the first of the list has the number k
abbrev pub first_unmet : Interpretation → ℕ → List Numbered → Option ℕ
first_unmet i k [] = None
first_unmet i k (a ∷ as_) = if meets i a.axiom then first_unmet i (k + 1) as_ else Some k

-- The verdict on a model: it meets each axiom, has a counter-element and has the individuals among its elements, and
-- then the query does not follow; or some axiom is the first that it does not meet; or it meets each and has no
-- counter-element.
abbrev pub IsOfModel : Listed → Asked → Model → Verdict → Type 0
IsOfModel o q m NotEntailed = (first_unmet (meaning m) 1 o.axioms ≡ None)
    × ((x : ℕ) × IsFirstBelow m.size (refutes_at (meaning m) q) (Some x)) × PlacesIndividuals (meaning m)
IsOfModel o q m (Axiom k) = first_unmet (meaning m) 1 o.axioms ≡ Some k
IsOfModel o q m Query = (first_unmet (meaning m) 1 o.axioms ≡ None)
    × IsFirstBelow m.size (refutes_at (meaning m) q) None
IsOfModel o q m v = ⊥

-- The line of the certificate on which the rule line of a place stands, from 1, and after the last one the line `end`:
-- three lines begin the text, and each concept has one.
abbrev pub line_of_place : Refutation → ℕ → ℕ
line_of_place r place = 3 + length r.shapes + place

-- The verdict on a refutation: its lines refute the query over the axioms that it names, and then the query follows; or
-- they break the rules first at some place.
abbrev pub IsOfRefutation : Listed → Asked → Refutation → Verdict → Type 0
IsOfRefutation o q r Entailed = IsRefutation (named_question o q r) r.shapes r.lines
IsOfRefutation o q r (Line n) = (place : ℕ) × IsBrokenAt (named_question o q r) (concept_at r.shapes) r.lines place
    × (n ≡ line_of_place r place)
IsOfRefutation o q r v = ⊥

-- the verdict on a certificate that is a refutation, from that of the checker
abbrev pub verdict_of : Refutation → CheckerVerdict → Verdict
verdict_of r Accepted = Entailed
verdict_of r (Rejected place) = Line (line_of_place r place)

-- the verdict is right of the certificate, a model or a refutation
abbrev pub IsVerdictOn : Listed → Asked → Certificate → Verdict → Type 0
IsVerdictOn o q (C.Model m) v = IsOfModel o q m v
IsVerdictOn o q (C.Refutation r) v = IsOfRefutation o q r v

-- the verdict on what is verified
abbrev pub IsVerdict : Input → Verdict → Type 0
IsVerdict input v = IsVerdictOn input.ontology input.asked input.certificate v

-- What is replied to a query on an ontology and to the text behind the document: the verdict on the certificate that it
-- is; or the first line that keeps it from being one.
abbrev pub Shows : Listed → Asked → List ℕ → Reply → Type 0
Shows o asked rest (judged v) = (c : Certificate) × (certificate o rest ≡ Ok c) × IsVerdictOn o asked c v
Shows o asked rest (malformed_line n) = IsFirstMalformed 1 (certificate_read o) (certificate_lines rest) n
Shows o asked rest (refused_document e) = ⊥
Shows o asked rest (refused_query e) = ⊥

-- What is replied to a query and an input: the document is refused; else the query is; else it is what the certificate
-- shows that follows the document.
pub data IsReply (query bytes : List ℕ) : Reply → Type 0 where
  no_document : (e : Refusal) → IsNoDocument bytes e → IsReply query bytes (refused_document e)
  no_query : (o : Listed) (kept : DocumentContext) (end : ℕ) (e : Refusal) → IsDocument bytes o kept end
      → IsNotAsked o kept query e → IsReply query bytes (refused_query e)
  shown : (o : Listed) (kept : DocumentContext) (end : ℕ) (counts : Counts) (asked : Asked) (r : Reply)
      → IsDocument bytes o kept end → IsAsked o kept query counts asked
      → Shows (with_names o counts) asked (drop end bytes) r → IsReply query bytes r

-- why there is nothing to verify, unless memory was refused
abbrev pub IsUnread : List ℕ → List ℕ → Unread → Type 0
IsUnread query bytes (U.Document e) = IsReply query bytes (refused_document e)
IsUnread query bytes (U.Query e) = IsReply query bytes (refused_query e)
IsUnread query bytes (U.Line n) = IsReply query bytes (malformed_line n)
IsUnread query bytes U.NoMemory = Unit {0}

-- the query is read, and this is the first malformed line of the text after the document
pub record IsMalformed (o : Listed) (kept : DocumentContext) (query rest : List ℕ) (n : ℕ) : Type 0 where
  pub counts : Counts
  pub asked : Asked
  pub is_query : IsAsked o kept query counts asked
  pub is_first : IsFirstMalformed 1 (certificate_read (with_names o counts)) (certificate_lines rest) n

-- why there is no claim on a document, unless memory was refused
abbrev pub IsUnclaimed : Listed → DocumentContext → List ℕ → List ℕ → Unread → Type 0
IsUnclaimed o kept query rest (U.Document e) = ⊥
IsUnclaimed o kept query rest (U.Query e) = IsNotAsked o kept query e
IsUnclaimed o kept query rest (U.Line n) = IsMalformed o kept query rest n
IsUnclaimed o kept query rest U.NoMemory = Unit {0}

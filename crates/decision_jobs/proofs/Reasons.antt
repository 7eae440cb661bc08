-- What is read of an input, and what keeps it from being verified, from its parts to the whole.
use Rattle.std.proofs.Common.{◌≡◌, ℕ, ◌≤◌, List, length, drop, Result, Ok, Err, ap, sym, subst, ◌∙◌}
use Rattle.std.specs.Prelude.{IfErr}
use Rattle.std.specs.Result.{result_map_both}
use Rattle.shq_terms.specs.Listed.{Listed}
use Rattle.shq_terms.specs.declared.axioms.Query.{Query as Asked}
use Rattle.ofn_expressions.specs.Counts.{Counts}
use Rattle.ofn_reader.specs.DocumentContext.{DocumentContext}
use Rattle.ofn_reader.specs.Documents.{IsDocument}
use Rattle.certificate_lines.specs.Malformed.{IsFirstMalformed}
use Rattle.decision_jobs.specs.Certificates.{certificate_lines, certificate, IsUnreadBy}
use Rattle.decision_jobs.specs.Malformed.{certificate_read}
use Rattle.decision_jobs.proofs.FirstMalformed.{malformed_is_first}
use Rattle.job_inputs.specs.LimitLaws.{with_names}
use Rattle.job_inputs.specs.Asked.{IsAsked, judged, malformed_line, IsUndocumented, IsUnasked}
use Rattle.decision_jobs.specs.Checking.{IsInput, IsVerdict, IsVerdictOn, IsReply, no_document, no_query, shown}
use Rattle.decision_jobs.specs.Checking.{IsUnclaimed, IsUnread}
use Rattle.decision_jobs.specs.declared.checking.Input.{Input}
use Rattle.job_inputs.specs.declared.verdict.Verdict.{Verdict}
use Rattle.job_inputs.specs.declared.unread.Unread.{Unread}
use Rattle.job_inputs.specs.declared.unread.Unread.TheVariants.{Document, Query, Line, NoMemory}

pub mapped_err : {T U E : Type 0} {P Q : E → Type 0} (f : T → U) (r : Result T E) (out : Result U E)
    → out ≡ result_map_both f (λ e. e) r → ((e : E) → P e → Q e) → IfErr r P → IfErr out Q
mapped_err {Q = Q} f (Ok x) out is so p = subst (λ o. IfErr o Q) (sym is) tt
mapped_err {Q = Q} f (Err e) out is so p = subst (λ o. IfErr o Q) (sym is) (so e p)

pub undocumented : (query bytes : List ℕ) (u : Unread) → IsUndocumented bytes u → IsUnread query bytes u
undocumented query bytes (Document e) why = no_document e why
undocumented query bytes (Query e) why = absurd why
undocumented query bytes (Line n) why = absurd why
undocumented query bytes NoMemory why = tt

pub unasked : (o : Listed) (kept : DocumentContext) (query rest : List ℕ) (u : Unread) → IsUnasked o kept query u
    → IsUnclaimed o kept query rest u
unasked o kept query rest (Document e) why = absurd why
unasked o kept query rest (Query e) why = why
unasked o kept query rest (Line n) why = absurd why
unasked o kept query rest NoMemory why = tt

pub uncertified : (o : Listed) (kept : DocumentContext) (query rest : List ℕ) (counts : Counts) (q : Asked)
    (both : Listed)
    → IsAsked o kept query counts q → both ≡ with_names o counts → length rest ≤ 4294967293
    → (u : Unread) → IsUnreadBy (certificate both rest) u → IsUnclaimed o kept query rest u
uncertified o kept query rest counts q both is_query names short (Document e) why = absurd why
uncertified o kept query rest counts q both is_query names short (Query e) why = absurd why
uncertified o kept query rest counts q both is_query names short (Line n) why = record {
  counts = counts;
  asked = q;
  is_query = is_query;
  is_first =
      subst (λ (l : Listed). IsFirstMalformed 1 (certificate_read l) (certificate_lines rest) n) names
      (malformed_is_first both rest n short why);
}
uncertified o kept query rest counts q both is_query names short NoMemory why = tt

pub unclaimed : (query bytes : List ℕ) (o : Listed) (kept : DocumentContext) (end : ℕ) → IsDocument bytes o kept end
    → (u : Unread) → IsUnclaimed o kept query (drop end bytes) u → IsUnread query bytes u
unclaimed query bytes o kept end is_document (Document e) why = absurd why
unclaimed query bytes o kept end is_document (Query e) why = no_query o kept end e is_document why
unclaimed query bytes o kept end is_document (Line n) why =
    shown o kept end why.counts why.asked (malformed_line n) is_document why.is_query why.is_first
unclaimed query bytes o kept end is_document NoMemory why = tt

-- the verdict on an input that was read is what is replied
pub verdict_said : (query bytes : List ℕ) (x : Input) (v : Verdict) → IsInput query bytes x → IsVerdict x v
    → IsReply query bytes (judged v)
verdict_said query bytes x v is says =
    let c = is.is_claim in
    let both = with_names is.document c.counts in
    let verdict : IsVerdictOn both x.asked x.certificate v =
    subst (λ l. IsVerdictOn l x.asked x.certificate v) c.listed says in
    let found : certificate both (drop is.end bytes) ≡ Ok x.certificate =
    ap (λ l. certificate l (drop is.end bytes)) (sym c.listed) ∙ c.found in
    shown is.document is.kept is.end c.counts x.asked (judged v) is.is_document c.is_query
    (x.certificate, found, verdict)

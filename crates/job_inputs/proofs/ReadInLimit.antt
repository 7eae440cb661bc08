-- A question that is read is in limit, and its names can be written.
use Rattle.std.proofs.Common.{◌≡◌, ℕ, List, sym, subst}
use Rattle.shq_terms.specs.Concept.{bottom}
use Rattle.shq_terms.specs.Listed.{Listed}
use Rattle.shq_terms.specs.declared.axioms.On.TheVariants.{Any}
use Rattle.shq_terms.specs.declared.axioms.Query.{Query as Asked}
use Rattle.text_laws.specs.DocumentContext.{DocumentContext}
use Rattle.text_laws.specs.Limits.{IsInLimit}
use Rattle.text_laws.specs.LimitLaws.{AreWritable}
use Rattle.text_laws.proofs.InLimit.{queries_in_limit, classes_in_limit, queries_list_names, classes_list_names}
use Rattle.job_inputs.specs.Questions.{Text, has_element, follows, IsDocumentAlone, IsReadQuestion}

pub question_in_limit : (bytes : List ℕ) (o : Listed) (kept : DocumentContext) (question : Text) (both : Listed)
    (q : Asked)
    → IsDocumentAlone bytes o kept → IsReadQuestion o kept question both q → IsInLimit both q
question_in_limit bytes o kept (follows statement) both q d x =
    subst (λ l. IsInLimit l q) (sym x.both_are)
    (queries_in_limit bytes o kept d.end d.is_document statement x.counts q x.is_asked)
question_in_limit bytes o kept (has_element class) both q d x =
    let nothing : Asked = record { sub = q.sub; sup = bottom; on = Any } in
    let same : nothing ≡ q = λ i. record { sub = q.sub; sup = sym x.is_asked.1 i; on = sym x.is_asked.2 i } in
    subst (IsInLimit both) same
    (subst (λ l. IsInLimit l nothing) (sym x.both_are)
    (classes_in_limit bytes o kept d.end d.is_document class x.counts q.sub x.is_asked.0))

pub question_writable : (bytes : List ℕ) (o : Listed) (kept : DocumentContext) (question : Text) (both : Listed)
    (q : Asked)
    → IsDocumentAlone bytes o kept → IsReadQuestion o kept question both q → AreWritable both
question_writable bytes o kept (follows statement) both q d x =
    subst AreWritable (sym x.both_are)
    (queries_list_names bytes o kept d.end d.is_document statement x.counts q x.is_asked)
question_writable bytes o kept (has_element class) both q d x =
    subst AreWritable (sym x.both_are)
    (classes_list_names bytes o kept d.end d.is_document class x.counts q.sub x.is_asked.0)

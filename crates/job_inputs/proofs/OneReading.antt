-- What is read is not refused, and is read or refused in one way.
use Rattle.std.proofs.Common.{◌≡◌, ℕ, ◌+◌, List, drop, ap, sym, ◌∙◌, subst}
use Rattle.shq_terms.specs.Listed.{Listed}
use Rattle.shq_terms.specs.declared.axioms.Query.{Query as Asked}
use Rattle.text_laws.specs.Counts.{Counts}
use Rattle.text_laws.specs.Refusal.{Refusal}
use Rattle.text_laws.specs.Refusal.TheVariants.{BadShape}
use Rattle.text_laws.specs.DocumentContext.{DocumentContext}
use Rattle.text_laws.specs.Queries.{query_start}
use Rattle.text_laws.proofs.Unique.{documents, documents_not_refused, queries, queries_not_refused, classes}
use Rattle.text_laws.proofs.Unique.{classes_not_refused}
use Rattle.text_laws.proofs.OneReason.{document_refusals, query_refusals, class_refusals}
use Rattle.text_laws.specs.LimitLaws.{with_names}
use Rattle.job_inputs.specs.Asked.{refused_document, refused_query}
use Rattle.job_inputs.specs.Rest.{IsOnlyGap, IsStray, line_at}
use Rattle.job_inputs.specs.Questions.{Text, has_element, follows, IsAskedBy, IsNotAskedBy, IsDocumentAlone}
use Rattle.job_inputs.specs.Questions.{no_document, more, document, query}
use Rattle.job_inputs.specs.Laws.{DocumentsAloneAreNotRefused, DocumentAloneRefusalsAreUnique, QuestionsAreUnique}
use Rattle.job_inputs.specs.Laws.{QuestionsAreNotRefused, QuestionRefusalsAreUnique}
use Rattle.job_inputs.proofs.Strays.{gaps_have_no_stray, strays_are_unique}

-- ---- documents alone

pub alone_not_refused : DocumentsAloneAreNotRefused
alone_not_refused bytes o kept _ d (no_document e why) = documents_not_refused bytes o kept d.end e d.is_document why
alone_not_refused bytes o kept _ d (more p k end place found stray) =
    let same = documents bytes o p kept k d.end end d.is_document found in
    gaps_have_no_stray (drop end bytes) place (subst (λ n. IsOnlyGap (drop n bytes)) same.2 d.alone) stray

pub alone_refusals : DocumentAloneRefusalsAreUnique
alone_refusals bytes _ _ (no_document e why) (no_document f because) = document_refusals bytes e f why because
alone_refusals bytes _ _ (no_document e why) (more p k end place found stray) =
    absurd (documents_not_refused bytes p k end e found why)
alone_refusals bytes _ _ (more o j end place found stray) (no_document f because) =
    absurd (documents_not_refused bytes o j end f found because)
alone_refusals bytes _ _ (more o j end place found stray) (more p k last other there away) =
    let same = documents bytes o p j k end last found there in
    let one =
    strays_are_unique (drop last bytes) place other (subst (λ n. IsStray (drop n bytes) place) same.2 stray) away in
    λ i. BadShape (line_at bytes (same.2 i + one i))

-- ---- queries

same_asked : (o : Listed) (kept : DocumentContext) (question : Text) (a b : Counts) (p q : Asked)
    → IsAskedBy o kept question a p → IsAskedBy o kept question b q → (a ≡ b) × (p ≡ q)
same_asked o kept (follows statement) a b p q x y =
    queries kept.prefixes o.axioms (query_start o kept.nodes) statement a b p q x y
same_asked o kept (has_element class) a b p q x y =
    let same = classes kept.prefixes o.axioms (query_start o kept.nodes) class a b p.sub q.sub x.0 y.0 in
    let sups : p.sup ≡ q.sup = x.1 ∙ sym y.1 in
    let ons : p.on ≡ q.on = x.2 ∙ sym y.2 in
    (same.0, λ i. record { sub = same.1 i; sup = sups i; on = ons i })

asked_not_refused : (o : Listed) (kept : DocumentContext) (question : Text) (a : Counts) (q : Asked) (e : Refusal)
    → IsAskedBy o kept question a q → IsNotAskedBy o kept question e → ⊥
asked_not_refused o kept (follows statement) a q e x why =
    queries_not_refused kept.prefixes o.axioms (query_start o kept.nodes) statement a q e x why
asked_not_refused o kept (has_element class) a q e x why =
    classes_not_refused kept.prefixes o.axioms (query_start o kept.nodes) class a q.sub e x.0 why

same_refusal : (o : Listed) (kept : DocumentContext) (question : Text) (e f : Refusal) → IsNotAskedBy o kept question e
    → IsNotAskedBy o kept question f → e ≡ f
same_refusal o kept (follows statement) e f why because =
    query_refusals kept.prefixes o.axioms (query_start o kept.nodes) statement e f why because
same_refusal o kept (has_element class) e f why because =
    class_refusals kept.prefixes o.axioms (query_start o kept.nodes) class e f why because

-- ---- questions

-- what holds of one document alone holds of each other that the bytes are
moved : (P : Listed → DocumentContext → Type 0) (bytes : List ℕ) (o p : Listed) (j k : DocumentContext)
    → IsDocumentAlone bytes o j → IsDocumentAlone bytes p k → P o j → P p k
moved P bytes o p j k d e holds =
    let same = documents bytes o p j k d.end e.end d.is_document e.is_document in
    subst (λ i. P p i) same.1 (subst (λ l. P l j) same.0 holds)

pub questions : QuestionsAreUnique
questions question bytes o p q r x y =
    let same =
    documents bytes x.document y.document x.kept y.kept x.is_document.end y.is_document.end x.is_document.is_document
    y.is_document.is_document in
    let there =
    moved (λ l k. IsAskedBy l k question x.counts q) bytes x.document y.document x.kept y.kept x.is_document
    y.is_document x.is_asked in
    let asked = same_asked y.document y.kept question x.counts y.counts q r there y.is_asked in
    (x.both_are ∙ (λ i. with_names (same.0 i) (asked.0 i)) ∙ sym y.both_are, asked.1)

pub questions_not_refused : QuestionsAreNotRefused
questions_not_refused question bytes o q _ x (document e why) =
    alone_not_refused bytes x.document x.kept e x.is_document why
questions_not_refused question bytes o q _ x (query p k e d why) =
    asked_not_refused p k question x.counts q e
    (moved (λ l j. IsAskedBy l j question x.counts q) bytes x.document p x.kept k x.is_document d x.is_asked) why

pub question_refusals : QuestionRefusalsAreUnique
question_refusals question bytes _ _ (document e why) (document f because) =
    ap refused_document (alone_refusals bytes e f why because)
question_refusals question bytes _ _ (document e why) (query p k f d because) =
    absurd (alone_not_refused bytes p k e d why)
question_refusals question bytes _ _ (query o j e d why) (document f because) =
    absurd (alone_not_refused bytes o j f d because)
question_refusals question bytes _ _ (query o j e d why) (query p k f there because) =
    ap refused_query
    (same_refusal p k question e f (moved (λ l i. IsNotAskedBy l i question e) bytes o p j k d there why) because)

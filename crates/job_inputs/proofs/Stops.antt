-- Why a reader stopped, and what keeps a document or a query from being read then.
use Rattle.std.proofs.Common.{◌≡◌, ◌≢◌, ℕ, List, sym, subst}
use Rattle.shq_terms.specs.Listed.{Listed}
use Rattle.text_laws.specs.Refusal.{Refusal}
use Rattle.text_laws.specs.Refusal.TheVariants as R
use Rattle.text_laws.specs.DocumentContext.{DocumentContext}
use Rattle.text_laws.specs.Documents.{IsNoDocument}
use Rattle.job_inputs.specs.Asked.{IsNotAsked, IsUndocumented, IsUnasked}
use Rattle.job_inputs.specs.Unread.{document_unread, query_unread}
use Rattle.job_inputs.specs.declared.unread.Unread.{Unread}

pub document_refused : (bytes : List ℕ) (e : Refusal) (u : Unread) → u ≡ document_unread e
    → (e ≢ R.NoMemory → IsNoDocument bytes e) → IsUndocumented bytes u
document_refused bytes e u is why = subst (IsUndocumented bytes) (sym is) (by e why)
  where
    by : (e : Refusal) → (e ≢ R.NoMemory → IsNoDocument bytes e) → IsUndocumented bytes (document_unread e)
    by R.NoMemory why = tt
    by (R.Text fault) why = why (λ h. absurd (cc h))
    by (R.BadShape line) why = why (λ h. absurd (cc h))
    by (R.UnknownPrefix line) why = why (λ h. absurd (cc h))
    by (R.PrefixClash line) why = why (λ h. absurd (cc h))
    by (R.Outside line construct) why = why (λ h. absurd (cc h))
    by (R.NotSimple line) why = why (λ h. absurd (cc h))
    by (R.Limit w line) why = why (λ h. absurd (cc h))

pub query_refused : (o : Listed) (kept : DocumentContext) (query : List ℕ) (e : Refusal) (u : Unread)
    → u ≡ query_unread e → (e ≢ R.NoMemory → IsNotAsked o kept query e) → IsUnasked o kept query u
query_refused o kept query e u is why = subst (IsUnasked o kept query) (sym is) (by e why)
  where
    by : (e : Refusal) → (e ≢ R.NoMemory → IsNotAsked o kept query e) → IsUnasked o kept query (query_unread e)
    by R.NoMemory why = tt
    by (R.Text fault) why = why (λ h. absurd (cc h))
    by (R.BadShape line) why = why (λ h. absurd (cc h))
    by (R.UnknownPrefix line) why = why (λ h. absurd (cc h))
    by (R.PrefixClash line) why = why (λ h. absurd (cc h))
    by (R.Outside line construct) why = why (λ h. absurd (cc h))
    by (R.NotSimple line) why = why (λ h. absurd (cc h))
    by (R.Limit w line) why = why (λ h. absurd (cc h))

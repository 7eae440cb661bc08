-- What keeps a document or a question from being read.
use Rattle.std.proofs.Common.{◌≡◌, ◌≢◌, ℕ, List, sym, subst}
use Rattle.shq_terms.specs.Listed.{Listed}
use Rattle.text_laws.specs.Refusal.{Refusal}
use Rattle.text_laws.specs.Refusal.TheVariants as R
use Rattle.text_laws.specs.DocumentContext.{DocumentContext}
use Rattle.job_inputs.specs.Unread.{query_unread}
use Rattle.job_inputs.specs.declared.unread.Unread.{Unread}
use Rattle.job_inputs.specs.declared.unread.Unread.TheVariants as U
use Rattle.job_inputs.specs.Asked.{IsUndocumented}
use Rattle.job_inputs.specs.Questions.{has_element, no_document, IsNoClassOf, IsUnreadDocument, IsUnreadQuestion}

pub class_refused : (o : Listed) (kept : DocumentContext) (class : List ℕ) (e : Refusal) (u : Unread)
    → u ≡ query_unread e → (e ≢ R.NoMemory → IsNoClassOf o kept class e) → IsUnreadQuestion o kept (has_element class) u
class_refused o kept class e u is why = subst (IsUnreadQuestion o kept (has_element class)) (sym is) (by e why)
  where
    by : (e : Refusal) → (e ≢ R.NoMemory → IsNoClassOf o kept class e)
        → IsUnreadQuestion o kept (has_element class) (query_unread e)
    by R.NoMemory why = tt
    by (R.Text fault) why = why (λ h. absurd (cc h))
    by (R.BadShape line) why = why (λ h. absurd (cc h))
    by (R.UnknownPrefix line) why = why (λ h. absurd (cc h))
    by (R.PrefixClash line) why = why (λ h. absurd (cc h))
    by (R.Outside line construct) why = why (λ h. absurd (cc h))
    by (R.NotSimple line) why = why (λ h. absurd (cc h))
    by (R.Limit w line) why = why (λ h. absurd (cc h))

-- what is no document is no document alone
pub undocumented : (bytes : List ℕ) (u : Unread) → IsUndocumented bytes u → IsUnreadDocument bytes u
undocumented bytes (U.Document e) why = no_document e why
undocumented bytes (U.Query e) why = absurd why
undocumented bytes (U.Line n) why = absurd why
undocumented bytes U.NoMemory why = tt

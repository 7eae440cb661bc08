-- How a run ends that reads no input, or runs out of memory.
use Rattle.std.proofs.Common.{◌≡◌, ℕ, Bool, true, false, Option, Some, None, List, [], refl, ap, sym, ◌∙◌, subst}
use Rattle.job_inputs.specs.Answer.{Answer, no_memory, complaint_answer, IsAnswer, Gives}
use Rattle.job_inputs.specs.Asked.{refused_document, refused_query}
use Rattle.job_inputs.specs.Complaints.{Complaint, complaint, sort_status}
use Rattle.job_inputs.specs.Inputs.{IsNoInputOf}
use Rattle.job_inputs.specs.Questions.{Text, IsUnreadDocument}
use Rattle.job_inputs.specs.Refusals.{IsRefused, IsRefusedDocument}
use Rattle.job_inputs.specs.Replies.{unread_answer}
use Rattle.job_inputs.specs.declared.complaint.Place.{Place}
use Rattle.job_inputs.specs.declared.complaint.Place.TheVariants.{Document, Query}
use Rattle.job_inputs.specs.declared.complaint.Sort.{Sort}
use Rattle.job_inputs.specs.declared.complaint.Sort.TheVariants as S
use Rattle.job_inputs.specs.declared.status.Status.{Status}
use Rattle.job_inputs.specs.declared.status.Status.TheVariants.{Done, Rejected, BadWords, BadText, Outside, Limit}
use Rattle.job_inputs.specs.declared.status.Status.TheVariants.{ReadFault, WriteFault, Undecided, NoMemory}
use Rattle.job_inputs.specs.declared.unread.Unread.{Unread}
use Rattle.job_inputs.specs.declared.unread.Unread.TheVariants as U

-- whether it may be the answer to what is refused
abbrev pub is_refusal : Status → Bool
is_refusal BadText = true
is_refusal Outside = true
is_refusal Limit = true
is_refusal NoMemory = true
is_refusal Done = false
is_refusal Rejected = false
is_refusal BadWords = false
is_refusal ReadFault = false
is_refusal WriteFault = false
is_refusal Undecided = false

sort_refuses : (s : Sort) → is_refusal (sort_status s) ≡ true
sort_refuses S.BadText = refl
sort_refuses S.Outside = refl
sort_refuses S.Limit = refl

pub complaint_refuses : (place : Place) (c : Option Complaint) → is_refusal (complaint_answer place c).0 ≡ true
complaint_refuses place None = refl
complaint_refuses place (Some c) = sort_refuses c.sort

no_other : (a : Answer) (out : List ℕ) (s : Status) (T : Type 0) → is_refusal a.0 ≡ true → is_refusal s ≡ false
    → IsAnswer a out s → T
no_other a out s T refuses other is =
    let clash : false ≡ true = sym other ∙ ap (λ (b : Answer). is_refusal b.0) is ∙ refuses in absurd (cc clash)

-- what is so of each status by which a refusal may be answered is so of the answer's
module _ (P : Status → Type 0) (out : List ℕ) (memory : out ≡ no_memory → P NoMemory) where
  refusal_ends : (a : Answer) (s : Status) → is_refusal a.0 ≡ true → Gives a out s
      → (IsAnswer a out BadText → P BadText) → (IsAnswer a out Outside → P Outside) → (IsAnswer a out Limit → P Limit)
      → P s
  refusal_ends a BadText refuses is bad outside limit = bad is
  refusal_ends a Outside refuses is bad outside limit = outside is
  refusal_ends a Limit refuses is bad outside limit = limit is
  refusal_ends a NoMemory refuses is bad outside limit = memory is
  refusal_ends a Done refuses is bad outside limit = no_other a out Done _ refuses refl is
  refusal_ends a Rejected refuses is bad outside limit = no_other a out Rejected _ refuses refl is
  refusal_ends a BadWords refuses is bad outside limit = no_other a out BadWords _ refuses refl is
  refusal_ends a ReadFault refuses is bad outside limit = no_other a out ReadFault _ refuses refl is
  refusal_ends a WriteFault refuses is bad outside limit = no_other a out WriteFault _ refuses refl is
  refusal_ends a Undecided refuses is bad outside limit = no_other a out Undecided _ refuses refl is

  pub complaint_ends : (place : Place) (c : Option Complaint) (s : Status) → Gives (complaint_answer place c) out s
      → (IsAnswer (complaint_answer place c) out BadText → P BadText)
      → (IsAnswer (complaint_answer place c) out Outside → P Outside)
      → (IsAnswer (complaint_answer place c) out Limit → P Limit)
      → P s
  complaint_ends place c s is =
      refusal_ends (complaint_answer place c) s (complaint_refuses place c) is

  -- out of memory
  pub memory_ends : (s : Status) → IsAnswer (NoMemory, no_memory) out s → P s
  memory_ends s is =
      subst P (sym (ap (λ (a : Answer). a.0) is)) (memory (ap (λ (a : Answer). a.1) is))

  pub want_ends : (s : Status) → Gives (NoMemory, no_memory) out s → P s
  want_ends NoMemory is = memory is
  want_ends BadText is = memory_ends BadText is
  want_ends Outside is = memory_ends Outside is
  want_ends Limit is = memory_ends Limit is
  want_ends Done is = memory_ends Done is
  want_ends Rejected is = memory_ends Rejected is
  want_ends BadWords is = memory_ends BadWords is
  want_ends ReadFault is = memory_ends ReadFault is
  want_ends WriteFault is = memory_ends WriteFault is
  want_ends Undecided is = memory_ends Undecided is

  -- a document that is not read, with a log that is empty
  pub document_ends : {E : Type 0} (bytes : List ℕ) (log : List E) (s : Status) (u : Unread) → log ≡ []
      → IsUnreadDocument bytes u → Gives (unread_answer u) out s
      → (IsRefusedDocument bytes out BadText log → P BadText)
      → (IsRefusedDocument bytes out Outside log → P Outside)
      → (IsRefusedDocument bytes out Limit log → P Limit)
      → P s
  document_ends bytes log s (U.Document e) none why is bad outside limit =
      complaint_ends Document (complaint e) s is
      (λ a. bad (record { refusal = e; refused = why; answer = a; unlogged = none }))
      (λ a. outside (record { refusal = e; refused = why; answer = a; unlogged = none }))
      (λ a. limit (record { refusal = e; refused = why; answer = a; unlogged = none }))
  document_ends bytes log s (U.Query e) none why is bad outside limit = absurd why
  document_ends bytes log s (U.Line n) none why is bad outside limit = absurd why
  document_ends bytes log s U.NoMemory none why is bad outside limit = want_ends s is

  -- a question on a document that is not read
  pub question_ends : {E : Type 0} (question : Text) (bytes : List ℕ) (log : List E) (s : Status) (u : Unread)
      → log ≡ [] → IsNoInputOf question bytes u → Gives (unread_answer u) out s
      → (IsRefused question bytes out BadText log → P BadText)
      → (IsRefused question bytes out Outside log → P Outside)
      → (IsRefused question bytes out Limit log → P Limit)
      → P s
  question_ends question bytes log s (U.Document e) none why is bad outside limit =
      complaint_ends Document (complaint e) s is
      (λ a. bad (record { reply = refused_document e; refused = why; answer = a; unlogged = none }))
      (λ a. outside (record { reply = refused_document e; refused = why; answer = a; unlogged = none }))
      (λ a. limit (record { reply = refused_document e; refused = why; answer = a; unlogged = none }))
  question_ends question bytes log s (U.Query e) none why is bad outside limit =
      complaint_ends Query (complaint e) s is
      (λ a. bad (record { reply = refused_query e; refused = why; answer = a; unlogged = none }))
      (λ a. outside (record { reply = refused_query e; refused = why; answer = a; unlogged = none }))
      (λ a. limit (record { reply = refused_query e; refused = why; answer = a; unlogged = none }))
  question_ends question bytes log s (U.Line n) none why is bad outside limit = absurd why
  question_ends question bytes log s U.NoMemory none why is bad outside limit = want_ends s is

-- From a script that was run to what is answered.
use Rattle.std.proofs.Common.{◌≡◌, ℕ, false, List, [], ◌∷◌, drop, refl, sym, subst, inl}
use Rattle.certificate_lines.specs.Lines.{lines}
use Rattle.shq_terms.specs.Listed.{Listed}
use Rattle.ofn_expressions.specs.declared.refusal.Refusal.{Refusal}
use Rattle.ofn_reader.specs.DocumentContext.{DocumentContext}
use Rattle.ofn_reader.specs.Documents.{IsDocument, IsNoDocument}
use Rattle.shq_oracle.specs.Entry.{Entry}
use Rattle.job_inputs.specs.Answer.{no_memory, complaint_answer, IsAnswer, Gives, is_fault}
use Rattle.job_inputs.specs.Asked.{IsUndocumented}
use Rattle.job_inputs.specs.Complaints.{complaint}
use Rattle.job_inputs.specs.Replies.{unread_answer}
use Rattle.job_inputs.proofs.Ends.{complaint_ends, want_ends}
use Rattle.job_inputs.specs.declared.complaint.Place.TheVariants.{Document}
use Rattle.job_inputs.specs.declared.status.Status.{Status}
use Rattle.job_inputs.specs.declared.status.Status.TheVariants.{Done, Rejected, BadWords, BadText, Outside, Limit}
use Rattle.job_inputs.specs.declared.status.Status.TheVariants.{ReadFault, WriteFault, Undecided, NoMemory}
use Rattle.job_inputs.specs.declared.unread.Unread.{Unread}
use Rattle.job_inputs.specs.declared.unread.Unread.TheVariants as U
use Rattle.edit_session.specs.Sessions.{State, begun}
use Rattle.edit_session.specs.SessionLog.{IsSessionLog}
use Rattle.edit_session.specs.Lines.{HoldsMore}
use Rattle.edit_session.specs.ScriptLines.{script_lines}
use Rattle.edit_session.specs.Scripts.{IsWhollyTold, IsCutOff, IsScriptWritten, IsToldAtFirst, LogsNext}
use Rattle.edit_session.specs.Scripts.HasTold.{nothing}
use Rattle.edit_session.specs.Answers.{OnScript, IsRefusedScript, LogsSoFar, AnswersSession, BeginsSession}
use Rattle.edit_session.specs.Answering.{end_status, AnswersLines, IsUnanswered}
use Rattle.edit_session.specs.declared.said.Said.{Said}
use Rattle.edit_session.specs.declared.said.Said.TheVariants.{Answered, Spent}
use Rattle.edit_session.proofs.Scripted.{holds_same}

-- ---- the lines of a text

answered_by : (budget : ℕ) (s next : State) (ls : List (List ℕ)) (log : List Entry) (out : List ℕ) (said : Said)
    → IsScriptWritten budget s [] [] ls next log out said → AnswersLines budget log (end_status said) out s ls
answered_by budget s next ls log out Answered (told, whole, put) =
    (next, subst (IsWhollyTold budget s [] ls next log) (sym put) whole)
answered_by budget s next ls log out Spent (told, cut, put) = subst (IsCutOff budget s [] ls log) (sym put) cut

-- what was put after nothing, with a log that was empty, is the answer
module _ (budget : ℕ) (s next : State) (before : List Entry) (text : List ℕ) (read ls : List (List ℕ))
    (log : List Entry)
    (out : List ℕ) (said : Said) (none : before ≡ []) (empty : text ≡ []) (same : read ≡ ls)
    (written : IsScriptWritten budget s before text read next log out said) where
  unlogged : IsScriptWritten budget s [] text read next log out said
  unlogged = subst (λ (es : List Entry). IsScriptWritten budget s es text read next log out said) none written

  unwritten : IsScriptWritten budget s [] [] read next log out said
  unwritten = subst (λ (xs : List ℕ). IsScriptWritten budget s [] xs read next log out said) empty unlogged

  pub lines_answered : (status : Status) → status ≡ end_status said → AnswersLines budget log status out s ls
  lines_answered status is =
      subst (λ (t : Status). AnswersLines budget log t out s ls) (sym is)
      (answered_by budget s next ls log out said
      (subst (λ (rs : List (List ℕ)). IsScriptWritten budget s [] [] rs next log out said) same unwritten))

-- ---- where memory was refused

logs_nothing : (budget : ℕ) (s : State) (behind : List (List ℕ)) (log : List Entry) → LogsNext budget s behind log log
logs_nothing budget s [] log = refl
logs_nothing budget s (l ∷ ls) log = inl (inl refl)

pub nothing_logged : (budget : ℕ) (log : List Entry) (s : State) (ls : List (List ℕ)) → log ≡ []
    → IsSessionLog s.ontology budget log → LogsSoFar budget log s ls
nothing_logged budget log s ls none honest = record {
  held = s.ontology;
  more = holds_same s.ontology;
  honest = honest;
  put = [];
  at_first = subst (λ (es : List Entry). IsToldAtFirst budget s [] [] ls es []) (sym none) (record {
    front = [];
    behind = script_lines ls;
    is_script = refl;
    standing = s;
    log = [];
    told = [];
    has_told = nothing;
    put = refl;
    logged = logs_nothing budget s (script_lines ls) [];
  });
}

pub logged_so_far : (budget : ℕ) (s : State) (held : Listed) (before log : List Entry) (text : List ℕ)
    (read ls : List (List ℕ)) (out : List ℕ)
    → before ≡ [] → text ≡ [] → read ≡ ls → IsToldAtFirst budget s before text read log out
    → HoldsMore s.ontology held → IsSessionLog held budget log → LogsSoFar budget log s ls
logged_so_far budget s held before log text read ls out none empty same first more honest = record {
  held = held;
  more = more;
  honest = honest;
  put = out;
  at_first =
      subst (λ (ms : List (List ℕ)). IsToldAtFirst budget s [] [] ms log out) same
      (subst (λ (xs : List ℕ). IsToldAtFirst budget s [] xs read log out) empty
      (subst (λ (es : List Entry). IsToldAtFirst budget s es text read log out) none first));
}

-- ---- a document

pub on_script : (is_so : State → List (List ℕ) → Type 0) (bytes rest : List ℕ) (o : Listed) (kept : DocumentContext)
    (end : ℕ)
    → IsDocument bytes o kept end → rest ≡ drop end bytes → is_so (begun o kept) (lines rest) → OnScript is_so bytes
on_script is_so bytes rest o kept end is behind so = record {
  ontology = o;
  kept = kept;
  end = end;
  is_document = is;
  so = subst (λ (text : List ℕ). is_so (begun o kept) (lines text)) behind so;
}

-- why there is no document
pub no_document : (budget : ℕ) (bytes : List ℕ) (log : List Entry) (u : Unread) → log ≡ [] → IsUndocumented bytes u
    → IsUnanswered budget bytes log u
no_document budget bytes log (U.Document e) none why = (why, none)
no_document budget bytes log (U.Query e) none why = absurd why
no_document budget bytes log (U.Line n) none why = absurd why
no_document budget bytes log U.NoMemory none why = inl none

-- ---- the answer

module _ (budget : ℕ) (bytes out : List ℕ) (log : List Entry) where
  abbrev Tells : Status → Type 0
  Tells s = AnswersSession budget bytes out s log

  memory : BeginsSession budget bytes log → out ≡ no_memory → Tells NoMemory
  memory begun text = record { text = text; log_is = begun }

  refused : (e : Refusal) → IsNoDocument bytes e → log ≡ [] → (s : Status)
      → IsAnswer (complaint_answer Document (complaint e)) out s → IsRefusedScript bytes out s log
  refused e why none s is = record { refusal = e; refused = why; answer = is; unlogged = none }

  pub unread_answered : (s : Status) (u : Unread) → IsUnanswered budget bytes log u → Gives (unread_answer u) out s
      → Tells s
  unread_answered s (U.Document e) why gives =
      complaint_ends Tells out (memory (inl why.1)) Document (complaint e) s gives
      (refused e why.0 why.1 BadText) (refused e why.0 why.1 Outside) (refused e why.0 why.1 Limit)
  unread_answered s (U.Query e) why gives = absurd why
  unread_answered s (U.Line n) why gives = absurd why
  unread_answered s U.NoMemory why gives = want_ends Tells out (memory why) s gives

  pub script_answered : (s : Status) → OnScript (AnswersLines budget log s out) bytes
      → AnswersSession budget bytes out s log
  script_answered Done x = x
  script_answered Undecided x = x
  script_answered NoMemory x = absurd x.so
  script_answered BadText x = absurd x.so
  script_answered Outside x = absurd x.so
  script_answered Limit x = absurd x.so
  script_answered Rejected x = x.so
  script_answered BadWords x = x.so
  script_answered ReadFault x = x.so
  script_answered WriteFault x = x.so

  pub script_no_fault : (s : Status) → OnScript (AnswersLines budget log s out) bytes → is_fault s ≡ false
  script_no_fault ReadFault x = absurd x.so
  script_no_fault WriteFault x = absurd x.so
  script_no_fault Done x = refl
  script_no_fault Undecided x = refl
  script_no_fault NoMemory x = refl
  script_no_fault BadText x = refl
  script_no_fault Outside x = refl
  script_no_fault Limit x = refl
  script_no_fault Rejected x = refl
  script_no_fault BadWords x = refl

-- What an answer says of the input that was read.
use Rattle.std.proofs.Common.{◌≡◌, ◌≢◌, ℕ, ◌+◌, ◌<◌, ◌≤◌, ◌^◌, List, [], ◌∷◌, ◌++◌, inl, inr, length, drop, true, false}
use Rattle.std.proofs.Common.{Option, Some, None, refl, ap, sym, ◌∙◌, subst, append-nil, arith}
use Rattle.std.specs.Prelude.{IfSome, MatchOption, nat_lt}
use Rattle.std.specs.Io.KnownBytes.{Consumes, Appends, IsAtEnd}
use Rattle.std.proofs.lemmas.Bool.Decides.{nat_tests}
use Rattle.shq_io.specs.Causes.{TakesOut, TakesPrefix}
use Rattle.shq_io.specs.declared.whole.ReadEnd.{ReadEnd}
use Rattle.shq_io.specs.declared.whole.ReadEnd.TheVariants as E
use Rattle.edit_session.specs.Entry.{Entry}
use Rattle.job_inputs.specs.Answer.{Answer, IsAnswer, is_fault}
use Rattle.job_inputs.specs.declared.status.Status.{Status}
use Rattle.job_inputs.specs.declared.status.Status.TheVariants.{Done, Rejected, BadWords, BadText, Outside, Limit}
use Rattle.job_inputs.specs.declared.status.Status.TheVariants.{ReadFault}
use Rattle.job_inputs.specs.declared.status.Status.TheVariants.{WriteFault, Undecided, NoMemory}
use Rattle.pinpointing_jobs.specs.Answers.{AnswersWorkload}
use Rattle.ontology_jobs.specs.Words.{Job, Request, on_input, generated, request_of}
use Rattle.ontology_jobs.specs.Answers.{end_answer, AnswersRead, AnswersJob, AnswersRequest, IsBadWords, Answers}
use Rattle.ontology_jobs.specs.Answers.{Answered, AreAll, AnswersJobOnAll, AnswersRequestOnAll, AnswersAll, AnsweredAll}
use Rattle.ontology_jobs.specs.Answers.{left_by, LeavesFor}

-- an answer to an input that was read and is not too long is one of the job
job_answers : (job : Job) (bytes out : List ℕ) (s : Status) (log : List Entry) → length bytes ≤ 2 ^ 24
    → is_fault s ≡ false → AnswersRead job bytes out s log → AnswersJob job bytes out s log
job_answers job bytes out Done log short sound answer = inr (short, answer)
job_answers job bytes out Rejected log short sound answer = inr (short, answer)
job_answers job bytes out BadWords log short sound answer = inr (short, answer)
job_answers job bytes out BadText log short sound answer = inr (short, answer)
job_answers job bytes out Outside log short sound answer = inr (short, answer)
job_answers job bytes out Limit log short sound answer = inr (short, answer)
job_answers job bytes out ReadFault log short sound answer = absurd (cc sound)
job_answers job bytes out WriteFault log short sound answer = inr (short, answer)
job_answers job bytes out Undecided log short sound answer = inr (short, answer)
job_answers job bytes out NoMemory log short sound answer = inr (short, answer)

-- bytes that are all of what a source holds that tells them
pub all_bytes : (held : Option (List ℕ)) → (bytes : List ℕ) × AreAll held bytes
all_bytes None = ([], tt)
all_bytes (Some all) = (all, refl)

-- an answer to the bytes that were read whole is one to all that the source held
pub read_answers : (before now : Option (List ℕ)) (job : Job) (input given out : List ℕ) (s : Status) (log : List Entry)
    → Consumes before now input → IsAtEnd now → length input ≤ 2 ^ 24 → given ≡ input
    → is_fault s ≡ false → AnswersRead job given out s log → AnswersJobOnAll job before out s log
read_answers before now job input given out s log taken end short same sound answer = (
  input,
  whole before now taken end,
  job_answers job input out s log short sound (subst (λ b. AnswersRead job b out s log) same answer),
)
  where
    whole : (before now : Option (List ℕ)) → Consumes before now input → IsAtEnd now → AreAll before input
    whole None now taken end = tt
    whole (Some bytes) None taken end = absurd taken
    whole (Some bytes) (Some rest) taken end = taken ∙ ap (λ l. input ++ l) end ∙ append-nil input

-- bytes that are longer than the limit, where so many were given
long_bytes : (before now : Option (List ℕ)) → TakesOut (2 ^ 24 + 1) before now
    → IfSome before (λ bytes. 2 ^ 24 < length bytes) → (bytes : List ℕ) × AreAll before bytes × (2 ^ 24 < length bytes)
long_bytes None now out_of longer = (out_of.bytes, tt, omega (arith, out_of.count))
long_bytes (Some bytes) now out_of longer = (bytes, refl, longer)

-- the answer where the input was not read to its end
pub end_answers : (before now : Option (List ℕ)) (job : Job) (out : List ℕ) (s : Status) (log : List Entry)
    (end : ReadEnd)
    → IsAnswer (end_answer end) out s → log ≡ []
    → (end ≡ E.TooLong → TakesOut (2 ^ 24 + 1) before now)
    → (end ≡ E.TooLong → IfSome before (λ bytes. 2 ^ 24 < length bytes)) → AnswersJobOnAll job before out s log
end_answers before now job out s log end is none out_of longer =
    subst (λ (t : Status). AnswersJobOnAll job before out t log) (sym (ap (λ (a : Answer). a.0) is))
    (by end (ap (λ (a : Answer). a.1) is) out_of longer)
  where
    by : (end : ReadEnd) → out ≡ (end_answer end).1 → (end ≡ E.TooLong → TakesOut (2 ^ 24 + 1) before now)
        → (end ≡ E.TooLong → IfSome before (λ bytes. 2 ^ 24 < length bytes))
        → AnswersJobOnAll job before out (end_answer end).0 log
    by E.TooLong text out_of longer =
        let long = long_bytes before now (out_of refl) (longer refl) in
        (long.0, long.1, inl (record { long = long.2; answer = λ i. (Limit, text i); unlogged = none }))
    by E.Fault text out_of longer = let all = all_bytes before in (all.0, all.1, (text, none))
    by E.NoMemory text out_of longer =
        let all = all_bytes before in (all.0, all.1, inl (record { text = text; log_is = none }))

-- ---- requests

-- a workload is answered whatever the source holds
pub generated_answers : (held : Option (List ℕ)) (number budget : ℕ) (out : List ℕ) (s : Status) (log : List Entry)
    → AnswersWorkload number budget out s log → AnswersRequestOnAll (generated number budget) held out s log
generated_answers held number budget out s log answer = let all = all_bytes held in (all.0, all.1, answer)

-- it leaves all of what the source holds
pub generated_leaves : (held : Option (List ℕ)) (number budget : ℕ) (s : Status)
    → LeavesFor (Some (generated number budget)) held held s
generated_leaves held number budget ReadFault = tt
generated_leaves held number budget WriteFault = tt
generated_leaves held number budget NoMemory = tt
generated_leaves None number budget Done = tt
generated_leaves None number budget Rejected = tt
generated_leaves None number budget BadWords = tt
generated_leaves None number budget BadText = tt
generated_leaves None number budget Outside = tt
generated_leaves None number budget Limit = tt
generated_leaves None number budget Undecided = tt
generated_leaves (Some bytes) number budget Done = refl
generated_leaves (Some bytes) number budget Rejected = refl
generated_leaves (Some bytes) number budget BadWords = refl
generated_leaves (Some bytes) number budget BadText = refl
generated_leaves (Some bytes) number budget Outside = refl
generated_leaves (Some bytes) number budget Limit = refl
generated_leaves (Some bytes) number budget Undecided = refl

-- what answers the request that words make answers the words
pub words_answers : (held : Option (List ℕ)) (words : List (List ℕ)) (r : Request) (out : List ℕ) (s : Status)
    (log : List Entry)
    → Some r ≡ request_of words → AnswersRequestOnAll r held out s log → AnswersAll held words out s log
words_answers held words r out s log is (bytes, all, answer) = (
  bytes,
  all,
  subst (λ (x : Option Request). MatchOption x (IsBadWords out s log) (λ y. AnswersRequest y bytes out s log)) is
      answer,
)

-- the words of no job are answered whatever the source holds
pub bad_words_answers : (held : Option (List ℕ)) (words : List (List ℕ)) (out : List ℕ) (s : Status) (log : List Entry)
    → None ≡ request_of words → IsBadWords out s log → AnswersAll held words out s log
bad_words_answers held words out s log is bad =
    let all = all_bytes held in (
      all.0,
      all.1,
      subst (λ (x : Option Request). MatchOption x (IsBadWords out s log) (λ y. AnswersRequest y all.0 out s log)) is
          bad,
    )

-- ---- what is written

-- the whole text of an answer was taken
pub all_taken : (held before now : Option (List ℕ)) (words : List (List ℕ)) (out : List ℕ) (s : Status)
    (log : List Entry)
    → s ≢ WriteFault → AnswersAll held words out s log → Appends before now out
    → AnsweredAll held before now words s log
all_taken held before now words out s log sound (bytes, all, answer) taken = (bytes, all, by s sound answer)
  where
    by : (s : Status) → s ≢ WriteFault → Answers words bytes out s log → Answered before now words bytes s log
    by Done sound answer = (out, answer, taken)
    by Rejected sound answer = (out, answer, taken)
    by BadWords sound answer = (out, answer, taken)
    by BadText sound answer = (out, answer, taken)
    by Outside sound answer = (out, answer, taken)
    by Limit sound answer = (out, answer, taken)
    by ReadFault sound answer = (out, answer, taken)
    by WriteFault sound answer = absurd (sound refl)
    by Undecided sound answer = (out, answer, taken)
    by NoMemory sound answer = (out, answer, taken)

-- a front of it was taken
pub front_taken : (held before now : Option (List ℕ)) (words : List (List ℕ)) (out : List ℕ) (s : Status)
    (log : List Entry)
    → AnswersAll held words out s log → TakesPrefix out before now → AnsweredAll held before now words WriteFault log
front_taken held before now words out s log (bytes, all, answer) taken = (bytes, all, (s, out, answer, taken))

-- ---- what is left

none_left : (before now : Option (List ℕ)) (job : Job) (input : List ℕ) → Consumes before now input → IsAtEnd now
    → length input ≤ 2 ^ 24 → LeavesFor (Some (on_input job)) before now Done
none_left None now job input taken end short = tt
none_left (Some bytes) None job input taken end short = absurd taken
none_left (Some bytes) (Some rest) job input taken end short =
    let whole : bytes ≡ input = taken ∙ ap (λ l. input ++ l) end ∙ append-nil input in
    let fits : nat_lt (2 ^ 24) (length bytes) ≡ false = rw whole (grind (arith, nat_tests)) in
    ap Some (end ∙ rw fits)

-- what is left of bytes that were read whole, none of them
pub whole_leaves : (before now : Option (List ℕ)) (job : Job) (input : List ℕ) (s : Status) → Consumes before now input
    → IsAtEnd now → length input ≤ 2 ^ 24 → LeavesFor (Some (on_input job)) before now s
whole_leaves before now job input ReadFault taken end short = tt
whole_leaves before now job input WriteFault taken end short = tt
whole_leaves before now job input NoMemory taken end short = tt
whole_leaves before now job input Done taken end short = none_left before now job input taken end short
whole_leaves before now job input Rejected taken end short = none_left before now job input taken end short
whole_leaves before now job input BadWords taken end short = none_left before now job input taken end short
whole_leaves before now job input Limit taken end short = none_left before now job input taken end short
whole_leaves before now job input Outside taken end short = none_left before now job input taken end short
whole_leaves before now job input BadText taken end short = none_left before now job input taken end short
whole_leaves before now job input Undecided taken end short = none_left before now job input taken end short

drop_taken : (n : ℕ) (taken rest : List ℕ) → length taken ≡ n → drop n (taken ++ rest) ≡ rest
drop_taken n taken rest count = rw (sym count) (by taken)
  where
    by : (ts : List ℕ) → drop (length ts) (ts ++ rest) ≡ rest
    by [] = refl
    by (t ∷ ts) = by ts

-- where more than the limit was given, one byte more than the limit is gone
pub too_long_leaves : (before now : Option (List ℕ)) (job : Job) → TakesOut (2 ^ 24 + 1) before now
    → IfSome before (λ bytes. 2 ^ 24 < length bytes) → LeavesFor (Some (on_input job)) before now Limit
too_long_leaves None now job out longer = tt
too_long_leaves (Some bytes) None job out longer = absurd out.taken
too_long_leaves (Some bytes) (Some rest) job out longer =
    let long : nat_lt (2 ^ 24) (length bytes) ≡ true = grind (arith, nat_tests) in
    let left : left_by (Some (on_input job)) bytes ≡ drop (2 ^ 24 + 1) bytes = rw long in
    let gone : drop (2 ^ 24 + 1) bytes ≡ rest =
    ap (drop (2 ^ 24 + 1)) out.taken ∙ drop_taken (2 ^ 24 + 1) out.bytes rest out.count in
    ap Some (sym (left ∙ gone))

-- what is left where the input was not read to its end
pub end_leaves : (before now : Option (List ℕ)) (job : Job) (out : List ℕ) (s : Status) (end : ReadEnd)
    → IsAnswer (end_answer end) out s → (end ≡ E.TooLong → LeavesFor (Some (on_input job)) before now Limit)
    → LeavesFor (Some (on_input job)) before now s
end_leaves before now job out s end is long =
    subst (LeavesFor (Some (on_input job)) before now) (sym (ap (λ (a : Answer). a.0) is)) (by end long)
  where
    by : (end : ReadEnd) → (end ≡ E.TooLong → LeavesFor (Some (on_input job)) before now Limit)
        → LeavesFor (Some (on_input job)) before now (end_answer end).0
    by E.TooLong long = long refl
    by E.Fault long = tt
    by E.NoMemory long = tt

-- What is answered to a verification.
use Rattle.std.specs.Prelude.{ℕ, ◌++◌, codes, decimal, Some, Result, Ok, Err}
use Rattle.job_inputs.specs.Answer.{line, no_memory, Answer, complaint_answer}
use Rattle.job_inputs.specs.Complaints.{complaint, plain_complaint}
use Rattle.job_inputs.specs.declared.complaint.Place.TheVariants as P
use Rattle.job_inputs.specs.declared.status.Status.TheVariants.{Done, Rejected, NoMemory}
use Rattle.job_inputs.specs.Asked.{Reply, judged, refused_document, refused_query, malformed_line}
use Rattle.job_inputs.specs.declared.unread.Unread.{Unread}
use Rattle.job_inputs.specs.declared.unread.Unread.TheVariants as U
use Rattle.job_inputs.specs.declared.verdict.Verdict.{Verdict}
use Rattle.job_inputs.specs.declared.verdict.Verdict.TheVariants.{NotEntailed, Entailed, Axiom, Query, Line}
use Rattle.job_inputs.specs.declared.message.Message.{Message}
use Rattle.job_inputs.specs.declared.message.Message.TheVariants as M

-- the certificate is wrong on the line of this number
abbrev pub line_rejected : ℕ → Answer
line_rejected n = (Rejected, line (codes "rejected line " ++ decimal n))

-- the status and the line of a verdict on a certificate
abbrev pub verdict_answer : Verdict → Answer
verdict_answer NotEntailed = (Done, line (codes "accepted not entailed"))
verdict_answer Entailed = (Done, line (codes "accepted entailed"))
verdict_answer (Axiom k) = (Rejected, line (codes "rejected axiom " ++ decimal k))
verdict_answer Query = (Rejected, line (codes "rejected query"))
verdict_answer (Line n) = line_rejected n

-- the status and the line of a reply
abbrev pub reply_answer : Reply → Answer
reply_answer (judged v) = verdict_answer v
reply_answer (refused_document e) = complaint_answer P.Document (complaint e)
reply_answer (refused_query e) = complaint_answer P.Query (complaint e)
reply_answer (malformed_line n) = line_rejected n

-- the status and the line for an input that could not be read
abbrev pub unread_answer : Unread → Answer
unread_answer (U.Document e) = reply_answer (refused_document e)
unread_answer (U.Query e) = reply_answer (refused_query e)
unread_answer (U.Line n) = reply_answer (malformed_line n)
unread_answer U.NoMemory = (NoMemory, no_memory)

-- the answer to what a verification ends with
abbrev pub check_answer : Result Verdict Unread → Answer
check_answer (Ok v) = reply_answer (judged v)
check_answer (Err u) = unread_answer u

-- the status and the line of a message of the code
abbrev pub message_answer : Message → Answer
message_answer (M.Judged v) = verdict_answer v
message_answer (M.Malformed n) = line_rejected n
message_answer (M.Refused place c) = complaint_answer place (Some (plain_complaint c))
message_answer M.NoMemory = (NoMemory, no_memory)

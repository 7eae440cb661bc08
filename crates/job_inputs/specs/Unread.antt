-- What keeps an input from being verified, by what its readers say.
use Rattle.text_laws.specs.LineFault.{LineFault}
use Rattle.text_laws.specs.LineFault.TheVariants as F
use Rattle.text_laws.specs.Refusal.{Refusal}
use Rattle.text_laws.specs.Refusal.TheVariants as R
use Rattle.job_inputs.specs.declared.unread.Unread.{Unread}
use Rattle.job_inputs.specs.declared.unread.Unread.TheVariants as U

-- the document is refused
abbrev pub document_unread : Refusal → Unread
document_unread R.NoMemory = U.NoMemory
document_unread e = U.Document e

-- the query is refused
abbrev pub query_unread : Refusal → Unread
query_unread R.NoMemory = U.NoMemory
query_unread e = U.Query e

-- the certificate is malformed
abbrev pub line_unread : LineFault → Unread
line_unread (F.Malformed n) = U.Line n
line_unread F.NoMemory = U.NoMemory

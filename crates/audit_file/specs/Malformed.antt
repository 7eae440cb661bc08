-- The first malformed line of what is to be an audit.
use Rattle.std.specs.Prelude.{◌≡◌, ℕ, ◌+◌, ◌^◌, ◌<◌, List, length, Option, Err}
use Rattle.std.specs.Result.{result_ok}
use Rattle.certificate_lines.specs.Malformed.{IsFirstMalformed, clamped_line}
use Rattle.certificate_lines.specs.declared.fault.LineFault.{LineFault}
use Rattle.certificate_lines.specs.declared.fault.LineFault.TheVariants.{Malformed, NoMemory}
use Rattle.shq_terms.specs.Listed.{Listed}
use Rattle.audit_file.specs.AuditLists.{AuditLists}
use Rattle.audit_file.specs.AuditText.{audit_in}

-- the audit that lines are, if they are one
abbrev pub audit_of : Listed → List (List ℕ) → Option AuditLists
audit_of o ls = result_ok (audit_in o ls)

-- The number that is found where lines are no audit is that of the first malformed line: some audit begins with the
-- lines before it, and none with these and it; or it would stand after the last line, and some audit begins with all
-- lines. A line that announces more sets than can follow in the order of sets is malformed, since no audit begins with
-- it.
abbrev pub AuditsTellMalformed : Type 0
AuditsTellMalformed = (o : Listed) (ls : List (List ℕ)) (n : ℕ) → length o.axioms + 1 < 2 ^ 32 → audit_in o ls ≡ Err n
    → IsFirstMalformed 1 (audit_of o) ls n

-- a fault that is told of lines: the number of the first malformed one, or that memory was refused
abbrev pub IsFirstFault : Listed → List (List ℕ) → LineFault → Type 0
IsFirstFault o ls NoMemory = Unit {0}
IsFirstFault o ls (Malformed line) = (n : ℕ) × IsFirstMalformed 1 (audit_of o) ls n × (line ≡ clamped_line n)

-- The malformed line at which a reader stopped.
use Rattle.std.proofs.Common.{◌≡◌, ℕ, Option, Some, None, Ok, Err, sym, subst, ap}
use Rattle.std.specs.Prelude.{option_map}
use Rattle.certificate_lines.specs.Malformed.{clamped_line, IsFaultOf, IsFaultOfLine}
use Rattle.certificate_lines.specs.declared.fault.LineFault.{LineFault}
use Rattle.certificate_lines.specs.declared.fault.LineFault.TheVariants.{Malformed, NoMemory}
use Rattle.decision_jobs.specs.Certificates.{or_no_line, IsUnreadBy}
use Rattle.job_inputs.specs.Unread.{line_unread}
use Rattle.decision_jobs.specs.declared.certificate.Certificate.{Certificate}
use Rattle.job_inputs.specs.declared.unread.Unread.{Unread}

-- the malformed line of lines after a verdict
pub malformed : {K : Type 0} (read : Option K) (first : Option ℕ) (made : K → Certificate) (f : LineFault) (u : Unread)
    → u ≡ line_unread f → IsFaultOf read f → IsFaultOfLine first f
    → IsUnreadBy (elim read [ None ↦ Err (or_no_line (option_map clamped_line first)) | Some k ↦ Ok (made k) ]) u
malformed read first made NoMemory u is none line = subst (IsUnreadBy _) (sym is) tt
malformed read first made (Malformed n) u is none line =
    subst (IsUnreadBy _) (sym is) (rw none (ap (λ m. Err (or_no_line m)) line))

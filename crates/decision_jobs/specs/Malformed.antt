-- The first malformed line of what should be a certificate. Its first line has the number 1.
use Rattle.std.specs.Prelude.{◌≡◌, ℕ, ◌≤◌, List, length, Option, Err}
use Rattle.std.specs.Result.{result_ok}
use Rattle.certificate_lines.specs.Malformed.{IsFirstMalformed}
use Rattle.shq_terms.specs.Listed.{Listed}
use Rattle.decision_jobs.specs.Certificates.{certificate_lines, certificate_in, certificate}
use Rattle.decision_jobs.specs.declared.certificate.Certificate.{Certificate}

-- the certificate that lines are, if they are one
abbrev pub certificate_read : Listed → List (List ℕ) → Option Certificate
certificate_read o ls = result_ok (certificate_in o ls)

-- The number that is found where a text is no certificate is that of the first malformed line: some certificate begins
-- with the lines before it, and none with these and it; or it would stand after the last line, and some certificate
-- begins with all lines.
abbrev pub MalformedIsFirst : Type 0
MalformedIsFirst =
    (o : Listed) (text : List ℕ) (n : ℕ) → length text ≤ 4294967293 → certificate o text ≡ Err n
    → IsFirstMalformed 1 (certificate_read o) (certificate_lines text) n

-- The certificate that follows a document.
use Rattle.std.specs.Prelude.{◌≡◌, ℕ, Bool, ◌||◌, ◌≤◌, List, [], ◌∷◌, drop, codes, length, Option, Some, None}
use Rattle.std.specs.Prelude.{option_map, Result, Ok, Err, if◌then◌else◌}
use Rattle.std.specs.List.{prefix_len}
use Rattle.std.specs.Str.{bytes_eq}
use Rattle.certificate_lines.specs.Lines.{lines, is_blank}
use Rattle.certificate_lines.specs.Malformed.{clamped_line}
use Rattle.shq_terms.specs.Listed.{Listed}
use Rattle.finite_model.specs.ModelText.{model_of}
use Rattle.finite_model.specs.Malformed.{malformed_model_line}
use Rattle.refutation_tree.specs.RefutationText.{refutation_of}
use Rattle.refutation_tree.specs.Malformed.{malformed_refutation_line}
use Rattle.refutation_tree.specs.ReadBack.{IsWritable}
use Rattle.decision_jobs.specs.declared.certificate.Certificate.{Certificate}
use Rattle.decision_jobs.specs.declared.certificate.Certificate.TheVariants.{Model, Refutation}
use Rattle.job_inputs.specs.declared.unread.Unread.{Unread}
use Rattle.job_inputs.specs.declared.unread.Unread.TheVariants as U

-- its lines: those of the text, but for blank ones in front
abbrev pub certificate_lines : List ℕ → List (List ℕ)
certificate_lines text = drop (prefix_len is_blank (lines text)) (lines text)

-- the verdict of a counter-model
abbrev pub is_model_verdict : List ℕ → Bool
is_model_verdict line = bytes_eq line (codes "not entailed") || bytes_eq line (codes "satisfiable")

-- the verdict of a refutation
abbrev pub is_refutation_verdict : List ℕ → Bool
is_refutation_verdict line = bytes_eq line (codes "entailed") || bytes_eq line (codes "unsatisfiable")

-- a number where there is one, else 0, which numbers no line
abbrev pub or_no_line : Option ℕ → ℕ
or_no_line None = 0
or_no_line (Some n) = n

-- What lines after a verdict are: the text of a model, or that of a refutation; or none, with the number of the first
-- malformed line. Lines of which none is malformed are a text.
abbrev pub model_after : Listed → List (List ℕ) → Result Certificate ℕ
model_after o ls = elim (model_of o ls)
    [ None ↦ Err (or_no_line (option_map clamped_line (malformed_model_line o ls))) | Some k ↦ Ok (Model k) ]

-- the refutation that lines after the first one are, or the number of the first malformed line
abbrev pub refutation_after : Listed → List (List ℕ) → Result Certificate ℕ
refutation_after o ls = elim (refutation_of o ls)
    [ None ↦ Err (or_no_line (option_map clamped_line (malformed_refutation_line o ls))) | Some k ↦ Ok (Refutation k) ]

-- What lines are that begin with a verdict: a certificate, or none, with the number of the first malformed line, from
-- 1.
abbrev pub certificate_in : Listed → List (List ℕ) → Result Certificate ℕ
certificate_in o [] = Err 1
certificate_in o (l ∷ ls) =
    if is_model_verdict l then model_after o ls else if is_refutation_verdict l then refutation_after o ls else Err 1

-- what the text after a document is, over the names that are listed
abbrev pub certificate : Listed → List ℕ → Result Certificate ℕ
certificate o text = certificate_in o (certificate_lines text)

-- what keeps a text from being a certificate, unless memory was refused
abbrev pub IsUnreadBy : Result Certificate ℕ → Unread → Type 0
IsUnreadBy c (U.Line n) = c ≡ Err n
IsUnreadBy c (U.Document e) = ⊥
IsUnreadBy c (U.Query e) = ⊥
IsUnreadBy c U.NoMemory = Unit {0}

-- a refutation over the axioms and names of the document, with as many lines as can be counted
abbrev pub Fits : Listed → Certificate → Type 0
Fits o (Model m) = Unit {0}
Fits o (Refutation r) = IsWritable o r × (length r.lines ≤ 4294967293)

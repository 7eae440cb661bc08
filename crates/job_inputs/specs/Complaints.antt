-- What is answered to a refusal of the document or of the query.
use Rattle.std.specs.Prelude.{ℕ, List, [], ◌∷◌, ◌++◌, codes, decimal, Option, Some, None}
use Rattle.ofn_tree.specs.declared.fault.TextFault.{TextFault}
use Rattle.ofn_tree.specs.declared.fault.TextFault.TheVariants as F
use Rattle.text_laws.specs.Constructs.{spelling}
use Rattle.text_laws.specs.Refusal.{Refusal}
use Rattle.text_laws.specs.Refusal.TheVariants as R
use Rattle.text_laws.specs.Which.{Which}
use Rattle.text_laws.specs.Which.TheVariants as W
use Rattle.job_inputs.specs.declared.complaint.Complaint.{Complaint as Kept}
use Rattle.job_inputs.specs.declared.complaint.Place.{Place}
use Rattle.job_inputs.specs.declared.complaint.Place.TheVariants.{Document, Query}
use Rattle.job_inputs.specs.declared.complaint.Sort.{Sort}
use Rattle.job_inputs.specs.declared.complaint.Sort.TheVariants as S
use Rattle.job_inputs.specs.declared.status.Status.{Status}
use Rattle.job_inputs.specs.declared.status.Status.TheVariants.{BadText, Outside, Limit}

-- the status and the first words of a sort of refusals
abbrev pub sort_status : Sort → Status
sort_status S.BadText = BadText
sort_status S.Outside = Outside
sort_status S.Limit = Limit

-- the words by which a sort of complaint begins
abbrev pub sort_text : Sort → List ℕ
sort_text S.BadText = codes "bad text"
sort_text S.Outside = codes "outside"
sort_text S.Limit = codes "limit"

-- of which sort a refusal is, what is wrong, and the line
pub record Complaint : Type 0 where
  pub sort : Sort
  pub what : List ℕ
  pub line : ℕ

-- a complaint of a sort, about something, on a line
abbrev pub complaint_with : Sort → List ℕ → ℕ → Option Complaint
complaint_with sort what line = Some (record { sort = sort; what = what; line = line })

-- the complaint about a fault of a text; there is none where memory was refused
abbrev pub fault_complaint : TextFault → Option Complaint
fault_complaint (F.BadUtf8 line) = complaint_with S.BadText (codes "utf8") line
fault_complaint (F.BadToken line) = complaint_with S.BadText (codes "token") line
fault_complaint (F.Unbalanced line) = complaint_with S.BadText (codes "balance") line
fault_complaint (F.TooDeep line) = complaint_with S.Limit (codes "nesting") line
fault_complaint F.NoMemory = None

-- the word for a limit
abbrev pub limit_name : Which → List ℕ
limit_name W.Text = codes "text"
limit_name W.Axioms = codes "axioms"
limit_name W.Classes = codes "classes"
limit_name W.Roles = codes "roles"
limit_name W.Individuals = codes "individuals"
limit_name W.Nodes = codes "nodes"
limit_name W.Number = codes "number"
limit_name W.Parts = codes "parts"

-- none where memory was refused
abbrev pub complaint : Refusal → Option Complaint
complaint (R.Text fault) = fault_complaint fault
complaint (R.BadShape line) = complaint_with S.BadText (codes "shape") line
complaint (R.UnknownPrefix line) = complaint_with S.BadText (codes "prefix") line
complaint (R.PrefixClash line) = complaint_with S.BadText (codes "clash") line
complaint (R.Outside line construct) = complaint_with S.Outside (spelling construct) line
complaint (R.NotSimple line) = complaint_with S.Outside (codes "not-simple") line
complaint (R.Limit w line) = complaint_with S.Limit (limit_name w) line
complaint R.NoMemory = None

-- where it stands: on a line of the document, or in the query
abbrev pub place_text : Place → ℕ → List ℕ
place_text Document line = codes "line " ++ decimal line
place_text Query line = codes "query"

-- the line that tells a complaint
abbrev pub complaint_text : Place → Complaint → List ℕ
complaint_text place c =
    sort_text c.sort ++ (codes " " ++ (c.what ++ (codes " " ++ (place_text place c.line ++ 10 ∷ []))))

-- a complaint of the code, as the definitions see it
abbrev pub plain_complaint : Kept → Complaint
plain_complaint c = record { sort = c.sort; what = c.what.now; line = c.line }

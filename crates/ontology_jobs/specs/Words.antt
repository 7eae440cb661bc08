-- The lists of words that are accepted, and what each asks for.
use Rattle.std.specs.Prelude.{ℕ, List, [], ◌∷◌, codes, nat_eq, nat_lt, ◌||◌, Option, Some, None, if◌then◌else◌, map}
use Rattle.std.specs.Prelude.{String, string_bytes}
use Rattle.std.specs.Option.{option_and_then}
use Rattle.std.specs.Str.{bytes_eq}
use Rattle.std.specs.declared.alloc.Global.{Global}
use Rattle.certificate_lines.specs.Lines.{number_in}
use Rattle.job_inputs.specs.Questions.{Text, has_element, follows, question_text}
use Rattle.pinpointing_jobs.specs.declared.wanted.Wanted.{Wanted}
use Rattle.pinpointing_jobs.specs.declared.wanted.Wanted.TheVariants.{Justifications, Repairs}
use Rattle.ontology_jobs.specs.declared.words.Command.{Command}
use Rattle.ontology_jobs.specs.declared.words.Command.TheVariants.{OnInput, Workload}
use Rattle.ontology_jobs.specs.declared.workload_number.WorkloadNumber.{WorkloadNumber}
use Rattle.ontology_jobs.specs.declared.words.Job.{Job as Kept}
use Rattle.ontology_jobs.specs.declared.words.Job.TheVariants.{Check, Audit, Decide, Classify, Realize, Instances, Why}
use Rattle.ontology_jobs.specs.declared.words.Job.TheVariants.{Session, Pinpoint, Evidence}

-- a job on an input, with a budget where it searches
pub data Job : Type 0 where
  -- verify the certificate for the axiom of this text
  check : List ℕ → Job
  -- verify the audit of the axiom of this text
  audit : List ℕ → Job
  -- decide a question
  decide : Text → ℕ → Job
  -- which class is part of which
  classify : ℕ → Job
  -- the most specific classes of each individual
  realize : ℕ → Job
  -- the individuals in the class expression of this text
  instances : List ℕ → ℕ → Job
  -- these, each with its justifications
  reasons : List ℕ → ℕ → Job
  -- the answers to the lines behind the document
  session : ℕ → Job
  -- the justifications or the repairs of the axiom of this text
  pinpoint : Wanted → List ℕ → ℕ → Job
  -- these for the axiom of this text, each with what shows it
  evidence : List ℕ → ℕ → Job

-- what words ask for: a job on an input, or the pinpointing job on the workload of a number
pub data Request : Type 0 where
  on_input : Job → Request
  generated : ℕ → ℕ → Request

-- the budget where none is given
abbrev pub default_budget : ℕ
default_budget = 1000000

-- a budget: a number without leading zeros, from 1 to 2^32 - 1
abbrev pub positive : ℕ → Option ℕ
positive n = if nat_eq n 0 then None else Some n

-- the budget that a word says: a number above 0
abbrev pub budget_in : List ℕ → Option ℕ
budget_in word = option_and_then positive (number_in word)

-- the number of a workload: one from 1 to 4,000
abbrev pub workload_size : ℕ → Option ℕ
workload_size n = if nat_eq n 0 || nat_lt 4000 n then None else Some n

-- the number of a workload that a word says
abbrev pub workload_number : List ℕ → Option ℕ
workload_number word = option_and_then workload_size (number_in word)

-- `classify`, `realize` and `session`
abbrev pub alone_request : List ℕ → ℕ → Option Request
alone_request w budget =
    if bytes_eq w (codes "classify") then Some (on_input (classify budget))
    else if bytes_eq w (codes "realize") then Some (on_input (realize budget))
    else if bytes_eq w (codes "session") then Some (on_input (session budget))
    else None

abbrev pub generated_with : ℕ → ℕ → Option Request
generated_with budget n = Some (generated n budget)

-- `workload N`, with a budget
abbrev pub workload_request : List ℕ → List ℕ → ℕ → Option Request
workload_request w text budget =
    if bytes_eq w (codes "workload") then option_and_then (generated_with budget) (workload_number text) else None

-- `explain AXIOM`, `repair AXIOM`, `evidence AXIOM` and `why CLASS`, with a budget
abbrev pub pinpointing_request : List ℕ → List ℕ → ℕ → Option Request
pinpointing_request w text budget =
    if bytes_eq w (codes "explain") then Some (on_input (pinpoint Justifications text budget))
    else if bytes_eq w (codes "repair") then Some (on_input (pinpoint Repairs text budget))
    else if bytes_eq w (codes "evidence") then Some (on_input (evidence text budget))
    else if bytes_eq w (codes "why") then Some (on_input (reasons text budget))
    else workload_request w text budget

-- `sat CLASS`, `entails AXIOM` and `instances CLASS`, and those above, with a budget
abbrev pub searching_request : List ℕ → List ℕ → ℕ → Option Request
searching_request w text budget =
    if bytes_eq w (codes "sat") then Some (on_input (decide (has_element text) budget))
    else if bytes_eq w (codes "entails") then Some (on_input (decide (follows text) budget))
    else if bytes_eq w (codes "instances") then Some (on_input (instances text budget))
    else pinpointing_request w text budget

-- `check AXIOM` and `audit AXIOM`, and those that search, without a budget
abbrev pub text_request : List ℕ → List ℕ → Option Request
text_request w text =
    if bytes_eq w (codes "check") then Some (on_input (check text))
    else if bytes_eq w (codes "audit") then Some (on_input (audit text))
    else searching_request w text default_budget

-- the same where the word before the budget is `budget`
abbrev pub budgeted_request : List ℕ → List ℕ → List ℕ → List ℕ → Option Request
budgeted_request w text word number =
    if bytes_eq word (codes "budget") then option_and_then (searching_request w text) (budget_in number) else None

-- the request of one word with the word `budget` and a number behind it
abbrev pub budgeted_alone : List ℕ → List ℕ → List ℕ → Option Request
budgeted_alone w word number =
    if bytes_eq word (codes "budget") then option_and_then (alone_request w) (budget_in number) else None

-- a job with one text and a budget
abbrev pub longest_request : List (List ℕ) → Option Request
longest_request [] = None
longest_request (w ∷ []) = None
longest_request (w ∷ a ∷ []) = None
longest_request (w ∷ a ∷ b ∷ []) = None
longest_request (w ∷ a ∷ b ∷ n ∷ []) = budgeted_request w a b n
longest_request (w ∷ a ∷ b ∷ n ∷ m ∷ rest) = None

-- a job with a budget
abbrev pub longer_request : List (List ℕ) → Option Request
longer_request [] = None
longer_request (w ∷ []) = None
longer_request (w ∷ a ∷ []) = None
longer_request (w ∷ b ∷ n ∷ []) = budgeted_alone w b n
longer_request (w ∷ a ∷ b ∷ n ∷ rest) = longest_request (w ∷ a ∷ b ∷ n ∷ rest)

-- `check AXIOM` and `audit AXIOM`, and the jobs that search, each of which may have `budget B` after it; every other
-- list of words asks for nothing
abbrev pub request_of : List (List ℕ) → Option Request
request_of [] = None
request_of (w ∷ []) = alone_request w default_budget
request_of (w ∷ a ∷ []) = text_request w a
request_of (w ∷ a ∷ b ∷ rest) = longer_request (w ∷ a ∷ b ∷ rest)

-- the job that the program keeps, as its words asked for it
abbrev pub kept_job : Kept → Job
kept_job (Check a) = check a.now
kept_job (Audit a) = audit a.now
kept_job (Decide question budget) = decide (question_text question) budget
kept_job (Classify budget) = classify budget
kept_job (Realize budget) = realize budget
kept_job (Instances a budget) = instances a.now budget
kept_job (Why a budget) = reasons a.now budget
kept_job (Session budget) = session budget
kept_job (Pinpoint wanted a budget) = pinpoint wanted a.now budget
kept_job (Evidence a budget) = evidence a.now budget

-- the number of a workload, as a plain number
abbrev pub plain_number : WorkloadNumber → ℕ
plain_number n = n.number

-- the request that the program keeps, as its words asked for it
abbrev pub command_request : Command → Request
command_request (OnInput job) = on_input (kept_job job)
command_request (Workload n budget) = generated n.number budget

-- the bytes of each word
abbrev pub texts_of : List (String Global) → List (List ℕ)
texts_of words = map string_bytes words

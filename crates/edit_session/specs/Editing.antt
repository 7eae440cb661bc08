-- What is held, and what is answered of it.
use Rattle.std.specs.Prelude.{◌≡◌, ℕ, Bool, true, false, List, length, codes, Option, Some, None, Result, Ok, Err}
use Rattle.std.specs.FinSet as set
use Rattle.lane_sieve.specs.Sets.{NumberSet}
use Rattle.axiom_sets.specs.Sets.{Limited, IsWithin}
use Rattle.shq_terms.specs.Listed.{Listed}
use Rattle.job_inputs.specs.Limits.{IsOntologyInLimit}
use Rattle.ofn_expressions.specs.declared.refusal.Refusal.{Refusal}
use Rattle.shq_oracle.specs.declared.answer.Outcome.{Outcome}
use Rattle.shq_oracle.specs.declared.answer.Outcome.TheVariants.{Yes, No, Undecided}
use Rattle.edit_session.specs.Said.{bad_line, numbered_line, yes_line, no_line, SaysWrong}

-- the ontology is within the limits, and the live axioms are a set of its axioms
pub record IsHeld (o : Listed) (live : Limited) : Type 0 where
  pub limit : live.limit ≡ length o.axioms
  pub in_limit : IsOntologyInLimit o

-- a live axiom is live no more, or the number is that of none
abbrev pub IsRemovedIf : Bool → NumberSet → ℕ → NumberSet → List ℕ → Type 0
IsRemovedIf true old k new answer = (new ≡ set.remove old k) × (answer ≡ numbered_line (codes "removed") k)
IsRemovedIf false old k new answer = (new ≡ old) × (answer ≡ bad_line)

-- a line `remove` does what it says, and is answered so, where the axiom is in or not
abbrev pub IsRemovedFrom : NumberSet → ℕ → NumberSet → List ℕ → Type 0
IsRemovedFrom old k new answer = IsRemovedIf (set.contains old k) old k new answer

-- the text of the answer to a query, or why it is none; there is no text where it could not be decided
abbrev pub IsTextOf : Result Outcome Refusal → Option (List ℕ) → Type 0
IsTextOf (Ok (Yes u)) (Some text) = (text ≡ yes_line u) × IsWithin u.limit u.members
IsTextOf (Ok (Yes u)) None = ⊥
IsTextOf (Ok No) (Some text) = text ≡ no_line
IsTextOf (Ok No) None = ⊥
IsTextOf (Ok Undecided) (Some text) = ⊥
IsTextOf (Ok Undecided) None = Unit {0}
IsTextOf (Err e) (Some text) = SaysWrong e text
IsTextOf (Err e) None = ⊥

-- there is such a text, if memory is given
abbrev pub HasText : Result Outcome Refusal → Type 0
HasText (Ok (Yes u)) = Unit {0}
HasText (Ok No) = Unit {0}
HasText (Ok Undecided) = ⊥
HasText (Err e) = Unit {0}

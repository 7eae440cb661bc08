-- The number with which the program ends tells the status.
use Rattle.std.proofs.Common.{◌≡◌, ℕ, refl, ap, sym, ◌∙◌}
use Rattle.std.specs.Prelude.{nat_eq, if◌then◌else◌}
use Rattle.ontology_jobs.specs.Status.{Status}
use Rattle.ontology_jobs.specs.Status.TheVariants.{Done, Rejected, BadWords, BadText, Outside, Limit, ReadFault}
use Rattle.ontology_jobs.specs.Status.TheVariants.{WriteFault, Undecided, NoMemory}
use Rattle.ontology_cli.specs.Exit.{exit_number}

-- the status of a number
abbrev status_of : ℕ → Status
status_of n =
    if nat_eq n 0 then Done
    else if nat_eq n 1 then Rejected
    else if nat_eq n 2 then BadWords
    else if nat_eq n 3 then BadText
    else if nat_eq n 4 then Outside
    else if nat_eq n 5 then Limit
    else if nat_eq n 6 then ReadFault
    else if nat_eq n 7 then WriteFault
    else if nat_eq n 8 then Undecided
    else NoMemory

own : (s : Status) → status_of (exit_number s) ≡ s
own Done = refl
own Rejected = refl
own BadWords = refl
own BadText = refl
own Outside = refl
own Limit = refl
own ReadFault = refl
own WriteFault = refl
own Undecided = refl
own NoMemory = refl

pub tells : (s t : Status) → exit_number s ≡ exit_number t → s ≡ t
tells s t same = sym (own s) ∙ ap status_of same ∙ own t

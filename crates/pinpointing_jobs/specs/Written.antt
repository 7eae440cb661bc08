-- What is written of what a search found.
use Rattle.std.specs.Prelude.{◌≡◌, ◌++◌, ℕ, Bool, true, false, List, length, codes}
use Rattle.std.specs.List.{All, Contains}
use Rattle.axiom_sets.specs.Sets.{Limited}
use Rattle.pinpointing_specs.specs.Order.{IsAscending}
use Rattle.query_asker.specs.InOrder.{HaveOneLimit}
use Rattle.repair_list.specs.TreeFound.{Found}
use Rattle.repair_list.specs.Alone.{AreRepairs}
use Rattle.shq_terms.specs.Listed.{Listed}
use Rattle.job_inputs.specs.Answer.{line}
use Rattle.job_inputs.specs.declared.status.Status.{Status}
use Rattle.pinpointing_jobs.specs.declared.wanted.Wanted.{Wanted}
use Rattle.pinpointing_jobs.specs.declared.wanted.Wanted.TheVariants.{Justifications, Repairs}
use Rattle.pinpointing_jobs.specs.Listings.{listing_text, end_status}
use Rattle.pinpointing_jobs.specs.Counts.{counts_text}

-- the sets that were found are of axioms of the ontology
pub record AreOfAxioms (o : Listed) (f : Found) : Type 0 where
  pub one_limit : HaveOneLimit (f.justifications.items ++ f.leaves.items)
  pub justifications : All (λ s. s.limit ≡ length o.axioms) f.justifications.items
  pub leaves : (l : Limited) → Contains f.leaves.items l → l.limit ≡ length o.axioms

-- the leaves in which each member is hit alone, in the order of sets
pub record AreFoundRepairs (f : Found) (sets : List Limited) : Type 0 where
  pub order : IsAscending sets
  pub repairs : AreRepairs f.justifications.items f.leaves.items sets

-- those of the sets that are wanted
abbrev pub AreFound : Wanted → Found → List Limited → Type 0
AreFound Justifications f sets = sets ≡ f.justifications.items
AreFound Repairs f sets = AreFoundRepairs f sets

-- the text of a list of them
pub record IsWritten (w : Wanted) (o : Listed) (f : Found) (s : Status) (out : List ℕ) : Type 0 where
  pub sets : List Limited
  pub are_found : AreFound w f sets
  pub text : out ≡ listing_text o w f.finished sets
  pub status : s ≡ end_status f.finished

-- the text of their numbers
pub record IsWrittenCount (number : ℕ) (o : Listed) (f : Found) (out : List ℕ) : Type 0 where
  pub repairs : List Limited
  pub are_found : AreFoundRepairs f repairs
  pub text : out ≡ counts_text number (length o.axioms) (length f.justifications.items) (length repairs)

-- what is written of the counts that a search found, where it finished and where it did not
abbrev pub IsCountOf : ℕ → Listed → Found → List ℕ → Bool → Type 0
IsCountOf number o f out true = IsWrittenCount number o f out
IsCountOf number o f out false = out ≡ line (codes "undecided")

-- the text and the status of a count are those of the search
pub record IsToldCount (number : ℕ) (o : Listed) (f : Found) (s : Status) (out : List ℕ) : Type 0 where
  pub count : IsCountOf number o f out f.finished
  pub status : s ≡ end_status f.finished

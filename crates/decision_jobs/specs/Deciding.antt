-- Decisions on all axioms of an ontology.
use Rattle.std.specs.Prelude.{IsTrue}
use Rattle.axiom_sets.specs.Sets.{Limited}
use Rattle.shq_terms.specs.Listed.{Listed}
use Rattle.shq_terms.specs.declared.axioms.Query.{Query as Asked}
use Rattle.finite_model.specs.ReadBack.{IsKept}
use Rattle.finite_model.specs.Written.{uses_listed_names}
use Rattle.refutation_tree.specs.Written.{names_are_listed}
use Rattle.shq_oracle.specs.HonestLog.{IsWhole}
use Rattle.shq_oracle.specs.Decided.{IsAnswer}
use Rattle.shq_oracle.specs.declared.answer.Answer.{Answer as Decision}
use Rattle.shq_oracle.specs.declared.answer.Answer.TheVariants as Answered

-- the evidence shows whether the query follows from all axioms
pub record IsDecision (o : Listed) (q : Asked) (d : Decision) : Type 0 where
  pub asked : Limited
  pub is_whole : IsWhole o asked
  pub is_answer : IsAnswer o asked q d

-- its names are listed, so that it can be written
abbrev pub CanBeWritten : Listed → Decision → Type 0
CanBeWritten o (Answered.Entailed r) = IsTrue (names_are_listed o r)
CanBeWritten o (Answered.NotEntailed m) = IsTrue (uses_listed_names o m)
CanBeWritten o Answered.Undecided = Unit {0}

-- it is a yes or a no
abbrev pub HasVerdict : Decision → Type 0
HasVerdict (Answered.Entailed r) = Unit {0}
HasVerdict (Answered.NotEntailed m) = Unit {0}
HasVerdict Answered.Undecided = ⊥

-- a model is one that its text is read back to
abbrev pub IsKeptModel : Listed → Decision → Type 0
IsKeptModel o (Answered.Entailed r) = Unit {0}
IsKeptModel o (Answered.NotEntailed m) = IsKept o m
IsKeptModel o Answered.Undecided = Unit {0}

-- The evidence of tests, as it is kept.
use Rattle.std.specs.Prelude.{◌≡◌, ℕ, ◌<◌, List, [], ◌∷◌, ◌++◌, Contains, vec_len}
use Rattle.std.specs.Vec.{vec_capacity}
use Rattle.axiom_sets.specs.Sets.{Limited, member_list}
use Rattle.shq_terms.specs.Listed.{Listed}
use Rattle.shq_terms.specs.declared.axioms.Query.{Query as Asked}
use Rattle.calculus_specs.specs.Valid.{IsRefutation}
use Rattle.decision_jobs.specs.Theory.{question_in}
use Rattle.refutation_tree.specs.RefutationLists.{RefutationLists}
use Rattle.refutation_tree.specs.ReadBack.{IsWritable}
use Rattle.run_log.specs.declared.entry.Entry.{Entry}
use Rattle.run_log.specs.declared.entry.Entry.TheVariants.{Test}
use Rattle.run_log.specs.declared.entry.TestEnd.TheVariants.{Yes, No}
use Rattle.run_log.specs.HonestLog.{IsAxiomSet}
use Rattle.pinpointing_jobs.specs.Decided.{IsRefuting}
use Rattle.pinpointing_jobs.specs.Answer.{Answer}
use Rattle.pinpointing_jobs.specs.Answer.TheVariants as Answered
use Rattle.audit_jobs.specs.declared.evidence.CounterModel.{CounterModel}
use Rattle.audit_jobs.specs.declared.evidence.Evidence.{Evidence}

-- ---- evidence

-- a refutation of the query over just the axioms that it names, which can be written
pub record IsRefuted (o : Listed) (q : Asked) (r : RefutationLists) : Type 0 where
  pub refutes : IsRefutation (question_in o (member_list r.axioms) q) r.shapes r.lines
  pub writable : IsWritable o r

-- an interpretation of the axioms of its set that refutes the query, which can be written
pub record IsModelled (o : Listed) (q : Asked) (m : CounterModel) : Type 0 where
  pub of_axioms : IsAxiomSet o m.set
  pub refuting : IsRefuting o m.set q m.model

-- all that is kept is such evidence
pub record AreShown (o : Listed) (q : Asked) (rs : List RefutationLists) (ms : List CounterModel) : Type 0 where
  pub refuted : (r : RefutationLists) → Contains rs r → IsRefuted o q r
  pub modelled : (m : CounterModel) → Contains ms m → IsModelled o q m

-- one of the refutations names just these axioms
abbrev pub HasRefutation : List RefutationLists → Limited → Type 0
HasRefutation rs u = (r : RefutationLists) × Contains rs r × (r.axioms ≡ u)

-- one of the models is that of the set
abbrev pub HasModel : List CounterModel → Limited → Type 0
HasModel ms s = (m : CounterModel) × Contains ms m × (m.set ≡ s)

-- each yes of the log has a refutation over its axioms, and each no a model of its set
pub record IsEvidence (o : Listed) (q : Asked) (log : List Entry) (e : Evidence) : Type 0 where
  pub are_shown : AreShown o q e.refutations.items e.models.items
  pub each_yes : (s : Limited) (p : Asked) (steps : ℕ) (u : Limited) → Contains log (Test s p steps (Yes u))
      → HasRefutation e.refutations.items u
  pub each_no : (s : Limited) (p : Asked) (steps : ℕ) → Contains log (Test s p steps No) → HasModel e.models.items s

-- ---- what is kept of a test

-- there is room for one refutation and one model more
pub record HasRoom (e : Evidence) : Type 0 where
  pub refutations : vec_len e.refutations < vec_capacity e.refutations
  pub models : vec_len e.models < vec_capacity e.models

-- the axioms of a refutation are numbers up to a limit
abbrev pub NamesUpTo : ℕ → Answer → Type 0
NamesUpTo n (Answered.Entailed r) = r.axioms.limit ≡ n
NamesUpTo n (Answered.NotEntailed m) = Unit {0}
NamesUpTo n Answered.Undecided = Unit {0}

-- the refutation is kept, or the model with the set; and else nothing more
abbrev pub KeepsAnswer : Evidence → Evidence → Limited → Answer → Type 0
KeepsAnswer old new s (Answered.Entailed r) = (new.refutations.items ≡ old.refutations.items ++ r ∷ [])
    × (new.models.items ≡ old.models.items)
KeepsAnswer old new s (Answered.NotEntailed m) = (new.refutations.items ≡ old.refutations.items)
    × (new.models.items ≡ old.models.items ++ record { set = s; model = m } ∷ [])
KeepsAnswer old new s Answered.Undecided = (new.refutations.items ≡ old.refutations.items)
    × (new.models.items ≡ old.models.items)

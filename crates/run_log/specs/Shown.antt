-- What a log shows of an answer.
use Rattle.std.specs.Prelude.{◌≡◌, ◌⊎◌, ℕ, true, false, List, Contains}
use Rattle.std.specs.FinSet as set
use Rattle.pinpointing_specs.specs.NumberSets.{NumberSet}
use Rattle.pinpointing_specs.specs.Sets.{Limited}
use Rattle.shq_terms.specs.Concept.{Concept}
use Rattle.shq_terms.specs.Listed.{Listed}
use Rattle.shq_terms.specs.declared.axioms.On.TheVariants.{Any}
use Rattle.shq_terms.specs.declared.axioms.Query.{Query}
use Rattle.pinpointing_specs.specs.LocalModule.{IsLocalModule, IsJustification, IsRepair}
use Rattle.run_log.specs.declared.entry.Entry.{Entry}
use Rattle.run_log.specs.declared.entry.Entry.TheVariants.{Test}
use Rattle.run_log.specs.declared.entry.TestEnd.TheVariants.{Yes, No}
use Rattle.run_log.specs.HonestLog.{IsClass, IsChain}

-- x is not included in y: a test found that v is not included in w, where v is included in x and y is included in w
pub record IsRuledOut (log : List Entry) (x y : Concept) : Type 0 where
  pub tested : Limited
  pub query : Query
  pub of_all : query.on ≡ Any
  pub steps : ℕ
  pub is_no : Contains log (Test tested query steps No)
  pub lower : IsChain log query.sub x
  pub upper : IsChain log y query.sup

-- the log shows of each two classes whether the one is included in the other
abbrev pub ShowsClasses : Listed → List Entry → Type 0
ShowsClasses o log = (x y : Concept) → IsClass o x → IsClass o y → ¬ (x ≡ y) → IsChain log x y ⊎ IsRuledOut log x y

-- a test found that the query follows from just the axioms of the set
pub record IsShownYes (log : List Entry) (q : Query) (j : NumberSet) : Type 0 where
  pub tested : Limited
  pub steps : ℕ
  pub enough : Limited
  pub is_yes : Contains log (Test tested q steps (Yes enough))
  pub is_set : enough.members ≡ j

-- a test found that the query does not follow from a set that has each axiom of the module but those of r
pub record IsShownNo (log : List Entry) (q : Query) (m r : NumberSet) : Type 0 where
  pub tested : Limited
  pub steps : ℕ
  pub is_no : Contains log (Test tested q steps No)
  pub has_rest : (k : ℕ) → set.contains m k ≡ true → set.contains r k ≡ false → set.contains tested.members k ≡ true

-- the log shows each justification of the query, and each repair
pub record ShowsPinpointing (o : Listed) (q : Query) (log : List Entry) : Type 0 where
  pub justifications : (j : NumberSet) → IsJustification o.axioms q j → IsShownYes log q j
  pub repairs : (m r : NumberSet) → IsLocalModule o.axioms q m → IsRepair o.axioms q r → IsShownNo log q m r

-- No test ends because the budget is spent, unless that is told.
use Rattle.std.proofs.Common.{◌≡◌, ◌∙◌, Bool, true, false}
use Rattle.std.specs.Prelude.{Result, Ok, Err, IfOk, OnErr}
use Rattle.std.proofs.lemmas.Bool.{true≢false}
use Rattle.set_questions.specs.Meaning.{Meaning}
use Rattle.set_questions.specs.Asked.{AsksInBudget}
use Rattle.set_questions.specs.declared.entail.Reply.{Reply}
use Rattle.set_questions.specs.declared.entail.Reply.TheVariants.{Yes, No, Spent}
use Rattle.hitting_set_tree.specs.Tree.{LooksInBudget, SettlesInBudget, FailsInBudget}

module _ {X : Type 0} (m m' m'' : Meaning) where
  -- no test ended so before
  pub looks_after : m'.ran_out ≡ m.ran_out → (r : Result Bool X) → IfOk r (LooksInBudget m' m'')
      → IfOk r (LooksInBudget m m'')
  looks_after same (Ok true) after = after ∙ same
  looks_after same (Ok false) after = tt
  looks_after same (Err e) after = tt

  pub fails_after : m'.ran_out ≡ m.ran_out → (r : Result Bool X) → OnErr r (m''.ran_out ≡ m'.ran_out)
      → OnErr r (m''.ran_out ≡ m.ran_out)
  fails_after same (Ok b) after = tt
  fails_after same (Err e) after = after ∙ same

  -- an answer was settled
  pub looks_answered : (answer : Reply) → AsksInBudget m m' answer → (r : Result Bool X)
      → IfOk r (SettlesInBudget m' m'' answer) → IfOk r (LooksInBudget m m'')
  looks_answered (Yes part) asked (Ok b) settled = looks_after asked (Ok b) settled
  looks_answered (Yes part) asked (Err e) settled = tt
  looks_answered No asked (Ok b) settled = looks_after asked (Ok b) settled
  looks_answered No asked (Err e) settled = tt
  looks_answered Spent asked (Ok true) settled = absurd (true≢false settled)
  looks_answered Spent asked (Ok false) settled = tt
  looks_answered Spent asked (Err e) settled = tt

  pub fails_answered : (answer : Reply) → AsksInBudget m m' answer → (r : Result Bool X)
      → OnErr r (FailsInBudget m' m'' answer) → OnErr r (m''.ran_out ≡ m.ran_out)
  fails_answered (Yes part) asked r failed = fails_after asked r failed
  fails_answered No asked r failed = fails_after asked r failed
  fails_answered Spent asked (Ok b) failed = tt
  fails_answered Spent asked (Err e) failed = absurd failed

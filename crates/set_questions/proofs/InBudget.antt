-- A call that makes no test.
use Rattle.std.proofs.Common.{◌≡◌}
use Rattle.set_questions.specs.Meaning.{Meaning}
use Rattle.set_questions.specs.Asked.{AsksInBudget}
use Rattle.set_questions.specs.declared.entail.Reply.{Reply}
use Rattle.set_questions.specs.declared.entail.Reply.TheVariants.{Yes, No, Spent}

pub no_test : (m m' : Meaning) (answer : Reply) → m'.ran_out ≡ m.ran_out → AsksInBudget m m' answer
no_test m m' (Yes part) same = same
no_test m m' No same = same
no_test m m' Spent same = tt

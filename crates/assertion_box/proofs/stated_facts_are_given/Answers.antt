use Rattle.assertion_box.proofs.Answered.{are_given}
use Rattle.assertion_box.proofs.stated_facts_are_given.Goals as goal

pub returns : goal.returns
returns c = are_given

use Rattle.search_laws.proofs.BoundLaws.{few_marks}
use Rattle.search_laws.proofs.bound_laws.few_marks.Goals as goal

pub returns : goal.returns
returns c = few_marks

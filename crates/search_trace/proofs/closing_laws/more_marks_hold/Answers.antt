use Rattle.search_trace.proofs.Trail.{wider_part}
use Rattle.search_trace.proofs.closing_laws.more_marks_hold.Goals as goal

pub returns : goal.returns
returns c = wider_part

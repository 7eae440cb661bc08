use Rattle.search_trace.proofs.Places.{others_strip}
use Rattle.search_trace.proofs.closing_laws.numbers_take_out.Goals as goal

pub returns : goal.returns
returns c = others_strip

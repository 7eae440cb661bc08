use Rattle.search_trace.proofs.Places.{traced_line, traced_branching, traced_clash, open_places}
use Rattle.search_trace.proofs.closing_laws.steps_are_traced.Goals as goal

pub returns : goal.returns
returns c = λ q table start lines ps ms h. record {
  line = traced_line q table start lines ps ms h;
  branching = traced_branching q table start lines ps ms h;
  clash = traced_clash q table start lines ps ms h;
  open_places = open_places q table start lines ps ms h;
}

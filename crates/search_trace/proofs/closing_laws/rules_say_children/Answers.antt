use Rattle.search_trace.proofs.Rules.{rules_say}
use Rattle.search_trace.proofs.closing_laws.rules_say_children.Goals as goal

pub returns : goal.returns
returns c = rules_say

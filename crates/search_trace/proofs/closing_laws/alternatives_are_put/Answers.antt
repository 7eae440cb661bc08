use Rattle.std.proofs.Common.{◌+◌, refl}
use Rattle.search_trace.proofs.Alternatives.{alternative_put}
use Rattle.search_trace.proofs.closing_laws.alternatives_are_put.Goals as goal

pub returns : goal.returns
returns c = λ q table is b listed k f alternative. alternative_put q table is b listed (k + 1) f alternative k refl

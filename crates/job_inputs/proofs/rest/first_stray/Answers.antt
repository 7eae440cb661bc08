use Rattle.std.proofs.Common.{arith}
use Rattle.job_inputs.proofs.Skipping.{skips_all}
use Rattle.job_inputs.proofs.rest.first_stray.Goals as goal

pub returns-clause-none : goal.returns-clause-none
returns-clause-none c = λ none. skips_all c.args.text.now c.loop-place.place c.loop-place.invariant.1 (omega arith)

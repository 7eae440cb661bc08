use Rattle.std.proofs.Common.{length, ◌-◌, ◌≤◌}
use Rattle.job_inputs.specs.Rest.{Skips}
use Rattle.job_inputs.proofs.rest.first_stray.Given as goal

abbrev pub invariant-loop-place : goal.invariant-loop-place
invariant-loop-place l = (l.place ≤ length l.text) × Skips l.text l.place

abbrev pub decreases-loop-place : goal.decreases-loop-place
decreases-loop-place l = length l.text - l.place

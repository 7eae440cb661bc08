use Rattle.std.proofs.Common.{◌∙◌, ap, subst, ℕ}
use Rattle.std.specs.FinSet as set
use Rattle.lane_sieve.specs.Sets.{NumberSet}
use Rattle.pinpointing_specs.specs.Sets.{IsFull}
use Rattle.set_questions.proofs.Rest.{full_is}
use Rattle.set_questions.proofs.complement.rest_of.Goals as goal

pub returns-clause-members : goal.returns-clause-members
returns-clause-members c =
    let s = c.args.set.now in
    c.take_all.ensures.members
    ∙ ap (λ (f : NumberSet). set.difference f s.members)
    (full_is s.limit c.in_ok-rest.rest.members
    (subst (λ (n : ℕ). IsFull n c.in_ok-rest.rest.members) c.limit.ensures.limit c.in_ok-rest.ensures.members))

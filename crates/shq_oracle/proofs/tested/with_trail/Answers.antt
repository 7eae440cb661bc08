use Rattle.std.proofs.Common.{refl}
use Rattle.shq_oracle.proofs.Honest.{ends_spent}
use Rattle.shq_oracle.proofs.tested.with_trail.Goals as goal

pub returns : goal.returns
returns g c = λ wanted fuel whole. record {
  outcome = tt;
  apart = tt;
  further = λ is. refl;
  test =
      ends_spent c.args.search.now (c.steps-steps.ensures.reached c.requires.whole) c.requires.goes_on
      c.in_ok-trail.trail c.in_ok-trail.ensures c.steps-steps.result c.steps-steps.ensures.count fuel whole;
}

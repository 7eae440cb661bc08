use Rattle.std.proofs.Common.{refl, sym}
use Rattle.shq_oracle.proofs.Honest.{ends_no, left_out}
use Rattle.shq_oracle.proofs.tested.with_no.Goals as goal

pub returns : goal.returns
returns g c = λ fuel le. record {
  outcome = tt;
  apart =
      left_out c.args.search.now c.steps-steps.result c.steps-steps.ensures.count c.in_ok-apart.apart
      c.in_ok-apart.ensures.left_out;
  further = λ wanted. (
    c.args.search.now,
    record {
      ontology_is = refl;
      set_is = refl;
      query_is = refl;
      steps_are = sym c.steps-steps.ensures.count;
      numbers = c.requires.numbers;
      reached = c.steps-steps.ensures.reached c.requires.whole;
      has_run = c.steps-steps.ensures.run c.requires.whole;
      behind = c.requires.behind;
      at_model = c.requires.ended;
    },
    c.in_ok-apart.ensures.shown wanted,
  );
  test =
      ends_no c.args.search.now (c.steps-steps.ensures.reached c.requires.whole) c.requires.in_limit c.requires.ended
      c.steps-steps.result c.steps-steps.ensures.count fuel le;
}

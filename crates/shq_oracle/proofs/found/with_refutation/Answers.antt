use Rattle.std.proofs.Common.{◌≡◌, refl}
use Rattle.shq_oracle.proofs.Honest.{is_proof, ends_yes}
use Rattle.shq_oracle.proofs.found.with_refutation.Goals as goal

pub returns : goal.returns
returns g c =
    let s = c.args.search.now in
    let reached = c.steps-steps.ensures.reached c.requires.whole in
    let used : c.in_ok-used.used ≡ c.args.refutation.axioms = cc (c.in_ok-used.ensures) in
    λ fuel le. record {
      answer = is_proof s reached c.args.refutation c.requires.ended;
      test =
          ends_yes s reached c.args.refutation c.requires.set c.requires.ended c.args.refutation.axioms
          c.in_ok-used.used refl used c.steps-steps.result c.steps-steps.ensures.count fuel le;
    }

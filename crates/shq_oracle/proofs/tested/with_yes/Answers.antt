use Rattle.std.proofs.Common.{◌≡◌, refl}
use Rattle.shq_oracle.proofs.Honest.{is_proof, ends_yes}
use Rattle.shq_oracle.proofs.tested.with_yes.Goals as goal

pub returns : goal.returns
returns g c =
    let s = c.args.search.now in
    let r = c.args.refutation in
    let reached = c.steps-steps.ensures.reached c.requires.whole in
    let used : c.in_ok-used.used ≡ r.axioms = cc (c.in_ok-used.ensures) in
    let logged : c.in_ok-logged.logged ≡ r.axioms = cc (c.in_ok-logged.ensures) in
    λ wanted fuel le. record {
      outcome = (r, is_proof s reached r c.requires.ended, used);
      apart = tt;
      further = λ is. refl;
      test =
          ends_yes s reached r c.requires.set c.requires.ended c.in_ok-used.used c.in_ok-logged.logged used logged
          c.steps-steps.result c.steps-steps.ensures.count fuel le;
    }

use Rattle.std.proofs.Common.{◌∙◌, sym}
use Rattle.lane_sieve.proofs.Kernels.{meet_gives, meet_from}
use Rattle.lane_sieve.proofs.pairs.do_meet.Goals as goal

pub returns : goal.returns
returns c =
    let xs = c.args.xs.now in
    let ys = c.args.ys.now in (
      λ h. meet_gives xs ys c.requires (λ i. (c.type_inv.xs i).fits) (sym c.meets_words.ensures ∙ h),
      λ common. c.meets_words.ensures ∙ meet_from xs ys c.requires common.0 common.1 common.2,
    )

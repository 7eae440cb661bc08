use Rattle.std.proofs.Common.{◌∙◌, sym}
use Rattle.lane_sieve.proofs.Kernels.{subset_gives, subset_from}
use Rattle.lane_sieve.proofs.pairs.is_part.Goals as goal

pub returns : goal.returns
returns c =
    let xs = c.args.xs.now in
    let ys = c.args.ys.now in (
      λ h. subset_gives xs ys c.requires (sym c.subset_words.ensures ∙ h),
      λ part. c.subset_words.ensures ∙ subset_from xs ys c.requires (λ i. (c.type_inv.xs i).fits) part,
    )

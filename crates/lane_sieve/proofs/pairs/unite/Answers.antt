use Rattle.std.proofs.Common.{◌++◌, List, ℕ, ap, drop, length}
use Rattle.lane_sieve.proofs.Kernels.{number_set-union, united_at}
use Rattle.lane_sieve.proofs.pairs.unite.Goals as goal

pub returns : goal.returns
returns c =
    let xs = c.args.xs.now in
    let ys = c.args.ys.now in
    let rest = drop (length ys) xs in
    number_set-union (c.union_words.new.a ++ rest) xs ys
    (λ i. united_at xs ys (c.union_words.new.a ++ rest) i c.requires
    (ap (λ (ws : List ℕ). ws ++ rest) c.union_words.ensures))

use Rattle.std.proofs.Common.{rules}
use Rattle.std.specs.Prelude.{nat_eq}
use Rattle.std.proofs.lemmas.Iterator.Consumers.{map_from_collect}
use Rattle.std.proofs.lemmas.Iterator.Splits.{YieldsList-from_slice_split}
use Rattle.certificate_lines.proofs.pieces.Goals as goal

pub returns : goal.returns
returns c =
    let all =
    map_from_collect _ c.collect.ensures.ran
    (YieldsList-from_slice_split _ (λ b. nat_eq b c.args.mark) c.args.text.now c.split.ensures.rest c.split.ensures.done
    c.split.ensures.closure (search rules)) in
    rw c.in_ok-collect.was at all

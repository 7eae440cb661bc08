use Rattle.std.proofs.Common.{map, arith}
use Rattle.search_trace.specs.RuleLine.{line_of}
use Rattle.closed_search.proofs.Among.{one_more, all_put, are_among}
use Rattle.closed_search.proofs.copying.kept_lines.Goals as goal

pub loop-place-preserved : goal.loop-place-preserved
loop-place-preserved c =
    one_more c.args.keep.now c.args.lines.now c.loop-place.place (map line_of c.loop-place.kept.items)
    (map line_of c.put_if.new.lines.items) c.index-lines-place.result c.stays.result c.index-lines-place.is
    c.loop-place-test.true c.stays.ensures c.in_ok-put_if.ensures c.loop-place.invariant

pub returns-clause-stay : goal.returns-clause-stay
returns-clause-stay c =
    all_put c.args.keep.now c.args.lines.now c.loop-place.place (map line_of c.loop-place.kept.items)
    (omega (arith, c.loop-place-test.false)) c.loop-place.invariant

pub returns-clause-among : goal.returns-clause-among
returns-clause-among c =
    are_among c.args.keep.now (map line_of c.args.lines.now) (map line_of c.loop-place.kept.items)
    (returns-clause-stay c)

use Rattle.std.specs.Vec.Iter.{into_iter_items}
use Rattle.closed_search.proofs.Made.{naming_more}
use Rattle.closed_search.proofs.finished.name_lines.Goals as goal

pub loop-line-preserved : goal.loop-line-preserved
loop-line-preserved c =
    naming_more c.args.concepts.now c.args.naming.now c.loop-line.naming c.numbered.new.self c.args.lines.items
    c.loop-line.yielded (into_iter_items c.loop-line.line-iterator) (into_iter_items c.next.new.self)
    c.loop-line.made.items c.push.new.self.items c.in-Some.line c.in_ok-numbered.numbered c.loop-line.invariant
    c.in-Some.ensures.steps.0 c.in_ok-numbered.ensures c.in_ok-push.ensures.items

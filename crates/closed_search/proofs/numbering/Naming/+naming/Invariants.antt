use Rattle.std.proofs.Common.{◌+◌, ◌*◌, take}
use Rattle.closed_search.specs.Naming.{AreRenamed}
use Rattle.closed_search.proofs.numbering.Naming.+naming.Given as goal

abbrev pub decreases-name : goal.decreases-name
decreases-name l = 4 * l.concept + 3

abbrev pub decreases-name_new : goal.decreases-name_new
decreases-name_new l = 4 * l.concept + 2

abbrev pub decreases-renamed : goal.decreases-renamed
decreases-renamed l = 4 * l.above + 1

abbrev pub decreases-named_parts : goal.decreases-named_parts
decreases-named_parts l = 4 * l.above

abbrev pub invariant-named_parts-loop-part : goal.invariant-named_parts-loop-part
invariant-named_parts-loop-part l =
    AreRenamed l.concepts l.fn.self l.self l.above (take l.part-index l.parts) l.numbers.items

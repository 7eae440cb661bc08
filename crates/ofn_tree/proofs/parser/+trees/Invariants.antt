use Rattle.std.proofs.Common.{◌≤◌, ◌*◌, ◌+◌, ◌-◌, length}
use Rattle.ofn_tree.specs.Parsed.{ReadsItems}
use Rattle.ofn_tree.proofs.parser.+trees.Given as goal

abbrev pub decreases-items : goal.decreases-items
decreases-items l = 3 * (length l.tokens.now - l.start) + 2

abbrev pub decreases-one : goal.decreases-one
decreases-one l = 3 * (length l.tokens.now - l.start) + 1

abbrev pub decreases-group : goal.decreases-group
decreases-group l = 3 * (length l.tokens.now - l.place)

abbrev pub invariant-items-loop-place : goal.invariant-items-loop-place
invariant-items-loop-place l = record {
  behind : l.start ≤ l.place;
  within : l.place ≤ length l.tokens;
  read : ReadsItems l.end_line l.depth l.tokens l.start l.place l.trees.items;
}

abbrev pub decreases-items-loop-place : goal.decreases-items-loop-place
decreases-items-loop-place l = length l.tokens - l.place

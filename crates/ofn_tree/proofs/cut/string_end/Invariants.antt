use Rattle.std.proofs.Common.{◌≡◌, ◌≤◌, take, drop, false}
use Rattle.ofn_tree.specs.Lexemes.{quoted, line_feeds}
use Rattle.ofn_tree.proofs.Strings.{added}
use Rattle.ofn_tree.proofs.cut.string_end.Given as goal

abbrev pub invariant-loop-len : goal.invariant-loop-len
invariant-loop-len l = record {
  rest : quoted false l.text ≡ added l.len (quoted l.escaped (drop l.len l.text));
  feeds : line_feeds (take l.len l.text) ≡ l.line_feeds;
  within : l.line_feeds ≤ l.len;
}

use Rattle.std.proofs.Common.{◌≡◌, ◌≤◌, ◌+◌, ◌-◌, drop, length, map}
use Rattle.std.specs.Str.{IsCharBoundary}
use Rattle.ofn_tree.specs.Token.{plain_token}
use Rattle.ofn_tree.specs.Lexemes.{bad_byte_line, pieces_from}
use Rattle.ofn_tree.specs.Document.{document_front, document}
use Rattle.ofn_tree.specs.Scanned.{met_of}
use Rattle.ofn_tree.proofs.Reading.{with_tokens}
use Rattle.ofn_tree.proofs.lexer.tokens.Given as goal

abbrev pub invariant-loop-place : goal.invariant-loop-place
invariant-loop-place l = record {
  told : with_tokens (map plain_token l.tokens.items)
      (document_front (length l.text) (met_of l.brackets)
      (pieces_from (bad_byte_line l.text) 0 l.place l.line (drop l.place l.front)))
      ≡ document l.text;
  boundary : IsCharBoundary l.front l.place;
  lines : l.line ≤ l.place + 1;
  shallow : l.brackets.depth ≤ l.place;
}

abbrev pub decreases-loop-place : goal.decreases-loop-place
decreases-loop-place l = length l.front - l.place

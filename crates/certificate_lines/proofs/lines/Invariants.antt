use Rattle.std.proofs.Common.{◌≡◌, map, take}
use Rattle.std.specs.Str.Lines.{strip_carriage_return}
use Rattle.certificate_lines.proofs.lines.Given as goal

abbrev pub invariant-loop-piece : goal.invariant-loop-piece
invariant-loop-piece l =
    map (λ p. p.now) l.lines.items ≡ map strip_carriage_return (map (λ p. p.now) (take l.piece-index l.piece-items))

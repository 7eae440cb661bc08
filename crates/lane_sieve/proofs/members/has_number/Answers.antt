use Rattle.std.proofs.Common.{◌∙◌, sym, arith}
use Rattle.std.proofs.lemmas.Bool.{le-ltb}
use Rattle.lane_sieve.proofs.Next.{contains-shr, contains-past}
use Rattle.lane_sieve.proofs.members.has_number.Goals as goal

pub returns-then-place-words : goal.returns-then-place-words
returns-then-place-words c = contains-shr c.args.words.now c.args.number

pub returns-else-place-words : goal.returns-else-place-words
returns-else-place-words c =
    le-ltb _ _ c.if-place-words.false ∙ sym (contains-past c.args.words.now c.args.number (omega arith))

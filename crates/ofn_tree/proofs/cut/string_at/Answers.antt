use Rattle.std.proofs.Common.{◌-◌, length, take, drop, ap, arith}
use Rattle.std.proofs.lemmas.Str.{IsCharBoundary-after_ascii}
use Rattle.ofn_tree.proofs.Boundaries.{behind_close}
use Rattle.ofn_tree.proofs.cut.string_at.Goals as goal

pub range-requires-clause-start_boundary : goal.range-requires-clause-start_boundary
range-requires-clause-start_boundary c some =
    IsCharBoundary-after_ascii c.args.text.now 0 c.utf8.text c.requires.some c.requires.ascii

pub returns-in-Closes-clause-within : goal.returns-in-Closes-clause-within
returns-in-Closes-clause-within c = (
  omega arith,
  behind_close c.args.text.now _ c.in-Closes.len 34 c.utf8.text c.requires.some
      (ap (λ l. take (length l - 1) (drop 1 l)) c.as_bytes.ensures.value) c.in-Closes.ensures.within.0
      c.in-Closes.ensures.within.1 (omega arith),
)

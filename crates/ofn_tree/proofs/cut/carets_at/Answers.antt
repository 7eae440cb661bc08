use Rattle.std.proofs.Common.{◌-◌, length, take, drop, ap, arith}
use Rattle.ofn_tree.proofs.Boundaries.{behind_close, some_byte}
use Rattle.ofn_tree.proofs.cut.carets_at.Goals as goal

pub range-requires-clause-end_boundary : goal.range-requires-clause-end_boundary
range-requires-clause-end_boundary c =
    behind_close c.args.text.now _ 0 94 c.utf8.text c.requires.some
    (ap (λ l. take (length l - 1) (drop 1 l)) c.as_bytes.ensures.value) (some_byte _ c.if-rest-eq94.true)
    c.if-rest-eq94.true (omega arith)

pub returns-then-rest-eq94-clause-within : goal.returns-then-rest-eq94-clause-within
returns-then-rest-eq94-clause-within c = (
  omega arith,
  behind_close c.args.text.now _ 0 94 c.utf8.text c.requires.some
      (ap (λ l. take (length l - 1) (drop 1 l)) c.as_bytes.ensures.value) (some_byte _ c.if-rest-eq94.true)
      c.if-rest-eq94.true (omega arith),
)

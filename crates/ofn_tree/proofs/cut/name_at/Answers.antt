use Rattle.std.proofs.Common.{◌-◌, length, take, drop, ap, arith}
use Rattle.ofn_tree.specs.Lexemes.{is_name_byte}
use Rattle.ofn_tree.proofs.Boundaries.{at_stop, name_stop-low}
use Rattle.ofn_tree.proofs.Feeds.{front-feeds, name-plain}
use Rattle.ofn_tree.proofs.cut.name_at.Goals as goal

pub range-requires-clause-end_boundary : goal.range-requires-clause-end_boundary
range-requires-clause-end_boundary c =
    at_stop is_name_byte name_stop-low c.args.text.now _ c.name_len-len.result c.requires.some
    (ap (λ l. take (length l - 1) (drop 1 l)) c.as_bytes.ensures.value) c.name_len-len.ensures.value

pub returns-clause-within : goal.returns-clause-within
returns-clause-within c = (
  omega arith,
  at_stop is_name_byte name_stop-low c.args.text.now _ c.name_len-len.result c.requires.some
      (ap (λ l. take (length l - 1) (drop 1 l)) c.as_bytes.ensures.value) c.name_len-len.ensures.value,
)

pub returns-clause-feeds : goal.returns-clause-feeds
returns-clause-feeds c = (
  front-feeds is_name_byte name-plain c.args.text.now _ c.name_len-len.result c.requires.some c.requires.printing
      (ap (λ l. take (length l - 1) (drop 1 l)) c.as_bytes.ensures.value) c.name_len-len.ensures.value,
  omega arith,
)

use Rattle.std.proofs.Common.{◌-◌, length, take, drop, ap, arith}
use Rattle.ofn_tree.specs.Lexemes.{is_comment_byte}
use Rattle.ofn_tree.proofs.Boundaries.{at_stop, comment_stop-low}
use Rattle.ofn_tree.proofs.Feeds.{front-feeds, comment-plain}
use Rattle.ofn_tree.proofs.cut.comment_at.Goals as goal

pub returns-clause-within : goal.returns-clause-within
returns-clause-within c = (
  omega arith,
  at_stop is_comment_byte comment_stop-low c.args.text.now _ c.comment_len.result c.requires.some
      (ap (λ l. take (length l - 1) (drop 1 l)) c.as_bytes.ensures.value) c.comment_len.ensures.value,
)

pub returns-clause-feeds : goal.returns-clause-feeds
returns-clause-feeds c = (
  front-feeds is_comment_byte comment-plain c.args.text.now _ c.comment_len.result c.requires.some
      c.requires.printing (ap (λ l. take (length l - 1) (drop 1 l)) c.as_bytes.ensures.value)
      c.comment_len.ensures.value,
  omega arith,
)

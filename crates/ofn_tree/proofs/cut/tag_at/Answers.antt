use Rattle.std.proofs.Common.{◌≡◌, ◌+◌, ◌-◌, ◌∙◌, length, take, drop, ap, arith}
use Rattle.ofn_tree.specs.Lexemes.{is_tag_byte, line_feeds}
use Rattle.ofn_tree.proofs.Boundaries.{behind_tag}
use Rattle.ofn_tree.proofs.Feeds.{front-feeds, tag-plain}
use Rattle.ofn_tree.proofs.cut.tag_at.Goals as goal

pub range-requires-clause-end_boundary : goal.range-requires-clause-end_boundary
range-requires-clause-end_boundary c =
    behind_tag c.args.text.now _ c.tag_len-len.result c.utf8.text c.requires.some
    (ap (λ l. take (length l - 1) (drop 1 l)) c.as_bytes.ensures.value) c.tag_len-len.ensures.value (omega arith)

pub returns-clause-within : goal.returns-clause-within
returns-clause-within c = (
  omega arith,
  behind_tag c.args.text.now _ c.tag_len-len.result c.utf8.text c.requires.some
      (ap (λ l. take (length l - 1) (drop 1 l)) c.as_bytes.ensures.value) c.tag_len-len.ensures.value (omega arith),
)

pub returns-clause-feeds : goal.returns-clause-feeds
returns-clause-feeds c =
    let n = c.tag_len-len.result in
    let there : n + 1 ≡ 1 + n = omega arith in (
      ap (λ m. line_feeds (take m c.args.text.now)) there
          ∙ front-feeds is_tag_byte tag-plain c.args.text.now _ n c.requires.some c.requires.printing
          (ap (λ l. take (length l - 1) (drop 1 l)) c.as_bytes.ensures.value) c.tag_len-len.ensures.value,
      omega arith,
    )

use Rattle.std.proofs.Common.{◌-◌, length, take, drop, ap, arith}
use Rattle.std.proofs.lemmas.Str.{IsCharBoundary-after_ascii}
use Rattle.ofn_tree.specs.Lexemes.{is_iri_byte}
use Rattle.ofn_tree.proofs.Boundaries.{behind_close}
use Rattle.ofn_tree.proofs.Feeds.{closed-feeds, iri-plain}
use Rattle.ofn_tree.proofs.cut.iri_at.Goals as goal

pub range-requires-clause-start_boundary : goal.range-requires-clause-start_boundary
range-requires-clause-start_boundary c some =
    IsCharBoundary-after_ascii c.args.text.now 0 c.utf8.text c.requires.some c.requires.ascii

pub returns-then-rest-len-eq62-clause-within : goal.returns-then-rest-len-eq62-clause-within
returns-then-rest-len-eq62-clause-within c = (
  omega arith,
  behind_close c.args.text.now _ c.iri_len-len.result 62 c.utf8.text c.requires.some
      (ap (λ l. take (length l - 1) (drop 1 l)) c.as_bytes.ensures.value) c.if-len-rest.true c.if-rest-len-eq62.true
      (omega arith),
)

pub returns-then-rest-len-eq62-clause-feeds : goal.returns-then-rest-len-eq62-clause-feeds
returns-then-rest-len-eq62-clause-feeds c = (
  closed-feeds is_iri_byte iri-plain c.args.text.now _ c.iri_len-len.result 62 c.requires.some c.requires.printing
      (ap (λ l. take (length l - 1) (drop 1 l)) c.as_bytes.ensures.value) c.iri_len-len.ensures.value c.if-len-rest.true
      c.if-rest-len-eq62.true (omega arith),
  omega arith,
)

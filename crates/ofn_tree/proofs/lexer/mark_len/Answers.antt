use Rattle.std.proofs.Common.{nat_eq, sym, ap, ◌∙◌}
use Rattle.std.specs.List.{starts_with}
use Rattle.ofn_tree.specs.Lexemes.{byte_order_mark}
use Rattle.std.proofs.lemmas.Str.{IsCharBoundary-start}
use Rattle.ofn_tree.proofs.Boundaries.{behind_mark}
use Rattle.ofn_tree.proofs.lexer.mark_len.Goals as goal

pub returns-then-starts_with-clause-within : goal.returns-then-starts_with-clause-within
returns-then-starts_with-clause-within c =
    behind_mark c.args.text.now c.utf8.text
    (ap (λ l. starts_with nat_eq l byte_order_mark) (sym c.as_bytes.ensures.value) ∙ sym c.starts_with.ensures.value
    ∙ c.if-starts_with.true)

pub returns-else-starts_with-clause-within : goal.returns-else-starts_with-clause-within
returns-else-starts_with-clause-within c = IsCharBoundary-start c.args.text.now c.utf8.text

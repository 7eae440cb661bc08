use Rattle.std.proofs.Common.{get_or, ◌<◌, sym, ap, ◌∙◌, arith}
use Rattle.std.proofs.lemmas.Str.{IsCharBoundary-after_ascii}
use Rattle.ofn_tree.specs.Lexemes.{is_whitespace}
use Rattle.ofn_tree.proofs.Boundaries.{space-low}
use Rattle.ofn_tree.proofs.cut.cut_at.Goals as goal

pub returns-then-is_whitespace-clause-within : goal.returns-then-is_whitespace-clause-within
returns-then-is_whitespace-clause-within c =
    let low : get_or c.args.text.now 0 0 < 128 =
    space-low (get_or c.args.text.now 0 0)
    (ap (λ l. is_whitespace (get_or l 0 0)) (sym c.as_bytes.ensures.value) ∙ sym c.is_whitespace.ensures
    ∙ c.if-is_whitespace.true) in
    (omega arith, IsCharBoundary-after_ascii c.args.text.now 0 c.utf8.text c.requires.some low)

use Rattle.std.proofs.Common.{◌≡◌, length, sym, ◌∙◌, arith}
use Rattle.std.proofs.lemmas.List.{take_all}
use Rattle.std.proofs.lemmas.Str.{utf8_valid_len-IsUtf8}
use Rattle.std.specs.Str.Lossy.{utf8_valid_len}
use Rattle.ofn_tree.proofs.lexer.utf8_front.Goals as goal

pub returns-in-Ok-clause-front : goal.returns-in-Ok-clause-front
returns-in-Ok-clause-front c =
    let text = c.args.text.now in
    let whole : utf8_valid_len text ≡ length text = utf8_valid_len-IsUtf8 text c.in-Ok.ensures.cases.1 in
    c.in-Ok.ensures.cases.0 ∙ sym (take_all (utf8_valid_len text) text (omega arith))

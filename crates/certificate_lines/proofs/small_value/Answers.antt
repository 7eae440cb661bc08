use Rattle.certificate_lines.proofs.Digits.{numeral_is_text, small_value_err}
use Rattle.certificate_lines.proofs.small_value.Goals as goal

pub unreachable-requires : goal.unreachable-requires
unreachable-requires c = c.in-Err.ensures.cases.0 (numeral_is_text c.args.digits.now c.requires)

pub returns-in-Err-parse : goal.returns-in-Err-parse
returns-in-Err-parse c =
    small_value_err c.args.digits.now c.in-Ok.text.now c.requires c.in-Ok.ensures.cases.0 c.in-Err-parse.ensures.value.0

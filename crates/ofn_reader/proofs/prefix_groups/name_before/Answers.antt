use Rattle.std.proofs.Common.{refl, arith}
use Rattle.ofn_expressions.specs.Names.{is_colon}
use Rattle.ofn_expressions.proofs.Digits.{none_before_end}
use Rattle.ofn_reader.proofs.prefix_groups.name_before.Goals as goal

pub returns-in_default : goal.returns-in_default
returns-in_default c =
    rw (none_before_end is_colon c.args.name.now (c.in_default.ensures.byte (omega arith) (λ w o h. h))) refl

use Rattle.std.proofs.Common.{refl, arith}
use Rattle.ofn_expressions.specs.Names.{is_colon}
use Rattle.ofn_expressions.proofs.Digits.{none_before_end}
use Rattle.ofn_expressions.proofs.names.iri_and_rest.Goals as goal

pub returns-in_default-clause-tests : goal.returns-in_default-clause-tests
returns-in_default-clause-tests c =
    λ s known. rw (none_before_end is_colon c.args.name.now (c.in_default.ensures.byte (omega arith) (λ w o h. h))) refl

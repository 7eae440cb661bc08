use Rattle.std.proofs.Common.{◌≡◌, ◌++◌, ◌∷◌, [], ◌∙◌, ap, arith, codes, decimal}
use Rattle.std.proofs.lemmas.Fmt.{decimal_digit, decimal_step}
use Rattle.ofn_writer.proofs.laws.examples_hold.Goals as goal

pub returns-clause-cardinality : goal.returns-clause-cardinality
returns-clause-cardinality c =
    let twenty : decimal 20 ≡ codes "20" =
    decimal_step 20 (omega arith) (omega arith) ∙ ap (λ ds. ds ++ 48 ∷ []) (decimal_digit 2 (omega arith)) in
    rw twenty

pub returns-clause-bounds : goal.returns-clause-bounds
returns-clause-bounds c = rw (decimal_digit 0 (omega arith))

pub returns-clause-inclusion : goal.returns-clause-inclusion
returns-clause-inclusion c = rw (decimal_digit 0 (omega arith))

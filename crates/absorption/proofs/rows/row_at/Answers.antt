use Rattle.std.proofs.Common.{◌≡◌, ◌+◌, ◌-◌, ap, subst, ◌∙◌, arith}
use Rattle.std.specs.Prelude.{IfOk}
use Rattle.calculus_specs.specs.Rows.{Part}
use Rattle.row_cache.specs.Parts.{axiom_parts, part_in}
use Rattle.absorption.specs.Rows.{IsRowOfPart}
use Rattle.absorption.proofs.Listed.{part_listed, part_read}
use Rattle.absorption.proofs.rows.row_at.Goals as goal

pub row_of_part-requires : goal.row_of_part-requires
row_of_part-requires c =
    part_listed c.part.new.self c.in_ok-found.found (part_in (axiom_parts c.args.axiom.now) (c.args.place + 1 - 1))
    c.in_ok-found.ensures.part

pub returns-clause-row : goal.returns-clause-row
returns-clause-row c =
    let qs = axiom_parts c.args.axiom.now in
    let back : c.args.place + 1 - 1 ≡ c.args.place = omega arith in
    subst (λ (q : Part). IfOk c.row_of_part.result
    (IsRowOfPart c.row_of_part.new.concepts c.args.number (c.args.place + 1) q))
    (part_read c.part.new.self c.in_ok-found.found (part_in qs (c.args.place + 1 - 1)) c.in_ok-found.ensures.part
    ∙ ap (part_in qs) back)
    c.row_of_part.ensures.row

use Rattle.std.proofs.Common.{◌≡◌, ℕ, arith, subst}
use Rattle.subsumption.proofs.United.{AreBlank, covers_none, blank_matrix}
use Rattle.subsumption.proofs.matrix.BitMatrix.empty.Goals as goal

pub invariant_of-result : goal.invariant_of-result
invariant_of-result c =
    let all : c.loop.counter ≡ c.args.size = omega arith in
    covers_none c.args.size c.loop.rows.items c.in_ok-columns.columns (omega arith)
    (subst (λ (n : ℕ). AreBlank c.args.size n c.loop.rows.items) all c.loop.invariant) c.in_ok-columns.ensures.limit

pub returns : goal.returns
returns c =
    let all : c.loop.counter ≡ c.args.size = omega arith in
    blank_matrix c.args.size c.loop.rows.items
    (subst (λ (n : ℕ). AreBlank c.args.size n c.loop.rows.items) all c.loop.invariant)

use Rattle.std.proofs.Common.{◌≡◌, ℕ, length, arith, subst}
use Rattle.role_box.specs.Rows.{linked}
use Rattle.role_box.specs.Paths.{has_path}
use Rattle.role_box.proofs.Rows.{path_more}
use Rattle.role_box.proofs.closure.close.Goals as goal

pub loop-middle-preserved : goal.loop-middle-preserved
loop-middle-preserved c = path_more _ _ _ _ c.pass_through.ensures c.loop-middle.invariant

pub returns : goal.returns
returns c =
    let all : c.loop-middle.middle ≡ length c.args.rows.now = omega arith in
    subst (λ (n : ℕ). (r s : ℕ) → linked c.loop-middle.rows r s ≡ has_path (linked c.args.rows.now) n r s) all
    c.loop-middle.invariant

use Rattle.std.proofs.Common.{subst, arith}
use Rattle.std.proofs.Common.{ℕ, List}
use Rattle.calculus_specs.specs.Listed.{IsLabel}
use Rattle.completion_tree.specs.Trail.{facts_in}
use Rattle.blocking.proofs.Beyond.{blocked_beyond}
use Rattle.blocking.proofs.block_list.is_clear_beyond.Goals as goal

pub returns-clause-blocked : goal.returns-clause-blocked
returns-clause-blocked g c =
    let fs = facts_in c.args.tree.now.entries in
    let x = c.args.node in
    blocked_beyond c.args.tree.now.first fs x (omega (arith, c.first.ensures.some, c.first.ensures.first)) c.requires
    (subst (λ (cs : List ℕ). IsLabel fs x cs) (c.label.ensures.beyond c.requires) c.label.ensures.held)

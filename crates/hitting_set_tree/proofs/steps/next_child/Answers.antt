use Rattle.std.proofs.Common.{◌∙◌, sym, subst, arith}
use Rattle.axiom_sets.specs.Sets.{Limited}
use Rattle.hitting_set_tree.specs.Territory.{IsNextChild}
use Rattle.hitting_set_tree.proofs.Children.{next_child}
use Rattle.hitting_set_tree.proofs.steps.next_child.Goals as goal

pub returns : goal.returns
returns c =
    let good = c.requires in
    let f = c.args.frame.now in
    let barred = c.take-2.new.self in
    subst (λ (b : Limited). IsNextChild f
    (record { hit = f.hit; barred = barred; ahead = c.take.new.self; label = f.label })
    (record { hit = c.in_ok-hit.hit; barred = b }))
    (sym c.in_ok-barred.ensures)
    (next_child f c.in-Some.number c.in_ok-hit.hit barred c.take.new.self good c.in-Some.ensures.member
    (omega (arith, c.in-Some.ensures.high, good.ahead_limit)) c.in_ok-hit.ensures.limit
    (c.take-2.ensures.limit ∙ good.barred_limit) (c.take.ensures.limit ∙ good.ahead_limit) c.in_ok-hit.ensures.members
    c.take-2.ensures.members c.take.ensures.members)

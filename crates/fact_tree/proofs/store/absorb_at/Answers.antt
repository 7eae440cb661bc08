use Rattle.std.proofs.Common.{get_or, ap}
use Rattle.fact_tree.specs.Kept.{Lists}
use Rattle.fact_tree.proofs.Growing.{on_err_both, on_ok_by}
use Rattle.fact_tree.proofs.Absorbed.{absorbed, longer}
use Rattle.fact_tree.proofs.store.absorb_at.Goals as goal

pub returns-clause-put : goal.returns-clause-put
returns-clause-put g c =
    let h = c.split_at_mut-front.ensures in
    let front = c.split_at_mut-front.result.0.now in
    let back = c.split_at_mut-front.result.1.now in
    on_ok_by c.absorb.result _ _
    (λ is. absorbed c.args.nodes.now front back c.args.high c.args.low
    (get_or front c.args.low c.index-front-low.result) (get_or back 0 c.index-back-0.result) c.absorb.new.self
    h.value h.back h.front_len c.requires.falls c.requires.exists
    (ap (λ (d : Lists). get_or front c.args.low d) c.index-front-low.is)
    (ap (λ (d : Lists). get_or back 0 d) c.index-back-0.is) is)
    c.absorb.ensures.put

pub returns-clause-begins : goal.returns-clause-begins
returns-clause-begins g c =
    let h = c.split_at_mut-front.ensures in
    let front = c.split_at_mut-front.result.0.now in
    on_err_both c.absorb.result _ _ _
    (λ is same. longer c.args.nodes.now front c.split_at_mut-front.result.1.now c.args.high c.args.low
    (get_or front c.args.low c.index-front-low.result) c.absorb.new.self
    h.value h.front_len c.requires.falls c.requires.exists
    (ap (λ (d : Lists). get_or front c.args.low d) c.index-front-low.is) is same)
    c.absorb.ensures.begins c.absorb.ensures.members

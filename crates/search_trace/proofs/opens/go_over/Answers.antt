use Rattle.std.proofs.Common.{List, refl, ap, sym, ◌∙◌}
use Rattle.search_trace.specs.declared.opens.OpenBranching.{OpenBranching}
use Rattle.search_trace.specs.Going.{reached}
use Rattle.search_trace.proofs.Going.{going_on, stays_placed, has_halted}
use Rattle.search_trace.proofs.opens.go_over.Goals as goal

pub loop-latest-init : goal.loop-latest-init
loop-latest-init c = record { placed = c.requires; same = refl }

pub loop-latest-preserved-in_ok-used : goal.loop-latest-preserved-in_ok-used
loop-latest-preserved-in_ok-used c =
    going_on c.args.lines.now.items c.args.opens.now.items c.args.used c.loop-latest.lines.items
    c.loop-latest.opens.items c.take_latest.new.opens.items c.loop-latest.used c.in-Some.latest c.pass.new.lines.items
    c.in_ok-used.used
    c.loop-latest.invariant c.in-Some.ensures.some c.in_ok-used.ensures.passes

pub loop-latest-preserved : goal.loop-latest-preserved
loop-latest-preserved c =
    going_on c.args.lines.now.items c.args.opens.now.items c.args.used c.loop-latest.lines.items
    c.loop-latest.opens.items c.take_latest.new.opens.items c.loop-latest.used c.in-Some.latest c.pass.new.lines.items
    c.in_ok-used.used
    c.loop-latest.invariant c.in-Some.ensures.some c.in_ok-used.ensures.passes

pub returns-clause-goes : goal.returns-clause-goes
returns-clause-goes c =
    let l = c.loop-latest in
    let halts = c.in_default.ensures.none refl in
    has_halted c.args.lines.now.items c.args.opens.now.items c.args.used l.lines.items l.opens.items l.used l.invariant
    halts.1
    ∙ ap (λ (os : List OpenBranching). reached l.lines.items os l.used) (sym halts.0)

pub returns-in_err-used-clause-placed : goal.returns-in_err-used-clause-placed
returns-in_err-used-clause-placed c =
    let l = c.loop-latest in
    stays_placed c.args.lines.now.items c.args.opens.now.items c.args.used l.lines.items l.opens.items
    c.take_latest.new.opens.items l.used c.in-Some.latest c.pass.new.lines.items
    l.invariant c.in-Some.ensures.some c.in_err-used.ensures.unchanged

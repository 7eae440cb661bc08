use Rattle.std.proofs.Common.{List, ℕ, get_or, take, drop, ◌+◌, sym, subst, ◌∙◌, inl, inr}
use Rattle.certificate_lines.specs.Lines.{bytes_of}
use Rattle.edit_session.specs.Scripts.{IsToldSoFar}
use Rattle.edit_session.proofs.Scripted.{told_none, told_next, cut_off, after_err, told_at_first, nothing_put}
use Rattle.edit_session.proofs.Scripted.{lines_more, lines_halves, lines_split, next_logged, ran_out}
use Rattle.edit_session.proofs.script.run_script.Goals as goal

pub loop-line-init : goal.loop-line-init
loop-line-init c =
    told_none c.args.budget c.args.session.now c.args.log.now c.args.out.now.items c.requires.may_go_on
    c.requires.honest

pub returns-in-Spent-clause-written : goal.returns-in-Spent-clause-written
returns-in-Spent-clause-written c =
    let ls = c.args.lines.now in
    let i = c.loop-line.line-index in
    cut_off c.args.budget c.args.session.now.state c.args.log.now c.args.out.now.items (bytes_of (take i ls)) _
    c.loop-line.session c.say_to.new.session c.loop-line.log c.say_to.new.log c.loop-line.out.items
    c.say_to.new.out.items
    c.loop-line.invariant c.say_to.ensures.more c.say_to.ensures.honest c.in_ok-say_to.field-0 c.in-Spent.is
    c.in_ok-say_to.ensures.said (bytes_of (drop (i + 1) ls)) (bytes_of ls) (lines_split ls i _ c.loop-line-test.true)
    c.extend_from_slice.new.self.items
    c.in_ok-extend_from_slice-in-Spent.ensures.items

pub loop-line-preserved : goal.loop-line-preserved
loop-line-preserved c =
    let ls = c.args.lines.now in
    let i = c.loop-line.line-index in
    subst (λ (done : List (List ℕ)). IsToldSoFar c.args.budget c.args.session.now.state c.args.log.now
    c.args.out.now.items done c.say_to.new.session c.say_to.new.log c.say_to.new.out.items)
    (sym (lines_more ls i _ c.loop-line-test.true))
    (told_next c.args.budget c.args.session.now.state c.args.log.now c.args.out.now.items (bytes_of (take i ls)) _
    c.loop-line.session c.say_to.new.session c.loop-line.log c.say_to.new.log c.loop-line.out.items
    c.say_to.new.out.items
    c.loop-line.invariant c.say_to.ensures.more c.say_to.ensures.honest c.in_ok-say_to.field-0 c.in-Answered.is
    c.in_ok-say_to.ensures.said)

pub returns-in_err-say_to-clause-unfinished : goal.returns-in_err-say_to-clause-unfinished
returns-in_err-say_to-clause-unfinished c =
    let ls = c.args.lines.now in
    let i = c.loop-line.line-index in
    after_err c.from_residual.result _
    (told_at_first c.args.budget c.args.session.now.state c.args.log.now c.args.out.now.items (bytes_of (take i ls))
    (bytes_of (drop i ls)) (bytes_of ls) c.loop-line.session c.loop-line.log c.say_to.new.log c.loop-line.out.items
    c.say_to.new.out.items c.loop-line.invariant (lines_halves ls i) c.in_err-say_to.ensures.unwritten
    (next_logged c.args.budget c.loop-line.session.state ls i _ c.loop-line.log c.say_to.new.log c.loop-line-test.true
    c.in_err-say_to.ensures.logged.0 (inl c.in_err-say_to.ensures.logged.1)))

pub returns-in_err-extend_from_slice-in-Spent-clause-unfinished :
    goal.returns-in_err-extend_from_slice-in-Spent-clause-unfinished
returns-in_err-extend_from_slice-in-Spent-clause-unfinished c =
    let ls = c.args.lines.now in
    let i = c.loop-line.line-index in
    let said = c.in_ok-say_to.field-0 in
    let ran =
    ran_out c.args.budget c.loop-line.session c.say_to.new.session (get_or ls i _).now c.loop-line.log c.say_to.new.log
    c.loop-line.out.items c.say_to.new.out.items said c.in-Spent.is c.in_ok-say_to.ensures.said in
    after_err c.from_residual-in_err-extend_from_slice-in-Spent.result _
    (told_at_first c.args.budget c.args.session.now.state c.args.log.now c.args.out.now.items (bytes_of (take i ls))
    (bytes_of (drop i ls)) (bytes_of ls) c.loop-line.session c.loop-line.log c.say_to.new.log c.loop-line.out.items
    c.extend_from_slice.new.self.items c.loop-line.invariant (lines_halves ls i)
    (c.in_err-extend_from_slice-in-Spent.ensures.items
    ∙ nothing_put c.args.budget c.loop-line.session c.say_to.new.session (get_or ls i _).now c.loop-line.log
    c.say_to.new.log
    c.loop-line.out.items c.say_to.new.out.items said c.in-Spent.is c.in_ok-say_to.ensures.said)
    (next_logged c.args.budget c.loop-line.session.state ls i _ c.loop-line.log c.say_to.new.log c.loop-line-test.true
    ran.0 (inr ran.1)))

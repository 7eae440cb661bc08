use Rattle.std.proofs.Common.{ap, ◌∙◌}
use Rattle.certificate_lines.specs.Lines.{bytes_of}
use Rattle.edit_session.proofs.Scripted.{after_err}
use Rattle.edit_session.proofs.Answered.{lines_answered, nothing_logged, logged_so_far}
use Rattle.edit_session.proofs.answering.answers_of.Goals as goal

pub returns-in_err-lines-clause-begun : goal.returns-in_err-lines-clause-begun
returns-in_err-lines-clause-begun c =
    after_err c.from_residual.result _
    (nothing_logged c.args.budget c.args.log.now _ _ c.requires.unlogged c.requires.honest)

pub returns-clause-answer : goal.returns-clause-answer
returns-clause-answer c =
    lines_answered c.args.budget c.args.session.now.state c.run_script.new.session.state c.args.log.now
    c.new-out.result.items (bytes_of c.deref.result.now) _ c.run_script.new.log c.run_script.new.out.items
    c.in_ok-said.said c.requires.unlogged c.new-out.ensures.items
    (ap bytes_of c.deref.ensures.value ∙ c.in_ok-lines.ensures) c.in_ok-said.ensures.written c.end_status.result
    c.end_status.ensures

pub returns-in_err-said-clause-begun : goal.returns-in_err-said-clause-begun
returns-in_err-said-clause-begun c =
    after_err c.from_residual-in_err-said.result _
    (logged_so_far c.args.budget c.args.session.now.state c.run_script.new.session.state.ontology c.args.log.now
    c.run_script.new.log c.new-out.result.items (bytes_of c.deref.result.now) _ c.run_script.new.out.items
    c.requires.unlogged c.new-out.ensures.items (ap bytes_of c.deref.ensures.value ∙ c.in_ok-lines.ensures)
    c.in_err-said.ensures.unfinished c.run_script.ensures.more c.run_script.ensures.honest)

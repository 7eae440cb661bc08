use Rattle.std.proofs.Common.{sym, ◌∙◌}
use Rattle.edit_session.proofs.Scripted.{honest_line, line_logged}
use Rattle.edit_session.proofs.script.say_to.Goals as goal

pub returns-clause-honest : goal.returns-clause-honest
returns-clause-honest c =
    honest_line c.args.budget c.args.session.now c.line.new.self c.args.line.now c.args.log.now c.line.new.log
    c.args.out.now.items c.line.new.out.items c.requires.may_go_on c.line.ensures.more c.line.ensures.within
    c.requires.honest
    c.line.result c.line.ensures.done c.line.ensures.logged

pub returns-clause-logged : goal.returns-clause-logged
returns-clause-logged c =
    line_logged c.line.result c.args.session.now.state c.args.line.now c.args.log.now c.line.new.log
    (sym c.is_blank.ensures ∙ c.if-is_blank.false) c.line.ensures.logged

use Rattle.std.proofs.Common.{sym}
use Rattle.job_inputs.specs.Answer.{text_bytes}
use Rattle.edit_session.proofs.Telling.{add_told, remove_told}
use Rattle.edit_session.proofs.session.Session.answer.Goals as goal

pub returns-in_ok-add-in-Add-clause-told : goal.returns-in_ok-add-in-Add-clause-told
returns-in_ok-add-in-Add-clause-told c =
    add_told c.args.self.now c.add.new.self c.args.budget c.args.log.now c.requires c.add.ensures.noted
    c.in-Add.text.now (text_bytes c.in_ok-add-in-Add.field-0) c.in_ok-add-in-Add.ensures.added c.args.line.now
    (sym c.in-Add.ensures)

pub returns-in_ok-remove-in-Remove-clause-told : goal.returns-in_ok-remove-in-Remove-clause-told
returns-in_ok-remove-in-Remove-clause-told c =
    remove_told c.args.self.now c.remove.new.self c.args.budget c.args.log.now c.requires c.remove.ensures.noted
    c.in-Remove.number (text_bytes c.in_ok-remove-in-Remove.field-0) c.in_ok-remove-in-Remove.ensures.removed
    c.args.line.now
    (sym c.in-Remove.ensures)

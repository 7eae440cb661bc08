use Rattle.edit_session.specs.Places.{plain_noted}
use Rattle.edit_session.proofs.Sessions.{if_told, if_logged}
use Rattle.edit_session.proofs.session.Session.ask.Goals as goal

pub returns-clause-told : goal.returns-clause-told
returns-clause-told c =
    if_told c.self.inside.ontology c.ask-asked.new.ontology c.self.inside.context c.self.inside.live
    (plain_noted c.self.inside.noted) (plain_noted c.ask-asked.new.noted) c.args.budget c.args.text.now c.args.log.now
    c.ask-asked.new.log
    c.args.self.now c.self.view_is c.self.invariant.limit c.ask-asked.ensures.same c.requires c.ask-asked.ensures.within
    c.ask-asked.ensures.noted
    c.ask-asked.result c.ask-asked.ensures.asked c.ask-asked.ensures.unasked c.ask-asked.ensures.unlogged
    c.answer_text.result c.answer_text.ensures.text

pub returns-clause-logged : goal.returns-clause-logged
returns-clause-logged c =
    if_logged c.self.inside.ontology c.ask-asked.new.ontology c.self.inside.context c.self.inside.live
    (plain_noted c.self.inside.noted) (plain_noted c.ask-asked.new.noted) c.args.budget c.args.text.now c.args.log.now
    c.ask-asked.new.log
    c.args.self.now c.self.view_is c.self.invariant.limit c.ask-asked.ensures.same c.requires c.ask-asked.ensures.within
    c.ask-asked.ensures.noted
    c.ask-asked.result c.ask-asked.ensures.asked c.ask-asked.ensures.unasked c.ask-asked.ensures.unlogged
    c.answer_text.result c.answer_text.ensures.has_text

use Rattle.edit_session.specs.Places.{plain_noted}
use Rattle.edit_session.proofs.Beginning.{new_lists}
use Rattle.edit_session.proofs.session.Session.new.Goals as goal

pub returns : goal.returns
returns c =
    new_lists c.args.ontology c.args.context c.axiom_count.result c.in_ok-live.live.members (plain_noted c.new.result)
    c.axiom_count.ensures.count c.in_ok-live.ensures.members c.new.ensures.seen c.new.ensures.places

use Rattle.std.proofs.Common.{subst, sym, refl}
use Rattle.edit_session.specs.Asking.{IsTold}
use Rattle.edit_session.proofs.Filed.{told_among, none_answers}
use Rattle.edit_session.proofs.noted_places.NotedPlaces.recall.Goals as goal

pub returns-in_ok-told_by-in-Some : goal.returns-in_ok-told_by-in-Some
returns-in_ok-told_by-in-Some c =
    let log = c.args.log.now in
    let s = c.args.live.now in
    let q = c.args.query.now in
    subst (IsTold log s q) (sym c.in_ok-told_by-in-Some.ensures)
    (told_among log s q c.in-Some.end.now c.in-Some.ensures)

pub returns-in-None : goal.returns-in-None
returns-in-None c =
    none_answers c.args.live.now.members c.args.log.now c.args.self.now.places.items c.args.live.now c.args.query.now
    refl c.requires c.in-None.ensures

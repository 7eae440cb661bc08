use Rattle.std.proofs.Common.{ℕ, List, set, subst}
use Rattle.std.specs.Prelude.{Contains}
use Rattle.edit_session.specs.Places.{places_at}
use Rattle.edit_session.proofs.Filed.{read_at, keeps_set, has_set, pushed, put_last}
use Rattle.edit_session.proofs.noted_places.push_at.Goals as goal

pub returns-clause-keeps : goal.returns-clause-keeps
returns-clause-keeps c =
    let lists = c.args.places.now.items in
    let print = c.args.print in
    let old = c.index_mut-list.result.now in
    let new = c.push.new.self in
    keeps_set lists print c.requires new
    (λ place there. pushed c.push.result old new c.args.place c.push.ensures.pushed c.push.ensures.unchanged place
    (subst (λ (xs : List ℕ). Contains xs place) (read_at lists print old c.requires c.index_mut-list.ensures.value)
    there))

pub returns-clause-filed : goal.returns-clause-filed
returns-clause-filed c =
    let lists = c.args.places.now.items in
    let print = c.args.print in
    let old = c.index_mut-list.result.now in
    let new = c.push.new.self in
    put_last c.push.result old new c.args.place (Contains (places_at (set lists print new) print) c.args.place)
    c.push.ensures.pushed (has_set lists print c.requires new c.args.place)

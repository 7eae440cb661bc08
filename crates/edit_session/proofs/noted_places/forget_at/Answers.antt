use Rattle.std.proofs.Common.{◌≡◌, ℕ, List, ◌∙◌, sym, subst}
use Rattle.edit_session.specs.Places.{places_at, KeepsOthers}
use Rattle.edit_session.proofs.Filed.{read_at, others_set}
use Rattle.edit_session.proofs.noted_places.forget_at.Goals as goal

pub returns : goal.returns
returns c =
    let lists = c.args.places.now.items in
    let print = c.args.print in
    let log = c.args.log.now in
    let q = c.args.query.now in
    let is : places_at lists print ≡ c.items.result.now =
    read_at lists print c.index.result.now c.requires c.index.ensures ∙ sym c.items.ensures in
    others_set lists print c.requires c.in_ok-kept.kept log q
    (subst (λ (xs : List ℕ). KeepsOthers log q xs c.in_ok-kept.kept) (sym is) c.in_ok-kept.ensures)

use Rattle.std.proofs.Common.{◌≡◌, ◌<◌, ℕ, List, length, ◌∙◌, ap, sym, subst, arith}
use Rattle.edit_session.specs.Places.{places_at, IsFoundIn}
use Rattle.edit_session.specs.Prints.{query_print}
use Rattle.edit_session.proofs.Filed.{read_at, end_of}
use Rattle.edit_session.proofs.noted_places.NotedPlaces.find.Goals as goal

pub returns-then-print-len : goal.returns-then-print-len
returns-then-print-len c =
    let lists = c.args.self.now.places.items in
    let log = c.args.log.now in
    let s = c.args.live.now in
    let q = c.args.query.now in
    let print = c.query_print-print.result in
    let lt : print < length lists = omega (arith, c.if-print-len.true, c.len.ensures, c.args.self.now.places.ok.0) in
    let is : places_at lists (query_print q) ≡ c.items.result.now =
    ap (places_at lists) (sym c.query_print-print.ensures) ∙ read_at lists print c.index.result.now lt c.index.ensures
    ∙ sym c.items.ensures in
    subst (λ (xs : List ℕ). IsFoundIn log s q xs (end_of c.latest_of.result)) (sym is) c.latest_of.ensures

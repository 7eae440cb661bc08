use Rattle.std.proofs.Common.{◌≡◌, ℕ, ◌+◌, ◌∷◌, [], ◌++◌, suc, List, drop, ap, sym, ◌∙◌, arith}
use Rattle.std.proofs.lemmas.List.{append_assoc, append-nil, drop_all, length-map}
use Rattle.tableau_specs.specs.declared.Item.{Item}
use Rattle.search_state.specs.Trail.{items_of, item_of}
use Rattle.tableau.proofs.Noting.{drop_at}
use Rattle.tableau.proofs.beginning.rest_of.Goals as goal

pub loop-place-preserved : goal.loop-place-preserved
loop-place-preserved g c =
    let items = items_of c.args.tree.now.entries in
    let was = c.loop-place.rest.items in
    let place = c.loop-place.place in
    let next : suc place ≡ place + 1 = omega arith in
    ap (λ (is : List Item). is ++ drop (place + 1) items) c.in_ok-push.ensures.items
    ∙ append_assoc was (c.item.result ∷ []) (drop (place + 1) items)
    ∙ ap (λ (n : ℕ). was ++ c.item.result ∷ drop n items) (sym next)
    ∙ ap (λ (is : List Item). was ++ is) (sym (drop_at items place c.item.result c.item.ensures))
    ∙ c.loop-place.invariant

pub returns : goal.returns
returns g c =
    let es = c.args.tree.now.entries in
    let items = items_of es in
    sym (append-nil c.loop-place.rest.items)
    ∙ ap (λ (is : List Item). c.loop-place.rest.items ++ is)
    (sym
    (drop_all c.loop-place.place items
    (omega (arith, c.loop-place-test.false, c.len-place-end.ensures, length-map es item_of))))
    ∙ c.loop-place.invariant

use Rattle.std.proofs.Common.{◌≡◌, List, [], ◌∷◌, ◌++◌, ap, ◌∙◌}
use Rattle.std.specs.Prelude.{nat_eq, unwrap_or}
use Rattle.indexmap.specs.IndexMap.{insert_entry}
use Rattle.absorption.specs.declared.row.Row.{Row}
use Rattle.absorption.specs.Places.{RowsByNumber, rows_under}
use Rattle.absorption.proofs.Filed.{row_inserted}
use Rattle.absorption.proofs.row_list.push_under.Goals as goal

pub returns-clause-entries : goal.returns-clause-entries
returns-clause-entries c =
    let es = c.args.lists.now.entries in
    let k = c.args.number in
    let l : List Row = c.push.new.self in
    let e : l ≡ rows_under es k ++ c.args.row ∷ [] =
    c.in_ok-push.ensures
    ∙ ap (λ (m : List Row). m ++ c.args.row ∷ [])
    (c.unwrap_or-list.ensures ∙ (λ i. unwrap_or (c.in_ok-found.ensures.old i) (c.new-2.ensures i))) in
    c.in_ok-insert.ensures.entries
    ∙ ap (λ (fs : RowsByNumber). insert_entry nat_eq fs k l)
    (c.in_ok-found.ensures.entries ∙ ap (λ (m : List Row). insert_entry nat_eq es k m) c.new.ensures)
    ∙ row_inserted es k l c.args.row e

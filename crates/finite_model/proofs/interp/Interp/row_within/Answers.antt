use Rattle.std.proofs.Common.{◌≡◌, ◌||◌, ap, rules, tests, ◌∙◌}
use Rattle.std.specs.Prelude.{nat_le}
use Rattle.std.proofs.lemmas.Iterator.Search.{all_from_yields_List}
use Rattle.std.proofs.lemmas.Iterator.Consumers.{YieldsList-from_rest}
use Rattle.finite_model.specs.ModelLists.{meaning}
use Rattle.finite_model.proofs.Rows.{row_of, row_all_between}
use Rattle.finite_model.proofs.interp.Interp.row_within.Goals as goal

pub returns : goal.returns
returns c =
    let k = c.args.self.now in
    let y = c.args.y in
    let q = (meaning k).in_role c.args.other c.args.x in
    let row : c.range.result ≡ row_of c.args.role y k.links =
    c.range.ensures.between tt ∙ ap (λ v. row_of c.args.role y v.links) c.self.view_is in
    all_from_yields_List (λ l. nat_le k.size l.2 || q l.2) _ _ _ c.all.ensures.ran
    (YieldsList-from_rest (row_of c.args.role y k.links) row) (λ z b p h. search (rules, tests))
    ∙ row_all_between c.args.role y k.size q k.links

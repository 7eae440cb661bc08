use Rattle.std.proofs.Common.{◌≡◌, ℕ, ◌||◌, ap, rules, tests, ◌∙◌}
use Rattle.std.specs.Prelude.{nat_le}
use Rattle.std.proofs.lemmas.Iterator.Search.{all_from_yields_List}
use Rattle.std.proofs.lemmas.Iterator.Consumers.{YieldsList-from_rest}
use Rattle.finite_model.specs.ModelLists.{meaning}
use Rattle.finite_model.specs.AtElement.{row_within}
use Rattle.finite_model.proofs.Rows.{row_of, row_all_between}
use Rattle.finite_model.proofs.interp.Interp.row_is_transitive.Goals as goal

pub returns : goal.returns
returns c =
    let k = c.args.self.now in
    let x = c.args.x in
    let q = λ (y : ℕ). row_within (meaning k) c.args.role y c.args.role x in
    let row : c.range.result ≡ row_of c.args.role x k.links =
    c.range.ensures.between tt ∙ ap (λ v. row_of c.args.role x v.links) c.self.view_is in
    all_from_yields_List (λ l. nat_le k.size l.2 || q l.2) _ _ _ c.all.ensures.ran
    (YieldsList-from_rest (row_of c.args.role x k.links) row) (λ y b p h. search (rules, tests))
    ∙ row_all_between c.args.role x k.size q k.links

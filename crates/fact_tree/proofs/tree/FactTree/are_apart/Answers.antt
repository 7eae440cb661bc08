use Rattle.std.proofs.Common.{sym, ap, ◌∙◌, Bool}
use Rattle.std.specs.Prelude.{◌||◌}
use Rattle.std.specs.List.{list_any}
use Rattle.calculus_specs.specs.Joins.{rep}
use Rattle.fact_tree.specs.Told.{gives_first}
use Rattle.fact_tree.proofs.Reading.{apart_is_either}
use Rattle.fact_tree.proofs.tree.FactTree.are_apart.Goals as goal

pub returns-then-names_apart : goal.returns-then-names_apart
returns-then-names_apart g c =
    let fs = c.args.self.now.facts in
    let other = list_any (gives_first (rep fs) (rep fs c.args.second) (rep fs c.args.first)) fs in
    c.if-names_apart.true
    ∙ sym (apart_is_either fs c.args.first c.args.second
    ∙ ap (λ (b : Bool). b || other) (sym c.names_apart.ensures ∙ c.if-names_apart.true))

pub returns-else-names_apart : goal.returns-else-names_apart
returns-else-names_apart g c =
    let fs = c.args.self.now.facts in
    let other = list_any (gives_first (rep fs) (rep fs c.args.second) (rep fs c.args.first)) fs in
    c.names_apart-else-names_apart.ensures
    ∙ sym (apart_is_either fs c.args.first c.args.second
    ∙ ap (λ (b : Bool). b || other) (sym c.names_apart.ensures ∙ c.if-names_apart.false))

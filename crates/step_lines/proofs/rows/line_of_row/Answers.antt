use Rattle.std.proofs.Common.{ℕ, List, ◌++◌, map, ap, ◌∙◌, subst}
use Rattle.calculus_specs.specs.declared.facts.Fact.TheVariants.{Has}
use Rattle.step_lines.specs.Grounds.{IsFirst}
use Rattle.step_lines.proofs.RowLines.{named_serves}
use Rattle.step_lines.proofs.rows.line_of_row.Goals as goal

pub returns : goal.returns
returns g c =
    let before = c.in_ok-grounds.grounds.items in
    named_serves (g.R.Rules.context c.args.search.now.rules.now) (g.S.State.facts c.args.search.now.state.now)
    c.is_ready.ensures.tabled
    c.is_ready.ensures.chosen c.args.node c.args.given c.requires.is_node
    c.args.row.now c.requires.named c.requires.waits c.requires.gives before c.push_concepts.new.grounds.items
    (subst (λ (ks : List ℕ). IsFirst (g.R.Rules.context c.args.search.now.rules.now).first
    (g.S.State.facts c.args.search.now.state.now)
    c.args.node ks before)
    c.items.ensures c.in_ok-grounds.ensures)
    (c.in_ok-push_concepts.ensures ∙ ap (λ (ks : List ℕ). before ++ map (Has c.args.node) ks) c.items-2.ensures)
    c.in_ok-positions.positions (c.in_ok-positions.ensures ∙ c.items-3.ensures)

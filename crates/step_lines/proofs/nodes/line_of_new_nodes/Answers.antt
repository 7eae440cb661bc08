use Rattle.std.proofs.Common.{ℕ, ◌+◌, ◌^◌, ◌≤◌, ap, ◌∙◌, sym, subst, refl, arith}
use Rattle.calculus_specs.specs.Line.{Line}
use Rattle.calculus_specs.specs.Shape.{shape_of}
use Rattle.calculus_specs.specs.State.{node_count_from}
use Rattle.step_lines.specs.Kinds.{making_line, ServesNewNodes}
use Rattle.step_lines.proofs.ConceptLines.{nodes_serve, made_few}
use Rattle.step_lines.proofs.nodes.line_of_new_nodes.Goals as goal

pub returns : goal.returns
returns g c =
    let w = g.R.Rules.context c.args.search.now.rules.now in
    let fs = g.S.State.facts c.args.search.now.state.now in
    let good = c.is_ready.ensures.tabled in
    let m = c.args.new.now in
    let few = made_few w fs good m (shape_of w.table m.concept) refl c.requires.making.asks in
    let fits : node_count_from w.first fs + m.count ≤ 2 ^ 32 =
    omega (arith, few, c.count_of.ensures.count, c.count_of.ensures.small) in
    subst (λ (l : Line). ServesNewNodes w fs m l c.in_ok-grounds.grounds.items)
    (sym (c.making_line-line.ensures
    ∙ ap (λ (y : ℕ). making_line (shape_of w.table m.concept) m.parent y m.concept) c.count_of.ensures.count))
    (nodes_serve w fs good m c.requires.making.holds fits c.in_ok-grounds.grounds.items c.in_ok-grounds.ensures
    (shape_of w.table m.concept) refl c.requires.making.asks)

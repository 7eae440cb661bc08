use Rattle.std.proofs.Common.{ℕ, List, subst, ap, ◌∙◌}
use Rattle.calculus_specs.specs.State.{node_count_from}
use Rattle.step_finders.specs.Making.{AnswersAmong}
use Rattle.step_finders.proofs.Making.{run_of_among}
use Rattle.step_finders.proofs.make.has_run.Goals as goal

pub returns : goal.returns
returns g c =
    let fs = g.S.State.facts c.args.search.now.state.now in
    run_of_among (g.R.Rules.context c.args.search.now.rules.now) fs c.args.node c.args.count c.args.role c.args.filler
    c.in_ok-ends.ends.items c.in_ok-ends.ensures c.has_run_among.result c.requires.some
    (subst (λ (bound : ℕ). AnswersAmong fs c.in_ok-ends.ends.items bound c.args.count c.has_run_among.result)
    (c.nodes.ensures.count ∙ ap (λ (first : ℕ). node_count_from first fs) c.args.search.now.one_first)
    (subst (λ (ys : List ℕ). AnswersAmong fs ys c.nodes.result c.args.count c.has_run_among.result)
    c.deref.ensures.value c.has_run_among.ensures))

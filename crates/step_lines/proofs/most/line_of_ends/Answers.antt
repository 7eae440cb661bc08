use Rattle.std.proofs.Common.{◌≡◌, ℕ, List, ◌∷◌, ◌++◌, subst}
use Rattle.calculus_specs.specs.declared.facts.Fact.TheVariants.{Has}
use Rattle.step_lines.specs.Grounds.{link_facts, apart_facts}
use Rattle.step_lines.proofs.Many.{most_serves}
use Rattle.step_lines.proofs.most.line_of_ends.Goals as goal

pub returns-clause-serves : goal.returns-clause-serves
returns-clause-serves g c =
    most_serves (g.R.Rules.context c.args.search.now.rules.now) (g.S.State.facts c.args.search.now.state.now)
    c.is_ready.ensures.tabled
    c.args.node c.args.concept c.args.count c.args.role c.args.filler c.requires.overrun c.args.ends.now c.requires.many
    c.in_ok-links.links.items c.in_ok-links.ensures c.in_ok-grounds.grounds.items
    (subst (λ (ls : List (ℕ × ℕ)). c.in_ok-grounds.grounds.items
    ≡ Has c.args.node c.args.concept ∷ (link_facts c.args.node c.args.filler ls ++ apart_facts c.args.ends.now))
    c.deref.ensures.value c.in_ok-grounds.ensures)
    c.in_ok-nodes.nodes c.in_ok-nodes.ensures

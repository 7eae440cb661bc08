use Rattle.std.proofs.Common.{◌≡◌, ◌<◌, ℕ, [], ◌∷◌, refl, arith, subst, sym}
use Rattle.calculus_specs.specs.State.{node_count_from}
use Rattle.std.proofs.lemmas.Result.{IfOk-weaker}
use Rattle.calculus_specs.specs.declared.facts.Fact.TheVariants.{Edge}
use Rattle.step_lines.specs.Grounds.{GroundsNode}
use Rattle.step_lines.proofs.RowLines.{grounds_first, grounds_origin}
use Rattle.step_lines.proofs.grounded.node_grounds.Goals as goal

pub returns-in-Some : goal.returns-in-Some
returns-in-Some g c =
    let w = g.R.Rules.context c.args.search.now.rules.now in
    let fs = g.S.State.facts c.args.search.now.state.now in
    IfOk-weaker c.one_ground.result (λ v. v.items ≡ Edge c.in-Some.role c.in-Some.from c.args.node ∷ [])
    (λ v. GroundsNode w.first fs c.args.node v.items)
    (λ v e. grounds_origin w.first fs c.in-Some.role c.in-Some.from c.args.node c.in-Some.ensures.some.0 v.items e)
    c.one_ground.ensures

pub returns-in-None : goal.returns-in-None
returns-in-None g c =
    grounds_first (g.R.Rules.context c.args.search.now.rules.now).first (g.S.State.facts c.args.search.now.state.now)
    c.args.node
    (omega (arith, c.in-None.ensures.none refl, c.args.search.now.one_first)) c.new.result.items c.new.ensures.items

pub origin-requires : goal.origin-requires
origin-requires g c =
    subst (λ (first : ℕ). c.args.node < node_count_from first (g.S.State.facts c.args.search.now.state.now))
    (sym c.args.search.now.one_first) c.requires.is_node

use Rattle.std.proofs.Common.{refl, sym, ◌∙◌}
use Rattle.std.proofs.lemmas.Result.{IfOk-weaker}
use Rattle.calculus_specs.specs.Line.Line.{fact_line}
use Rattle.refutation_rules.specs.RefutationContext.{question}
use Rattle.refutation_rules.proofs.Individuals.{fact_given}
use Rattle.refutation_rules.proofs.rules.Rules.fact.Goals as goal

pub returns-clause-outcome : goal.returns-clause-outcome
returns-clause-outcome c =
    let a = c.args in
    let k = a.branch.now in
    let g = c.numbered_fact_at.new.self in
    let line = fact_line a.axiom a.place in
    let known = sym c.knows.ensures ∙ c.if-not-knows.false in
    IfOk-weaker c.one_fact.result _ _
    (λ o is. fact_given g k line ((question g).fact_of a.axiom a.place) c.in_ok-fact.fact o refl known
    c.in_ok-fact.ensures.fact is)
    c.one_fact.ensures

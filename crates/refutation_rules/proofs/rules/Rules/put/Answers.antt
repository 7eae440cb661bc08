use Rattle.refutation_rules.proofs.Contexts.{context_stays}
use Rattle.refutation_rules.proofs.rules.Rules.put.Goals as goal

pub invariant_of-self : goal.invariant_of-self
invariant_of-self c =
    let i = c.self.inside in
    context_stays i.individuals i.rows c.put.new.self i.refutation.now.shapes i.query.now i.roles i.numbers.items i.sub
    i.not_sup i.bottom c.self.invariant c.put.ensures.kept c.put.ensures.axioms

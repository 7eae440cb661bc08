use Rattle.refutation_rules.proofs.Contexts.{context_stays}
use Rattle.refutation_rules.proofs.rules.Rules.range_row.Goals as goal

pub invariant_of-self : goal.invariant_of-self
invariant_of-self c =
    let i = c.self.inside in
    context_stays i.individuals i.rows c.range_row.new.self i.refutation.now.shapes i.query.now i.roles i.numbers.items
    i.sub i.not_sup i.bottom c.self.invariant c.range_row.ensures.kept c.range_row.ensures.axioms

use Rattle.search_rules.proofs.Stays.{kept_grown}
use Rattle.search_rules.proofs.search_rules.SearchRules.numbers_of.Goals as goal

pub invariant_of-self-in-Some : goal.invariant_of-self-in-Some
invariant_of-self-in-Some c =
    kept_grown _ c.self.inside.role_axioms c.self.inside.roles c.self.inside.numbers c.in-Some.tables
    c.self.inside.edges
    c.query_numbers.new.concepts c.args.query.now c.in_ok-sub.field-0 c.self.invariant c.in_ok-sub.ensures.found
    c.in-Some.is

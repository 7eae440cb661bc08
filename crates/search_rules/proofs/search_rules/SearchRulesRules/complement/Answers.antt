use Rattle.std.proofs.Common.{List, Option, ℕ, ap, sym, subst, arith}
use Rattle.calculus_specs.specs.Shape.{Shape}
use Rattle.search_rules.specs.RuleLists.{RuleLists}
use Rattle.search_rules.specs.Tables.{FindsComplement}
use Rattle.search_rules.proofs.Negated.{finds_behind}
use Rattle.search_rules.proofs.search_rules.SearchRulesRules.complement.Goals as goal

pub returns-else-concept-len : goal.returns-else-concept-len
returns-else-concept-len c =
    let good = c.self.invariant.ready.tabled in
    subst (λ (t : List Shape). FindsComplement t c.args.concept c.complement-else-concept-len.result)
    (ap (λ (r : RuleLists). r.table) c.self.view_is)
    (finds_behind c.self.inside.concepts good c.args.concept
    (omega (arith, c.if-concept-len.false, c.len.ensures.count)) c.complement-else-concept-len.result
    (subst (λ (o : Option ℕ). FindsComplement c.self.inside.concepts 0 o) (sym c.complement-else-concept-len.ensures)
    (c.self.invariant.number_lists.complements_are 0 good.has_top)))

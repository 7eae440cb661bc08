use Rattle.std.proofs.Common.{◌+◌, [], length, sym, subst}
use Rattle.axiom_sets.specs.Sets.{member_list}
use Rattle.calculus_specs.specs.Normal.{normal_form, negated_form}
use Rattle.shq_nnf.proofs.Numbers.{extends_twice, number_stays}
use Rattle.row_cache.specs.Cache.{CacheState}
use Rattle.refutation_rules.specs.RefutationContext.{IsRefutationContext}
use Rattle.refutation_rules.proofs.Renumbered.{first_stays}
use Rattle.refutation_rules.proofs.rules.Rules.new.Goals as goal

pub invariant_of-result : goal.invariant_of-result
invariant_of-result c =
    let shapes = c.args.refutation.now.shapes in
    let q = c.args.query.now in
    let roles = c.in_ok-roles.roles in
    let numbers = c.in_ok-numbers.numbers.items in
    let sub = c.in_ok-sub.sub in
    let not_sup = c.in_ok-not_sup.not_sup in
    let none = c.in_ok-bottom.bottom in
    let first = c.number_concepts.new.concepts in
    let second = c.intern.new.self in
    let third = c.intern_complement.new.self in
    let last = c.put.new.self in
    let from_second = extends_twice second third last c.intern_complement.ensures.kept c.put.ensures.kept in
    let from_first = extends_twice first second last c.intern.ensures.kept from_second in
    let rows : CacheState = record {
      axioms = c.args.ontology.now.axioms;
      named = member_list c.axioms_used-named.result.now;
      table = last;
      rows = [];
      ranges = [];
    } in
    let individuals = c.individual_count.result in
    let context : IsRefutationContext individuals rows shapes q roles numbers sub not_sup none = record {
      few_individuals = c.individual_count.ensures.within;
      roles_are = c.in_ok-roles.ensures;
      concepts = first_stays shapes first last numbers (length shapes + 1) c.in_ok-numbers.ensures.numbers from_first;
      sub_is = number_stays second last sub (normal_form q.sub) from_second c.in_ok-sub.ensures.number;
      not_sup_is =
          number_stays third last not_sup (negated_form q.sup) c.put.ensures.kept c.in_ok-not_sup.ensures.number;
      bottom_is = c.in_ok-bottom.ensures.number;
    } in
    subst (λ (f : CacheState). IsRefutationContext individuals f shapes q roles numbers sub not_sup none)
    (sym c.new-rows.ensures) context

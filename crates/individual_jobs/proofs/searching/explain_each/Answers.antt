use Rattle.std.proofs.Common.{◌≡◌, ◌+◌, ◌<◌, length, refl, ap, ◌∙◌, subst, arith}
use Rattle.shq_terms.specs.Listed.{Listed}
use Rattle.individual_jobs.specs.Answers.{IsCutShort, HasBlocks}
use Rattle.individual_jobs.specs.Searching.{HasExplained, ExplainsTo}
use Rattle.individual_jobs.proofs.Asked.{query_at, query_count}
use Rattle.individual_jobs.proofs.Explained.{none_explained, always, is_of_its_class, in_limit_at, module_at, to_oracle}
use Rattle.individual_jobs.proofs.Explained.{from_oracle}
use Rattle.individual_jobs.proofs.searching.explain_each.Goals as goal

pub loop-individual-init : goal.loop-individual-init
loop-individual-init c =
    let oracle = c.args.oracle.now in
    record {
      ontology = refl;
      budget = refl;
      explained =
          none_explained oracle.ontology c.args.class.now oracle.budget c.args.reasons.now.items oracle.log
          c.requires.none c.requires.unlogged;
    }

pub bounds-queries-individual : goal.bounds-queries-individual
bounds-queries-individual c =
    let count : length c.args.queries.now ≡ length c.args.oracle.now.ontology.individuals =
    query_count c.args.class.now (length c.args.oracle.now.ontology.individuals) c.args.queries.now
    c.requires.queries in
    let end : length c.ontology.result.now.individuals ≡ length c.args.oracle.now.ontology.individuals =
    ap (λ (l : Listed). length l.individuals) c.ontology.ensures in
    omega (arith, c.loop-individual-test.true, c.individual_count-individual-end.ensures.count, count, end)

pub explain_next-requires-clause-in_limit : goal.explain_next-requires-clause-in_limit
explain_next-requires-clause-in_limit c =
    let oracle = c.args.oracle.now in
    let loop = c.loop-individual in
    let q = c.index-queries-individual.result in
    let end : length c.ontology.result.now.individuals ≡ length oracle.ontology.individuals =
    ap (λ (l : Listed). length l.individuals) c.ontology.ensures in
    let listed : loop.individual < length oracle.ontology.individuals =
    omega (arith, c.loop-individual-test.true, c.individual_count-individual-end.ensures.count, end) in
    let at =
    query_at c.args.class.now (length oracle.ontology.individuals) loop.individual c.args.queries.now q
    c.requires.queries listed c.index-queries-individual.is in
    in_limit_at oracle.ontology loop.oracle.ontology c.args.class.now oracle.budget loop.oracle.budget loop.individual q
    at loop.invariant.ontology loop.invariant.budget c.requires.in_limit listed

pub explain_next-requires-clause-query : goal.explain_next-requires-clause-query
explain_next-requires-clause-query c =
    let oracle = c.args.oracle.now in
    let loop = c.loop-individual in
    let q = c.index-queries-individual.result in
    let end : length c.ontology.result.now.individuals ≡ length oracle.ontology.individuals =
    ap (λ (l : Listed). length l.individuals) c.ontology.ensures in
    let listed : loop.individual < length oracle.ontology.individuals =
    omega (arith, c.loop-individual-test.true, c.individual_count-individual-end.ensures.count, end) in
    let at =
    query_at c.args.class.now (length oracle.ontology.individuals) loop.individual c.args.queries.now q
    c.requires.queries listed c.index-queries-individual.is in
    is_of_its_class oracle.ontology loop.oracle.ontology c.args.class.now oracle.budget loop.oracle.budget
    loop.individual q at loop.invariant.ontology loop.invariant.budget

pub explain_next-requires-clause-local_module : goal.explain_next-requires-clause-local_module
explain_next-requires-clause-local_module c =
    let oracle = c.args.oracle.now in
    let loop = c.loop-individual in
    let q = c.index-queries-individual.result in
    let end : length c.ontology.result.now.individuals ≡ length oracle.ontology.individuals =
    ap (λ (l : Listed). length l.individuals) c.ontology.ensures in
    let listed : loop.individual < length oracle.ontology.individuals =
    omega (arith, c.loop-individual-test.true, c.individual_count-individual-end.ensures.count, end) in
    let at =
    query_at c.args.class.now (length oracle.ontology.individuals) loop.individual c.args.queries.now q
    c.requires.queries listed c.index-queries-individual.is in
    module_at oracle.ontology loop.oracle.ontology c.args.class.now oracle.budget loop.oracle.budget loop.individual q
    at loop.invariant.ontology loop.invariant.budget c.args.local_module.now.members c.requires.local_module

pub explain_next-requires-clause-explained : goal.explain_next-requires-clause-explained
explain_next-requires-clause-explained c =
    let oracle = c.args.oracle.now in
    let loop = c.loop-individual in
    let q = c.index-queries-individual.result in
    let end : length c.ontology.result.now.individuals ≡ length oracle.ontology.individuals =
    ap (λ (l : Listed). length l.individuals) c.ontology.ensures in
    let listed : loop.individual < length oracle.ontology.individuals =
    omega (arith, c.loop-individual-test.true, c.individual_count-individual-end.ensures.count, end) in
    let at =
    query_at c.args.class.now (length oracle.ontology.individuals) loop.individual c.args.queries.now q
    c.requires.queries listed c.index-queries-individual.is in
    to_oracle oracle.ontology loop.oracle.ontology c.args.class.now oracle.budget loop.oracle.budget loop.individual q
    at loop.invariant.ontology loop.invariant.budget
    (λ o d budget. HasExplained o d budget loop.individual loop.reasons.items loop.oracle.log) loop.invariant.explained

pub returns-in_err-explain_next-clause-begun : goal.returns-in_err-explain_next-clause-begun
returns-in_err-explain_next-clause-begun c =
    let oracle = c.args.oracle.now in
    let loop = c.loop-individual in
    let q = c.index-queries-individual.result in
    let end : length c.ontology.result.now.individuals ≡ length oracle.ontology.individuals =
    ap (λ (l : Listed). length l.individuals) c.ontology.ensures in
    let listed : loop.individual < length oracle.ontology.individuals =
    omega (arith, c.loop-individual-test.true, c.individual_count-individual-end.ensures.count, end) in
    let at =
    query_at c.args.class.now (length oracle.ontology.individuals) loop.individual c.args.queries.now q
    c.requires.queries listed c.index-queries-individual.is in
    always c.from_residual.result _
    (from_oracle oracle.ontology loop.oracle.ontology c.args.class.now oracle.budget loop.oracle.budget loop.individual
    q at loop.invariant.ontology loop.invariant.budget
    (λ o d budget. HasBlocks o d budget c.explain_next.new.oracle.log) c.in_err-explain_next.ensures.begun)

pub returns-then-not-branch-clause-explained : goal.returns-then-not-branch-clause-explained
returns-then-not-branch-clause-explained c =
    let oracle = c.args.oracle.now in
    let loop = c.loop-individual in
    let q = c.index-queries-individual.result in
    let end : length c.ontology.result.now.individuals ≡ length oracle.ontology.individuals =
    ap (λ (l : Listed). length l.individuals) c.ontology.ensures in
    let listed : loop.individual < length oracle.ontology.individuals =
    omega (arith, c.loop-individual-test.true, c.individual_count-individual-end.ensures.count, end) in
    let at =
    query_at c.args.class.now (length oracle.ontology.individuals) loop.individual c.args.queries.now q
    c.requires.queries listed c.index-queries-individual.is in
    let stopped =
    subst (ExplainsTo loop.oracle.ontology q.sup loop.oracle.budget (loop.individual + 1)
    c.explain_next.new.reasons.items c.explain_next.new.oracle.log)
    c.if-not-branch.true c.in_ok-explain_next.ensures.explained in
    from_oracle oracle.ontology loop.oracle.ontology c.args.class.now oracle.budget loop.oracle.budget loop.individual q
    at loop.invariant.ontology loop.invariant.budget (λ o d budget. IsCutShort o d budget c.explain_next.new.oracle.log)
    stopped

pub loop-individual-preserved : goal.loop-individual-preserved
loop-individual-preserved c =
    let oracle = c.args.oracle.now in
    let loop = c.loop-individual in
    let q = c.index-queries-individual.result in
    let end : length c.ontology.result.now.individuals ≡ length oracle.ontology.individuals =
    ap (λ (l : Listed). length l.individuals) c.ontology.ensures in
    let listed : loop.individual < length oracle.ontology.individuals =
    omega (arith, c.loop-individual-test.true, c.individual_count-individual-end.ensures.count, end) in
    let at =
    query_at c.args.class.now (length oracle.ontology.individuals) loop.individual c.args.queries.now q
    c.requires.queries listed c.index-queries-individual.is in
    let went_on =
    subst (ExplainsTo loop.oracle.ontology q.sup loop.oracle.budget (loop.individual + 1)
    c.explain_next.new.reasons.items c.explain_next.new.oracle.log)
    c.if-not-branch.false c.in_ok-explain_next.ensures.explained in
    record {
      ontology = c.explain_next.ensures.ontology ∙ loop.invariant.ontology;
      budget = c.explain_next.ensures.budget ∙ loop.invariant.budget;
      explained =
          from_oracle oracle.ontology loop.oracle.ontology c.args.class.now oracle.budget loop.oracle.budget
          loop.individual q at loop.invariant.ontology loop.invariant.budget
          (λ o d budget. HasExplained o d budget (loop.individual + 1) c.explain_next.new.reasons.items
          c.explain_next.new.oracle.log)
          went_on;
    }

use Rattle.std.proofs.Common.{sym, subst, ◌∙◌}
use Rattle.ofn_expressions.specs.Walk.{Judged}
use Rattle.ofn_reader.specs.Queries.{read_alone, query_form_tests, axiom_query_tests}
use Rattle.ofn_reader.proofs.Alone.{alone_judged, alone_listed}
use Rattle.ofn_reader.proofs.Heads.{alone_tests_are}
use Rattle.ofn_reader.proofs.queries.read_query_items.Goals as goal

pub returns-clause-tests : goal.returns-clause-tests
returns-clause-tests c =
    subst (λ r. Judged r c.args.state.now.counts (query_form_tests c.args.prefixes.now c.args.end_line c.args.items.now)
    c.read_axiom_query-query.new.state.counts)
    (sym c.alone.ensures)
    (subst (λ ts. Judged (read_alone c.split_at.result.1.now c.read_axiom_query-query.result) c.args.state.now.counts ts
    c.read_axiom_query-query.new.state.counts)
    (alone_tests_are (axiom_query_tests c.args.prefixes.now) c.args.end_line c.args.items.now c.split_at.result.1.now
    c.index-items-0.result c.index-items-0.is c.split_at.ensures.back (sym c.is_empty.ensures ∙ c.if-is_empty.false))
    (alone_judged c.split_at.result.1.now c.read_axiom_query-query.result c.args.state.now.counts
    c.read_axiom_query-query.new.state.counts (axiom_query_tests c.args.prefixes.now c.index-items-0.result)
    c.read_axiom_query-query.ensures.tests))

pub returns-clause-listed : goal.returns-clause-listed
returns-clause-listed c =
    alone_listed c.args.prefixes.now c.read_axiom_query-query.new.state.counts c.index-items-0.result
    c.split_at.result.1.now c.read_axiom_query-query.result c.alone.result c.alone.ensures
    c.read_axiom_query-query.ensures.value

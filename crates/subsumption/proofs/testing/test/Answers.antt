use Rattle.std.proofs.Common.{ap, sym, subst}
use Rattle.std.specs.Prelude.{IfOk, IfSome}
use Rattle.shq_terms.specs.declared.axioms.Query.{Query}
use Rattle.shq_oracle.specs.Entries.{IsAnswered}
use Rattle.shq_oracle.specs.ApartLists.{IsAbout}
use Rattle.subsumption.specs.Tests.{IsTested}
use Rattle.subsumption.proofs.Begun.{begins_by, begun_by}
use Rattle.subsumption.proofs.testing.test.Goals as goal

pub decide-verdict-requires-clause-is_new : goal.decide-verdict-requires-clause-is_new
decide-verdict-requires-clause-is_new c =
    subst (λ (q : Query). IsAnswered c.args.oracle.now.log c.args.axioms.now q → ⊥) (sym c.query_between-query.ensures)
    c.requires.is_new

pub returns-clause-begins : goal.returns-clause-begins
returns-clause-begins c =
    let d = c.decide-verdict in
    let tested =
    subst (λ (q : Query). IfOk d.result (IsTested c.args.oracle.now d.new.oracle c.args.axioms.now q))
    c.query_between-query.ensures d.ensures.tested in
    begins_by c.args.oracle.now d.new.oracle c.args.axioms.now c.args.count c.args.x c.args.y d.result tested
    d.ensures.unchanged

pub returns-clause-begun : goal.returns-clause-begun
returns-clause-begun c =
    let d = c.decide-verdict in
    let tested =
    subst (λ (q : Query). IfOk d.result (IsTested c.args.oracle.now d.new.oracle c.args.axioms.now q))
    c.query_between-query.ensures d.ensures.tested in
    begun_by c.args.oracle.now d.new.oracle c.args.axioms.now c.args.count c.args.x c.args.y d.result tested

pub decide-verdict-requires-clause-asked : goal.decide-verdict-requires-clause-asked
decide-verdict-requires-clause-asked c = ap (λ (q : Query). q.sup) c.query_between-query.ensures

pub decide-verdict-requires-clause-kept : goal.decide-verdict-requires-clause-kept
decide-verdict-requires-clause-kept c =
    subst (λ (q : Query). IfSome c.args.kept.now (IsAbout c.args.oracle.now.ontology c.args.axioms.now q.sub))
    (sym c.query_between-query.ensures) c.requires.kept

pub returns-clause-kept : goal.returns-clause-kept
returns-clause-kept c =
    let d = c.decide-verdict in
    subst (λ (q : Query). IfSome d.new.kept (IsAbout c.args.oracle.now.ontology c.args.axioms.now q.sub))
    c.query_between-query.ensures d.ensures.kept

pub decide-verdict-requires-clause-of_all : goal.decide-verdict-requires-clause-of_all
decide-verdict-requires-clause-of_all c = ap (λ (q : Query). q.on) c.query_between-query.ensures

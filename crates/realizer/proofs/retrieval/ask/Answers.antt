use Rattle.std.proofs.Common.{◌≡◌, sym, subst}
use Rattle.shq_terms.specs.declared.axioms.Query.{Query}
use Rattle.subsumption.specs.Limits.{IsInLimit}
use Rattle.subsumption.specs.Entries.{spent_of}
use Rattle.subsumption.specs.Outcome.TheVariants as O
use Rattle.subsumption.specs.Decided.{IsAnswer, IsRefuting, AddsTest, AppendsTest, LeavesNothing}
use Rattle.realizer.specs.Instances.{instance_query}
use Rattle.realizer.specs.Asked.{AreAlike}
use Rattle.realizer.proofs.Found.{after_yes, after_no, after_spent}
use Rattle.realizer.proofs.retrieval.ask.Goals as goal

pub decide-requires-clause-in_limit : goal.decide-requires-clause-in_limit
decide-requires-clause-in_limit c =
    subst (IsInLimit c.args.oracle.now.ontology) (sym c.requires.query)
    (c.requires.asking.in_limit c.args.individual c.requires.individual)

pub returns-in-Undecided-clause-err : goal.returns-in-Undecided-clause-err
returns-in-Undecided-clause-err c =
    let before = c.args.oracle.now in
    let after = c.decide.new.self in
    let axioms = c.args.axioms.now in
    let sup = c.args.query.now.sup in
    let e = c.in_ok-answer.ensures in
    let alike : AreAlike before after = record { ontology = e.same_ontology; budget = e.same_budget } in
    let added : AddsTest before.ontology axioms c.args.query.now before.log after.log O.Undecided =
    subst (AppendsTest before.ontology axioms c.args.query.now before.log after.log) c.in-Undecided.is e.entry in
    let test : AddsTest before.ontology axioms (instance_query sup c.args.individual) before.log after.log O.Undecided =
    subst (λ (q : Query). AddsTest before.ontology axioms q before.log after.log O.Undecided) c.requires.query added in
    let all : spent_of after.log ≡ after.budget = subst (LeavesNothing after) c.in-Undecided.is e.spent in
    after_spent before sup c.args.individual c.args.members.now c.requires.asking axioms c.requires.whole
    c.requires.individual after alike e.within test all

pub returns-in-Entailed-clause-ok : goal.returns-in-Entailed-clause-ok
returns-in-Entailed-clause-ok c =
    let before = c.args.oracle.now in
    let after = c.decide.new.self in
    let axioms = c.args.axioms.now in
    let sup = c.args.query.now.sup in
    let u = c.in-Entailed.refutation.axioms in
    let e = c.in_ok-answer.ensures in
    let alike : AreAlike before after = record { ontology = e.same_ontology; budget = e.same_budget } in
    let added : AddsTest before.ontology axioms c.args.query.now before.log after.log (O.Yes u) =
    subst (AppendsTest before.ontology axioms c.args.query.now before.log after.log) c.in-Entailed.is e.entry in
    let test : AddsTest before.ontology axioms (instance_query sup c.args.individual) before.log after.log (O.Yes u) =
    subst (λ (q : Query). AddsTest before.ontology axioms q before.log after.log (O.Yes u)) c.requires.query added in
    after_yes before sup c.args.individual c.args.members.now c.requires.asking axioms c.requires.whole
    c.requires.individual after alike e.within u test

pub returns-in-NotEntailed-clause-ok : goal.returns-in-NotEntailed-clause-ok
returns-in-NotEntailed-clause-ok c =
    let before = c.args.oracle.now in
    let after = c.decide.new.self in
    let axioms = c.args.axioms.now in
    let sup = c.args.query.now.sup in
    let m = c.in-NotEntailed.model in
    let e = c.in_ok-answer.ensures in
    let alike : AreAlike before after = record { ontology = e.same_ontology; budget = e.same_budget } in
    let added : AddsTest before.ontology axioms c.args.query.now before.log after.log O.No =
    subst (AppendsTest before.ontology axioms c.args.query.now before.log after.log) c.in-NotEntailed.is e.entry in
    let test : AddsTest before.ontology axioms (instance_query sup c.args.individual) before.log after.log O.No =
    subst (λ (q : Query). AddsTest before.ontology axioms q before.log after.log O.No) c.requires.query added in
    let shows : IsRefuting before.ontology axioms c.args.query.now m =
    subst (IsAnswer before.ontology axioms c.args.query.now) c.in-NotEntailed.is e.answer in
    let refutes : IsRefuting before.ontology axioms (instance_query sup c.args.individual) m =
    subst (λ (q : Query). IsRefuting before.ontology axioms q m) c.requires.query shows in
    after_no before sup c.args.individual c.args.members.now c.requires.asking axioms c.requires.whole
    c.requires.individual after alike e.within m refutes c.keep_members.new.individuals c.keep_members.ensures.limit
    c.keep_members.ensures.members test

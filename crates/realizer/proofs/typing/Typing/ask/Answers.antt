use Rattle.std.proofs.Common.{◌≡◌, ◌∙◌, length, sym, subst}
use Rattle.std.proofs.lemmas.Result.{err_from_is_err_and}
use Rattle.axiom_sets.specs.Sets.{Limited}
use Rattle.shq_terms.specs.Concept.{name}
use Rattle.shq_terms.specs.Listed.{Listed}
use Rattle.finite_model.specs.ModelLists.{meaning}
use Rattle.subsumption.specs.Entries.{spent_of}
use Rattle.subsumption.specs.Outcome.TheVariants as O
use Rattle.subsumption.specs.Decided.{IsAnswer, IsRefuting, AddsTest, AppendsTest, LeavesNothing}
use Rattle.realizer.specs.Instances.{instance_query}
use Rattle.realizer.specs.Candidates.{ArePruned}
use Rattle.realizer.specs.Asked.{AreAlike, IsAmid}
use Rattle.realizer.proofs.Typed.{after_yes, closer_yes, after_no, after_spent, after_refused}
use Rattle.realizer.proofs.typing.Typing.ask.Goals as goal

pub returns-in_err-pruned-in-NotEntailed-clause-err : goal.returns-in_err-pruned-in-NotEntailed-clause-err
returns-in_err-pruned-in-NotEntailed-clause-err c =
    let before = c.args.oracle.now in
    let after = c.ask_class.new.oracle in
    let axioms = c.args.self.now.axioms in
    let q = instance_query (name c.args.class) c.args.individual in
    let e = c.in_ok-refutation.ensures in
    let alike : AreAlike before after = record { ontology = e.same_ontology; budget = e.same_budget } in
    let test : AddsTest before.ontology axioms q before.log after.log O.No =
    subst (AppendsTest before.ontology axioms q before.log after.log) c.in-NotEntailed.is e.entry in
    let p =
    err_from_is_err_and c.from_residual-in_err-pruned-in-NotEntailed.result
    c.from_residual-in_err-pruned-in-NotEntailed.ensures.1 in
    rw (p.1, p.2)
    (after_refused before c.args.relation.now axioms c.args.individual c.args.self.now.rows.items c.args.types.now
    c.requires.amid c.args.class c.requires.class c.requires.open after alike e.within test)

pub returns-in-Undecided-clause-err : goal.returns-in-Undecided-clause-err
returns-in-Undecided-clause-err c =
    let before = c.args.oracle.now in
    let after = c.ask_class.new.oracle in
    let axioms = c.args.self.now.axioms in
    let q = instance_query (name c.args.class) c.args.individual in
    let e = c.in_ok-refutation.ensures in
    let alike : AreAlike before after = record { ontology = e.same_ontology; budget = e.same_budget } in
    let test : AddsTest before.ontology axioms q before.log after.log O.Undecided =
    subst (AppendsTest before.ontology axioms q before.log after.log) c.in-Undecided.is e.entry in
    let all : spent_of after.log ≡ after.budget = subst (LeavesNothing after) c.in-Undecided.is e.spent in
    after_spent before c.args.relation.now axioms c.args.individual c.args.self.now.rows.items c.args.types.now
    c.requires.amid c.args.class c.requires.class c.requires.open after alike e.within test all

pub returns-in-Entailed-clause-ok : goal.returns-in-Entailed-clause-ok
returns-in-Entailed-clause-ok c =
    let before = c.args.oracle.now in
    let after = c.ask_class.new.oracle in
    let axioms = c.args.self.now.axioms in
    let q = instance_query (name c.args.class) c.args.individual in
    let u = c.in-Entailed.refutation.axioms in
    let e = c.in_ok-refutation.ensures in
    let alike : AreAlike before after = record { ontology = e.same_ontology; budget = e.same_budget } in
    let test : AddsTest before.ontology axioms q before.log after.log (O.Yes u) =
    subst (AppendsTest before.ontology axioms q before.log after.log) c.in-Entailed.is e.entry in
    after_yes before c.args.relation.now axioms c.args.individual c.args.self.now.rows.items c.args.types.now
    c.requires.amid c.args.class c.requires.class c.requires.open after alike e.within
    c.above.result.now c.put_all.new.self c.put_all.ensures.limit c.put_all.ensures.members c.above.ensures.members u
    test

pub returns-in-Entailed-clause-closer : goal.returns-in-Entailed-clause-closer
returns-in-Entailed-clause-closer c =
    let before = c.args.oracle.now in
    let after = c.ask_class.new.oracle in
    let e = c.in_ok-refutation.ensures in
    let alike : AreAlike before after = record { ontology = e.same_ontology; budget = e.same_budget } in
    closer_yes before c.args.relation.now c.args.self.now.axioms c.args.individual c.args.self.now.rows.items
    c.args.types.now c.requires.amid c.args.class c.requires.class c.requires.open after alike e.within
    c.above.result.now c.put_all.new.self c.put_all.ensures.limit c.put_all.ensures.members c.above.ensures.members

pub returns-in_ok-pruned-in-NotEntailed-clause-ok : goal.returns-in_ok-pruned-in-NotEntailed-clause-ok
returns-in_ok-pruned-in-NotEntailed-clause-ok c =
    let before = c.args.oracle.now in
    let after = c.ask_class.new.oracle in
    let known = c.args.relation.now in
    let axioms = c.args.self.now.axioms in
    let a = c.args.individual in
    let rows = c.args.self.now.rows.items in
    let rows' = c.prune-pruned.new.self.rows.items in
    let q = instance_query (name c.args.class) a in
    let m = c.in-NotEntailed.model in
    let e = c.in_ok-refutation.ensures in
    let alike : AreAlike before after = record { ontology = e.same_ontology; budget = e.same_budget } in
    let test : AddsTest before.ontology axioms q before.log after.log O.No =
    subst (AppendsTest before.ontology axioms q before.log after.log) c.in-NotEntailed.is e.entry in
    let refutes : IsRefuting before.ontology axioms q m =
    subst (IsAnswer before.ontology axioms q) c.in-NotEntailed.is e.answer in
    let pruned : ArePruned (meaning m) (length before.ontology.classes) a rows rows' =
    subst (λ (o : Listed). ArePruned (meaning m) (length o.classes) a rows rows') (c.ontology.ensures ∙ e.same_ontology)
    c.in_ok-pruned-in-NotEntailed.ensures.ok in
    subst (λ (s : Limited). IsAmid after known s a rows' c.args.types.now) (sym c.prune-pruned.ensures.axioms)
    (after_no before known axioms a rows c.args.types.now c.requires.amid c.args.class c.requires.class c.requires.open
    after alike e.within m refutes rows' pruned test)

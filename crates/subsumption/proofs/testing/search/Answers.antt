use Rattle.shq_oracle.specs.Entry.TheVariants.{Test}
use Rattle.std.proofs.Common.{sym, subst}
use Rattle.std.specs.Prelude.{Option, IfSome}
use Rattle.shq_oracle.specs.ApartLists.{ApartLists, IsAbout}
use Rattle.subsumption.proofs.Tested.{tested_so, newest_about}
use Rattle.subsumption.proofs.Begun.{alike_more, alike_still}
use Rattle.subsumption.proofs.testing.search.Goals as goal

pub returns-clause-tested : goal.returns-clause-tested
returns-clause-tested c =
    tested_so c.args.oracle.now c.test_apart.new.self c.args.axioms.now c.args.query.now c.in_ok-shown.shown.outcome
    c.verdict_of.result c.verdict_of.ensures c.in_ok-shown.ensures.entry.test c.in_ok-shown.ensures.spent

pub returns-clause-alike : goal.returns-clause-alike
returns-clause-alike c =
    let e = c.in_ok-shown.ensures.entry.test in
    alike_more c.args.oracle.now c.test_apart.new.self (Test c.args.axioms.now c.args.query.now e.steps e.ended)
    c.in_ok-shown.ensures.same_ontology c.in_ok-shown.ensures.same_budget e.is_log

pub returns-clause-kept : goal.returns-clause-kept
returns-clause-kept c =
    subst (λ (found : Option ApartLists). IfSome found
    (IsAbout c.args.oracle.now.ontology c.args.axioms.now c.args.query.now.sub))
    (sym c.keep.ensures)
    (newest_about c.args.oracle.now.ontology c.args.axioms.now c.args.query.now.sub c.in_ok-shown.shown.apart
    c.args.kept.now c.in_ok-shown.ensures.entry.about c.requires.kept)

pub returns-in_err-shown-clause-alike : goal.returns-in_err-shown-clause-alike
returns-in_err-shown-clause-alike c =
    alike_still c.args.oracle.now c.test_apart.new.self c.in_err-shown.ensures.same_ontology
    c.in_err-shown.ensures.same_budget c.in_err-shown.ensures.unchanged

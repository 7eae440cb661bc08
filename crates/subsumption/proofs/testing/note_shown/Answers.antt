use Rattle.std.proofs.Common.{◌<◌, arith}
use Rattle.subsumption.specs.Tests.{IsNoted}
use Rattle.subsumption.proofs.Begun.{alike_still}
use Rattle.subsumption.proofs.Tested.{noted_so, is_new, noted_alike}
use Rattle.subsumption.proofs.testing.note_shown.Goals as goal

pub note_apart-requires-clause-is_new : goal.note_apart-requires-clause-is_new
note_apart-requires-clause-is_new c =
    let lt : c.args.y < c.args.count = omega arith in
    is_new c.args.oracle.now.log c.args.oracle.now.ontology c.args.axioms.now c.args.query.now c.args.apart.now
    c.args.count c.args.y c.requires.apart c.requires.asked c.requires.of_all lt c.requires.is_new

pub returns-clause-noted : goal.returns-clause-noted
returns-clause-noted c =
    let lt : c.args.y < c.args.count = omega arith in
    noted_so c.args.oracle.now c.note_apart.new.self c.args.axioms.now c.args.query.now c.args.apart.now c.args.count
    c.args.y c.in_ok-noted.noted c.requires.apart c.requires.asked c.requires.of_all lt c.in_ok-noted.ensures.entry

pub returns-clause-alike : goal.returns-clause-alike
returns-clause-alike c =
    let lt : c.args.y < c.args.count = omega arith in
    let noted : IsNoted c.args.oracle.now c.note_apart.new.self c.args.axioms.now c.args.query.now c.in_ok-noted.noted =
    noted_so c.args.oracle.now c.note_apart.new.self c.args.axioms.now c.args.query.now c.args.apart.now c.args.count
    c.args.y c.in_ok-noted.noted c.requires.apart c.requires.asked c.requires.of_all lt c.in_ok-noted.ensures.entry in
    noted_alike c.args.oracle.now c.note_apart.new.self c.args.axioms.now c.args.query.now c.in_ok-noted.noted
    c.in_ok-noted.ensures.same_ontology c.in_ok-noted.ensures.same_budget noted

pub returns-in_err-noted-clause-alike : goal.returns-in_err-noted-clause-alike
returns-in_err-noted-clause-alike c =
    alike_still c.args.oracle.now c.note_apart.new.self c.in_err-noted.ensures.same_ontology
    c.in_err-noted.ensures.same_budget c.in_err-noted.ensures.unchanged

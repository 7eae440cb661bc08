use Rattle.std.proofs.Common.{List, map, subst}
use Rattle.search_trace.specs.Line.{Line as Kept}
use Rattle.search_trace.specs.RuleLine.{line_of}
use Rattle.closed_search.specs.Named.{NamesAxioms}
use Rattle.closed_search.proofs.Among.{numbered_by_own, has_all}
use Rattle.closed_search.proofs.Refuted.{no_others_named, no_others_numbered, named_are_part, written}
use Rattle.closed_search.proofs.refuting.whole.Goals as goal

pub returns-clause-axioms : goal.returns-clause-axioms
returns-clause-axioms c =
    let axioms = c.args.ontology.now.axioms in
    let s = c.args.set.now in
    let lines = map line_of c.args.lines.items in
    let names =
    subst (λ (ls : List Kept). NamesAxioms axioms s (map line_of ls) c.in_ok-named.named) c.deref.ensures.value
    c.in_ok-named.ensures in
    no_others_numbered axioms s c.in_ok-named.named c.args.concepts.now lines c.in_ok-refutation.refutation
    (no_others_named axioms s lines c.in_ok-named.named names) c.in_ok-refutation.ensures.numbered

pub returns-clause-part : goal.returns-clause-part
returns-clause-part c =
    named_are_part c.args.ontology.now.axioms c.args.set.now c.in_ok-refutation.refutation.lines
    c.in_ok-refutation.refutation.axioms (returns-clause-axioms c)

pub returns-clause-lines : goal.returns-clause-lines
returns-clause-lines c =
    let lines = map line_of c.args.lines.items in
    let r = c.in_ok-refutation.refutation in
    has_all c.args.concepts.now lines r
    (numbered_by_own c.args.concepts.now c.in_ok-named.named lines r c.in_ok-refutation.ensures.numbered)

pub returns-clause-refutes : goal.returns-clause-refutes
returns-clause-refutes c =
    let o = c.args.ontology.now in
    let s = c.args.set.now in
    let lines = map line_of c.args.lines.items in
    let names =
    subst (λ (ls : List Kept). NamesAxioms o.axioms s (map line_of ls) c.in_ok-named.named) c.deref.ensures.value
    c.in_ok-named.ensures in
    written o s c.in_ok-named.named c.args.concepts.now lines c.in_ok-refutation.refutation
    c.in_ok-refutation.ensures.numbered c.requires.set names c.in_ok-refutation.ensures.writable

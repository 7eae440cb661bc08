use Rattle.std.proofs.Common.{◌≡◌, ◌-◌, sym, subst, arith}
use Rattle.realizer.specs.Entries.{spent_of}
use Rattle.pinpointing_jobs.specs.Told.{AreTestsOfOthers}
use Rattle.shq_terms.specs.declared.axioms.Query.{Query}
use Rattle.pinpointing_jobs.specs.Gained.{GainsSearch, GainsBegun}
use Rattle.individual_jobs.proofs.Explained.{others, stays_begun, stops_before, begins_next, begins_after}
use Rattle.individual_jobs.proofs.Explained.{next_explained, always}
use Rattle.individual_jobs.proofs.searching.explain_next.Goals as goal

pub returns-then-left-eq0-clause-explained : goal.returns-then-left-eq0-clause-explained
returns-then-left-eq0-clause-explained c =
    let oracle = c.args.oracle.now in
    stops_before oracle.ontology c.args.query.now.sup oracle.budget c.args.individual c.args.reasons.now.items
    oracle.log c.requires.explained c.requires.listed (omega arith)

pub returns-in_err-try_clone-clause-begun : goal.returns-in_err-try_clone-clause-begun
returns-in_err-try_clone-clause-begun c =
    let oracle = c.args.oracle.now in
    always c.from_residual.result _
    (stays_begun oracle.ontology c.args.query.now.sup oracle.budget c.args.individual c.args.reasons.now.items
    oracle.log c.requires.explained)

pub search_with-requires-clause-others : goal.search_with-requires-clause-others
search_with-requires-clause-others c =
    let oracle = c.args.oracle.now in
    subst (λ (q : Query). AreTestsOfOthers q oracle.log) (sym c.requires.query)
    (others oracle.ontology c.args.query.now.sup oracle.budget c.args.individual c.args.reasons.now.items oracle.log
    c.requires.explained)

pub returns-in_err-found-clause-begun : goal.returns-in_err-found-clause-begun
returns-in_err-found-clause-begun c =
    let oracle = c.args.oracle.now in
    let new = c.search_with.new.oracle.log in
    let some : ¬ (oracle.budget - spent_of oracle.log ≡ 0) = λ e. omega (arith, e) in
    let begun =
    subst (λ (q : Query). GainsBegun oracle.ontology q oracle.budget oracle.log new) c.requires.query
    c.in_err-found.ensures.begun in
    always c.from_residual-in_err-found.result _
    (begins_next oracle.ontology c.args.query.now.sup oracle.budget c.args.individual c.args.reasons.now.items
    oracle.log c.requires.explained some c.requires.listed new begun)

pub returns-clause-explained : goal.returns-clause-explained
returns-clause-explained c =
    let oracle = c.args.oracle.now in
    let new = c.search_with.new.oracle.log in
    let found = c.in_ok-found.found in
    let some : ¬ (oracle.budget - spent_of oracle.log ≡ 0) = λ e. omega (arith, e) in
    let gains =
    subst (λ (q : Query). GainsSearch oracle.ontology q oracle.budget oracle.log new found) c.requires.query
    c.in_ok-found.ensures.found in
    next_explained oracle.ontology c.args.query.now.sup oracle.budget c.args.individual c.args.reasons.now.items
    oracle.log c.requires.explained some c.requires.listed new found gains c.keep.result c.keep.new.reasons.items
    c.keep.ensures.finished c.keep.ensures.kept

pub returns-clause-begun : goal.returns-clause-begun
returns-clause-begun c =
    let oracle = c.args.oracle.now in
    let new = c.search_with.new.oracle.log in
    let found = c.in_ok-found.found in
    let some : ¬ (oracle.budget - spent_of oracle.log ≡ 0) = λ e. omega (arith, e) in
    let gains =
    subst (λ (q : Query). GainsSearch oracle.ontology q oracle.budget oracle.log new found) c.requires.query
    c.in_ok-found.ensures.found in
    always c.keep.result _
    (begins_after oracle.ontology c.args.query.now.sup oracle.budget c.args.individual c.args.reasons.now.items
    oracle.log c.requires.explained some c.requires.listed new found gains)

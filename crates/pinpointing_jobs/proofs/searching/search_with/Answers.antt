use Rattle.std.proofs.Common.{ap, arith, ◌<◌, ◌^◌}
use Rattle.query_asker.specs.OracleLists.{OracleLists}
use Rattle.pinpointing_jobs.proofs.Searched.{made_fresh, module_keeps_answers, all_searched, all_begun, all_unspent}
use Rattle.pinpointing_jobs.proofs.searching.search_with.Goals as goal

pub within-asker-requires-clause-keeps : goal.within-asker-requires-clause-keeps
within-asker-requires-clause-keeps c =
    module_keeps_answers c.args.oracle.now.ontology c.replace-begun.result.ontology c.args.query.now
    c.args.local_module.members (ap (λ (x : OracleLists). x.ontology) c.replace-begun.ensures.value)
    c.requires.local_module

pub returns-clause-found : goal.returns-clause-found
returns-clause-found c =
    let o = c.args.oracle.now.ontology in
    let q = c.args.query.now in
    let budget = c.args.oracle.now.budget in
    let m = c.args.local_module.members in
    let small : budget < 2 ^ 32 = omega arith in
    all_searched o q budget m c.args.oracle.now.log c.within-asker.result c.enumerate-outcome.new.entail
    c.into_oracle.result.log
    (made_fresh o q budget m c.args.oracle.now.log c.replace-begun.result c.within-asker.result c.within-asker.ensures
    c.replace-begun.ensures.value)
    c.enumerate-outcome.ensures.same c.into_oracle.ensures.is_log c.into_oracle.ensures.log c.requires.local_module
    c.requires.in_limit.ontology.few_axioms small
    c.enumerate-outcome.result c.enumerate-outcome.ensures.found c.enumerate-outcome.ensures.shown
    c.enumerate-outcome.ensures.in_budget c.enumerate-outcome.ensures.asked

pub returns-clause-begun : goal.returns-clause-begun
returns-clause-begun c =
    let o = c.args.oracle.now.ontology in
    let q = c.args.query.now in
    let budget = c.args.oracle.now.budget in
    let m = c.args.local_module.members in
    let small : budget < 2 ^ 32 = omega arith in
    all_begun o q budget m c.args.oracle.now.log c.within-asker.result c.enumerate-outcome.new.entail
    c.into_oracle.result.log
    (made_fresh o q budget m c.args.oracle.now.log c.replace-begun.result c.within-asker.result c.within-asker.ensures
    c.replace-begun.ensures.value)
    c.enumerate-outcome.ensures.same c.into_oracle.ensures.is_log c.into_oracle.ensures.log c.requires.local_module
    c.requires.in_limit.ontology.few_axioms small
    c.enumerate-outcome.result c.enumerate-outcome.ensures.begun c.enumerate-outcome.ensures.asked

pub returns-clause-unspent : goal.returns-clause-unspent
returns-clause-unspent c =
    let o = c.args.oracle.now.ontology in
    let q = c.args.query.now in
    let budget = c.args.oracle.now.budget in
    let m = c.args.local_module.members in
    all_unspent o q budget m c.args.oracle.now.log c.within-asker.result c.enumerate-outcome.new.entail
    c.into_oracle.result.log
    (made_fresh o q budget m c.args.oracle.now.log c.replace-begun.result c.within-asker.result c.within-asker.ensures
    c.replace-begun.ensures.value)
    c.enumerate-outcome.ensures.same c.into_oracle.ensures.is_log c.into_oracle.ensures.log c.requires.local_module
    c.requires.goes_on c.enumerate-outcome.result c.enumerate-outcome.ensures.ran_out

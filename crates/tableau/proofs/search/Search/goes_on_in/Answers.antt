use Rattle.std.proofs.Common.{ℕ, sym, subst}
use Rattle.search_rules.specs.RuleLists.{context_in}
use Rattle.search_state.specs.Progress.{IsAsked}
use Rattle.tableau.specs.Beginning.{BeginningLists, Serves, IsSeenBehind}
use Rattle.tableau.proofs.Kept.{is_asked}
use Rattle.tableau.proofs.Serving.{reached_behind, clear_behind, behind_is_kept}
use Rattle.tableau.proofs.search.Search.goes_on_in.Goals as goal

pub behind_in-requires-clause-asked : goal.behind_in-requires-clause-asked
behind_in-requires-clause-asked g c =
    let rules = c.args.rules.now in
    let query = c.args.query.now in
    subst (λ (x : ℕ). IsAsked (context_in rules) query x c.args.sub c.args.not_sup) (sym c.node_in_question-at.ensures)
    (is_asked rules query c.args.sub c.args.not_sup c.concepts.ensures.ready c.is_ready.ensures.chosen
    c.requires.in_limit c.requires.numbers)

pub behind_in-requires-clause-reached : goal.behind_in-requires-clause-reached
behind_in-requires-clause-reached g c =
    let i = c.beginning.inside in
    let b : BeginningLists = record { rest = i.rest.items; steps = i.steps; seen = i.seen } in
    let serves : Serves c.args.rules.now b =
    subst (Serves c.args.rules.now) (sym c.beginning.view_is) c.requires.serves in
    reached_behind c.args.rules.now c.args.query.now c.args.sub c.args.not_sup c.node_in_question-at.result b serves
    c.is_ready.ensures.tabled c.requires.can c.node_in_question-at.ensures c.deref.result.now c.deref.ensures.value

pub behind_in-requires-clause-clear : goal.behind_in-requires-clause-clear
behind_in-requires-clause-clear g c =
    let i = c.beginning.inside in
    let b : BeginningLists = record { rest = i.rest.items; steps = i.steps; seen = i.seen } in
    let serves : Serves c.args.rules.now b =
    subst (Serves c.args.rules.now) (sym c.beginning.view_is) c.requires.serves in
    clear_behind c.args.rules.now c.args.query.now c.args.sub c.args.not_sup c.node_in_question-at.result b serves
    c.is_ready.ensures.tabled c.requires.can c.node_in_question-at.ensures c.deref.result.now c.deref.ensures.value

pub invariant_of-result : goal.invariant_of-result
invariant_of-result g c =
    let i = c.beginning.inside in
    let b : BeginningLists = record { rest = i.rest.items; steps = i.steps; seen = i.seen } in
    let serves : Serves c.args.rules.now b =
    subst (Serves c.args.rules.now) (sym c.beginning.view_is) c.requires.serves in
    let behind = c.in_ok-progress.ensures in
    behind_is_kept c.args.rules.now c.args.query.now c.args.sub c.args.not_sup c.node_in_question-at.result b serves
    c.is_ready.ensures.tabled c.requires.can c.node_in_question-at.ensures c.in_ok-progress.progress c.in_ok-seen.seen
    c.deref.result.now c.requires.in_limit c.requires.set c.requires.numbers c.deref.ensures.value behind.behind
    behind.query.0 behind.query.1 behind.numbers.0 behind.numbers.1
    (subst (λ (t : BeginningLists). IsSeenBehind c.args.rules.now.table c.node_in_question-at.result c.args.sub
    c.args.not_sup t.seen c.in_ok-seen.seen)
    (sym c.beginning.view_is) c.in_ok-seen.ensures)

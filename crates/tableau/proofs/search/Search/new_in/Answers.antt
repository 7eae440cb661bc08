use Rattle.std.proofs.Common.{◌≡◌, ℕ, true, false, [], ◌∷◌, ap, sym, subst, ◌∙◌}
use Rattle.std.specs.List.{list_any}
use Rattle.std.proofs.lemmas.Bool.{or_parts}
use Rattle.tableau_specs.specs.Items.{facts_of}
use Rattle.search_state.specs.Trail.{TreeEntries, items_of}
use Rattle.tableau_specs.specs.Reached.{start}
use Rattle.tableau.specs.Seen.{gives_more, AreOver, AreSeenIn, IsToldApart}
use Rattle.search_rules.specs.RuleLists.{context_in}
use Rattle.search_state.specs.Progress.{IsAsked}
use Rattle.tableau.proofs.Kept.{asked, begun_is_kept, is_asked}
use Rattle.tableau.proofs.search.Search.new_in.Goals as goal

pub new_in-requires : goal.new_in-requires
new_in-requires g c =
    let rules = c.args.rules.now in
    let query = c.args.query.now in
    subst (λ (x : ℕ). IsAsked (context_in rules) query x c.args.sub c.args.not_sup) (sym c.node_in_question-at.ensures)
    (is_asked rules query c.args.sub c.args.not_sup c.concepts.ensures.ready c.is_ready.ensures.chosen
    c.requires.in_limit c.requires.numbers)

pub invariant_of-result : goal.invariant_of-result
invariant_of-result g c =
    let rules = c.args.rules.now in
    let p = c.in_ok-progress.progress in
    let begun = c.in_ok-progress.ensures in
    let seen =
    subst (λ (x : ℕ). AreSeenIn x rules.table (items_of p.entries ∷ []) c.in_ok-seen.seen) c.node_in_question-at.ensures
    (subst (λ (t : TreeEntries). AreSeenIn c.node_in_question-at.result rules.table (items_of t.entries ∷ [])
    c.in_ok-seen.seen)
    c.tree.ensures c.in_ok-seen.ensures.seen) in
    begun_is_kept rules c.args.query.now c.args.sub c.args.not_sup p c.in_ok-seen.seen c.requires.in_limit
    c.requires.set c.requires.numbers begun.begun begun.query.0 (begun.query.1 ∙ c.node_in_question-at.ensures)
    begun.numbers.0 begun.numbers.1
    (subst (λ (room : ℕ). AreOver room c.in_ok-seen.seen) c.room_for-room.ensures c.in_ok-seen.ensures.over) seen
    (λ none.
    subst (λ (x : ℕ). list_any (gives_more x) (facts_of (items_of p.entries)) ≡ false → c.in_ok-seen.seen.bare ≡ true)
    c.node_in_question-at.ensures
    (subst
    (λ (t : TreeEntries). list_any (gives_more c.node_in_question-at.result) (facts_of (items_of t.entries)) ≡ false
    → c.in_ok-seen.seen.bare ≡ true)
    c.tree.ensures c.in_ok-seen.ensures.bare)
    (or_parts (list_any (gives_more (asked rules c.args.query.now).at) (facts_of (items_of p.entries))) false none).0)
    (subst (λ (n : ℕ). IsToldApart n (asked rules c.args.query.now).at rules.table (items_of p.entries ∷ [])
    c.in_ok-seen.seen) begun.begun.is_searching.standing.first_is
    (subst (λ (x : ℕ). IsToldApart p.first x rules.table (items_of p.entries ∷ []) c.in_ok-seen.seen)
    c.node_in_question-at.ensures
    (subst (λ (t : TreeEntries). (a b : ℕ) → items_of t.entries ≡ start c.node_in_question-at.result a b
    → IsToldApart t.first c.node_in_question-at.result rules.table (items_of t.entries ∷ []) c.in_ok-seen.seen)
    c.tree.ensures c.in_ok-seen.ensures.told p.sub p.not_sup
    (begun.begun.trail_is ∙ ap (λ (x : ℕ). start x p.sub p.not_sup) begun.query.1))))

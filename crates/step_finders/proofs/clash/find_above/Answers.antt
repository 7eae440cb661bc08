use Rattle.std.proofs.Common.{◌∙◌, ℕ, ap, sym, subst, arith}
use Rattle.std.specs.List.{All}
use Rattle.calculus_specs.specs.State.{parent_from}
use Rattle.calculus_specs.proofs.Joined.{rep-le}
use Rattle.step_finders.specs.Clashing.{NoneOverrun, NoneInto, NoneAbove, IsShown}
use Rattle.step_finders.proofs.Each.{answers_more}
use Rattle.step_finders.proofs.Clashing.{none_above, none_at_first, parent_is_node}
use Rattle.step_finders.proofs.clash.find_above.Goals as goal

pub parent_of-requires : goal.parent_of-requires
parent_of-requires g c =
    omega (
      arith,
      c.requires.is_node,
      rep-le (g.S.State.facts c.args.search.now.state.now) c.args.node,
      c.representative.ensures,
    )

pub find_counting-requires : goal.find_counting-requires
find_counting-requires g c =
    let w = g.R.Rules.context c.args.search.now.rules.now in
    let fs = g.S.State.facts c.args.search.now.state.now in
    let lt = parent_is_node w.first fs c.representative.result c.in-Some.up c.requires.speak (sym c.in-Some.ensures) in
    omega (arith, lt, rep-le fs c.in-Some.up, c.representative-in-Some.ensures)

pub returns-in-Some : goal.returns-in-Some
returns-in-Some g c =
    let w = g.R.Rules.context c.args.search.now.rules.now in
    let fs = g.S.State.facts c.args.search.now.state.now in
    answers_more c.find_counting.result (NoneOverrun w fs c.representative-in-Some.result c.args.concept)
    (NoneAbove w fs c.args.node c.args.concept) (IsShown w fs) (IsShown w fs)
    (λ none. none_above w fs c.args.node c.args.concept c.requires.above c.in-Some.up
    (sym (c.in-Some.ensures ∙ ap (parent_from w.first fs) c.representative.ensures))
    (subst (λ (p : ℕ). NoneOverrun w fs p c.args.concept) c.representative-in-Some.ensures none))
    (λ k h. h) c.find_counting.ensures

pub returns-in-None : goal.returns-in-None
returns-in-None g c =
    let w = g.R.Rules.context c.args.search.now.rules.now in
    let fs = g.S.State.facts c.args.search.now.state.now in
    answers_more c.find_into_any.result (All (NoneInto w fs c.args.concept) c.members_of.result.now)
    (NoneAbove w fs c.args.node c.args.concept) (IsShown w fs) (IsShown w fs)
    (λ all. none_at_first w fs c.args.node c.args.concept c.requires.above c.members_of.result.now
    (sym (c.in-None.ensures ∙ ap (parent_from w.first fs) c.representative.ensures)) c.members_of.ensures all)
    (λ k h. h) c.find_into_any.ensures

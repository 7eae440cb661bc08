use Rattle.std.proofs.Common.{sym, subst, List, ℕ, Option}
use Rattle.std.specs.Prelude.{MatchOption}
use Rattle.calculus_specs.specs.declared.facts.Fact.{Fact}
use Rattle.tableau_specs.specs.Clash.{IsPlainClash}
use Rattle.tableau_specs.specs.Steps.{below_of}
use Rattle.step_agenda.specs.Trail.{facts_in, items_of}
use Rattle.step_finders.specs.declared.step.Step.{Step}
use Rattle.step_finders.specs.Stepping.{NoStep, IsStep}
use Rattle.search_state.proofs.Entries.{facts-items}
use Rattle.search_state.proofs.Followed.{still_none, still_searches}
use Rattle.search_state.proofs.Nexts.{step_has_next}
use Rattle.search_state.proofs.progress.Progress.rest_without_clash.Goals as goal

pub returns-in-Some : goal.returns-in-Some
returns-in-Some g c =
    let w = g.R.Rules.context c.args.rules.now in
    let files = g.R.Rules.files c.args.rules.now in
    let s = c.follow.new.self in
    let same = c.in_ok-follow.ensures.followed.same in
    let is : IsStep w (facts_in s.entries) files c.in-Some.field-0 =
    subst
    (λ (found : Option Step). MatchOption found (NoStep w (facts_in s.entries)) (IsStep w (facts_in s.entries) files))
    c.in-Some.is c.in_ok-next_step.ensures in (
      same,
      still_searches w c.args.self.now s same c.in_ok-follow.ensures.first c.requires.searching,
      step_has_next w s files c.in-Some.field-0 (still_none w c.args.self.now s same c.requires.none) is,
    )

pub returns-in-None : goal.returns-in-None
returns-in-None g c =
    let w = g.R.Rules.context c.args.rules.now in
    let s = c.follow.new.self in
    let es = s.entries in
    let same = c.in_ok-follow.ensures.followed.same in
    let none : NoStep w (facts_in es) =
    subst (λ (found : Option Step). MatchOption found (NoStep w (facts_in es))
    (IsStep w (facts_in es) (g.R.Rules.files c.args.rules.now)))
    c.in-None.is c.in_ok-next_step.ensures in (
      c.in_ok-follow.ensures.followed,
      c.no_step_is_saturated.ensures w (items_of es)
          (subst (λ (fs : List (Fact ℕ)). ¬ IsPlainClash w.first (below_of w) w.table fs) (sym (facts-items es))
          (still_none w c.args.self.now s same c.requires.none))
          (subst (λ (fs : List (Fact ℕ)). NoStep w fs) (sym (facts-items es)) none),
    )

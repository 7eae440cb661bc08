use Rattle.std.proofs.Common.{ℕ, refl, sym, subst, List, Option}
use Rattle.std.specs.Prelude.{MatchOption}
use Rattle.calculus_specs.specs.declared.facts.Fact.{Fact}
use Rattle.tableau_specs.specs.Clash.{IsPlainClash}
use Rattle.tableau_specs.specs.Steps.{below_of}
use Rattle.step_agenda.specs.Trail.{facts_in, items_of}
use Rattle.step_finders.specs.declared.step.Step.{Step}
use Rattle.step_finders.specs.Stepping.{NoStep, IsStep}
use Rattle.search_state.proofs.Entries.{facts-items}
use Rattle.search_state.proofs.progress.Progress.go_on_anywhere.Goals as goal

pub returns-in-None : goal.returns-in-None
returns-in-None g c =
    let w = g.R.Rules.context c.args.rules.now in
    let es = c.args.self.now.entries in
    let none : NoStep w (facts_in es) =
    subst (λ (found : Option Step). MatchOption found (NoStep w (facts_in es))
    (IsStep w (facts_in es) (g.R.Rules.files c.args.rules.now)))
    c.in-None.is c.in_ok-step.ensures in (
      record { same = refl; current = c.requires.current },
      c.no_step_is_saturated.ensures w (items_of es)
          (subst (λ (fs : List (Fact ℕ)). ¬ IsPlainClash w.first (below_of w) w.table fs) (sym (facts-items es))
          c.requires.none)
          (subst (λ (fs : List (Fact ℕ)). NoStep w fs) (sym (facts-items es)) none),
    )

use Rattle.std.proofs.Common.{ℕ, subst, sym}
use Rattle.step_agenda.specs.Entries.{IsFit}
use Rattle.calculus_specs.specs.State.{node_count_from}
use Rattle.step_agenda.specs.Trail.{facts_in}
use Rattle.step_finders.specs.Choosing.{branch_of}
use Rattle.search_state.proofs.LastFact.{lookable}
use Rattle.search_state.proofs.Parts.{alternative_counts, alternative_fits, choice_on}
use Rattle.search_state.proofs.progress.Progress.choose.Goals as goal

pub left_after_first-requires : goal.left_after_first-requires
left_after_first-requires g c =
    alternative_counts (g.R.Rules.context c.args.rules.now).table (branch_of c.args.choosing.now) 1
    c.requires.choosable.first c.requires.choosable.is_first

pub first_of-fact-requires-clause-some : goal.first_of-fact-requires-clause-some
first_of-fact-requires-clause-some g c =
    alternative_counts (g.R.Rules.context c.args.rules.now).table (branch_of c.args.choosing.now) 1
    c.requires.choosable.first c.requires.choosable.is_first

pub first_of-fact-requires-clause-numbered : goal.first_of-fact-requires-clause-numbered
first_of-fact-requires-clause-numbered g c = c.in_ok-resting.ensures.alternatives.numbered

pub put_choice-requires-clause-fits : goal.put_choice-requires-clause-fits
put_choice-requires-clause-fits g c =
    let w = g.R.Rules.context c.args.rules.now in
    let fs = facts_in c.args.self.now.entries in
    subst (λ (k : ℕ). IsFit (node_count_from k fs) c.first_of-fact.result) (sym c.requires.standing.first_is)
    (alternative_fits w.table (node_count_from w.first fs) (branch_of c.args.choosing.now) 1 c.first_of-fact.result
    c.first_of-fact.ensures (choice_on w fs c.args.choosing.now c.requires.choosable.why))

pub look-requires-clause-lookable : goal.look-requires-clause-lookable
look-requires-clause-lookable g c =
    let w = g.R.Rules.context c.args.rules.now in
    lookable w c.put_choice.new.self c.in_ok-put_choice.ensures.moved.standing c.first_of-fact.result
    c.in_ok-put_choice.ensures.last

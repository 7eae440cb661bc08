use Rattle.std.proofs.Common.{◌≡◌, ◌∙◌, ap, sym, subst, reverse, Option, None}
use Rattle.step_agenda.specs.Trail.{facts_in}
use Rattle.step_finders.specs.declared.clash.Clash.{Clash}
use Rattle.search_state.specs.Progress.{ProgressLists, IsClashOf}
use Rattle.search_state.proofs.progress.Progress.step.Goals as goal

pub go_on-requires-clause-none : goal.go_on-requires-clause-none
go_on-requires-clause-none g c =
    let w = g.R.Rules.context c.args.rules.now in
    let s = c.self.inside in
    let old : ProgressLists = record {
      query = s.query.now;
      at = s.at;
      sub = s.sub;
      not_sup = s.not_sup;
      first = s.tree.first;
      entries = s.tree.entries;
      found_blocks = s.found_blocks;
      trace = s.trace;
      marks = reverse s.marks.items;
      clash = s.clash;
      steps = s.steps;
      behind = s.behind;
    } in
    let is : old ≡ c.args.self.now = c.self.view_is in
    let none : c.args.self.now.clash ≡ None = ap (λ (q : ProgressLists). q.clash) (sym is) ∙ c.in-None.is in
    subst (λ (k : Option Clash). IsClashOf w (facts_in c.args.self.now.entries) k) none c.requires.searching.clash

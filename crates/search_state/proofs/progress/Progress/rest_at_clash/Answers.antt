use Rattle.std.proofs.Common.{◌≡◌, ◌∙◌, refl, sym, subst, reverse}
use Rattle.search_trace.specs.RuleLine.{line_of}
use Rattle.search_state.specs.Progress.{ProgressLists}
use Rattle.search_state.specs.Resting.{RestsClash}
use Rattle.search_state.proofs.Nexts.{shown_is_clash, clash_has_next}
use Rattle.search_state.proofs.progress.Progress.rest_at_clash.Goals as goal

pub close_all-requires-clause-clash : goal.close_all-requires-clause-clash
close_all-requires-clause-clash g c =
    shown_is_clash (g.R.Rules.context c.args.rules.now) c.args.self.now.entries c.args.clash.now c.requires.shown

pub returns-then-branch : goal.returns-then-branch
returns-then-branch g c =
    let w = g.R.Rules.context c.args.rules.now in
    let s = c.args.self.now in
    let clash = shown_is_clash w s.entries c.args.clash.now c.requires.shown in
    let line = line_of c.in_ok-resting.resting.line in
    let u = c.in_ok-resting.resting.marks in
    let i = c.self.inside in
    let old : ProgressLists = record {
      query = i.query.now;
      at = i.at;
      sub = i.sub;
      not_sup = i.not_sup;
      first = i.tree.first;
      entries = i.tree.entries;
      found_blocks = i.found_blocks;
      trace = i.trace;
      marks = reverse i.marks.items;
      clash = i.clash;
      steps = i.steps;
      behind = i.behind;
    } in
    let is : old ≡ s = c.self.view_is in
    let rests : RestsClash w s.entries line u =
    subst (λ (q : ProgressLists). RestsClash w q.entries line u) is c.in_ok-resting.ensures in (
      refl,
      c.requires.searching,
      clash_has_next w s c.requires.searching.standing clash line u rests
          (sym c.in_ok-turns.ensures ∙ c.if-branch.true),
    )

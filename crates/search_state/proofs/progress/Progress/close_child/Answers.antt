use Rattle.std.proofs.Common.{◌≡◌, ◌∙◌, ap, sym, subst, reverse}
use Rattle.lane_sieve.specs.Sets.{NumberSet}
use Rattle.search_trace.specs.RuleLine.{line_of}
use Rattle.tableau_specs.specs.Steps.{HasClash}
use Rattle.step_agenda.specs.Trail.{items_of}
use Rattle.search_trace.specs.Trace.{TraceLists, with_line, turned_back, answer_of}
use Rattle.search_state.specs.Backing.{closed_trace}
use Rattle.search_state.specs.Resting.{RestsClash}
use Rattle.search_state.specs.Progress.{ProgressLists, IsStanding}
use Rattle.search_state.specs.Turning.{HasGoneBack}
use Rattle.search_state.proofs.GoneBack.{has_gone_back}
use Rattle.search_state.proofs.progress.Progress.close_child.Goals as goal

pub returns-clause-gone_back : goal.returns-clause-gone_back
returns-clause-gone_back g c =
    let w = g.R.Rules.context c.args.rules.now in
    let s = c.self.inside in
    let old : ProgressLists = record {
      query = s.query.now;
      at = s.at;
      sub = s.sub;
      not_sup = s.not_sup;
      first = s.tree.first;
      entries = s.tree.entries;
      found_blocks = s.found_blocks;
      trace = s.trace;
      marks = reverse s.marks.items;
      clash = s.clash;
      steps = s.steps;
      behind = s.behind;
    } in
    let is : old ≡ c.args.self.now = c.self.view_is in
    let line = line_of c.args.resting.line in
    let u = c.args.resting.marks in
    let lined : c.put.new.self ≡ with_line s.trace line u = c.in_ok-put.ensures.put in
    let used : c.in_ok-used.used ≡ u = c.in_ok-used.ensures in
    let answer : c.in_ok-back.back ≡ answer_of (with_line s.trace line u) u =
    c.in_ok-back.ensures.answer ∙ ap (λ (t : TraceLists). answer_of t c.in_ok-used.used) lined
    ∙ ap (λ (v : NumberSet). answer_of (with_line s.trace line u) v) used in
    let trace : closed_trace s.trace line u ≡ c.go_back.new.self =
    sym (c.in_ok-back.ensures.back ∙ ap (λ (t : TraceLists). turned_back t c.in_ok-used.used) lined
    ∙ ap (λ (v : NumberSet). turned_back (with_line s.trace line u) v) used) in
    subst (λ (t : TraceLists). HasGoneBack w
    (record {
      query = s.query.now;
      at = s.at;
      sub = s.sub;
      not_sup = s.not_sup;
      first = s.tree.first;
      entries = s.tree.entries;
      found_blocks = s.found_blocks;
      trace = t;
      marks = reverse s.marks.items;
      clash = s.clash;
      steps = s.steps;
      behind = s.behind;
    })
    c.in_ok-back.back)
    trace
    (has_gone_back w old
    (subst (λ (q : ProgressLists). IsStanding w q) (sym is) c.requires.standing)
    (subst (λ (q : ProgressLists). HasClash w (items_of q.entries)) (sym is) c.requires.clash)
    line u
    (subst (λ (q : ProgressLists). RestsClash w q.entries line u) (sym is) c.requires.rests)
    c.in_ok-back.back answer)

use Rattle.std.proofs.Common.{◌≡◌, ◌∙◌, ap, refl, sym, subst, reverse}
use Rattle.std.specs.Prelude.{◌+◌, None}
use Rattle.lane_sieve.specs.Sets.{NumberSet}
use Rattle.search_trace.specs.RuleLine.{line_of}
use Rattle.step_agenda.specs.By.{By}
use Rattle.step_agenda.specs.Trail.{TreeEntries, facts_in}
use Rattle.step_finders.specs.Giving.{IsGiving}
use Rattle.search_trace.specs.Trace.{with_line}
use Rattle.search_state.specs.Resting.{RestsGiven}
use Rattle.search_state.specs.Progress.{ProgressLists, IsStanding, IsClashOf, HasMoved}
use Rattle.search_state.proofs.Steps.{given_moves}
use Rattle.search_state.proofs.Parts.{given_makes_none, given_fits}
use Rattle.search_state.proofs.progress.Progress.put_given.Goals as goal

pub add-requires : goal.add-requires
add-requires g c =
    let w = g.R.Rules.context c.args.rules.now in
    let s = c.self.inside in
    let old : ProgressLists = record {
      query = s.query.now;
      at = s.at;
      sub = s.sub;
      not_sup = s.not_sup;
      first = s.tree.first;
      entries = s.tree.entries;
      found_blocks = s.found_blocks;
      trace = s.trace;
      marks = reverse s.marks.items;
      clash = s.clash;
      steps = s.steps;
      behind = s.behind;
    } in
    let is : old ≡ c.args.self.now = c.self.view_is in
    let st : IsStanding w old = subst (λ (q : ProgressLists). IsStanding w q) (sym is) c.requires.standing in
    given_fits w s.tree.first (facts_in s.tree.entries) st.first_is c.args.given.now.fact
    c.requires.giving.is_given.on_first

pub returns-clause-moved : goal.returns-clause-moved
returns-clause-moved g c =
    let w = g.R.Rules.context c.args.rules.now in
    let a = c.args.given.now in
    let s = c.self.inside in
    let old : ProgressLists = record {
      query = s.query.now;
      at = s.at;
      sub = s.sub;
      not_sup = s.not_sup;
      first = s.tree.first;
      entries = s.tree.entries;
      found_blocks = s.found_blocks;
      trace = s.trace;
      marks = reverse s.marks.items;
      clash = s.clash;
      steps = s.steps;
      behind = s.behind;
    } in
    let is : old ≡ c.args.self.now = c.self.view_is in
    let line = line_of c.args.resting.line in
    let u = c.args.resting.marks in
    let by : By = record { line = c.in_ok-number.number; marks = u } in
    let new : ProgressLists = record {
      query = s.query.now;
      at = s.at;
      sub = s.sub;
      not_sup = s.not_sup;
      first = c.add.new.self.first;
      entries = c.add.new.self.entries;
      found_blocks = c.keep_blocks.new.found_blocks;
      trace = c.put.new.self;
      marks = reverse s.marks.items;
      clash = s.clash;
      steps = s.steps + 1;
      behind = s.behind;
    } in
    subst (λ (q : ProgressLists). HasMoved w q new) is
    (given_moves w old (subst (λ (q : ProgressLists). IsStanding w q) (sym is) c.requires.standing) a
    (subst (λ (q : ProgressLists). IsClashOf w (facts_in q.entries) None) (sym is) c.requires.none)
    (subst (λ (q : ProgressLists). IsGiving w (facts_in q.entries) a) (sym is) c.requires.giving)
    c.facts_stay_grounded.ensures line u
    (subst (λ (q : ProgressLists). RestsGiven w q.entries a.fact line u) (sym is) c.requires.rests)
    by refl new
    (record {
      query = refl;
      at = refl;
      sub = refl;
      not_sup = refl;
      first = ap (λ (t : TreeEntries). t.first) c.in_ok-add.ensures.added;
      entries_are = ap (λ (t : TreeEntries). t.entries) c.in_ok-add.ensures.added;
      trace_is = c.in_ok-number.ensures.put ∙ ap (λ (v : NumberSet). with_line s.trace line v) c.in_ok-shared.ensures;
      marks_are = refl;
      counted = refl;
      behind = refl;
      blocks = c.keep_blocks.ensures.first;
    }))

pub returns-clause-last : goal.returns-clause-last
returns-clause-last g c =
    let w = g.R.Rules.context c.args.rules.now in
    let s = c.self.inside in
    let old : ProgressLists = record {
      query = s.query.now;
      at = s.at;
      sub = s.sub;
      not_sup = s.not_sup;
      first = s.tree.first;
      entries = s.tree.entries;
      found_blocks = s.found_blocks;
      trace = s.trace;
      marks = reverse s.marks.items;
      clash = s.clash;
      steps = s.steps;
      behind = s.behind;
    } in
    let is : old ≡ c.args.self.now = c.self.view_is in
    record {
      front = s.tree.entries;
      by = record { line = c.in_ok-number.number; marks = c.args.resting.marks };
      splits = ap (λ (t : TreeEntries). t.entries) c.in_ok-add.ensures.added;
      no_node = given_makes_none w c.args.given.now.fact c.requires.giving.is_given.on_first;
      none = subst (λ (q : ProgressLists). IsClashOf w (facts_in q.entries) None) (sym is) c.requires.none;
    }

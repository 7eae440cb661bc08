use Rattle.std.proofs.Common.{◌≡◌, ◌∙◌, ℕ, List, ap, refl, sym, subst, reverse, take}
use Rattle.std.specs.Prelude.{◌+◌, None}
use Rattle.std.proofs.Math.Seq.{take-append_seam}
use Rattle.lane_sieve.specs.Sets.{NumberSet}
use Rattle.calculus_specs.specs.State.{node_count_from, fresh_facts}
use Rattle.search_trace.specs.RuleLine.{line_of}
use Rattle.step_agenda.specs.By.{By}
use Rattle.step_agenda.specs.Entry.{Entry}
use Rattle.step_agenda.specs.Followed.{AreBlocksBelow}
use Rattle.step_agenda.specs.Trail.{TreeEntries, facts_in, grounded}
use Rattle.step_finders.specs.Making.{IsMaking}
use Rattle.search_trace.specs.Trace.{with_line}
use Rattle.search_state.specs.Resting.{RestsNewNodes}
use Rattle.search_state.specs.Progress.{ProgressLists, with_nodes, IsStanding, IsClashOf, HasMoved}
use Rattle.search_state.proofs.Steps.{new_nodes_move, some_are_made}
use Rattle.search_state.proofs.LastFact.{speaks}
use Rattle.search_state.proofs.progress.Progress.put_new_nodes.Goals as goal

pub keep_blocks-requires-clause-stood : goal.keep_blocks-requires-clause-stood
keep_blocks-requires-clause-stood g c =
    let w = g.R.Rules.context c.args.rules.now in
    let m = c.args.new.now in
    let s = c.self.inside in
    let old : ProgressLists = record {
      query = s.query.now;
      at = s.at;
      sub = s.sub;
      not_sup = s.not_sup;
      first = s.tree.first;
      entries = s.tree.entries;
      found_blocks = s.found_blocks;
      trace = s.trace;
      marks = reverse s.marks.items;
      clash = s.clash;
      steps = s.steps;
      behind = s.behind;
    } in
    let is : old ≡ c.args.self.now = c.self.view_is in
    let st : IsStanding w old = subst (λ (q : ProgressLists). IsStanding w q) (sym is) c.requires.standing in
    let by : By = record { line = c.in_ok-number.number; marks = c.args.resting.marks } in
    let nodes = node_count_from s.tree.first (facts_in s.tree.entries) in
    let more : List Entry = grounded by (fresh_facts m.parent m.role m.filler nodes m.count) in
    let put = ap (λ (t : TreeEntries). t.entries) c.in_ok-first.ensures.made in
    let front : take c.len-place.result c.fresh.new.self.entries ≡ s.tree.entries =
    (λ i. take (c.len-place.ensures i) (put i)) ∙ take-append_seam s.tree.entries more in
    subst (λ (k : ℕ). AreBlocksBelow k (facts_in (take c.len-place.result c.fresh.new.self.entries))
    c.len-known.result s.found_blocks)
    (sym (ap (λ (t : TreeEntries). t.first) c.in_ok-first.ensures.made))
    (subst (λ (es : List Entry). AreBlocksBelow s.tree.first (facts_in es) c.len-known.result s.found_blocks)
    (sym front)
    (subst (λ (n : ℕ). AreBlocksBelow s.tree.first (facts_in s.tree.entries) n s.found_blocks) (sym c.len-known.ensures)
    st.blocks))

pub returns-clause-moved : goal.returns-clause-moved
returns-clause-moved g c =
    let w = g.R.Rules.context c.args.rules.now in
    let m = c.args.new.now in
    let s = c.self.inside in
    let old : ProgressLists = record {
      query = s.query.now;
      at = s.at;
      sub = s.sub;
      not_sup = s.not_sup;
      first = s.tree.first;
      entries = s.tree.entries;
      found_blocks = s.found_blocks;
      trace = s.trace;
      marks = reverse s.marks.items;
      clash = s.clash;
      steps = s.steps;
      behind = s.behind;
    } in
    let is : old ≡ c.args.self.now = c.self.view_is in
    let line = line_of c.args.resting.line in
    let u = c.args.resting.marks in
    let by : By = record { line = c.in_ok-number.number; marks = u } in
    let new : ProgressLists = record {
      query = s.query.now;
      at = s.at;
      sub = s.sub;
      not_sup = s.not_sup;
      first = c.fresh.new.self.first;
      entries = c.fresh.new.self.entries;
      found_blocks = c.keep_blocks.new.found_blocks;
      trace = c.put.new.self;
      marks = reverse s.marks.items;
      clash = s.clash;
      steps = s.steps + 1;
      behind = s.behind;
    } in
    let st : IsStanding w old = subst (λ (q : ProgressLists). IsStanding w q) (sym is) c.requires.standing in
    subst (λ (q : ProgressLists). HasMoved w q new) is
    (new_nodes_move w old st m
    (subst (λ (q : ProgressLists). IsClashOf w (facts_in q.entries) None) (sym is) c.requires.none)
    (subst (λ (q : ProgressLists). IsMaking w (facts_in q.entries) m) (sym is) c.requires.making)
    c.new_nodes_stay_grounded.ensures line u
    (subst (λ (q : ProgressLists). RestsNewNodes w q.entries m line u) (sym is) c.requires.rests)
    by refl new
    (record {
      query = refl;
      at = refl;
      sub = refl;
      not_sup = refl;
      first = ap (λ (t : TreeEntries). t.first) c.in_ok-first.ensures.made;
      entries_are =
          ap (λ (t : TreeEntries). t.entries) c.in_ok-first.ensures.made
          ∙ ap (λ (k : ℕ). with_nodes k s.tree.entries m by) st.first_is;
      trace_is = c.in_ok-number.ensures.put ∙ ap (λ (v : NumberSet). with_line s.trace line v) c.in_ok-shared.ensures;
      marks_are = refl;
      counted = refl;
      behind = refl;
      blocks = c.keep_blocks.ensures.first;
    }))

pub returns-clause-last : goal.returns-clause-last
returns-clause-last g c =
    let w = g.R.Rules.context c.args.rules.now in
    let m = c.args.new.now in
    let s = c.self.inside in
    let old : ProgressLists = record {
      query = s.query.now;
      at = s.at;
      sub = s.sub;
      not_sup = s.not_sup;
      first = s.tree.first;
      entries = s.tree.entries;
      found_blocks = s.found_blocks;
      trace = s.trace;
      marks = reverse s.marks.items;
      clash = s.clash;
      steps = s.steps;
      behind = s.behind;
    } in
    let is : old ≡ c.args.self.now = c.self.view_is in
    let st = subst (λ (q : ProgressLists). IsStanding w q) (sym is) c.requires.standing in
    let making = subst (λ (q : ProgressLists). IsMaking w (facts_in q.entries) m) (sym is) c.requires.making in
    let by : By = record { line = c.in_ok-number.number; marks = c.args.resting.marks } in
    record {
      front = s.tree.entries;
      by = by;
      splits =
          ap (λ (t : TreeEntries). t.entries) c.in_ok-first.ensures.made
          ∙ ap (λ (k : ℕ). with_nodes k s.tree.entries m by) st.first_is;
      none = subst (λ (q : ProgressLists). IsClashOf w (facts_in q.entries) None) (sym is) c.requires.none;
      is_node = making.is_open.is_node;
      is_some = some_are_made w (facts_in s.tree.entries) m st.asked.is_table making;
      new_is = c.in_ok-first.ensures.first ∙ ap (λ (k : ℕ). node_count_from k (facts_in s.tree.entries)) st.first_is;
      speak = speaks w old st;
    }

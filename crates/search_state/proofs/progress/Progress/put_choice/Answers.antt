use Rattle.std.proofs.Common.{◌≡◌, ◌∙◌, ℕ, List, ap, refl, sym, subst, reverse, take, [], append_assoc}
use Rattle.std.specs.Prelude.{◌+◌, ◌∷◌, ◌++◌, None}
use Rattle.std.specs.FinSet as sets
use Rattle.std.proofs.lemmas.List.{reverse-append}
use Rattle.std.proofs.Math.Seq.{take-append_seam}
use Rattle.lane_sieve.specs.Sets.{NumberSet}
use Rattle.calculus_specs.specs.declared.facts.Fact.{Fact}
use Rattle.search_trace.specs.RuleLine.{line_of}
use Rattle.tableau_specs.specs.declared.Choice.{Choice}
use Rattle.tableau_specs.specs.Clash.{IsPlainClash}
use Rattle.tableau_specs.specs.Steps.{below_of}
use Rattle.step_agenda.specs.By.{By}
use Rattle.step_agenda.specs.Entry.{Entry}
use Rattle.step_agenda.specs.Entry.TheVariants.{Fact as Grounded, Mark}
use Rattle.step_agenda.specs.Trail.{TreeEntries, facts_in}
use Rattle.step_agenda.specs.Followed.{AreBlocksBelow}
use Rattle.step_finders.specs.Choosing.{branch_of, IsChoosable}
use Rattle.search_trace.specs.Trace.{with_branching}
use Rattle.search_state.specs.Resting.{RestsChoice}
use Rattle.search_state.specs.Progress.{ProgressLists, IsStanding, IsClashOf, HasMoved}
use Rattle.search_state.proofs.Entries.{facts-marked}
use Rattle.search_state.proofs.Choices.{choice_moves}
use Rattle.search_state.proofs.Parts.{alternative_makes_none}
use Rattle.search_state.proofs.progress.Progress.put_choice.Goals as goal

pub keep_blocks-requires-clause-stood : goal.keep_blocks-requires-clause-stood
keep_blocks-requires-clause-stood g c =
    let w = g.R.Rules.context c.args.rules.now in
    let s = c.self.inside in
    let old : ProgressLists = record {
      query = s.query.now;
      at = s.at;
      sub = s.sub;
      not_sup = s.not_sup;
      first = s.tree.first;
      entries = s.tree.entries;
      found_blocks = s.found_blocks;
      trace = s.trace;
      marks = reverse s.marks.items;
      clash = s.clash;
      steps = s.steps;
      behind = s.behind;
    } in
    let is : old ≡ c.args.self.now = c.self.view_is in
    let st : IsStanding w old = subst (λ (q : ProgressLists). IsStanding w q) (sym is) c.requires.standing in
    let by : By = record { line = c.in_ok-mark.mark; marks = c.in_ok-more.more } in
    let choice : Choice = record { line = c.in_ok-mark.mark; branch = c.branch-branch.result; alternative = 1 } in
    let more : List Entry = Mark choice ∷ Grounded c.args.fact by ∷ [] in
    let put = ap (λ (t : TreeEntries). t.entries) c.in_ok-put_alternative.ensures in
    let front : take c.len-place.result c.put_alternative.new.tree.entries ≡ s.tree.entries =
    (λ i. take (c.len-place.ensures i) (put i)) ∙ take-append_seam s.tree.entries more in
    subst (λ (k : ℕ). AreBlocksBelow k (facts_in (take c.len-place.result c.put_alternative.new.tree.entries))
    c.len-known.result s.found_blocks)
    (sym (ap (λ (t : TreeEntries). t.first) c.in_ok-put_alternative.ensures))
    (subst (λ (es : List Entry). AreBlocksBelow s.tree.first (facts_in es) c.len-known.result s.found_blocks)
    (sym front)
    (subst (λ (n : ℕ). AreBlocksBelow s.tree.first (facts_in s.tree.entries) n s.found_blocks) (sym c.len-known.ensures)
    st.blocks))

pub returns-clause-moved : goal.returns-clause-moved
returns-clause-moved g c =
    let w = g.R.Rules.context c.args.rules.now in
    let k = c.args.choosing.now in
    let s = c.self.inside in
    let old : ProgressLists = record {
      query = s.query.now;
      at = s.at;
      sub = s.sub;
      not_sup = s.not_sup;
      first = s.tree.first;
      entries = s.tree.entries;
      found_blocks = s.found_blocks;
      trace = s.trace;
      marks = reverse s.marks.items;
      clash = s.clash;
      steps = s.steps;
      behind = s.behind;
    } in
    let is : old ≡ c.args.self.now = c.self.view_is in
    let line = line_of c.args.resting.line in
    let u = c.args.resting.marks in
    let by : By = record { line = c.in_ok-mark.mark; marks = c.in_ok-more.more } in
    let new : ProgressLists = record {
      query = s.query.now;
      at = s.at;
      sub = s.sub;
      not_sup = s.not_sup;
      first = c.put_alternative.new.tree.first;
      entries = c.put_alternative.new.tree.entries;
      found_blocks = c.keep_blocks.new.found_blocks;
      trace = c.open.new.self;
      marks = reverse c.push.new.self.items;
      clash = s.clash;
      steps = s.steps + 1;
      behind = s.behind;
    } in
    subst (λ (q : ProgressLists). HasMoved w q new) is
    (choice_moves w old (subst (λ (q : ProgressLists). IsStanding w q) (sym is) c.requires.standing) k
    (subst (λ (q : ProgressLists). IsClashOf w (facts_in q.entries) None) (sym is) c.requires.none)
    (subst (λ (q : ProgressLists). IsChoosable w (facts_in q.entries) k) (sym is) c.requires.choosable)
    c.facts_stay_grounded.ensures c.alternatives_speak_of_nodes.ensures line u
    (subst (λ (q : ProgressLists). RestsChoice w q.entries (branch_of k) line u) (sym is) c.requires.rests)
    c.args.left c.requires.left c.requires.small c.args.fact c.requires.first
    by (c.in_ok-more.ensures ∙ ap (λ (n : ℕ). sets.insert u n) c.in_ok-mark.ensures.number) new
    (record {
      query = refl;
      at = refl;
      sub = refl;
      not_sup = refl;
      first = ap (λ (t : TreeEntries). t.first) c.in_ok-put_alternative.ensures;
      entries_are =
          ap (λ (t : TreeEntries). t.entries) c.in_ok-put_alternative.ensures
          ∙ (λ i. s.tree.entries
          ++ Mark (record { line = c.in_ok-mark.ensures.number i; branch = c.branch-branch.ensures i; alternative = 1 })
          ∷ Grounded c.args.fact by ∷ []);
      trace_is =
          c.in_ok-mark.ensures.opened
          ∙ ap (λ (v : NumberSet). with_branching s.trace line v c.args.left) c.in_ok-shared.ensures;
      marks_are =
          ap reverse c.in_ok-push.ensures.items ∙ reverse-append s.marks.items (c.len-place.result ∷ [])
          ∙ ap (λ (n : ℕ). n ∷ reverse s.marks.items) c.len-place.ensures;
      counted = refl;
      behind = refl;
      blocks = c.keep_blocks.ensures.first;
    }))

pub returns-clause-last : goal.returns-clause-last
returns-clause-last g c =
    let w = g.R.Rules.context c.args.rules.now in
    let s = c.self.inside in
    let old : ProgressLists = record {
      query = s.query.now;
      at = s.at;
      sub = s.sub;
      not_sup = s.not_sup;
      first = s.tree.first;
      entries = s.tree.entries;
      found_blocks = s.found_blocks;
      trace = s.trace;
      marks = reverse s.marks.items;
      clash = s.clash;
      steps = s.steps;
      behind = s.behind;
    } in
    let is : old ≡ c.args.self.now = c.self.view_is in
    let by : By = record { line = c.in_ok-mark.mark; marks = c.in_ok-more.more } in
    let choice : Choice = record { line = c.in_ok-mark.mark; branch = c.branch-branch.result; alternative = 1 } in
    record {
      front = s.tree.entries ++ Mark choice ∷ [];
      by = by;
      splits =
          ap (λ (t : TreeEntries). t.entries) c.in_ok-put_alternative.ensures
          ∙ sym (append_assoc s.tree.entries (Mark choice ∷ []) (Grounded c.args.fact by ∷ []));
      no_node = alternative_makes_none w.first w.table (branch_of c.args.choosing.now) 1 c.args.fact c.requires.first;
      none =
          subst (λ (fs : List (Fact ℕ)). ¬ IsPlainClash w.first (below_of w) w.table fs)
          (sym (facts-marked s.tree.entries choice))
          (subst (λ (q : ProgressLists). IsClashOf w (facts_in q.entries) None) (sym is) c.requires.none);
    }

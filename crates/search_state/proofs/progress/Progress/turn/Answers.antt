use Rattle.std.proofs.Common.{◌≡◌, ◌≤◌, ◌+◌, ℕ, List, take, ap, refl, sym, subst, reverse, length, ◌∙◌, arith}
use Rattle.std.proofs.lemmas.List.{length-reverse}
use Rattle.calculus_specs.specs.State.{node_count_from}
use Rattle.step_agenda.specs.Entries.{IsFit}
use Rattle.tableau_specs.specs.declared.Choice.{Choice}
use Rattle.step_agenda.specs.Followed.{AreBlocksBelow}
use Rattle.step_agenda.specs.By.{By}
use Rattle.step_agenda.specs.Entry.{Entry}
use Rattle.step_agenda.specs.Trail.{TreeEntries, facts_in}
use Rattle.search_state.specs.Progress.{ProgressLists, HasMoved, IsLast}
use Rattle.search_state.specs.Turning.{IsTurning}
use Rattle.search_state.proofs.Choices.{with_choice}
use Rattle.search_state.proofs.Parts.{alternative_makes_none}
use Rattle.search_state.proofs.Taking.{marks_within, is_marked, at_within, at_still_within, front_at, last_at, more_at}
use Rattle.search_state.proofs.Taking.{small_at, numbered_at, fits_at, moves_at}
use Rattle.search_state.proofs.progress.Progress.turn.Goals as goal

pub cut_marks-place-requires-clause-within : goal.cut_marks-place-requires-clause-within
cut_marks-place-requires-clause-within g c =
    let w = g.R.Rules.context c.args.rules.now in
    let s = c.self.inside in
    let old : ProgressLists = record {
      query = s.query.now;
      at = s.at;
      sub = s.sub;
      not_sup = s.not_sup;
      first = s.tree.first;
      entries = s.tree.entries;
      found_blocks = s.found_blocks;
      trace = s.trace;
      marks = reverse s.marks.items;
      clash = s.clash;
      steps = s.steps;
      behind = s.behind;
    } in
    let m = c.args.mark in
    let ms = c.args.marks in
    let is : old ≡ c.args.self.now = c.self.view_is in
    let t : IsTurning w old m ms = subst (λ (q : ProgressLists). IsTurning w q m ms) (sym is) c.requires.turning in
    omega (arith, c.open_count-count.ensures, marks_within w old m ms t, length-reverse s.marks.items)

pub choice_at-choice-requires : goal.choice_at-choice-requires
choice_at-choice-requires g c =
    let w = g.R.Rules.context c.args.rules.now in
    let s = c.self.inside in
    let old : ProgressLists = record {
      query = s.query.now;
      at = s.at;
      sub = s.sub;
      not_sup = s.not_sup;
      first = s.tree.first;
      entries = s.tree.entries;
      found_blocks = s.found_blocks;
      trace = s.trace;
      marks = reverse s.marks.items;
      clash = s.clash;
      steps = s.steps;
      behind = s.behind;
    } in
    let m = c.args.mark in
    let ms = c.args.marks in
    let is : old ≡ c.args.self.now = c.self.view_is in
    let t : IsTurning w old m ms = subst (λ (q : ProgressLists). IsTurning w q m ms) (sym is) c.requires.turning in
    is_marked w old m ms t s.marks.items refl c.open_count-count.result c.cut_marks-place.result
    c.open_count-count.ensures c.cut_marks-place.ensures.latest

pub alternative_after-fact-requires-clause-more : goal.alternative_after-fact-requires-clause-more
alternative_after-fact-requires-clause-more g c =
    let w = g.R.Rules.context c.args.rules.now in
    let s = c.self.inside in
    let old : ProgressLists = record {
      query = s.query.now;
      at = s.at;
      sub = s.sub;
      not_sup = s.not_sup;
      first = s.tree.first;
      entries = s.tree.entries;
      found_blocks = s.found_blocks;
      trace = s.trace;
      marks = reverse s.marks.items;
      clash = s.clash;
      steps = s.steps;
      behind = s.behind;
    } in
    let m = c.args.mark in
    let ms = c.args.marks in
    let is : old ≡ c.args.self.now = c.self.view_is in
    let t : IsTurning w old m ms = subst (λ (q : ProgressLists). IsTurning w q m ms) (sym is) c.requires.turning in
    more_at w old m ms t s.marks.items refl c.open_count-count.result c.cut_marks-place.result
    c.open_count-count.ensures c.cut_marks-place.ensures.latest c.choice_at-choice.result c.choice_at-choice.ensures

pub alternative_after-fact-requires-clause-numbered : goal.alternative_after-fact-requires-clause-numbered
alternative_after-fact-requires-clause-numbered g c =
    let w = g.R.Rules.context c.args.rules.now in
    let s = c.self.inside in
    let old : ProgressLists = record {
      query = s.query.now;
      at = s.at;
      sub = s.sub;
      not_sup = s.not_sup;
      first = s.tree.first;
      entries = s.tree.entries;
      found_blocks = s.found_blocks;
      trace = s.trace;
      marks = reverse s.marks.items;
      clash = s.clash;
      steps = s.steps;
      behind = s.behind;
    } in
    let m = c.args.mark in
    let ms = c.args.marks in
    let is : old ≡ c.args.self.now = c.self.view_is in
    let t : IsTurning w old m ms = subst (λ (q : ProgressLists). IsTurning w q m ms) (sym is) c.requires.turning in
    numbered_at w old m ms t s.marks.items refl c.open_count-count.result c.cut_marks-place.result
    c.open_count-count.ensures c.cut_marks-place.ensures.latest c.choice_at-choice.result c.choice_at-choice.ensures

pub at_next-next-requires : goal.at_next-next-requires
at_next-next-requires g c =
    let w = g.R.Rules.context c.args.rules.now in
    let s = c.self.inside in
    let old : ProgressLists = record {
      query = s.query.now;
      at = s.at;
      sub = s.sub;
      not_sup = s.not_sup;
      first = s.tree.first;
      entries = s.tree.entries;
      found_blocks = s.found_blocks;
      trace = s.trace;
      marks = reverse s.marks.items;
      clash = s.clash;
      steps = s.steps;
      behind = s.behind;
    } in
    let m = c.args.mark in
    let ms = c.args.marks in
    let is : old ≡ c.args.self.now = c.self.view_is in
    let t : IsTurning w old m ms = subst (λ (q : ProgressLists). IsTurning w q m ms) (sym is) c.requires.turning in
    small_at w old m ms t s.marks.items refl c.open_count-count.result c.cut_marks-place.result
    c.open_count-count.ensures c.cut_marks-place.ensures.latest c.choice_at-choice.result c.choice_at-choice.ensures

pub cut-from-requires : goal.cut-from-requires
cut-from-requires g c =
    let w = g.R.Rules.context c.args.rules.now in
    let s = c.self.inside in
    let old : ProgressLists = record {
      query = s.query.now;
      at = s.at;
      sub = s.sub;
      not_sup = s.not_sup;
      first = s.tree.first;
      entries = s.tree.entries;
      found_blocks = s.found_blocks;
      trace = s.trace;
      marks = reverse s.marks.items;
      clash = s.clash;
      steps = s.steps;
      behind = s.behind;
    } in
    let m = c.args.mark in
    let ms = c.args.marks in
    let is : old ≡ c.args.self.now = c.self.view_is in
    let t : IsTurning w old m ms = subst (λ (q : ProgressLists). IsTurning w q m ms) (sym is) c.requires.turning in
    at_within w old m ms t s.marks.items refl c.open_count-count.result c.cut_marks-place.result
    c.open_count-count.ensures c.cut_marks-place.ensures.latest

pub put_alternative-requires : goal.put_alternative-requires
put_alternative-requires g c =
    let w = g.R.Rules.context c.args.rules.now in
    let s = c.self.inside in
    let old : ProgressLists = record {
      query = s.query.now;
      at = s.at;
      sub = s.sub;
      not_sup = s.not_sup;
      first = s.tree.first;
      entries = s.tree.entries;
      found_blocks = s.found_blocks;
      trace = s.trace;
      marks = reverse s.marks.items;
      clash = s.clash;
      steps = s.steps;
      behind = s.behind;
    } in
    let m = c.args.mark in
    let ms = c.args.marks in
    let is : old ≡ c.args.self.now = c.self.view_is in
    let t : IsTurning w old m ms = subst (λ (q : ProgressLists). IsTurning w q m ms) (sym is) c.requires.turning in
    subst (λ (k : TreeEntries). IsFit (node_count_from k.first (facts_in k.entries)) c.alternative_after-fact.result)
    (sym c.cut-from.ensures.cut)
    (subst (λ (k : ℕ). IsFit (node_count_from k (facts_in (take c.cut_marks-place.result s.tree.entries)))
    c.alternative_after-fact.result)
    (sym t.first_is)
    (fits_at w old m ms t s.marks.items refl c.open_count-count.result c.cut_marks-place.result
    c.open_count-count.ensures c.cut_marks-place.ensures.latest c.choice_at-choice.result c.choice_at-choice.ensures
    c.alternative_after-fact.result c.alternative_after-fact.ensures))

pub keep_blocks-requires-clause-place : goal.keep_blocks-requires-clause-place
keep_blocks-requires-clause-place g c =
    let w = g.R.Rules.context c.args.rules.now in
    let s = c.self.inside in
    let old : ProgressLists = record {
      query = s.query.now;
      at = s.at;
      sub = s.sub;
      not_sup = s.not_sup;
      first = s.tree.first;
      entries = s.tree.entries;
      found_blocks = s.found_blocks;
      trace = s.trace;
      marks = reverse s.marks.items;
      clash = s.clash;
      steps = s.steps;
      behind = s.behind;
    } in
    let m = c.args.mark in
    let ms = c.args.marks in
    let is : old ≡ c.args.self.now = c.self.view_is in
    let t : IsTurning w old m ms = subst (λ (q : ProgressLists). IsTurning w q m ms) (sym is) c.requires.turning in
    let by : By = record { line = m; marks = ms } in
    let next : Choice = c.at_next-next.result in
    let f = c.alternative_after-fact.result in
    let at = c.cut_marks-place.result in
    let put : c.put_alternative.new.tree
    ≡ record { first = s.tree.first; entries = with_choice (take at s.tree.entries) next f by } =
    c.in_ok-put_alternative.ensures
    ∙ ap (λ (k : TreeEntries). record { first = k.first; entries = with_choice k.entries next f by })
    c.cut-from.ensures.cut in
    subst (λ (k : TreeEntries). at ≤ length k.entries) (sym put)
    (at_still_within w old m ms t s.marks.items refl c.open_count-count.result c.cut_marks-place.result
    c.open_count-count.ensures c.cut_marks-place.ensures.latest next f by)

pub keep_blocks-requires-clause-stood : goal.keep_blocks-requires-clause-stood
keep_blocks-requires-clause-stood g c =
    let w = g.R.Rules.context c.args.rules.now in
    let s = c.self.inside in
    let old : ProgressLists = record {
      query = s.query.now;
      at = s.at;
      sub = s.sub;
      not_sup = s.not_sup;
      first = s.tree.first;
      entries = s.tree.entries;
      found_blocks = s.found_blocks;
      trace = s.trace;
      marks = reverse s.marks.items;
      clash = s.clash;
      steps = s.steps;
      behind = s.behind;
    } in
    let m = c.args.mark in
    let ms = c.args.marks in
    let is : old ≡ c.args.self.now = c.self.view_is in
    let t : IsTurning w old m ms = subst (λ (q : ProgressLists). IsTurning w q m ms) (sym is) c.requires.turning in
    let by : By = record { line = m; marks = ms } in
    let next : Choice = c.at_next-next.result in
    let f = c.alternative_after-fact.result in
    let at = c.cut_marks-place.result in
    let put : c.put_alternative.new.tree
    ≡ record { first = s.tree.first; entries = with_choice (take at s.tree.entries) next f by } =
    c.in_ok-put_alternative.ensures
    ∙ ap (λ (k : TreeEntries). record { first = k.first; entries = with_choice k.entries next f by })
    c.cut-from.ensures.cut in
    subst (λ (k : TreeEntries). AreBlocksBelow k.first (facts_in (take at k.entries)) c.cut-from.result s.found_blocks)
    (sym put)
    (subst (λ (es : List Entry). AreBlocksBelow s.tree.first (facts_in es) c.cut-from.result s.found_blocks)
    (sym (front_at w old m ms t s.marks.items refl c.open_count-count.result c.cut_marks-place.result
    c.open_count-count.ensures c.cut_marks-place.ensures.latest next f by))
    (c.cut-from.ensures.stand s.found_blocks
    (subst (λ (n : ℕ). AreBlocksBelow s.tree.first (facts_in s.tree.entries) n s.found_blocks) (sym c.len-known.ensures)
    t.blocks)))

pub returns-clause-last : goal.returns-clause-last
returns-clause-last g c =
    let w = g.R.Rules.context c.args.rules.now in
    let s = c.self.inside in
    let old : ProgressLists = record {
      query = s.query.now;
      at = s.at;
      sub = s.sub;
      not_sup = s.not_sup;
      first = s.tree.first;
      entries = s.tree.entries;
      found_blocks = s.found_blocks;
      trace = s.trace;
      marks = reverse s.marks.items;
      clash = s.clash;
      steps = s.steps;
      behind = s.behind;
    } in
    let m = c.args.mark in
    let ms = c.args.marks in
    let is : old ≡ c.args.self.now = c.self.view_is in
    let t : IsTurning w old m ms = subst (λ (q : ProgressLists). IsTurning w q m ms) (sym is) c.requires.turning in
    let by : By = record { line = m; marks = ms } in
    let next : Choice = c.at_next-next.result in
    let f = c.alternative_after-fact.result in
    let at = c.cut_marks-place.result in
    let put : c.put_alternative.new.tree
    ≡ record { first = s.tree.first; entries = with_choice (take at s.tree.entries) next f by } =
    c.in_ok-put_alternative.ensures
    ∙ ap (λ (k : TreeEntries). record { first = k.first; entries = with_choice k.entries next f by })
    c.cut-from.ensures.cut in
    subst (λ (k : TreeEntries). IsLast w k.entries f) (sym put)
    (last_at w old m ms t s.marks.items refl c.open_count-count.result c.cut_marks-place.result
    c.open_count-count.ensures c.cut_marks-place.ensures.latest next f by
    (alternative_makes_none w.first w.table c.choice_at-choice.result.branch (c.choice_at-choice.result.alternative + 1)
    f c.alternative_after-fact.ensures))

pub returns-clause-moved : goal.returns-clause-moved
returns-clause-moved g c =
    let w = g.R.Rules.context c.args.rules.now in
    let s = c.self.inside in
    let old : ProgressLists = record {
      query = s.query.now;
      at = s.at;
      sub = s.sub;
      not_sup = s.not_sup;
      first = s.tree.first;
      entries = s.tree.entries;
      found_blocks = s.found_blocks;
      trace = s.trace;
      marks = reverse s.marks.items;
      clash = s.clash;
      steps = s.steps;
      behind = s.behind;
    } in
    let m = c.args.mark in
    let ms = c.args.marks in
    let is : old ≡ c.args.self.now = c.self.view_is in
    let t : IsTurning w old m ms = subst (λ (q : ProgressLists). IsTurning w q m ms) (sym is) c.requires.turning in
    let by : By = record { line = m; marks = ms } in
    let next : Choice = c.at_next-next.result in
    let f = c.alternative_after-fact.result in
    let at = c.cut_marks-place.result in
    let put : c.put_alternative.new.tree
    ≡ record { first = s.tree.first; entries = with_choice (take at s.tree.entries) next f by } =
    c.in_ok-put_alternative.ensures
    ∙ ap (λ (k : TreeEntries). record { first = k.first; entries = with_choice k.entries next f by })
    c.cut-from.ensures.cut in
    let new : ProgressLists = record {
      query = s.query.now;
      at = s.at;
      sub = s.sub;
      not_sup = s.not_sup;
      first = c.put_alternative.new.tree.first;
      entries = c.put_alternative.new.tree.entries;
      found_blocks = c.keep_blocks.new.found_blocks;
      trace = s.trace;
      marks = reverse c.cut_marks-place.new.marks.items;
      clash = s.clash;
      steps = s.steps + 1;
      behind = s.behind;
    } in
    subst (λ (q : ProgressLists). HasMoved w q new) is
    (moves_at w old m ms t s.marks.items refl c.open_count-count.result c.cut_marks-place.result
    c.open_count-count.ensures c.cut_marks-place.ensures.latest c.choice_at-choice.result c.choice_at-choice.ensures
    c.facts_stay_grounded.ensures c.alternatives_speak_of_nodes.ensures f c.alternative_after-fact.ensures by refl new
    (record {
      query = refl;
      at = refl;
      sub = refl;
      not_sup = refl;
      first = ap (λ (k : TreeEntries). k.first) put;
      entries_are =
          ap (λ (k : TreeEntries). k.entries) put
          ∙ ap (λ (d : Choice). with_choice (take at s.tree.entries) d f by) c.at_next-next.ensures;
      trace_is = refl;
      marks_are = ap reverse c.cut_marks-place.ensures.kept;
      counted = refl;
      behind = refl;
      blocks = c.keep_blocks.ensures.first;
    }))

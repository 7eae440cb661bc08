use Rattle.std.proofs.Common.{◌≡◌, ◌∙◌, ap, sym, subst, false}
use Rattle.search_trace.specs.RuleLine.{line_of}
use Rattle.search_trace.specs.declared.opens.Back.{Back}
use Rattle.search_trace.specs.Trace.{with_line, answer_of, is_turn}
use Rattle.search_state.specs.Turning.{HasGoneBack}
use Rattle.search_state.specs.Backing.{closed_trace}
use Rattle.search_state.specs.Progress.{ProgressLists}
use Rattle.search_state.proofs.Nexts.{same_turn, closing_is_closed}
use Rattle.search_state.proofs.progress.Progress.close_all.Goals as goal

pub unreachable-requires : goal.unreachable-requires
unreachable-requires g c =
    let t = c.args.self.now.trace in
    let u = c.args.resting.marks in
    let line = line_of c.args.resting.line in
    let no : is_turn (answer_of (with_line t line u) u) ≡ false = sym (same_turn t line u) ∙ c.requires.closes in
    let back : c.in_ok-close_child.field-0 ≡ answer_of (with_line t line u) u = c.in_ok-close_child.ensures.answer in
    absurd (cc (sym (ap is_turn c.in-Turned.is) ∙ ap is_turn back ∙ no))

pub returns : goal.returns
returns g c =
    let w = g.R.Rules.context c.args.rules.now in
    let old = c.args.self.now in
    let new = c.close_child.new.self in
    let trace : new ≡ record old { trace = closed_trace old.trace (line_of c.args.resting.line) c.args.resting.marks } =
    c.in_ok-close_child.ensures.trace in
    let same : new ≡ record old { trace = new.trace } =
    trace ∙ ap (λ t. record old { trace = t }) (sym (ap (λ (q : ProgressLists). q.trace) trace)) in
    closing_is_closed w old new same
    (subst (λ (b : Back). HasGoneBack w new b) c.in-Closed.is c.in_ok-close_child.ensures.gone_back)

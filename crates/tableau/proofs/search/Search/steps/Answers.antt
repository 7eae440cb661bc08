use Rattle.std.proofs.Common.{subst}
use Rattle.tableau.specs.SearchState.{SearchState, question_of, context_of, trail_of}
use Rattle.tableau.specs.Inside.{IsKept}
use Rattle.tableau.proofs.search.Search.steps.Goals as goal

pub returns-clause-few_steps : goal.returns-clause-few_steps
returns-clause-few_steps g c = λ whole.
    let s = c.args.self.now in
    let kept = subst (λ (t : SearchState). IsKept t c.self.inside.progress) c.self.view_is c.self.invariant in
    record {
      few =
          λ cs facts is has first. c.few_steps_without_going_back.ensures (question_of s) cs facts s.rules.table
          (context_of s).rows s.steps (trail_of s) is has (kept.reached whole) first;
    }

pub returns-clause-few_marks : goal.returns-clause-few_marks
returns-clause-few_marks g c = λ whole.
    let s = c.args.self.now in
    let kept = subst (λ (t : SearchState). IsKept t c.self.inside.progress) c.self.view_is c.self.invariant in
    record {
      few =
          λ cs is. c.few_marks.ensures (question_of s) cs s.rules.table (context_of s).rows s.steps (trail_of s) is
          (kept.reached whole);
    }

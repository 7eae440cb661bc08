use Rattle.std.proofs.Common.{Option, subst}
use Rattle.std.specs.Prelude.{is_some}
use Rattle.refutation_rules.specs.RuleLine.{line_of}
use Rattle.refutation_rules.specs.declared.outcome.Outcome.{Outcome}
use Rattle.refutation_check.specs.Open.{branches}
use Rattle.refutation_check.specs.Steps.{left_by_line, IsLeft, IsLeftIf}
use Rattle.refutation_check.proofs.Steps.{all_stay}
use Rattle.refutation_check.proofs.needed.follow.Goals as goal

pub returns-in_ok-note-in-Some : goal.returns-in_ok-note-in-Some
returns-in_ok-note-in-Some c =
    let f = c.args.rules.now in
    let o = c.args.stack.now in
    let line = line_of c.args.line.now in
    let g = c.advance.new.rules in
    let p = c.advance.new.stack in
    let left : IsLeft (left_by_line f o line) g p =
    subst (λ (out : Option Outcome). IsLeftIf (is_some out) (left_by_line f o line) g p) c.in-Some.is
    c.in_ok-outcome.ensures.left in
    all_stay g.table c.note.new.rules.table (branches p) c.note.ensures left.listed

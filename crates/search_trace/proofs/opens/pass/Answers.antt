use Rattle.std.proofs.Common.{◌≡◌, List, subst, sym, ◌∙◌}
use Rattle.std.proofs.lemmas.Result.{IfOk-weaker}
use Rattle.search_trace.specs.declared.lines.TraceLine.{TraceLine}
use Rattle.search_trace.specs.Trace.{whole_marks}
use Rattle.search_trace.specs.Going.{Passes, whole, out}
use Rattle.search_trace.proofs.opens.pass.Goals as goal

pub returns-then-has-clause-passes : goal.returns-then-has-clause-passes
returns-then-has-clause-passes c =
    let o = c.args.latest.now in
    let u = c.args.used in
    let ls = c.args.lines.now.items in
    let has = sym c.has.ensures ∙ c.if-has.true in
    let to : Passes o ls u ls (whole_marks o u) = whole has (c.requires.passes has) in
    IfOk-weaker c.marks_of_whole.result (λ v. v ≡ whole_marks o u) (Passes o ls u ls)
    (λ v is. subst (Passes o ls u ls) (sym is) to) c.marks_of_whole.ensures

pub returns-else-has-clause-passes : goal.returns-else-has-clause-passes
returns-else-has-clause-passes c =
    let o = c.args.latest.now in
    let u = c.args.used in
    let has_not = sym c.has.ensures ∙ c.if-has.false in
    subst (λ (ls : List TraceLine). Passes o c.args.lines.now.items u ls u) (sym c.take_out.ensures) (out has_not)

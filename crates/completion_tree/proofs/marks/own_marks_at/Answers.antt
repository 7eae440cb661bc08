use Rattle.std.proofs.Common.{◌≡◌, true, List, ℕ, get_or, subst, sym, ap, ◌∙◌}
use Rattle.calculus_specs.specs.declared.facts.Fact.{Fact}
use Rattle.calculus_specs.specs.declared.facts.Fact.TheVariants.{Has}
use Rattle.calculus_specs.specs.Joins.{rep}
use Rattle.fact_tree.specs.Told.{gives}
use Rattle.completion_tree.specs.Trail.{facts_in}
use Rattle.completion_tree.proofs.Resting.{own-within, at_place}
use Rattle.completion_tree.proofs.marks.own_marks_at.Goals as goal

pub returns : goal.returns
returns g c =
    let es = c.args.trail.now in
    let q = c.args.asked in
    let i = c.args.index in
    let same = c.requires.same in
    let says : gives (rep (facts_in es)) q (get_or (facts_in es) i (Has 0 0)) ≡ true =
    subst (λ (fs : List (Fact ℕ)). gives (rep fs) q (get_or fs i (Has 0 0)) ≡ true) same c.requires.ground.1 in
    let own : c.fact.result ≡ q = c.are_one.ensures c.if-not-are_one.false in
    let is : get_or (facts_in es) i (Has 0 0) ≡ q =
    ap (λ (fs : List (Fact ℕ)). get_or fs i (Has 0 0)) (sym same)
    ∙ at_place c.args.facts.now.facts i c.fact.result (Has 0 0) c.fact.ensures ∙ own in
    own-within (rep (facts_in es)) q es i c.in_ok-marks.marks says is c.in_ok-marks.ensures

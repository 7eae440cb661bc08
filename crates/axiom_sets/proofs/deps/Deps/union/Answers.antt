use Rattle.std.proofs.Common.{◌≡◌, List, ℕ, sym, ap, ◌∙◌}
use Rattle.std.specs.FinSet as set
use Rattle.axiom_sets.specs.Marks.{marks_set}
use Rattle.axiom_sets.proofs.DependencyListed.{if_ok_same, union_part, union_whole, union-marks}
use Rattle.axiom_sets.proofs.deps.Deps.union.Goals as goal

pub returns-then-is_part : goal.returns-then-is_part
returns-then-is_part c =
    let here = c.args.self.now in
    let there = c.args.other.now in
    let mine = c.marks-2.ensures.members in
    if_ok_same c.try_clone.result here (set.union here there)
    (sym mine ∙ union_part c.marks-2.result.now c.marks.result.now (sym c.is_part.ensures ∙ c.if-is_part.true)
    ∙ (λ i. set.union (mine i) (c.marks.ensures.members i)))
    c.try_clone.ensures

pub returns-then-is_part-2 : goal.returns-then-is_part-2
returns-then-is_part-2 c =
    let here = c.args.self.now in
    let there = c.args.other.now in
    let other = c.marks-4.ensures.members in
    if_ok_same c.try_clone-then-is_part-2.result there (set.union here there)
    (sym other ∙ union_whole c.marks-3.result.now c.marks-4.result.now (sym c.is_part-2.ensures ∙ c.if-is_part-2.true)
    ∙ (λ i. set.union (c.marks-3.ensures.members i) (other i)))
    c.try_clone-then-is_part-2.ensures

pub returns : goal.returns
returns c =
    let is : c.in_ok-new.field-0.value.items ≡ c.in_ok-marks.marks.items = λ i. (c.in_ok-new.ensures.ok i).items in
    ap marks_set is
    ∙ union-marks c.marks-5.result.now c.marks-6.result.now c.in_ok-marks.marks.items c.in_ok-marks.ensures.members
    ∙ (λ i. set.union (c.marks-5.ensures.members i) (c.marks-6.ensures.members i))

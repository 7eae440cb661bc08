use Rattle.std.proofs.Common.{◌≡◌, true, sym, ap, ◌∙◌, [], ◌∷◌}
use Rattle.std.specs.FinSet as set
use Rattle.calculus_specs.specs.Joins.{rep}
use Rattle.completion_tree.specs.Marks.{is_join, AreWithin}
use Rattle.completion_tree.proofs.Resting.{if_ok_by, part_itself, part_left, part_right, single}
use Rattle.completion_tree.proofs.marks.with_join.Goals as goal

pub returns-then-not-is_join_of-clause-more : goal.returns-then-not-is_join_of-clause-more
returns-then-not-is_join_of-clause-more g c = part_itself c.args.used

pub returns-clause-more : goal.returns-clause-more
returns-clause-more g c =
    let used = c.args.used in
    let marks = c.in_ok-marks.marks in
    if_ok_by c.union.result (λ u. u ≡ set.union used marks) (λ u. set.is_subset used u ≡ true)
    (λ u is. ap (set.is_subset used) is ∙ part_left used marks) c.union.ensures

pub returns-clause-joins : goal.returns-clause-joins
returns-clause-joins g c =
    let used = c.args.used in
    let marks = c.in_ok-marks.marks in
    let p = is_join (rep c.args.facts.now.facts) c.args.first c.args.second in
    let e = c.args.entry.now in
    if_ok_by c.union.result (λ u. u ≡ set.union used marks) (λ u. AreWithin p u (e ∷ []))
    (λ u is. single p u e (λ _. (λ i. set.is_subset (sym c.in_ok-marks.ensures i) (is i)) ∙ part_right used marks))
    c.union.ensures

use Rattle.std.proofs.Common.{ℕ, List, ◌++◌, sym, ap, subst, ◌∙◌}
use Rattle.std.specs.Prelude.{nat_eq}
use Rattle.std.specs.List.Sorted.{IsStrictlyIncreasing}
use Rattle.std.proofs.lemmas.List.Filters.{dedup_is}
use Rattle.std.proofs.lemmas.Map.Keys.{IsStrictlyIncreasing-dedup}
use Rattle.axiom_sets.proofs.DependencyListed.{united-marks}
use Rattle.axiom_sets.proofs.deps.united.Goals as goal

pub returns-clause-members : goal.returns-clause-members
returns-clause-members c =
    let xs = c.args.marks.now in
    let ys = c.args.others.now in
    let whole =
    c.in_ok-extend_from_slice-2.ensures.items
    ∙ ap (λ (us : List ℕ). us ++ ys)
    (c.in_ok-extend_from_slice.ensures.items ∙ ap (λ (us : List ℕ). us ++ xs) c.in_ok-all.ensures.items) in
    united-marks xs ys c.extend_from_slice-2.new.self.items c.sort_unstable.new.self.items c.dedup.new.self.items whole
    c.sort_unstable.ensures.permutation
    (dedup_is nat_eq c.sort_unstable.new.self.items c.dedup.new.self.items c.dedup.ensures.filtered)

pub returns-clause-ascending : goal.returns-clause-ascending
returns-clause-ascending c =
    subst IsStrictlyIncreasing
    (sym (dedup_is nat_eq c.sort_unstable.new.self.items c.dedup.new.self.items c.dedup.ensures.filtered))
    (IsStrictlyIncreasing-dedup c.sort_unstable.new.self.items c.sort_unstable.ensures.sorted)

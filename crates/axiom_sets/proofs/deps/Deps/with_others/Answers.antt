use Rattle.std.proofs.Common.{ℕ, ◌≡◌, List, not, sym, ap, subst, ◌∙◌}
use Rattle.std.specs.Prelude.{◌==◌, filter}
use Rattle.std.specs.FinSet as set
use Rattle.std.specs.List.Sorted.{IsStrictlyIncreasing}
use Rattle.std.proofs.lemmas.List.Kept.{IsStrictlyIncreasing-filter}
use Rattle.lane_sieve.specs.Sets.{NumberSet}
use Rattle.axiom_sets.specs.Marks.{marks_set}
use Rattle.axiom_sets.proofs.DependencyListed.{remove-marks}
use Rattle.axiom_sets.proofs.deps.Deps.with_others.Goals as goal

pub invariant_of-result : goal.invariant_of-result
invariant_of-result c =
    let is : c.in_ok-new.field-0.value.items ≡ filter (λ m. not (m == c.args.mark)) c.marks.result.now =
    (λ i. (c.in_ok-new.ensures.ok i).items) ∙ c.in_ok-marks.ensures in
    subst IsStrictlyIncreasing (sym is)
    (IsStrictlyIncreasing-filter (λ m. not (m == c.args.mark)) c.marks.result.now c.marks.ensures.ascending)

pub returns : goal.returns
returns c =
    let is : c.in_ok-new.field-0.value.items ≡ filter (λ m. not (m == c.args.mark)) c.marks.result.now =
    (λ i. (c.in_ok-new.ensures.ok i).items) ∙ c.in_ok-marks.ensures in
    ap marks_set is ∙ remove-marks c.marks.result.now c.args.mark
    ∙ ap (λ (s : NumberSet). set.remove s c.args.mark) c.marks.ensures.members

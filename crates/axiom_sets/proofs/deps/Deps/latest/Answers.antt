use Rattle.std.proofs.Common.{◌≡◌, ℕ, ◌-◌, ◌<◌, length, get_or, ◌∙◌, ap, sym, refl, arith, inl, inr}
use Rattle.std.specs.Ordering.{nat_cmp}
use Rattle.std.specs.FinSet as set
use Rattle.std.proofs.lemmas.Bool.{false≢true, eqb-true, eq-eqb, cases_eq}
use Rattle.std.proofs.lemmas.List.{nil_from_length}
use Rattle.lane_sieve.specs.Sets.{NumberSet}
use Rattle.axiom_sets.specs.Marks.{marks_set}
use Rattle.axiom_sets.proofs.DependencyListed.{contains-marks, marks-nil, mark_at, beyond_last}
use Rattle.axiom_sets.proofs.deps.Deps.latest.Goals as goal

pub returns-then-is_empty-clause-none : goal.returns-then-is_empty-clause-none
returns-then-is_empty-clause-none c =
    let marks = c.marks-marks.result.now in
    let empty : length marks ≡ 0 = eqb-true (length marks) 0 (sym c.if-is_empty.ensures) in
    (λ _. sym c.marks-marks.ensures.members ∙ ap marks_set (nil_from_length marks empty) ∙ marks-nil, λ _. refl)

pub returns-clause-none : goal.returns-clause-none
returns-clause-none c =
    let marks = c.marks-marks.result.now in
    let n = get_or marks (length marks - 1) 0 in
    let some : 0 < length marks = elim (cases_eq (length marks) 0) [
      | inl e ↦ absurd (false≢true (c.if-is_empty.ensures ∙ eq-eqb (length marks) 0 e))
      | inr other ↦ omega (arith, other)
    ] in
    let member : set.contains (marks_set marks) n ≡ _ =
    contains-marks marks n ∙ mark_at marks (length marks - 1) n (omega (arith, some)) refl in (
      λ e. absurd (false≢true (sym e)),
      λ e. absurd
          (false≢true
          (sym (set.contains-empty nat_cmp n)
          ∙ ap (λ (s : NumberSet). set.contains s n) (sym e ∙ sym c.marks-marks.ensures.members) ∙ member)),
    )

pub returns-clause-greatest : goal.returns-clause-greatest
returns-clause-greatest c =
    let marks = c.marks-marks.result.now in
    let n = get_or marks (length marks - 1) 0 in
    let some : 0 < length marks = elim (cases_eq (length marks) 0) [
      | inl e ↦ absurd (false≢true (c.if-is_empty.ensures ∙ eq-eqb (length marks) 0 e))
      | inr other ↦ omega (arith, other)
    ] in
    record {
      member =
          ap (λ (s : NumberSet). set.contains s n) (sym c.marks-marks.ensures.members) ∙ contains-marks marks n
          ∙ mark_at marks (length marks - 1) n (omega (arith, some)) refl;
      bound =
          λ j lt. ap (λ (s : NumberSet). set.contains s j) (sym c.marks-marks.ensures.members) ∙ contains-marks marks j
          ∙ beyond_last marks n j c.marks-marks.ensures.ascending some refl lt;
    }

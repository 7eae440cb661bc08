use Rattle.std.proofs.Common.{◌≡◌, ◌||◌, ap, sym, subst, ◌∙◌, arith}
use Rattle.std.specs.Prelude.{nat_eq}
use Rattle.shq_terms.specs.Concept.{Concept, some_of, at_least, exactly, parts_of}
use Rattle.shq_terms.specs.Depth.{depth}
use Rattle.shq_terms.proofs.Depth.{depth_at}
use Rattle.shq_terms.specs.Node.{tree}
use Rattle.shq_meaning.specs.Truth.{holds, hold_all}
use Rattle.finite_model.specs.ModelLists.{meaning, begins}
use Rattle.finite_model.specs.Next.{IsNext}
use Rattle.finite_model.proofs.Candidates.{next_weaker, no_more_of_all, more_of_all, more_of_parts}
use Rattle.finite_model.proofs.Empty.{some_of_none, fails_at_least, fails_exactly}
use Rattle.finite_model.proofs.interp.Interp.+candidates.Goals as goal

pub next_candidate-returns-in-SomeOf : goal.next_candidate-returns-in-SomeOf
next_candidate-returns-in-SomeOf t c =
    let k = c.args.self.now in
    let r = c.in-SomeOf.role in
    let filler = c.in-SomeOf.field-1.value in
    let is : some_of r filler ≡ c.args.concept.now = sym (ap tree c.in-SomeOf.is) ∙ c.concept.view_is in
    subst (λ (d : Concept). IsNext k.size c.args.from (holds (meaning k) d) c.next_beginning.result) is
    (next_weaker k.size c.args.from (begins k r) (holds (meaning k) (some_of r filler))
    (λ x none. some_of_none k r x none filler) c.next_beginning.result c.next_beginning.ensures)

pub next_candidate-returns-in-Min : goal.next_candidate-returns-in-Min
next_candidate-returns-in-Min t c =
    let k = c.args.self.now in
    let n = c.in-Min.count in
    let r = c.in-Min.role in
    let filler = c.in-Min.field-2.value in
    let is : at_least n r filler ≡ c.args.concept.now = sym (ap tree c.in-Min.is) ∙ c.concept.view_is in
    subst (λ (d : Concept). IsNext k.size c.args.from (holds (meaning k) d) c.next_counted.result) is
    (next_weaker k.size c.args.from (λ x. nat_eq n 0 || begins k r x) (holds (meaning k) (at_least n r filler))
    (λ x none. fails_at_least k n r x filler none) c.next_counted.result c.next_counted.ensures)

pub next_candidate-returns-in-Exact : goal.next_candidate-returns-in-Exact
next_candidate-returns-in-Exact t c =
    let k = c.args.self.now in
    let n = c.in-Exact.count in
    let r = c.in-Exact.role in
    let filler = c.in-Exact.field-2.value in
    let is : exactly n r filler ≡ c.args.concept.now = sym (ap tree c.in-Exact.is) ∙ c.concept.view_is in
    subst (λ (d : Concept). IsNext k.size c.args.from (holds (meaning k) d) c.next_counted-in-Exact.result) is
    (next_weaker k.size c.args.from (λ x. nat_eq n 0 || begins k r x) (holds (meaning k) (exactly n r filler))
    (λ x none. fails_exactly k n r x filler none) c.next_counted-in-Exact.result c.next_counted-in-Exact.ensures)

pub next_in_all-next_candidate-requires : goal.next_in_all-next_candidate-requires
next_in_all-next_candidate-requires t c = (
  omega (
    arith,
    c.decreases,
    ap depth c.part-item.is,
    depth_at c.args.parts.now c.loop-part.part-index c.part-item.result c.loop-part-test.true,
  ),
  tt,
)

pub next_in_all-returns-in_err-next-2 : goal.next_in_all-returns-in_err-next-2
next_in_all-returns-in_err-next-2 t c =
    let k = c.args.self.now in
    subst (IsNext k.size c.args.from (hold_all (meaning k) (parts_of c.args.parts.now)))
    (sym c.from_residual-in_err-next-2.ensures)
    (no_more_of_all (meaning k) k.size c.args.from c.loop-part.next c.args.parts.now c.loop-part.part-index
    c.part-item.result c.loop-part-test.true c.part-item.is c.loop-part.invariant
    (subst (IsNext k.size c.loop-part.next (holds (meaning k) c.part-item.result)) c.in_err-next-2.was
    c.next_candidate.ensures))

pub next_in_all-loop-part-preserved : goal.next_in_all-loop-part-preserved
next_in_all-loop-part-preserved t c =
    let k = c.args.self.now in
    more_of_all (meaning k) k.size c.args.from c.loop-part.next c.args.parts.now c.loop-part.part-index
    c.part-item.result c.loop-part-test.true c.part-item.is c.loop-part.invariant c.in_ok-next-2.next
    (subst (IsNext k.size c.loop-part.next (holds (meaning k) c.part-item.result)) c.in_ok-next-2.was
    c.next_candidate.ensures)

pub next_in_any-next_candidate-requires : goal.next_in_any-next_candidate-requires
next_in_any-next_candidate-requires t c = (
  omega (
    arith,
    c.decreases,
    ap depth c.part-item.is,
    depth_at c.args.parts.now c.loop-part.part-index c.part-item.result c.loop-part-test.true,
  ),
  tt,
)

pub next_in_any-loop-part-preserved : goal.next_in_any-loop-part-preserved
next_in_any-loop-part-preserved t c =
    let k = c.args.self.now in
    more_of_parts (meaning k) k.size c.args.from c.args.parts.now c.loop-part.part-index c.part-item.result
    c.loop-part-test.true c.part-item.is c.loop-part.next c.next_candidate.result c.least-next.result
    c.loop-part.invariant c.next_candidate.ensures c.least-next.ensures

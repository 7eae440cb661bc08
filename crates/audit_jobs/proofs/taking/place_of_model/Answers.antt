use Rattle.std.proofs.Common.{◌≡◌, ℕ, get_or, sym, ◌∙◌, ap, arith, inl, inr}
use Rattle.std.proofs.lemmas.Bool.{true≢false, cases_eq}
use Rattle.std.proofs.lemmas.List.{get_or_default}
use Rattle.audit_jobs.specs.declared.evidence.CounterModel.{CounterModel}
use Rattle.audit_jobs.proofs.TakenOut.{none_has}
use Rattle.audit_jobs.proofs.taking.place_of_model.Goals as goal

pub returns-then-eq-clause-is : goal.returns-then-eq-clause-is
returns-then-eq-clause-is c d =
    let xs = c.args.models.now in
    let p = c.loop-place.place in
    let here : get_or xs p d ≡ get_or xs p c.index-models-place.result =
    get_or_default xs p d c.index-models-place.result c.loop-place-test.true in
    ap (λ (x : CounterModel). x.set) here ∙ c.eq.ensures.same.0 c.if-eq.true

pub loop-place-preserved : goal.loop-place-preserved
loop-place-preserved c k d low is =
    let xs = c.args.models.now in
    let p = c.loop-place.place in
    elim (cases_eq k p) [
      | inl e ↦
          let here : get_or xs k d ≡ get_or xs p c.index-models-place.result =
          ap (λ (n : ℕ). get_or xs n d) e ∙ get_or_default xs p d c.index-models-place.result c.loop-place-test.true in
          true≢false (sym (c.eq.ensures.same.1 (ap (λ (x : CounterModel). x.set) (sym here) ∙ is)) ∙ c.if-eq.false)
      | inr ne ↦ c.loop-place.invariant k d (omega (arith, low, ne)) is
    ]

pub unreachable-requires : goal.unreachable-requires
unreachable-requires c =
    let has = c.requires in
    none_has (λ (x : CounterModel). x.set) c.args.set.now c.args.models.now c.loop-place.place
    (omega (arith, c.loop-place-test.false)) c.loop-place.invariant has.0 has.1 has.2

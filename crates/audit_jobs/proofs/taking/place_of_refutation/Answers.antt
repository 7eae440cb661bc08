use Rattle.std.proofs.Common.{◌≡◌, ℕ, ◌<◌, length, get_or, sym, ◌∙◌, ap, arith, inl, inr}
use Rattle.std.proofs.lemmas.Bool.{true≢false, cases_eq}
use Rattle.std.proofs.lemmas.List.{get_or_default}
use Rattle.refutation_tree.specs.RefutationLists.{RefutationLists}
use Rattle.audit_jobs.proofs.TakenOut.{none_has}
use Rattle.audit_jobs.proofs.taking.place_of_refutation.Goals as goal

pub returns-then-eq-clause-is : goal.returns-then-eq-clause-is
returns-then-eq-clause-is c d =
    let xs = c.args.refutations.now in
    let lt : c.loop-place.place < length xs = c.loop-place-test.true in
    let here : c.index-refutations-place.result ≡ get_or xs c.loop-place.place d =
    c.index-refutations-place.is ∙ get_or_default xs c.loop-place.place c.index-refutations-place.result d lt in
    ap (λ (x : RefutationLists). x.axioms) (sym here) ∙ sym c.axioms_used.ensures ∙ c.eq.ensures.same.0 c.if-eq.true

pub loop-place-preserved : goal.loop-place-preserved
loop-place-preserved c k d low is =
    let xs = c.args.refutations.now in
    elim (cases_eq k c.loop-place.place) [
      | inl e ↦
          let lt : c.loop-place.place < length xs = c.loop-place-test.true in
          let here : get_or xs k d ≡ c.index-refutations-place.result =
          ap (λ (n : ℕ). get_or xs n d) e ∙ get_or_default xs c.loop-place.place d c.index-refutations-place.result lt
          ∙ sym c.index-refutations-place.is in
          true≢false
          (sym (c.eq.ensures.same.1 (c.axioms_used.ensures ∙ ap (λ (x : RefutationLists). x.axioms) (sym here) ∙ is))
          ∙ c.if-eq.false)
      | inr ne ↦ c.loop-place.invariant k d (omega (arith, low, ne)) is
    ]

pub unreachable-requires : goal.unreachable-requires
unreachable-requires c =
    let has = c.requires in
    none_has (λ (x : RefutationLists). x.axioms) c.args.axioms.now c.args.refutations.now c.loop-place.place
    (omega (arith, c.loop-place-test.false)) c.loop-place.invariant has.0 has.1 has.2

use Rattle.std.proofs.Common.{◌≡◌, ◌∙◌, ℕ, get_or, set, sym, ap, inl, inr, arith}
use Rattle.std.specs.Prelude.{bit_and}
use Rattle.std.specs.Int.{bit_not, w64}
use Rattle.std.specs.Int.Bits.{and_zero_l}
use Rattle.std.proofs.lemmas.Bool.{cases_eq, cases_lt}
use Rattle.std.proofs.lemmas.List.{get_or_past, get_or-set_same, get_or-set_other}
use Rattle.lane_sieve.proofs.Kernels.{number_set-difference}
use Rattle.lane_sieve.proofs.pairs.subtract.Goals as goal

pub loop-place-preserved : goal.loop-place-preserved
loop-place-preserved c =
    let xs = c.loop-place.xs in
    let p = c.loop-place.place in
    let v = bit_and (get_or xs p 0) (bit_not w64 (get_or c.args.ys.now p 0)) in
    record {
      done = λ k lt. elim (cases_eq k p) [
        | inl e ↦
            ap (λ (j : ℕ). get_or (set xs p v) j 0) e ∙ get_or-set_same xs p v 0 (omega arith)
            ∙ ap (λ (x : ℕ). bit_and x (bit_not w64 (get_or c.args.ys.now p 0)))
            (c.loop-place.invariant.ahead p (omega arith))
            ∙ ap (λ (j : ℕ). bit_and (get_or c.args.xs.now j 0) (bit_not w64 (get_or c.args.ys.now j 0))) (sym e)
        | inr ne ↦ get_or-set_other xs p k v 0 ne ∙ c.loop-place.invariant.done k (omega arith)
      ];
      ahead =
          λ k le. get_or-set_other xs p k v 0 (λ e. absurd (omega (arith, e)))
          ∙ c.loop-place.invariant.ahead k (omega arith);
    }

pub returns : goal.returns
returns c =
    let xs = c.args.xs.now in
    let ys = c.args.ys.now in
    number_set-difference c.loop-place.xs xs ys (λ i. (c.type_inv.ys i).fits)
    (λ i. elim (cases_lt i c.loop-place.place) [
      | inl lt ↦ c.loop-place.invariant.done i lt
      | inr ge ↦
          let past : get_or xs i 0 ≡ 0 = get_or_past xs i 0 (omega (arith, c.loop-place-test.false)) in
          c.loop-place.invariant.ahead i ge ∙ past
          ∙ sym
          (ap (λ (x : ℕ). bit_and x (bit_not w64 (get_or ys i 0))) past ∙ and_zero_l (bit_not w64 (get_or ys i 0)))
    ])

use Rattle.std.proofs.Common.{◌≡◌, ◌+◌, ◌++◌, ◌∷◌, [], List, ℕ, ap, sym, subst, ◌∙◌, ◌-◌, length, arith, drop, get_or}
use Rattle.std.proofs.lemmas.List.{length-drop, take_all}
use Rattle.row_cache.proofs.Places.{IsWalked, walked_place, walked_other}
use Rattle.row_cache.proofs.cached_row.others.Goals as goal
use Rattle.row_cache.proofs.cached_row.others.Goals.{then-begins_with, else-begins_with+in_ok-push}

pub loop-index-preserved : goal.loop-index-preserved
loop-index-preserved c =
    let ps = c.args.positions.now in
    let cs = c.args.conjuncts.now in
    let i = c.loop-index.index in
    let ns = c.loop-index.numbers.items in
    let rest = c.loop-index.rest.now in
    let lt = c.loop-index-test.true in
    let before : IsWalked ps cs ns rest i = record {
      same = c.loop-index.invariant.same;
      ascending = c.loop-index.invariant.ascending;
      low = c.loop-index.invariant.low;
    } in
    let after : IsWalked ps cs c.if-begins_with.numbers.items c.if-begins_with.rest.now (i + 1) =
    elim c.if-begins_with.branch [
      | then-begins_with w ↦
          let left : c.if-begins_with.rest.now ≡ drop 1 rest =
          ap (λ r. r.now) w.rest-is ∙ take_all (length rest - 1) (drop 1 rest) (omega (arith, length-drop 1 rest)) in
          let put : c.if-begins_with.numbers.items ≡ ns = ap (λ v. v.items) w.numbers-is in
          subst (λ (l : List ℕ). IsWalked ps cs l c.if-begins_with.rest.now (i + 1)) (sym put)
          (subst (λ (l : List ℕ). IsWalked ps cs ns l (i + 1)) (sym left)
          (walked_place ps cs ns rest i lt before (sym w.if-begins_with.true ∙ c.begins_with.ensures.is_first)))
      | else-begins_with+in_ok-push w ↦
          let left : c.if-begins_with.rest.now ≡ rest = ap (λ r. r.now) w.rest-is in
          let put : c.if-begins_with.numbers.items ≡ ns ++ get_or cs i 0 ∷ [] =
          ap (λ v. v.items) w.numbers-is ∙ w.in_ok-push.ensures.items in
          subst (λ (l : List ℕ). IsWalked ps cs l c.if-begins_with.rest.now (i + 1)) (sym put)
          (subst (λ (l : List ℕ). IsWalked ps cs (ns ++ get_or cs i 0 ∷ []) l (i + 1)) (sym left)
          (walked_other ps cs ns rest i lt before (sym w.if-begins_with.false ∙ c.begins_with.ensures.is_first)))
    ] in
    record { same = after.same; ascending = after.ascending; low = after.low }

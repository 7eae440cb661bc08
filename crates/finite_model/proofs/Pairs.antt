-- One pair more of a line.
use Rattle.std.proofs.Common.{◌≡◌, ℕ, ◌+◌, ◌<◌, suc, List, [], ◌∷◌, ◌++◌, length, map, drop, get_or, Option, Some, None}
use Rattle.std.proofs.Common.{option_map, refl, ap, append_assoc, add-one, drop-cons}
use denote.Ref.{Bor}
use Rattle.finite_model.specs.ModelText.{pair_from, pairs_from}
use Rattle.finite_model.specs.declared.reading.Pair.{Pair}

abbrev next : Pair → Pair
next p = record { from = p.from; to = p.to + 1 }

later : (told : List Pair) (p : Pair) (more : Option (List Pair))
    → option_map (λ ps. (told ++ p ∷ []) ++ ps) more ≡ option_map (λ ps. told ++ ps) (option_map (λ ps. p ∷ ps) more)
later told p None = refl
later told p (Some ps) = ap Some (append_assoc told (p ∷ []) ps)

step : (told : List Pair) (size : ℕ) (ws : List (List ℕ)) (p : Pair) (read : Option Pair) → read ≡ Some p
    → option_map (λ ps. (told ++ p ∷ []) ++ ps) (pairs_from (next p) size ws)
    ≡ option_map (λ ps. told ++ ps)
    (elim read [ None ↦ None | Some q ↦ option_map (λ ps. q ∷ ps) (pairs_from (next q) size ws) ])
step told size ws p read is = rw is (later told p (pairs_from (next p) size ws))

pub pairs_more : (told : List Pair) (low : Pair) (size : ℕ) (words : List (Bor (List ℕ))) (i : ℕ) (w : Bor (List ℕ))
    (p : Pair)
    → i < length words → pair_from low size (get_or words i w).now ≡ Some p
    → option_map (λ ps. (told ++ p ∷ []) ++ ps) (pairs_from (next p) size (map (λ x. x.now) (drop (i + 1) words)))
    ≡ option_map (λ ps. told ++ ps) (pairs_from low size (map (λ x. x.now) (drop i words)))
pairs_more told low size words i w p h is =
    rw (add-one i, drop-cons words i w h)
    (step told size (map (λ x. x.now) (drop (suc i) words)) p (pair_from low size (get_or words i w).now) is)

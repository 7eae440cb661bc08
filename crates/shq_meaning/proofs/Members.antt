-- A test of all members of a list.
use Rattle.std.proofs.Common.{◌≡◌, suc, Bool, true, false, List, [], ◌∷◌, refl, ap, sym, ◌∙◌, arith}
use Rattle.std.specs.List.{list_all, Contains}
use Rattle.std.proofs.lemmas.List.Folds.{list_all_at}

-- each member of a list passes a test that all of it pass
pub member_passes : {A : Type 0} (p : A → Bool) (xs : List A) → list_all p xs ≡ true → (a : A) → Contains xs a
    → p a ≡ true
member_passes p xs all a (k, inside, is) = by (p a) refl
  where
    by : (b : Bool) → p a ≡ b → p a ≡ true
    by true passes = passes
    by false fails =
        let clash : true ≡ false = sym all ∙ list_all_at p xs k a inside (ap p is ∙ fails) in absurd (cc clash)

-- all of a list pass a test that each member passes
pub all_pass : {A : Type 0} (p : A → Bool) (xs : List A) → ((a : A) → Contains xs a → p a ≡ true) → list_all p xs ≡ true
all_pass p [] each = refl
all_pass p (x ∷ xs) each =
    let first : p x ≡ true = each x (0, omega arith, refl) in
    let rest : list_all p xs ≡ true = all_pass p xs (λ a (k, inside, is). each a (suc k, omega arith, is)) in
    rw (first, rest)

-- Expressions of a list whose names are listed.
use Rattle.std.proofs.Common.{◌≡◌, ℕ, ◌+◌, ◌<◌, List, ◌∷◌, length, get_or, drop, true, ap, sym, ◌∙◌, drop-cons, add-one}
use Rattle.std.proofs.lemmas.Bool.{and_parts}
use Rattle.shq_terms.specs.Concept.{Concept, parts_of}
use Rattle.shq_terms.specs.Uses.{uses_listed, parts_use_listed}

-- from a place on, the one there and those after it
pub listed_at : (m n : ℕ) (cs : List Concept) (i : ℕ) (c : Concept) → c ≡ get_or cs i c → i < length cs
    → parts_use_listed m n (parts_of (drop i cs)) ≡ true
    → (uses_listed m n c ≡ true) × (parts_use_listed m n (parts_of (drop (i + 1) cs)) ≡ true)
listed_at m n cs i c at inside all =
    let opened : drop i cs ≡ c ∷ drop (i + 1) cs =
    rw add-one (drop-cons cs i c inside) ∙ ap (λ d. d ∷ drop (i + 1) cs) (sym at) in
    and_parts (uses_listed m n c) (parts_use_listed m n (parts_of (drop (i + 1) cs)))
    (sym (ap (λ ds. parts_use_listed m n (parts_of ds)) opened) ∙ all)

-- Parts of labels, by what nodes have.
use Rattle.std.proofs.Common.{◌≡◌, ℕ, eqb, Bool, true, List, [], ◌∷◌, refl, ◌∙◌, sym, subst, eq-eqb, inl}
use Rattle.std.proofs.Common.{inr}
use Rattle.std.specs.List.{list_any, list_all}
use Rattle.std.proofs.lemmas.Bool.{eqb-true, or_cases, and_parts, and_from, or_left, or_right}
use Rattle.calculus_specs.specs.declared.facts.Fact.{Fact}
use Rattle.calculus_specs.specs.State.{has, label, is_label_part}
use Rattle.calculus_specs.proofs.State.{any-label}

-- all members pass where each one does
pub all_from : (p : ℕ → Bool) (cs : List ℕ) → ((c : ℕ) → list_any (λ d. eqb d c) cs ≡ true → p c ≡ true)
    → list_all p cs ≡ true
all_from p [] each = refl
all_from p (c ∷ cs) each =
    and_from (p c) (list_all p cs) (each c (or_left (eqb c c) (list_any (λ d. eqb d c) cs) (eq-eqb c c refl)))
    (all_from p cs (λ d h. each d (or_right (eqb c d) (list_any (λ e. eqb e d) cs) h)))

pub one_of : (p : ℕ → Bool) (cs : List ℕ) (c : ℕ) → list_all p cs ≡ true → list_any (λ d. eqb d c) cs ≡ true
    → p c ≡ true
one_of p [] c h m = cc
one_of p (d ∷ cs) c h m =
    let t = and_parts (p d) (list_all p cs) h in
    elim (or_cases (eqb d c) (list_any (λ e. eqb e c) cs) m) [
      | inl here ↦ subst (λ (e : ℕ). p e ≡ true) (eqb-true d c here) t.0
      | inr later ↦ one_of p cs c t.1 later
    ]

-- each concept of a label is had, and each that is had is one of the label
pub part_each : (fs : List (Fact ℕ)) (x z c : ℕ) → is_label_part fs x z ≡ true → has fs x c ≡ true → has fs z c ≡ true
part_each fs x z c part held = one_of (has fs z) (label fs x) c part (any-label fs x c ∙ held)

pub part_from : (fs : List (Fact ℕ)) (x z : ℕ) → ((c : ℕ) → has fs x c ≡ true → has fs z c ≡ true)
    → is_label_part fs x z ≡ true
part_from fs x z each = all_from (has fs z) (label fs x) (λ c m. each c (sym (any-label fs x c) ∙ m))

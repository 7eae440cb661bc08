-- Labels and nodes that are apart.
use Rattle.std.proofs.Common.{◌≡◌, ℕ, ◌&&◌, ◌||◌, List, [], ◌∷◌, Bool, true, false, eqb, cond, refl, ap, ◌∙◌, sym, inl}
use Rattle.std.proofs.Common.{inr, eq-eqb}
use Rattle.std.specs.List.{list_any}
use Rattle.std.proofs.lemmas.Bool.{eqb-true, cases_Bool}
use Rattle.std.proofs.Math.Bool.{or_comm}
use Rattle.calculus_specs.specs.declared.facts.Fact.{Fact}
use Rattle.calculus_specs.specs.declared.facts.Fact.TheVariants.{Has, Edge, Apart, Same}
use Rattle.calculus_specs.specs.Joins.{rep}
use Rattle.calculus_specs.specs.State.{concepts_at, gives_concept, has, label, gives_apart, are_apart}

-- ---- labels

any-concepts_at : (c : ℕ) (m : ℕ → ℕ) (at : ℕ) (fs : List (Fact ℕ))
    → list_any (λ d. eqb d c) (concepts_at m at fs) ≡ list_any (gives_concept (λ d. eqb d c) m at) fs
any-concepts_at c m at [] = refl
any-concepts_at c m at (Has y d ∷ fs) =
    elim (eqb (m y) at) as
    (λ b. list_any (λ e. eqb e c) (cond b (d ∷ concepts_at m at fs) (concepts_at m at fs))
    ≡ ((b && eqb d c) || list_any (gives_concept (λ e. eqb e c) m at) fs))
    [ true ↦ ap (λ (t : Bool). eqb d c || t) (any-concepts_at c m at fs) | false ↦ any-concepts_at c m at fs ]
any-concepts_at c m at (Edge r y z ∷ fs) = any-concepts_at c m at fs
any-concepts_at c m at (Apart y z ∷ fs) = any-concepts_at c m at fs
any-concepts_at c m at (Same y z ∷ fs) = any-concepts_at c m at fs

eqb_back : (m n : ℕ) → eqb m n ≡ true → eqb n m ≡ true
eqb_back m n h = eq-eqb n m (sym (eqb-true m n h))

pub eqb-comm : (m n : ℕ) → eqb m n ≡ eqb n m
eqb-comm m n = elim (cases_Bool (eqb m n)) [
  | inl h ↦ h ∙ sym (eqb_back m n h)
  | inr h ↦ elim (cases_Bool (eqb n m)) [ inl g ↦ (eqb_back n m g) ∙ sym g | inr g ↦ h ∙ sym g ]
]

pub any-label : (fs : List (Fact ℕ)) (x c : ℕ) → list_any (λ d. eqb d c) (label fs x) ≡ has fs x c
any-label fs x c = rw (eqb-comm 0 c, any-concepts_at c (rep fs) (rep fs x) fs) refl

-- ---- apart

gives_apart_back : {C : Type 0} (m : ℕ → ℕ) (a b : ℕ) (f : Fact C) → gives_apart m a b f ≡ gives_apart m b a f
gives_apart_back m a b (Apart y z) = or_comm (eqb (m y) a && eqb (m z) b) (eqb (m y) b && eqb (m z) a)
gives_apart_back m a b (Has y c) = refl
gives_apart_back m a b (Edge r y z) = refl
gives_apart_back m a b (Same y z) = refl

any_back : {C : Type 0} (m : ℕ → ℕ) (a b : ℕ) (fs : List (Fact C))
    → list_any (gives_apart m a b) fs ≡ list_any (gives_apart m b a) fs
any_back m a b [] = refl
any_back m a b (f ∷ fs) = rw (gives_apart_back m a b f, any_back m a b fs) refl

pub apart_back : {C : Type 0} (fs : List (Fact C)) (x y : ℕ) → are_apart fs x y ≡ are_apart fs y x
apart_back fs x y = any_back (rep fs) (rep fs x) (rep fs y) fs

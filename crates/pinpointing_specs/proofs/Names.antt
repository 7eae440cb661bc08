-- The names of a query and of the axioms in a set.
use Rattle.std.proofs.Common.{◌≡◌, ℕ, zero, suc, ◌+◌, true, List, [], ◌∷◌, ◌++◌, Some, refl, ap, sym, ◌∙◌, subst, arith}
use Rattle.std.proofs.Common.{inl, inr, eq-eqb}
use Rattle.std.specs.Prelude.{slice_get, ◌⊎◌}
use Rattle.std.specs.List.{list_all, flat_map, Contains}
use Rattle.std.specs.FinSet as set
use Rattle.std.proofs.lemmas.Bool.{eqb-true, or_left, or_right, or_cases}
use Rattle.std.proofs.lemmas.List.Folds.{list_any-append}
use Rattle.axiom_sets.specs.NumberSets.{NumberSet, IsPart}
use Rattle.shq_meaning.specs.Axiom.{Axiom}
use Rattle.shq_meaning.specs.Numbered.{Numbered}
use Rattle.shq_meaning.specs.Query.{Query}
use Rattle.shq_meaning.proofs.Members.{all_pass}
use Rattle.pinpointing_specs.specs.declared.module_laws.Name.{Name}
use Rattle.pinpointing_specs.specs.declared.module_laws.Name.TheVariants.{Class, Role}
use Rattle.pinpointing_specs.specs.Signature.{same_name, is_among, axiom_names, query_names}
use Rattle.pinpointing_specs.specs.LocalModule.{axioms_in_set, module_names}
use Rattle.pinpointing_specs.proofs.InSet.{in_set, to_set}

pub same_itself : (n : Name) → same_name n n ≡ true
same_itself (Class a) = eq-eqb a a refl
same_itself (Role r) = eq-eqb r r refl

pub same_is_equal : (m n : Name) → same_name m n ≡ true → m ≡ n
same_is_equal (Class a) (Class b) h = ap Class (eqb-true a b h)
same_is_equal (Class a) (Role s) h = absurd (cc h)
same_is_equal (Role r) (Class b) h = absurd (cc h)
same_is_equal (Role r) (Role s) h = ap Role (eqb-true r s h)

-- what stands in a list is among its names
pub listed_among : (ns : List Name) (n : Name) → Contains ns n → is_among ns n ≡ true
listed_among [] n (k, lt, is) = absurd (omega (arith, lt))
listed_among (m ∷ ms) n (zero, lt, is) = or_left (same_name n m) (is_among ms n) (ap (same_name n) is ∙ same_itself n)
listed_among (m ∷ ms) n (suc k, lt, is) =
    or_right (same_name n m) (is_among ms n) (listed_among ms n (k, omega (arith, lt), is))

pub among_left : (ms ns : List Name) (n : Name) → is_among ms n ≡ true → is_among (ms ++ ns) n ≡ true
among_left ms ns n h = list_any-append (same_name n) ms ns ∙ or_left (is_among ms n) (is_among ns n) h

pub among_right : (ms ns : List Name) (n : Name) → is_among ns n ≡ true → is_among (ms ++ ns) n ≡ true
among_right ms ns n h = list_any-append (same_name n) ms ns ∙ or_right (is_among ms n) (is_among ns n) h

pub among_cases : (ms ns : List Name) (n : Name) → is_among (ms ++ ns) n ≡ true
    → (is_among ms n ≡ true) ⊎ (is_among ns n ≡ true)
among_cases ms ns n h = or_cases (is_among ms n) (is_among ns n) (sym (list_any-append (same_name n) ms ns) ∙ h)

-- a name of an axiom is among the names of a list that has the axiom
pub of_axioms : (as_ : List Axiom) (a : Axiom) (n : Name) → Contains as_ a → is_among (axiom_names a) n ≡ true
    → is_among (flat_map axiom_names as_) n ≡ true
of_axioms [] a n (k, lt, is) h = absurd (omega (arith, lt))
of_axioms (b ∷ bs) a n (zero, lt, is) h =
    among_left (axiom_names b) (flat_map axiom_names bs) n
    (subst (λ (x : Axiom). is_among (axiom_names x) n ≡ true) (sym is) h)
of_axioms (b ∷ bs) a n (suc k, lt, is) h =
    among_right (axiom_names b) (flat_map axiom_names bs) n (of_axioms bs a n (k, omega (arith, lt), is) h)

-- an axiom of the list has the name
pub by_axiom : (as_ : List Axiom) (n : Name) → is_among (flat_map axiom_names as_) n ≡ true
    → (a : Axiom) × Contains as_ a × (is_among (axiom_names a) n ≡ true)
by_axiom [] n h = absurd (cc h)
by_axiom (b ∷ bs) n h =
    elim (among_cases (axiom_names b) (flat_map axiom_names bs) n h) [
      | inl here ↦ (b, (0, omega arith, refl), here)
      | inr rest ↦
          let found = by_axiom bs n rest in (found.0, (suc found.1.0, omega (arith, found.1.1), found.1.2), found.2)
    ]

-- the names of a larger set of axioms are more
pub more_names : (axioms : List Numbered) (q : Query) (s t : NumberSet) → IsPart s t → (n : Name)
    → is_among (module_names axioms q s) n ≡ true → is_among (module_names axioms q t) n ≡ true
more_names axioms q s t part n h =
    elim (among_cases (query_names q) (flat_map axiom_names (axioms_in_set s axioms)) n h) [
      | inl here ↦ among_left (query_names q) (flat_map axiom_names (axioms_in_set t axioms)) n here
      | inr rest ↦
          let found = by_axiom (axioms_in_set s axioms) n rest in
          let at = in_set s axioms found.0 found.1 in
          among_right (query_names q) (flat_map axiom_names (axioms_in_set t axioms)) n
          (of_axioms (axioms_in_set t axioms) found.0 n
          (subst (λ (x : Axiom). Contains (axioms_in_set t axioms) x) at.is
          (to_set t axioms at.place at.numbered at.is_there (part (at.place + 1) at.member)))
          found.2)
    ]

-- the names of an axiom in the set
pub name_of_member : (axioms : List Numbered) (q : Query) (s : NumberSet) (a : Axiom) (place : ℕ) (b : Numbered)
    → slice_get axioms place ≡ Some b → b.axiom ≡ a → set.contains s (place + 1) ≡ true
    → (n : Name) → is_among (axiom_names a) n ≡ true → is_among (module_names axioms q s) n ≡ true
name_of_member axioms q s a place b there is member n h =
    among_right (query_names q) (flat_map axiom_names (axioms_in_set s axioms)) n
    (of_axioms (axioms_in_set s axioms) a n
    (subst (λ (x : Axiom). Contains (axioms_in_set s axioms) x) is (to_set s axioms place b there member)) h)

pub names_of_member : (axioms : List Numbered) (q : Query) (s : NumberSet) (a : Axiom) (place : ℕ) (b : Numbered)
    → slice_get axioms place ≡ Some b → b.axiom ≡ a → set.contains s (place + 1) ≡ true
    → list_all (is_among (module_names axioms q s)) (axiom_names a) ≡ true
names_of_member axioms q s a place b there is member =
    all_pass (is_among (module_names axioms q s)) (axiom_names a)
    (λ n listed. name_of_member axioms q s a place b there is member n (listed_among (axiom_names a) n listed))

pub names_of_query : (axioms : List Numbered) (q : Query) (s : NumberSet)
    → list_all (is_among (module_names axioms q s)) (query_names q) ≡ true
names_of_query axioms q s =
    all_pass (is_among (module_names axioms q s)) (query_names q)
    (λ n listed. among_left (query_names q) (flat_map axiom_names (axioms_in_set s axioms)) n
    (listed_among (query_names q) n listed))

-- The names that listed axioms use are listed.
use Rattle.std.proofs.Common.{◌≡◌, ℕ, zero, suc, Bool, true, ◌&&◌, nat_lt, List, [], ◌∷◌, ◌++◌, map, Some, None, refl}
use Rattle.std.proofs.Common.{◌∙◌, subst}
use Rattle.std.specs.Prelude.{slice_get}
use Rattle.std.specs.List.{list_all}
use Rattle.std.proofs.lemmas.Bool.{and_parts, and_from}
use Rattle.std.proofs.lemmas.List.Folds.{list_all-append}
use Rattle.shq_terms.specs.Concept.{Concept, top, bottom, name, complement, intersection, union, some_of, all_of}
use Rattle.shq_terms.specs.Concept.{at_least, at_most, exactly, Parts, no_parts, part, parts_of}
use Rattle.shq_terms.specs.declared.axioms.Axiom.{Axiom}
use Rattle.shq_terms.specs.declared.axioms.Axiom.TheVariants.{SubClassOf, EquivalentClasses, DisjointClasses}
use Rattle.shq_terms.specs.declared.axioms.Axiom.TheVariants.{DisjointUnion, SubRole, EquivalentRoles, Domain, Range}
use Rattle.shq_terms.specs.declared.axioms.Axiom.TheVariants.{Functional, Transitive, Member, Pair, SameAll, Different}
use Rattle.shq_terms.specs.declared.axioms.Numbered.{Numbered}
use Rattle.shq_terms.specs.Uses.{uses_listed, parts_use_listed, axiom_uses_listed, all_use_listed}
use Rattle.shq_meaning.proofs.Members.{member_passes}
use Rattle.pinpointing_specs.specs.declared.module_laws.Name.{Name}
use Rattle.pinpointing_specs.specs.declared.module_laws.Name.TheVariants.{Role}
use Rattle.pinpointing_specs.specs.Signature.{is_among, concept_names, parts_names, axiom_names}
use Rattle.pinpointing_specs.proofs.Names.{same_is_equal}
use Rattle.module_extract.specs.Marks.{is_listed}
use Rattle.module_extract.specs.Users.{all_listed}
use Rattle.std.proofs.lemmas.Map.Views.{Contains-from_any}

module _ (classes roles : ℕ) where
  both : (ms ns : List Name) (a b : Bool) → (a ≡ true → list_all (is_listed classes roles) ms ≡ true)
      → (b ≡ true → list_all (is_listed classes roles) ns ≡ true) → (a && b) ≡ true
      → list_all (is_listed classes roles) (ms ++ ns) ≡ true
  both ms ns a b f g h =
      let parts = and_parts a b h in
      list_all-append (is_listed classes roles) ms ns
      ∙ and_from (list_all (is_listed classes roles) ms) (list_all (is_listed classes roles) ns) (f parts.0) (g parts.1)

  after : (r : ℕ) (ns : List Name) (b : Bool) → (b ≡ true → list_all (is_listed classes roles) ns ≡ true)
      → (nat_lt r roles && b) ≡ true → list_all (is_listed classes roles) (Role r ∷ ns) ≡ true
  after r ns b f h =
      let parts = and_parts (nat_lt r roles) b h in
      and_from (nat_lt r roles) (list_all (is_listed classes roles) ns) parts.0 (f parts.1)

  mutual
    concept_listed : (c : Concept) → uses_listed classes roles c ≡ true
        → list_all (is_listed classes roles) (concept_names c) ≡ true
    concept_listed top h = refl
    concept_listed bottom h = refl
    concept_listed (name a) h = and_from (nat_lt a classes) true h refl
    concept_listed (complement c) h = concept_listed c h
    concept_listed (intersection cs) h = parts_listed cs h
    concept_listed (union cs) h = parts_listed cs h
    concept_listed (some_of r c) h = after r (concept_names c) (uses_listed classes roles c) (concept_listed c) h
    concept_listed (all_of r c) h = after r (concept_names c) (uses_listed classes roles c) (concept_listed c) h
    concept_listed (at_least n r c) h = after r (concept_names c) (uses_listed classes roles c) (concept_listed c) h
    concept_listed (at_most n r c) h = after r (concept_names c) (uses_listed classes roles c) (concept_listed c) h
    concept_listed (exactly n r c) h = after r (concept_names c) (uses_listed classes roles c) (concept_listed c) h

    parts_listed : (cs : Parts) → parts_use_listed classes roles cs ≡ true
        → list_all (is_listed classes roles) (parts_names cs) ≡ true
    parts_listed no_parts h = refl
    parts_listed (part c cs) h =
        both (concept_names c) (parts_names cs) (uses_listed classes roles c) (parts_use_listed classes roles cs)
        (concept_listed c) (parts_listed cs) h

  roles_listed : (rs : List ℕ) → list_all (λ r. nat_lt r roles) rs ≡ true
      → list_all (is_listed classes roles) (map Role rs) ≡ true
  roles_listed [] h = refl
  roles_listed (r ∷ rs) h = after r (map Role rs) (list_all (λ s. nat_lt s roles) rs) (roles_listed rs) h

  axiom_listed : (individuals : ℕ) (a : Axiom) → axiom_uses_listed classes roles individuals a ≡ true
      → list_all (is_listed classes roles) (axiom_names a) ≡ true
  axiom_listed individuals (SubClassOf c d) h =
      both (concept_names c) (concept_names d) (uses_listed classes roles c) (uses_listed classes roles d)
      (concept_listed c) (concept_listed d) h
  axiom_listed individuals (EquivalentClasses cs) h = parts_listed (parts_of cs) h
  axiom_listed individuals (DisjointClasses cs) h = parts_listed (parts_of cs) h
  axiom_listed individuals (DisjointUnion c cs) h =
      both (concept_names c) (parts_names (parts_of cs)) (uses_listed classes roles c)
      (parts_use_listed classes roles (parts_of cs)) (concept_listed c) (parts_listed (parts_of cs)) h
  axiom_listed individuals (SubRole r s) h =
      after r (Role s ∷ []) (nat_lt s roles) (λ k. and_from (nat_lt s roles) true k refl) h
  axiom_listed individuals (EquivalentRoles rs) h = roles_listed rs h
  axiom_listed individuals (Domain r c) h = after r (concept_names c) (uses_listed classes roles c) (concept_listed c) h
  axiom_listed individuals (Range r c) h = after r (concept_names c) (uses_listed classes roles c) (concept_listed c) h
  axiom_listed individuals (Functional r) h = and_from (nat_lt r roles) true h refl
  axiom_listed individuals (Transitive r) h = and_from (nat_lt r roles) true h refl
  axiom_listed individuals (Member c a) h =
      concept_listed c (and_parts (uses_listed classes roles c) (nat_lt a individuals) h).0
  axiom_listed individuals (Pair r a b) h = after r [] (nat_lt a individuals && nat_lt b individuals) (λ k. refl) h
  axiom_listed individuals (SameAll as_) h = refl
  axiom_listed individuals (Different as_) h = refl

-- where the names that the axioms use are listed, those in their signatures are
pub names_listed : (axioms : List Numbered) (classes roles individuals : ℕ)
    → all_use_listed classes roles individuals axioms ≡ true → all_listed classes roles axioms ≡ true
names_listed [] classes roles individuals h = refl
names_listed (a ∷ as_) classes roles individuals h =
    let both =
    and_parts (axiom_uses_listed classes roles individuals a.axiom) (all_use_listed classes roles individuals as_) h in
    and_from (list_all (is_listed classes roles) (axiom_names a.axiom)) (all_listed classes roles as_)
    (axiom_listed classes roles individuals a.axiom both.0) (names_listed as_ classes roles individuals both.1)

module _ (classes roles : ℕ) where
  pub names_placed : (axioms : List Numbered) → all_listed classes roles axioms ≡ true → (place : ℕ) (a : Numbered)
      → slice_get axioms place ≡ Some a → list_all (is_listed classes roles) (axiom_names a.axiom) ≡ true
  names_placed [] h place a there = let clash : None ≡ Some a = there in absurd (cc clash)
  names_placed (b ∷ bs) h zero a there =
      let is : b ≡ a = cc there in
      subst (λ (x : Numbered). list_all (is_listed classes roles) (axiom_names x.axiom) ≡ true) is
      (and_parts (list_all (is_listed classes roles) (axiom_names b.axiom)) (all_listed classes roles bs) h).0
  names_placed (b ∷ bs) h (suc place) a there =
      names_placed bs
      (and_parts (list_all (is_listed classes roles) (axiom_names b.axiom)) (all_listed classes roles bs) h).1 place a
      there

  pub name_placed : (axioms : List Numbered) → all_listed classes roles axioms ≡ true → (place : ℕ) (a : Numbered)
      → slice_get axioms place ≡ Some a → (n : Name) → is_among (axiom_names a.axiom) n ≡ true
      → is_listed classes roles n ≡ true
  name_placed axioms h place a there n among =
      member_passes (is_listed classes roles) (axiom_names a.axiom) (names_placed axioms h place a there) n
      (Contains-from_any same_is_equal n (axiom_names a.axiom) among)

-- the names of an axiom, where so many classes and roles are listed as the axioms ask for
pub axiom_placed : (axioms : List Numbered) (classes roles m r : ℕ) (place : ℕ) (a : Numbered) (ns : List Name)
    → all_listed classes roles axioms ≡ true → slice_get axioms place ≡ Some a
    → m ≡ classes → r ≡ roles → ns ≡ axiom_names a.axiom → list_all (is_listed m r) ns ≡ true
axiom_placed axioms classes roles m r place a ns h there em er are =
    (λ j. list_all (is_listed (em j) (er j)) (are j)) ∙ names_placed classes roles axioms h place a there

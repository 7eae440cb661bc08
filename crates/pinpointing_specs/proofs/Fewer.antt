-- An axiom that is local for a signature stays so for one that has no more of the axiom's names.
use Rattle.std.proofs.Common.{◌≡◌, ℕ, ◌≤◌, Bool, true, false, not, ◌&&◌, ◌||◌, cond, List, [], ◌∷◌, ◌++◌, map, refl}
use Rattle.std.proofs.Common.{sym, ◌∙◌, arith}
use Rattle.std.specs.Prelude.{nat_le}
use Rattle.std.specs.List.{list_all}
use Rattle.std.proofs.lemmas.Bool.{and_parts, leb-true, le-leb}
use Rattle.std.proofs.lemmas.List.Folds.{list_all-append}
use Rattle.std.proofs.lemmas.List.Sums.{sum_by-cons}
use Rattle.shq_meaning.specs.Concept.{Concept, top, bottom, name, complement, intersection, union, some_of, all_of}
use Rattle.shq_meaning.specs.Concept.{at_least, at_most, exactly, Parts, no_parts, part, parts_of}
use Rattle.shq_meaning.proofs.Bools.{or_weaker, and_weaker}
use Rattle.shq_meaning.specs.Axiom.{Axiom}
use Rattle.shq_meaning.specs.Axiom.TheVariants.{SubClassOf, EquivalentClasses, DisjointClasses}
use Rattle.shq_meaning.specs.Axiom.TheVariants.{DisjointUnion, SubRole, EquivalentRoles, Domain, Range}
use Rattle.shq_meaning.specs.Axiom.TheVariants.{Functional, Transitive, Member, Pair, SameAll, Different}
use Rattle.shq_meaning.specs.Truth.{implies}
use Rattle.pinpointing_specs.specs.declared.module_laws.Name.{Name}
use Rattle.pinpointing_specs.specs.declared.module_laws.Name.TheVariants.{Class, Role}
use Rattle.pinpointing_specs.specs.Signature.{concept_names, parts_names, axiom_names}
use Rattle.pinpointing_specs.specs.Local.{is_void, is_whole, some_void, all_void, some_whole, all_whole, count_not_void}
use Rattle.pinpointing_specs.specs.Local.{is_local}

still_outside : (a b : Bool) → implies a b ≡ true → not b ≡ true → not a ≡ true
still_outside true true h k = k
still_outside true false h k = h
still_outside false b h k = refl

-- `less` has each of these names that `more` has
module _ (less more : Name → Bool) where
  abbrev pub is_kept : Name → Bool
  is_kept n = implies (less n) (more n)

  split : (ms ns : List Name) → list_all is_kept (ms ++ ns) ≡ true
      → (list_all is_kept ms ≡ true) × (list_all is_kept ns ≡ true)
  split ms ns h = and_parts (list_all is_kept ms) (list_all is_kept ns) (sym (list_all-append is_kept ms ns) ∙ h)

  empty_stays : (r : ℕ) (c : Concept)
      → (list_all is_kept (concept_names c) ≡ true → is_void more c ≡ true → is_void less c ≡ true)
      → (is_kept (Role r) && list_all is_kept (concept_names c)) ≡ true
      → (not (more (Role r)) || is_void more c) ≡ true → (not (less (Role r)) || is_void less c) ≡ true
  empty_stays r c stays h =
      let both = and_parts (is_kept (Role r)) (list_all is_kept (concept_names c)) h in
      or_weaker (not (more (Role r))) (is_void more c) (not (less (Role r))) (is_void less c)
      (still_outside (less (Role r)) (more (Role r)) both.0) (stays both.1)

  all_stays : (r : ℕ) (c : Concept)
      → (list_all is_kept (concept_names c) ≡ true → is_whole more c ≡ true → is_whole less c ≡ true)
      → (is_kept (Role r) && list_all is_kept (concept_names c)) ≡ true
      → (not (more (Role r)) || is_whole more c) ≡ true → (not (less (Role r)) || is_whole less c) ≡ true
  all_stays r c stays h =
      let both = and_parts (is_kept (Role r)) (list_all is_kept (concept_names c)) h in
      or_weaker (not (more (Role r))) (is_whole more c) (not (less (Role r))) (is_whole less c)
      (still_outside (less (Role r)) (more (Role r)) both.0) (stays both.1)

  mutual
    pub void_stays : (c : Concept) → list_all is_kept (concept_names c) ≡ true → is_void more c ≡ true
        → is_void less c ≡ true
    void_stays top h k = k
    void_stays bottom h k = refl
    void_stays (name a) h k = still_outside (less (Class a)) (more (Class a)) (and_parts (is_kept (Class a)) true h).0 k
    void_stays (complement c) h k = whole_stays c h k
    void_stays (intersection cs) h k = some_void_stays cs h k
    void_stays (union cs) h k = all_void_stays cs h k
    void_stays (some_of r c) h k = empty_stays r c (void_stays c) h k
    void_stays (all_of r c) h k = k
    void_stays (at_least n r c) h k =
        and_weaker (nat_le 1 n) (not (more (Role r)) || is_void more c) (nat_le 1 n)
        (not (less (Role r)) || is_void less c) (λ e. e) (empty_stays r c (void_stays c) h) k
    void_stays (at_most n r c) h k = k
    void_stays (exactly n r c) h k =
        and_weaker (nat_le 1 n) (not (more (Role r)) || is_void more c) (nat_le 1 n)
        (not (less (Role r)) || is_void less c) (λ e. e) (empty_stays r c (void_stays c) h) k

    pub whole_stays : (c : Concept) → list_all is_kept (concept_names c) ≡ true → is_whole more c ≡ true
        → is_whole less c ≡ true
    whole_stays top h k = refl
    whole_stays bottom h k = k
    whole_stays (name a) h k = k
    whole_stays (complement c) h k = void_stays c h k
    whole_stays (intersection cs) h k = all_whole_stays cs h k
    whole_stays (union cs) h k = some_whole_stays cs h k
    whole_stays (some_of r c) h k = k
    whole_stays (all_of r c) h k = all_stays r c (whole_stays c) h k
    whole_stays (at_least n r c) h k = k
    whole_stays (at_most n r c) h k = empty_stays r c (void_stays c) h k
    whole_stays (exactly n r c) h k =
        and_weaker (nat_le n 0) (not (more (Role r)) || is_void more c) (nat_le n 0)
        (not (less (Role r)) || is_void less c) (λ e. e) (empty_stays r c (void_stays c) h) k

    some_void_stays : (cs : Parts) → list_all is_kept (parts_names cs) ≡ true → some_void more cs ≡ true
        → some_void less cs ≡ true
    some_void_stays no_parts h k = k
    some_void_stays (part c cs) h k =
        let both = split (concept_names c) (parts_names cs) h in
        or_weaker (is_void more c) (some_void more cs) (is_void less c) (some_void less cs) (void_stays c both.0)
        (some_void_stays cs both.1) k

    all_void_stays : (cs : Parts) → list_all is_kept (parts_names cs) ≡ true → all_void more cs ≡ true
        → all_void less cs ≡ true
    all_void_stays no_parts h k = k
    all_void_stays (part c cs) h k =
        let both = split (concept_names c) (parts_names cs) h in
        and_weaker (is_void more c) (all_void more cs) (is_void less c) (all_void less cs) (void_stays c both.0)
        (all_void_stays cs both.1) k

    some_whole_stays : (cs : Parts) → list_all is_kept (parts_names cs) ≡ true → some_whole more cs ≡ true
        → some_whole less cs ≡ true
    some_whole_stays no_parts h k = k
    some_whole_stays (part c cs) h k =
        let both = split (concept_names c) (parts_names cs) h in
        or_weaker (is_whole more c) (some_whole more cs) (is_whole less c) (some_whole less cs) (whole_stays c both.0)
        (some_whole_stays cs both.1) k

    all_whole_stays : (cs : Parts) → list_all is_kept (parts_names cs) ≡ true → all_whole more cs ≡ true
        → all_whole less cs ≡ true
    all_whole_stays no_parts h k = k
    all_whole_stays (part c cs) h k =
        let both = split (concept_names c) (parts_names cs) h in
        and_weaker (is_whole more c) (all_whole more cs) (is_whole less c) (all_whole less cs) (whole_stays c both.0)
        (all_whole_stays cs both.1) k

  abbrev one : Bool → ℕ
  one b = cond (not b) 1 0

  one_fewer : (a b : Bool) → (b ≡ true → a ≡ true) → one a ≤ one b
  one_fewer true b f = omega arith
  one_fewer false true f = let clash : false ≡ true = f refl in absurd (cc clash)
  one_fewer false false f = omega arith

  fewer_counted : (cs : List Concept) → list_all is_kept (parts_names (parts_of cs)) ≡ true
      → count_not_void less cs ≤ count_not_void more cs
  fewer_counted [] h = omega arith
  fewer_counted (c ∷ cs) h =
      let both = split (concept_names c) (parts_names (parts_of cs)) h in
      omega (
        arith,
        one_fewer (is_void less c) (is_void more c) (void_stays c both.0),
        sum_by-cons (λ d. one (is_void less d)) c cs,
        sum_by-cons (λ d. one (is_void more d)) c cs,
        fewer_counted cs both.1,
      )

  roles_stay : (rs : List ℕ) → list_all is_kept (map Role rs) ≡ true → list_all (λ r. not (more (Role r))) rs ≡ true
      → list_all (λ r. not (less (Role r))) rs ≡ true
  roles_stay [] h k = refl
  roles_stay (r ∷ rs) h k =
      let both = and_parts (is_kept (Role r)) (list_all is_kept (map Role rs)) h in
      and_weaker (not (more (Role r))) (list_all (λ s. not (more (Role s))) rs) (not (less (Role r)))
      (list_all (λ s. not (less (Role s))) rs)
      (still_outside (less (Role r)) (more (Role r)) both.0) (roles_stay rs both.1) k

  role_stays : (r : ℕ) (ns : List Name) → (is_kept (Role r) && list_all is_kept ns) ≡ true → not (more (Role r)) ≡ true
      → not (less (Role r)) ≡ true
  role_stays r ns h =
      still_outside (less (Role r)) (more (Role r)) (and_parts (is_kept (Role r)) (list_all is_kept ns) h).0

  pub local_stays : (a : Axiom) → list_all is_kept (axiom_names a) ≡ true → is_local more a ≡ true
      → is_local less a ≡ true
  local_stays (SubClassOf c d) h k =
      let both = split (concept_names c) (concept_names d) h in
      or_weaker (is_void more c) (is_whole more d) (is_void less c) (is_whole less d) (void_stays c both.0)
      (whole_stays d both.1) k
  local_stays (EquivalentClasses cs) h k =
      or_weaker (all_void more (parts_of cs)) (all_whole more (parts_of cs)) (all_void less (parts_of cs))
      (all_whole less (parts_of cs)) (all_void_stays (parts_of cs) h) (all_whole_stays (parts_of cs) h) k
  local_stays (DisjointClasses cs) h k =
      le-leb (count_not_void less cs) 1 (omega (arith, fewer_counted cs h, leb-true (count_not_void more cs) 1 k))
  local_stays (DisjointUnion c cs) h k =
      let both = split (concept_names c) (parts_names (parts_of cs)) h in
      and_weaker (is_void more c) (all_void more (parts_of cs)) (is_void less c) (all_void less (parts_of cs))
      (void_stays c both.0) (all_void_stays (parts_of cs) both.1) k
  local_stays (SubRole r s) h k = role_stays r (Role s ∷ []) h k
  local_stays (EquivalentRoles rs) h k = roles_stay rs h k
  local_stays (Domain r c) h k = all_stays r c (whole_stays c) h k
  local_stays (Range r c) h k = all_stays r c (whole_stays c) h k
  local_stays (Functional r) h k = role_stays r [] h k
  local_stays (Transitive r) h k = role_stays r [] h k
  local_stays (Member c a) h k = k
  local_stays (Pair r a b) h k = k
  local_stays (SameAll as_) h k = k
  local_stays (Different as_) h k = k

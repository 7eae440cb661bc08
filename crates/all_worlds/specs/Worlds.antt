-- What class expressions, axioms and queries mean in a world over any domain, finite or not: OWL 2 Direct Semantics
-- (Second Edition), section 2. No order of the domain is asked, and no test whether two members are one.
--
-- "There is" and "or" are said as "not none" and "not neither", and that two members are one as "not different": the
-- logic of the proofs has no law of the excluded middle, and a reader who allows it reads the usual words. Without it
-- what is not outside of a class expression is still in it (`IsStable`), so that a proof may distinguish cases.
use Rattle.std.specs.Prelude.{◌≡◌, ℕ, ◌+◌, Bool, true, List, length, ⊤, All}
use Rattle.std.specs.List.{AllPairs}
use Rattle.shq_nnf.specs.Concept.{Concept, top, bottom, name, complement, intersection, union, some_of, all_of}
use Rattle.shq_nnf.specs.Concept.{at_least, at_most, exactly, Parts, no_parts, part, parts_of}
use Rattle.shq_nnf.specs.Axiom.{Axiom}
use Rattle.shq_nnf.specs.Axiom.TheVariants.{SubClassOf, EquivalentClasses, DisjointClasses, DisjointUnion, SubRole}
use Rattle.shq_nnf.specs.Axiom.TheVariants.{EquivalentRoles, Domain, Range, Functional, Transitive, Member, Pair}
use Rattle.shq_nnf.specs.Axiom.TheVariants.{SameAll, Different}
use Rattle.role_box.specs.On.{On}
use Rattle.role_box.specs.On.TheVariants.{Any, Individual}
use Rattle.role_box.specs.Query.{Query}

-- section 2.2: the domain has a member, classes are sets of members, roles are sets of pairs of them, and each
-- individual is a member; different individuals may be the same member
pub record World (d : Type 0) : Type 0 where
  pub member : d
  pub in_class : ℕ → d → Bool
  pub in_role : ℕ → d → d → Bool
  pub individual : ℕ → d

-- n members with a property, no two of which are one
pub record AreMany {d : Type 0} (p : d → Type 0) (n : ℕ) (ys : List d) : Type 0 where
  pub count : length ys ≡ n
  pub distinct : AllPairs (λ y z. ¬ (y ≡ z)) ys
  pub each : All p ys

-- not all lists of n members fail
abbrev pub AreAtLeast : {d : Type 0} → ℕ → (d → Type 0) → Type 0
AreAtLeast {d} n p = ¬ ((ys : List d) → ¬ AreMany p n ys)

-- there are no n + 1 of them
abbrev pub AreAtMost : {d : Type 0} → ℕ → (d → Type 0) → Type 0
AreAtMost {d} n p = (ys : List d) → ¬ AreMany p (n + 1) ys

module _ {d : Type 0} (w : World d) where
  -- the members to which the role leads from x and that have a property
  abbrev pub IsSuccessor : ℕ → d → (d → Type 0) → d → Type 0
  IsSuccessor r x p y = (w.in_role r x y ≡ true) × p y

  -- section 2.2.3: the member x is in the class expression
  abbrev mutual
    pub IsIn : Concept → d → Type 0
    IsIn top x = ⊤
    IsIn bottom x = ⊥
    IsIn (name a) x = w.in_class a x ≡ true
    IsIn (complement c) x = ¬ IsIn c x
    IsIn (intersection cs) x = IsInAll cs x
    IsIn (union cs) x = ¬ IsInNone cs x
    IsIn (some_of r c) x = ¬ ((y : d) → w.in_role r x y ≡ true → ¬ IsIn c y)
    IsIn (all_of r c) x = (y : d) → w.in_role r x y ≡ true → IsIn c y
    IsIn (at_least n r c) x = AreAtLeast n (IsSuccessor r x (IsIn c))
    IsIn (at_most n r c) x = AreAtMost n (IsSuccessor r x (IsIn c))
    IsIn (exactly n r c) x = AreAtLeast n (IsSuccessor r x (IsIn c)) × AreAtMost n (IsSuccessor r x (IsIn c))

    pub IsInAll : Parts → d → Type 0
    IsInAll no_parts x = ⊤
    IsInAll (part c cs) x = IsIn c x × IsInAll cs x

    pub IsInNone : Parts → d → Type 0
    IsInNone no_parts x = ⊤
    IsInNone (part c cs) x = ¬ IsIn c x × IsInNone cs x

  -- each member of the one class expression is in the other
  abbrev pub AreWithin : Concept → Concept → Type 0
  AreWithin c e = (x : d) → IsIn c x → IsIn e x

  -- no member is in both
  abbrev pub AreDisjoint : Concept → Concept → Type 0
  AreDisjoint c e = (x : d) → IsIn c x → ¬ IsIn e x

  -- each pair of the one role is one of the other
  abbrev pub IsSubRole : ℕ → ℕ → Type 0
  IsSubRole r s = (x y : d) → w.in_role r x y ≡ true → w.in_role s x y ≡ true

  -- the world meets the axiom: the class axioms of section 2.3.1, the role axioms of section 2.3.2, and the assertions
  -- of section 2.3.6
  abbrev pub MeetsEverywhere : Axiom → Type 0
  MeetsEverywhere (SubClassOf c e) = AreWithin c e
  MeetsEverywhere (EquivalentClasses cs) = All (λ c. All (λ e. AreWithin c e) cs) cs
  MeetsEverywhere (DisjointClasses cs) = AllPairs AreDisjoint cs
  MeetsEverywhere (DisjointUnion a cs) =
      AreWithin a (union (parts_of cs)) × AreWithin (union (parts_of cs)) a × AllPairs AreDisjoint cs
  MeetsEverywhere (SubRole r s) = IsSubRole r s
  MeetsEverywhere (EquivalentRoles rs) = All (λ r. All (λ s. IsSubRole r s) rs) rs
  MeetsEverywhere (Domain r c) = (x y : d) → w.in_role r x y ≡ true → IsIn c x
  MeetsEverywhere (Range r c) = (x y : d) → w.in_role r x y ≡ true → IsIn c y
  MeetsEverywhere (Functional r) =
      (x y z : d) → w.in_role r x y ≡ true → w.in_role r x z ≡ true → ¬ ¬ (y ≡ z)
  MeetsEverywhere (Transitive r) =
      (x y z : d) → w.in_role r x y ≡ true → w.in_role r y z ≡ true → w.in_role r x z ≡ true
  MeetsEverywhere (Member c a) = IsIn c (w.individual a)
  MeetsEverywhere (Pair r a b) = w.in_role r (w.individual a) (w.individual b) ≡ true
  MeetsEverywhere (SameAll as_) = All (λ a. All (λ b. ¬ ¬ (w.individual a ≡ w.individual b)) as_) as_
  MeetsEverywhere (Different as_) = AllPairs (λ a b. ¬ (w.individual a ≡ w.individual b)) as_

  -- section 2.4: the world meets all of the axioms
  abbrev pub MeetsAll : List Axiom → Type 0
  MeetsAll as_ = All MeetsEverywhere as_

  -- of the members of which the query speaks, each that is in the one class expression is in the other
  abbrev pub IsSo : Concept → Concept → On → Type 0
  IsSo c e Any = AreWithin c e
  IsSo c e (Individual a) = IsIn c (w.individual a) → IsIn e (w.individual a)

  -- section 2.5: where the world meets the axioms, what the query asks is so
  abbrev pub FollowsIn : List Axiom → Query → Type 0
  FollowsIn as_ q = MeetsAll as_ → IsSo q.sub q.sup q.on

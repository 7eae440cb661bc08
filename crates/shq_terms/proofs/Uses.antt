-- Names that are listed stay listed when further names are.
use Rattle.std.proofs.Common.{◌≡◌, ℕ, ◌≤◌, true, List, [], ◌∷◌, ◌++◌, refl, arith, length, length-append, position}
use Rattle.std.proofs.Common.{Option, Some, None}
use Rattle.std.specs.Prelude.{nat_lt, ◌&&◌}
use Rattle.std.specs.List.{list_all}
use Rattle.std.specs.Str.{bytes_eq}
use Rattle.std.proofs.lemmas.Bool.Decides.{nat_tests}
use Rattle.shq_base.specs.Concept.{Concept, top, bottom, name, complement, intersection, union, some_of, all_of}
use Rattle.shq_base.specs.Concept.{at_least, at_most, exactly, Parts, no_parts, part, parts_of}
use Rattle.shq_base.proofs.Bools.{and_weaker}
use Rattle.shq_terms.specs.declared.axioms.Axiom.{Axiom}
use Rattle.shq_terms.specs.declared.axioms.Axiom.TheVariants.{SubClassOf, EquivalentClasses, DisjointClasses}
use Rattle.shq_terms.specs.declared.axioms.Axiom.TheVariants.{DisjointUnion, SubRole, EquivalentRoles, Domain, Range}
use Rattle.shq_terms.specs.declared.axioms.Axiom.TheVariants.{Functional, Transitive, Member, Pair, SameAll, Different}
use Rattle.shq_terms.specs.declared.axioms.Numbered.{Numbered}
use Rattle.shq_terms.specs.Names.{with_at, with_name}
use Rattle.shq_terms.specs.Uses.{uses_listed, parts_use_listed, axiom_uses_listed, all_use_listed}

lt_more : (a m n : ℕ) → m ≤ n → nat_lt a m ≡ true → nat_lt a n ≡ true
lt_more a m n more h = grind (arith, nat_tests)

module _ (m n : ℕ) (r s : ℕ) (i j : ℕ) (classes : m ≤ n) (roles : r ≤ s) (individuals : i ≤ j) where
  mutual
    pub uses_more : (c : Concept) → uses_listed m r c ≡ true → uses_listed n s c ≡ true
    uses_more top h = refl
    uses_more bottom h = refl
    uses_more (name a) h = lt_more a m n classes h
    uses_more (complement c) h = uses_more c h
    uses_more (intersection cs) h = parts_use_more cs h
    uses_more (union cs) h = parts_use_more cs h
    uses_more (some_of q c) h =
        and_weaker (nat_lt q r) (uses_listed m r c) (nat_lt q s) (uses_listed n s c) (lt_more q r s roles) (uses_more c)
        h
    uses_more (all_of q c) h =
        and_weaker (nat_lt q r) (uses_listed m r c) (nat_lt q s) (uses_listed n s c) (lt_more q r s roles) (uses_more c)
        h
    uses_more (at_least k q c) h =
        and_weaker (nat_lt q r) (uses_listed m r c) (nat_lt q s) (uses_listed n s c) (lt_more q r s roles) (uses_more c)
        h
    uses_more (at_most k q c) h =
        and_weaker (nat_lt q r) (uses_listed m r c) (nat_lt q s) (uses_listed n s c) (lt_more q r s roles) (uses_more c)
        h
    uses_more (exactly k q c) h =
        and_weaker (nat_lt q r) (uses_listed m r c) (nat_lt q s) (uses_listed n s c) (lt_more q r s roles) (uses_more c)
        h

    pub parts_use_more : (cs : Parts) → parts_use_listed m r cs ≡ true → parts_use_listed n s cs ≡ true
    parts_use_more no_parts h = refl
    parts_use_more (part c cs) h =
        and_weaker (uses_listed m r c) (parts_use_listed m r cs) (uses_listed n s c) (parts_use_listed n s cs)
        (uses_more c) (parts_use_more cs) h

  roles_more : (rs : List ℕ) → list_all (λ q. nat_lt q r) rs ≡ true → list_all (λ q. nat_lt q s) rs ≡ true
  roles_more [] h = refl
  roles_more (q ∷ qs) h =
      and_weaker (nat_lt q r) (list_all (λ k. nat_lt k r) qs) (nat_lt q s) (list_all (λ k. nat_lt k s) qs)
      (lt_more q r s roles) (roles_more qs) h

  individuals_more : (as_ : List ℕ) → list_all (λ a. nat_lt a i) as_ ≡ true → list_all (λ a. nat_lt a j) as_ ≡ true
  individuals_more [] h = refl
  individuals_more (a ∷ as_) h =
      and_weaker (nat_lt a i) (list_all (λ k. nat_lt k i) as_) (nat_lt a j) (list_all (λ k. nat_lt k j) as_)
      (lt_more a i j individuals) (individuals_more as_) h

  axiom_uses_more : (a : Axiom) → axiom_uses_listed m r i a ≡ true → axiom_uses_listed n s j a ≡ true
  axiom_uses_more (SubClassOf c d) h =
      and_weaker (uses_listed m r c) (uses_listed m r d) (uses_listed n s c) (uses_listed n s d) (uses_more c)
      (uses_more d) h
  axiom_uses_more (EquivalentClasses cs) h = parts_use_more (parts_of cs) h
  axiom_uses_more (DisjointClasses cs) h = parts_use_more (parts_of cs) h
  axiom_uses_more (DisjointUnion c cs) h =
      and_weaker (uses_listed m r c) (parts_use_listed m r (parts_of cs)) (uses_listed n s c)
      (parts_use_listed n s (parts_of cs)) (uses_more c) (parts_use_more (parts_of cs)) h
  axiom_uses_more (SubRole p q) h =
      and_weaker (nat_lt p r) (nat_lt q r) (nat_lt p s) (nat_lt q s) (lt_more p r s roles) (lt_more q r s roles) h
  axiom_uses_more (EquivalentRoles rs) h = roles_more rs h
  axiom_uses_more (Domain q c) h =
      and_weaker (nat_lt q r) (uses_listed m r c) (nat_lt q s) (uses_listed n s c) (lt_more q r s roles) (uses_more c) h
  axiom_uses_more (Range q c) h =
      and_weaker (nat_lt q r) (uses_listed m r c) (nat_lt q s) (uses_listed n s c) (lt_more q r s roles) (uses_more c) h
  axiom_uses_more (Functional q) h = lt_more q r s roles h
  axiom_uses_more (Transitive q) h = lt_more q r s roles h
  axiom_uses_more (Member c a) h =
      and_weaker (uses_listed m r c) (nat_lt a i) (uses_listed n s c) (nat_lt a j) (uses_more c)
      (lt_more a i j individuals) h
  axiom_uses_more (Pair q a b) h =
      and_weaker (nat_lt q r) (nat_lt a i && nat_lt b i) (nat_lt q s) (nat_lt a j && nat_lt b j) (lt_more q r s roles)
      (and_weaker (nat_lt a i) (nat_lt b i) (nat_lt a j) (nat_lt b j) (lt_more a i j individuals)
      (lt_more b i j individuals))
      h
  axiom_uses_more (SameAll as_) h = individuals_more as_ h
  axiom_uses_more (Different as_) h = individuals_more as_ h

  pub all_use_more : (as_ : List Numbered) → all_use_listed m r i as_ ≡ true → all_use_listed n s j as_ ≡ true
  all_use_more [] h = refl
  all_use_more (a ∷ as_) h =
      and_weaker (axiom_uses_listed m r i a.axiom) (all_use_listed m r i as_) (axiom_uses_listed n s j a.axiom)
      (all_use_listed n s j as_) (axiom_uses_more a.axiom) (all_use_more as_) h

-- one axiom more
pub all_use_push : (m r i : ℕ) (as_ : List Numbered) (a : Numbered) → all_use_listed m r i as_ ≡ true
    → axiom_uses_listed m r i a.axiom ≡ true → all_use_listed m r i (as_ ++ a ∷ []) ≡ true
all_use_push m r i [] a all one = rw one
all_use_push m r i (b ∷ bs) a all one =
    and_weaker (axiom_uses_listed m r i b.axiom) (all_use_listed m r i bs) (axiom_uses_listed m r i b.axiom)
    (all_use_listed m r i (bs ++ a ∷ [])) (λ h. h) (λ h. all_use_push m r i bs a h one) all

-- a list of names with one more is no shorter
pub with_name_longer : (names : List (List ℕ)) (w : List ℕ) → length names ≤ length (with_name names w)
with_name_longer names w = by (position (bytes_eq w) names)
  where
    by : (r : Option ℕ) → length names ≤ length (with_at r names w)
    by (Some k) = omega arith
    by None = omega (arith, length-append names (w ∷ []))

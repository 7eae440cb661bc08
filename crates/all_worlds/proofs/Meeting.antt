-- A world meets a class axiom where it meets the axiom's parts, and an assertion where none of its facts is false.
use Rattle.std.proofs.Common.{◌≡◌, ℕ, ◌+◌, true, false, List, [], ◌∷◌, ◌++◌, map, length, refl, ◌∙◌, sym, arith}
use Rattle.std.specs.Prelude.{◌↔◌, All}
use Rattle.std.specs.List.{AllPairs, Contains}
use Rattle.std.proofs.lemmas.List.Elements.{All-nil, All-cons, All-head, All-tail, All-append, All-map, All-weaker}
use Rattle.std.proofs.lemmas.List.Elements.{All-contains, All-contains_itself}
use Rattle.std.proofs.lemmas.List.Kept.{AllPairs-cons}
use Rattle.shq_nnf.specs.Concept.{Concept, top, bottom, name, complement, intersection, union, some_of, all_of}
use Rattle.shq_nnf.specs.Concept.{at_least, at_most, exactly, Parts, no_parts, part, parts_of, part_list}
use Rattle.shq_nnf.specs.Axiom.{Axiom}
use Rattle.shq_nnf.specs.Axiom.TheVariants.{SubClassOf, EquivalentClasses, DisjointClasses, DisjointUnion, SubRole}
use Rattle.shq_nnf.specs.Axiom.TheVariants.{EquivalentRoles, Domain, Range, Functional, Transitive, Member, Pair}
use Rattle.shq_nnf.specs.Axiom.TheVariants.{SameAll, Different}
use Rattle.role_box.specs.Normal.{normal_form}
use Rattle.role_box.specs.TheoryRows.{Part, inclusion, range, conjuncts_in, inclusion_of, range_of}
use Rattle.role_box.specs.Fact.{Fact}
use Rattle.role_box.specs.Fact.TheVariants.{Has, Edge, Apart, Same}
use Rattle.shq_nnf.specs.Parts.{disjoint_pair, disjoint_parts, chain_parts, equivalent_parts, covering, union_parts}
use Rattle.shq_nnf.specs.Parts.{axiom_parts}
use Rattle.shq_nnf.specs.Facts.{same_facts, apart_facts, facts_of}
use Rattle.shq_nnf.specs.Meeting.{is_role_axiom, is_assertion}
use Rattle.all_worlds.specs.Worlds.{World, IsSuccessor, IsIn, IsInAll, IsInNone, AreWithin, AreDisjoint}
use Rattle.all_worlds.specs.Worlds.{MeetsEverywhere}
use Rattle.all_worlds.proofs.Lists.{all_split, all_mapped, pairs_head, pairs_tail, no_pairs}
use Rattle.all_worlds.proofs.Stable.{is_true, stable}
use Rattle.all_worlds.proofs.Normal.{normal_in}
use Rattle.all_worlds.proofs.Models.{IsTrueAt}

-- the world meets a part of an axiom
abbrev pub MeetsPart : {d : Type 0} → World d → Part → Type 0
MeetsPart {d} w (inclusion cs e) = (x : d) → All (λ c. IsIn w c x) cs → IsIn w e x
MeetsPart {d} w (range r e) = (x y : d) → w.in_role r x y ≡ true → IsIn w e y

module _ {d : Type 0} (w : World d) where
  abbrev Met : List Part → Type 0
  Met ps = All (MeetsPart w) ps

  one_met : (p : Part) → MeetsPart w p → Met (p ∷ [])
  one_met p h = All-cons (MeetsPart w) p [] h (All-nil (MeetsPart w))

  one_back : (p : Part) → Met (p ∷ []) → MeetsPart w p
  one_back p h = All-head (MeetsPart w) p [] h

  -- ---- inclusions

  module _ (x : d) where
    abbrev In : Concept → Type 0
    In c = IsIn w c x

    only : (c : Concept) → All In (c ∷ []) ↔ In c
    only c = (All-head In c [], λ i. All-cons In c [] i (All-nil In))

    all_listed : (cs : Parts) → All In (part_list cs) ↔ IsInAll w cs x
    all_listed no_parts = (λ h. tt, λ h. All-nil In)
    all_listed (part c cs) =
        let rest = all_listed cs in (
          λ h. (All-head In c (part_list cs) h, rest.0 (All-tail In c (part_list cs) h)),
          λ h. All-cons In c (part_list cs) h.0 (rest.1 h.1),
        )

    conjuncts_all : (c : Concept) → All In (conjuncts_in c) ↔ In c
    conjuncts_all top = (λ h. tt, λ h. All-nil In)
    conjuncts_all (intersection cs) = all_listed cs
    conjuncts_all bottom = only bottom
    conjuncts_all (name a) = only (name a)
    conjuncts_all (complement c) = only (complement c)
    conjuncts_all (union cs) = only (union cs)
    conjuncts_all (some_of r c) = only (some_of r c)
    conjuncts_all (all_of r c) = only (all_of r c)
    conjuncts_all (at_least n r c) = only (at_least n r c)
    conjuncts_all (at_most n r c) = only (at_most n r c)
    conjuncts_all (exactly n r c) = only (exactly n r c)

    none_each : (cs : List Concept) → IsInNone w (parts_of cs) x ↔ All (λ c. ¬ In c) cs
    none_each [] = (λ h. All-nil (λ c. ¬ In c), λ h. tt)
    none_each (c ∷ cs) =
        let rest = none_each cs in (
          λ h. All-cons (λ c. ¬ In c) c cs h.0 (rest.0 h.1),
          λ h. (All-head (λ c. ¬ In c) c cs h, rest.1 (All-tail (λ c. ¬ In c) c cs h)),
        )

  inclusion_met : (c e : Concept) → AreWithin w c e ↔ MeetsPart w (inclusion_of c e)
  inclusion_met c e = (
    λ h x all. (normal_in w e x).1 (h x ((normal_in w c x).0 ((conjuncts_all x (normal_form c)).0 all))),
    λ h x i. (normal_in w e x).0 (h x ((conjuncts_all x (normal_form c)).1 ((normal_in w c x).1 i))),
  )

  -- ---- equivalent classes

  chain_met : (P : Concept → Type 0) → ((a b : Concept) → P a → P b → AreWithin w a b) → (f : Concept) → P f
      → (cs : List Concept) → All P cs → Met (chain_parts f cs)
  chain_met P within f has [] all = All-nil (MeetsPart w)
  chain_met P within f has (c ∷ []) all =
      one_met (inclusion_of c f) ((inclusion_met c f).0 (within c f (All-head P c [] all) has))
  chain_met P within f has (c ∷ e ∷ es) all =
      let rest = All-tail P c (e ∷ es) all in
      All-cons (MeetsPart w) (inclusion_of c e) (chain_parts f (e ∷ es))
      ((inclusion_met c e).0 (within c e (All-head P c (e ∷ es) all) (All-head P e es rest)))
      (chain_met P within f has (e ∷ es) rest)

  -- each is in the class at the end, and the first in each
  chain_back : (f c : Concept) (cs : List Concept) → Met (chain_parts f (c ∷ cs))
      → All (λ e. AreWithin w e f) (c ∷ cs) × All (λ e. AreWithin w c e) (c ∷ cs)
  chain_back f c [] h = (
    All-cons (λ e. AreWithin w e f) c [] ((inclusion_met c f).1 (one_back (inclusion_of c f) h))
        (All-nil (λ e. AreWithin w e f)),
    All-cons (λ e. AreWithin w c e) c [] (λ x i. i) (All-nil (λ e. AreWithin w c e)),
  )
  chain_back f c (e ∷ es) h =
      let here = (inclusion_met c e).1 (All-head (MeetsPart w) (inclusion_of c e) (chain_parts f (e ∷ es)) h) in
      let rest = chain_back f e es (All-tail (MeetsPart w) (inclusion_of c e) (chain_parts f (e ∷ es)) h) in
      let up = All-head (λ g. AreWithin w g f) e es rest.0 in (
        All-cons (λ g. AreWithin w g f) c (e ∷ es) (λ x i. up x (here x i)) rest.0,
        All-cons (λ g. AreWithin w c g) c (e ∷ es) (λ x i. i)
            (All-weaker (λ g. AreWithin w e g) (λ g. AreWithin w c g) (λ g down x i. down x (here x i)) (e ∷ es) rest.1),
      )

  equivalent_met : (cs : List Concept) → All (λ c. All (λ e. AreWithin w c e) cs) cs → Met (equivalent_parts cs)
  equivalent_met [] h = All-nil (MeetsPart w)
  equivalent_met (c ∷ cs) h =
      let all = c ∷ cs in
      let each = All-contains_itself all in
      chain_met (Contains all)
      (λ a b in_a in_b.
      All-contains (λ e. AreWithin w a e) all b (All-contains (λ f. All (λ e. AreWithin w f e) all) all a h in_a) in_b)
      c (All-head (Contains all) c cs each) all each

  equivalent_back : (cs : List Concept) → Met (equivalent_parts cs) → All (λ c. All (λ e. AreWithin w c e) cs) cs
  equivalent_back [] h = All-nil (λ c. All (λ e. AreWithin w c e) [])
  equivalent_back (c ∷ cs) h =
      let all = c ∷ cs in
      let b = chain_back c c cs h in
      All-weaker (λ a. AreWithin w a c) (λ a. All (λ e. AreWithin w a e) all)
      (λ a up.
      All-weaker (λ e. AreWithin w c e) (λ e. AreWithin w a e) (λ e down x i. down x (up x i)) all b.1) all b.0

  -- ---- disjoint classes

  disjoint_met : (cs : List Concept) → AllPairs (AreDisjoint w) cs → Met (disjoint_parts cs)
  disjoint_met [] h = All-nil (MeetsPart w)
  disjoint_met (c ∷ cs) h =
      All-append (MeetsPart w) (map (disjoint_pair c) cs) (disjoint_parts cs)
      (All-map (MeetsPart w) (disjoint_pair c) cs
      (All-weaker (AreDisjoint w c) (λ e. MeetsPart w (disjoint_pair c e)) (λ e. (inclusion_met c (complement e)).0) cs
      (pairs_head (AreDisjoint w) c cs h)))
      (disjoint_met cs (pairs_tail (AreDisjoint w) c cs h))

  disjoint_back : (cs : List Concept) → Met (disjoint_parts cs) → AllPairs (AreDisjoint w) cs
  disjoint_back [] h = no_pairs (AreDisjoint w)
  disjoint_back (c ∷ cs) h =
      let b = all_split (MeetsPart w) (map (disjoint_pair c) cs) (disjoint_parts cs) h in
      AllPairs-cons (AreDisjoint w) c cs
      (All-weaker (λ e. MeetsPart w (disjoint_pair c e)) (AreDisjoint w c) (λ e. (inclusion_met c (complement e)).1) cs
      (all_mapped (MeetsPart w) (disjoint_pair c) cs b.0))
      (disjoint_back cs b.1)

  -- ---- disjoint unions

  union_within : (a : Concept) (cs : List Concept)
      → AreWithin w (union (parts_of cs)) a ↔ All (λ c. AreWithin w c a) cs
  union_within a cs = (
    λ h k e lt x i. h x (λ none. (none_each x cs).0 none k e lt i),
    λ h x one.
        stable w a x
        (λ out.
        one
        ((none_each x cs).1
        (All-weaker (λ c. AreWithin w c a) (λ c. ¬ IsIn w c x) (λ c within i. out (within x i)) cs h))),
  )

  abbrev ToUnion : Concept → Concept → Part
  ToUnion a c = inclusion_of c a

  union_met : (a : Concept) (cs : List Concept) → AreWithin w a (union (parts_of cs))
      → AreWithin w (union (parts_of cs)) a → AllPairs (AreDisjoint w) cs → Met (union_parts a cs)
  union_met a cs to from apart =
      All-cons (MeetsPart w) (covering a cs) (map (ToUnion a) cs ++ disjoint_parts cs)
      ((inclusion_met a (union (parts_of cs))).0 to)
      (All-append (MeetsPart w) (map (ToUnion a) cs) (disjoint_parts cs)
      (All-map (MeetsPart w) (ToUnion a) cs
      (All-weaker (λ c. AreWithin w c a) (λ c. MeetsPart w (inclusion_of c a)) (λ c. (inclusion_met c a).0) cs
      ((union_within a cs).0 from)))
      (disjoint_met cs apart))

  union_back : (a : Concept) (cs : List Concept) → Met (union_parts a cs)
      → AreWithin w a (union (parts_of cs)) × AreWithin w (union (parts_of cs)) a × AllPairs (AreDisjoint w) cs
  union_back a cs h =
      let rest = All-tail (MeetsPart w) (covering a cs) (map (ToUnion a) cs ++ disjoint_parts cs) h in
      let b = all_split (MeetsPart w) (map (ToUnion a) cs) (disjoint_parts cs) rest in (
        (inclusion_met a (union (parts_of cs))).1
            (All-head (MeetsPart w) (covering a cs) (map (ToUnion a) cs ++ disjoint_parts cs) h),
        (union_within a cs).1
            (All-weaker (λ c. MeetsPart w (inclusion_of c a)) (λ c. AreWithin w c a) (λ c. (inclusion_met c a).1) cs
            (all_mapped (MeetsPart w) (ToUnion a) cs b.0)),
        disjoint_back cs b.1,
      )

  -- ---- domains and functional roles

  domain_within : (r : ℕ) (c : Concept)
      → ((x y : d) → w.in_role r x y ≡ true → IsIn w c x) ↔ AreWithin w (some_of r top) c
  domain_within r c = (
    λ h x some. stable w c x (λ out. some (λ y e i. out (h x y e))),
    λ h x y e. h x (λ none. none y e tt),
  )

  abbrev IsFunctional : ℕ → Type 0
  IsFunctional r = (x y z : d) → w.in_role r x y ≡ true → w.in_role r x z ≡ true → ¬ ¬ (y ≡ z)

  abbrev Successor : ℕ → d → d → Type 0
  Successor r x = IsSuccessor w r x (IsIn w top)

  functional_within : (r : ℕ) → IsFunctional r ↔ AreWithin w top (at_most 1 r top)
  functional_within r = (few, one)
    where
      few : IsFunctional r → AreWithin w top (at_most 1 r top)
      few h x i [] many = let c : length {A = d} [] ≡ 1 + 1 = many.count in omega (arith, c)
      few h x i (y ∷ []) many = let c : length (y ∷ []) ≡ 1 + 1 = many.count in omega (arith, c)
      few h x i (y ∷ z ∷ zs) many =
          h x y z (many.each 0 y (omega arith)).0 (many.each 1 y (omega arith)).0
          (many.distinct 0 1 y (omega arith) (omega arith))

      one : AreWithin w top (at_most 1 r top) → IsFunctional r
      one h x y z e f differ =
          h x tt (y ∷ z ∷ [])
          (record {
            count = refl;
            distinct =
                AllPairs-cons (λ u v. ¬ (u ≡ v)) y (z ∷ [])
                (All-cons (λ v. ¬ (y ≡ v)) z [] differ (All-nil (λ v. ¬ (y ≡ v))))
                (AllPairs-cons (λ u v. ¬ (u ≡ v)) z [] (All-nil (λ v. ¬ (z ≡ v))) (no_pairs (λ u v. ¬ (u ≡ v))));
            each =
                All-cons (Successor r x) y (z ∷ []) (e, tt)
                (All-cons (Successor r x) z [] (f, tt) (All-nil (Successor r x)));
          })

  -- ---- any axiom

  pub parts_met : (a : Axiom) → MeetsEverywhere w a → Met (axiom_parts a)
  parts_met (SubClassOf c e) h = one_met (inclusion_of c e) ((inclusion_met c e).0 h)
  parts_met (EquivalentClasses cs) h = equivalent_met cs h
  parts_met (DisjointClasses cs) h = disjoint_met cs h
  parts_met (DisjointUnion a cs) h = union_met a cs h.0 h.1 h.2
  parts_met (SubRole r s) h = All-nil (MeetsPart w)
  parts_met (EquivalentRoles rs) h = All-nil (MeetsPart w)
  parts_met (Domain r c) h =
      one_met (inclusion_of (some_of r top) c) ((inclusion_met (some_of r top) c).0 ((domain_within r c).0 h))
  parts_met (Range r c) h = one_met (range_of r c) (λ x y e. (normal_in w c y).1 (h x y e))
  parts_met (Functional r) h =
      one_met (inclusion_of top (at_most 1 r top))
      ((inclusion_met top (at_most 1 r top)).0 ((functional_within r).0 h))
  parts_met (Transitive r) h = All-nil (MeetsPart w)
  parts_met (Member c a) h = All-nil (MeetsPart w)
  parts_met (Pair r a b) h = All-nil (MeetsPart w)
  parts_met (SameAll as_) h = All-nil (MeetsPart w)
  parts_met (Different as_) h = All-nil (MeetsPart w)

  pub parts_back : (a : Axiom) → is_role_axiom a ≡ false → is_assertion a ≡ false → Met (axiom_parts a)
      → MeetsEverywhere w a
  parts_back (SubClassOf c e) n m h = (inclusion_met c e).1 (one_back (inclusion_of c e) h)
  parts_back (EquivalentClasses cs) n m h = equivalent_back cs h
  parts_back (DisjointClasses cs) n m h = disjoint_back cs h
  parts_back (DisjointUnion a cs) n m h = union_back a cs h
  parts_back (Domain r c) n m h =
      (domain_within r c).1
      ((inclusion_met (some_of r top) c).1 (one_back (inclusion_of (some_of r top) c) h))
  parts_back (Range r c) n m h = λ x y e. (normal_in w c y).0 (one_back (range_of r c) h x y e)
  parts_back (Functional r) n m h =
      (functional_within r).1
      ((inclusion_met top (at_most 1 r top)).1 (one_back (inclusion_of top (at_most 1 r top)) h))
  parts_back (SubRole r s) n m h = cc
  parts_back (EquivalentRoles rs) n m h = cc
  parts_back (Transitive r) n m h = cc
  parts_back (Member c a) n m h = cc
  parts_back (Pair r a b) n m h = cc
  parts_back (SameAll as_) n m h = cc
  parts_back (Different as_) n m h = cc

  -- ---- assertions

  -- the fact is not false of the individuals
  abbrev pub IsNotFalse : Fact Concept → Type 0
  IsNotFalse f = ¬ ¬ IsTrueAt w w.individual f

  abbrev AreOne : ℕ → ℕ → Type 0
  AreOne a b = ¬ ¬ (w.individual a ≡ w.individual b)

  abbrev Differ : ℕ → ℕ → Type 0
  Differ a b = ¬ (w.individual a ≡ w.individual b)

  same_met : (P : ℕ → Type 0) → ((a b : ℕ) → P a → P b → AreOne a b) → (as_ : List ℕ) → All P as_
      → All IsNotFalse (same_facts as_)
  same_met P one [] all = All-nil IsNotFalse
  same_met P one (a ∷ []) all = All-nil IsNotFalse
  same_met P one (a ∷ b ∷ bs) all =
      let rest = All-tail P a (b ∷ bs) all in
      All-cons IsNotFalse (Same a b) (same_facts (b ∷ bs))
      (one a b (All-head P a (b ∷ bs) all) (All-head P b bs rest)) (same_met P one (b ∷ bs) rest)

  same_back : (a : ℕ) (as_ : List ℕ) → All IsNotFalse (same_facts (a ∷ as_)) → All (AreOne a) (a ∷ as_)
  same_back a [] h = All-cons (AreOne a) a [] (λ k. k refl) (All-nil (AreOne a))
  same_back a (b ∷ bs) h =
      let here = All-head IsNotFalse (Same a b) (same_facts (b ∷ bs)) h in
      let rest = same_back b bs (All-tail IsNotFalse (Same a b) (same_facts (b ∷ bs)) h) in
      All-cons (AreOne a) a (b ∷ bs) (λ k. k refl)
      (All-weaker (AreOne b) (AreOne a) (λ c one k. here (λ e. one (λ f. k (e ∙ f)))) (b ∷ bs) rest)

  all_one : (as_ : List ℕ) → All IsNotFalse (same_facts as_) → All (λ a. All (AreOne a) as_) as_
  all_one [] h = All-nil (λ a. All (AreOne a) [])
  all_one (a ∷ as_) h =
      let all = a ∷ as_ in
      let from = same_back a as_ h in
      All-weaker (AreOne a) (λ b. All (AreOne b) all)
      (λ b to. All-weaker (AreOne a) (AreOne b) (λ c one k. to (λ e. one (λ f. k (sym e ∙ f)))) all from) all from

  apart_met : (as_ : List ℕ) → AllPairs Differ as_ → All IsNotFalse (apart_facts as_)
  apart_met [] h = All-nil IsNotFalse
  apart_met (a ∷ as_) h =
      All-append IsNotFalse (map (Apart a) as_) (apart_facts as_)
      (All-map IsNotFalse (Apart a) as_
      (All-weaker (Differ a) (λ b. IsNotFalse (Apart a b)) (λ b differ k. k differ) as_
      (pairs_head Differ a as_ h)))
      (apart_met as_ (pairs_tail Differ a as_ h))

  apart_back : (as_ : List ℕ) → All IsNotFalse (apart_facts as_) → AllPairs Differ as_
  apart_back [] h = no_pairs Differ
  apart_back (a ∷ as_) h =
      let b = all_split IsNotFalse (map (Apart a) as_) (apart_facts as_) h in
      AllPairs-cons Differ a as_
      (All-weaker (λ b. IsNotFalse (Apart a b)) (Differ a) (λ b n e. n (λ differ. differ e)) as_
      (all_mapped IsNotFalse (Apart a) as_ b.0))
      (apart_back as_ b.1)

  one_fact : (f : Fact Concept) → IsTrueAt w w.individual f → All IsNotFalse (f ∷ [])
  one_fact f h = All-cons IsNotFalse f [] (λ k. k h) (All-nil IsNotFalse)

  pub facts_met : (a : Axiom) → MeetsEverywhere w a → All IsNotFalse (facts_of a)
  facts_met (Member c a) h = one_fact (Has a (normal_form c)) ((normal_in w c (w.individual a)).1 h)
  facts_met (Pair r a b) h = one_fact (Edge r a b) h
  facts_met (SameAll as_) h =
      same_met (Contains as_)
      (λ a b in_a in_b. All-contains (AreOne a) as_ b (All-contains (λ c. All (AreOne c) as_) as_ a h in_a) in_b) as_
      (All-contains_itself as_)
  facts_met (Different as_) h = apart_met as_ h
  facts_met (SubClassOf c e) h = All-nil IsNotFalse
  facts_met (EquivalentClasses cs) h = All-nil IsNotFalse
  facts_met (DisjointClasses cs) h = All-nil IsNotFalse
  facts_met (DisjointUnion a cs) h = All-nil IsNotFalse
  facts_met (SubRole r s) h = All-nil IsNotFalse
  facts_met (EquivalentRoles rs) h = All-nil IsNotFalse
  facts_met (Domain r c) h = All-nil IsNotFalse
  facts_met (Range r c) h = All-nil IsNotFalse
  facts_met (Functional r) h = All-nil IsNotFalse
  facts_met (Transitive r) h = All-nil IsNotFalse

  pub facts_back : (a : Axiom) → is_assertion a ≡ true → All IsNotFalse (facts_of a) → MeetsEverywhere w a
  facts_back (Member c a) m h =
      (normal_in w c (w.individual a)).0
      (stable w (normal_form c) (w.individual a) (All-head IsNotFalse (Has a (normal_form c)) [] h))
  facts_back (Pair r a b) m h =
      is_true (w.in_role r (w.individual a) (w.individual b)) (All-head IsNotFalse (Edge r a b) [] h)
  facts_back (SameAll as_) m h = all_one as_ h
  facts_back (Different as_) m h = apart_back as_ h
  facts_back (SubClassOf c e) m h = cc
  facts_back (EquivalentClasses cs) m h = cc
  facts_back (DisjointClasses cs) m h = cc
  facts_back (DisjointUnion a cs) m h = cc
  facts_back (SubRole r s) m h = cc
  facts_back (EquivalentRoles rs) m h = cc
  facts_back (Domain r c) m h = cc
  facts_back (Range r c) m h = cc
  facts_back (Functional r) m h = cc
  facts_back (Transitive r) m h = cc

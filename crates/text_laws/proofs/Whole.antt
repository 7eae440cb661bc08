-- The limits of expressions and axioms as a walk over their items meets them, all in one test.
use Rattle.std.proofs.Common.{◌≡◌, ℕ, ◌+◌, ◌-◌, Bool, true, false, ◌&&◌, List, [], ◌∷◌, length, refl, ap, sym, ◌∙◌}
use Rattle.std.proofs.Common.{arith}
use Rattle.std.specs.Prelude.{nat_le}
use Rattle.std.specs.List.{list_all}
use Rattle.std.proofs.lemmas.Bool.{and_parts}
use Rattle.std.proofs.Math.Bool.{and_assoc}
use Rattle.shq_terms.specs.Concept.{Concept, top, bottom, name, complement, intersection, union, some_of, all_of}
use Rattle.shq_terms.specs.Concept.{at_least, at_most, exactly, Parts, no_parts, part, parts_of, part_list}
use Rattle.shq_terms.proofs.Bools.{and_turned, and_exchange}
use Rattle.shq_terms.specs.Listed.{Listed}
use Rattle.shq_terms.specs.declared.axioms.Axiom.{Axiom}
use Rattle.shq_terms.specs.declared.axioms.Axiom.TheVariants.{SubClassOf, EquivalentClasses, DisjointClasses}
use Rattle.shq_terms.specs.declared.axioms.Axiom.TheVariants.{DisjointUnion, SubRole, EquivalentRoles, Domain, Range}
use Rattle.shq_terms.specs.declared.axioms.Axiom.TheVariants.{Functional, Transitive, Member, Pair, SameAll, Different}
use Rattle.shq_terms.specs.declared.axioms.Numbered.{Numbered}
use Rattle.ontology_limits.specs.Counts.{has_counts_within, have_counts_within}
use Rattle.ontology_limits.specs.Facts.{facts_of}
use Rattle.ontology_limits.specs.Parts.{axiom_parts, axiom_has_counts_within}
use Rattle.ontology_limits.proofs.Pairs.{length_equivalent, length_union}
use Rattle.ontology_limits.specs.Limits.{has_enough_parts, have_enough_parts, has_enough_items, part_count}
use Rattle.ofn_reader.specs.Axioms.{pair_count}
use Rattle.text_laws.proofs.Counted.{pairs_counted, same_counted, apart_counted}
use Rattle.ofn_reader.specs.Held.{axiom_expressions, expression_count, parts_in, parts_held}
use Rattle.text_laws.specs.Writable.{is_named, is_readable, CanBeWritten}

-- both tests of an expression: two parts at least, and cardinalities of 100 at most
abbrev mutual
  pub is_whole : Concept → Bool
  is_whole top = true
  is_whole bottom = true
  is_whole (name a) = true
  is_whole (complement c) = is_whole c
  is_whole (intersection cs) = nat_le 2 (length (part_list cs)) && are_whole cs
  is_whole (union cs) = nat_le 2 (length (part_list cs)) && are_whole cs
  is_whole (some_of r c) = is_whole c
  is_whole (all_of r c) = is_whole c
  is_whole (at_least n r c) = nat_le n 100 && is_whole c
  is_whole (at_most n r c) = nat_le n 100 && is_whole c
  is_whole (exactly n r c) = nat_le n 100 && is_whole c

  pub are_whole : Parts → Bool
  are_whole no_parts = true
  are_whole (part c cs) = is_whole c && are_whole cs

abbrev pub has_whole_items : Axiom → Bool
has_whole_items (SubClassOf c d) = is_whole c && is_whole d
has_whole_items (EquivalentClasses cs) = are_whole (parts_of cs)
has_whole_items (DisjointClasses cs) = are_whole (parts_of cs)
has_whole_items (DisjointUnion c cs) = is_named c && are_whole (parts_of cs)
has_whole_items (SubRole r s) = true
has_whole_items (EquivalentRoles rs) = true
has_whole_items (Domain r c) = is_whole c
has_whole_items (Range r c) = is_whole c
has_whole_items (Functional r) = true
has_whole_items (Transitive r) = true
has_whole_items (Member c a) = is_whole c
has_whole_items (Pair r a b) = true
has_whole_items (SameAll as_) = true
has_whole_items (Different as_) = true

-- the items alone
abbrev pub has_item_count : Axiom → Bool
has_item_count (SubClassOf c d) = true
has_item_count (EquivalentClasses cs) = nat_le 2 (length cs)
has_item_count (DisjointClasses cs) = nat_le 2 (length cs)
has_item_count (DisjointUnion c cs) = nat_le 2 (length cs)
has_item_count (SubRole r s) = true
has_item_count (EquivalentRoles rs) = nat_le 2 (length rs)
has_item_count (Domain r c) = true
has_item_count (Range r c) = true
has_item_count (Functional r) = true
has_item_count (Transitive r) = true
has_item_count (Member c a) = true
has_item_count (Pair r a b) = true
has_item_count (SameAll as_) = nat_le 2 (length as_)
has_item_count (Different as_) = nat_le 2 (length as_)

abbrev pub is_whole_axiom : Axiom → Bool
is_whole_axiom a = has_item_count a && has_whole_items a

-- how many parts are counted for an axiom, by the number of its items
abbrev pub counted_parts : Axiom → ℕ
counted_parts (SubClassOf c d) = 1
counted_parts (EquivalentClasses cs) = length cs
counted_parts (DisjointClasses cs) = pair_count (length cs)
counted_parts (DisjointUnion c cs) = length cs + 1 + pair_count (length cs)
counted_parts (SubRole r s) = 0
counted_parts (EquivalentRoles rs) = 0
counted_parts (Domain r c) = 1
counted_parts (Range r c) = 1
counted_parts (Functional r) = 1
counted_parts (Transitive r) = 0
counted_parts (Member c a) = 1
counted_parts (Pair r a b) = 1
counted_parts (SameAll as_) = length as_ - 1
counted_parts (Different as_) = pair_count (length as_)

abbrev pub total : (Axiom → ℕ) → List Numbered → ℕ
total f [] = 0
total f (a ∷ more) = f a.axiom + total f more

-- ---- they are those of the specification

mutual
  pub whole_is : (c : Concept) → is_whole c ≡ (has_enough_parts c && has_counts_within 100 c)
  whole_is top = refl
  whole_is bottom = refl
  whole_is (name a) = refl
  whole_is (complement c) = whole_is c
  whole_is (intersection cs) =
      ap (λ b. nat_le 2 (length (part_list cs)) && b) (all_whole_is cs)
      ∙ sym (and_assoc (nat_le 2 (length (part_list cs))) (have_enough_parts cs) (have_counts_within 100 cs))
  whole_is (union cs) =
      ap (λ b. nat_le 2 (length (part_list cs)) && b) (all_whole_is cs)
      ∙ sym (and_assoc (nat_le 2 (length (part_list cs))) (have_enough_parts cs) (have_counts_within 100 cs))
  whole_is (some_of r c) = whole_is c
  whole_is (all_of r c) = whole_is c
  whole_is (at_least n r c) =
      ap (λ b. nat_le n 100 && b) (whole_is c)
      ∙ and_turned (nat_le n 100) (has_enough_parts c) (has_counts_within 100 c)
  whole_is (at_most n r c) =
      ap (λ b. nat_le n 100 && b) (whole_is c)
      ∙ and_turned (nat_le n 100) (has_enough_parts c) (has_counts_within 100 c)
  whole_is (exactly n r c) =
      ap (λ b. nat_le n 100 && b) (whole_is c)
      ∙ and_turned (nat_le n 100) (has_enough_parts c) (has_counts_within 100 c)

  pub all_whole_is : (cs : Parts) → are_whole cs ≡ (have_enough_parts cs && have_counts_within 100 cs)
  all_whole_is no_parts = refl
  all_whole_is (part c cs) =
      (λ i. whole_is c i && all_whole_is cs i)
      ∙ and_exchange (has_enough_parts c) (has_counts_within 100 c) (have_enough_parts cs) (have_counts_within 100 cs)

many_whole : (enough : Bool) (cs : Parts)
    → (enough && are_whole cs) ≡ ((enough && have_enough_parts cs) && have_counts_within 100 cs)
many_whole enough cs =
    ap (λ b. enough && b) (all_whole_is cs) ∙ sym (and_assoc enough (have_enough_parts cs) (have_counts_within 100 cs))

no_name : (enough whole : Bool) → (enough && (false && whole)) ≡ false
no_name true whole = refl
no_name false whole = refl

union_whole : (c : Concept) (cs : List Concept)
    → is_whole_axiom (DisjointUnion c cs)
    ≡ (is_readable (DisjointUnion c cs)
    && (has_enough_items (DisjointUnion c cs) && axiom_has_counts_within 100 (DisjointUnion c cs)))
union_whole top cs = many_whole (nat_le 2 (length cs)) (parts_of cs)
union_whole bottom cs = many_whole (nat_le 2 (length cs)) (parts_of cs)
union_whole (name a) cs = many_whole (nat_le 2 (length cs)) (parts_of cs)
union_whole (complement c) cs = no_name (nat_le 2 (length cs)) (are_whole (parts_of cs))
union_whole (intersection ds) cs = no_name (nat_le 2 (length cs)) (are_whole (parts_of cs))
union_whole (union ds) cs = no_name (nat_le 2 (length cs)) (are_whole (parts_of cs))
union_whole (some_of r c) cs = no_name (nat_le 2 (length cs)) (are_whole (parts_of cs))
union_whole (all_of r c) cs = no_name (nat_le 2 (length cs)) (are_whole (parts_of cs))
union_whole (at_least n r c) cs = no_name (nat_le 2 (length cs)) (are_whole (parts_of cs))
union_whole (at_most n r c) cs = no_name (nat_le 2 (length cs)) (are_whole (parts_of cs))
union_whole (exactly n r c) cs = no_name (nat_le 2 (length cs)) (are_whole (parts_of cs))

pub axiom_whole_is : (a : Axiom)
    → is_whole_axiom a ≡ (is_readable a && (has_enough_items a && axiom_has_counts_within 100 a))
axiom_whole_is (SubClassOf c d) =
    (λ i. whole_is c i && whole_is d i)
    ∙ and_exchange (has_enough_parts c) (has_counts_within 100 c) (has_enough_parts d) (has_counts_within 100 d)
axiom_whole_is (EquivalentClasses cs) = many_whole (nat_le 2 (length cs)) (parts_of cs)
axiom_whole_is (DisjointClasses cs) = many_whole (nat_le 2 (length cs)) (parts_of cs)
axiom_whole_is (DisjointUnion c cs) = union_whole c cs
axiom_whole_is (SubRole r s) = refl
axiom_whole_is (EquivalentRoles rs) = refl
axiom_whole_is (Domain r c) = whole_is c
axiom_whole_is (Range r c) = whole_is c
axiom_whole_is (Functional r) = refl
axiom_whole_is (Transitive r) = refl
axiom_whole_is (Member c a) = whole_is c
axiom_whole_is (Pair r a b) = refl
axiom_whole_is (SameAll as_) = refl
axiom_whole_is (Different as_) = refl

-- ---- of all axioms

abbrev all_readable : List Numbered → Bool
all_readable xs = list_all (λ (a : Numbered). is_readable a.axiom) xs

abbrev all_enough : List Numbered → Bool
all_enough xs = list_all (λ (a : Numbered). has_enough_items a.axiom) xs

abbrev all_counts : List Numbered → Bool
all_counts xs = list_all (λ (a : Numbered). axiom_has_counts_within 100 a.axiom) xs

abbrev pub all_whole : List Numbered → Bool
all_whole xs = list_all (λ (a : Numbered). is_whole_axiom a.axiom) xs

axioms_whole_are : (xs : List Numbered) → all_whole xs ≡ (all_readable xs && (all_enough xs && all_counts xs))
axioms_whole_are [] = refl
axioms_whole_are (a ∷ xs) =
    let n = is_readable a.axiom in
    let e = has_enough_items a.axiom in
    let k = axiom_has_counts_within 100 a.axiom in
    (λ i. axiom_whole_is a.axiom i && axioms_whole_are xs i)
    ∙ and_exchange n (e && k) (all_readable xs) (all_enough xs && all_counts xs)
    ∙ ap (λ b. (n && all_readable xs) && b) (and_exchange e k (all_enough xs) (all_counts xs))

whole_from_limits : (xs : List Numbered) → all_readable xs ≡ true → all_enough xs ≡ true → all_counts xs ≡ true
    → all_whole xs ≡ true
whole_from_limits xs readable enough counts = axioms_whole_are xs ∙ (λ i. readable i && (enough i && counts i))

pub whole_of : (o : Listed) → CanBeWritten o → all_whole o.axioms ≡ true
whole_of o can = whole_from_limits o.axioms can.readable can.within.items can.within.counts

pub record AreInLimits (xs : List Numbered) : Type 0 where
  pub readable : list_all (λ (a : Numbered). is_readable a.axiom) xs ≡ true
  pub items : list_all (λ (a : Numbered). has_enough_items a.axiom) xs ≡ true
  pub counts : list_all (λ (a : Numbered). axiom_has_counts_within 100 a.axiom) xs ≡ true

pub limits_from_whole : (xs : List Numbered) → all_whole xs ≡ true → AreInLimits xs
limits_from_whole xs h =
    let b = and_parts (all_readable xs) (all_enough xs && all_counts xs) (sym (axioms_whole_are xs) ∙ h) in
    let c = and_parts (all_enough xs) (all_counts xs) b.1 in
    record { readable = b.0; items = c.0; counts = c.1 }

-- ---- numbers of parts and of expressions

parts_are : (a : Axiom) → counted_parts a ≡ length (axiom_parts a) + length (facts_of a)
parts_are (SubClassOf c d) = refl
parts_are (EquivalentClasses cs) = omega (arith, length_equivalent cs)
parts_are (DisjointClasses cs) = let pairs = pairs_counted cs (length cs) refl in omega (arith, pairs)
parts_are (DisjointUnion c cs) =
    let pairs = pairs_counted cs (length cs) refl in omega (arith, pairs, length_union c cs)
parts_are (SubRole r s) = refl
parts_are (EquivalentRoles rs) = refl
parts_are (Domain r c) = refl
parts_are (Range r c) = refl
parts_are (Functional r) = refl
parts_are (Transitive r) = refl
parts_are (Member c a) = refl
parts_are (Pair r a b) = refl
parts_are (SameAll as_) = let facts = same_counted as_ in omega (arith, facts)
parts_are (Different as_) = let facts = apart_counted as_ (length as_) refl in omega (arith, facts)

pub part_total : (xs : List Numbered) → total counted_parts xs ≡ part_count xs
part_total [] = refl
part_total (a ∷ xs) = omega (arith, parts_are a.axiom, part_total xs)

held_is : (a : Axiom) → counted_parts a ≡ parts_in a
held_is (SubClassOf c d) = refl
held_is (EquivalentClasses cs) = refl
held_is (DisjointClasses cs) = refl
held_is (DisjointUnion c cs) =
    let less : length cs ≡ length cs + 1 - 1 = omega arith in ap (λ n. length cs + 1 + pair_count n) less
held_is (SubRole r s) = refl
held_is (EquivalentRoles rs) = refl
held_is (Domain r c) = refl
held_is (Range r c) = refl
held_is (Functional r) = refl
held_is (Transitive r) = refl
held_is (Member c a) = refl
held_is (Pair r a b) = refl
held_is (SameAll as_) = refl
held_is (Different as_) = refl

-- what a later reader counts
pub held_total : (xs : List Numbered) → total counted_parts xs ≡ parts_held xs
held_total [] = refl
held_total (a ∷ xs) = omega (arith, held_is a.axiom, held_total xs)

pub expression_total : (xs : List Numbered) → total axiom_expressions xs ≡ expression_count xs
expression_total [] = refl
expression_total (a ∷ xs) = omega (arith, expression_total xs)

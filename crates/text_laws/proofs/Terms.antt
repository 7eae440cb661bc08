-- Class expressions and axioms as phrases.
use Rattle.std.proofs.Common.{◌≡◌, ℕ, zero, suc, ◌+◌, ◌<◌, ◌≤◌, max, Bool, true, not, ◌&&◌, List, [], ◌∷◌, length, refl}
use Rattle.std.proofs.Common.{ap, ◌∙◌, arith, codes, decimal, nat_lt}
use Rattle.std.specs.Prelude.{nat_le, slice_index_or, is_none, Some, None, cond}
use Rattle.std.specs.List.{list_all}
use Rattle.std.specs.Str.{IsUtf8, IsAscii, is_utf8}
use Rattle.std.specs.Str.Parse.{AllDigits, digits_value}
use Rattle.std.proofs.lemmas.Str.{IsUtf8-from_ascii, IsUtf8-from_is_utf8}
use Rattle.std.proofs.lemmas.Str.Parse.{digit_from_value}
use Rattle.std.proofs.lemmas.Fmt.{decimal_is_IsNumeral, IsAscii-decimal}
use Rattle.std.proofs.lemmas.Grind.{common_steps}
use Rattle.std.proofs.lemmas.Bool.{and_parts, and_from}
use Rattle.shq_terms.specs.Concept.{Concept, top, bottom, name, complement, intersection, union, some_of, all_of}
use Rattle.shq_terms.specs.Concept.{at_least, at_most, exactly, Parts, no_parts, part, parts_of, part_list}
use Rattle.shq_terms.specs.Listed.{Listed}
use Rattle.shq_terms.specs.Uses.{uses_listed, parts_use_listed, axiom_uses_listed}
use Rattle.shq_terms.specs.declared.axioms.Axiom.{Axiom}
use Rattle.shq_terms.specs.declared.axioms.Axiom.TheVariants.{SubClassOf, EquivalentClasses, DisjointClasses}
use Rattle.shq_terms.specs.declared.axioms.Axiom.TheVariants.{DisjointUnion, SubRole, EquivalentRoles, Domain, Range}
use Rattle.shq_terms.specs.declared.axioms.Axiom.TheVariants.{Functional, Transitive, Member, Pair, SameAll, Different}
use Rattle.ofn_tree.specs.Lexemes.{is_iri_byte, is_name_byte}
use Rattle.ofn_tree.specs.Items.{nesting, nesting_all}
use Rattle.ofn_expressions.specs.Constructs.{excluded_role_name}
use Rattle.ofn_expressions.specs.Classes.{is_digit, cardinality_in, is_thing, is_nothing}
use Rattle.ofn_writer.specs.Canonical.{individual_text, individual_texts, group_text, concept_text, part_texts}
use Rattle.ofn_writer.specs.Canonical.{role_text, role_texts, axiom_text}
use Rattle.ofn_reader.specs.Held.{expressions}
use Rattle.text_laws.specs.Writable.{is_iri, is_class_iri, is_role_iri, brackets, most_brackets, is_named}
use Rattle.text_laws.specs.Writable.{axiom_brackets}
use Rattle.text_laws.proofs.Whole.{is_whole, are_whole, has_whole_items}
use Rattle.text_laws.proofs.Checks.{true_lt, true_le}
use Rattle.text_laws.proofs.Phrases.{Phrase, word, iri, call, Phrases, none, more, text_of, texts_of, is_name}
use Rattle.text_laws.proofs.Phrases.{can_stand, can_all_stand, item_of, all_items}

abbrev pub class_phrase : Listed → ℕ → Phrase
class_phrase o a = iri (slice_index_or o.classes a [])

abbrev pub role_phrase : Listed → ℕ → Phrase
role_phrase o r = iri (slice_index_or o.roles r [])

abbrev pub one : Phrase → Phrases
one p = more p none

abbrev pub two : Phrase → Phrase → Phrases
two p q = more p (more q none)

abbrev pub three : Phrase → Phrase → Phrase → Phrases
three p q r = more p (more q (more r none))

abbrev mutual
  pub concept_phrase : Listed → Concept → Phrase
  concept_phrase o top = word (codes "owl:Thing")
  concept_phrase o bottom = word (codes "owl:Nothing")
  concept_phrase o (name a) = class_phrase o a
  concept_phrase o (complement c) = call (codes "ObjectComplementOf") (one (concept_phrase o c))
  concept_phrase o (intersection cs) = call (codes "ObjectIntersectionOf") (part_phrases o cs)
  concept_phrase o (union cs) = call (codes "ObjectUnionOf") (part_phrases o cs)
  concept_phrase o (some_of r c) = call (codes "ObjectSomeValuesFrom") (two (role_phrase o r) (concept_phrase o c))
  concept_phrase o (all_of r c) = call (codes "ObjectAllValuesFrom") (two (role_phrase o r) (concept_phrase o c))
  concept_phrase o (at_least n r c) =
      call (codes "ObjectMinCardinality") (three (word (decimal n)) (role_phrase o r) (concept_phrase o c))
  concept_phrase o (at_most n r c) =
      call (codes "ObjectMaxCardinality") (three (word (decimal n)) (role_phrase o r) (concept_phrase o c))
  concept_phrase o (exactly n r c) =
      call (codes "ObjectExactCardinality") (three (word (decimal n)) (role_phrase o r) (concept_phrase o c))

  pub part_phrases : Listed → Parts → Phrases
  part_phrases o no_parts = none
  part_phrases o (part c cs) = more (concept_phrase o c) (part_phrases o cs)

abbrev pub role_phrases : Listed → List ℕ → Phrases
role_phrases o [] = none
role_phrases o (r ∷ rs) = more (role_phrase o r) (role_phrases o rs)

abbrev pub individual_phrase : Listed → ℕ → Phrase
individual_phrase o a = iri (slice_index_or o.individuals a [])

abbrev pub individual_phrases : Listed → List ℕ → Phrases
individual_phrases o [] = none
individual_phrases o (a ∷ as_) = more (individual_phrase o a) (individual_phrases o as_)

abbrev pub axiom_phrase : Listed → Axiom → Phrase
axiom_phrase o (SubClassOf c d) = call (codes "SubClassOf") (two (concept_phrase o c) (concept_phrase o d))
axiom_phrase o (EquivalentClasses cs) = call (codes "EquivalentClasses") (part_phrases o (parts_of cs))
axiom_phrase o (DisjointClasses cs) = call (codes "DisjointClasses") (part_phrases o (parts_of cs))
axiom_phrase o (DisjointUnion c cs) =
    call (codes "DisjointUnion") (more (concept_phrase o c) (part_phrases o (parts_of cs)))
axiom_phrase o (SubRole r s) = call (codes "SubObjectPropertyOf") (two (role_phrase o r) (role_phrase o s))
axiom_phrase o (EquivalentRoles rs) = call (codes "EquivalentObjectProperties") (role_phrases o rs)
axiom_phrase o (Domain r c) = call (codes "ObjectPropertyDomain") (two (role_phrase o r) (concept_phrase o c))
axiom_phrase o (Range r c) = call (codes "ObjectPropertyRange") (two (role_phrase o r) (concept_phrase o c))
axiom_phrase o (Functional r) = call (codes "FunctionalObjectProperty") (one (role_phrase o r))
axiom_phrase o (Transitive r) = call (codes "TransitiveObjectProperty") (one (role_phrase o r))
axiom_phrase o (Member c a) = call (codes "ClassAssertion") (two (concept_phrase o c) (individual_phrase o a))
axiom_phrase o (Pair r a b) =
    call (codes "ObjectPropertyAssertion") (three (role_phrase o r) (individual_phrase o a) (individual_phrase o b))
axiom_phrase o (SameAll as_) = call (codes "SameIndividual") (individual_phrases o as_)
axiom_phrase o (Different as_) = call (codes "DifferentIndividuals") (individual_phrases o as_)

-- a class that is named has no parts
pub named_alone : (c : Concept) → is_named c ≡ true → (is_whole c ≡ true) × (expressions c ≡ 1)
named_alone top h = (refl, refl)
named_alone bottom h = (refl, refl)
named_alone (name a) h = (refl, refl)
named_alone (complement c) h = cc
named_alone (intersection cs) h = cc
named_alone (union cs) h = cc
named_alone (some_of r c) h = cc
named_alone (all_of r c) h = cc
named_alone (at_least n r c) h = cc
named_alone (at_most n r c) h = cc
named_alone (exactly n r c) h = cc

-- ---- their texts

module _ (o : Listed) where
  mutual
    pub concept_written : (c : Concept) → text_of (concept_phrase o c) ≡ concept_text o c
    concept_written top = refl
    concept_written bottom = refl
    concept_written (name a) = refl
    concept_written (complement c) = ap (λ t. group_text (codes "ObjectComplementOf") (t ∷ [])) (concept_written c)
    concept_written (intersection cs) = ap (group_text (codes "ObjectIntersectionOf")) (parts_written cs)
    concept_written (union cs) = ap (group_text (codes "ObjectUnionOf")) (parts_written cs)
    concept_written (some_of r c) =
        ap (λ t. group_text (codes "ObjectSomeValuesFrom") (role_text o r ∷ t ∷ [])) (concept_written c)
    concept_written (all_of r c) =
        ap (λ t. group_text (codes "ObjectAllValuesFrom") (role_text o r ∷ t ∷ [])) (concept_written c)
    concept_written (at_least n r c) =
        ap (λ t. group_text (codes "ObjectMinCardinality") (decimal n ∷ role_text o r ∷ t ∷ [])) (concept_written c)
    concept_written (at_most n r c) =
        ap (λ t. group_text (codes "ObjectMaxCardinality") (decimal n ∷ role_text o r ∷ t ∷ [])) (concept_written c)
    concept_written (exactly n r c) =
        ap (λ t. group_text (codes "ObjectExactCardinality") (decimal n ∷ role_text o r ∷ t ∷ [])) (concept_written c)

    pub parts_written : (cs : Parts) → texts_of (part_phrases o cs) ≡ part_texts o cs
    parts_written no_parts = refl
    parts_written (part c cs) = λ i. concept_written c i ∷ parts_written cs i

  pub roles_written : (rs : List ℕ) → texts_of (role_phrases o rs) ≡ role_texts o rs
  roles_written [] = refl
  roles_written (r ∷ rs) = ap (λ ts. role_text o r ∷ ts) (roles_written rs)

  individuals_written : (as_ : List ℕ) → texts_of (individual_phrases o as_) ≡ individual_texts o as_
  individuals_written [] = refl
  individuals_written (a ∷ as_) = ap (λ ts. individual_text o a ∷ ts) (individuals_written as_)

  pub axiom_written : (a : Axiom) → text_of (axiom_phrase o a) ≡ axiom_text o a
  axiom_written (SubClassOf c d) = λ i. group_text (codes "SubClassOf") (concept_written c i ∷ concept_written d i ∷ [])
  axiom_written (EquivalentClasses cs) = ap (group_text (codes "EquivalentClasses")) (parts_written (parts_of cs))
  axiom_written (DisjointClasses cs) = ap (group_text (codes "DisjointClasses")) (parts_written (parts_of cs))
  axiom_written (DisjointUnion c cs) =
      λ i. group_text (codes "DisjointUnion") (concept_written c i ∷ parts_written (parts_of cs) i)
  axiom_written (SubRole r s) = refl
  axiom_written (EquivalentRoles rs) = ap (group_text (codes "EquivalentObjectProperties")) (roles_written rs)
  axiom_written (Domain r c) =
      ap (λ t. group_text (codes "ObjectPropertyDomain") (role_text o r ∷ t ∷ [])) (concept_written c)
  axiom_written (Range r c) =
      ap (λ t. group_text (codes "ObjectPropertyRange") (role_text o r ∷ t ∷ [])) (concept_written c)
  axiom_written (Functional r) = refl
  axiom_written (Transitive r) = refl
  axiom_written (Member c a) =
      ap (λ t. group_text (codes "ClassAssertion") (t ∷ individual_text o a ∷ [])) (concept_written c)
  axiom_written (Pair r a b) = refl
  axiom_written (SameAll as_) = ap (group_text (codes "SameIndividual")) (individuals_written as_)
  axiom_written (Different as_) = ap (group_text (codes "DifferentIndividuals")) (individuals_written as_)

  -- ---- how deep they nest

  mutual
    pub concept_nests : (n : ℕ) (c : Concept) → nesting (item_of n (concept_phrase o c)) ≡ brackets c
    concept_nests n top = refl
    concept_nests n bottom = refl
    concept_nests n (name a) = refl
    concept_nests n (complement c) = omega (arith, concept_nests n c)
    concept_nests n (intersection cs) = ap (λ k. k + 1) (parts_nest n cs)
    concept_nests n (union cs) = ap (λ k. k + 1) (parts_nest n cs)
    concept_nests n (some_of r c) = omega (arith, concept_nests n c)
    concept_nests n (all_of r c) = omega (arith, concept_nests n c)
    concept_nests n (at_least k r c) = omega (arith, concept_nests n c)
    concept_nests n (at_most k r c) = omega (arith, concept_nests n c)
    concept_nests n (exactly k r c) = omega (arith, concept_nests n c)

    pub parts_nest : (n : ℕ) (cs : Parts) → nesting_all (all_items n (part_phrases o cs)) ≡ most_brackets cs
    parts_nest n no_parts = refl
    parts_nest n (part c cs) = λ i. max (concept_nests n c i) (parts_nest n cs i)

  roles_nest : (n : ℕ) (rs : List ℕ) → nesting_all (all_items n (role_phrases o rs)) ≡ 0
  roles_nest n [] = refl
  roles_nest n (r ∷ rs) = omega (arith, roles_nest n rs)

  individuals_nest : (n : ℕ) (as_ : List ℕ) → nesting_all (all_items n (individual_phrases o as_)) ≡ 0
  individuals_nest n [] = refl
  individuals_nest n (a ∷ as_) = omega (arith, individuals_nest n as_)

  named_nests : (n : ℕ) (c : Concept) → is_named c ≡ true → nesting (item_of n (concept_phrase o c)) ≡ 0
  named_nests n top h = refl
  named_nests n bottom h = refl
  named_nests n (name a) h = refl
  named_nests n (complement c) h = cc
  named_nests n (intersection cs) h = cc
  named_nests n (union cs) h = cc
  named_nests n (some_of r c) h = cc
  named_nests n (all_of r c) h = cc
  named_nests n (at_least k r c) h = cc
  named_nests n (at_most k r c) h = cc
  named_nests n (exactly k r c) h = cc

  pub axiom_nests : (n : ℕ) (a : Axiom) → has_whole_items a ≡ true
      → nesting (item_of n (axiom_phrase o a)) ≡ axiom_brackets a
  axiom_nests n (SubClassOf c d) h = omega (arith, concept_nests n c, concept_nests n d)
  axiom_nests n (EquivalentClasses cs) h = ap (λ k. k + 1) (parts_nest n (parts_of cs))
  axiom_nests n (DisjointClasses cs) h = ap (λ k. k + 1) (parts_nest n (parts_of cs))
  axiom_nests n (DisjointUnion c cs) h =
      omega (arith, named_nests n c (and_parts (is_named c) (are_whole (parts_of cs)) h).0, parts_nest n (parts_of cs))
  axiom_nests n (SubRole r s) h = refl
  axiom_nests n (EquivalentRoles rs) h = ap (λ k. k + 1) (roles_nest n rs)
  axiom_nests n (Domain r c) h = omega (arith, concept_nests n c)
  axiom_nests n (Range r c) h = omega (arith, concept_nests n c)
  axiom_nests n (Functional r) h = refl
  axiom_nests n (Transitive r) h = refl
  axiom_nests n (Member c a) h = omega (arith, concept_nests n c)
  axiom_nests n (Pair r a b) h = refl
  axiom_nests n (SameAll as_) h = ap (λ k. k + 1) (individuals_nest n as_)
  axiom_nests n (Different as_) h = ap (λ k. k + 1) (individuals_nest n as_)

-- ---- they may stand in a text

-- the phrase is UTF-8
abbrev mutual
  pub IsText : Phrase → Type 0
  IsText (word w) = IsUtf8 w
  IsText (iri w) = IsUtf8 w
  IsText (call w ps) = IsUtf8 w × AreTexts ps

  pub AreTexts : Phrases → Type 0
  AreTexts none = Unit {0}
  AreTexts (more p ps) = IsText p × AreTexts ps

abbrev is_low : ℕ → Bool
is_low b = nat_lt b 128

low_at : (bs : List ℕ) → list_all is_low bs ≡ true → IsAscii bs
low_at [] all i = omega arith
low_at (b ∷ bs) all zero = true_lt b 128 (and_parts (is_low b) (list_all is_low bs) all).0
low_at (b ∷ bs) all (suc i) = low_at bs (and_parts (is_low b) (list_all is_low bs) all).1 i

pub low_text : (bs : List ℕ) → list_all is_low bs ≡ true → IsUtf8 bs
low_text bs all = IsUtf8-from_ascii bs (low_at bs all)

digit_passes : (b : ℕ) → 48 ≤ b → b ≤ 57 → (is_digit b ≡ true) × (is_name_byte b ≡ true)
digit_passes b low high = (grind (arith, common_steps), grind (arith, common_steps))

digits_pass : (ds : List ℕ) → AllDigits 10 ds → (list_all is_digit ds ≡ true) × (list_all is_name_byte ds ≡ true)
digits_pass [] all = (refl, refl)
digits_pass (d ∷ ds) all =
    let range = digit_from_value d all.0 in
    let here = digit_passes d range.0 range.1 in
    let others = digits_pass ds all.1 in (
      and_from (is_digit d) (list_all is_digit ds) here.0 others.0,
      and_from (is_name_byte d) (list_all is_name_byte ds) here.1 others.1,
    )

name_of : (ds : List ℕ) → 0 < length ds → list_all is_name_byte ds ≡ true → is_name ds ≡ true
name_of [] some all = absurd (omega (arith, some))
name_of (d ∷ ds) some all = all

pub decimal_name : (n : ℕ) → n ≤ 100 → is_name (decimal n) ≡ true
decimal_name n few =
    let numeral = decimal_is_IsNumeral n (omega arith) in
    name_of (decimal n) numeral.0.0 (digits_pass (decimal n) numeral.0.1).1

pub decimal_text : (n : ℕ) → n ≤ 100 → IsUtf8 (decimal n)
decimal_text n few = IsUtf8-from_ascii (decimal n) (IsAscii-decimal n (omega arith))

number_of_digits : (ds : List ℕ) (n : ℕ) → 0 < length ds → list_all is_digit ds ≡ true → digits_value 10 ds ≡ n
    → cardinality_in ds ≡ Some n
number_of_digits [] n some all value = absurd (omega (arith, some))
number_of_digits (d ∷ ds) n some all value = ap (λ v. cond v (Some (digits_value 10 (d ∷ ds))) None) all ∙ ap Some value

pub decimal_number : (n : ℕ) → n ≤ 100 → cardinality_in (decimal n) ≡ Some n
decimal_number n few =
    let numeral = decimal_is_IsNumeral n (omega arith) in
    number_of_digits (decimal n) n numeral.0.0 (digits_pass (decimal n) numeral.0.1).0 numeral.1

-- the names of an ontology
pub record AreSpelled (o : Listed) : Type 0 where
  pub class_iri : (a : ℕ) → a < length o.classes → is_class_iri (slice_index_or o.classes a []) ≡ true
  pub role_iri : (r : ℕ) → r < length o.roles → is_role_iri (slice_index_or o.roles r []) ≡ true
  pub individual_iri : (a : ℕ) → a < length o.individuals → is_iri (slice_index_or o.individuals a []) ≡ true

pub iri_stands : (w : List ℕ) (also : Bool) → (is_iri w && also) ≡ true → (list_all is_iri_byte w ≡ true) × IsUtf8 w
iri_stands w also h =
    let both : is_iri w ≡ true = (and_parts (is_iri w) also h).0 in (
      (and_parts (is_utf8 w) (list_all is_iri_byte w) both).1,
      IsUtf8-from_is_utf8 w (and_parts (is_utf8 w) (list_all is_iri_byte w) both).0,
    )

abbrev pub Stands : Phrase → Type 0
Stands p = (can_stand p ≡ true) × IsText p

abbrev pub AllStand : Phrases → Type 0
AllStand ps = (can_all_stand ps ≡ true) × AreTexts ps

pub stands_call : (w : List ℕ) (ps : Phrases) → is_name w ≡ true → list_all is_low w ≡ true → AllStand ps
    → Stands (call w ps)
stands_call w ps named low inner = (and_from (is_name w) (can_all_stand ps) named inner.0, (low_text w low, inner.1))

pub stand_more : (p : Phrase) (ps : Phrases) → Stands p → AllStand ps → AllStand (more p ps)
stand_more p ps first others = (and_from (can_stand p) (can_all_stand ps) first.0 others.0, (first.1, others.1))

stand_none : AllStand none
stand_none = (refl, tt)

pub stand_one : (p : Phrase) → Stands p → AllStand (one p)
stand_one p first = stand_more p none first stand_none

pub stand_two : (p q : Phrase) → Stands p → Stands q → AllStand (two p q)
stand_two p q first second = stand_more p (one q) first (stand_one q second)

stand_three : (p q r : Phrase) → Stands p → Stands q → Stands r → AllStand (three p q r)
stand_three p q r first second third = stand_more p (two q r) first (stand_two q r second third)

module _ (o : Listed) (names : AreSpelled o) where
  class_stands : (a : ℕ) → nat_lt a (length o.classes) ≡ true → Stands (class_phrase o a)
  class_stands a less =
      let w : List ℕ = slice_index_or o.classes a [] in
      iri_stands w (not (is_thing w) && not (is_nothing w)) (names.class_iri a (true_lt a (length o.classes) less))

  role_stands : (r : ℕ) → nat_lt r (length o.roles) ≡ true → Stands (role_phrase o r)
  role_stands r less =
      let w : List ℕ = slice_index_or o.roles r [] in
      iri_stands w (is_none (excluded_role_name w)) (names.role_iri r (true_lt r (length o.roles) less))

  individual_stands : (a : ℕ) → nat_lt a (length o.individuals) ≡ true → Stands (individual_phrase o a)
  individual_stands a less =
      let w : List ℕ = slice_index_or o.individuals a [] in
      iri_stands w true (and_from (is_iri w) true (names.individual_iri a (true_lt a (length o.individuals) less)) refl)

  individuals_stand : (as_ : List ℕ) → list_all (λ a. nat_lt a (length o.individuals)) as_ ≡ true
      → AllStand (individual_phrases o as_)
  individuals_stand [] known = stand_none
  individuals_stand (a ∷ as_) known =
      let both =
      and_parts (nat_lt a (length o.individuals)) (list_all (λ b. nat_lt b (length o.individuals)) as_) known in
      stand_more (individual_phrase o a) (individual_phrases o as_) (individual_stands a both.0)
      (individuals_stand as_ both.1)

  number_stands : (n : ℕ) → nat_le n 100 ≡ true → Stands (word (decimal n))
  number_stands n few = (decimal_name n (true_le n 100 few), decimal_text n (true_le n 100 few))

  bounded_stands : (w : List ℕ) (n r : ℕ) (c : Concept) → is_name w ≡ true → list_all is_low w ≡ true
      → nat_le n 100 ≡ true → nat_lt r (length o.roles) ≡ true → Stands (concept_phrase o c)
      → Stands (call w (three (word (decimal n)) (role_phrase o r) (concept_phrase o c)))
  bounded_stands w n r c named low few less inner =
      stands_call w (three (word (decimal n)) (role_phrase o r) (concept_phrase o c)) named low
      (stand_three (word (decimal n)) (role_phrase o r) (concept_phrase o c) (number_stands n few) (role_stands r less)
      inner)

  valued_stands : (w : List ℕ) (r : ℕ) (c : Concept) → is_name w ≡ true → list_all is_low w ≡ true
      → nat_lt r (length o.roles) ≡ true → Stands (concept_phrase o c)
      → Stands (call w (two (role_phrase o r) (concept_phrase o c)))
  valued_stands w r c named low less inner =
      stands_call w (two (role_phrase o r) (concept_phrase o c)) named low
      (stand_two (role_phrase o r) (concept_phrase o c) (role_stands r less) inner)

  abbrev listed : Concept → Bool
  listed c = uses_listed (length o.classes) (length o.roles) c

  abbrev all_listed : Parts → Bool
  all_listed cs = parts_use_listed (length o.classes) (length o.roles) cs

  mutual
    pub concept_stands : (c : Concept) → listed c ≡ true → is_whole c ≡ true → Stands (concept_phrase o c)
    concept_stands top known whole = (refl, low_text (codes "owl:Thing") refl)
    concept_stands bottom known whole = (refl, low_text (codes "owl:Nothing") refl)
    concept_stands (name a) known whole = class_stands a known
    concept_stands (complement c) known whole =
        stands_call (codes "ObjectComplementOf") (one (concept_phrase o c)) refl refl
        (stand_one (concept_phrase o c) (concept_stands c known whole))
    concept_stands (intersection cs) known whole =
        stands_call (codes "ObjectIntersectionOf") (part_phrases o cs) refl refl
        (parts_stand cs known (and_parts (nat_le 2 (length (part_list cs))) (are_whole cs) whole).1)
    concept_stands (union cs) known whole =
        stands_call (codes "ObjectUnionOf") (part_phrases o cs) refl refl
        (parts_stand cs known (and_parts (nat_le 2 (length (part_list cs))) (are_whole cs) whole).1)
    concept_stands (some_of r c) known whole =
        valued_stands (codes "ObjectSomeValuesFrom") r c refl refl
        (and_parts (nat_lt r (length o.roles)) (listed c) known).0
        (concept_stands c (and_parts (nat_lt r (length o.roles)) (listed c) known).1 whole)
    concept_stands (all_of r c) known whole =
        valued_stands (codes "ObjectAllValuesFrom") r c refl refl
        (and_parts (nat_lt r (length o.roles)) (listed c) known).0
        (concept_stands c (and_parts (nat_lt r (length o.roles)) (listed c) known).1 whole)
    concept_stands (at_least n r c) known whole =
        bounded_stands (codes "ObjectMinCardinality") n r c refl refl (and_parts (nat_le n 100) (is_whole c) whole).0
        (and_parts (nat_lt r (length o.roles)) (listed c) known).0
        (concept_stands c (and_parts (nat_lt r (length o.roles)) (listed c) known).1
        (and_parts (nat_le n 100) (is_whole c) whole).1)
    concept_stands (at_most n r c) known whole =
        bounded_stands (codes "ObjectMaxCardinality") n r c refl refl (and_parts (nat_le n 100) (is_whole c) whole).0
        (and_parts (nat_lt r (length o.roles)) (listed c) known).0
        (concept_stands c (and_parts (nat_lt r (length o.roles)) (listed c) known).1
        (and_parts (nat_le n 100) (is_whole c) whole).1)
    concept_stands (exactly n r c) known whole =
        bounded_stands (codes "ObjectExactCardinality") n r c refl refl (and_parts (nat_le n 100) (is_whole c) whole).0
        (and_parts (nat_lt r (length o.roles)) (listed c) known).0
        (concept_stands c (and_parts (nat_lt r (length o.roles)) (listed c) known).1
        (and_parts (nat_le n 100) (is_whole c) whole).1)

    pub parts_stand : (cs : Parts) → all_listed cs ≡ true → are_whole cs ≡ true → AllStand (part_phrases o cs)
    parts_stand no_parts known whole = stand_none
    parts_stand (part c cs) known whole =
        stand_more (concept_phrase o c) (part_phrases o cs)
        (concept_stands c (and_parts (listed c) (all_listed cs) known).0
        (and_parts (is_whole c) (are_whole cs) whole).0)
        (parts_stand cs (and_parts (listed c) (all_listed cs) known).1 (and_parts (is_whole c) (are_whole cs) whole).1)

  roles_stand : (rs : List ℕ) → list_all (λ r. nat_lt r (length o.roles)) rs ≡ true → AllStand (role_phrases o rs)
  roles_stand [] known = stand_none
  roles_stand (r ∷ rs) known =
      let here : Bool = nat_lt r (length o.roles) in
      let others : Bool = list_all (λ s. nat_lt s (length o.roles)) rs in
      stand_more (role_phrase o r) (role_phrases o rs) (role_stands r (and_parts here others known).0)
      (roles_stand rs (and_parts here others known).1)

  pub axiom_stands : (a : Axiom) → axiom_uses_listed (length o.classes) (length o.roles) (length o.individuals) a ≡ true
      → has_whole_items a ≡ true → Stands (axiom_phrase o a)
  axiom_stands (SubClassOf c d) known whole =
      stands_call (codes "SubClassOf") (two (concept_phrase o c) (concept_phrase o d)) refl refl
      (stand_two (concept_phrase o c) (concept_phrase o d)
      (concept_stands c (and_parts (listed c) (listed d) known).0 (and_parts (is_whole c) (is_whole d) whole).0)
      (concept_stands d (and_parts (listed c) (listed d) known).1 (and_parts (is_whole c) (is_whole d) whole).1))
  axiom_stands (EquivalentClasses cs) known whole =
      stands_call (codes "EquivalentClasses") (part_phrases o (parts_of cs)) refl refl
      (parts_stand (parts_of cs) known whole)
  axiom_stands (DisjointClasses cs) known whole =
      stands_call (codes "DisjointClasses") (part_phrases o (parts_of cs)) refl refl
      (parts_stand (parts_of cs) known whole)
  axiom_stands (DisjointUnion c cs) known whole =
      stands_call (codes "DisjointUnion") (more (concept_phrase o c) (part_phrases o (parts_of cs))) refl refl
      (stand_more (concept_phrase o c) (part_phrases o (parts_of cs))
      (concept_stands c (and_parts (listed c) (all_listed (parts_of cs)) known).0
      (named_alone c (and_parts (is_named c) (are_whole (parts_of cs)) whole).0).0)
      (parts_stand (parts_of cs) (and_parts (listed c) (all_listed (parts_of cs)) known).1
      (and_parts (is_named c) (are_whole (parts_of cs)) whole).1))
  axiom_stands (SubRole r s) known whole =
      stands_call (codes "SubObjectPropertyOf") (two (role_phrase o r) (role_phrase o s)) refl refl
      (stand_two (role_phrase o r) (role_phrase o s)
      (role_stands r (and_parts (nat_lt r (length o.roles)) (nat_lt s (length o.roles)) known).0)
      (role_stands s (and_parts (nat_lt r (length o.roles)) (nat_lt s (length o.roles)) known).1))
  axiom_stands (EquivalentRoles rs) known whole =
      stands_call (codes "EquivalentObjectProperties") (role_phrases o rs) refl refl (roles_stand rs known)
  axiom_stands (Domain r c) known whole =
      valued_stands (codes "ObjectPropertyDomain") r c refl refl
      (and_parts (nat_lt r (length o.roles)) (listed c) known).0
      (concept_stands c (and_parts (nat_lt r (length o.roles)) (listed c) known).1 whole)
  axiom_stands (Range r c) known whole =
      valued_stands (codes "ObjectPropertyRange") r c refl refl
      (and_parts (nat_lt r (length o.roles)) (listed c) known).0
      (concept_stands c (and_parts (nat_lt r (length o.roles)) (listed c) known).1 whole)
  axiom_stands (Functional r) known whole =
      stands_call (codes "FunctionalObjectProperty") (one (role_phrase o r)) refl refl
      (stand_one (role_phrase o r) (role_stands r known))
  axiom_stands (Transitive r) known whole =
      stands_call (codes "TransitiveObjectProperty") (one (role_phrase o r)) refl refl
      (stand_one (role_phrase o r) (role_stands r known))
  axiom_stands (Member c a) known whole =
      let both = and_parts (listed c) (nat_lt a (length o.individuals)) known in
      stands_call (codes "ClassAssertion") (two (concept_phrase o c) (individual_phrase o a)) refl refl
      (stand_two (concept_phrase o c) (individual_phrase o a) (concept_stands c both.0 whole)
      (individual_stands a both.1))
  axiom_stands (Pair r a b) known whole =
      let outer =
      and_parts (nat_lt r (length o.roles)) (nat_lt a (length o.individuals) && nat_lt b (length o.individuals))
      known in
      let inner = and_parts (nat_lt a (length o.individuals)) (nat_lt b (length o.individuals)) outer.1 in
      stands_call (codes "ObjectPropertyAssertion")
      (three (role_phrase o r) (individual_phrase o a) (individual_phrase o b)) refl refl
      (stand_three (role_phrase o r) (individual_phrase o a) (individual_phrase o b) (role_stands r outer.0)
      (individual_stands a inner.0) (individual_stands b inner.1))
  axiom_stands (SameAll as_) known whole =
      stands_call (codes "SameIndividual") (individual_phrases o as_) refl refl (individuals_stand as_ known)
  axiom_stands (Different as_) known whole =
      stands_call (codes "DifferentIndividuals") (individual_phrases o as_) refl refl (individuals_stand as_ known)

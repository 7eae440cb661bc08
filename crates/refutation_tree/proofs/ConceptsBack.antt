-- Concept lines are read back.
use Rattle.std.proofs.Common.{◌≡◌, ℕ, ◌+◌, ◌^◌, ◌<◌, true, not, ◌&&◌, List, [], ◌∷◌, ◌++◌, length, map, refl, ap, ◌∙◌}
use Rattle.std.proofs.Common.{Some, None, option_map, arith}
use Rattle.std.specs.Prelude.{nat_lt, nat_le, codes, decimal, option_and_then, if◌then◌else◌}
use Rattle.std.specs.List.{list_all}
use Rattle.std.proofs.lemmas.Bool.{and_parts, and_from, ltb-true, leb-true, lt-ltb}
use Rattle.std.proofs.Common.{eq-eqb}
use Rattle.certificate_lines.specs.Lines.{words, number_in}
use Rattle.certificate_lines.specs.Written.{is_line}
use Rattle.certificate_lines.specs.Listed.{Listed}
use Rattle.axiom_sets.specs.Sets.{Limited}
use Rattle.shq_nnf.specs.Shape.{Shape, is_normal}
use Rattle.shq_nnf.specs.Shape.Shape.{top, bottom, name, not_name, intersection, union, some_of, all_of}
use Rattle.shq_nnf.specs.Shape.Shape.{at_least, at_most}
use Rattle.certificate_lines.specs.Names.{is_word_byte, AreNames}
use Rattle.certificate_lines.proofs.Plain.{plain_words, plain_line, listed_name_back, listed_name_plain}
use Rattle.refutation_tree.specs.Shapes.{is_concept, part_numbers, fits, is_among_shapes, admits}
use Rattle.refutation_tree.specs.RefutationLists.{RefutationLists}
use Rattle.refutation_tree.specs.Keywords.{shape_kind}
use Rattle.refutation_tree.specs.RefutationText.{is_number, restriction_in, counted_in, shape_in, concept_in}
use Rattle.refutation_tree.specs.RefutationText.{with_shape, refutation_words_read, refutation_line_read}
use Rattle.refutation_tree.specs.Written.{listed_word, shape_keyword, shape_fields, concept_line, shape_is_listed}
use Rattle.refutation_tree.specs.declared.keywords.ShapeKind.{ShapeKind}
use Rattle.refutation_tree.specs.declared.keywords.ShapeKind.TheVariants as S
use Rattle.refutation_tree.specs.declared.fields.Restriction.{Restriction}
use Rattle.refutation_tree.specs.declared.fields.Counted.{Counted}
use Rattle.refutation_tree.proofs.FieldsBack.{are_small, number_back, numbers_back, number_plain, numbers_plain}

-- the kind of a shape
abbrev kind_of : Shape → ShapeKind
kind_of top = S.Top
kind_of bottom = S.Bottom
kind_of (name a) = S.Name
kind_of (not_name a) = S.NotName
kind_of (intersection cs) = S.And
kind_of (union cs) = S.Or
kind_of (some_of r c) = S.SomeOf
kind_of (all_of r c) = S.AllOf
kind_of (at_least n r c) = S.Least
kind_of (at_most n r c) = S.Most

kind_back : (s : Shape) → shape_kind (shape_keyword s) ≡ Some (kind_of s)
unfolding shape_kind
kind_back top = refl
kind_back bottom = refl
kind_back (name a) = refl
kind_back (not_name a) = refl
kind_back (intersection cs) = refl
kind_back (union cs) = refl
kind_back (some_of r c) = refl
kind_back (all_of r c) = refl
kind_back (at_least n r c) = refl
kind_back (at_most n r c) = refl

keyword_plain : (s : Shape) → list_all is_word_byte (shape_keyword s) ≡ true
keyword_plain top = refl
keyword_plain bottom = refl
keyword_plain (name a) = refl
keyword_plain (not_name a) = refl
keyword_plain (intersection cs) = refl
keyword_plain (union cs) = refl
keyword_plain (some_of r c) = refl
keyword_plain (all_of r c) = refl
keyword_plain (at_least n r c) = refl
keyword_plain (at_most n r c) = refl

-- the numbers on the line of a shape
abbrev shape_numbers : Shape → List ℕ
shape_numbers top = []
shape_numbers bottom = []
shape_numbers (name a) = []
shape_numbers (not_name a) = []
shape_numbers (intersection cs) = cs
shape_numbers (union cs) = cs
shape_numbers (some_of r c) = c ∷ []
shape_numbers (all_of r c) = c ∷ []
shape_numbers (at_least n r c) = n ∷ c ∷ []
shape_numbers (at_most n r c) = n ∷ c ∷ []

-- ---- the numbers of a shape that fits are small

concepts_small : (shapes : List Shape) → length shapes + 1 < 2 ^ 32 → (cs : List ℕ)
    → list_all (is_concept shapes) cs ≡ true → are_small cs ≡ true
concepts_small shapes room [] h = refl
concepts_small shapes room (c ∷ cs) h =
    let parts = and_parts (is_concept shapes c) (list_all (is_concept shapes) cs) h in
    let below = (and_parts (nat_lt 0 c) (nat_lt c (length shapes + 1)) parts.0).1 in
    and_from (nat_lt c (2 ^ 32)) (are_small cs)
    (lt-ltb c (2 ^ 32) (omega (arith, ltb-true c (length shapes + 1) below))) (concepts_small shapes room cs parts.1)

count_small : (n low high : ℕ) → high < 2 ^ 32 → (nat_le low n && nat_le n high) ≡ true → nat_lt n (2 ^ 32) ≡ true
count_small n low high small h =
    lt-ltb n (2 ^ 32) (omega (arith, leb-true n high (and_parts (nat_le low n) (nat_le n high) h).1))

numbers_small : (shapes : List Shape) → length shapes + 1 < 2 ^ 32 → (s : Shape) → fits shapes s ≡ true
    → are_small (shape_numbers s) ≡ true
numbers_small shapes room s h = by s parts.0 parts.1
  where
    parts : (list_all (is_concept shapes) (part_numbers s) ≡ true) × (is_normal (top ∷ shapes) s ≡ true)
    parts = and_parts (list_all (is_concept shapes) (part_numbers s)) (is_normal (top ∷ shapes) s) h

    by : (t : Shape) → list_all (is_concept shapes) (part_numbers t) ≡ true → is_normal (top ∷ shapes) t ≡ true
        → are_small (shape_numbers t) ≡ true
    by top there normal = refl
    by bottom there normal = refl
    by (name a) there normal = refl
    by (not_name a) there normal = refl
    by (intersection cs) there normal = concepts_small shapes room cs there
    by (union cs) there normal = concepts_small shapes room cs there
    by (some_of r c) there normal = concepts_small shapes room (c ∷ []) there
    by (all_of r c) there normal = concepts_small shapes room (c ∷ []) there
    by (at_least n r c) there normal =
        and_from (nat_lt n (2 ^ 32)) (are_small (c ∷ [])) (count_small n 2 101 (omega arith) normal)
        (concepts_small shapes room (c ∷ []) there)
    by (at_most n r c) there normal =
        and_from (nat_lt n (2 ^ 32)) (are_small (c ∷ [])) (count_small n 1 100 (omega arith) normal)
        (concepts_small shapes room (c ∷ []) there)

module _ (o : Listed) (classes : AreNames o.classes) (roles : AreNames o.roles) where
  -- ---- one line

  pub restriction_back : (r c : ℕ) → nat_lt r (length o.roles) ≡ true → nat_lt c (2 ^ 32) ≡ true
      → restriction_in o (listed_word o.roles r ∷ decimal c ∷ []) ≡ Some (record { role = r; filler = c })
  restriction_back r c listed small =
      ap
      (option_and_then (λ role. option_map (λ filler. record { role = role; filler = filler }) (number_in (decimal c))))
      (listed_name_back o.roles roles r listed)
      ∙ ap (option_map (λ filler. record { role = r; filler = filler })) (number_back c small)

  counted_back : (n r c : ℕ) → nat_lt r (length o.roles) ≡ true → are_small (n ∷ c ∷ []) ≡ true
      → counted_in o (decimal n ∷ listed_word o.roles r ∷ decimal c ∷ [])
      ≡ Some (record { count = n; rest = record { role = r; filler = c } })
  counted_back n r c listed small =
      let parts = and_parts (nat_lt n (2 ^ 32)) (are_small (c ∷ [])) small in
      let second = and_parts (nat_lt c (2 ^ 32)) true parts.1 in
      ap (option_and_then
      (λ count. option_map (λ rest. record { count = count; rest = rest })
      (restriction_in o (listed_word o.roles r ∷ decimal c ∷ []))))
      (number_back n parts.0)
      ∙ ap (option_map (λ rest. record { count = n; rest = rest })) (restriction_back r c listed second.0)

  fields_back : (s : Shape) → shape_is_listed o s ≡ true → are_small (shape_numbers s) ≡ true
      → shape_in o (kind_of s) (shape_fields o s) ≡ Some s
  fields_back top listed small = refl
  fields_back bottom listed small = refl
  fields_back (name a) listed small = ap (option_map name) (listed_name_back o.classes classes a listed)
  fields_back (not_name a) listed small = ap (option_map not_name) (listed_name_back o.classes classes a listed)
  fields_back (intersection cs) listed small = ap (option_map intersection) (numbers_back cs small)
  fields_back (union cs) listed small = ap (option_map union) (numbers_back cs small)
  fields_back (some_of r c) listed small =
      ap (option_map (λ (q : Restriction). some_of q.role q.filler))
      (restriction_back r c listed (and_parts (nat_lt c (2 ^ 32)) true small).0)
  fields_back (all_of r c) listed small =
      ap (option_map (λ (q : Restriction). all_of q.role q.filler))
      (restriction_back r c listed (and_parts (nat_lt c (2 ^ 32)) true small).0)
  fields_back (at_least n r c) listed small =
      ap (option_map (λ (q : Counted). at_least q.count q.rest.role q.rest.filler)) (counted_back n r c listed small)
  fields_back (at_most n r c) listed small =
      ap (option_map (λ (q : Counted). at_most q.count q.rest.role q.rest.filler)) (counted_back n r c listed small)

  pub restriction_plain : (r c : ℕ) → nat_lt r (length o.roles) ≡ true → are_small (c ∷ []) ≡ true
      → list_all (list_all is_word_byte) (listed_word o.roles r ∷ decimal c ∷ []) ≡ true
  restriction_plain r c listed small =
      and_from (list_all is_word_byte (listed_word o.roles r)) (list_all (list_all is_word_byte) (map decimal (c ∷ [])))
      (listed_name_plain o.roles roles r listed) (numbers_plain (c ∷ []) small)

  counted_plain : (n r c : ℕ) → nat_lt r (length o.roles) ≡ true → are_small (n ∷ c ∷ []) ≡ true
      → list_all (list_all is_word_byte) (decimal n ∷ listed_word o.roles r ∷ decimal c ∷ []) ≡ true
  counted_plain n r c listed small =
      let parts = and_parts (nat_lt n (2 ^ 32)) (are_small (c ∷ [])) small in
      and_from (list_all is_word_byte (decimal n))
      (list_all (list_all is_word_byte) (listed_word o.roles r ∷ decimal c ∷ [])) (number_plain n parts.0)
      (restriction_plain r c listed parts.1)

  fields_plain : (s : Shape) → shape_is_listed o s ≡ true → are_small (shape_numbers s) ≡ true
      → list_all (list_all is_word_byte) (shape_fields o s) ≡ true
  fields_plain top listed small = refl
  fields_plain bottom listed small = refl
  fields_plain (name a) listed small =
      and_from (list_all is_word_byte (listed_word o.classes a)) true (listed_name_plain o.classes classes a listed)
      refl
  fields_plain (not_name a) listed small =
      and_from (list_all is_word_byte (listed_word o.classes a)) true (listed_name_plain o.classes classes a listed)
      refl
  fields_plain (intersection cs) listed small = numbers_plain cs small
  fields_plain (union cs) listed small = numbers_plain cs small
  fields_plain (some_of r c) listed small = restriction_plain r c listed small
  fields_plain (all_of r c) listed small = restriction_plain r c listed small
  fields_plain (at_least n r c) listed small = counted_plain n r c listed small
  fields_plain (at_most n r c) listed small = counted_plain n r c listed small

  module _ (shapes : List Shape) (s : Shape) (room : length shapes + 1 < 2 ^ 32) (listed : shape_is_listed o s ≡ true)
      (admitted : admits shapes s ≡ true) where
    small : are_small (shape_numbers s) ≡ true
    small = numbers_small shapes room s (and_parts (fits shapes s) (not (is_among_shapes shapes s)) admitted).0

    number_small : nat_lt (length shapes + 1) (2 ^ 32) ≡ true
    number_small = lt-ltb (length shapes + 1) (2 ^ 32) room

    all_plain : list_all (list_all is_word_byte)
        (codes "concept" ∷ decimal (length shapes + 1) ∷ shape_keyword s ∷ shape_fields o s)
        ≡ true
    all_plain =
        and_from (list_all is_word_byte (codes "concept"))
        (list_all (list_all is_word_byte) (decimal (length shapes + 1) ∷ shape_keyword s ∷ shape_fields o s)) refl
        (and_from (list_all is_word_byte (decimal (length shapes + 1)))
        (list_all (list_all is_word_byte) (shape_keyword s ∷ shape_fields o s))
        (number_plain (length shapes + 1) number_small)
        (and_from (list_all is_word_byte (shape_keyword s)) (list_all (list_all is_word_byte) (shape_fields o s))
        (keyword_plain s) (fields_plain s listed small)))

    pub concept_is_line : is_line (concept_line o (length shapes + 1) s) ≡ true
    concept_is_line =
        plain_line (codes "concept") (decimal (length shapes + 1) ∷ shape_keyword s ∷ shape_fields o s) all_plain

    concept_words : words (concept_line o (length shapes + 1) s)
        ≡ codes "concept" ∷ decimal (length shapes + 1) ∷ shape_keyword s ∷ shape_fields o s
    concept_words =
        plain_words (codes "concept") (decimal (length shapes + 1) ∷ shape_keyword s ∷ shape_fields o s) all_plain

    numbered : is_number (length shapes + 1) (number_in (decimal (length shapes + 1))) ≡ true
    numbered =
        ap (is_number (length shapes + 1)) (number_back (length shapes + 1) number_small)
        ∙ eq-eqb (length shapes + 1) (length shapes + 1) refl

    shape_back : concept_in o (length shapes + 1)
        (codes "concept" ∷ decimal (length shapes + 1) ∷ shape_keyword s ∷ shape_fields o s)
        ≡ Some s
    shape_back =
        ap (λ b. if b then option_and_then (λ kind. shape_in o kind (shape_fields o s)) (shape_kind (shape_keyword s))
        else None)
        numbered
        ∙ ap (option_and_then (λ kind. shape_in o kind (shape_fields o s))) (kind_back s)
        ∙ fields_back s listed small

    pub concept_back : (axioms : Limited)
        → refutation_line_read o (record { axioms = axioms; shapes = shapes; lines = [] })
        (concept_line o (length shapes + 1) s)
        ≡ Some (record { axioms = axioms; shapes = shapes ++ s ∷ []; lines = [] })
    concept_back axioms =
        let k : RefutationLists = record { axioms = axioms; shapes = shapes; lines = [] } in
        ap (refutation_words_read o k) concept_words
        ∙ ap (option_and_then (with_shape k)) shape_back
        ∙ ap (λ b. if b then Some (record { axioms = axioms; shapes = shapes ++ s ∷ []; lines = [] }) else None)
        admitted

-- The text of a refutation is read back.
use Rattle.std.proofs.Common.{◌≡◌, ℕ, suc, ◌+◌, ◌^◌, ◌<◌, Bool, true, false, not, ◌||◌, List, [], ◌∷◌, ◌++◌, length}
use Rattle.std.proofs.Common.{map, take, get_or, refl, ap, subst, sym, ◌∙◌, inl, inr, Some, arith, length-append}
use Rattle.std.proofs.Common.{append_assoc}
use Rattle.std.specs.Prelude.{codes, decimal, option_and_then}
use Rattle.std.specs.List.{list_all, list_any}
use Rattle.std.proofs.lemmas.Bool.{and_parts, and_from, cases_Bool}
use Rattle.std.proofs.lemmas.List.{append-nil, get_or_append_left}
use Rattle.std.proofs.Math.Seq.{get_or-append_seam, take-append_seam}
use Rattle.certificate_lines.specs.Lines.{words, lines}
use Rattle.certificate_lines.specs.Written.{is_line}
use Rattle.certificate_lines.proofs.ReadBack.{lines_read}
use Rattle.certificate_lines.specs.Listed.{Listed}
use Rattle.axiom_sets.specs.Sets.{Limited, member_list}
use Rattle.shq_nnf.specs.Shape.{Shape}
use Rattle.shq_nnf.specs.Shape.Shape.{top}
use Rattle.shq_nnf.specs.Line.{Line}
use Rattle.certificate_lines.specs.Names.{is_word_byte, AreNames}
use Rattle.certificate_lines.proofs.Plain.{plain_words, plain_line, lines_both}
use Rattle.certificate_lines.proofs.Body.{body_line}
use Rattle.refutation_tree.specs.Shapes.{fits, same_shape, is_among_shapes, admits, AreShapes}
use Rattle.refutation_tree.specs.RuleLine.{names_concepts}
use Rattle.refutation_tree.specs.RefutationLists.{RefutationLists}
use Rattle.refutation_tree.specs.RefutationText.{refutation_line_read, refutation_body, begun, axioms_line}
use Rattle.refutation_tree.specs.RefutationText.{refutation_of}
use Rattle.refutation_tree.specs.Written.{concept_line, concept_lines, rule_text, axioms_text, refutation_lines}
use Rattle.refutation_tree.specs.Written.{refutation_text, shape_is_listed, line_is_listed}
use Rattle.refutation_tree.specs.ReadBack.{has_nodes, is_small, IsWritable}
use Rattle.refutation_tree.proofs.FieldsBack.{numbers_plain}
use Rattle.refutation_tree.proofs.AxiomsBack.{axioms_back, members_small}
use Rattle.refutation_tree.proofs.ConceptsBack.{concept_is_line, concept_back}
use Rattle.refutation_tree.proofs.RulesBack.{rule_is_line, line_back, line_goes_on}
use Rattle.refutation_tree.proofs.Shapes.{same_is_equal}

-- ---- a shape may be put after those before it

any_at : {A : Type 0} (p : A → Bool) (d : A) (xs : List A) → list_any p xs ≡ true
    → (j : ℕ) × (j < length xs) × (p (get_or xs j d) ≡ true)
any_at p d [] h = cc
any_at p d (x ∷ xs) h = by (any_at p d xs) (p x) refl h
  where
    by : (list_any p xs ≡ true → (j : ℕ) × (j < length xs) × (p (get_or xs j d) ≡ true)) → (b : Bool) → p x ≡ b
        → (b || list_any p xs) ≡ true → (j : ℕ) × (j < length (x ∷ xs)) × (p (get_or (x ∷ xs) j d) ≡ true)
    by later true here g = (0, omega arith, here)
    by later false there g = let more = later g in (suc more.0, omega (arith, more.1), more.2)

module _ (front : List Shape) (s : Shape) (ss : List Shape) (good : AreShapes (front ++ s ∷ ss)) where
  abbrev all : List Shape
  all = front ++ s ∷ ss

  inside : length front < length all
  inside = omega (arith, length-append front (s ∷ ss))

  here : get_or all (length front) top ≡ s
  here = get_or-append_seam front s ss top

  fits_there : fits front s ≡ true
  fits_there =
      ap (λ (f : List Shape). fits f s) (sym (take-append_seam front (s ∷ ss)))
      ∙ ap (fits (take (length front) all)) (sym here)
      ∙ good.fit (length front) inside

  is_new : is_among_shapes front s ≡ false
  is_new = elim (cases_Bool (is_among_shapes front s)) [
    | inr none ↦ none
    | inl found ↦
        let at = any_at (same_shape s) top front found in
        let same : get_or all at.0 top ≡ get_or all (length front) top =
        get_or_append_left front (s ∷ ss) top at.0 at.1 ∙ sym (same_is_equal s (get_or front at.0 top) at.2)
        ∙ sym here in
        let place : at.0 ≡ length front =
        good.are_distinct at.0 (length front) (omega (arith, at.1, inside)) inside same in
        absurd (omega (arith, place, at.1))
  ]

  pub admitted : admits front s ≡ true
  admitted = and_from (fits front s) (not (is_among_shapes front s)) fits_there (ap not is_new)

-- ---- the lines of the concepts, and then the rule lines

module _ (o : Listed) (classes : AreNames o.classes) (roles : AreNames o.roles) (axioms : Limited) where
  abbrev kept : List Shape → List Line → RefutationLists
  kept shapes ls = record { axioms = axioms; shapes = shapes; lines = ls }

  one_more : (front : List Shape) (s : Shape) → length front + 1 + 1 ≡ length (front ++ s ∷ []) + 1
  one_more front s = omega (arith, length-append front (s ∷ []))

  concepts_back : (rest : List (List ℕ)) (ss front : List Shape) → AreShapes (front ++ ss)
      → length (front ++ ss) < 2 ^ 32 → list_all (shape_is_listed o) ss ≡ true
      → refutation_body o (kept front []) (concept_lines o (length front + 1) ss ++ rest)
      ≡ refutation_body o (kept (front ++ ss) []) rest
  concepts_back rest [] front good few listed =
      ap (λ (f : List Shape). refutation_body o (kept f []) rest) (sym (append-nil front))
  concepts_back rest (s ∷ ss) front good few listed =
      let parts = and_parts (shape_is_listed o s) (list_all (shape_is_listed o) ss) listed in
      let together : (front ++ s ∷ []) ++ ss ≡ front ++ s ∷ ss = append_assoc front (s ∷ []) ss in
      let small : length front + 1 < 2 ^ 32 = omega (arith, few, length-append front (s ∷ ss)) in
      let read = concept_back o classes roles front s small parts.0 (admitted front s ss good) axioms in
      body_line (refutation_line_read o) (λ last. last) (kept front []) (concept_line o (length front + 1) s)
      (concept_lines o (length front + 1 + 1) ss ++ rest) (Some (kept (front ++ s ∷ []) [])) refl read
      ∙ ap (λ n. refutation_body o (kept (front ++ s ∷ []) []) (concept_lines o n ss ++ rest)) (one_more front s)
      ∙ concepts_back rest ss (front ++ s ∷ []) (subst AreShapes (sym together) good)
      (subst (λ (f : List Shape). length f < 2 ^ 32) (sym together) few) parts.1
      ∙ ap (λ (f : List Shape). refutation_body o (kept f []) rest) together

  concepts_are_lines : (ss front : List Shape) → AreShapes (front ++ ss) → length (front ++ ss) < 2 ^ 32
      → list_all (shape_is_listed o) ss ≡ true → list_all is_line (concept_lines o (length front + 1) ss) ≡ true
  concepts_are_lines [] front good few listed = refl
  concepts_are_lines (s ∷ ss) front good few listed =
      let parts = and_parts (shape_is_listed o s) (list_all (shape_is_listed o) ss) listed in
      let together : (front ++ s ∷ []) ++ ss ≡ front ++ s ∷ ss = append_assoc front (s ∷ []) ss in
      let small : length front + 1 < 2 ^ 32 = omega (arith, few, length-append front (s ∷ ss)) in
      and_from (is_line (concept_line o (length front + 1) s))
      (list_all is_line (concept_lines o (length front + 1 + 1) ss))
      (concept_is_line o classes roles front s small parts.0 (admitted front s ss good))
      (ap (λ n. list_all is_line (concept_lines o n ss)) (one_more front s)
      ∙ concepts_are_lines ss (front ++ s ∷ []) (subst AreShapes (sym together) good)
      (subst (λ (f : List Shape). length f < 2 ^ 32) (sym together) few) parts.1)

  rules_back : (shapes : List Shape) (rest : List (List ℕ)) (ls before : List Line)
      → list_all (names_concepts shapes) ls ≡ true → list_all (line_is_listed o) ls ≡ true
      → list_all has_nodes ls ≡ true → list_all is_small ls ≡ true
      → refutation_body o (kept shapes before) (map (rule_text o) ls ++ rest)
      ≡ refutation_body o (kept shapes (before ++ ls)) rest
  rules_back shapes rest [] before known listed nodes small =
      ap (λ (b : List Line). refutation_body o (kept shapes b) rest) (sym (append-nil before))
  rules_back shapes rest (l ∷ ls) before known listed nodes small =
      let k = and_parts (names_concepts shapes l) (list_all (names_concepts shapes) ls) known in
      let n = and_parts (line_is_listed o l) (list_all (line_is_listed o) ls) listed in
      let h = and_parts (has_nodes l) (list_all has_nodes ls) nodes in
      let m = and_parts (is_small l) (list_all is_small ls) small in
      let read = line_back o classes roles l n.0 h.0 m.0 (kept shapes before) k.0 in
      body_line (refutation_line_read o) (λ last. last) (kept shapes before) (rule_text o l)
      (map (rule_text o) ls ++ rest) (Some (kept shapes (before ++ l ∷ [])))
      (line_goes_on o classes roles l n.0 h.0 m.0) read
      ∙ rules_back shapes rest ls (before ++ l ∷ []) k.1 n.1 h.1 m.1
      ∙ ap (λ (b : List Line). refutation_body o (kept shapes b) rest) (append_assoc before (l ∷ []) ls)

  rules_are_lines : (ls : List Line) → list_all (line_is_listed o) ls ≡ true → list_all has_nodes ls ≡ true
      → list_all is_small ls ≡ true → list_all is_line (map (rule_text o) ls) ≡ true
  rules_are_lines [] listed nodes small = refl
  rules_are_lines (l ∷ ls) listed nodes small =
      let n = and_parts (line_is_listed o l) (list_all (line_is_listed o) ls) listed in
      let h = and_parts (has_nodes l) (list_all has_nodes ls) nodes in
      let m = and_parts (is_small l) (list_all is_small ls) small in
      and_from (is_line (rule_text o l)) (list_all is_line (map (rule_text o) ls))
      (rule_is_line o classes roles l n.0 h.0 m.0) (rules_are_lines ls n.1 h.1 m.1)

-- ---- the whole text

module _ (o : Listed) (k : RefutationLists) (classes : AreNames o.classes) (roles : AreNames o.roles)
    (can : IsWritable o k) where
  listed : (list_all (shape_is_listed o) k.shapes ≡ true) × (list_all (line_is_listed o) k.lines ≡ true)
  listed = and_parts (list_all (shape_is_listed o) k.shapes) (list_all (line_is_listed o) k.lines) can.listed

  limit_small : k.axioms.limit < 2 ^ 32
  limit_small = omega (arith, can.few_axioms, can.limit)

  axioms_plain : list_all (list_all is_word_byte) (codes "axioms" ∷ map decimal (member_list k.axioms)) ≡ true
  axioms_plain = numbers_plain (member_list k.axioms) (members_small k.axioms can.within limit_small)

  axioms_words : words (axioms_text k.axioms) ≡ codes "axioms" ∷ map decimal (member_list k.axioms)
  axioms_words = plain_words (codes "axioms") (map decimal (member_list k.axioms)) axioms_plain

  axioms_again : axioms_line (length o.axioms) (words (axioms_text k.axioms)) ≡ Some k.axioms
  axioms_again =
      ap (axioms_line (length o.axioms)) axioms_words
      ∙ ap (λ n. axioms_line n (codes "axioms" ∷ map decimal (member_list k.axioms))) (sym can.limit)
      ∙ axioms_back k.axioms can.within limit_small

  all_lines : list_all is_line (refutation_lines o k) ≡ true
  all_lines =
      let cs = concept_lines o 1 k.shapes in
      let rs = map (rule_text o) k.lines in
      let concepts =
      concepts_are_lines o classes roles k.axioms k.shapes [] can.kept.are_shapes can.kept.few listed.0 in
      let rules = rules_are_lines o classes roles k.axioms k.lines listed.1 can.have_nodes can.are_small in
      let axioms = plain_line (codes "axioms") (map decimal (member_list k.axioms)) axioms_plain in
      lines_both ((codes "refutation" ∷ axioms_text k.axioms ∷ cs) ++ rs) (codes "end" ∷ [])
      (lines_both (codes "refutation" ∷ axioms_text k.axioms ∷ cs) rs
      (and_from (is_line (axioms_text k.axioms)) (list_all is_line cs) axioms concepts) rules)
      refl

  text_lines : lines (refutation_text o k) ≡ refutation_lines o k ++ [] ∷ []
  text_lines = lines_read (refutation_lines o k) all_lines

  pub refutation_read_back : refutation_of o (lines (refutation_text o k)) ≡ Some k
  refutation_read_back =
      let cs = concept_lines o 1 k.shapes in
      let rs = map (rule_text o) k.lines in
      let last = codes "end" ∷ [] ∷ [] in
      let together : cs ++ rs ++ codes "end" ∷ [] ++ [] ∷ [] ≡ cs ++ (rs ++ last) =
      append_assoc (cs ++ rs) (codes "end" ∷ []) ([] ∷ []) ∙ append_assoc cs rs last in
      ap (refutation_of o) text_lines
      ∙ ap (option_and_then (λ a. refutation_body o (begun a) (cs ++ rs ++ codes "end" ∷ [] ++ [] ∷ []))) axioms_again
      ∙ ap (refutation_body o (begun k.axioms)) together
      ∙ concepts_back o classes roles k.axioms (rs ++ last) k.shapes [] can.kept.are_shapes can.kept.few listed.0
      ∙ rules_back o classes roles k.axioms k.shapes last k.lines [] can.kept.are_known listed.1 can.have_nodes
      can.are_small

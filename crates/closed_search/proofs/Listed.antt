-- The names of a refutation are listed where those of its lines' concepts are.
use Rattle.std.proofs.Common.{◌≡◌, ℕ, ◌+◌, ◌<◌, ◌&&◌, ltb, Bool, true, List, [], ◌∷◌, map, length, get_or, refl, ap}
use Rattle.std.proofs.Common.{sym, ◌∙◌, arith}
use Rattle.std.specs.List.{list_all}
use Rattle.std.proofs.Math.Numerals.{add-one}
use Rattle.std.proofs.lemmas.Bool.{and_parts, and_from}
use Rattle.std.proofs.lemmas.List.Elements.{All-from_get_or}
use Rattle.std.proofs.lemmas.List.Sums.{list_all-from_AllPass}
use Rattle.shq_terms.specs.Concept.{Concept, top, parts_of}
use Rattle.shq_terms.specs.Listed.{Listed}
use Rattle.shq_terms.specs.Uses.{uses_listed, parts_use_listed}
use Rattle.calculus_specs.specs.Shape.{Shape, shape_of, IsTable}
use Rattle.calculus_specs.specs.Shape.Shape.{top as top_shape, bottom as bottom_shape, name as name_shape, not_name}
use Rattle.calculus_specs.specs.Shape.Shape.{intersection as and_shape, union as or_shape, some_of as some_shape}
use Rattle.calculus_specs.specs.Shape.Shape.{all_of as all_shape, at_least as least_shape, at_most as most_shape}
use Rattle.calculus_specs.specs.Tree.{tree_over, trees_of}
use Rattle.calculus_specs.proofs.Unique.{tree_of_shape}
use Rattle.calculus_specs.specs.Line.{Line}
use Rattle.calculus_specs.specs.Line.Line.{start_line, and_line, or_line, all_line, carry_line, row_line, range_line}
use Rattle.calculus_specs.specs.Line.Line.{some_line, least_line, choose_line, pair_line, bottom_line, clash_line}
use Rattle.calculus_specs.specs.Line.Line.{most_line, fact_line, differ_line}
use Rattle.search_trace.specs.Shapes.{shape_at, part_numbers, AreShapes}
use Rattle.search_trace.specs.RuleLine.{concept_numbers}
use Rattle.search_trace.specs.Written.{shape_is_listed, line_is_listed}
use Rattle.search_trace.proofs.Normal.{shapes_are_normal}
use Rattle.search_trace.specs.Renumbered.{renumbered}
use Rattle.closed_search.specs.Naming.{HasParts}
use Rattle.closed_search.specs.Finished.{are_of_kind, IsOfKind}
use Rattle.closed_search.specs.Refuted.{concept_is_listed, uses_names}

module _ (o : Listed) where
  abbrev listed : Concept → Bool
  listed c = uses_listed (length o.classes) (length o.roles) c

  parts_listed : (trees : List Concept) (cs : List ℕ)
      → parts_use_listed (length o.classes) (length o.roles) (parts_of (map (λ c. get_or trees c top) cs))
      ≡ list_all (λ c. listed (get_or trees c top)) cs
  parts_listed trees [] = refl
  parts_listed trees (c ∷ cs) = ap (λ (b : Bool). listed (get_or trees c top) && b) (parts_listed trees cs)

  -- a shape has its names and its parts' from the tree
  parts_by : (trees : List Concept) (s : Shape) → listed (tree_over trees s) ≡ true
      → list_all (λ c. listed (get_or trees c top)) (part_numbers s) ≡ true
  parts_by trees top_shape h = refl
  parts_by trees bottom_shape h = refl
  parts_by trees (name_shape a) h = refl
  parts_by trees (not_name a) h = refl
  parts_by trees (and_shape cs) h = sym (parts_listed trees cs) ∙ h
  parts_by trees (or_shape cs) h = sym (parts_listed trees cs) ∙ h
  parts_by trees (some_shape r c) h =
      and_from (listed (get_or trees c top)) true (and_parts (ltb r (length o.roles)) (listed (get_or trees c top)) h).1
      refl
  parts_by trees (all_shape r c) h =
      and_from (listed (get_or trees c top)) true (and_parts (ltb r (length o.roles)) (listed (get_or trees c top)) h).1
      refl
  parts_by trees (least_shape n r c) h =
      and_from (listed (get_or trees c top)) true (and_parts (ltb r (length o.roles)) (listed (get_or trees c top)) h).1
      refl
  parts_by trees (most_shape n r c) h =
      and_from (listed (get_or trees c top)) true (and_parts (ltb r (length o.roles)) (listed (get_or trees c top)) h).1
      refl

  names_by : (trees : List Concept) (s : Shape) → listed (tree_over trees s) ≡ true → shape_is_listed o s ≡ true
  names_by trees top_shape h = refl
  names_by trees bottom_shape h = refl
  names_by trees (name_shape a) h = h
  names_by trees (not_name a) h = h
  names_by trees (and_shape cs) h = refl
  names_by trees (or_shape cs) h = refl
  names_by trees (some_shape r c) h = (and_parts (ltb r (length o.roles)) (listed (get_or trees c top)) h).0
  names_by trees (all_shape r c) h = (and_parts (ltb r (length o.roles)) (listed (get_or trees c top)) h).0
  names_by trees (least_shape n r c) h = (and_parts (ltb r (length o.roles)) (listed (get_or trees c top)) h).0
  names_by trees (most_shape n r c) h = (and_parts (ltb r (length o.roles)) (listed (get_or trees c top)) h).0

  pub have_parts : (table : List Shape) → IsTable table → HasParts table (concept_is_listed o table)
  have_parts table is c lt h =
      parts_by (trees_of table) (shape_of table c)
      (ap listed (sym (tree_of_shape table c lt (is.parts_below c lt))) ∙ h)

  shape_by : (table shapes : List Shape) → AreShapes shapes → (k : ℕ) → k < length shapes
      → IsOfKind table (concept_is_listed o table) shapes (k + 1) → shape_is_listed o (get_or shapes k top_shape) ≡ true
  shape_by table shapes are k lt is =
      let below = (shapes_are_normal shapes are (k + 1) (omega arith) (omega arith)).0 in
      let tree = tree_of_shape (top_shape ∷ shapes) (k + 1) (omega arith) below in
      let at : shape_at shapes (k + 1) ≡ get_or shapes k top_shape = ap (shape_at shapes) (add-one k) in
      ap (shape_is_listed o) (sym at)
      ∙ names_by (trees_of (top_shape ∷ shapes)) (shape_at shapes (k + 1))
      (ap listed (sym tree ∙ is.same) ∙ is.is_of_kind)

  pub shapes_listed : (table shapes : List Shape) → AreShapes shapes
      → ((k : ℕ) → k < length shapes → IsOfKind table (concept_is_listed o table) shapes (k + 1))
      → list_all (shape_is_listed o) shapes ≡ true
  shapes_listed table shapes are kinds =
      list_all-from_AllPass (shape_is_listed o) shapes
      (All-from_get_or (λ s. shape_is_listed o s ≡ true) shapes top_shape
      (λ k lt. shape_by table shapes are k lt (kinds k lt)))

  -- ---- lines

  same_role : (f : ℕ → ℕ) (l : Line) → line_is_listed o (renumbered f l) ≡ line_is_listed o l
  same_role f start_line = refl
  same_role f (and_line x c) = refl
  same_role f (or_line x c) = refl
  same_role f (all_line x y c) = refl
  same_role f (carry_line x y r c) = refl
  same_role f (row_line x a p is) = refl
  same_role f (range_line x y a) = refl
  same_role f (some_line x y c) = refl
  same_role f (least_line x y c) = refl
  same_role f (choose_line y c) = refl
  same_role f (pair_line y z) = refl
  same_role f (bottom_line x) = refl
  same_role f (clash_line x c) = refl
  same_role f (most_line x c ys) = refl
  same_role f (fact_line a p) = refl
  same_role f (differ_line y z) = refl

  pub lines_listed : (table : List Shape) (f : ℕ → ℕ) (ls : List Line) → list_all (uses_names o table) ls ≡ true
      → list_all (line_is_listed o) (map (renumbered f) ls) ≡ true
  lines_listed table f [] h = refl
  lines_listed table f (l ∷ ls) h =
      let both = and_parts (uses_names o table l) (list_all (uses_names o table) ls) h in
      and_from (line_is_listed o (renumbered f l)) (list_all (line_is_listed o) (map (renumbered f) ls))
      (same_role f l
      ∙ (and_parts (list_all (concept_is_listed o table) (concept_numbers l)) (line_is_listed o l) both.0).1)
      (lines_listed table f ls both.1)

  pub concepts_listed : (table : List Shape) (ls : List Line) → list_all (uses_names o table) ls ≡ true
      → are_of_kind (concept_is_listed o table) ls ≡ true
  concepts_listed table [] h = refl
  concepts_listed table (l ∷ ls) h =
      let both = and_parts (uses_names o table l) (list_all (uses_names o table) ls) h in
      and_from (list_all (concept_is_listed o table) (concept_numbers l)) (are_of_kind (concept_is_listed o table) ls)
      (and_parts (list_all (concept_is_listed o table) (concept_numbers l)) (line_is_listed o l) both.0).0
      (concepts_listed table ls both.1)

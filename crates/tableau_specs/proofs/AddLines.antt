-- What is added without a choice as rule lines.
use Rattle.std.proofs.Common.{◌≡◌, ℕ, zero, suc, ◌+◌, ◌<◌, ◌&&◌, ◌||◌, eqb, cond, ltb, max, ◌++◌, Bool, true, List, []}
use Rattle.std.proofs.Common.{◌∷◌, map, get_or, Option, Some, None, refl, ap, ◌∙◌, sym, arith, inl, inr, eq-eqb}
use Rattle.std.specs.List.{list_any, list_all, range_with_len, Contains}
use Rattle.std.proofs.lemmas.Bool.{cases_Bool, or_cases, eqb-true, ltb-true, and_parts, or_right}
use Rattle.std.proofs.lemmas.List.{length-map, map-append}
use Rattle.std.proofs.lemmas.List.Elements.{All-contains}
use Rattle.std.proofs.Math.ListN.{get_or-map}
use Rattle.calculus_specs.specs.Concept.{Concept, top, name, all_of}
use Rattle.calculus_specs.specs.Shape.{Shape, shape_of}
use Rattle.calculus_specs.specs.Shape.Shape.{name as name_shape, intersection as and_shape, all_of as all_shape}
use Rattle.calculus_specs.specs.Tree.{tree_of, trees_of}
use Rattle.calculus_specs.specs.Rows.{Part, Trigger, IsRowOf, IsChoice, part_at, conjunct_at, are_name_positions}
use Rattle.calculus_specs.specs.Rows.{is_some_of, row_concept, row_of}
use Rattle.calculus_specs.specs.Rows.Part.{inclusion, range}
use Rattle.calculus_specs.specs.Rows.Trigger.{always, names, edge, end_of}
use Rattle.calculus_specs.specs.declared.facts.Fact.{Fact}
use Rattle.calculus_specs.specs.declared.facts.Fact.TheVariants.{Has, Edge, Apart, Same}
use Rattle.calculus_specs.specs.State.{node_count_from, speaks_below, has, has_tree, has_edge, label}
use Rattle.calculus_specs.specs.Reading.{read_fact, read_facts}
use Rattle.calculus_specs.proofs.State.{any-label}
use Rattle.calculus_specs.specs.Line.Line.{row_line}
use Rattle.calculus_specs.specs.Rules.{Question, Known, knows, when, with_facts, and_children, all_children}
use Rattle.calculus_specs.specs.Rules.{carry_children, row_children, range_children, fact_children}
use Rattle.tableau_specs.specs.Steps.{SearchContext, IsGiven, below_of, Adds, IsCarried, is_named, has_name}
use Rattle.tableau_specs.specs.Steps.{is_triggered, ends_edge}
use Rattle.tableau_specs.specs.Steps.Adds.{by_and, by_all, by_carry, by_row}
use Rattle.tableau_specs.proofs.Listed.{listed}
use Rattle.tableau_specs.specs.Lines.{known_by, children_in, first_passing, first_begin, line_of_row, line_of_give}
use Rattle.tableau_specs.specs.LineLaws.{IsOver, RangesAreFirst, AddIsLine}
use Rattle.tableau_specs.proofs.KnownFacts.{known_in, is_known, reads, holds, edge_reads, at_shape}
use Rattle.calculus_specs.proofs.Unique.{part_list-parts_of}
use Rattle.tableau_specs.proofs.TreeShaped.{first_le}

contains_map : {X Y : Type 0} (f : X → Y) (xs : List X) (v : X) → Contains xs v → Contains (map f xs) (f v)
contains_map f xs v c = (c.0, omega (arith, c.1, length-map xs f), get_or-map f xs c.0 v ∙ ap f c.2)

record FirstPasses (p : ℕ → Bool) (cs : List ℕ) : Type 0 where
  passes : p (first_passing p cs) ≡ true
  is_in : list_any (λ d. eqb d (first_passing p cs)) cs ≡ true

first_passes : (p : ℕ → Bool) (cs : List ℕ) → list_any p cs ≡ true → FirstPasses p cs
first_passes p [] h = cc
first_passes p (c ∷ cs) h = elim (cases_Bool (p c)) [
  | inl here ↦
      let e : first_passing p (c ∷ cs) ≡ c = ap (λ (b : Bool). cond b c (first_passing p cs)) here in
      let itself : list_any (λ d. eqb d c) (c ∷ cs) ≡ true = rw (eq-eqb c c refl) refl in
      record { passes = ap p e ∙ here; is_in = ap (λ (z : ℕ). list_any (λ d. eqb d z) (c ∷ cs)) e ∙ itself }
  | inr miss ↦
      let e : first_passing p (c ∷ cs) ≡ first_passing p cs = ap (λ (b : Bool). cond b c (first_passing p cs)) miss in
      let later : list_any p cs ≡ true = sym (ap (λ (b : Bool). b || list_any p cs) miss) ∙ h in
      let r = first_passes p cs later in
      let z = first_passing p cs in
      record {
        passes = ap p e ∙ r.passes;
        is_in =
            ap (λ (v : ℕ). list_any (λ d. eqb d v) (c ∷ cs)) e
            ∙ or_right (eqb c z) (list_any (λ d. eqb d z) cs) r.is_in;
      }
]

named_is : (a : ℕ) (s : Shape) → is_named a s ≡ true → s ≡ name_shape a
named_is a (name_shape b) h = ap name_shape (sym (eqb-true a b h))
named_is a _ h = cc

pub in_range_below : (z a n : ℕ) → list_any (λ d. eqb d z) (range_with_len a n) ≡ true → z < a + n
in_range_below z a zero h = cc
in_range_below z a (suc n) h = elim (or_cases (eqb a z) (list_any (λ d. eqb d z) (range_with_len (a + 1) n)) h) [
  | inl here ↦ omega (arith, eqb-true a z here)
  | inr later ↦ omega (arith, in_range_below z (a + 1) n later)
]

module _ (w : SearchContext) (q : Question) (fs : List (Fact ℕ)) (over : IsOver w fs) where
  abbrev state : Known
  state = known_by w.first w.table fs

  -- the facts of an intersection's parts
  parts_read : (x : ℕ) (parts : List ℕ)
      → map (Has x) (map (λ c. get_or (trees_of w.table) c top) parts)
      ≡ map (read_fact (tree_of w.table)) (map (Has x) parts)
  parts_read x [] = refl
  parts_read x (c ∷ cs) = ap (λ (l : List (Fact Concept)). Has x (tree_of w.table c) ∷ l) (parts_read x cs)

  and_adds : (x c d : ℕ) (parts : List ℕ)
      → (lt : x < node_count_from w.first fs) (h : has fs x c ≡ true) (sh : shape_of w.table c ≡ and_shape parts)
      (m : Contains parts d)
      → AddIsLine w q fs x d (by_and x c d parts lt h sh m)
  and_adds x c d parts lt h sh m = record {
    child =
        at_shape w q fs over x c (and_shape parts) (and_children state x) lt h sh (λ k. cc)
        ∙ ap (λ (l : List Concept). Some (with_facts state (map (Has x) l) ∷ []))
        (part_list-parts_of (map (λ c. get_or (trees_of w.table) c top) parts))
        ∙ ap (λ (l : List (Fact Concept)). Some (with_facts state l ∷ [])) (parts_read x parts);
    is_added = contains_map (Has x) parts d m;
  }

  one : {X : Type 0} (v : X) → Contains (v ∷ []) v
  one v = (0, omega arith, refl)

  -- what is known with one concept more
  abbrev child_with : ℕ → Concept → Option (List Known)
  child_with x t = Some (with_facts state (Has x t ∷ []) ∷ [])

  all_adds : (x y c s e : ℕ)
      → (lt : x < node_count_from w.first fs) (mt : y < node_count_from w.first fs) (h : has fs x c ≡ true)
      (sh : shape_of w.table c ≡ all_shape s e)
      (leads : has_edge fs (λ r. below_of w r s) x y ≡ true) → AddIsLine w q fs y e (by_all x y c s e lt mt h sh leads)
  all_adds x y c s e lt mt h sh leads = record {
    child =
        at_shape w q fs over x c (all_shape s e) (all_children w.theory state x y) lt h sh (λ k. cc)
        ∙ ap (λ (b : Bool). when (b && has_edge state.facts (λ r. w.theory.below r s) x y)
        (child_with y (tree_of w.table e)))
        (is_known w q fs over y mt)
        ∙ ap (λ (b : Bool). when b (child_with y (tree_of w.table e)))
        (edge_reads w q fs over (λ r. below_of w r s) x y ∙ leads);
    is_added = one (Has y e);
  }

  carry_adds : (x y c s t e d : ℕ) → (h : IsCarried w fs x y c s t e) (sh : shape_of w.table d ≡ all_shape t e)
      → AddIsLine w q fs y d (by_carry x y c s t e d h sh)
  carry_adds x y c s t e d h sh =
      let is_tree : tree_of w.table d ≡ all_of t (tree_of w.table e) =
      reads w q fs over d (all_shape t e) sh (λ k. cc) in
      record {
        child =
            at_shape w q fs over x c (all_shape s e) (carry_children w.theory state x y t) h.begin_is_node h.holds
            h.shape (λ k. cc)
            ∙ rw (
              h.transitive,
              h.role_below,
              is_known w q fs over y h.end_is_node,
              edge_reads w q fs over (λ r. below_of w r t) x y ∙ h.edge,
            ) refl
            ∙ ap (child_with y) (sym is_tree);
        is_added = one (Has y d);
      }

  -- ---- rows

  name_holds : (x : ℕ) (t : Concept) → has_name w fs x t ≡ true → has_tree state.facts x t ≡ true
  name_holds x (name a) h =
      let p : ℕ → Bool = λ c. is_named a (shape_of w.table c) in
      let v = first_passes p (label fs x) h in
      let at = first_passing p (label fs x) in
      let sh : shape_of w.table at ≡ name_shape a = named_is a (shape_of w.table at) v.passes in
      let lt = listed w.table at (λ k. (let l = sym sh ∙ k in cc)) in
      ap (has_tree state.facts x) (sym (reads w q fs over at (name_shape a) sh (λ k. cc)))
      ∙ holds w q fs over x at lt (sym (any-label fs x at) ∙ v.is_in)
  name_holds x _ h = cc

  names_hold : (x : ℕ) (cs : List Concept) (positions : List ℕ)
      → list_all (λ i. has_name w fs x (conjunct_at cs i)) positions ≡ true
      → list_all (λ i. has_tree state.facts x (conjunct_at cs i)) positions ≡ true
  names_hold x cs [] h = refl
  names_hold x cs (i ∷ is) h =
      let t =
      and_parts (has_name w fs x (conjunct_at cs i)) (list_all (λ j. has_name w fs x (conjunct_at cs j)) is) h in
      rw (name_holds x (conjunct_at cs i) t.0) (names_hold x cs is t.1)

  -- the line of a row with this trigger adds its concept
  abbrev RowIsLine : ℕ → ℕ → ℕ → ℕ → Trigger → Type 0
  RowIsLine x a p d t = children_in w q fs (line_of_row w fs x a p t) ≡ child_with x (tree_of w.table d)

  -- the row line of an inclusion
  inclusion_adds : (x a p d : ℕ) (cs : List Concept) (right : Concept) (positions : List ℕ)
      → x < node_count_from w.first fs → part_at w.theory a p ≡ Some (inclusion cs right)
      → are_name_positions cs positions ≡ true
      → list_all (λ i. has_tree state.facts x (conjunct_at cs i)) positions ≡ true
      → tree_of w.table d ≡ row_concept cs right positions
      → children_in w q fs (row_line x a p positions) ≡ child_with x (tree_of w.table d)
  inclusion_adds x a p d cs right positions lt there names' each is_tree =
      let answer = child_with x (row_concept cs right positions) in
      let have : Bool = list_all (λ i. has_tree state.facts x (conjunct_at cs i)) positions in
      ap (row_children state x positions) there
      ∙ ap (λ (b : Bool). when (b && knows state x && have) answer) names'
      ∙ ap (λ (b : Bool). when (b && have) answer) (is_known w q fs over x lt)
      ∙ ap (λ (b : Bool). when b answer) each
      ∙ ap (child_with x) (sym is_tree)

  -- the range line of a range
  range_adds : RangesAreFirst w.theory → (x a p r s d : ℕ) (right : Concept) → x < node_count_from w.first fs
      → part_at w.theory a p ≡ Some (range r right) → s ≡ r
      → ends_edge w fs s x ≡ true → tree_of w.table d ≡ right → RowIsLine x a p d (end_of s)
  range_adds first x a p r s d right lt there same ends is_tree =
      let z = first_begin w fs s x in
      let v =
      first_passes (λ z. has_edge fs (λ p. below_of w p s) z x) (range_with_len 0 (node_count_from w.first fs)) ends in
      let zt : z < node_count_from w.first fs =
      omega (arith, in_range_below z 0 (node_count_from w.first fs) v.is_in) in
      let at_one : part_at w.theory a 1 ≡ Some (range r right) =
      ap (part_at w.theory a) (sym (first a p r right there)) ∙ there in
      let leads : has_edge state.facts (λ p. w.theory.below p r) z x ≡ true =
      edge_reads w q fs over (λ p. below_of w p r) z x
      ∙ ap (λ (u : ℕ). has_edge fs (λ p. below_of w p u) z x) (sym same) ∙ v.passes in
      ap (range_children w.theory state z x) at_one
      ∙ ap (λ (b : Bool). when (b && knows state x && has_edge state.facts (λ p. w.theory.below p r) z x)
      (child_with x right))
      (is_known w q fs over z zt)
      ∙ ap (λ (b : Bool). when (b && has_edge state.facts (λ p. w.theory.below p r) z x) (child_with x right))
      (is_known w q fs over x lt)
      ∙ ap (λ (b : Bool). when b (child_with x right)) leads
      ∙ ap (child_with x) (sym is_tree)

  some_eq : {X : Type 0} (u v : X) → ◌≡◌ {A = Option X} (Some u) (Some v) → v ≡ u
  some_eq u v e = cc

  row_adds : RangesAreFirst w.theory → (x a p d : ℕ) (part : Part) (t : Trigger) → x < node_count_from w.first fs
      → part_at w.theory a p ≡ Some part → row_of part t ≡ Some (tree_of w.table d)
      → is_triggered w fs x (Some part) t ≡ true → RowIsLine x a p d t
  row_adds first x a p d (inclusion cs right) always lt there row used =
      inclusion_adds x a p d cs right [] lt there refl refl (some_eq (row_concept cs right []) (tree_of w.table d) row)
  row_adds first x a p d (inclusion cs right) (names positions) lt there row used =
      elim (cases_Bool (are_name_positions cs positions)) [
        | inl ok ↦
            let e : Some (row_concept cs right positions) ≡ Some (tree_of w.table d) =
            ap (λ (b : Bool). cond b (Some (row_concept cs right positions)) None) (sym ok) ∙ row in
            inclusion_adds x a p d cs right positions lt there ok (names_hold x cs positions used)
            (some_eq (row_concept cs right positions) (tree_of w.table d) e)
        | inr bad ↦
            (let e : ◌≡◌ {A = Option Concept} None (Some (tree_of w.table d)) =
            ap (λ (b : Bool). cond b (Some (row_concept cs right positions)) None) (sym bad) ∙ row in
            cc)
      ]
  row_adds first x a p d (inclusion cs right) (edge s) lt there row used =
      elim (cases_Bool (list_any (is_some_of s) cs)) [
        | inl ok ↦
            let e : Some (row_concept cs right []) ≡ Some (tree_of w.table d) =
            ap (λ (b : Bool). cond b (Some (row_concept cs right [])) None) (sym ok) ∙ row in
            inclusion_adds x a p d cs right [] lt there refl refl
            (some_eq (row_concept cs right []) (tree_of w.table d) e)
        | inr bad ↦
            (let e : ◌≡◌ {A = Option Concept} None (Some (tree_of w.table d)) =
            ap (λ (b : Bool). cond b (Some (row_concept cs right [])) None) (sym bad) ∙ row in
            cc)
      ]
  row_adds first x a p d (inclusion cs right) (end_of s) lt there row used = cc
  row_adds first x a p d (range r right) always lt there row used = cc
  row_adds first x a p d (range r right) (names positions) lt there row used = cc
  row_adds first x a p d (range r right) (edge s) lt there row used = cc
  row_adds first x a p d (range r right) (end_of s) lt there row used = elim (cases_Bool (eqb s r)) [
    | inl ok ↦
        let e : Some right ≡ Some (tree_of w.table d) = ap (λ (b : Bool). cond b (Some right) None) (sym ok) ∙ row in
        range_adds first x a p r s d right lt there (eqb-true s r ok) used (some_eq right (tree_of w.table d) e)
    | inr bad ↦
        (let e : ◌≡◌ {A = Option Concept} None (Some (tree_of w.table d)) =
        ap (λ (b : Bool). cond b (Some right) None) (sym bad) ∙ row in
        cc)
  ]

  pub add_is_line : IsChoice w.theory w.table w.rows → RangesAreFirst w.theory → (x d : ℕ) (adds : Adds w fs x d)
      → AddIsLine w q fs x d adds
  add_is_line choice first x d (by_and x' c d' parts lt h sh m) = and_adds x c d parts lt h sh m
  add_is_line choice first x d (by_all x' y c s e lt mt h sh leads) = all_adds x' x c s d lt mt h sh leads
  add_is_line choice first x d (by_carry x' y c s t e d' carried sh) = carry_adds x' x c s t e d carried sh
  add_is_line choice first x d (by_row x' row lt m used) =
      let f = All-contains (IsRowOf w.theory w.table) w.rows row choice.rows_fit m in
      record {
        child =
            row_adds first x row.axiom_number row.part_number row.concept f.part row.trigger lt f.is_there f.is_right
            (ap (λ (o : Option Part). is_triggered w fs x o row.trigger) (sym f.is_there) ∙ used);
        is_added = one (Has x row.concept);
      }

-- ---- given facts

count-first : (first : ℕ) (fs : List (Fact ℕ)) (f : Fact ℕ) → speaks_below first f ≡ true
    → node_count_from first (fs ++ f ∷ []) ≡ node_count_from first fs
count-first first [] (Has x c) h = refl
count-first first [] (Edge r x y) h =
    let t = and_parts (ltb x first) (ltb y first) h in omega (arith, ltb-true y first t.1)
count-first first [] (Apart x y) h = refl
count-first first [] (Same x y) h = refl
count-first first (Has v c ∷ fs) f h = count-first first fs f h
count-first first (Edge s v u ∷ fs) f h = ap (max (u + 1)) (count-first first fs f h)
count-first first (Apart v u ∷ fs) f h = count-first first fs f h
count-first first (Same v u ∷ fs) f h = count-first first fs f h

pub give_is_line : (w : SearchContext) (q : Question) (fs : List (Fact ℕ)) → 0 < w.first
    → (f : Fact ℕ) (given : IsGiven w f)
    → children_in w q fs (line_of_give w f given) ≡ Some (known_by w.first w.table (fs ++ f ∷ []) ∷ [])
give_is_line w q fs pos f given =
    let state : Known = known_by w.first w.table fs in
    let g : Fact Concept = read_fact (tree_of w.table) f in
    let nodes : state.nodes ≡ range_with_len 0 (node_count_from w.first (fs ++ f ∷ [])) =
    ap (range_with_len 0) (sym (count-first w.first fs f given.on_first)) in
    let facts : state.facts ++ g ∷ [] ≡ read_facts (tree_of w.table) (fs ++ f ∷ []) =
    sym (map-append (read_fact (tree_of w.table)) fs (f ∷ [])) in
    let same : with_facts state (g ∷ []) ≡ known_by w.first w.table (fs ++ f ∷ []) =
    λ i. record { nodes = nodes i; facts = facts i } in
    let zero_known : knows state 0 ≡ true =
    known_in 0 0 (node_count_from w.first fs) (omega arith) (omega (arith, pos, first_le w.first fs)) in
    ap (fact_children state) given.is_there
    ∙ ap (λ (b : Bool). when b (Some (with_facts state (g ∷ []) ∷ []))) zero_known
    ∙ ap (λ (k : Known). Some (k ∷ [])) same

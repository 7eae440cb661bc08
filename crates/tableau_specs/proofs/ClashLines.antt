-- A clash is a rule line without children whose premises hold, and such a line is a clash, or tells that two nodes are
-- apart and one.
use Rattle.std.proofs.Common.{◌≡◌, ℕ, zero, suc, ◌+◌, ◌<◌, ◌&&◌, eqb, ltb, cond, Bool, true, false, List, [], ◌∷◌, map}
use Rattle.std.proofs.Common.{length, get_or, Option, Some, None, refl, ap, ◌∙◌, sym, arith, inl, inr, eq-eqb}
use Rattle.std.specs.List.{list_any, range_with_len, All}
use Rattle.std.proofs.lemmas.Bool.{cases_Bool, or_cases, eqb-true, ltb-true, and_parts, or_right}
use Rattle.std.proofs.lemmas.List.Elements.{All-nil, All-cons}
use Rattle.calculus_specs.specs.Concept.{Concept, top, bottom, name, complement, intersection, union, some_of, all_of}
use Rattle.calculus_specs.specs.Concept.{at_least, at_most, Parts, parts_of, part_list}
use Rattle.calculus_specs.specs.Same.{is_same}
use Rattle.calculus_specs.specs.Shape.{Shape, shape_of, is_normal}
use Rattle.calculus_specs.specs.Shape.Shape.{bottom as bottom_shape, name as name_shape, not_name, union as or_shape}
use Rattle.calculus_specs.specs.Shape.Shape.{at_most as most_shape}
use Rattle.calculus_specs.specs.Tree.{tree_of, trees_of, tree_over}
use Rattle.calculus_specs.specs.Rows.{Part, part_at}
use Rattle.calculus_specs.specs.Rows.Part.{inclusion, range}
use Rattle.calculus_specs.proofs.Same.{same_to_eq}
use Rattle.calculus_specs.proofs.Unique.{tree_of_shape}
use Rattle.calculus_specs.specs.declared.facts.Fact.{Fact}
use Rattle.calculus_specs.specs.declared.facts.Fact.TheVariants.{Has, Edge, Apart, Same}
use Rattle.calculus_specs.specs.Joins.{rep}
use Rattle.calculus_specs.specs.State.{node_count_from, gives_concept, has, has_tree, has_edge, are_apart, all_apart}
use Rattle.calculus_specs.specs.Reading.{read_facts, are_listed}
use Rattle.calculus_specs.proofs.Reading.{keeps_state, reps-read, has-read}
use Rattle.calculus_specs.specs.Line.{Line}
use Rattle.calculus_specs.specs.Line.Line.{start_line, and_line, or_line, all_line, carry_line, row_line, range_line}
use Rattle.calculus_specs.specs.Line.Line.{some_line, least_line, choose_line, pair_line, bottom_line, clash_line}
use Rattle.calculus_specs.specs.Line.Line.{most_line, fact_line, differ_line}
use Rattle.calculus_specs.specs.Rules.{Question, Known, knows, with_facts, when, at_concept, start_children}
use Rattle.calculus_specs.specs.Rules.{and_children, or_children, all_children, carry_children, row_children}
use Rattle.calculus_specs.specs.Rules.{range_children, some_children, least_children, choose_children, clash_children}
use Rattle.calculus_specs.specs.Rules.{most_children, fact_children, differ_children, are_fillers}
use Rattle.tableau_specs.specs.Clash.{IsClash}
use Rattle.tableau_specs.specs.Clash.IsClash.{of_bottom, of_names, of_most, of_differ}
use Rattle.tableau_specs.specs.Steps.{SearchContext, below_of}
use Rattle.tableau_specs.proofs.Listed.{listed, most_listed}
use Rattle.tableau_specs.specs.Lines.{asked_in, known_by, concept_in, children_in, line_of_clash}
use Rattle.tableau_specs.specs.LineLaws.{IsOver}
use Rattle.tableau_specs.proofs.PlainClash.{FilledSuccessor, all_filled_parts, all_filled_from}
use Rattle.tableau_specs.proofs.KnownFacts.{is_known, reads, holds, edge_reads, at_shape, fillers_read, all_apart_reads}
use Rattle.tableau_specs.proofs.AddLines.{in_range_below}

-- ---- answers that are there

record Held {A : Type 0} (b : Bool) (answer : Option A) (v : A) : Type 0 where
  test : b ≡ true
  is : answer ≡ Some v

when_some : {A : Type 0} (b : Bool) (answer : Option A) (v : A) → when b answer ≡ Some v → Held b answer v
when_some true answer v h = record { test = refl; is = h }
when_some false answer v h = cc

no_kids : {A : Type 0} (b : Bool) (k : A) (ks : List A) → ¬ (when b (Some (k ∷ ks)) ≡ Some [])
no_kids true k ks h = cc
no_kids false k ks h = cc

-- ---- shapes of trees

bottom_from : (trees : List Concept) (s : Shape) → tree_over trees s ≡ bottom → s ≡ bottom_shape
bottom_from trees bottom_shape e = refl
bottom_from trees _ e = cc

name_from : (trees : List Concept) (s : Shape) (a : ℕ) → tree_over trees s ≡ name a → s ≡ name_shape a
name_from trees (name_shape b) a e = cc
name_from trees _ a e = cc

not_name_from : (trees : List Concept) (s : Shape) (a : ℕ) → tree_over trees s ≡ complement (name a) → s ≡ not_name a
not_name_from trees (not_name b) a e = cc
not_name_from trees _ a e = cc

record MostFrom (trees : List Concept) (s : Shape) (n r : ℕ) (t : Concept) : Type 0 where
  filler : ℕ
  is_shape : s ≡ most_shape n r filler
  is_tree : get_or trees filler top ≡ t

most_from : (trees : List Concept) (s : Shape) (n r : ℕ) (t : Concept) → tree_over trees s ≡ at_most n r t
    → MostFrom trees s n r t
most_from trees (most_shape m q e) n r t h =
    let a : m ≡ n = cc in
    let b : q ≡ r = cc in let c : get_or trees e top ≡ t = cc in record { filler = e; is_shape = cc; is_tree = c }
most_from trees _ n r t h = cc

-- a union in normal form has parts
union_has_parts : (table : List Shape) (trees : List Concept) (s : Shape) (cs : Parts) → is_normal table s ≡ true
    → tree_over trees s ≡ union cs → ¬ (part_list cs ≡ [])
union_has_parts table trees (or_shape []) cs ok e none = cc
union_has_parts table trees (or_shape (d ∷ ds)) cs ok e none =
    let k : parts_of (map (λ c. get_or trees c top) (d ∷ ds)) ≡ cs = cc in
    let l : part_list (parts_of (map (λ c. get_or trees c top) (d ∷ ds))) ≡ [] = ap part_list k ∙ none in
    cc
union_has_parts table trees _ cs ok e none = cc

map_none : {X Y : Type 0} (f : X → Y) (xs : List X) → map f xs ≡ [] → xs ≡ []
map_none f [] e = refl
map_none f (x ∷ xs) e = cc

-- ---- numbers that read as a tree

record Number (table : List Shape) (t : Concept) (m : ℕ → ℕ) (at : ℕ) (fs : List (Fact ℕ)) : Type 0 where
  number : ℕ
  listed : number < length table
  reads : tree_of table number ≡ t
  given : list_any (gives_concept (λ d. eqb d number) m at) fs ≡ true

more_number : (table : List Shape) (t : Concept) (m : ℕ → ℕ) (at : ℕ) (f : Fact ℕ) (fs : List (Fact ℕ))
    → Number table t m at fs → Number table t m at (f ∷ fs)
more_number table t m at f fs r = record {
  number = r.number;
  listed = r.listed;
  reads = r.reads;
  given =
      or_right (gives_concept (λ d. eqb d r.number) m at f) (list_any (gives_concept (λ d. eqb d r.number) m at) fs)
      r.given;
}

number_of : (table : List Shape) (t : Concept) (m : ℕ → ℕ) (at : ℕ) (fs : List (Fact ℕ))
    → are_listed (length table) fs ≡ true
    → list_any (gives_concept (λ u. is_same u t) m at) (read_facts (tree_of table) fs) ≡ true → Number table t m at fs
number_of table t m at [] h g = cc
number_of table t m at (Has y d ∷ fs) h g =
    let l = and_parts (ltb d (length table)) (are_listed (length table) fs) h in
    elim (or_cases (eqb (m y) at && is_same (tree_of table d) t)
    (list_any (gives_concept (λ u. is_same u t) m at) (read_facts (tree_of table) fs)) g) [
      | inl here ↦
          let b = and_parts (eqb (m y) at) (is_same (tree_of table d) t) here in
          record {
            number = d;
            listed = ltb-true d (length table) l.0;
            reads = same_to_eq (tree_of table d) t b.1;
            given = rw (b.0, eq-eqb d d refl) refl;
          }
      | inr later ↦ more_number table t m at (Has y d) fs (number_of table t m at fs l.1 later)
    ]
number_of table t m at (Edge r y z ∷ fs) h g = more_number table t m at (Edge r y z) fs (number_of table t m at fs h g)
number_of table t m at (Apart y z ∷ fs) h g = more_number table t m at (Apart y z) fs (number_of table t m at fs h g)
number_of table t m at (Same y z ∷ fs) h g = more_number table t m at (Same y z) fs (number_of table t m at fs h g)

-- ---- the lines that are a clash

module _ (w : SearchContext) (q : Question) (fs : List (Fact ℕ)) (over : IsOver w fs) where
  abbrev state : Known
  state = known_by w.first w.table fs

  node_of : (x : ℕ) → knows state x ≡ true → x < node_count_from w.first fs
  node_of x h = omega (arith, in_range_below x 0 (node_count_from w.first fs) h)

  -- the number of a concept other than top that a node has
  record HasNumber (x : ℕ) (t : Concept) : Type 0 where
    number : ℕ
    listed : number < length w.table
    reads : tree_of w.table number ≡ t
    holds : has fs x number ≡ true

  has_number : (x : ℕ) (t : Concept)
      → list_any (gives_concept (λ u. is_same u t) (rep state.facts) (rep state.facts x)) state.facts ≡ true
      → HasNumber x t
  has_number x t h =
      let g =
      ap (λ (m : ℕ → ℕ). list_any (gives_concept (λ u. is_same u t) m (m x)) state.facts)
      (sym (reps-read ℕ Concept (tree_of w.table) fs))
      ∙ h in
      let r = number_of w.table t (rep fs) (rep fs x) fs over.listed g in
      record {
        number = r.number;
        listed = r.listed;
        reads = r.reads;
        holds =
            or_right (eqb r.number 0) (list_any (gives_concept (λ d. eqb d r.number) (rep fs) (rep fs x)) fs) r.given;
      }

  shape_reads : (c : ℕ) → c < length w.table → tree_over (trees_of w.table) (shape_of w.table c) ≡ tree_of w.table c
  shape_reads c lt = sym (tree_of_shape w.table c lt (over.is_table.parts_below c lt))

  -- a line at a number whose concept the node has
  record AtNumber {A : Type 0} (x c : ℕ) (answer : Concept → Option A) (v : A) : Type 0 where
    node : x < node_count_from w.first fs
    listed : c < length w.table
    holds : has fs x c ≡ true
    is : answer (tree_of w.table c) ≡ Some v

  at_number : {A : Type 0} (x c : ℕ) (answer : Concept → Option A) (v : A)
      → at_concept state x (concept_in w.table c) answer ≡ Some v → AtNumber x c answer v
  at_number x c answer v h = elim (cases_Bool (ltb c (length w.table))) [
    | inl in' ↦
        let lt = ltb-true c (length w.table) in' in
        let g = ap (λ (b : Bool). at_concept state x (cond b (Some (tree_of w.table c)) None) answer) (sym in') ∙ h in
        let p =
        when_some (knows state x && has_tree state.facts x (tree_of w.table c)) (answer (tree_of w.table c)) v g in
        let t = and_parts (knows state x) (has_tree state.facts x (tree_of w.table c)) p.test in
        record {
          node = node_of x t.0;
          listed = lt;
          holds = sym (has-read w.table over.is_table fs over.listed x c lt) ∙ t.1;
          is = p.is;
        }
    | inr out ↦
        (let g = ap (λ (b : Bool). at_concept state x (cond b (Some (tree_of w.table c)) None) answer) (sym out) ∙ h in
        cc)
  ]

  fillers_of : (x s e : ℕ) (ys : List ℕ) → e < length w.table
      → are_fillers w.theory state x s (tree_of w.table e) ys ≡ true
      → All (FilledSuccessor w.first (below_of w) fs x s e) ys
  fillers_of x s e [] lt h = All-nil (FilledSuccessor w.first (below_of w) fs x s e)
  fillers_of x s e (y ∷ ys) lt h =
      let t =
      and_parts
      (knows state y && has_edge state.facts (λ r. w.theory.below r s) x y
      && has_tree state.facts y (tree_of w.table e))
      (are_fillers w.theory state x s (tree_of w.table e) ys) h in
      let u =
      and_parts (knows state y && has_edge state.facts (λ r. w.theory.below r s) x y)
      (has_tree state.facts y (tree_of w.table e)) t.0 in
      let v = and_parts (knows state y) (has_edge state.facts (λ r. w.theory.below r s) x y) u.0 in
      All-cons (FilledSuccessor w.first (below_of w) fs x s e) y ys
      (record {
        is_node = node_of y v.0;
        edge = sym (edge_reads w q fs over (λ r. below_of w r s) x y) ∙ v.1;
        holds = sym (has-read w.table over.is_table fs over.listed y e lt) ∙ u.1;
      })
      (fillers_of x s e ys lt t.1)

  abbrev Clash : Type 0
  Clash = IsClash w.first (below_of w) w.table fs

  clash_names : (x c : ℕ) (t : Concept) → tree_of w.table c ≡ t → x < node_count_from w.first fs → c < length w.table
      → has fs x c ≡ true → clash_children state x t ≡ Some [] → Clash
  clash_names x c (name a) e lt ct h is =
      let p = when_some (has_tree state.facts x (complement (name a))) (Some []) [] is in
      let d = has_number x (complement (name a)) p.test in
      of_names x c d.number a lt h (name_from (trees_of w.table) (shape_of w.table c) a (shape_reads c ct ∙ e)) d.holds
      (not_name_from (trees_of w.table) (shape_of w.table d.number) a (shape_reads d.number d.listed ∙ d.reads))
  clash_names x c _ e lt ct h is = cc

  clash_most : (x c : ℕ) (ys : List ℕ) (t : Concept) → tree_of w.table c ≡ t → x < node_count_from w.first fs
      → c < length w.table → has fs x c ≡ true → most_children w.theory state x ys t ≡ Some [] → Clash
  clash_most x c ys (at_most n s u) e lt ct h is =
      let m = most_from (trees_of w.table) (shape_of w.table c) n s u (shape_reads c ct ∙ e) in
      let et = most_listed w over.is_table c n s m.filler m.is_shape in
      let p =
      when_some (eqb (length ys) (n + 1) && are_fillers w.theory state x s u ys && all_apart state.facts ys) (Some [])
      [] is in
      let a =
      and_parts (eqb (length ys) (n + 1) && are_fillers w.theory state x s u ys) (all_apart state.facts ys) p.test in
      let b = and_parts (eqb (length ys) (n + 1)) (are_fillers w.theory state x s u ys) a.0 in
      of_most x c n s m.filler ys lt h m.is_shape (eqb-true (length ys) (n + 1) b.0)
      (all_filled_from w.first (below_of w) fs x s m.filler ys
      (fillers_of x s m.filler ys et (ap (λ (v : Concept). are_fillers w.theory state x s v ys) m.is_tree ∙ b.1)))
      (sym (all_apart_reads w q fs over ys) ∙ a.1)
  clash_most x c ys _ e lt ct h is = cc

  -- ---- the lines that have children

  no_start : (n : ℕ) → ¬ (start_children (asked_in w q) (range_with_len 0 n) ≡ Some [])
  no_start zero h = no_kids _ _ _ h
  no_start (suc n) h = cc

  no_and : (x : ℕ) (t : Concept) → ¬ (and_children state x t ≡ Some [])
  no_and x (intersection cs) h = cc
  no_and x _ h = cc

  no_or : (x c : ℕ) (t : Concept) → tree_of w.table c ≡ t → c < length w.table → ¬ (or_children state x t ≡ Some [])
  no_or x c (union cs) e ct h =
      let k : map {B = Known} (λ d. with_facts state (Has x d ∷ [])) (part_list cs) ≡ [] = cc in
      union_has_parts w.table (trees_of w.table) (shape_of w.table c) cs (over.is_table.are_normal c ct)
      (shape_reads c ct ∙ e)
      (map_none (λ d. with_facts state (Has x d ∷ [])) (part_list cs) k)
  no_or x c _ e ct h = cc

  no_all : (x y : ℕ) (t : Concept) → ¬ (all_children w.theory state x y t ≡ Some [])
  no_all x y (all_of s e) h = no_kids _ _ _ h
  no_all x y _ h = cc

  no_carry : (x y r : ℕ) (t : Concept) → ¬ (carry_children w.theory state x y r t ≡ Some [])
  no_carry x y r (all_of s e) h = no_kids _ _ _ h
  no_carry x y r _ h = cc

  no_row : (x : ℕ) (positions : List ℕ) (o : Option Part) → ¬ (row_children state x positions o ≡ Some [])
  no_row x positions None h = cc
  no_row x positions (Some (inclusion cs d)) h = no_kids _ _ _ h
  no_row x positions (Some (range r d)) h = cc

  no_range : (x y : ℕ) (o : Option Part) → ¬ (range_children w.theory state x y o ≡ Some [])
  no_range x y None h = cc
  no_range x y (Some (inclusion cs d)) h = cc
  no_range x y (Some (range r d)) h = no_kids _ _ _ h

  no_some : (x y : ℕ) (t : Concept) → ¬ (some_children state x y t ≡ Some [])
  no_some x y (some_of s e) h = no_kids _ _ _ h
  no_some x y _ h = cc

  no_least : (x y : ℕ) (t : Concept) → ¬ (least_children state x y t ≡ Some [])
  no_least x y (at_least n s e) h = no_kids _ _ _ h
  no_least x y _ h = cc

  no_choose : (y : ℕ) (o : Option Concept) → ¬ (choose_children state y o ≡ Some [])
  no_choose y None h = cc
  no_choose y (Some t) h = no_kids _ _ _ h

  no_fact : (o : Option (Fact Concept)) → ¬ (fact_children state o ≡ Some [])
  no_fact None h = cc
  no_fact (Some f) h = no_kids _ _ _ h

  clash_differ : (y z : ℕ) → differ_children state y z ≡ Some [] → Clash
  clash_differ y z h =
      let p =
      when_some
      (knows state y && knows state z && are_apart state.facts y z && eqb (rep state.facts y) (rep state.facts z))
      (Some []) [] h in
      let a =
      and_parts (knows state y && knows state z && are_apart state.facts y z)
      (eqb (rep state.facts y) (rep state.facts z)) p.test in
      let b = and_parts (knows state y && knows state z) (are_apart state.facts y z) a.0 in
      let c = and_parts (knows state y) (knows state z) b.0 in
      let keeps = keeps_state ℕ Concept (tree_of w.table) fs in
      of_differ y z (node_of y c.0) (node_of z c.1) (sym (keeps.aparts y z) ∙ b.1)
      (sym (keeps.reps y) ∙ eqb-true (rep state.facts y) (rep state.facts z) a.1 ∙ keeps.reps z)

  pub line_clashes : (line : Line) → children_in w q fs line ≡ Some [] → Clash
  line_clashes start_line h = absurd (no_start (node_count_from w.first fs) h)
  line_clashes (and_line x c) h =
      let r = at_number x c (and_children state x) [] h in absurd (no_and x (tree_of w.table c) r.is)
  line_clashes (or_line x c) h =
      let r = at_number x c (or_children state x) [] h in absurd (no_or x c (tree_of w.table c) refl r.listed r.is)
  line_clashes (all_line x y c) h =
      let r = at_number x c (all_children w.theory state x y) [] h in absurd (no_all x y (tree_of w.table c) r.is)
  line_clashes (carry_line x y t c) h =
      let r = at_number x c (carry_children w.theory state x y t) [] h in
      absurd (no_carry x y t (tree_of w.table c) r.is)
  line_clashes (row_line x a p positions) h = absurd (no_row x positions (part_at w.theory a p) h)
  line_clashes (range_line x y a) h = absurd (no_range x y (part_at w.theory a 1) h)
  line_clashes (some_line x y c) h =
      let r = at_number x c (some_children state x y) [] h in absurd (no_some x y (tree_of w.table c) r.is)
  line_clashes (least_line x y c) h =
      let r = at_number x c (least_children state x y) [] h in absurd (no_least x y (tree_of w.table c) r.is)
  line_clashes (choose_line y c) h = absurd (no_choose y (concept_in w.table c) h)
  line_clashes (pair_line y z) h = absurd (no_kids _ _ _ h)
  line_clashes (bottom_line x) h =
      let p = when_some (knows state x && has_tree state.facts x bottom) (Some []) [] h in
      let t = and_parts (knows state x) (has_tree state.facts x bottom) p.test in
      let d = has_number x bottom t.1 in
      of_bottom x d.number (node_of x t.0) d.holds
      (bottom_from (trees_of w.table) (shape_of w.table d.number) (shape_reads d.number d.listed ∙ d.reads))
  line_clashes (clash_line x c) h =
      let r = at_number x c (clash_children state x) [] h in
      clash_names x c (tree_of w.table c) refl r.node r.listed r.holds r.is
  line_clashes (most_line x c ys) h =
      let r = at_number x c (most_children w.theory state x ys) [] h in
      clash_most x c ys (tree_of w.table c) refl r.node r.listed r.holds r.is
  line_clashes (fact_line a p) h = absurd (no_fact (w.fact_of a p) h)
  line_clashes (differ_line y z) h = clash_differ y z h

  -- ---- the line of a clash

  pub clash_is_line : (clash : Clash)
      → children_in w q fs (line_of_clash w.first (below_of w) w.table fs clash) ≡ Some []
  clash_is_line (of_bottom x c lt h sh) =
      let ct = listed w.table c (λ e. (let l = sym sh ∙ e in cc)) in
      let has_it : has_tree state.facts x bottom ≡ true =
      ap (has_tree state.facts x) (sym (reads w q fs over c bottom_shape sh (λ e. cc))) ∙ holds w q fs over x c ct h in
      ap (λ (b : Bool). when (b && has_tree state.facts x bottom) (Some [])) (is_known w q fs over x lt)
      ∙ ap (λ (b : Bool). when b (Some [])) has_it
  clash_is_line (of_names x c d a lt h sh g th) =
      let dt = listed w.table d (λ e. (let l = sym th ∙ e in cc)) in
      let has_it : has_tree state.facts x (complement (name a)) ≡ true =
      ap (has_tree state.facts x) (sym (reads w q fs over d (not_name a) th (λ e. cc))) ∙ holds w q fs over x d dt g in
      at_shape w q fs over x c (name_shape a) (clash_children state x) lt h sh (λ e. cc)
      ∙ ap (λ (b : Bool). when b (Some [])) has_it
  clash_is_line (of_most x c n s e ys lt h sh len all apart) =
      let et = most_listed w over.is_table c n s e sh in
      let fillers = fillers_read w q fs over x s e ys et (all_filled_parts w.first (below_of w) fs x s e ys all) in
      at_shape w q fs over x c (most_shape n s e) (most_children w.theory state x ys) lt h sh (λ p. cc)
      ∙ rw (eq-eqb (length ys) (n + 1) len, fillers, all_apart_reads w q fs over ys ∙ apart) refl
  clash_is_line (of_differ y z lt mt apart same) =
      let keeps = keeps_state ℕ Concept (tree_of w.table) fs in
      rw (
        is_known w q fs over y lt,
        is_known w q fs over z mt,
        keeps.aparts y z ∙ apart,
        eq-eqb (rep state.facts y) (rep state.facts z) (keeps.reps y ∙ same ∙ sym (keeps.reps z)),
      ) refl

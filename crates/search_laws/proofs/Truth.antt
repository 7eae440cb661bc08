-- Each element is in all that the node which it is like has: by induction on how deep roles nest, and on the numbers of
-- the table.
use Rattle.std.proofs.Common.{◌≡◌, ℕ, zero, suc, ◌+◌, ◌<◌, ◌≤◌, ◌&&◌, not, eqb, ltb, leb, Bool, true, false, List, []}
use Rattle.std.proofs.Common.{◌∷◌, map, length, get_or, refl, ap, ◌∙◌, sym, subst, arith, inl, inr}
use Rattle.std.specs.List.{list_any, list_all, range_with_len, Contains, All}
use Rattle.std.proofs.lemmas.Bool.{cases_Bool, and_parts, and_from, or_cases, or_left, or_right, eqb-true, ltb-true}
use Rattle.std.proofs.lemmas.Bool.{leb-true, le-leb, false_from_ne_true, not_from_false}
use Rattle.std.proofs.lemmas.List.Elements.{All-nil, All-cons, All-head}
use Rattle.std.proofs.lemmas.List.FromFn.{length-range_with_len}
use Rattle.shq_terms.specs.Concept.{Concept, some_of, all_of, at_least, at_most, parts_of}
use Rattle.calculus_specs.specs.Shape.{Shape, shape_of, has_parts_below, is_disjunct, is_normal}
use Rattle.calculus_specs.specs.Shape.Shape.{top as top_shape, bottom as bottom_shape, name as name_shape, not_name}
use Rattle.calculus_specs.specs.Shape.Shape.{intersection as intersection_shape, union as union_shape}
use Rattle.calculus_specs.specs.Shape.Shape.{some_of as some_shape, all_of as all_shape, at_least as least_shape}
use Rattle.calculus_specs.specs.Shape.Shape.{at_most as most_shape}
use Rattle.calculus_specs.specs.Tree.{tree_over, trees_of, tree_of, IsComplement}
use Rattle.calculus_specs.proofs.Unique.{tree_of_shape}
use Rattle.ontology_limits.specs.Below.{count_below}
use Rattle.ontology_limits.specs.Truth.{Interpretation, implies, holds, hold_all, hold_any}
use Rattle.ontology_limits.proofs.Members.{member_passes}
use Rattle.ontology_limits.proofs.Implied.{implies_from}
use Rattle.ontology_limits.proofs.Truth.{negated_truth}
use Rattle.refutation_truth.proofs.Below.{all_from}
use Rattle.calculus_specs.specs.declared.facts.Fact.{Fact}
use Rattle.calculus_specs.specs.declared.facts.Fact.TheVariants.{Has}
use Rattle.calculus_specs.specs.State.{node_count_from, has, label, is_successor, all_apart}
use Rattle.calculus_specs.proofs.State.{any-label}
use Rattle.tableau_specs.specs.declared.Branch.TheVariants.{Or, Choose}
use Rattle.tableau_specs.specs.declared.Item.{Item}
use Rattle.tableau_specs.specs.Items.{facts_of}
use Rattle.tableau_specs.specs.Clash.{filled_successors}
use Rattle.tableau_specs.specs.Clash.IsPlainClash.{plain_bottom, plain_names}
use Rattle.tableau_specs.proofs.PlainClash.{FilledSuccessor, all_filled_parts, filled_are_successors}
use Rattle.tableau_specs.proofs.PlainClash.{filled_have_filler}
use Rattle.tableau_specs.specs.Steps.{SearchContext, below_of, is_named, is_run}
use Rattle.tableau_specs.specs.Clash.{is_filled_successor}
use Rattle.tableau_specs.specs.Steps.Adds.{by_and}
use Rattle.tableau_specs.specs.Steps.Generates.{by_some, by_least}
use Rattle.tableau_specs.specs.Steps.MayBranch.{on_union, on_filler}
use Rattle.tableau_specs.specs.Steps.IsAlternative.{of_union, of_filler}
use Rattle.tableau_specs.proofs.Saturated.{counted as as_many_counted}
use Rattle.search_laws.specs.Elements.{is_element, node_at, original}
use Rattle.search_laws.specs.Pairs.{LeadsTo, IsPair}
use Rattle.search_laws.specs.Pairs.IsPair.{by_edge, by_chain}
use Rattle.calculus_specs.specs.Depth.{role_depth, role_depth_parts}
use Rattle.search_laws.proofs.Counting.{count_le, count_one}
use Rattle.search_laws.proofs.Counting.{count_passing, length-passing_twice, passes_somewhere}
use Rattle.calculus_specs.proofs.Depth.{negated_depth}
use Rattle.search_laws.proofs.CounterModelNodes.{member, any_more}
use Rattle.search_laws.proofs.TrailFew.{few_fit}
use Rattle.search_laws.proofs.Setting.{Setting, stands_at, like_of, number_of, next_stands, edge_pair, all_at_pair}

not_empty : (ys : List ℕ) → ¬ (ys ≡ []) → 0 < length ys
not_empty [] h = absurd (h refl)
not_empty (y ∷ ys) h = omega arith

-- a shape that names a class
pub named_is : (a : ℕ) (s : Shape) → is_named a s ≡ true → s ≡ name_shape a
named_is a (name_shape b) h = ap name_shape (sym (eqb-true a b h))
named_is a top_shape h = cc
named_is a bottom_shape h = cc
named_is a (not_name b) h = cc
named_is a (intersection_shape cs) h = cc
named_is a (union_shape cs) h = cc
named_is a (some_shape r c) h = cc
named_is a (all_shape r c) h = cc
named_is a (least_shape n r c) h = cc
named_is a (most_shape n r c) h = cc

module _ (w : SearchContext) (trail : List Item) (i : Interpretation) (g : Setting w trail i) where
  abbrev fs : List (Fact ℕ)
  fs = facts_of trail

  -- the node that an element is like
  abbrev like_at : ℕ → ℕ
  like_at v = original w.first fs (node_at w.first fs v)

  -- the elements are in the concept of a number where the nodes that they are like have it
  abbrev Sure : ℕ → Type 0
  Sure c = (v : ℕ) → v < i.size → has fs (like_at v) c ≡ true → holds i (tree_of w.table c) v ≡ true

  node_of : (v : ℕ) → v < i.size → like_at v < node_count_from w.first fs
  node_of v lt = (like_of w trail i g (node_at w.first fs v) (stands_at w trail i g v lt)).is_open.is_node

  -- what the node of an element has, the node that it is like has
  has_like : (v c : ℕ) → v < i.size → has fs (node_at w.first fs v) c ≡ true → has fs (like_at v) c ≡ true
  has_like v c lt h = (like_of w trail i g (node_at w.first fs v) (stands_at w trail i g v lt)).has_all c h

  -- ---- names

  name_sure : (c a v : ℕ) → shape_of w.table c ≡ name_shape a → v < i.size → has fs (like_at v) c ≡ true
      → i.in_class a v ≡ true
  name_sure c a v sh lt h =
      g.built.classes_are a v lt
      ∙ any_more (λ d. eqb d c) (λ d. is_named a (shape_of w.table d))
      (λ d e. ap (λ (k : ℕ). is_named a (shape_of w.table k)) (eqb-true d c e) ∙ ap (is_named a) sh ∙ self a)
      (label fs (like_at v)) (any-label fs (like_at v) c ∙ h)
    where
      self : (b : ℕ) → is_named b (name_shape b) ≡ true
      self b = grind arith

  not_name_sure : (c a v : ℕ) → shape_of w.table c ≡ not_name a → v < i.size → has fs (like_at v) c ≡ true
      → not (i.in_class a v) ≡ true
  not_name_sure c a v sh lt h = not_from_false (i.in_class a v) (false_from_ne_true (i.in_class a v) (λ k.
      let m =
      member (λ d. is_named a (shape_of w.table d)) (label fs (like_at v)) (sym (g.built.classes_are a v lt) ∙ k) in
      g.saturated.no_clash
      (plain_names (like_at v) m.it c a (node_of v lt) (sym (any-label fs (like_at v) m.it) ∙ m.is_in)
      (named_is a (shape_of w.table m.it) m.passes) h sh)))

  -- ---- intersections and unions

  hold_each : (v : ℕ) (ds : List ℕ) → ((d : ℕ) → Contains ds d → holds i (tree_of w.table d) v ≡ true)
      → hold_all i (parts_of (map (tree_of w.table) ds)) v ≡ true
  hold_each v [] each = refl
  hold_each v (d ∷ ds) each =
      and_from (holds i (tree_of w.table d) v) (hold_all i (parts_of (map (tree_of w.table) ds)) v)
      (each d (0, omega arith, refl))
      (hold_each v ds (λ e k. each e (suc k.0, omega (arith, k.1), k.2)))

  hold_one : (v d : ℕ) (ds : List ℕ) → Contains ds d → holds i (tree_of w.table d) v ≡ true
      → hold_any i (parts_of (map (tree_of w.table) ds)) v ≡ true
  hold_one v d [] k h = absurd (omega (arith, k.1))
  hold_one v d (e ∷ ds) (zero, lt, is) h =
      or_left (holds i (tree_of w.table e) v) (hold_any i (parts_of (map (tree_of w.table) ds)) v)
      (subst (λ (a : ℕ). holds i (tree_of w.table a) v ≡ true) (sym is) h)
  hold_one v d (e ∷ ds) (suc k, lt, is) h =
      or_right (holds i (tree_of w.table e) v) (hold_any i (parts_of (map (tree_of w.table) ds)) v)
      (hold_one v d ds (k, omega arith, is) h)

  -- one of the list is in
  record OneOf (x : ℕ) (ds : List ℕ) : Type 0 where
    it : ℕ
    is_in : Contains ds it
    held : has (facts_of trail) x it ≡ true

  one_in : (x : ℕ) (ds : List ℕ) → list_any (has fs x) ds ≡ true → OneOf x ds
  one_in x [] h = cc
  one_in x (d ∷ ds) h = elim (or_cases (has fs x d) (list_any (has fs x) ds) h) [
    | inl here ↦ record { it = d; is_in = (0, omega arith, refl); held = here }
    | inr later ↦
        let r = one_in x ds later in
        record { it = r.it; is_in = (suc r.is_in.0, omega (arith, r.is_in.1), r.is_in.2); held = r.held }
  ]

  all_out : (x : ℕ) (ds : List ℕ) → list_any (has fs x) ds ≡ false → All (λ d. has fs x d ≡ false) ds
  all_out x [] h = All-nil (λ d. has fs x d ≡ false)
  all_out x (d ∷ ds) h = elim (cases_Bool (has fs x d)) [
    | inl here ↦ let k = rw here at h in absurd (cc)
    | inr out ↦ All-cons (λ e. has fs x e ≡ false) d ds out (all_out x ds (rw out at h))
  ]

  one_of : (x c : ℕ) (ds : List ℕ) → shape_of w.table c ≡ union_shape ds → 0 < length ds
      → x < node_count_from w.first fs → has fs x c ≡ true → OneOf x ds
  one_of x c [] sh some lt h = absurd (omega arith)
  one_of x c (d ∷ ds) sh some lt h = elim (cases_Bool (list_any (has fs x) (d ∷ ds))) [
    | inl any ↦ one_in x (d ∷ ds) any
    | inr none ↦
        absurd (g.saturated.no_choose (Or x c) (Has x d) (on_union x c (d ∷ ds) lt h sh (all_out x (d ∷ ds) none))
        (of_union x c 0 d (d ∷ ds) sh refl))
  ]

  -- ---- counts

  -- what is counted at an element: its edges to nodes with the filler
  abbrev counted : ℕ → ℕ → ℕ → ℕ → Bool
  counted s e v y = is_successor fs (λ r. below_of w r s) (like_at v) y && has fs y e

  by_numbers : (s e v : ℕ)
      → count_below i.size (λ u. counted s e v (node_at w.first fs u))
      ≡ count_below (node_count_from w.first fs) (λ y. is_element w.first fs y && counted s e v y)
  by_numbers s e v =
      ap (λ (m : ℕ). count_below m (λ u. counted s e v (node_at w.first fs u))) g.built.size_is
      ∙ count_passing (is_element w.first fs) (node_count_from w.first fs) (counted s e v)

  -- what is counted at an element is in the pairs of the role and in the filler
  counted_holds : (s e v u : ℕ) → Sure e → v < i.size → u < i.size → counted s e v (node_at w.first fs u) ≡ true
      → (i.in_role s v u && holds i (tree_of w.table e) u) ≡ true
  counted_holds s e v u sure lt mt h =
      let t =
      and_parts (is_successor fs (λ r. below_of w r s) (like_at v) (node_at w.first fs u))
      (has fs (node_at w.first fs u) e) h in
      and_from (i.in_role s v u) (holds i (tree_of w.table e) u)
      ((g.built.roles_are s v u lt mt).1 (by_edge (node_at w.first fs v) (node_at w.first fs u) t.0))
      (sure u mt (has_like u e mt t.1))

  some_sure : (c s e v : ℕ) → shape_of w.table c ≡ some_shape s e → Sure e → v < i.size → has fs (like_at v) c ≡ true
      → holds i (some_of s (tree_of w.table e)) v ≡ true
  some_sure c s e v sh sure lt h =
      let x = like_at v in
      let st = stands_at w trail i g v lt in
      let fits = filled_successors w.first (below_of w) fs x s e in
      let more : 0 < length fits =
      not_empty fits
      (λ none. g.saturated.no_generate _
      (by_some x c s e (like_of w trail i g (node_at w.first fs v) st).is_open h sh none)) in
      let y = get_or fits 0 0 in
      let lead : LeadsTo w fs s (node_at w.first fs v) y =
      filled_are_successors w.first (below_of w) fs x s e 0 0 more in
      let n = number_of w trail i g y (next_stands w trail i g s (node_at w.first fs v) y st lead) in
      let filled : has fs (node_at w.first fs n.number) e ≡ true =
      subst (λ (z : ℕ). has fs z e ≡ true) (sym n.is_at) (filled_have_filler w.first (below_of w) fs x s e 0 0 more) in
      le-leb 1 (count_below i.size (λ u. i.in_role s v u && holds i (tree_of w.table e) u))
      (count_one i.size (λ u. i.in_role s v u && holds i (tree_of w.table e) u) n.number n.is_within
      (and_from (i.in_role s v n.number) (holds i (tree_of w.table e) n.number) (edge_pair w trail i g s v y lt n lead)
      (sure n.number n.is_within (has_like n.number e n.is_within filled))))

  -- ---- at least

  run_parts : (x s e n y : ℕ) → is_run w fs x s e n y ≡ true
      → All (FilledSuccessor w.first (below_of w) fs x s e) (range_with_len y n)
      × (all_apart fs (range_with_len y n) ≡ true)
  run_parts x s e n y h =
      let t =
      and_parts (list_all (is_filled_successor w.first (below_of w) fs x s e) (range_with_len y n))
      (all_apart fs (range_with_len y n)) h in
      (all_filled_parts w.first (below_of w) fs x s e (range_with_len y n) t.0, t.1)

  run_begins : (x s e n y : ℕ) → is_run w fs x s e (suc n) y ≡ true → y < node_count_from w.first fs
  run_begins x s e n y h =
      (All-head (FilledSuccessor w.first (below_of w) fs x s e) y (range_with_len (y + 1) n)
      (run_parts x s e (suc n) y h).0).is_node

  least_sure : (c n s e v : ℕ) → shape_of w.table c ≡ least_shape (suc n) s e → Sure e → v < i.size
      → has fs (like_at v) c ≡ true → holds i (at_least (suc n) s (tree_of w.table e)) v ≡ true
  least_sure c n s e v sh sure lt h =
      let x = like_at v in
      let st = stands_at w trail i g v lt in
      let run = passes_somewhere (node_count_from w.first fs) (is_run w fs x s e (suc n)) (run_begins x s e n)
      (λ none. g.saturated.no_generate _
      (by_least x c (suc n) s e (like_of w trail i g (node_at w.first fs v) st).is_open h sh none)) in
      let parts = run_parts x s e (suc n) run.0 run.1 in
      let many = as_many_counted w fs x s e g.none_apart (range_with_len run.0 (suc n)) parts.0 parts.1 in
      let long = length-range_with_len run.0 (suc n) in
      let fits =
      length-passing_twice (is_successor fs (λ r. below_of w r s) x) (node_count_from w.first fs) (λ y. has fs y e) in
      let nodes =
      count_le (node_count_from w.first fs) (counted s e v) (λ z. is_element w.first fs z && counted s e v z) (λ z mt k.
      let lead : LeadsTo w fs s (node_at w.first fs v) z =
      (and_parts (is_successor fs (λ r. below_of w r s) x z) (has fs z e) k).0 in
      and_from (is_element w.first fs z) (counted s e v z)
      (next_stands w trail i g s (node_at w.first fs v) z st lead).is_one k) in
      let same = by_numbers s e v in
      let hold =
      count_le i.size (λ u. counted s e v (node_at w.first fs u))
      (λ u. i.in_role s v u && holds i (tree_of w.table e) u) (λ u mt k. counted_holds s e v u sure lt mt k) in
      le-leb (suc n) (count_below i.size (λ u. i.in_role s v u && holds i (tree_of w.table e) u)) (omega arith)

  -- ---- at most

  -- a successor in the filler has it: else it would have the complement, and be in that
  has_filler : (c n s e v u : ℕ) → shape_of w.table c ≡ most_shape n s e → ((d : ℕ) → IsComplement w.table e d → Sure d)
      → v < i.size → u < i.size → has fs (like_at v) c ≡ true
      → is_successor fs (λ r. below_of w r s) (like_at v) (node_at w.first fs u) ≡ true
      → holds i (tree_of w.table e) u ≡ true → has fs (node_at w.first fs u) e ≡ true
  has_filler c n s e v u sh other lt mt h next hold = elim (cases_Bool (has fs (node_at w.first fs u) e)) [
    | inl held ↦ held
    | inr out ↦ absurd (g.saturated.no_choose (Choose (node_at w.first fs u) e) (Has (node_at w.first fs u) e)
        (on_filler (like_at v) c n s e (node_at w.first fs u) (node_of v lt) h sh next out
        (λ d is. false_from_ne_true (has fs (node_at w.first fs u) d) (λ k.
        let in_other : holds i (tree_of w.table d) u ≡ true = other d is u mt (has_like u d mt k) in
        let turned : not (holds i (tree_of w.table e) u) ≡ true =
        sym (negated_truth i (tree_of w.table e) u) ∙ ap (λ (t : Concept). holds i t u) (sym is.negates) ∙ in_other in
        let wrong : true ≡ false = sym turned ∙ ap not hold in
        cc)))
        (of_filler (node_at w.first fs u) e))
  ]

  only_edges : (c n s e v y : ℕ) → shape_of w.table c ≡ most_shape n s e → v < i.size → has fs (like_at v) c ≡ true
      → (x : ℕ) → x ≡ node_at w.first fs v → IsPair w fs s x y
      → is_successor fs (λ r. below_of w r s) (original w.first fs x) y ≡ true
  only_edges c n s e v y' sh lt h x' is (by_edge x y lead) = lead
  only_edges c n s e v y' sh lt h x' is (by_chain t x y tr b chain) =
      let no' = g.simple (like_at v) c n s e t (node_of v lt) h sh tr in absurd (cc)

  most_sure : (c n s e v : ℕ) → shape_of w.table c ≡ most_shape n s e → ((d : ℕ) → IsComplement w.table e d → Sure d)
      → v < i.size → has fs (like_at v) c ≡ true
      → holds i (at_most n s (tree_of w.table e)) v ≡ true
  most_sure c n s e v sh other lt h =
      let x = like_at v in
      let hold =
      count_le i.size (λ u. i.in_role s v u && holds i (tree_of w.table e) u)
      (λ u. counted s e v (node_at w.first fs u)) (λ u mt k.
      let t = and_parts (i.in_role s v u) (holds i (tree_of w.table e) u) k in
      let next =
      only_edges c n s e v (node_at w.first fs u) sh lt h (node_at w.first fs v) refl
      ((g.built.roles_are s v u lt mt).0 t.0) in
      and_from (is_successor fs (λ r. below_of w r s) x (node_at w.first fs u)) (has fs (node_at w.first fs u) e) next
      (has_filler c n s e v u sh other lt mt h next t.1)) in
      let same = by_numbers s e v in
      let nodes =
      count_le (node_count_from w.first fs) (λ y. is_element w.first fs y && counted s e v y) (counted s e v)
      (λ y mt k. (and_parts (is_element w.first fs y) (counted s e v y) k).1) in
      let fits =
      length-passing_twice (is_successor fs (λ r. below_of w r s) x) (node_count_from w.first fs) (λ y. has fs y e) in
      let few = few_fit w trail g.saturated x c n s e (node_of v lt) h sh in
      le-leb (count_below i.size (λ u. i.in_role s v u && holds i (tree_of w.table e) u)) n (omega arith)

  -- ---- all

  all_sure : (c s e v : ℕ) → shape_of w.table c ≡ all_shape s e → Sure e → v < i.size → has fs (like_at v) c ≡ true
      → holds i (all_of s (tree_of w.table e)) v ≡ true
  all_sure c s e v sh sure lt h =
      all_from i.size (λ u. implies (i.in_role s v u) (holds i (tree_of w.table e) u)) (λ u mt.
      implies_from (i.in_role s v u) (holds i (tree_of w.table e) u) (λ k.
      sure u mt
      (has_like u e mt
      (all_at_pair w trail i g s e c (node_at w.first fs v) (node_at w.first fs u) (stands_at w trail i g v lt) h sh
      ((g.built.roles_are s v u lt mt).0 k)))))

  -- ---- any number of the table

  tree_is : (c : ℕ) (s : Shape) → c < length w.table → shape_of w.table c ≡ s
      → tree_of w.table c ≡ tree_over (trees_of w.table) s
  tree_is c s lt sh = tree_of_shape w.table c lt (g.table.parts_below c lt) ∙ ap (tree_over (trees_of w.table)) sh

  below_shape : (c : ℕ) (s : Shape) → c < length w.table → shape_of w.table c ≡ s → has_parts_below c s ≡ true
  below_shape c s lt sh = ap (has_parts_below c) (sym sh) ∙ g.table.parts_below c lt

  normal_shape : (c : ℕ) (s : Shape) → c < length w.table → shape_of w.table c ≡ s → is_normal w.table s ≡ true
  normal_shape c s lt sh = ap (is_normal w.table) (sym sh) ∙ g.table.are_normal c lt

  part_depth : (d : ℕ) (ds : List ℕ) → Contains ds d
      → role_depth (tree_of w.table d) ≤ role_depth_parts (parts_of (map (tree_of w.table) ds))
  part_depth d [] k = absurd (omega (arith, k.1))
  part_depth d (e ∷ ds) (zero, lt, is) =
      let same = ap (λ (a : ℕ). role_depth (tree_of w.table a)) is in omega (arith, same)
  part_depth d (e ∷ ds) (suc k, lt, is) = let rest = part_depth d ds (k, omega arith, is) in omega (arith, rest)

  -- the parts of an intersection or union are less deep or as deep, and are less numbers; a filler is less deep
  record Before (c : ℕ) : Type 0 where
    parts : (d : ℕ) → d < c → role_depth (tree_of w.table d) ≤ role_depth (tree_of w.table c) → Sure d
    fillers : (d : ℕ) → d < length w.table → role_depth (tree_of w.table d) < role_depth (tree_of w.table c) → Sure d

  filler_sure : (c e : ℕ) (s : Shape) → c < length w.table → shape_of w.table c ≡ s → Before c → ltb e c ≡ true
      → role_depth (tree_over (trees_of w.table) s) ≡ role_depth (tree_of w.table e) + 1 → Sure e
  filler_sure c e s lt sh before is_part deep =
      before.fillers e (omega (arith, ltb-true e c is_part)) (omega (arith, ap role_depth (tree_is c s lt sh), deep))

  other_sure : (c e d : ℕ) (s : Shape) → c < length w.table → shape_of w.table c ≡ s → Before c
      → role_depth (tree_over (trees_of w.table) s) ≡ role_depth (tree_of w.table e) + 1 → IsComplement w.table e d
      → Sure d
  other_sure c e d s lt sh before deep is =
      before.fillers d is.listed (omega
      (arith, ap role_depth (tree_is c s lt sh), deep, ap role_depth is.negates, negated_depth (tree_of w.table e)))

  shape_sure : (c : ℕ) (s : Shape) → c < length w.table → shape_of w.table c ≡ s → Before c → (v : ℕ) → v < i.size
      → has fs (like_at v) c ≡ true → holds i (tree_over (trees_of w.table) s) v ≡ true
  shape_sure c top_shape lt sh before v mt h = refl
  shape_sure c bottom_shape lt sh before v mt h =
      absurd (g.saturated.no_clash (plain_bottom (like_at v) c (node_of v mt) h sh))
  shape_sure c (name_shape a) lt sh before v mt h = name_sure c a v sh mt h
  shape_sure c (not_name a) lt sh before v mt h = not_name_sure c a v sh mt h
  shape_sure c (intersection_shape ds) lt sh before v mt h = hold_each v ds (λ d k.
      before.parts d (ltb-true d c (member_passes (λ e. ltb e c) ds (below_shape c (intersection_shape ds) lt sh) d k))
      (omega (arith, ap role_depth (tree_is c (intersection_shape ds) lt sh), part_depth d ds k))
      v mt (g.saturated.no_add (like_at v) d (by_and (like_at v) c d ds (node_of v mt) h sh k)))
  shape_sure c (union_shape ds) lt sh before v mt h =
      let two =
      and_parts (leb 2 (length ds)) (list_all (λ d. is_disjunct (shape_of w.table d)) ds)
      (normal_shape c (union_shape ds) lt sh) in
      let one = one_of (like_at v) c ds sh (omega (arith, leb-true 2 (length ds) two.0)) (node_of v mt) h in
      hold_one v one.it ds one.is_in
      (before.parts one.it
      (ltb-true one.it c (member_passes (λ e. ltb e c) ds (below_shape c (union_shape ds) lt sh) one.it one.is_in))
      (omega (arith, ap role_depth (tree_is c (union_shape ds) lt sh), part_depth one.it ds one.is_in))
      v mt one.held)
  shape_sure c (some_shape s e) lt sh before v mt h =
      some_sure c s e v sh (filler_sure c e (some_shape s e) lt sh before (below_shape c (some_shape s e) lt sh) refl)
      mt h
  shape_sure c (all_shape s e) lt sh before v mt h =
      all_sure c s e v sh (filler_sure c e (all_shape s e) lt sh before (below_shape c (all_shape s e) lt sh) refl) mt h
  shape_sure c (least_shape zero s e) lt sh before v mt h =
      le-leb 0 (count_below i.size (λ u. i.in_role s v u && holds i (tree_of w.table e) u)) (omega arith)
  shape_sure c (least_shape (suc n) s e) lt sh before v mt h =
      least_sure c n s e v sh
      (filler_sure c e (least_shape (suc n) s e) lt sh before (below_shape c (least_shape (suc n) s e) lt sh) refl) mt h
  shape_sure c (most_shape n s e) lt sh before v mt h =
      most_sure c n s e v sh (λ d is. other_sure c e d (most_shape n s e) lt sh before refl is) mt h

  one_sure : (c : ℕ) → c < length w.table → Before c → Sure c
  one_sure c lt before v mt h =
      ap (λ (t : Concept). holds i t v) (tree_is c (shape_of w.table c) lt refl)
      ∙ shape_sure c (shape_of w.table c) lt refl before v mt h

  -- numbers below a bound of a depth, where all of less depth are sure
  sure_to : (n m : ℕ) → ((d : ℕ) → d < length w.table → role_depth (tree_of w.table d) < n → Sure d) → (c : ℕ) → c < m
      → c < length w.table → role_depth (tree_of w.table c) ≤ n → Sure c
  sure_to n zero less c cm lt deep = absurd (omega arith)
  sure_to n (suc m) less c cm lt deep = one_sure c lt (record {
    parts = λ d dc dd. sure_to n m less d (omega arith) (omega arith) (omega arith);
    fillers = λ d dt dd. less d dt (omega arith);
  })

  sure_deep : (n : ℕ) (c : ℕ) → c < length w.table → role_depth (tree_of w.table c) < n → Sure c
  sure_deep zero c lt deep = absurd (omega arith)
  sure_deep (suc n) c lt deep = sure_to n (suc c) (sure_deep n) c (omega arith) lt (omega arith)

  pub labels_true : (v c : ℕ) → v < i.size → c < length w.table → has fs (like_at v) c ≡ true
      → holds i (tree_of w.table c) v ≡ true
  labels_true v c mt lt h = sure_deep (suc (role_depth (tree_of w.table c))) c lt (omega arith) v mt h

-- The parts of a theory are met by the built interpretation, by the rows that are chosen for them.
use Rattle.std.proofs.Common.{◌≡◌, ℕ, zero, suc, ◌<◌, ◌&&◌, ◌⊎◌, eqb, Bool, true, false, cond, List, [], ◌∷◌, length}
use Rattle.std.proofs.Common.{get_or, Option, Some, None, refl, ap, ◌∙◌, sym, subst, arith, inl, inr}
use Rattle.std.specs.Prelude.{count_by}
use Rattle.std.specs.List.{list_any, list_all, find, filter, Contains}
use Rattle.std.specs.Option.{option_map}
use Rattle.std.proofs.lemmas.Bool.{cases_Bool, cases_lt, and_parts, and_from, eqb-true, leb-true}
use Rattle.std.proofs.lemmas.List.{get_or_past}
use Rattle.std.proofs.lemmas.List.Elements.{All-contains, Contains-get_or}
use Rattle.std.proofs.lemmas.List.Sums.{length-filter}
use Rattle.shq_terms.specs.Concept.{Concept, top, bottom, name, complement, intersection, union, some_of, all_of}
use Rattle.shq_terms.specs.Concept.{at_least, at_most, exactly}
use Rattle.calculus_specs.specs.Tree.{tree_of}
use Rattle.calculus_specs.specs.Rows.{Part, NumberedPart, is_numbered, part_at, conjunct_at, is_name, is_ascending}
use Rattle.calculus_specs.specs.Rows.{are_name_positions, is_some_of, row_concept, row_of, Row, is_row_of, IsRowOf}
use Rattle.calculus_specs.specs.Rows.{IsChoice, Trigger}
use Rattle.calculus_specs.specs.Rows.Part.{inclusion, range}
use Rattle.calculus_specs.specs.Rows.Trigger.{always, names, edge, end_of}
use Rattle.ontology_limits.specs.Below.{all_below, count_below}
use Rattle.ontology_limits.specs.Truth.{Interpretation, implies, holds}
use Rattle.ontology_limits.proofs.Members.{member_passes}
use Rattle.ontology_limits.proofs.Implied.{implies_from}
use Rattle.ontology_limits.specs.Meeting.{meets_part}
use Rattle.refutation_truth.proofs.Below.{all_from, picks}
use Rattle.refutation_truth.proofs.Models.{found}
use Rattle.calculus_specs.specs.declared.facts.Fact.{Fact}
use Rattle.calculus_specs.specs.State.{node_count_from, has, has_edge}
use Rattle.tableau_specs.specs.declared.Item.{Item}
use Rattle.tableau_specs.specs.Items.{facts_of}
use Rattle.tableau_specs.proofs.PlainClash.{successor_has_edge, successor_is_node}
use Rattle.tableau_specs.specs.Steps.{SearchContext, below_of, has_name, has_names, begins_edge, ends_edge}
use Rattle.tableau_specs.specs.Steps.{is_triggered}
use Rattle.tableau_specs.specs.Steps.Adds.{by_row}
use Rattle.search_laws.specs.Elements.{node_at, original}
use Rattle.search_laws.specs.Pairs.{LeadsTo, IsChain}
use Rattle.search_laws.specs.Pairs.IsChain.{last, onward}
use Rattle.search_laws.proofs.CounterModelNodes.{any_in_range}
use Rattle.search_laws.proofs.Chains.{first_edge}
use Rattle.search_laws.proofs.Setting.{Setting, Stands, stands_at, like_of, next_stands}
use Rattle.search_laws.proofs.Truth.{labels_true}
use Rattle.search_laws.proofs.Roles.{pair_chain}
use Rattle.search_laws.proofs.Rows.{row_gives}

-- ---- the row of a part

-- one that passes, or none does
one_or_none : (p : Row → Bool) (rows : List Row)
    → ((row : Row) × Contains rows row × (p row ≡ true)) ⊎ (filter p rows ≡ [])
one_or_none p [] = inr refl
one_or_none p (r ∷ rows) = elim (cases_Bool (p r)) [
  | inl here ↦ inl (r, (0, omega arith, refl), here)
  | inr out ↦ elim (one_or_none p rows) [
    | inl later ↦ inl (later.0, (suc later.1.0, omega (arith, later.1.1), later.1.2), later.2)
    | inr none ↦ inr (ap (λ (b : Bool). cond b (r ∷ filter p rows) (filter p rows)) out ∙ none)
  ]
]

one_of_one : (p : Row → Bool) (rows : List Row) → count_by p rows ≡ 1 → (row : Row) × Contains rows row × (p row ≡ true)
one_of_one p rows one = elim (one_or_none p rows) [
  | inl found ↦ found
  | inr none ↦
      let empty : length (filter p rows) ≡ 0 = ap length none in
      absurd (omega (arith, one, empty, length-filter p rows))
]

-- the number of a part that is found is that of a part in the list
found_numbered : (a p : ℕ) (ns : List NumberedPart) (q : Part)
    → option_map (λ n. n.part) (find (is_numbered a p) ns) ≡ Some q
    → (n : NumberedPart) × Contains ns n × (is_numbered a p n ≡ true)
found_numbered a p [] q e = cc
found_numbered a p (n ∷ ns) q e = elim (cases_Bool (is_numbered a p n)) [
  | inl hit ↦ (n, (0, omega arith, refl), hit)
  | inr miss ↦
      let at : option_map (λ (m : NumberedPart). m.part) (find (is_numbered a p) (n ∷ ns))
      ≡ option_map (λ (m : NumberedPart). m.part) (find (is_numbered a p) ns) =
      ap (λ (t : Bool). option_map (λ (m : NumberedPart). m.part) (cond t (Some n) (find (is_numbered a p) ns))) miss in
      let r = found_numbered a p ns q (sym at ∙ e) in
      (r.0, (suc r.1.0, omega (arith, r.1.1), r.1.2), r.2)
]

some_if : (b : Bool) (x t : Concept) → cond b (Some x) None ≡ Some t → (b ≡ true) × (x ≡ t)
some_if true x t h = (refl, cc)
some_if false x t h = cc

all_more : (p q : ℕ → Bool) → ((k : ℕ) → p k ≡ true → q k ≡ true) → (ks : List ℕ) → list_all p ks ≡ true
    → list_all q ks ≡ true
all_more p q imp [] h = refl
all_more p q imp (k ∷ ks) h =
    let t = and_parts (p k) (list_all p ks) h in and_from (q k) (list_all q ks) (imp k t.0) (all_more p q imp ks t.1)

module _ (w : SearchContext) (trail : List Item) (i : Interpretation) (g : Setting w trail i)
    (choice : IsChoice w.theory w.table w.rows) where
  abbrev fs : List (Fact ℕ)
  fs = facts_of trail

  abbrev like_at : ℕ → ℕ
  like_at v = original w.first fs (node_at w.first fs v)

  -- the row that is chosen for a part
  record Chosen (q : Part) : Type 0 where
    row : Row
    is_in : Contains w.rows row
    part_is : part_at w.theory row.axiom_number row.part_number ≡ Some q
    listed : row.concept < length w.table
    is_right : row_of q row.trigger ≡ Some (tree_of w.table row.concept)

  chosen : (a p : ℕ) (q : Part) → part_at w.theory a p ≡ Some q → Chosen q
  chosen a p q e =
      let n = found_numbered a p w.theory.parts q e in
      let r =
      one_of_one (λ row. is_row_of row n.0) w.rows
      (All-contains (λ m. count_by (λ row. is_row_of row m) w.rows ≡ 1) w.theory.parts n.0 choice.each_once n.1) in
      let row = r.0 in
      let fits = All-contains (IsRowOf w.theory w.table) w.rows row choice.rows_fit r.1 in
      let asked = and_parts (eqb n.0.axiom_number a) (eqb n.0.part_number p) n.2 in
      let has_it = and_parts (eqb n.0.axiom_number row.axiom_number) (eqb n.0.part_number row.part_number) r.2 in
      let axiom_is : row.axiom_number ≡ a =
      sym (eqb-true n.0.axiom_number row.axiom_number has_it.0) ∙ eqb-true n.0.axiom_number a asked.0 in
      let number_is : row.part_number ≡ p =
      sym (eqb-true n.0.part_number row.part_number has_it.1) ∙ eqb-true n.0.part_number p asked.1 in
      let there : part_at w.theory row.axiom_number row.part_number ≡ Some q =
      (λ j. part_at w.theory (axiom_is j) (number_is j)) ∙ e in
      let same : fits.part ≡ q = some_is fits.part q (sym fits.is_there ∙ there) in
      record {
        row = row;
        is_in = r.1;
        part_is = there;
        listed = fits.listed;
        is_right = ap (λ (k : Part). row_of k row.trigger) (sym same) ∙ fits.is_right;
      }
    where
      some_is : (k l : Part) → Some k ≡ Some l → k ≡ l
      some_is k l h = cc

  -- where the row is used, a node has its concept
  used : (q : Part) (c : Chosen q) (x : ℕ) → x < node_count_from w.first fs
      → is_triggered w fs x (Some q) c.row.trigger ≡ true → has fs x c.row.concept ≡ true
  used q c x lt h =
      g.saturated.no_add x c.row.concept
      (by_row x c.row lt c.is_in (ap (λ (o : Option Part). is_triggered w fs x o c.row.trigger) c.part_is ∙ h))

  -- and an element that is like it is in that
  used_like : (q : Part) (c : Chosen q) (v : ℕ) → v < i.size
      → is_triggered w fs (like_at v) (Some q) c.row.trigger ≡ true → holds i (tree_of w.table c.row.concept) v ≡ true
  used_like q c v lt h =
      labels_true w trail i g v c.row.concept lt c.listed
      (used q c (like_at v) (like_of w trail i g (node_at w.first fs v) (stands_at w trail i g v lt)).is_open.is_node h)

  used_at : (q : Part) (c : Chosen q) (v : ℕ) → v < i.size
      → is_triggered w fs (node_at w.first fs v) (Some q) c.row.trigger ≡ true
      → holds i (tree_of w.table c.row.concept) v ≡ true
  used_at q c v lt h =
      let st = stands_at w trail i g v lt in
      labels_true w trail i g v c.row.concept lt c.listed
      ((like_of w trail i g (node_at w.first fs v) st).has_all c.row.concept
      (used q c (node_at w.first fs v) st.is_node h))

  -- ---- the edges of pairs

  last_edge : (t x y : ℕ) → Stands w trail i g x → IsChain w fs t x y
      → (z : ℕ) × Stands w trail i g z × LeadsTo w fs t z y
  last_edge t x' y' st (last x y lead) = (x, st, lead)
  last_edge t x' z' st (onward x y z lead rest) = last_edge t y z (next_stands w trail i g t x y st lead) rest

  -- an edge begins where a pair does, and ends where it does
  begins : (s v u : ℕ) → v < i.size → u < i.size → i.in_role s v u ≡ true → begins_edge w fs s (like_at v) ≡ true
  begins s v u lt mt h =
      let roles : ℕ → Bool = λ r. below_of w r s in
      let e =
      first_edge w fs s (node_at w.first fs v) (node_at w.first fs u)
      (pair_chain w trail i g s (node_at w.first fs v) (node_at w.first fs u) ((g.built.roles_are s v u lt mt).0 h)) in
      any_in_range (λ y. has_edge fs roles (like_at v) y) (node_count_from w.first fs) e.0
      (successor_is_node w.first fs roles (like_at v) e.0 e.1) (successor_has_edge fs roles (like_at v) e.0 e.1)

  ends : (s v u : ℕ) → v < i.size → u < i.size → i.in_role s v u ≡ true → ends_edge w fs s (node_at w.first fs u) ≡ true
  ends s v u lt mt h =
      let roles : ℕ → Bool = λ r. below_of w r s in
      let e =
      last_edge s (node_at w.first fs v) (node_at w.first fs u) (stands_at w trail i g v lt)
      (pair_chain w trail i g s (node_at w.first fs v) (node_at w.first fs u) ((g.built.roles_are s v u lt mt).0 h)) in
      any_in_range (λ z. has_edge fs roles z (node_at w.first fs u)) (node_count_from w.first fs)
      (original w.first fs e.0) (like_of w trail i g e.0 e.1).is_open.is_node
      (successor_has_edge fs roles (original w.first fs e.0) (node_at w.first fs u) e.2)

  some_begins : (s v : ℕ) (e : Concept) → v < i.size → holds i (some_of s e) v ≡ true
      → begins_edge w fs s (like_at v) ≡ true
  some_begins s v e lt h =
      let p =
      picks i.size (λ u. i.in_role s v u && holds i e u) 1
      (leb-true 1 (count_below i.size (λ u. i.in_role s v u && holds i e u)) h) in
      begins s v (p.pick 0) lt (p.below 0 (omega arith))
      (and_parts (i.in_role s v (p.pick 0)) (holds i e (p.pick 0)) (p.passes 0 (omega arith))).0

  -- ---- triggers

  abbrev in_all : List Concept → ℕ → Bool
  in_all cs v = list_all (λ c. holds i c v) cs

  name_there : (v : ℕ) (c : Concept) → v < i.size → is_name c ≡ true → holds i c v ≡ true
      → has_name w fs (like_at v) c ≡ true
  name_there v (name a) lt is h = sym (g.built.classes_are a v lt) ∙ h
  name_there v top lt is h = cc
  name_there v bottom lt is h = cc
  name_there v (complement c) lt is h = cc
  name_there v (intersection cs) lt is h = cc
  name_there v (union cs) lt is h = cc
  name_there v (some_of r c) lt is h = cc
  name_there v (all_of r c) lt is h = cc
  name_there v (at_least n r c) lt is h = cc
  name_there v (at_most n r c) lt is h = cc
  name_there v (exactly n r c) lt is h = cc

  conjunct_there : (v : ℕ) (cs : List Concept) → v < i.size → in_all cs v ≡ true → (k : ℕ)
      → is_name (conjunct_at cs k) ≡ true → has_name w fs (like_at v) (conjunct_at cs k) ≡ true
  conjunct_there v cs lt all zero is = cc
  conjunct_there v cs lt all (suc j) is = elim (cases_lt j (length cs)) [
    | inl within ↦
        name_there v (get_or cs j top) lt is
        (member_passes (λ c. holds i c v) cs all (get_or cs j top) (Contains-get_or cs j top within))
    | inr past ↦ let none = ap is_name (get_or_past cs j top past) in absurd (cc)
  ]

  names_there : (v : ℕ) (cs : List Concept) (d : Concept) (ps : List ℕ) → v < i.size → in_all cs v ≡ true
      → are_name_positions cs ps ≡ true → has_names w fs (like_at v) ps (Some (inclusion cs d)) ≡ true
  names_there v cs d ps lt all h =
      all_more (λ k. is_name (conjunct_at cs k)) (λ k. has_name w fs (like_at v) (conjunct_at cs k))
      (conjunct_there v cs lt all) ps
      (and_parts (is_ascending ps) (list_all (λ k. is_name (conjunct_at cs k)) ps) h).1

  edge_at : (s v : ℕ) (c : Concept) → v < i.size → is_some_of s c ≡ true → holds i c v ≡ true
      → begins_edge w fs s (like_at v) ≡ true
  edge_at s v (some_of r e) lt is h =
      subst (λ (k : ℕ). begins_edge w fs k (like_at v) ≡ true) (eqb-true r s is) (some_begins r v e lt h)
  edge_at s v (name a) lt is h = cc
  edge_at s v top lt is h = cc
  edge_at s v bottom lt is h = cc
  edge_at s v (complement c) lt is h = cc
  edge_at s v (intersection cs) lt is h = cc
  edge_at s v (union cs) lt is h = cc
  edge_at s v (all_of r c) lt is h = cc
  edge_at s v (at_least n r c) lt is h = cc
  edge_at s v (at_most n r c) lt is h = cc
  edge_at s v (exactly n r c) lt is h = cc

  -- ---- parts

  inclusion_by : (cs : List Concept) (d : Concept) (c : Chosen (inclusion cs d)) (t : Trigger) → c.row.trigger ≡ t
      → (v : ℕ) → v < i.size → in_all cs v ≡ true → holds i d v ≡ true
  inclusion_by cs d c always e v lt all =
      let right = ap (row_of (inclusion cs d)) (sym e) ∙ c.is_right in
      let is : row_concept cs d [] ≡ tree_of w.table c.row.concept = cc in
      let h = used_like (inclusion cs d) c v lt (ap (is_triggered w fs (like_at v) (Some (inclusion cs d))) e) in
      row_gives i v d [] cs all (ap (λ (k : Concept). holds i k v) is ∙ h)
  inclusion_by cs d c (names ps) e v lt all =
      let right =
      some_if (are_name_positions cs ps) (row_concept cs d ps) (tree_of w.table c.row.concept)
      (ap (row_of (inclusion cs d)) (sym e) ∙ c.is_right) in
      let h =
      used_like (inclusion cs d) c v lt
      (ap (is_triggered w fs (like_at v) (Some (inclusion cs d))) e ∙ names_there v cs d ps lt all right.0) in
      row_gives i v d ps cs all (ap (λ (k : Concept). holds i k v) right.1 ∙ h)
  inclusion_by cs d c (edge s) e v lt all =
      let right =
      some_if (list_any (is_some_of s) cs) (row_concept cs d []) (tree_of w.table c.row.concept)
      (ap (row_of (inclusion cs d)) (sym e) ∙ c.is_right) in
      let f = found (is_some_of s) (λ k. holds i k v) cs right.0 all in
      let h =
      used_like (inclusion cs d) c v lt
      (ap (is_triggered w fs (like_at v) (Some (inclusion cs d))) e ∙ edge_at s v f.it lt f.first f.second) in
      row_gives i v d [] cs all (ap (λ (k : Concept). holds i k v) right.1 ∙ h)
  inclusion_by cs d c (end_of s) e v lt all =
      let right = ap (row_of (inclusion cs d)) (sym e) ∙ c.is_right in absurd (cc)

  range_by : (r : ℕ) (d : Concept) (c : Chosen (range r d)) (t : Trigger) → c.row.trigger ≡ t → (v u : ℕ) → v < i.size
      → u < i.size → i.in_role r v u ≡ true → holds i d u ≡ true
  range_by r d c (end_of s) e v u lt mt k =
      let right = some_if (eqb s r) d (tree_of w.table c.row.concept) (ap (row_of (range r d)) (sym e) ∙ c.is_right) in
      let there : ends_edge w fs s (node_at w.first fs u) ≡ true =
      subst (λ (q : ℕ). ends_edge w fs q (node_at w.first fs u) ≡ true) (sym (eqb-true s r right.0))
      (ends r v u lt mt k) in
      let h = used_at (range r d) c u mt (ap (is_triggered w fs (node_at w.first fs u) (Some (range r d))) e ∙ there) in
      ap (λ (q : Concept). holds i q u) right.1 ∙ h
  range_by r d c always e v u lt mt k = let right = ap (row_of (range r d)) (sym e) ∙ c.is_right in absurd (cc)
  range_by r d c (names ps) e v u lt mt k = let right = ap (row_of (range r d)) (sym e) ∙ c.is_right in absurd (cc)
  range_by r d c (edge s) e v u lt mt k = let right = ap (row_of (range r d)) (sym e) ∙ c.is_right in absurd (cc)

  chosen_met : (q : Part) → Chosen q → meets_part i q ≡ true
  chosen_met (inclusion cs d) c =
      all_from i.size (λ v. implies (in_all cs v) (holds i d v))
      (λ v lt. implies_from (in_all cs v) (holds i d v) (inclusion_by cs d c c.row.trigger refl v lt))
  chosen_met (range r d) c =
      all_from i.size (λ v. all_below i.size (λ u. implies (i.in_role r v u) (holds i d u)))
      (λ v lt. all_from i.size (λ u. implies (i.in_role r v u) (holds i d u))
      (λ u mt. implies_from (i.in_role r v u) (holds i d u) (range_by r d c c.row.trigger refl v u lt mt)))

  pub part_met : (a p : ℕ) (q : Part) → part_at w.theory a p ≡ Some q → meets_part i q ≡ true
  part_met a p q e = chosen_met q (chosen a p q e)

-- Rows by their places.
use Rattle.std.proofs.Common.{◌≡◌, ℕ, ◌<◌, ◌&&◌, eqb, ltb, true, List, [], ◌∷◌, map, length, get_or, Some, refl, ap}
use Rattle.std.proofs.Common.{◌∙◌, sym, subst, eq-eqb}
use Rattle.std.specs.Prelude.{slice_get}
use Rattle.std.specs.List.{list_all, range_with_len, All, Contains}
use Rattle.std.proofs.lemmas.Bool.{eqb-true, ltb-true, and_parts}
use Rattle.std.proofs.lemmas.List.Elements.{All-contains}
use Rattle.std.proofs.lemmas.Option.{get_or_from_slice_get, slice_get_within, cond_some, same_Some}
use Rattle.shq_nnf.specs.Concept.{Concept, top, bottom, name, complement, intersection, union, some_of, all_of}
use Rattle.shq_nnf.specs.Concept.{at_least, at_most, exactly}
use Rattle.calculus_specs.specs.Shape.{shape_of, IsTable}
use Rattle.calculus_specs.specs.Shape.Shape.{name as name_shape}
use Rattle.calculus_specs.specs.Tree.{tree_of}
use Rattle.calculus_specs.specs.Rows.{Part, Trigger, Row, IsRowOf, IsChoice, part_at, conjunct_at, is_name}
use Rattle.calculus_specs.specs.Rows.{is_ascending, are_name_positions, row_concept, row_of}
use Rattle.calculus_specs.specs.Rows.Part.{inclusion}
use Rattle.calculus_specs.specs.Rows.Trigger.{always, names, edge, end_of}
use Rattle.calculus_specs.specs.declared.facts.Fact.{Fact}
use Rattle.calculus_specs.specs.Joins.{rep}
use Rattle.calculus_specs.specs.State.{node_count_from, has, has_edge, is_successor, label}
use Rattle.calculus_specs.specs.Listed.{IsLabel, AreEdges}
use Rattle.calculus_specs.proofs.State.{any-label}
use Rattle.tableau_specs.specs.Steps.{SearchContext, below_of, is_named, has_name, has_names, is_triggered, is_used_at}
use Rattle.tableau_specs.specs.Steps.{Adds}
use Rattle.tableau_specs.specs.Steps.Adds.{by_row}
use Rattle.step_finders.specs.declared.state.PlainRow.{PlainRow}
use Rattle.step_finders.specs.declared.state.NamedRow.{NamedRow}
use Rattle.step_finders.specs.declared.reason.Reason.TheVariants as R
use Rattle.step_finders.specs.Found.{Files, IsPlain, IsAtEdge, IsNamed, AreFiled, PlainDue, NamedHold, NamedDue}
use Rattle.step_finders.specs.Found.{NamesHold, EdgeHolds, EdgesHold}
use Rattle.step_finders.specs.Reasons.{IsEdge, IsAddition}
use Rattle.step_finders.proofs.Adding.{added}
use Rattle.step_finders.proofs.Edges.{where_any, any_among, in_range, next_at, edge_of_kind, edge_to_next}
use Rattle.step_finders.proofs.Opposite.{name_of_tree}

-- ---- rows that are filed are rows that are used

module _ (w : SearchContext) (fs : List (Fact ℕ)) (x : ℕ) (lt : x < node_count_from w.first fs) where
  -- a row is used where its trigger is
  triggered : (row : Row) (t : Trigger) → row.trigger ≡ t
      → is_triggered w fs x (part_at w.theory row.axiom_number row.part_number) t ≡ true → is_used_at w fs row x ≡ true
  triggered row t e h =
      subst (λ (s : Trigger). is_triggered w fs x (part_at w.theory row.axiom_number row.part_number) s ≡ true) (sym e)
      h

  plain_adds : (t : Trigger) (u : PlainRow) → IsPlain w t u
      → ((row : Row) → is_triggered w fs x (part_at w.theory row.axiom_number row.part_number) t ≡ true)
      → Adds w fs x u.gives
  plain_adds t u is h =
      subst (Adds w fs x) is.gives_is (by_row x is.row lt is.is_in (triggered is.row t is.trigger_is (h is.row)))

  pub general_adds : (u : PlainRow) → IsPlain w always u → Adds w fs x u.gives
  general_adds u is = plain_adds always u is (λ row. refl)

  pub begin_adds : (r y : ℕ) (u : PlainRow) → IsAtEdge w edge r u → IsEdge w.first fs r x y → Adds w fs x u.gives
  begin_adds r y u is e =
      plain_adds (edge is.role) u is.is_plain
      (λ row. any_among (λ z. has_edge fs (λ q. below_of w q is.role) x z) y
      (range_with_len 0 (node_count_from w.first fs)) (in_range y (node_count_from w.first fs) e.end_is_node)
      (edge_of_kind fs (λ q. below_of w q is.role) r x y is.role_above e.leads))

  pub end_adds : (r z : ℕ) (u : PlainRow) → IsAtEdge w end_of r u → IsEdge w.first fs r z x → Adds w fs x u.gives
  end_adds r z u is e =
      plain_adds (end_of is.role) u is.is_plain
      (λ row. any_among (λ v. has_edge fs (λ q. below_of w q is.role) v x) z
      (range_with_len 0 (node_count_from w.first fs)) (in_range z (node_count_from w.first fs) e.begin_is_node)
      (edge_of_kind fs (λ q. below_of w q is.role) r z x is.role_above e.leads))

  -- ---- rows that wait for names

  self_named : (a : ℕ) → is_named a (name_shape a) ≡ true
  self_named a = eq-eqb a a refl

  -- a node with the number of a name has the name
  name_there : (good : IsTable w.table) (k : ℕ) (t : Concept) → k < length w.table → tree_of w.table k ≡ t
      → is_name t ≡ true → has fs x k ≡ true → has_name w fs x t ≡ true
  name_there good k (name a) kt e is h =
      any_among (λ c. is_named a (shape_of w.table c)) k (label fs x) (any-label fs x k ∙ h)
      (ap (is_named a) (name_of_tree w.table good k a kt e) ∙ self_named a)
  name_there good k top kt e is h = cc
  name_there good k bottom kt e is h = cc
  name_there good k (complement c) kt e is h = cc
  name_there good k (intersection cs) kt e is h = cc
  name_there good k (union cs) kt e is h = cc
  name_there good k (some_of s c) kt e is h = cc
  name_there good k (all_of s c) kt e is h = cc
  name_there good k (at_least n s c) kt e is h = cc
  name_there good k (at_most n s c) kt e is h = cc
  name_there good k (exactly n s c) kt e is h = cc

  names_there : (good : IsTable w.table) (cs : List Concept) (positions waits : List ℕ)
      → list_all (λ k. ltb k (length w.table)) waits ≡ true
      → map (tree_of w.table) waits ≡ map (conjunct_at cs) positions
      → list_all (λ i. is_name (conjunct_at cs i)) positions ≡ true → list_all (has fs x) waits ≡ true
      → list_all (λ i. has_name w fs x (conjunct_at cs i)) positions ≡ true
  names_there good cs [] ks kts e is h = refl
  names_there good cs (i ∷ is) [] kts e named h = cc
  names_there good cs (i ∷ is) (k ∷ ks) kts e named h =
      let first : tree_of w.table k ≡ conjunct_at cs i = cc in
      let rest : map (tree_of w.table) ks ≡ map (conjunct_at cs) is = cc in
      let a = and_parts (ltb k (length w.table)) (list_all (λ j. ltb j (length w.table)) ks) kts in
      let b = and_parts (is_name (conjunct_at cs i)) (list_all (λ j. is_name (conjunct_at cs j)) is) named in
      let c = and_parts (has fs x k) (list_all (has fs x) ks) h in
      rw (name_there good k (conjunct_at cs i) (ltb-true k (length w.table) a.0) first b.0 c.0)
      (names_there good cs is ks a.1 rest b.1 c.1)

  -- the conjuncts at the positions of a row are names
  named_positions : (cs : List Concept) (d right : Concept) (positions : List ℕ)
      → row_of (inclusion cs right) (names positions) ≡ Some d → are_name_positions cs positions ≡ true
  named_positions cs d right positions h =
      (cond_some (are_name_positions cs positions) (row_concept cs right positions) d h).0

  pub names_of_row : (choice : IsChoice w.theory w.table w.rows) (u : NamedRow) (is : IsNamed w u)
      → are_name_positions is.conjuncts u.positions ≡ true
  names_of_row choice u is =
      let f = All-contains (IsRowOf w.theory w.table) w.rows is.row choice.rows_fit is.is_in in
      let at : part_at w.theory is.row.axiom_number is.row.part_number ≡ part_at w.theory u.«axiom» u.part =
      ap (λ (a : ℕ). part_at w.theory a is.row.part_number) is.axiom_is ∙ ap (part_at w.theory u.«axiom») is.part_is in
      let part : f.part ≡ inclusion is.conjuncts is.right =
      same_Some f.part (inclusion is.conjuncts is.right) (sym f.is_there ∙ at ∙ is.is_part) in
      named_positions is.conjuncts (tree_of w.table is.row.concept) is.right u.positions
      (ap (λ (q : Part). row_of q (names u.positions)) (sym part) ∙ ap (row_of f.part) (sym is.trigger_is) ∙ f.is_right)

  pub named_adds : (good : IsTable w.table) (choice : IsChoice w.theory w.table w.rows) (u : NamedRow) → IsNamed w u
      → list_all (has fs x) u.waits ≡ true → Adds w fs x u.gives
  named_adds good choice u is h =
      let at : part_at w.theory is.row.axiom_number is.row.part_number ≡ Some (inclusion is.conjuncts is.right) =
      ap (λ (a : ℕ). part_at w.theory a is.row.part_number) is.axiom_is ∙ ap (part_at w.theory u.«axiom») is.part_is
      ∙ is.is_part in
      let named =
      (and_parts (is_ascending u.positions) (list_all (λ i. is_name (conjunct_at is.conjuncts i)) u.positions)
      (names_of_row choice u is)).1 in
      subst (Adds w fs x) is.gives_is (by_row x is.row lt is.is_in (triggered is.row (names u.positions) is.trigger_is
      (ap (has_names w fs x u.positions) at
      ∙ names_there good is.conjuncts u.positions u.waits is.waits_are.listed is.waits_are.stand_for named h)))

contains_at : {X : Type 0} (us : List X) (k : ℕ) (u : X) → slice_get us k ≡ Some u → Contains us u
contains_at us k u e = (k, slice_get_within us k u e, get_or_from_slice_get us k u u e)

module _ (w : SearchContext) (files : Files) (good : IsTable w.table) (choice : IsChoice w.theory w.table w.rows)
    (filed : AreFiled w files) (fs : List (Fact ℕ)) where
  pub general_due : (x : ℕ) → x < node_count_from w.first fs → (u : PlainRow) → PlainDue fs x files.general u
      → IsAddition w fs files (added x u.gives (R.General u))
  general_due x lt u due =
      let is = All-contains (IsPlain w always) files.general u filed.general due.is_in in
      record {
        adds = general_adds w fs x lt u is;
        lacks = due.lacks;
        reason = record { is_node = lt; is_plain = is; gives = refl };
      }

  pub named_due : (x c place d : ℕ) → x < node_count_from w.first fs → NamedDue fs x (files.named c) place d
      → IsAddition w fs files (added x d (R.Named c place))
  named_due x c place d lt due =
      let is = All-at (files.named c) (filed.named c) place due.row due.stands in
      record {
        adds = subst (Adds w fs x) due.gives (named_adds w fs x lt good choice due.row is due.due.waits);
        lacks = ap (has fs x) (sym due.gives) ∙ due.due.lacks;
        reason = record {
          is_node = lt;
          row = due.row;
          stands = due.stands;
          is_named = is;
          waits = due.due.waits;
          gives = due.gives;
        };
      }
    where
      All-at : (us : List NamedRow) → All (IsNamed w) us → (k : ℕ) (u : NamedRow) → slice_get us k ≡ Some u
          → IsNamed w u
      All-at us all k u e = All-contains (IsNamed w) us u all (contains_at us k u e)

  pub begin_due : (x r y : ℕ) (u : PlainRow) → x < node_count_from w.first fs
      → is_successor fs (λ q. eqb q r) x y ≡ true → PlainDue fs x (files.begins r) u
      → IsAddition w fs files (added x u.gives (R.Begin r y u))
  begin_due x r y u lt next due =
      let is = All-contains (IsAtEdge w edge r) (files.begins r) u (filed.begins r) due.is_in in
      let e = edge_to_next w.first fs r x y lt next in
      record {
        adds = begin_adds w fs x lt r y u is e;
        lacks = due.lacks;
        reason = record { is_edge = e; is_at_edge = is; gives = refl };
      }

  pub end_due : (x r y : ℕ) (u : PlainRow) → x < node_count_from w.first fs → is_successor fs (λ q. eqb q r) x y ≡ true
      → PlainDue fs y (files.ends r) u → IsAddition w fs files (added y u.gives (R.End x r u))
  end_due x r y u lt next due =
      let is = All-contains (IsAtEdge w end_of r) (files.ends r) u (filed.ends r) due.is_in in
      let e = edge_to_next w.first fs r x y lt next in
      record {
        adds = end_adds w fs y e.end_is_node r x u is e;
        lacks = due.lacks;
        reason = record { is_edge = e; is_at_edge = is; gives = refl };
      }

module _ (files : Files) (fs : List (Fact ℕ)) (x : ℕ) where
  pub names_by_label : (cs : List ℕ) → IsLabel fs x cs
      → ((k d : ℕ) → k < length cs → All (NamedHold fs x) (files.named (get_or cs k d))) → NamesHold files fs x
  names_by_label cs label each = record {
    at_names = λ c h.
        where_any (λ d. eqb d c) (All (NamedHold fs x) (files.named c)) cs
        (λ k d lt hit. subst (λ (f : ℕ). All (NamedHold fs x) (files.named f)) (eqb-true (get_or cs k d) c hit)
        (each k d lt))
        (label c ∙ h);
  }

  pub edges_hold : (edges : List (ℕ × ℕ)) → AreEdges fs x edges
      → ((k : ℕ) (d : ℕ × ℕ) → k < length edges
      → EdgeHolds files fs x (get_or edges k d).0 (rep fs (get_or edges k d).1))
      → EdgesHold files fs x
  edges_hold edges are each = record {
    at_edges = λ r y next.
        where_any (λ p. eqb p.0 r && eqb (rep fs p.1) y) (EdgeHolds files fs x r y) edges
        (λ k d lt hit.
        let t = and_parts (eqb (get_or edges k d).0 r) (eqb (rep fs (get_or edges k d).1) y) hit in
        subst (λ (q : ℕ). EdgeHolds files fs x q y) (eqb-true (get_or edges k d).0 r t.0)
        (subst (λ (z : ℕ). EdgeHolds files fs x (get_or edges k d).0 z) (eqb-true (rep fs (get_or edges k d).1) y t.1)
        (each k d lt)))
        (are (λ q. eqb q r) y ∙ next);
  }

  -- an edge of the list is one
  pub edge_is : (edges : List (ℕ × ℕ)) (k : ℕ) (d : ℕ × ℕ) (y : ℕ) → AreEdges fs x edges → k < length edges
      → y ≡ rep fs (get_or edges k d).1 → is_successor fs (λ q. eqb q (get_or edges k d).0) x y ≡ true
  edge_is edges k d y are lt at =
      subst (λ (z : ℕ). is_successor fs (λ q. eqb q (get_or edges k d).0) x z ≡ true) (sym at)
      (next_at fs x edges (λ q. eqb q (get_or edges k d).0) k d are lt
      (eq-eqb (get_or edges k d).0 (get_or edges k d).0 refl))

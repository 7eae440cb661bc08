-- Lines of rows, and facts by which a node is known.
use Rattle.std.proofs.Common.{◌≡◌, ℕ, zero, suc, ◌+◌, ◌≤◌, arith, inl, inr, eq-eqb, ◌<◌, ◌&&◌, eqb, Bool, true, false}
use Rattle.std.proofs.Common.{List, [], ◌∷◌, ◌++◌, map, Option, Some, refl, ap, ◌∙◌, sym, subst}
use Rattle.std.specs.List.{list_any, list_all, range_with_len}
use Rattle.std.specs.FinSet as sets
use Rattle.std.proofs.lemmas.Bool.{eqb-true, and_parts, and_from, or_left, or_right, cases_eq}
use Rattle.std.proofs.lemmas.List.Elements.{All-contains}
use Rattle.std.proofs.lemmas.List.Folds.{list_all-append, list_any-append}
use Rattle.std.proofs.lemmas.Option.{cond_some, same_Some}
use Rattle.std.specs.Ordering.{nat_cmp}
use Rattle.std.proofs.lemmas.Cmp.{nat_cmp_total}
use Rattle.lane_sieve.specs.Sets.{NumberSet}
use Rattle.shq_terms.specs.Concept.{Concept, top}
use Rattle.calculus_specs.specs.Shape.{IsTable}
use Rattle.calculus_specs.specs.Tree.{tree_of, trees_of, tree_over}
use Rattle.calculus_specs.specs.Rows.{Part, Trigger, IsRowOf, IsChoice, part_at, conjunct_at, is_name, is_ascending}
use Rattle.calculus_specs.specs.Rows.{are_name_positions, is_some_of, row_concept, row_of}
use Rattle.calculus_specs.specs.Rows.Part.{inclusion, range}
use Rattle.calculus_specs.specs.Rows.Trigger.{always, names, edge, end_of}
use Rattle.calculus_specs.proofs.Unique.{tree_of_shape}
use Rattle.calculus_specs.specs.declared.facts.Fact.{Fact}
use Rattle.calculus_specs.specs.declared.facts.Fact.TheVariants.{Has, Edge}
use Rattle.calculus_specs.specs.State.{node_count_from, has, has_edge, is_so}
use Rattle.calculus_specs.specs.Line.Line.{row_line, range_line}
use Rattle.calculus_specs.specs.Rules.{Question, when}
use Rattle.tableau_specs.specs.Steps.{SearchContext}
use Rattle.tableau_specs.specs.Lines.{asked_in, concept_in}
use Rattle.tableau_specs.specs.LineLaws.{RangesAreFirst}
use Rattle.search_trace.specs.Premises.{Premise, is_node, has_concept, has_edge_below, holds, Added, more_facts}
use Rattle.search_trace.specs.Premises.{row_rule, range_rule, rule_of}
use Rattle.search_trace.specs.Noted.{Marked, marked, is_within, within}
use Rattle.search_trace.proofs.Among.{any_within}
use Rattle.search_trace.specs.Trail.{MarkedFact, nodes_of, ends_of, trail_within, some_facts}
use Rattle.search_trace.specs.Grounded.{is_known_within, AreGrounded}
use Rattle.step_finders.specs.declared.state.PlainRow.{PlainRow}
use Rattle.step_finders.specs.declared.state.NamedRow.{NamedRow}
use Rattle.step_finders.specs.Found.{IsPlain, IsNamed}
use Rattle.step_finders.specs.Reasons.{IsByGeneral, IsByBegin, IsByEnd}
use Rattle.step_finders.proofs.Filed.{names_of_row}
use Rattle.step_lines.specs.Grounds.{GroundsNode, IsFirst}
use Rattle.step_lines.specs.Kinds.{ServesAddition}
use Rattle.step_lines.proofs.Follows.{all_cons, all_first, all_rest, concept_follows, edge_follows, node_of_has}
use Rattle.step_lines.proofs.Follows.{begin_of_edge, end_of_edge}

-- ---- nodes

none_is_part : (u : NumberSet) → sets.is_subset sets.empty u ≡ true
none_is_part u =
    sets.contains-is_subset nat_cmp_total sets.empty u (λ q is. let none = sets.contains-empty nat_cmp q in cc)

first_there : (u : NumberSet) (x a n : ℕ) → a ≤ x → x < a + n
    → list_any (λ m. is_within u m && eqb m.item x) (map (marked sets.empty) (range_with_len a n)) ≡ true
first_there u x a zero le lt = absurd (omega arith)
first_there u x a (suc n) le lt =
    let later : List (Marked ℕ) = map (marked sets.empty) (range_with_len (a + 1) n) in
    elim (cases_eq a x) [
      | inl e ↦
          or_left (sets.is_subset sets.empty u && eqb a x) (list_any (λ m. is_within u m && eqb m.item x) later)
          (and_from (sets.is_subset sets.empty u) (eqb a x) (none_is_part u) (eq-eqb a x e))
      | inr ne ↦
          or_right (sets.is_subset sets.empty u && eqb a x) (list_any (λ m. is_within u m && eqb m.item x) later)
          (first_there u x (a + 1) n (omega arith) (omega arith))
    ]

-- first nodes are always known
pub first_is_known : (first : ℕ) (u : NumberSet) (ms : List MarkedFact) (x : ℕ) → x < first
    → is_known_within first u ms x ≡ true
first_is_known first u ms x lt =
    let firsts : List (Marked ℕ) = map (marked sets.empty) (range_with_len 0 first) in
    let p : Marked ℕ → Bool = λ m. is_within u m && eqb m.item x in
    any_within u (λ y. eqb y x) (nodes_of first ms) ∙ list_any-append p firsts (ends_of first ms)
    ∙ or_left (list_any p firsts) (list_any p (ends_of first ms))
    (first_there u x 0 first (omega arith) (omega (arith, lt)))

module _ (first : ℕ) where
  pub grounds_first : (fs : List (Fact ℕ)) (x : ℕ) → x < first → (gs : List (Fact ℕ)) → gs ≡ []
      → GroundsNode first fs x gs
  grounds_first fs x lt gs none = record {
    are_so = ap (list_all (is_so fs)) none;
    knows = λ u ms grounded hold. first_is_known first u ms x lt;
  }

  pub grounds_origin : (fs : List (Fact ℕ)) (r z x : ℕ) → has_edge fs (λ q. eqb q r) z x ≡ true → (gs : List (Fact ℕ))
      → gs ≡ Edge r z x ∷ [] → GroundsNode first fs x gs
  grounds_origin fs r z x leads gs e = subst (GroundsNode first fs x) (sym e) (record {
    are_so = all_cons (is_so fs) (Edge r z x) [] leads refl;
    knows =
        λ u ms grounded hold. end_of_edge first u ms grounded r z x
        (all_first (is_so (within u ms)) (Edge r z x) [] hold);
  })

  pub grounds_begin : (fs : List (Fact ℕ)) (r x y : ℕ) → has_edge fs (λ q. eqb q r) x y ≡ true → (gs : List (Fact ℕ))
      → gs ≡ Edge r x y ∷ [] → GroundsNode first fs x gs
  grounds_begin fs r x y leads gs e = subst (GroundsNode first fs x) (sym e) (record {
    are_so = all_cons (is_so fs) (Edge r x y) [] leads refl;
    knows =
        λ u ms grounded hold. begin_of_edge first u ms grounded r x y
        (all_first (is_so (within u ms)) (Edge r x y) [] hold);
  })

-- ---- rows that wait for no concept

-- whether the trigger names no concept and is at the beginning of edges, if at any
abbrev is_bare : Trigger → Bool
is_bare always = true
is_bare (names positions) = false
is_bare (edge s) = true
is_bare (end_of s) = false

-- a row's part, and that its concept is that of the row
record IsPartOf (w : SearchContext) (t : Trigger) (a p d : ℕ) : Type 0 where
  part : Part
  there : part_at w.theory a p ≡ Some part
  row : row_of part t ≡ Some (tree_of w.table d)

module _ (w : SearchContext) (fs : List (Fact ℕ)) (good : IsTable w.table)
    (choice : IsChoice w.theory w.table w.rows) where
  abbrev asks : NumberSet → List MarkedFact → Premise → Bool
  asks u ms = holds w.theory (trail_within w.first w.table u ms)

  abbrev gives : ℕ → ℕ → Added
  gives x d = more_facts (Has x (tree_of w.table d) ∷ [])

  part_of : (t : Trigger) (u : PlainRow) (d : ℕ) → IsPlain w t u → u.gives ≡ d → IsPartOf w t u.«axiom» u.part d
  part_of t u d is e =
      let f = All-contains (IsRowOf w.theory w.table) w.rows is.row choice.rows_fit is.is_in in
      record {
        part = f.part;
        there =
            sym (ap (λ (a : ℕ). part_at w.theory a is.row.part_number) is.axiom_is
            ∙ ap (part_at w.theory u.«axiom») is.part_is)
            ∙ f.is_there;
        row =
            ap (row_of f.part) (sym is.trigger_is) ∙ f.is_right
            ∙ ap (λ (k : ℕ). Some (tree_of w.table k)) (is.gives_is ∙ e);
      }

  -- the row line of an inclusion without positions
  bare_rule : (q : Question) (x a p : ℕ) (cs : List Concept) (right k : Concept)
      → part_at w.theory a p ≡ Some (inclusion cs right)
      → ◌≡◌ {A = Option Concept} (Some (row_concept cs right [])) (Some k)
      → rule_of (asked_in w q) (concept_in w.table) (row_line x a p [])
      ≡ Some (record { premises = is_node x ∷ []; children = more_facts (Has x k ∷ []) ∷ [] })
  bare_rule q x a p cs right k there e =
      ap (row_rule x []) there
      ∙ ap (λ (t : Concept). Some (record { premises = is_node x ∷ []; children = more_facts (Has x t ∷ []) ∷ [] }))
      (same_Some (row_concept cs right []) k e)

  -- the rule of a row that is used at each node, or where an edge begins
  bare_part : (q : Question) (x a p d : ℕ) (t : Trigger) (part : Part) → part_at w.theory a p ≡ Some part
      → row_of part t ≡ Some (tree_of w.table d) → is_bare t ≡ true
      → rule_of (asked_in w q) (concept_in w.table) (row_line x a p [])
      ≡ Some (record { premises = is_node x ∷ []; children = gives x d ∷ [] })
  bare_part q x a p d always (inclusion cs right) there row bare =
      bare_rule q x a p cs right (tree_of w.table d) there row
  bare_part q x a p d (edge s) (inclusion cs right) there row bare =
      bare_rule q x a p cs right (tree_of w.table d) there
      (ap (λ (k : Concept). Some k)
      (cond_some (list_any (is_some_of s) cs) (row_concept cs right []) (tree_of w.table d) row).1)
  bare_part q x a p d (names positions) (inclusion cs right) there row bare = cc
  bare_part q x a p d (end_of s) (inclusion cs right) there row bare = cc
  bare_part q x a p d always (range r right) there row bare = cc
  bare_part q x a p d (edge s) (range r right) there row bare = cc
  bare_part q x a p d (names positions) (range r right) there row bare = cc
  bare_part q x a p d (end_of s) (range r right) there row bare = cc

  bare_serves : (t : Trigger) (x d : ℕ) (u : PlainRow) → is_bare t ≡ true → IsPlain w t u → u.gives ≡ d
      → (gs : List (Fact ℕ)) → GroundsNode w.first fs x gs → ServesAddition w fs x d (row_line x u.«axiom» u.part []) gs
  bare_serves t x d u bare is e gs known =
      let q = part_of t u d is e in
      record {
        child = gives x d;
        serves = record {
          are_so = known.are_so;
          holds_by = λ asked number v ms same grounded hold. record {
            rule = record { premises = is_node x ∷ []; children = gives x d ∷ [] };
            holds = record {
              is_rule = bare_part asked x u.«axiom» u.part d t q.part q.there q.row bare;
              premises = all_cons (asks v ms) (is_node x) [] (known.knows v ms grounded hold) refl;
              are_next = refl;
            };
            children_are = refl;
          };
          knows =
              λ v ms grounded hold. all_cons (is_known_within w.first v ms) x [] (known.knows v ms grounded hold) refl;
          of_kind = λ p k kept kinds. refl;
          numbered = refl;
          has_part = (q.part, q.there);
        };
        puts = some_facts (Has x (tree_of w.table d) ∷ []) (Has x d ∷ []) refl (λ p h. h);
        single = refl;
      }

  pub general_serves : (u : PlainRow) (x d : ℕ) → IsByGeneral w fs u x d → (gs : List (Fact ℕ))
      → GroundsNode w.first fs x gs → ServesAddition w fs x d (row_line x u.«axiom» u.part []) gs
  general_serves u x d by gs known = bare_serves always x d u refl by.is_plain by.gives gs known

  pub begin_serves : (r y : ℕ) (u : PlainRow) (x d : ℕ) → IsByBegin w fs r y u x d → (gs : List (Fact ℕ))
      → gs ≡ Edge r x y ∷ [] → ServesAddition w fs x d (row_line x u.«axiom» u.part []) gs
  begin_serves r y u x d by gs e =
      bare_serves (edge by.is_at_edge.role) x d u refl by.is_at_edge.is_plain by.gives gs
      (grounds_begin w.first fs r x y by.is_edge.leads gs e)

  -- ---- ranges

  -- a range whose row is used where an edge of role s ends
  record IsRange (a p s d : ℕ) : Type 0 where
    right : Concept
    there : part_at w.theory a p ≡ Some (range s right)
    is_right : right ≡ tree_of w.table d

  range_of : (a p s d : ℕ) (part : Part) → part_at w.theory a p ≡ Some part
      → row_of part (end_of s) ≡ Some (tree_of w.table d) → IsRange a p s d
  range_of a p s d (range r right) there row =
      let t = cond_some (eqb s r) right (tree_of w.table d) row in
      record {
        right = right;
        there = there ∙ ap (λ (k : ℕ). Some (range k right)) (sym (eqb-true s r t.0));
        is_right = t.1;
      }
  range_of a p s d (inclusion cs right) there row = cc

  pub end_serves : RangesAreFirst w.theory → (z r : ℕ) (u : PlainRow) (x d : ℕ) → IsByEnd w fs z r u x d
      → (gs : List (Fact ℕ)) → gs ≡ Edge r z x ∷ [] → ServesAddition w fs x d (range_line z x u.«axiom») gs
  end_serves first z r u x d by gs e =
      let s = by.is_at_edge.role in
      let q = part_of (end_of s) u d by.is_at_edge.is_plain by.gives in
      let t = range_of u.«axiom» u.part s d q.part q.there q.row in
      let at_one : part_at w.theory u.«axiom» 1 ≡ Some (range s t.right) =
      ap (part_at w.theory u.«axiom») (sym (first u.«axiom» u.part s t.right t.there)) ∙ t.there in
      subst (ServesAddition w fs x d (range_line z x u.«axiom»)) (sym e) (record {
        child = gives x d;
        serves = record {
          are_so = all_cons (is_so fs) (Edge r z x) [] by.is_edge.leads refl;
          holds_by = λ q number v ms same grounded hold.
              let on : has_edge (within v ms) (λ k. eqb k r) z x ≡ true =
              all_first (is_so (within v ms)) (Edge r z x) [] hold in
              record {
                rule =
                    record { premises = is_node z ∷ is_node x ∷ has_edge_below s z x ∷ []; children = gives x d ∷ [] };
                holds = record {
                  is_rule =
                      ap (range_rule z x) at_one
                      ∙ ap (λ (k : Concept). Some (record {
                        premises = is_node z ∷ is_node x ∷ has_edge_below s z x ∷ [];
                        children = more_facts (Has x k ∷ []) ∷ [];
                      }))
                      t.is_right;
                  premises =
                      all_cons (asks v ms) (is_node z) (is_node x ∷ has_edge_below s z x ∷ [])
                      (begin_of_edge w.first v ms grounded r z x on)
                      (all_cons (asks v ms) (is_node x) (has_edge_below s z x ∷ [])
                      (end_of_edge w.first v ms grounded r z x on)
                      (all_cons (asks v ms) (has_edge_below s z x) []
                      (edge_follows w good v ms r s z x by.is_at_edge.role_above on) refl));
                  are_next = refl;
                };
                children_are = refl;
              };
          knows =
              λ v ms grounded hold. all_cons (is_known_within w.first v ms) x []
              (end_of_edge w.first v ms grounded r z x (all_first (is_so (within v ms)) (Edge r z x) [] hold)) refl;
          of_kind = λ p k kept kinds. refl;
          numbered = refl;
          has_part = (range s t.right, at_one);
        };
        puts = some_facts (Has x (tree_of w.table d) ∷ []) (Has x d ∷ []) refl (λ p h. h);
        single = refl;
      })

  -- ---- rows that wait for names

  -- no name is top
  not_top : (k : ℕ) (t : Concept) → tree_of w.table k ≡ t → is_name t ≡ true → ¬ (k ≡ 0)
  not_top k t e is zero' =
      let top_tree : tree_of w.table 0 ≡ top =
      tree_of_shape w.table 0 good.has_top (good.parts_below 0 good.has_top)
      ∙ ap (tree_over (trees_of w.table)) good.begins_with_top in
      let same : t ≡ top = sym e ∙ ap (tree_of w.table) zero' ∙ top_tree in
      let bad : is_name top ≡ true = ap is_name (sym same) ∙ is in
      cc

  has_all : (xs : List (Fact ℕ)) (x : ℕ) (ks : List ℕ) → list_all (is_so xs) (map (Has x) ks) ≡ list_all (has xs x) ks
  has_all xs x [] = refl
  has_all xs x (k ∷ ks) = ap (λ (b : Bool). has xs x k && b) (has_all xs x ks)

  -- what the row asks beside the node
  names_follow : (v : NumberSet) (ms : List MarkedFact) (x : ℕ) (cs : List Concept) (positions waits : List ℕ)
      → map (tree_of w.table) waits ≡ map (conjunct_at cs) positions
      → list_all (has (within v ms) x) waits ≡ true
      → list_all (asks v ms) (map (λ i. has_concept x (conjunct_at cs i)) positions) ≡ true
  names_follow v ms x cs [] ks e h = refl
  names_follow v ms x cs (i ∷ is) [] e h = cc
  names_follow v ms x cs (i ∷ is) (k ∷ ks) e h =
      let first : tree_of w.table k ≡ conjunct_at cs i = cc in
      let rest : map (tree_of w.table) ks ≡ map (conjunct_at cs) is = cc in
      all_cons (asks v ms) (has_concept x (conjunct_at cs i)) (map (λ j. has_concept x (conjunct_at cs j)) is)
      (subst (λ (t : Concept). asks v ms (has_concept x t) ≡ true) first
      (concept_follows w good v ms x k (all_first (has (within v ms) x) k ks h)))
      (names_follow v ms x cs is ks rest (all_rest (has (within v ms) x) k ks h))

  -- the node is known by its names, or by what comes first
  named_known : (v : NumberSet) (ms : List MarkedFact) → AreGrounded w.first ms
      → (x : ℕ) (cs : List Concept) (positions waits : List ℕ)
      → map (tree_of w.table) waits ≡ map (conjunct_at cs) positions
      → list_all (λ i. is_name (conjunct_at cs i)) positions ≡ true → list_all (has (within v ms) x) waits ≡ true
      → (waits ≡ [] → is_known_within w.first v ms x ≡ true) → is_known_within w.first v ms x ≡ true
  named_known v ms grounded x cs positions [] e named h known = known refl
  named_known v ms grounded x cs [] (k ∷ ks) e named h known = cc
  named_known v ms grounded x cs (i ∷ is) (k ∷ ks) e named h known =
      let first : tree_of w.table k ≡ conjunct_at cs i = cc in
      node_of_has w.first v ms grounded x k
      (not_top k (conjunct_at cs i) first (all_first (λ j. is_name (conjunct_at cs j)) i is named))
      (all_first (has (within v ms) x) k ks h)

  module _ (x d : ℕ) (lt : x < node_count_from w.first fs) (u : NamedRow) (is : IsNamed w u)
      (waits : list_all (has fs x) u.waits ≡ true) (e : u.gives ≡ d) where
    abbrev premises_of : List Premise
    premises_of = is_node x ∷ map (λ i. has_concept x (conjunct_at is.conjuncts i)) u.positions

    positions_named : are_name_positions is.conjuncts u.positions ≡ true
    positions_named = names_of_row w fs x lt choice u is

    row_is : row_concept is.conjuncts is.right u.positions ≡ tree_of w.table d
    row_is =
        let f = All-contains (IsRowOf w.theory w.table) w.rows is.row choice.rows_fit is.is_in in
        let at : part_at w.theory is.row.axiom_number is.row.part_number ≡ part_at w.theory u.«axiom» u.part =
        ap (λ (a : ℕ). part_at w.theory a is.row.part_number) is.axiom_is
        ∙ ap (part_at w.theory u.«axiom») is.part_is in
        let part : f.part ≡ inclusion is.conjuncts is.right =
        same_Some f.part (inclusion is.conjuncts is.right) (sym f.is_there ∙ at ∙ is.is_part) in
        let row : row_of (inclusion is.conjuncts is.right) (names u.positions) ≡ Some (tree_of w.table d) =
        ap (λ (q : Part). row_of q (names u.positions)) (sym part) ∙ ap (row_of f.part) (sym is.trigger_is) ∙ f.is_right
        ∙ ap (λ (k : ℕ). Some (tree_of w.table k)) (is.gives_is ∙ e) in
        (cond_some (are_name_positions is.conjuncts u.positions) (row_concept is.conjuncts is.right u.positions)
        (tree_of w.table d) row).1

    row_rule_is : (q : Question)
        → rule_of (asked_in w q) (concept_in w.table) (row_line x u.«axiom» u.part u.positions)
        ≡ Some (record { premises = premises_of; children = gives x d ∷ [] })
    row_rule_is q =
        ap (row_rule x u.positions) is.is_part
        ∙ ap (λ (b : Bool). when b (Some (record {
          premises = premises_of;
          children = more_facts (Has x (row_concept is.conjuncts is.right u.positions) ∷ []) ∷ [];
        })))
        positions_named
        ∙ ap (λ (k : Concept). Some (record { premises = premises_of; children = more_facts (Has x k ∷ []) ∷ [] }))
        row_is

    pub named_serves : (before gs : List (Fact ℕ)) → IsFirst w.first fs x u.waits before
        → gs ≡ before ++ map (Has x) u.waits → (positions : List ℕ) → positions ≡ u.positions
        → ServesAddition w fs x d (row_line x u.«axiom» u.part positions) gs
    named_serves before gs first eq positions same_positions =
        let split : (xs : List (Fact ℕ))
        → list_all (is_so xs) gs ≡ (list_all (is_so xs) before && list_all (has xs x) u.waits) =
        λ xs. ap (list_all (is_so xs)) eq ∙ list_all-append (is_so xs) before (map (Has x) u.waits)
        ∙ ap (λ (b : Bool). list_all (is_so xs) before && b) (has_all xs x u.waits) in
        let named =
        (and_parts (is_ascending u.positions) (list_all (λ i. is_name (conjunct_at is.conjuncts i)) u.positions)
        positions_named).1 in
        let knows : (v : NumberSet) (ms : List MarkedFact) → AreGrounded w.first ms
        → list_all (is_so (within v ms)) gs ≡ true → is_known_within w.first v ms x ≡ true =
        λ v ms grounded hold.
        let t =
        and_parts (list_all (is_so (within v ms)) before) (list_all (has (within v ms) x) u.waits)
        (sym (split (within v ms)) ∙ hold) in
        named_known v ms grounded x is.conjuncts u.positions u.waits is.waits_are.stand_for named t.1
        (λ none. (first.grounds_node none).knows v ms grounded t.0) in
        subst (λ (ps : List ℕ). ServesAddition w fs x d (row_line x u.«axiom» u.part ps) gs) (sym same_positions)
        (record {
          child = gives x d;
          serves = record {
            are_so = split fs ∙ and_from (list_all (is_so fs) before) (list_all (has fs x) u.waits) first.are_so waits;
            holds_by = λ q number v ms same grounded hold.
                let t =
                and_parts (list_all (is_so (within v ms)) before) (list_all (has (within v ms) x) u.waits)
                (sym (split (within v ms)) ∙ hold) in
                record {
                  rule = record { premises = premises_of; children = gives x d ∷ [] };
                  holds = record {
                    is_rule = row_rule_is q;
                    premises =
                        all_cons (asks v ms) (is_node x)
                        (map (λ i. has_concept x (conjunct_at is.conjuncts i)) u.positions) (knows v ms grounded hold)
                        (names_follow v ms x is.conjuncts u.positions u.waits is.waits_are.stand_for t.1);
                    are_next = refl;
                  };
                  children_are = refl;
                };
            knows = λ v ms grounded hold. all_cons (is_known_within w.first v ms) x [] (knows v ms grounded hold) refl;
            of_kind = λ p k kept kinds. refl;
            numbered = refl;
            has_part = (inclusion is.conjuncts is.right, is.is_part);
          };
          puts = some_facts (Has x (tree_of w.table d) ∷ []) (Has x d ∷ []) refl (λ p h. h);
          single = refl;
        })

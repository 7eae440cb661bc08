-- What holds of a search that goes on behind a trail that it is given.
use Rattle.std.proofs.Common.{◌≡◌, ℕ, ◌+◌, ◌<◌, ◌≤◌, ◌&&◌, ◌||◌, eqb, ltb, cond, suc, Bool, true, false, List, [], ◌∷◌}
use Rattle.std.proofs.Common.{◌++◌, map, length, take, get_or, None, refl, ap, ◌∙◌, sym, subst, arith, inl, inr}
use Rattle.std.proofs.Common.{append_assoc, eq-eqb}
use Rattle.std.specs.List.{list_any, list_all, range_with_len}
use Rattle.std.specs.FinSet as sets
use Rattle.std.proofs.lemmas.Bool.{and_parts, and_from, or_cases, or_left, or_right, eqb-true, cases_lt, cases_Bool}
use Rattle.std.proofs.lemmas.Bool.{ltb-true, le-ltb}
use Rattle.std.proofs.lemmas.List.{map-append, take_more}
use Rattle.std.proofs.lemmas.List.Folds.{list_any-append}
use Rattle.std.proofs.lemmas.List.Elements.{All-nil}
use Rattle.std.proofs.lemmas.Option.{slice_get-get_or}
use Rattle.shq_terms.specs.declared.axioms.Query.{Query}
use Rattle.calculus_specs.specs.Rules.{Question}
use Rattle.calculus_specs.specs.declared.facts.Fact.{Fact}
use Rattle.calculus_specs.specs.declared.facts.Fact.TheVariants.{Has, Edge, Apart, Same}
use Rattle.calculus_specs.specs.State.{node_count_from, speaks_below}
use Rattle.tableau_specs.specs.declared.Item.{Item}
use Rattle.tableau_specs.specs.declared.Item.TheVariants.{Fact as Says, Mark as Marks}
use Rattle.tableau_specs.specs.Clash.{IsPlainClash}
use Rattle.tableau_specs.specs.Items.{facts_of}
use Rattle.tableau_specs.specs.Reached.{start, Follows}
use Rattle.tableau_specs.specs.StepLaws.{IsOn}
use Rattle.tableau_specs.specs.Steps.{SearchContext, below_of, IsGiven, HasPlainClash}
use Rattle.tableau_specs.proofs.AddLines.{in_range_below}
use Rattle.tableau_specs.proofs.Built.{Supports, built_facts}
use Rattle.tableau_specs.proofs.GenerateLines.{count-append}
use Rattle.tableau_specs.proofs.Marks.{reached_speak}
use Rattle.tableau_specs.proofs.Reached.{reached_built, nodes_before}
use Rattle.tableau_specs.proofs.TreeShaped.{first_le, count-edge}
use Rattle.search_trace.specs.Grounded.{is_known_within, is_grounded, AreGrounded}
use Rattle.search_trace.specs.Laws.{IsTracedAt}
use Rattle.search_trace.specs.Noted.{Marked, marked, items, is_within, Noted}
use Rattle.search_trace.specs.Trace.{TraceLists, begun}
use Rattle.search_trace.specs.Trail.{MarkedFact, read_marked, ends_of, nodes_of, Covers, AllWithin}
use Rattle.search_trace.proofs.Plain.{items_marked}
use Rattle.search_trace.proofs.Trail.{nodes-append, known_in, whole_part}
use Rattle.step_agenda.specs.Entry.{Entry}
use Rattle.step_agenda.specs.Followed.{Printed, AreFirstBlocks, IsCurrent}
use Rattle.step_agenda.specs.Trail.{facts_in, items_of}
use Rattle.search_state.specs.Beginning.{begun_entries, given_entry, given_entries, IsFitItem, AreFit}
use Rattle.search_state.specs.Marked.{marked_in}
use Rattle.search_state.specs.Progress.{ProgressLists, asked_of, IsAsked, IsFitLine, IsStanding}
use Rattle.search_state.specs.Stepping.{IsBehind}
use Rattle.search_state.proofs.Entries.{facts-append}
use Rattle.search_state.proofs.Holding.{part_itself}

-- ---- its entries

-- facts that rest on no mark
abbrev unmarked : List (Fact ℕ) → List MarkedFact
unmarked fs = map (marked sets.empty) fs

items-given : (is : List Item) → items_of (given_entries is) ≡ is
items-given [] = refl
items-given (Says f ∷ is) = ap (λ (js : List Item). Says f ∷ js) (items-given is)
items-given (Marks c ∷ is) = ap (λ (js : List Item). Marks c ∷ js) (items-given is)

facts-given : (is : List Item) → facts_in (given_entries is) ≡ facts_of is
facts-given [] = refl
facts-given (Says f ∷ is) = ap (λ (fs : List (Fact ℕ)). f ∷ fs) (facts-given is)
facts-given (Marks c ∷ is) = facts-given is

marked-given : (is : List Item) → marked_in (given_entries is) ≡ unmarked (facts_of is)
marked-given [] = refl
marked-given (Says f ∷ is) = ap (λ (ms : List MarkedFact). marked sets.empty f ∷ ms) (marked-given is)
marked-given (Marks c ∷ is) = marked-given is

-- one item more
pub given_more : (es : List Entry) (is : List Item) (i : ℕ) (d : Item) → i < length is
    → (es ++ given_entries (take i is)) ++ given_entry (get_or is i d) ∷ [] ≡ es ++ given_entries (take (i + 1) is)
given_more es is i d lt =
    let x = get_or is i d in
    append_assoc es (given_entries (take i is)) (given_entry x ∷ [])
    ∙ ap (λ (more : List Entry). es ++ more)
    (sym (ap given_entries (take_more is i d lt) ∙ map-append given_entry (take i is) (x ∷ [])))

-- and it fits
pub fit_next : (first : ℕ) (es : List Entry) (is : List Item) → AreFit first (facts_in es) is → (i : ℕ) (d : Item)
    → i < length is → IsFitItem (node_count_from first (facts_in (es ++ given_entries (take i is)))) (get_or is i d)
fit_next first es is fit i d lt =
    subst (λ (fs : List (Fact ℕ)). IsFitItem (node_count_from first fs) (get_or is i d))
    (sym (facts-append es (given_entries (take i is))
    ∙ ap (λ (fs : List (Fact ℕ)). facts_in es ++ fs) (facts-given (take i is))))
    (fit i (get_or is i d) (slice_get-get_or is i d lt))

-- ---- its nodes

module _ (first : ℕ) where
  -- the nodes that facts make known which rest on no mark
  abbrev nodes_by : List (Fact ℕ) → List ℕ
  nodes_by fs = items (nodes_of first (unmarked fs))

  abbrev ends_by : List (Fact ℕ) → List ℕ
  ends_by fs = items (ends_of first (unmarked fs))

  -- each node is one of these
  abbrev KnowsAll : List (Fact ℕ) → Type 0
  KnowsAll fs = (x : ℕ) → x < node_count_from first fs → list_any (λ y. eqb y x) (nodes_by fs) ≡ true

  any_nodes : (p : ℕ → Bool) (fs : List (Fact ℕ))
      → list_any p (nodes_by fs) ≡ (list_any p (range_with_len 0 first) || list_any p (ends_by fs))
  any_nodes p fs =
      let firsts : List (Marked ℕ) = map (marked sets.empty) (range_with_len 0 first) in
      ap (list_any p) (map-append (λ m. m.item) firsts (ends_of first (unmarked fs)))
      ∙ list_any-append p (items firsts) (ends_by fs)
      ∙ ap (λ (ns : List ℕ). list_any p ns || list_any p (ends_by fs)) (items_marked sets.empty (range_with_len 0 first))

  nodes_more : (p : ℕ → Bool) (fs gs : List (Fact ℕ))
      → list_any p (nodes_by (fs ++ gs)) ≡ (list_any p (nodes_by fs) || list_any p (ends_by gs))
  nodes_more p fs gs =
      ap (λ (ms : List MarkedFact). list_any p (items (nodes_of first ms))) (map-append (marked sets.empty) fs gs)
      ∙ ap (λ (ns : List (Marked ℕ)). list_any p (items ns)) (nodes-append first (unmarked fs) (unmarked gs))
      ∙ ap (list_any p) (map-append (λ m. m.item) (nodes_of first (unmarked fs)) (ends_of first (unmarked gs)))
      ∙ list_any-append p (nodes_by fs) (ends_by gs)

  -- an end of an edge is a node
  end_is_node : (fs : List (Fact ℕ)) (x : ℕ) → list_any (λ y. eqb y x) (ends_by fs) ≡ true
      → x < node_count_from first fs
  end_is_node [] x h = cc
  end_is_node (Has v c ∷ fs) x h = end_is_node fs x h
  end_is_node (Edge r v z ∷ fs) x h =
      let at : Bool → Bool =
      λ t. list_any (λ y. eqb y x) (items (cond t [] (marked sets.empty z ∷ []) ++ ends_of first (unmarked fs))) in
      elim (cases_Bool (ltb z first)) [
        | inl low ↦ omega (arith, end_is_node fs x (sym (ap at low) ∙ h))
        | inr high ↦ elim (or_cases (eqb z x) (list_any (λ y. eqb y x) (ends_by fs)) (sym (ap at high) ∙ h)) [
          | inl is ↦ omega (arith, eqb-true z x is)
          | inr later ↦ omega (arith, end_is_node fs x later)
        ]
      ]
  end_is_node (Apart v z ∷ fs) x h = end_is_node fs x h
  end_is_node (Same v z ∷ fs) x h = end_is_node fs x h

  known_is_node : (fs : List (Fact ℕ)) (x : ℕ) → list_any (λ y. eqb y x) (nodes_by fs) ≡ true
      → x < node_count_from first fs
  known_is_node fs x h =
      elim
      (or_cases (list_any (λ y. eqb y x) (range_with_len 0 first)) (list_any (λ y. eqb y x) (ends_by fs))
      (sym (any_nodes (λ y. eqb y x) fs) ∙ h)) [
        | inl low ↦ omega (arith, in_range_below x 0 first low, first_le first fs)
        | inr end ↦ end_is_node fs x end
      ]

  knows_first : KnowsAll []
  knows_first x lt =
      any_nodes (λ y. eqb y x) []
      ∙ or_left (list_any (λ y. eqb y x) (range_with_len 0 first)) false (known_in x 0 first (omega arith) (omega (arith, lt)))

module _ (w : SearchContext) where
  knows_old : (fs : List (Fact ℕ)) (f : Fact ℕ) → KnowsAll w.first fs → (x : ℕ) → x < node_count_from w.first fs
      → list_any (λ y. eqb y x) (nodes_by w.first (fs ++ f ∷ [])) ≡ true
  knows_old fs f h x lt =
      nodes_more w.first (λ y. eqb y x) fs (f ∷ [])
      ∙ or_left (list_any (λ y. eqb y x) (nodes_by w.first fs))
      (list_any (λ y. eqb y x) (ends_by w.first (f ∷ []))) (h x lt)

  knows_more : (fs : List (Fact ℕ)) (f : Fact ℕ) → Supports w.first (IsGiven w) fs (Says f) → KnowsAll w.first fs
      → KnowsAll w.first (fs ++ f ∷ [])
  knows_more fs (Has v c) s h x lt =
      knows_old fs (Has v c) h x (omega (arith, lt, count-append w.first fs (Has v c ∷ []), first_le w.first fs))
  knows_more fs (Apart v z) s h x lt =
      knows_old fs (Apart v z) h x (omega (arith, lt, count-append w.first fs (Apart v z ∷ []), first_le w.first fs))
  knows_more fs (Same v z) s h x lt =
      knows_old fs (Same v z) h x (omega (arith, lt, count-append w.first fs (Same v z ∷ []), first_le w.first fs))
  knows_more fs (Edge r v z) s h x lt = elim (cases_lt x (node_count_from w.first fs)) [
    | inl below ↦ knows_old fs (Edge r v z) h x below
    | inr above ↦ elim s.1 [
      | inl next ↦
          let here : z ≡ x = omega (arith, lt, above, next, count-edge w.first fs r v z) in
          let high : ltb z w.first ≡ false = le-ltb z w.first (omega (arith, next, first_le w.first fs)) in
          nodes_more w.first (λ y. eqb y x) fs (Edge r v z ∷ [])
          ∙ or_right (list_any (λ y. eqb y x) (nodes_by w.first fs))
          (list_any (λ y. eqb y x) (ends_by w.first (Edge r v z ∷ [])))
          (ap (λ (t : Bool). list_any (λ y. eqb y x) (items (cond t [] (marked sets.empty z ∷ []) ++ []))) high
          ∙ or_left (eqb z x) false (eq-eqb z x here))
      | inr g ↦
          let low = ltb-true z w.first (and_parts (ltb v w.first) (ltb z w.first) g.on_first).1 in
          absurd (omega (arith, lt, above, low, first_le w.first fs, count-edge w.first fs r v z))
    ]
  ]

  module _ (at sub not_sup k : ℕ) (trail : List Item) (at_first : at < w.first)
      (follows : Follows w (start at sub not_sup) k trail) where
    abbrev here : List (Fact ℕ)
    here = facts_of trail

    knows_all : KnowsAll w.first here
    knows_all =
        built_facts w.first (IsGiven w) (KnowsAll w.first) (knows_first w.first) knows_more trail
        (reached_built w at sub not_sup k trail at_first follows)

    same_items : items (unmarked here) ≡ here
    same_items = items_marked sets.empty here

    full : (x : ℕ) → x < node_count_from w.first (items (unmarked here))
        → list_any (λ y. eqb y x) (nodes_by w.first here) ≡ true
    full x lt = knows_all x (subst (λ (fs : List (Fact ℕ)). x < node_count_from w.first fs) same_items lt)

    -- ---- its trace begins with its facts

    -- the branch that has what the trail says
    abbrev noted_trail : Noted
    noted_trail = record { nodes = nodes_of w.first (unmarked here); facts = map (read_marked w.table) (unmarked here) }

    covered : Covers w.first w.table (unmarked here) noted_trail
    covered = record {
      nodes = λ p h. h;
      facts = λ p h. h;
      no_more = λ x is.
          subst (λ (fs : List (Fact ℕ)). x < node_count_from w.first fs) (sym same_items)
          (known_is_node w.first here x is);
      no_less = full;
    }

    traced_behind : (q : Question) → q.first ≡ w.first → IsTracedAt q w.table noted_trail begun [] (unmarked here)
    traced_behind q same = record {
      are_at = tt;
      traced = record {
        tracing = record { branchings = []; lines = []; now = noted_trail; facts = unmarked here };
        is_honest = record {
          are_open = tt;
          singles = refl;
          leads = refl;
          covers = subst (λ (n : ℕ). Covers n w.table (unmarked here) noted_trail) (sym same) covered;
        };
        lines_are = refl;
        are_places = tt;
        facts_are = refl;
      };
    }

    -- ---- its facts are grounded

    all_within : (fs : List (Fact ℕ)) → AllWithin sets.empty (unmarked fs)
    all_within [] = refl
    all_within (f ∷ fs) =
        and_from (is_within sets.empty (marked sets.empty f)) (list_all (is_within sets.empty) (unmarked fs))
        (part_itself sets.empty) (all_within fs)

    abbrev count : ℕ
    count = node_count_from w.first here

    node_known : (x : ℕ) → x < count → is_known_within w.first sets.empty (unmarked here) x ≡ true
    node_known x lt =
        let part = whole_part w.first w.table sets.empty (unmarked here) (all_within here) full in
        part.nodes (λ y. eqb y x)
        (subst (λ (fs : List (Fact ℕ)). list_any (λ y. eqb y x) (range_with_len 0 (node_count_from w.first fs)) ≡ true)
        (sym same_items) (known_in x 0 count (omega arith) (omega (arith, lt))))

    both_known : (x y : ℕ) → x < count → y < count
        → list_all (is_known_within w.first sets.empty (unmarked here)) (x ∷ y ∷ []) ≡ true
    both_known x y lt mt =
        let p = is_known_within w.first sets.empty (unmarked here) in
        and_from (p x) (p y && true) (node_known x lt) (and_from (p y) true (node_known y mt) refl)

    fact_grounded : (f : Fact ℕ) → speaks_below count f ≡ true
        → is_grounded w.first (unmarked here) (marked sets.empty f) ≡ true
    fact_grounded (Has x c) h =
        and_from (is_known_within w.first sets.empty (unmarked here) x) true (node_known x (ltb-true x count h)) refl
    fact_grounded (Edge r x y) h =
        let b = and_parts (ltb x count) (ltb y count) h in
        both_known x y (ltb-true x count b.0) (ltb-true y count b.1)
    fact_grounded (Apart x y) h =
        let b = and_parts (ltb x count) (ltb y count) h in
        both_known x y (ltb-true x count b.0) (ltb-true y count b.1)
    fact_grounded (Same x y) h =
        let b = and_parts (ltb x count) (ltb y count) h in
        both_known x y (ltb-true x count b.0) (ltb-true y count b.1)

    all_grounded : (fs : List (Fact ℕ)) → list_all (speaks_below count) fs ≡ true
        → list_all (is_grounded w.first (unmarked here)) (unmarked fs) ≡ true
    all_grounded [] h = refl
    all_grounded (f ∷ fs) h =
        let b = and_parts (speaks_below count f) (list_all (speaks_below count) fs) h in
        and_from (is_grounded w.first (unmarked here) (marked sets.empty f))
        (list_all (is_grounded w.first (unmarked here)) (unmarked fs)) (fact_grounded f b.0) (all_grounded fs b.1)

    grounded_behind : AreGrounded w.first (unmarked here)
    grounded_behind = all_grounded here (reached_speak w at sub not_sup k trail at_first follows)

-- ---- its items fit

module _ (w : SearchContext) where
  fits_on : (n : ℕ) (i : Item) → w.first ≤ n → IsOn w n i → IsFitItem n i
  fits_on n (Says (Has x c)) le h = h
  fits_on n (Says (Edge r x y)) le h = (
    h.0,
    elim h.1 [
      | inl next ↦ omega (arith, next)
      | inr g ↦
          let low = ltb-true y w.first (and_parts (ltb x w.first) (ltb y w.first) g.on_first).1 in
          omega (arith, low, le)
    ],
  )
  fits_on n (Says (Apart x y)) le h = h
  fits_on n (Says (Same x y)) le h = h
  fits_on n (Marks c) le h = tt

  pub rest_fits : (at sub not_sup k : ℕ) (rest : List Item) → at < w.first
      → Follows w (start at sub not_sup) k (start at sub not_sup ++ rest) → (first : ℕ) → first ≡ w.first
      → (es : List Entry) → es ≡ begun_entries at sub not_sup → AreFit first (facts_in es) rest
  rest_fits at sub not_sup k rest at_first follows first one es are place i read =
      let trail = start at sub not_sup ++ rest in
      let fs = facts_of (take (suc (suc place)) trail) in
      let on = nodes_before w at sub not_sup k trail at_first follows (suc (suc place)) i read in
      subst (λ (n : ℕ). IsFitItem (node_count_from n (facts_in es ++ facts_of (take place rest))) i) (sym one)
      (subst (λ (xs : List Entry). IsFitItem (node_count_from w.first (facts_in xs ++ facts_of (take place rest))) i)
      (sym are) (fits_on (node_count_from w.first fs) i (first_le w.first fs) on))

-- ---- where it goes on

module _ (w : SearchContext) (q : Query) (at sub not_sup k : ℕ) (rest : List Item)
    (asked : IsAsked w q at sub not_sup) where
  abbrev trail_now : List Item
  trail_now = start at sub not_sup ++ rest

  abbrev entries_now : List Entry
  entries_now = given_entries trail_now

  abbrev at_rest : Printed → ProgressLists
  at_rest found_blocks = record {
    query = q;
    at = at;
    sub = sub;
    not_sup = not_sup;
    first = w.first;
    entries = entries_now;
    found_blocks = found_blocks;
    trace = begun;
    marks = [];
    clash = None;
    steps = k;
    behind = true;
  }

  stands : Follows w (start at sub not_sup) k trail_now → (found_blocks : Printed)
      → AreFirstBlocks w.first (facts_in entries_now) found_blocks → IsStanding w (at_rest found_blocks)
  stands follows found_blocks blocks = record {
    asked = asked;
    first_is = refl;
    follows = subst (λ (is : List Item). Follows w (start at sub not_sup) k is) (sym (items-given trail_now)) follows;
    blocks = blocks;
    places = [];
    from = noted_trail w at sub not_sup k trail_now asked.at_first follows;
    from_is = λ no. absurd (cc no);
    traced =
        subst (λ (ms : List MarkedFact). IsTracedAt (asked_of w q at) w.table
        (noted_trail w at sub not_sup k trail_now asked.at_first follows) begun [] ms)
        (sym (marked-given trail_now))
        (traced_behind w at sub not_sup k trail_now asked.at_first follows (asked_of w q at) refl);
    are_marks = tt;
    grounded =
        subst (AreGrounded w.first) (sym (marked-given trail_now))
        (grounded_behind w at sub not_sup k trail_now asked.at_first follows);
    fit = All-nil (IsFitLine w sub not_sup);
  }

  goes_on : Follows w (start at sub not_sup) k trail_now → ¬ HasPlainClash w trail_now → (found_blocks : Printed)
      → IsCurrent w.first (facts_in entries_now) found_blocks
      → AreFirstBlocks w.first (facts_in entries_now) found_blocks → IsBehind w rest k (at_rest found_blocks)
  goes_on follows clear found_blocks current blocks = record {
    is_searching = record {
      standing = stands follows found_blocks blocks;
      clash =
          subst (λ (fs : List (Fact ℕ)). ¬ IsPlainClash w.first (below_of w) w.table fs) (sym (facts-given trail_now))
          clear;
    };
    current = current;
    trail_is = items-given trail_now;
    counted = refl;
    is_behind = refl;
  }

  pub goes_behind : Follows w (start at sub not_sup) k trail_now → ¬ HasPlainClash w trail_now
      → (first : ℕ) → first ≡ w.first → (es : List Entry) → es ≡ begun_entries at sub not_sup ++ given_entries rest
      → (found_blocks : Printed) → IsCurrent first (facts_in es) found_blocks
      → AreFirstBlocks first (facts_in es) found_blocks → (trace : TraceLists) → trace ≡ begun → (marks : List ℕ)
      → marks ≡ []
      → IsBehind w rest k (record {
        query = q;
        at = at;
        sub = sub;
        not_sup = not_sup;
        first = first;
        entries = es;
        found_blocks = found_blocks;
        trace = trace;
        marks = marks;
        clash = None;
        steps = k;
        behind = true;
      })
  goes_behind follows clear first one es are found_blocks current blocks trace traced marks none =
      let h =
      goes_on follows clear found_blocks
      (subst (λ (n : ℕ). IsCurrent n (facts_in entries_now) found_blocks) one
      (subst (λ (xs : List Entry). IsCurrent first (facts_in xs) found_blocks) are current))
      (subst (λ (n : ℕ). AreFirstBlocks n (facts_in entries_now) found_blocks) one
      (subst (λ (xs : List Entry). AreFirstBlocks first (facts_in xs) found_blocks) are blocks)) in
      let all : at_rest found_blocks
      ≡ record {
        query = q;
        at = at;
        sub = sub;
        not_sup = not_sup;
        first = first;
        entries = es;
        found_blocks = found_blocks;
        trace = trace;
        marks = marks;
        clash = None;
        steps = k;
        behind = true;
      } =
      (λ i. record {
        query = q;
        at = at;
        sub = sub;
        not_sup = not_sup;
        first = sym one i;
        entries = sym are i;
        found_blocks = found_blocks;
        trace = sym traced i;
        marks = sym none i;
        clash = None;
        steps = k;
        behind = true;
      }) in
      subst (λ (s : ProgressLists). IsBehind w rest k s) all h

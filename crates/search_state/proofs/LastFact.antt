-- Whether the last fact has made a plain clash.
use Rattle.std.proofs.Common.{◌≡◌, ℕ, ◌<◌, ◌≤◌, ◌&&◌, ◌||◌, eqb, true, false, List, [], ◌∷◌, ◌++◌, length, take, Option}
use Rattle.std.proofs.Common.{Some, None, refl, ap, ◌∙◌, sym, subst, arith, eq-eqb}
use Rattle.std.specs.Prelude.{slice_get, MatchOption}
use Rattle.std.specs.List.{list_any}
use Rattle.std.proofs.lemmas.Bool.{and_from, or_left, or_right, ltb-true}
use Rattle.std.proofs.lemmas.List.Folds.{list_any-append}
use Rattle.std.proofs.Math.Seq.{take-append_seam}
use Rattle.calculus_specs.specs.declared.facts.Fact.{Fact}
use Rattle.calculus_specs.specs.declared.facts.Fact.TheVariants.{Has, Edge, Apart, Same}
use Rattle.calculus_specs.specs.Joins.{rep}
use Rattle.calculus_specs.specs.State.{node_count_from, has, are_apart, is_given, gives_concept, gives_apart}
use Rattle.calculus_specs.specs.State.{speak_of_nodes}
use Rattle.tableau_specs.specs.declared.Item.{Item}
use Rattle.tableau_specs.specs.declared.Item.TheVariants.{Fact as Says}
use Rattle.tableau_specs.specs.Items.{facts_of}
use Rattle.tableau_specs.specs.Clash.{IsPlainClash}
use Rattle.tableau_specs.specs.Steps.{SearchContext, below_of}
use Rattle.tableau_specs.specs.StepLaws.{IsOn}
use Rattle.tableau_specs.proofs.Reached.{nodes_before, successor_is_child}
use Rattle.tableau_specs.proofs.Marks.{reached_speak}
use Rattle.tableau_specs.proofs.Concept.{concept_clashes}
use Rattle.tableau_specs.proofs.Join.{join_clashes}
use Rattle.tableau_specs.proofs.Edge.{edge_clashes}
use Rattle.tableau_specs.proofs.TreeShaped.{first_le, count_le}
use Rattle.tableau_specs.proofs.Parted.{apart_clashes}
use Rattle.step_agenda.specs.Entry.TheVariants.{Fact as Grounded}
use Rattle.step_agenda.specs.Trail.{facts_in, items_of}
use Rattle.step_finders.specs.declared.clash.Clash.{Clash}
use Rattle.step_finders.specs.Clashing.{AreLedTo, IsShown}
use Rattle.search_state.specs.Progress.{ProgressLists, IsStanding, IsLast, IsClashOf, IsSearching}
use Rattle.search_state.specs.Looking.{IsLookedAt, IsLookable, NoClashByFact}
use Rattle.search_state.proofs.Entries.{facts-items, facts-append, items-append}
use Rattle.search_state.proofs.Marks.{get-behind}

-- ---- one fact more

has_last : (fs : List (Fact ℕ)) (x c : ℕ) → has (fs ++ Has x c ∷ []) x c ≡ true
has_last fs x c =
    let gs = fs ++ Has x c ∷ [] in
    let p = gives_concept (λ d. eqb d c) (rep gs) (rep gs x) in
    let here : p (Has x c) ≡ true =
    and_from (eqb (rep gs x) (rep gs x)) (eqb c c) (eq-eqb (rep gs x) (rep gs x) refl) (eq-eqb c c refl) in
    or_right (eqb c 0) (is_given (λ d. eqb d c) gs x)
    (list_any-append p fs (Has x c ∷ [])
    ∙ or_right (list_any p fs) (p (Has x c) || false) (or_left (p (Has x c)) false here))

apart_last : (fs : List (Fact ℕ)) (y z : ℕ) → are_apart (fs ++ Apart y z ∷ []) y z ≡ true
apart_last fs y z =
    let gs = fs ++ Apart y z ∷ [] in
    let m = rep gs in
    let p = gives_apart m (m y) (m z) in
    let both = eqb (m y) (m y) && eqb (m z) (m z) in
    let here : p (Apart y z) ≡ true =
    or_left both (eqb (m y) (m z) && eqb (m z) (m y))
    (and_from (eqb (m y) (m y)) (eqb (m z) (m z)) (eq-eqb (m y) (m y) refl) (eq-eqb (m z) (m z) refl)) in
    list_any-append p fs (Apart y z ∷ [])
    ∙ or_right (list_any p fs) (p (Apart y z) || false) (or_left (p (Apart y z)) false here)

module _ (w : SearchContext) (s : ProgressLists) (st : IsStanding w s) where
  pub speaks : speak_of_nodes w.first (facts_in s.entries) ≡ true
  speaks =
      subst (λ (fs : List (Fact ℕ)). speak_of_nodes w.first fs ≡ true) (facts-items s.entries)
      (reached_speak w s.at s.sub s.not_sup s.steps (items_of s.entries) st.asked.at_first st.follows)

  pub above : (x : ℕ) → AreLedTo w (facts_in s.entries) x
  above x =
      subst (λ (fs : List (Fact ℕ)). AreLedTo w fs x) (facts-items s.entries)
      (λ roles z h. successor_is_child w s.at s.sub s.not_sup s.steps (items_of s.entries) st.asked.at_first st.follows
      roles z x h)

  module _ (f : Fact ℕ) (last : IsLast w s.entries f) where
    pub facts_are : facts_in s.entries ≡ facts_in last.front ++ f ∷ []
    facts_are = ap facts_in last.splits ∙ facts-append last.front (Grounded f last.by ∷ [])

    items_are : items_of s.entries ≡ items_of last.front ++ Says f ∷ []
    items_are = ap items_of last.splits ∙ items-append last.front (Grounded f last.by ∷ [])

    pub on : IsOn w (node_count_from w.first (facts_in last.front)) (Says f)
    on =
        let front = items_of last.front in
        let place = length front in
        let at : slice_get (items_of s.entries) place ≡ Some (Says f) =
        ap (λ (is : List Item). slice_get is place) items_are ∙ get-behind front (Says f) [] in
        let before : facts_of (take place (items_of s.entries)) ≡ facts_in last.front =
        ap (λ (is : List Item). facts_of (take place is)) items_are ∙ ap facts_of (take-append_seam front (Says f ∷ []))
        ∙ facts-items last.front in
        subst (λ (fs : List (Fact ℕ)). IsOn w (node_count_from w.first fs) (Says f)) before
        (nodes_before w s.at s.sub s.not_sup s.steps (items_of s.entries) st.asked.at_first st.follows place (Says f)
        at)

    grown : node_count_from w.first (facts_in last.front) ≤ node_count_from w.first (facts_in s.entries)
    grown =
        subst (λ (fs : List (Fact ℕ)). node_count_from w.first (facts_in last.front) ≤ node_count_from w.first fs)
        (sym facts_are) (count_le w.first (facts_in last.front) f)

  looked_at : (x n : ℕ) → x < n → n ≤ node_count_from w.first (facts_in s.entries) → IsLookedAt w (facts_in s.entries) x
  looked_at x n lt le = record { is_node = omega (arith, lt, le); speak = speaks; above = above x }

  pub lookable : (f : Fact ℕ) (last : IsLast w s.entries f) → IsLookable w (facts_in s.entries) f
  lookable (Has x c) last = (
    looked_at x (node_count_from w.first (facts_in last.front)) (on (Has x c) last) (grown (Has x c) last),
    subst (λ (fs : List (Fact ℕ)). has fs x c ≡ true) (sym (facts_are (Has x c) last))
        (has_last (facts_in last.front) x c),
  )
  lookable (Edge r x y) last = omega (arith, (on (Edge r x y) last).0, grown (Edge r x y) last)
  lookable (Apart y z) last = record {
    looked_at =
        looked_at y (node_count_from w.first (facts_in last.front)) (on (Apart y z) last).0 (grown (Apart y z) last);
    is_other_node = omega (arith, (on (Apart y z) last).1, grown (Apart y z) last);
    apart =
        subst (λ (fs : List (Fact ℕ)). are_apart fs y z ≡ true) (sym (facts_are (Apart y z) last))
        (apart_last (facts_in last.front) y z);
  }
  lookable (Same y z) last =
      looked_at y (node_count_from w.first (facts_in last.front)) (on (Same y z) last).0 (grown (Same y z) last)

  -- where the last fact makes no plain clash there is none
  none_by : (f : Fact ℕ) (last : IsLast w s.entries f) → NoClashByFact w (facts_in last.front ++ f ∷ []) f
      → ¬ IsPlainClash w.first (below_of w) w.table (facts_in last.front ++ f ∷ [])
  none_by (Has x c) last free clash =
      free.none
      ((concept_clashes w.first (below_of w) w.table (facts_in last.front) x c (on (Has x c) last) last.none).0 clash)
  none_by (Edge r x y) last free clash =
      let lt = ltb-true y w.first last.no_node in
      let ends : y < node_count_from w.first (facts_in last.front) =
      omega (arith, lt, first_le w.first (facts_in last.front)) in
      free.none
      ((edge_clashes w.first (below_of w) w.table (facts_in last.front) r x y (on (Edge r x y) last).0 ends last.none).0
      clash)
  none_by (Apart y z) last free clash =
      free.none
      ((apart_clashes w.first (below_of w) w.table (facts_in last.front) y z (on (Apart y z) last).0
      (on (Apart y z) last).1 last.none).0
      clash)
  none_by (Same y z) last free clash =
      free.none
      ((join_clashes w.first (below_of w) w.table (facts_in last.front) y z (on (Same y z) last).0
      (on (Same y z) last).1 last.none).0
      clash)

  pub no_clash : (f : Fact ℕ) (last : IsLast w s.entries f) → NoClashByFact w (facts_in s.entries) f
      → ¬ IsPlainClash w.first (below_of w) w.table (facts_in s.entries)
  no_clash f last free =
      let e = facts_are f last in
      subst (λ (fs : List (Fact ℕ)). ¬ IsPlainClash w.first (below_of w) w.table fs) (sym e)
      (none_by f last (subst (λ (fs : List (Fact ℕ)). NoClashByFact w fs f) e free))

  -- the clash that was looked for is that of the trail
  pub clash_known : (f : Fact ℕ) (last : IsLast w s.entries f) (found : Option Clash)
      → MatchOption found (NoClashByFact w (facts_in s.entries) f) (IsShown w (facts_in s.entries))
      → IsClashOf w (facts_in s.entries) found
  clash_known f last None h = no_clash f last h
  clash_known f last (Some clash) h = h

  pub looked : (f : Fact ℕ) (last : IsLast w s.entries f) (found : Option Clash)
      → MatchOption found (NoClashByFact w (facts_in s.entries) f) (IsShown w (facts_in s.entries))
      → IsSearching w (record s { clash = found })
  looked f last found h = record {
    standing = record {
      asked = st.asked;
      first_is = st.first_is;
      follows = st.follows;
      blocks = st.blocks;
      places = st.places;
      from = st.from;
      from_is = st.from_is;
      traced = st.traced;
      are_marks = st.are_marks;
      grounded = st.grounded;
      fit = st.fit;
    };
    clash = clash_known f last found h;
  }

-- Beginnings serve other searches.
use Rattle.std.proofs.Common.{◌≡◌, ℕ, ◌&&◌, ◌||◌, ◌⊎◌, not, eqb, Bool, true, false, List, [], ◌∷◌, ◌++◌}
use Rattle.std.proofs.Common.{length, take, drop, cond, refl, ap, ◌∙◌, sym, subst, arith, inl, inr, eq-eqb}
use Rattle.std.specs.List.{All}
use Rattle.std.proofs.lemmas.Bool.{cases_Bool, and_parts, and_from, or_cases, or_parts, eqb-true, not-true}
use Rattle.std.proofs.lemmas.Bool.{false_from_ne_true}
use Rattle.std.proofs.lemmas.List.{append_assoc, append-nil, take-append-drop}
use Rattle.std.proofs.lemmas.List.Elements.{All-cons, All-nil}
use Rattle.shq_terms.specs.declared.axioms.On.TheVariants.{Any}
use Rattle.shq_terms.specs.declared.axioms.Query.{Query}
use Rattle.calculus_specs.specs.Rows.{Row}
use Rattle.calculus_specs.specs.Rules.{Question}
use Rattle.calculus_specs.specs.Shape.{Shape, shape_of, IsTable}
use Rattle.calculus_specs.specs.Shape.Shape.{top, bottom, name, not_name}
use Rattle.calculus_specs.specs.declared.facts.Fact.{Fact}
use Rattle.calculus_specs.specs.declared.facts.Fact.TheVariants.{Has, Edge, Apart, Same}
use Rattle.calculus_specs.specs.State.{has}
use Rattle.closed_search.specs.Theory.{node_in_question, question_in}
use Rattle.tableau_specs.specs.declared.Item.{Item}
use Rattle.tableau_specs.specs.Items.{facts_of}
use Rattle.tableau_specs.specs.Clash.IsPlainClash.{plain_bottom, plain_names, plain_most, plain_differ}
use Rattle.tableau_specs.specs.Steps.{SearchContext, below_of, HasPlainClash}
use Rattle.tableau_specs.specs.Reached.{start, Follows}
use Rattle.tableau_specs.proofs.Listed.{listed}
use Rattle.tableau_specs.proofs.PlainClash.{successor_has_edge, filled_are_successors}
use Rattle.search_laws.specs.Runs.{IsRun, was_ever, puts_at}
use Rattle.search_laws.specs.BeginningLaws.{asks_for_nodes, ParentsHaveMore, IsBeginning}
use Rattle.search_laws.proofs.Beginning.{one_beginning_runs_on}
use Rattle.search_laws.proofs.LongerShapes.{same_shape}
use Rattle.search_laws.proofs.ParentsAsk.{parents_have_asked}
use Rattle.search_laws.proofs.Running.{run_follows}
use Rattle.search_laws.proofs.Start.{follows_begins}
use Rattle.search_laws.proofs.Unnamed.{any_is_unnamed}
use Rattle.search_rules.specs.Limits.{IsInLimit}
use Rattle.search_rules.specs.RuleLists.{RuleLists, IsGrown, AreNumbersOf, numbers_in, context_in}
use Rattle.search_state.specs.Trail.{items_of}
use Rattle.search_state.specs.Progress.{ProgressLists}
use Rattle.search_state.specs.Stepping.{IsBehind}
use Rattle.tableau.specs.Seen.{SeenSets, nothing_known, gives_more, HasNoted, AreOver, AreSeenIn}
use Rattle.tableau.specs.SearchState.{SearchState, is_any, room_for, question_of, context_of, trail_of, IsReachedBy}
use Rattle.tableau.specs.SearchState.{HasRun}
use Rattle.tableau.specs.Beginning.{BeginningLists, anything, question_of_any, context_over, trail_behind_top, Serves}
use Rattle.tableau.specs.Beginning.{can_begin, HasDone, IsSeenBehind, are_opposite, is_bottom, do_clash, can_go_on}
use Rattle.tableau.specs.Inside.{IsKept}
use Rattle.tableau.proofs.Kept.{state, searching_is_kept}
use Rattle.tableau.proofs.Apart.{any_is, ever_more}
use Rattle.tableau.proofs.NotedBehind.{seen_behind, seen_grown, run_listed}

-- ---- rules whose table grows

longer_table : (a b : List Shape) → take (length a) b ≡ a → b ≡ a ++ drop (length a) b
longer_table a b e =
    sym (take-append-drop (length a) b) ∙ ap (λ (t : List Shape). t ++ drop (length a) b) e

-- a beginning serves rules that have grown, too
pub serves_still : (old new : RuleLists) (b : BeginningLists) → IsGrown old new → Serves old b → Serves new b
serves_still old new b g s =
    let between : RuleLists = record old { table = new.table; given = new.given } in
    let same : new ≡ between =
    (λ i. record { ontology = g.ontology i; set = g.set i; table = new.table; filed = g.filed i; given = new.given }) in
    let more = drop (length old.table) new.table in
    let served : Serves between b = record {
      table = s.table;
      more = s.more ++ more;
      grown =
          longer_table old.table new.table g.table ∙ ap (λ (t : List Shape). t ++ more) s.grown
          ∙ append_assoc s.table s.more more;
      is_table = s.is_table;
      is_choice = s.is_choice;
      earlier = s.earlier;
      is_run = s.is_run;
      counted = s.counted;
      says_nothing_there = s.says_nothing_there;
      is_clear = s.is_clear;
      are_over = s.are_over;
      are_seen = s.are_seen;
    } in
    subst (λ (r : RuleLists). Serves r b) (sym same) served

-- ---- what a search has done

-- a run that gave the node in question no more than top
said_nothing : (at : ℕ) (run : List (List Item)) → was_ever (gives_more at) run ≡ false → (c : ℕ)
    → was_ever (puts_at at c) run ≡ true
    → c ≡ 0
said_nothing at run none c put = elim (cases_Bool (eqb c 0)) [
  | inl zero ↦ eqb-true c 0 zero
  | inr other ↦ (let k = ever_more (puts_at at c) (gives_more at) (more other) run put in absurd (cc))
]
  where
    more : eqb c 0 ≡ false → (f : Fact ℕ) → puts_at at c f ≡ true → gives_more at f ≡ true
    more other (Has x d) h =
        let t = and_parts (eqb x at) (eqb d c) h in
        and_from (eqb x at) (not (eqb d 0)) t.0
        (ap (λ (n : ℕ). not (eqb n 0)) (eqb-true d c t.1) ∙ ap not other)
    more other (Edge r x y) h = cc
    more other (Apart x y) h = cc
    more other (Same x y) h = cc

module _ (s : SearchState) (b : BeginningLists) (reached : IsReachedBy s) (run : HasRun s)
    (is_clear : ¬ HasPlainClash (context_of s) (trail_of s)) (can : can_begin s ≡ true)
    (rest_is : b.rest ≡ drop 2 (trail_of s)) (steps_are : b.steps ≡ s.steps)
    (seen_is : b.seen ≡ s.seen) where
  abbrev q : Question
  q = question_of s

  abbrev asks_of_any : Bool
  asks_of_any = is_any s.query.on && (eqb s.sub 0 && eqb s.not_sup 0)

  asked : asks_of_any ≡ true
  asked = (and_parts asks_of_any s.seen.bare can).0

  on_any : s.query.on ≡ Any
  on_any = any_is s.query.on (and_parts (is_any s.query.on) (eqb s.sub 0 && eqb s.not_sup 0) asked).0

  both_top : (eqb s.sub 0 && eqb s.not_sup 0) ≡ true
  both_top = (and_parts (is_any s.query.on) (eqb s.sub 0 && eqb s.not_sup 0) asked).1

  sub_is : s.sub ≡ 0
  sub_is = eqb-true s.sub 0 (and_parts (eqb s.sub 0) (eqb s.not_sup 0) both_top).0

  not_sup_is : s.not_sup ≡ 0
  not_sup_is = eqb-true s.not_sup 0 (and_parts (eqb s.sub 0) (eqb s.not_sup 0) both_top).1

  from_top : IsRun (context_of s) (start q.at 0 0) (trail_of s ∷ run.earlier)
  from_top =
      subst (λ (n : ℕ). IsRun (context_of s) (start q.at 0 n) (trail_of s ∷ run.earlier)) not_sup_is
      (subst (λ (n : ℕ). IsRun (context_of s) (start q.at n s.not_sup) (trail_of s ∷ run.earlier)) sub_is run.is_run)

  splits : trail_of s ≡ start q.at 0 0 ++ b.rest
  splits =
      let h =
      follows_begins (context_of s) q.at 0 0 (length run.earlier) (trail_of s)
      (run_follows q s.rules.table [] (context_of s).rows (start q.at 0 0) (trail_of s) run.earlier from_top) in
      h.1 ∙ ap (λ (is : List Item). start q.at 0 0 ++ is) (sym (rest_is ∙ ap (drop 2) h.1))

  at_is : q.at ≡ (question_of_any s.rules).at
  at_is = ap (node_in_question (length s.rules.ontology.individuals)) on_any

  trail_is : trail_of s ≡ trail_behind_top s.rules b
  trail_is = splits ∙ ap (λ (x : ℕ). start x 0 0 ++ b.rest) at_is

  nothing_there : (c : ℕ) → was_ever (puts_at q.at c) (trail_of s ∷ run.earlier) ≡ true → c ≡ 0
  nothing_there =
      said_nothing q.at (trail_of s ∷ run.earlier) (run.are_seen.bare (and_parts asks_of_any s.seen.bare can).1)

  served : Serves s.rules b
  served = record {
    table = s.rules.table;
    more = [];
    grown = sym (append-nil s.rules.table);
    is_table = reached.is_table;
    is_choice = reached.is_choice;
    earlier = run.earlier;
    is_run =
        subst (λ (x : ℕ). IsRun (context_of s) (start x 0 0) (trail_behind_top s.rules b ∷ run.earlier)) at_is
        (subst (λ (t : List Item). IsRun (context_of s) (start q.at 0 0) (t ∷ run.earlier)) trail_is from_top);
    counted = run.counted ∙ sym steps_are;
    says_nothing_there =
        subst
        (λ (x : ℕ). (c : ℕ) → was_ever (puts_at x c) (trail_behind_top s.rules b ∷ run.earlier) ≡ true → c ≡ 0) at_is
        (subst (λ (t : List Item). (c : ℕ) → was_ever (puts_at q.at c) (t ∷ run.earlier) ≡ true → c ≡ 0) trail_is
        nothing_there);
    is_clear = subst (λ (t : List Item). ¬ HasPlainClash (context_of s) t) trail_is is_clear;
    are_over =
        subst (AreOver (length s.rules.ontology.classes)) (sym seen_is)
        (subst (λ (n : ℕ). AreOver n s.seen) (λ i. room_for (length s.rules.ontology.classes) (on_any i) (not_sup_is i))
        run.are_over);
    are_seen =
        subst (AreSeenIn (question_of_any s.rules).at s.rules.table (trail_behind_top s.rules b ∷ run.earlier))
        (sym seen_is)
        (subst (λ (x : ℕ). AreSeenIn x s.rules.table (trail_behind_top s.rules b ∷ run.earlier) s.seen) at_is
        (subst (λ (t : List Item). AreSeenIn q.at s.rules.table (t ∷ run.earlier) s.seen) trail_is run.are_seen));
  }

  pub has_done : HasDone s b
  has_done = record {
    trail_is = splits ∙ (λ i. start q.at (sym sub_is i) (sym not_sup_is i) ++ b.rest);
    steps_are = steps_are;
    serves = served;
  }

-- ---- a start without a clash

start_has : (at a b x c : ℕ) → has (facts_of (start at a b)) x c ≡ true → (c ≡ 0) ⊎ ((c ≡ a) ⊎ (c ≡ b))
start_has at a b x c h =
    elim (or_cases (eqb c 0) ((eqb at x && eqb a c) || ((eqb at x && eqb b c) || false)) h) [
      | inl none ↦ inl (eqb-true c 0 none)
      | inr held ↦ elim (or_cases (eqb at x && eqb a c) ((eqb at x && eqb b c) || false) held) [
        | inl one ↦ inr (inl (sym (eqb-true a c (and_parts (eqb at x) (eqb a c) one).1)))
        | inr more ↦ elim (or_cases (eqb at x && eqb b c) false more) [
          | inl other ↦ inr (inr (sym (eqb-true b c (and_parts (eqb at x) (eqb b c) other).1)))
          | inr no' ↦ absurd (cc)
        ]
      ]
    ]

module _ (w : SearchContext) (at a b : ℕ) (begins : shape_of w.table 0 ≡ top)
    (apart : do_clash (shape_of w.table a) (shape_of w.table b) ≡ false) where
  abbrev s : Shape
  s = shape_of w.table a

  abbrev t : Shape
  t = shape_of w.table b

  no_bottom : (is_bottom s ≡ false) × (is_bottom t ≡ false)
  no_bottom =
      or_parts (is_bottom s) (is_bottom t)
      (or_parts (is_bottom s || is_bottom t) (are_opposite s t || are_opposite t s) apart).0

  not_opposite : (are_opposite s t ≡ false) × (are_opposite t s ≡ false)
  not_opposite =
      or_parts (are_opposite s t) (are_opposite t s)
      (or_parts (is_bottom s || is_bottom t) (are_opposite s t || are_opposite t s) apart).1

  -- a concept of the start that has a shape is one of the two
  is_one : (x c : ℕ) (u : Shape) → ¬ (top ≡ u) → has (facts_of (start at a b)) x c ≡ true → shape_of w.table c ≡ u
      → (s ≡ u) ⊎ (t ≡ u)
  is_one x c u ne h sh = elim (start_has at a b x c h) [
    | inl none ↦ absurd (ne (sym begins ∙ ap (shape_of w.table) (sym none) ∙ sh))
    | inr given ↦ elim given [
      | inl one ↦ inl (ap (shape_of w.table) (sym one) ∙ sh)
      | inr other ↦ inr (ap (shape_of w.table) (sym other) ∙ sh)
    ]
  ]

  opposite : (n : ℕ) → are_opposite (name n) (not_name n) ≡ true
  opposite n = eq-eqb n n refl

  no_names : (n : ℕ) → (s ≡ name n) ⊎ (t ≡ name n) → (s ≡ not_name n) ⊎ (t ≡ not_name n) → ⊥
  no_names n (inl one) (inl other) = (let k : name n ≡ not_name n = sym one ∙ other in cc)
  no_names n (inl one) (inr other) =
      (let k : are_opposite s t ≡ true = (λ i. are_opposite (one i) (other i)) ∙ opposite n in
      let l = not_opposite.0 in
      cc)
  no_names n (inr one) (inl other) =
      (let k : are_opposite t s ≡ true = (λ i. are_opposite (one i) (other i)) ∙ opposite n in
      let l = not_opposite.1 in
      cc)
  no_names n (inr one) (inr other) = (let k : name n ≡ not_name n = sym one ∙ other in cc)

  pub start_is_clear : ¬ HasPlainClash w (start at a b)
  start_is_clear (plain_bottom x c lt h sh) = elim (is_one x c bottom (λ k. cc) h sh) [
    | inl one ↦ (let k = ap is_bottom one in let l = no_bottom.0 in cc)
    | inr other ↦ (let k = ap is_bottom other in let l = no_bottom.1 in cc)
  ]
  start_is_clear (plain_names x c d n lt h sh g th) =
      no_names n (is_one x c (name n) (λ k. cc) h sh) (is_one x d (not_name n) (λ k. cc) g th)
  start_is_clear (plain_most x c n r e lt h sh many all_apart) =
      let fs = facts_of (start at a b) in
      let next = filled_are_successors w.first (below_of w) fs x r e 0 0 (omega (arith, many)) in
      (let k = successor_has_edge fs (λ u. below_of w u r) x _ next in cc)
  start_is_clear (plain_differ y z lt mt are same) = absurd (cc)

-- ---- going on

asks_down : (table more : List Shape) (c : ℕ) → asks_for_nodes (shape_of (table ++ more) c) ≡ false
    → asks_for_nodes (shape_of table c) ≡ false
asks_down table more c out = false_from_ne_true (asks_for_nodes (shape_of table c)) (λ asks.
    let lt = listed table c (λ k. (let l = ap asks_for_nodes k in cc)) in
    (let k = ap asks_for_nodes (same_shape table more c lt) in cc))

-- the beginning's trails behind another start are a run of as many steps, which ends without a plain clash, and the
-- sets that were noted of it, and the two facts of this start, are those of the run
pub record IsHeld (w : SearchContext) (at sub not_sup : ℕ) (b : BeginningLists) : Type 0 where
  pub before : List (List Item)
  pub is_run : IsRun w (start at sub not_sup) ((start at sub not_sup ++ b.rest) ∷ before)
  pub counted : length before ≡ b.steps
  pub is_clear : ¬ HasPlainClash w (start at sub not_sup ++ b.rest)
  pub are_seen : (s : SeenSets) → HasNoted at w.table (Has at sub ∷ Has at not_sup ∷ []) b.seen s
      → AreSeenIn at w.table ((start at sub not_sup ++ b.rest) ∷ before) s

module _ (rules : RuleLists) (b : BeginningLists) (s : Serves rules b) (tabled : IsTable rules.table)
    (sub not_sup : ℕ) (sub_asks_none : asks_for_nodes (shape_of rules.table sub) ≡ false)
    (not_sup_asks_none : asks_for_nodes (shape_of rules.table not_sup) ≡ false)
    (apart : do_clash (shape_of rules.table sub) (shape_of rules.table not_sup) ≡ false) where
  abbrev any : Question
  any = question_of_any rules

  abbrev rows : List Row
  rows = (context_in rules).rows

  abbrev longer : List Shape
  longer = s.table ++ s.more

  longer_tabled : IsTable longer
  longer_tabled = subst IsTable s.grown tabled

  none_asks : (c : ℕ) → asks_for_nodes (shape_of rules.table c) ≡ false → asks_for_nodes (shape_of s.table c) ≡ false
  none_asks c out =
      asks_down s.table s.more c (subst (λ (t : List Shape). asks_for_nodes (shape_of t c) ≡ false) s.grown out)

  abbrev HaveMore : List Item → Type 0
  HaveMore trail = ParentsHaveMore any.first sub not_sup (facts_of trail)

  have_more : (trail : List Item) (earlier : List (List Item))
      → IsRun (context_over rules s.table) (start any.at 0 0) (trail ∷ earlier) → HaveMore trail
  have_more trail earlier run =
      parents_have_asked (context_over rules s.table) any.at (length earlier) sub not_sup trail (omega arith)
      s.is_table.begins_with_top
      (run_follows any s.table [] rows (start any.at 0 0) trail earlier run) (none_asks sub sub_asks_none)
      (none_asks not_sup not_sup_asks_none)

  all_have_more : (trail : List Item) (earlier : List (List Item))
      → IsRun (context_over rules s.table) (start any.at 0 0) (trail ∷ earlier) → All HaveMore (trail ∷ earlier)
  all_have_more trail [] run = All-cons HaveMore trail [] (have_more trail [] run) (All-nil HaveMore)
  all_have_more trail (before ∷ earlier) run =
      All-cons HaveMore trail (before ∷ earlier) (have_more trail (before ∷ earlier) run)
      (all_have_more before earlier run.1)

  abbrev trail : List Item
  trail = trail_behind_top rules b

  begun : IsBeginning (context_over rules longer) any.at sub not_sup (trail ∷ s.earlier)
  begun = record {
    says_nothing_there = s.says_nothing_there;
    parents_have_more = all_have_more trail s.earlier s.is_run;
    start_is_clear =
        start_is_clear (context_over rules longer) any.at sub not_sup longer_tabled.begins_with_top
        (subst (λ (t : List Shape). do_clash (shape_of t sub) (shape_of t not_sup) ≡ false) s.grown apart);
  }

  held_longer : IsHeld (context_over rules longer) any.at sub not_sup b
  held_longer =
      let unnamed =
      any_is_unnamed (length rules.ontology.individuals) rules.ontology.axioms (numbers_in rules) anything refl in
      let on =
      one_beginning_runs_on any s.table s.more rows sub not_sup trail s.earlier s.is_table s.is_choice (omega arith)
      unnamed s.is_run begun in
      let first = start any.at sub not_sup in
      let same : b.rest ≡ on.rest = ap (drop 2) on.splits in
      record {
        before = on.before;
        is_run =
            subst (λ (is : List Item). IsRun (context_over rules longer) first ((first ++ is) ∷ on.before)) (sym same)
            on.is_run;
        counted = on.counted ∙ s.counted;
        is_clear = λ clash.
            on.clear s.is_clear
            (subst (λ (is : List Item). HasPlainClash (context_over rules longer) (first ++ is)) same clash);
        are_seen = λ seen noted.
            subst (λ (is : List Item). AreSeenIn any.at longer ((first ++ is) ∷ on.before) seen) (sym same)
            (seen_behind any.at longer sub not_sup ((first ++ on.rest) ∷ on.before) (trail ∷ s.earlier) b.seen seen
            longer_tabled.begins_with_top on.puts_same
            (seen_grown any.at s.table s.more (trail ∷ s.earlier) b.seen s.is_table
            (run_listed any s.table rows s.is_table s.is_choice trail s.earlier s.is_run) s.are_seen) noted);
      }

  held : IsHeld (context_in rules) any.at sub not_sup b
  held =
      subst (λ (t : List Shape). IsHeld (context_over rules t) any.at sub not_sup b) (sym s.grown) held_longer

-- the node of which a query asks
abbrev pub asked_at : RuleLists → Query → ℕ
asked_at rules query = (question_in rules.ontology (numbers_in rules) query).at

is_on_any : (rules : RuleLists) (query : Query) (sub not_sup : ℕ) → can_go_on rules query sub not_sup ≡ true
    → is_any query.on ≡ true
is_on_any rules query sub not_sup can =
    let asks =
    not (asks_for_nodes (shape_of rules.table sub)) && not (asks_for_nodes (shape_of rules.table not_sup)) in
    (and_parts (is_any query.on) asks
    (and_parts (is_any query.on && asks) (not (do_clash (shape_of rules.table sub) (shape_of rules.table not_sup)))
    can).0).0

-- what a search for the query goes on from
held_by : (rules : RuleLists) (query : Query) (sub not_sup : ℕ) (b : BeginningLists) → Serves rules b
    → IsTable rules.table → can_go_on rules query sub not_sup ≡ true
    → IsHeld (context_in rules) (asked_at rules query) sub not_sup b
held_by rules query sub not_sup b s tabled can =
    let one = shape_of rules.table sub in
    let other = shape_of rules.table not_sup in
    let asks = not (asks_for_nodes one) && not (asks_for_nodes other) in
    let first = and_parts (is_any query.on && asks) (not (do_clash one other)) can in
    let front = and_parts (is_any query.on) asks first.0 in
    let each = and_parts (not (asks_for_nodes one)) (not (asks_for_nodes other)) front.1 in
    subst (λ (x : ℕ). IsHeld (context_in rules) x sub not_sup b)
    (sym (ap (node_in_question (length rules.ontology.individuals)) (any_is query.on front.0)))
    (held rules b s tabled sub not_sup (not-true (asks_for_nodes one) each.0) (not-true (asks_for_nodes other) each.1)
    (not-true (do_clash one other) first.1))

-- ---- what is noted of it

module _ (rules : RuleLists) (query : Query) (sub not_sup : ℕ) (b : BeginningLists) (serves : Serves rules b)
    (on : is_any query.on ≡ true) (at : ℕ)
    (held : IsHeld (context_in rules) at sub not_sup b) (seen : SeenSets) where
  abbrev count : ℕ
  count = length rules.ontology.classes

  abbrev run : List (List Item)
  run = (start at sub not_sup ++ b.rest) ∷ held.before

  -- the sets are those of the run, and over as many classes as it needs
  pub record AreNotedBehind : Type 0 where
    pub are_over : AreOver (room_for count query.on not_sup) seen
    pub are_seen : AreSeenIn at rules.table run seen
    pub not_apart : seen.tells_apart ≡ false

  noted_all : eqb not_sup 0 ≡ true → HasNoted at rules.table (Has at sub ∷ Has at not_sup ∷ []) b.seen seen
      → seen.tells_apart ≡ false → AreNotedBehind
  noted_all zero noted untold =
      let room : room_for count query.on not_sup ≡ count =
      (λ i. room_for count (any_is query.on on i) (eqb-true not_sup 0 zero i)) in
      record {
        are_over = record {
          node_limit = noted.at_node.limit ∙ serves.are_over.node_limit ∙ sym room;
          complements_limit = noted.complements.limit ∙ serves.are_over.complements_limit ∙ sym room;
        };
        are_seen = held.are_seen seen noted;
        not_apart = untold;
      }

  noted_none : eqb not_sup 0 ≡ false → seen ≡ nothing_known → AreNotedBehind
  noted_none other is =
      let room : room_for count query.on not_sup ≡ 0 =
      ap (λ (t : Bool). cond t count 0) (ap (λ (t : Bool). is_any query.on && t) other ∙ and_no (is_any query.on)) in
      record {
        are_over = record {
          node_limit = ap (λ (t : SeenSets). t.at_node.limit) is ∙ sym room;
          complements_limit = ap (λ (t : SeenSets). t.complements.limit) is ∙ sym room;
        };
        are_seen = record {
          at_node = λ a lt. absurd (omega (arith, lt, ap (λ (t : SeenSets). t.at_node.limit) is));
          complements = λ a lt. absurd (omega (arith, lt, ap (λ (t : SeenSets). t.complements.limit) is));
          bare = λ still. (let k = ap (λ (t : SeenSets). t.bare) is in absurd (cc));
        };
        not_apart = ap (λ (t : SeenSets). t.tells_apart) is;
      }
    where
      and_no : (t : Bool) → (t && false) ≡ false
      and_no true = refl
      and_no false = refl

  noted_behind : (eqb not_sup 0 ≡ true → HasNoted at rules.table (Has at sub ∷ Has at not_sup ∷ []) b.seen seen)
      → (eqb not_sup 0 ≡ false → seen ≡ nothing_known) → seen.tells_apart ≡ false → AreNotedBehind
  noted_behind noted none untold = elim (cases_Bool (eqb not_sup 0)) [
    | inl zero ↦ noted_all zero (noted zero) untold
    | inr other ↦ noted_none other (none other)
  ]

-- what a search keeps that goes on
kept_behind : (rules : RuleLists) (query : Query) (sub not_sup : ℕ) (b : BeginningLists) (p : ProgressLists)
    (seen : SeenSets)
    → IsInLimit rules.ontology query → rules.set.limit ≡ length rules.ontology.axioms
    → AreNumbersOf rules query sub not_sup → (serves : Serves rules b) → IsBehind (context_in rules) b.rest b.steps p
    → p.query ≡ query → p.at ≡ asked_at rules query → p.sub ≡ sub → p.not_sup ≡ not_sup
    → (on : is_any query.on ≡ true) → (held : IsHeld (context_in rules) (asked_at rules query) sub not_sup b)
    → AreNotedBehind rules query sub not_sup b serves on (asked_at rules query) held seen
    → IsKept (state rules query sub not_sup p seen b.steps true false false) p
kept_behind rules query sub not_sup b p seen limit set numbers serves h q at_is s n on held noted =
    let at = asked_at rules query in
    let w = context_in rules in
    let trail : items_of p.entries ≡ start at sub not_sup ++ b.rest =
    h.trail_is ∙ (λ i. start (at_is i) (s i) (n i) ++ b.rest) in
    searching_is_kept rules query sub not_sup p seen b.steps true q at_is h.counted h.is_behind limit set numbers s n
    h.is_searching false false
    (record {
      earlier = held.before;
      is_run =
          subst (λ (t : List Item). IsRun w (start at sub not_sup) (t ∷ held.before)) (sym trail) held.is_run;
      counted = held.counted;
      are_over = noted.are_over;
      are_seen = subst (λ (t : List Item). AreSeenIn at rules.table (t ∷ held.before) seen) (sym trail) noted.are_seen;
      from_nothing = λ begins. (let k : true ≡ false = begins in absurd (cc));
      not_apart = λ is_behind. noted.not_apart;
    })

-- where the parts of a search that goes on are made
module _ (rules : RuleLists) (query : Query) (sub not_sup at : ℕ) (b : BeginningLists) (serves : Serves rules b)
    (tabled : IsTable rules.table) (can : can_go_on rules query sub not_sup ≡ true)
    (at_is : at ≡ asked_at rules query) where
  held_there : IsHeld (context_in rules) (asked_at rules query) sub not_sup b
  held_there = held_by rules query sub not_sup b serves tabled can

  held_at : IsHeld (context_in rules) at sub not_sup b
  held_at = subst (λ (x : ℕ). IsHeld (context_in rules) x sub not_sup b) (sym at_is) held_there

  -- the trail is reached
  pub reached_behind : (rest : List Item) → rest ≡ b.rest
      → Follows (context_in rules) (start at sub not_sup) b.steps (start at sub not_sup ++ rest)
  reached_behind rest rest_is =
      let first = start at sub not_sup in
      subst (λ (is : List Item). Follows (context_in rules) first b.steps (first ++ is)) (sym rest_is)
      (subst (λ (k : ℕ). Follows (context_in rules) first k (first ++ b.rest)) held_at.counted
      (run_follows (question_of_any rules) rules.table [] (context_in rules).rows first (first ++ b.rest) held_at.before
      held_at.is_run))

  -- and has no plain clash
  pub clear_behind : (rest : List Item) → rest ≡ b.rest
      → ¬ HasPlainClash (context_in rules) (start at sub not_sup ++ rest)
  clear_behind rest rest_is clash =
      held_at.is_clear
      (subst (λ (is : List Item). HasPlainClash (context_in rules) (start at sub not_sup ++ is)) rest_is clash)

  -- what the search keeps
  pub behind_is_kept : (p : ProgressLists) (seen : SeenSets) (rest : List Item) → IsInLimit rules.ontology query
      → rules.set.limit ≡ length rules.ontology.axioms → AreNumbersOf rules query sub not_sup → rest ≡ b.rest
      → IsBehind (context_in rules) rest b.steps p → p.query ≡ query → p.at ≡ at → p.sub ≡ sub
      → p.not_sup ≡ not_sup → IsSeenBehind rules.table at sub not_sup b.seen seen
      → IsKept (state rules query sub not_sup p seen b.steps true false false) p
  behind_is_kept p seen rest limit set numbers rest_is h q p_at s n seen_is =
      let there = subst (λ (x : ℕ). IsSeenBehind rules.table x sub not_sup b.seen seen) at_is seen_is in
      let on = is_on_any rules query sub not_sup can in
      kept_behind rules query sub not_sup b p seen limit set numbers serves
      (subst (λ (is : List Item). IsBehind (context_in rules) is b.steps p) rest_is h) q (p_at ∙ at_is) s n on
      held_there
      (noted_behind rules query sub not_sup b serves on (asked_at rules query) held_there seen there.noted
      there.nothing there.not_apart)

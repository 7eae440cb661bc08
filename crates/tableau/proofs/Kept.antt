-- What a search keeps.
use Rattle.std.proofs.Common.{◌≡◌, ℕ, suc, ◌+◌, ◌<◌, Bool, true, false, cond, not, List, [], ◌∷◌, length, refl, sym, ap}
use Rattle.std.proofs.Common.{subst, ◌∙◌, arith, Option, Some, None}
use Rattle.shq_terms.specs.declared.axioms.On.{On}
use Rattle.shq_terms.specs.declared.axioms.On.TheVariants.{Any, Individual}
use Rattle.shq_terms.specs.declared.axioms.Query.{Query}
use Rattle.calculus_specs.specs.Rows.{IsChoice}
use Rattle.std.proofs.lemmas.Bool.{ltb-true, both_ways, false_from_ne_true}
use Rattle.search_rules.specs.Limits.{IsInLimit, is_on_listed}
use Rattle.calculus_specs.specs.Rules.{Question}
use Rattle.closed_search.specs.Theory.{node_in_question, question_in}
use Rattle.closed_search.specs.Back.{step_of}
use Rattle.closed_search.specs.Leaves.{leaves}
use Rattle.closed_search.specs.Noted.{Noted}
use Rattle.closed_search.specs.RefutationLists.{RefutationLists}
use Rattle.tableau_specs.specs.Reached.{start, IsReached, Follows}
use Rattle.tableau_specs.specs.Steps.{SearchContext, IsLegal, IsSaturated, HasClash}
use Rattle.tableau_specs.specs.declared.Item.{Item}
use Rattle.search_state.specs.Entry.{Entry}
use Rattle.search_state.specs.Trail.{items_of, facts_in}
use Rattle.search_laws.specs.Runs.{IsRun, was_ever}
use Rattle.tableau.specs.Seen.{SeenSets, gives_more, AreOver, AreSeenIn, IsToldApart}
use Rattle.search_laws.proofs.Turned.{has_listed}
use Rattle.tableau_specs.specs.Items.{facts_of}
use Rattle.tableau_specs.proofs.Listed.{reached_listed}
use Rattle.calculus_specs.specs.State.{has}
use Rattle.search_rules.specs.RuleLists.{RuleLists, IsReady, AreNumbersOf, numbers_in, theory_in, context_in}
use Rattle.search_state.specs.Progress.{ProgressLists, asked_of, asked_by, IsAsked, IsStanding, IsSearching, HasMoved}
use Rattle.search_state.specs.Stepping.{HasBegun, IsClosed, IsStepped, IsRested, IsSameButBlocks, HasFollowed}
use Rattle.search_state.specs.Followed.{AreFirstBlocks}
use Rattle.search_state.proofs.Followed.{entries_same, followed_first, still_stands, still_searches}
use Rattle.search_state.specs.declared.stepping.Stepped.{Stepped}
use Rattle.search_state.specs.declared.stepping.Stepped.TheVariants.{Closed as StepClosed}
use Rattle.search_state.specs.declared.stepping.Rested.{Rested}
use Rattle.search_state.specs.declared.stepping.Rested.TheVariants.{Closed as RestClosed}
use Rattle.tableau.specs.SearchState.{SearchState, room_for, context_of, trail_of, IsReachedBy, HasRun, IsSameSearch}
use Rattle.tableau.specs.Steps.{Refutes, Stays, IsAtRefutation, IsLost, IsEvent, IsEnd, Runs}
use Rattle.tableau.specs.declared.search.Event.{Event}
use Rattle.tableau.specs.declared.search.Event.TheVariants.{Moved, Saturated, Closed, Lost}
use Rattle.tableau.specs.declared.search.End.{End}
use Rattle.tableau.specs.declared.search.End.TheVariants.{Saturated as RunSaturated, Closed as RunClosed}
use Rattle.tableau.specs.declared.search.End.TheVariants.{Lost as RunLost, Spent}
use Rattle.tableau.specs.Inside.{IsProgressOf, IsKept, IsAtQuestion, IsClosing, HasClosed, IsAdvanced, HasNotedNew}
use Rattle.tableau.specs.Inside.{IsAdvancedElsewhere, IsNotedElsewhere, goes_on_elsewhere, closing_event, closing_end}
use Rattle.tableau.specs.Inside.{end_by, HasToldNew}
use Rattle.tableau.specs.Beginning.{IsIdle, IsEventElsewhere}
use Rattle.tableau.specs.Inside.{HasLost, IsClosedBy, IsNotedAfter, IsSettled, IsHalted, goes_on, is_spent}
use Rattle.tableau.proofs.Reached.{standing_is_reached}
use Rattle.tableau.proofs.Noted.{over_after, seen_after, bare_after}
use Rattle.tableau.proofs.Told.{told_after}

-- what is asked over the axioms of the rules' set
abbrev pub asked : RuleLists → Query → Question
asked rules query = question_in rules.ontology (numbers_in rules) query

abbrev pub state : RuleLists → Query → ℕ → ℕ → ProgressLists → SeenSets → ℕ → Bool → Bool → Bool → SearchState
state rules query sub not_sup p seen steps behind ended failed = record {
  rules = rules;
  query = query;
  sub = sub;
  not_sup = not_sup;
  first = p.first;
  entries = p.entries;
  found_blocks = p.found_blocks;
  seen = seen;
  steps = steps;
  behind = behind;
  ended = ended;
  failed = failed;
}

module _ (rules : RuleLists) (query : Query) (sub not_sup : ℕ) (p : ProgressLists) (seen : SeenSets) (steps : ℕ)
    (behind : Bool) (query_is : p.query ≡ query)
    (at_is : p.at ≡ (asked rules query).at) (steps_is : p.steps ≡ steps)
    (behind_is : p.behind ≡ behind) where
  pub reached_by : IsStanding (context_in rules) p → (ended failed : Bool)
      → IsReachedBy (state rules query sub not_sup p seen steps behind ended failed)
  reached_by h ended failed =
      let w = context_in rules in
      subst (λ (x : ℕ). IsReached (asked_of w query x) w.table w.rows steps (items_of p.entries)) at_is
      (subst (λ (q : Query). IsReached (asked_of w q p.at) w.table w.rows steps (items_of p.entries)) query_is
      (subst (λ (k : ℕ). IsReached (asked_by w p) w.table w.rows k (items_of p.entries)) steps_is
      (standing_is_reached w p h)))

  pub searching_is_kept : IsInLimit rules.ontology query → rules.set.limit ≡ length rules.ontology.axioms
      → AreNumbersOf rules query sub not_sup → p.sub ≡ sub → p.not_sup ≡ not_sup
      → IsSearching (context_in rules) p → (ended failed : Bool)
      → HasRun (state rules query sub not_sup p seen steps behind ended failed)
      → IsKept (state rules query sub not_sup p seen steps behind ended failed) p
  searching_is_kept limit set numbers s n h ended failed run = record {
    in_limit = limit;
    set = set;
    numbers = numbers;
    first_is = λ whole. h.standing.first_is;
    reached = λ whole. reached_by h.standing ended failed;
    has_run = λ whole. run;
    blocks = λ whole. h.standing.blocks;
    progress = λ whole goes. record {
      query = query_is;
      at = at_is;
      sub = s;
      not_sup = n;
      steps = steps_is;
      behind = behind_is;
    };
    searching = λ whole goes. h;
  }

-- what a search for the query needs
pub is_asked : (rules : RuleLists) (query : Query) (sub not_sup : ℕ) → IsReady rules
    → IsChoice (theory_in rules) rules.table (context_in rules).rows → IsInLimit rules.ontology query
    → AreNumbersOf rules query sub not_sup
    → IsAsked (context_in rules) query (asked rules query).at sub not_sup
is_asked rules query sub not_sup ready chosen limit numbers = record {
  is_table = ready.tabled;
  is_choice = chosen;
  is_closed = ready.closed;
  facts_have_numbers = ready.have_numbers query;
  at_first = on_first (length rules.ontology.individuals) query.on limit.on_listed;
  sub_listed = numbers.sub_listed;
  sub_is = numbers.sub_is;
  not_sup_listed = numbers.not_sup_listed;
  not_sup_is = numbers.not_sup_is;
}
  where
    on_first : (k : ℕ) (on : On) → is_on_listed k on ≡ true → node_in_question k on < k + 1
    on_first k Any h = omega arith
    on_first k (Individual a) h =
        let lt = ltb-true a k h in
        subst (λ (b : Bool). cond b a (k + 1) < k + 1) (sym h) (omega (arith, lt))

-- the progress asks of the node that its query asks of
pub is_at_question : (s : SearchState) (p : ProgressLists) → IsProgressOf s p → IsAtQuestion s.rules p
is_at_question s p is =
    is.at ∙ ap (λ (q : Query). node_in_question (length s.rules.ontology.individuals) q.on) (sym is.query)

pub begun_is_kept : (rules : RuleLists) (query : Query) (sub not_sup : ℕ) (p : ProgressLists) (seen : SeenSets)
    → IsInLimit rules.ontology query → rules.set.limit ≡ length rules.ontology.axioms
    → AreNumbersOf rules query sub not_sup → HasBegun (context_in rules) p → p.query ≡ query
    → p.at ≡ (asked rules query).at → p.sub ≡ sub → p.not_sup ≡ not_sup
    → AreOver (room_for (length rules.ontology.classes) query.on not_sup) seen
    → AreSeenIn (asked rules query).at rules.table (items_of p.entries ∷ []) seen
    → (was_ever (gives_more (asked rules query).at) (items_of p.entries ∷ []) ≡ false → seen.bare ≡ true)
    → IsToldApart (context_in rules).first (asked rules query).at rules.table (items_of p.entries ∷ []) seen
    → IsKept (state rules query sub not_sup p seen 0 false false false) p
begun_is_kept rules query sub not_sup p seen limit set numbers h q at_is s n over seen_is bare told =
    let first : items_of p.entries ≡ start (asked rules query).at sub not_sup =
    h.trail_is ∙ (λ i. start (at_is i) (s i) (n i)) in
    searching_is_kept rules query sub not_sup p seen 0 false q at_is h.no_steps h.from_nothing limit set numbers s n
    h.is_searching false false
    (record {
      earlier = [];
      is_run = first;
      counted = refl;
      are_over = over;
      are_seen = seen_is;
      from_nothing = λ begins. record { bare = bare; told_apart = told };
      not_apart = λ is_behind. (let k : false ≡ true = is_behind in absurd (cc));
    })

-- ---- closing

pub closing_from : (rules : RuleLists) (old mid : ProgressLists) → IsInLimit rules.ontology old.query
    → rules.set.limit ≡ length rules.ontology.axioms → IsAtQuestion rules old → IsSearching (context_in rules) old
    → IsClosed (context_in rules) old mid → IsClosing rules mid
closing_from rules old mid limit set at searching h =
    let w = context_in rules in
    let same = h.same in
    record {
      in_limit = subst (λ (q : Query). IsInLimit rules.ontology q) (sym same.query) limit;
      set = set;
      asked =
          subst (λ (n : ℕ). IsAsked w mid.query mid.at mid.sub n) (sym same.not_sup)
          (subst (λ (n : ℕ). IsAsked w mid.query mid.at n old.not_sup) (sym same.sub)
          (subst (λ (n : ℕ). IsAsked w mid.query n old.sub old.not_sup) (sym same.at)
          (subst (λ (q : Query). IsAsked w q old.at old.sub old.not_sup) (sym same.query) searching.standing.asked)));
      at_is =
          same.at ∙ at ∙ ap (λ (q : Query). node_in_question (length rules.ontology.individuals) q.on) (sym same.query);
      closes = λ from_nothing.
          subst (λ (n : Noted). leaves (step_of (asked_by w mid) rules.table) (n ∷ []) mid.trace.lines ≡ Some [])
          (h.from_is from_nothing) h.closes;
      fit = h.fit;
    }

pub step_closing : (rules : RuleLists) (old mid : ProgressLists) → IsInLimit rules.ontology old.query
    → rules.set.limit ≡ length rules.ontology.axioms → IsAtQuestion rules old → IsSearching (context_in rules) old
    → (s : Stepped) → s ≡ StepClosed → IsStepped (context_in rules) old mid s → IsClosing rules mid
step_closing rules old mid limit set at searching s is h =
    closing_from rules old mid limit set at searching (subst (IsStepped (context_in rules) old mid) is h)

pub rest_closing : (rules : RuleLists) (old mid : ProgressLists) → IsInLimit rules.ontology old.query
    → rules.set.limit ≡ length rules.ontology.axioms → IsAtQuestion rules old → IsSearching (context_in rules) old
    → (s : Rested) → s ≡ RestClosed → IsRested (context_in rules) old mid s → IsClosing rules mid
rest_closing rules old mid limit set at searching s is h =
    closing_from rules old mid limit set at searching (subst (IsRested (context_in rules) old mid) is h)

has_closed : (rules : RuleLists) (old mid new : ProgressLists) (r : RefutationLists)
    → IsClosed (context_in rules) old mid → IsClosedBy rules mid new (Some r) → HasClosed rules r old new
has_closed rules old mid new r h by' =
    subst (λ (p : ProgressLists). HasClosed rules r old p) (sym by'.0) (record {
      entries = h.entries;
      first = h.same.first;
      blocks = h.blocks;
      steps = h.steps;
      has_clash = h.has_clash;
      refutes = subst (λ (q : Query). Refutes rules q r) h.same.query by'.1;
    })

has_lost : (rules : RuleLists) (old mid new : ProgressLists) → IsClosed (context_in rules) old mid
    → IsClosedBy rules mid new None → HasLost rules old new
has_lost rules old mid new h by' =
    subst (HasLost rules old) (sym by'.0) (record {
      entries = h.entries;
      first = h.same.first;
      blocks = h.blocks;
      steps = h.steps;
      has_clash = h.has_clash;
      is_behind = sym h.same.behind ∙ by'.1;
    })

-- what closes everything, by what closing came to
closed_event : (rules : RuleLists) (old mid new : ProgressLists) (found : Option RefutationLists)
    → IsClosed (context_in rules) old mid → IsClosedBy rules mid new found
    → IsAdvanced rules old new (closing_event found)
closed_event rules old mid new (Some r) h by' = has_closed rules old mid new r h by'
closed_event rules old mid new None h by' = has_lost rules old mid new h by'

pub step_closed : (rules : RuleLists) (old mid new : ProgressLists) (s : Stepped) (found : Option RefutationLists)
    (e : Event) → s ≡ StepClosed → IsStepped (context_in rules) old mid s → IsClosedBy rules mid new found
    → e ≡ closing_event found
    → IsAdvanced rules old new e
step_closed rules old mid new s found e is h by' e_is =
    subst (IsAdvanced rules old new) (sym e_is)
    (closed_event rules old mid new found (subst (IsStepped (context_in rules) old mid) is h) by')

pub rest_closed : (rules : RuleLists) (old mid new : ProgressLists) (s : Rested) (found : Option RefutationLists)
    (e : End) → s ≡ RestClosed → IsRested (context_in rules) old mid s → IsClosedBy rules mid new found
    → e ≡ closing_end found
    → IsSettled rules old new e
rest_closed rules old mid new s found e is h by' e_is =
    subst (IsSettled rules old new) (sym e_is)
    (closed found (subst (IsRested (context_in rules) old mid) is h) by')
  where
    closed : (found : Option RefutationLists) → IsClosed (context_in rules) old mid → IsClosedBy rules mid new found
        → IsSettled rules old new (closing_end found)
    closed (Some r) h by' = has_closed rules old mid new r h by'
    closed None h by' = has_lost rules old mid new h by'

-- nothing is noted then
pub closed_noted : (rules : RuleLists) (old new : ProgressLists) (seen : SeenSets) (found : Option RefutationLists)
    (e : Event) → e ≡ closing_event found → IsNotedAfter rules old new seen seen e
closed_noted rules old new seen found e e_is =
    subst (IsNotedAfter rules old new seen seen) (sym e_is) (none found)
  where
    none : (found : Option RefutationLists) → IsNotedAfter rules old new seen seen (closing_event found)
    none (Some r) = refl
    none None = refl

-- ---- blocks

pub advanced_first : (rules : RuleLists) (old new : ProgressLists) (e : Event) → IsAdvanced rules old new e
    → AreFirstBlocks new.first (facts_in new.entries) new.found_blocks
advanced_first rules old new Moved h = h.1.standing.blocks
advanced_first rules old new Saturated h = followed_first old new h.0
advanced_first rules old new (Closed r) h = h.blocks
advanced_first rules old new Lost h = h.blocks

pub settled_first : (rules : RuleLists) (old new : ProgressLists) (e : End) → IsSettled rules old new e
    → AreFirstBlocks new.first (facts_in new.entries) new.found_blocks
settled_first rules old new Spent h = h.1.standing.blocks
settled_first rules old new RunSaturated h = followed_first old new h.0
settled_first rules old new (RunClosed r) h = h.blocks
settled_first rules old new RunLost h = h.blocks

-- a step, or a look for one, after which the blocks of all nodes were found
module _ (rules : RuleLists) (old mid new : ProgressLists) (h : HasFollowed mid new)
    (first : AreFirstBlocks new.first (facts_in new.entries) new.found_blocks) where
  abbrev w : SearchContext
  w = context_in rules

  entries_are : new.entries ≡ mid.entries
  entries_are = entries_same mid new h.same

  steps_are : new.steps ≡ mid.steps
  steps_are = ap (λ (q : ProgressLists). q.steps) h.same

  still_same : IsSameButBlocks old mid → IsSameButBlocks old new
  still_same same = h.same ∙ ap (λ (q : ProgressLists). record q { found_blocks = new.found_blocks }) same

  still_saturated : IsSaturated w (items_of mid.entries) → IsSaturated w (items_of new.entries)
  still_saturated saturated = subst (λ (es : List Entry). IsSaturated w (items_of es)) (sym entries_are) saturated

  still_closed : (r : RefutationLists) → HasClosed rules r old mid → HasClosed rules r old new
  still_closed r a = record {
    entries = entries_are ∙ a.entries;
    first = ap (λ (q : ProgressLists). q.first) h.same ∙ a.first;
    blocks = first;
    steps = steps_are ∙ a.steps;
    has_clash = subst (λ (es : List Entry). HasClash w (items_of es)) (sym entries_are) a.has_clash;
    refutes = a.refutes;
  }

  still_lost : HasLost rules old mid → HasLost rules old new
  still_lost a = record {
    entries = entries_are ∙ a.entries;
    first = ap (λ (q : ProgressLists). q.first) h.same ∙ a.first;
    blocks = first;
    steps = steps_are ∙ a.steps;
    has_clash = subst (λ (es : List Entry). HasClash w (items_of es)) (sym entries_are) a.has_clash;
    is_behind = a.is_behind;
  }

  pub followed_advanced : (e : Event) → IsAdvanced rules old mid e → IsAdvanced rules old new e
  followed_advanced Moved a = (
    record {
      same = record {
        query = ap (λ (q : ProgressLists). q.query) h.same ∙ a.0.same.query;
        at = ap (λ (q : ProgressLists). q.at) h.same ∙ a.0.same.at;
        first = ap (λ (q : ProgressLists). q.first) h.same ∙ a.0.same.first;
        sub = ap (λ (q : ProgressLists). q.sub) h.same ∙ a.0.same.sub;
        not_sup = ap (λ (q : ProgressLists). q.not_sup) h.same ∙ a.0.same.not_sup;
        behind = ap (λ (q : ProgressLists). q.behind) h.same ∙ a.0.same.behind;
      };
      standing = still_stands w mid new h.same first a.0.standing;
      is_legal =
          subst (λ (es : List Entry). IsLegal w (items_of old.entries) (items_of es)) (sym entries_are) a.0.is_legal;
      counted = steps_are ∙ a.0.counted;
    },
    still_searches w mid new h.same first a.1,
  )
  followed_advanced Saturated a =
      (record { same = still_same a.0.same; current = h.current }, still_saturated a.1)
  followed_advanced (Closed r) a = still_closed r a
  followed_advanced Lost a = still_lost a

  pub followed_settled : (e : End) → IsSettled rules old mid e → IsSettled rules old new e
  followed_settled Spent a = (
    still_same a.0,
    still_searches w mid new h.same first a.1,
    record {
      next = a.2.next;
      is_legal = subst (λ (es : List Entry). IsLegal w (items_of es) a.2.next) (sym entries_are) a.2.is_legal;
    },
  )
  followed_settled RunSaturated a =
      (record { same = still_same a.0.same; current = h.current }, still_saturated a.1)
  followed_settled (RunClosed r) a = still_closed r a
  followed_settled RunLost a = still_lost a

-- ---- one call

module _ (rules : RuleLists) (query : Query) (sub not_sup : ℕ) (p p' : ProgressLists) (seen seen' : SeenSets)
    (steps steps' : ℕ) (behind ended failed : Bool) where
  abbrev was : SearchState
  was = state rules query sub not_sup p seen steps behind ended failed

  abbrev now : Bool → SearchState
  now goes = state rules query sub not_sup p' seen' steps' behind (not goes) false

  module _ (kept : IsKept was p) (whole : failed ≡ false) (goes_still : ended ≡ false) where
    progress_is : IsProgressOf was p
    progress_is = kept.progress whole goes_still

    same_stays : IsSameButBlocks p p' → steps' ≡ p'.steps → (goes : Bool) → Stays was (now goes)
    same_stays same counts goes = record {
      entries = ap (λ (q : ProgressLists). q.entries) same;
      steps = counts ∙ ap (λ (q : ProgressLists). q.steps) same ∙ progress_is.steps;
    }

    closed_stays : (r : RefutationLists) → HasClosed rules r p p' → steps' ≡ p'.steps → (goes : Bool)
        → Stays was (now goes)
    closed_stays r h counts goes = record { entries = h.entries; steps = counts ∙ h.steps ∙ progress_is.steps }

    refuted : (r : RefutationLists) → HasClosed rules r p p' → (goes : Bool) → goes ≡ false
        → IsAtRefutation r (now goes)
    refuted r h goes is = record {
      has_clash = h.has_clash;
      refutes = subst (λ (q : Query). Refutes rules q r) progress_is.query h.refutes;
      ended = ap not is;
    }

    lost_stays : HasLost rules p p' → steps' ≡ p'.steps → (goes : Bool) → Stays was (now goes)
    lost_stays h counts goes = record { entries = h.entries; steps = counts ∙ h.steps ∙ progress_is.steps }

    lost : HasLost rules p p' → (goes : Bool) → goes ≡ false → IsLost (now goes)
    lost h goes is =
        record { has_clash = h.has_clash; is_behind = sym progress_is.behind ∙ h.is_behind; ended = ap not is }

    pub event_is : (e : Event) → IsAdvanced rules p p' e → steps' ≡ p'.steps → (goes : Bool) → goes ≡ goes_on e
        → IsEvent was (now goes) e
    event_is Moved h counts goes is = record {
      is_legal = h.0.is_legal;
      counted = counts ∙ h.0.counted ∙ ap (λ (n : ℕ). n + 1) progress_is.steps;
      goes_on = ap not is;
    }
    event_is Saturated h counts goes is =
        (same_stays h.0.same counts goes, record { is_saturated = h.1; is_current = h.0.current; ended = ap not is })
    event_is (Closed r) h counts goes is = (closed_stays r h counts goes, refuted r h goes is)
    event_is Lost h counts goes is = (lost_stays h counts goes, lost h goes is)

    pub end_is : (e : End) → IsSettled rules p p' e → steps' ≡ p'.steps → (goes : Bool) → goes ≡ is_spent e
        → IsHalted was (now goes) e
    end_is Spent h counts goes is = (same_stays h.0 counts goes, ap not is, h.2.next, h.2.is_legal)
    end_is RunSaturated h counts goes is =
        (same_stays h.0.same counts goes, record { is_saturated = h.1; is_current = h.0.current; ended = ap not is })
    end_is (RunClosed r) h counts goes is = (closed_stays r h counts goes, refuted r h goes is)
    end_is RunLost h counts goes is = (lost_stays h counts goes, lost h goes is)

    -- ---- what is kept after it

    -- a trail that stays is reached by the same run
    same_run : p'.entries ≡ p.entries → seen' ≡ seen → steps' ≡ steps → (goes : Bool) → HasRun (now goes)
    same_run entries seen_is steps_is goes =
        let w = context_in rules in
        let run = kept.has_run whole in
        record {
          earlier = run.earlier;
          is_run =
              subst
              (λ (es : List Entry). IsRun w (start (asked rules query).at sub not_sup) (items_of es ∷ run.earlier))
              (sym entries) run.is_run;
          counted = run.counted ∙ sym steps_is;
          are_over =
              subst (AreOver (room_for (length rules.ontology.classes) query.on not_sup)) (sym seen_is) run.are_over;
          are_seen =
              subst
              (λ (es : List Entry). AreSeenIn (asked rules query).at rules.table (items_of es ∷ run.earlier) seen')
              (sym entries)
              (subst (AreSeenIn (asked rules query).at rules.table (items_of p.entries ∷ run.earlier)) (sym seen_is)
              run.are_seen);
          from_nothing = λ begins.
              let noted = run.from_nothing begins in
              record {
                bare = λ none.
                    ap (λ (u : SeenSets). u.bare) seen_is
                    ∙ noted.bare
                    (subst
                    (λ (es : List Entry).
                    was_ever (gives_more (asked rules query).at) (items_of es ∷ run.earlier) ≡ false)
                    entries none);
                told_apart =
                    subst
                    (λ (es : List Entry).
                    IsToldApart w.first (asked rules query).at rules.table (items_of es ∷ run.earlier) seen')
                    (sym entries)
                    (subst (IsToldApart w.first (asked rules query).at rules.table (items_of p.entries ∷ run.earlier))
                    (sym seen_is) noted.told_apart);
              };
          not_apart = λ is_behind. ap (λ (u : SeenSets). u.tells_apart) seen_is ∙ run.not_apart is_behind;
        }

    stays_kept : p'.entries ≡ p.entries → p'.first ≡ p.first
        → AreFirstBlocks p'.first (facts_in p'.entries) p'.found_blocks
        → seen' ≡ seen → steps' ≡ steps → (goes : Bool) → goes ≡ false → IsKept (now goes) p'
    stays_kept entries first_is first seen_is steps_is goes stops =
        let w = context_in rules in
        record {
          in_limit = kept.in_limit;
          set = kept.set;
          numbers = kept.numbers;
          first_is = λ still. first_is ∙ kept.first_is whole;
          reached = λ still.
              subst (λ (es : List Entry). IsReached (asked rules query) w.table w.rows steps' (items_of es))
              (sym entries)
              (subst (λ (k : ℕ). IsReached (asked rules query) w.table w.rows k (items_of p.entries)) (sym steps_is)
              (kept.reached whole));
          has_run = λ still. same_run entries seen_is steps_is goes;
          blocks = λ still. first;
          progress = λ still goes_again. absurd (ended_now goes stops goes_again);
          searching = λ still goes_again. absurd (ended_now goes stops goes_again);
        }
      where
        ended_now : (goes : Bool) → goes ≡ false → ¬ (not goes ≡ false)
        ended_now true e h = cc
        ended_now false e h = cc

    -- nothing was done but to find blocks
    rested_kept : IsSameButBlocks p p' → IsSearching (context_in rules) p' → seen' ≡ seen → steps' ≡ steps
        → (goes : Bool) → IsKept (now goes) p'
    rested_kept same h seen_is steps_is goes =
        let is = progress_is in
        searching_is_kept rules query sub not_sup p' seen' steps' behind
        (ap (λ (q : ProgressLists). q.query) same ∙ is.query)
        (ap (λ (q : ProgressLists). q.at) same ∙ is.at)
        (ap (λ (q : ProgressLists). q.steps) same ∙ is.steps ∙ sym steps_is)
        (ap (λ (q : ProgressLists). q.behind) same ∙ is.behind) kept.in_limit kept.set kept.numbers
        (ap (λ (q : ProgressLists). q.sub) same ∙ is.sub)
        (ap (λ (q : ProgressLists). q.not_sup) same ∙ is.not_sup) h (not goes) false
        (same_run (ap (λ (q : ProgressLists). q.entries) same) seen_is steps_is goes)

    -- what its nodes have is in the table
    listed : (p : ProgressLists) → IsSearching (context_in rules) p → (x c : ℕ)
        → has (facts_of (items_of p.entries)) x c ≡ true → c < length rules.table
    listed p h =
        let w = context_in rules in
        has_listed (length rules.table) (facts_of (items_of p.entries)) h.standing.asked.is_table.has_top
        (reached_listed (asked_by w p) w.table w.rows p.steps (items_of p.entries)
        (standing_is_reached w p h.standing))

    -- a trail that has moved on
    moved_kept : HasMoved (context_in rules) p p' → IsSearching (context_in rules) p'
        → HasNotedNew rules p.at (length p.entries) p'.entries seen seen'
        → HasToldNew rules p'.first p.at (length p.entries) p'.entries seen seen' → steps' ≡ p'.steps → (goes : Bool)
        → IsKept (now goes) p'
    moved_kept moved h noted told counts goes =
        let is = progress_is in
        let at = (asked rules query).at in
        let first = (context_in rules).first in
        let noted_there : HasNotedNew rules at (length p.entries) p'.entries seen seen' =
        subst (λ (x : ℕ). HasNotedNew rules x (length p.entries) p'.entries seen seen') is.at noted in
        let told_there : HasToldNew rules first at (length p.entries) p'.entries seen seen' =
        subst (λ (n : ℕ). HasToldNew rules n at (length p.entries) p'.entries seen seen') h.standing.first_is
        (subst (λ (x : ℕ). HasToldNew rules p'.first x (length p.entries) p'.entries seen seen') is.at told) in
        let run = kept.has_run whole in
        searching_is_kept rules query sub not_sup p' seen' steps' behind (moved.same.query ∙ is.query)
        (moved.same.at ∙ is.at) (sym counts) (moved.same.behind ∙ is.behind) kept.in_limit kept.set kept.numbers
        (moved.same.sub ∙ is.sub) (moved.same.not_sup ∙ is.not_sup) h
        (not goes) false
        (record {
          earlier = items_of p.entries ∷ run.earlier;
          is_run = (moved.is_legal, run.is_run);
          counted = omega (arith, run.counted, counts, moved.counted, is.steps);
          are_over =
              over_after (room_for (length rules.ontology.classes) query.on not_sup) rules p.at (length p.entries)
              p'.entries seen seen' run.are_over noted;
          are_seen =
              seen_after rules at p.entries p'.entries run.earlier seen seen' moved.is_legal run.are_seen noted_there;
          from_nothing = λ begins.
              let before = run.from_nothing begins in
              record {
                bare = bare_after rules at p.entries p'.entries run.earlier seen seen' noted_there before.bare;
                told_apart =
                    told_after rules first at p.entries p'.entries run.earlier seen seen' (listed p' h) moved.is_legal
                    noted_there told_there before.told_apart;
              };
          not_apart = λ is_behind.
              false_from_ne_true seen'.tells_apart (λ tells.
              both_ways seen.tells_apart (run.not_apart is_behind) (told.before tells));
        })

    pub stepped_kept : (e : Event) → IsAdvanced rules p p' e → IsNotedAfter rules p p' seen seen' e → steps' ≡ p'.steps
        → (goes : Bool) → goes ≡ goes_on e → IsKept (now goes) p'
    stepped_kept Moved h noted counts goes is = moved_kept h.0 h.1 noted.0 noted.1 counts goes
    stepped_kept Saturated h noted counts goes is =
        stays_kept (ap (λ (q : ProgressLists). q.entries) h.0.same) (ap (λ (q : ProgressLists). q.first) h.0.same)
        (followed_first p p' h.0) noted (counts ∙ ap (λ (q : ProgressLists). q.steps) h.0.same ∙ progress_is.steps) goes
        is
    stepped_kept (Closed r) h noted counts goes is =
        stays_kept h.entries h.first h.blocks noted (counts ∙ h.steps ∙ progress_is.steps) goes is
    stepped_kept Lost h noted counts goes is =
        stays_kept h.entries h.first h.blocks noted (counts ∙ h.steps ∙ progress_is.steps) goes is

    pub elsewhere_is : (e : Option Event) → IsAdvancedElsewhere rules p p' e → steps' ≡ p'.steps → (goes : Bool)
        → goes ≡ goes_on_elsewhere e → IsEventElsewhere was (now goes) e
    elsewhere_is (Some e) h counts goes is = event_is e h counts goes is
    elsewhere_is None h counts goes is =
        (same_stays h.same counts goes, record { goes_on = ap not is; is_clear = h.none })

    pub elsewhere_kept : (e : Option Event) → IsAdvancedElsewhere rules p p' e
        → IsNotedElsewhere rules p p' seen seen' e
        → steps' ≡ p'.steps → (goes : Bool) → goes ≡ goes_on_elsewhere e → IsKept (now goes) p'
    elsewhere_kept (Some e) h noted counts goes is = stepped_kept e h noted counts goes is
    elsewhere_kept None h noted counts goes is =
        rested_kept h.same h.searching noted
        (counts ∙ ap (λ (q : ProgressLists). q.steps) h.same ∙ progress_is.steps) goes

    pub settled_kept : (e : End) → IsSettled rules p p' e → seen' ≡ seen → steps' ≡ steps → (goes : Bool)
        → goes ≡ is_spent e → IsKept (now goes) p'
    settled_kept Spent h same counts goes is = rested_kept h.0 h.1 same counts goes
    settled_kept RunSaturated h same counts goes is =
        stays_kept (ap (λ (q : ProgressLists). q.entries) h.0.same) (ap (λ (q : ProgressLists). q.first) h.0.same)
        (followed_first p p' h.0) same counts goes is
    settled_kept (RunClosed r) h same counts goes is = stays_kept h.entries h.first h.blocks same counts goes is
    settled_kept RunLost h same counts goes is = stays_kept h.entries h.first h.blocks same counts goes is

    -- what halts has made no step
    pub halted_steps : (e : End) → IsSettled rules p p' e → p'.steps ≡ steps
    halted_steps Spent h = ap (λ (q : ProgressLists). q.steps) h.0 ∙ progress_is.steps
    halted_steps RunSaturated h = ap (λ (q : ProgressLists). q.steps) h.0.same ∙ progress_is.steps
    halted_steps (RunClosed r) h = h.steps ∙ progress_is.steps
    halted_steps RunLost h = h.steps ∙ progress_is.steps

-- ---- several steps

pub none_run : (s : SearchState) → Runs s s
none_run s = record { count = 0; follows = refl; counted = omega arith }

pub one_more : (a b c : SearchState) → IsSameSearch a b → Runs a b → IsEvent b c Moved → Runs a c
one_more a b c same runs moves = record {
  count = suc runs.count;
  follows = (
    trail_of b,
    runs.follows,
    subst (λ (rules : RuleLists). IsLegal (context_in rules) (trail_of b) (trail_of c)) same.rules moves.is_legal,
  );
  counted = omega (arith, runs.counted, moves.counted);
}

pub stays_run : (a b c : SearchState) → Runs a b → Stays b c → Runs a c
stays_run a b c runs stays = record {
  count = runs.count;
  follows =
      subst (λ (t : List Item). Follows (context_of a) (trail_of a) runs.count t) (sym (ap items_of stays.entries))
      runs.follows;
  counted = stays.steps ∙ runs.counted;
}

pub ends_at_model : (fuel : ℕ) (a b c : SearchState) (e : Event) → e ≡ Saturated → Runs a b → IsEvent b c e
    → IsEnd fuel a c RunSaturated
ends_at_model fuel a b c e is runs h =
    let event : IsEvent b c Saturated = subst (IsEvent b c) is h in (stays_run a b c runs event.0, event.1)

pub ends_at_refutation : (fuel : ℕ) (a b c : SearchState) (r : RefutationLists) (e : Event) → e ≡ Closed r → Runs a b
    → IsEvent b c e → IsEnd fuel a c (RunClosed r)
ends_at_refutation fuel a b c r e is runs h =
    let event : IsEvent b c (Closed r) = subst (IsEvent b c) is h in (stays_run a b c runs event.0, event.1)

pub ends_lost : (fuel : ℕ) (a b c : SearchState) (e : Event) → e ≡ Lost → Runs a b → IsEvent b c e
    → IsEnd fuel a c RunLost
ends_lost fuel a b c e is runs h =
    let event : IsEvent b c Lost = subst (IsEvent b c) is h in (stays_run a b c runs event.0, event.1)

pub moved_event : (b c : SearchState) (e : Event) → e ≡ Moved → IsEvent b c e → IsEvent b c Moved
moved_event b c e is h = subst (IsEvent b c) is h

-- a step by which a run ends
pub event_ends : (fuel : ℕ) (a b c : SearchState) (e : Event) (found : Option End) (end : End) → found ≡ end_by e
    → found ≡ Some end → Runs a b → IsEvent b c e → IsEnd fuel a c end
event_ends fuel a b c e found end by' is runs h =
    ends e (sym by' ∙ is) h
  where
    one : (d f : End) → Some d ≡ Some f → IsEnd fuel a c d → IsEnd fuel a c f
    one d f same k = (let e : d ≡ f = cc in subst (IsEnd fuel a c) e k)

    ends : (e : Event) → end_by e ≡ Some end → IsEvent b c e → IsEnd fuel a c end
    ends Moved same k = cc
    ends Saturated same k = one RunSaturated end same (stays_run a b c runs k.0, k.1)
    ends (Closed r) same k = one (RunClosed r) end same (stays_run a b c runs k.0, k.1)
    ends Lost same k = one RunLost end same (stays_run a b c runs k.0, k.1)

-- and one by which it does not
pub event_moves : (b c : SearchState) (e : Event) (found : Option End) → found ≡ end_by e → found ≡ None
    → IsEvent b c e → IsEvent b c Moved
event_moves b c e found by' is h = moves e (sym by' ∙ is) h
  where
    moves : (e : Event) → end_by e ≡ None → IsEvent b c e → IsEvent b c Moved
    moves Moved same k = k
    moves Saturated same k = cc
    moves (Closed r) same k = cc
    moves Lost same k = cc

-- no step elsewhere is seen
pub elsewhere_idle : (a b c : SearchState) (e : Option Event) → e ≡ None → Runs a b → IsEventElsewhere b c e
    → Runs a c × IsIdle c
elsewhere_idle a b c e is runs h =
    let idle : IsEventElsewhere b c None = subst (IsEventElsewhere b c) is h in (stays_run a b c runs idle.0, idle.1)

-- one is seen
pub elsewhere_event : (b c : SearchState) (e : Option Event) (f : Event) → e ≡ Some f → IsEventElsewhere b c e
    → IsEvent b c f
elsewhere_event b c e f is h = subst (IsEventElsewhere b c) is h

pub run_ends : (fuel : ℕ) (a b c : SearchState) (e : End) → Runs a b → b.steps ≡ a.steps + fuel → IsHalted b c e
    → IsEnd fuel a c e
run_ends fuel a b c Spent runs made h =
    (stays_run a b c runs h.0, record { counted = h.0.steps ∙ made; goes_on = h.1; next = h.2; is_legal = h.3 })
run_ends fuel a b c RunSaturated runs made h = (stays_run a b c runs h.0, h.1)
run_ends fuel a b c (RunClosed r) runs made h = (stays_run a b c runs h.0, h.1)
run_ends fuel a b c RunLost runs made h = (stays_run a b c runs h.0, h.1)

pub same_search : (a b c : SearchState) → IsSameSearch a b → IsSameSearch b c → IsSameSearch a c
same_search a b c h k = record {
  rules = k.rules ∙ h.rules;
  query = k.query ∙ h.query;
  sub = k.sub ∙ h.sub;
  not_sup = k.not_sup ∙ h.not_sup;
  behind = k.behind ∙ h.behind;
}

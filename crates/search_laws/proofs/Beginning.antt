-- A whole run as the beginning of another search.
use Rattle.std.proofs.Common.{◌≡◌, ℕ, suc, ◌<◌, ◌||◌, eqb, true, false, List, [], ◌∷◌, ◌++◌, length, refl, ◌∙◌, subst}
use Rattle.std.proofs.Common.{inl, inr, ap, sym, Some, Bool}
use Rattle.std.specs.List.{list_any, All}
use Rattle.std.proofs.lemmas.List.Elements.{All-head, All-tail}
use Rattle.std.proofs.lemmas.Bool.{or_cases, or_right, eqb-true}
use Rattle.calculus_specs.specs.Shape.{Shape, shape_of, IsTable}
use Rattle.calculus_specs.specs.Rows.{Row, IsChoice}
use Rattle.calculus_specs.specs.Rules.{Question}
use Rattle.calculus_specs.specs.declared.facts.Fact.{Fact}
use Rattle.calculus_specs.specs.declared.facts.Fact.TheVariants.{Has, Edge}
use Rattle.calculus_specs.specs.Joins.{rep}
use Rattle.calculus_specs.specs.State.{parent_from, gives_concept, has, has_edge}
use Rattle.tableau_specs.specs.declared.Item.{Item}
use Rattle.tableau_specs.specs.Items.{facts_of}
use Rattle.tableau_specs.specs.Steps.{IsGiven, IsLegal, HasPlainClash}
use Rattle.tableau_specs.specs.Reached.{start, Follows}
use Rattle.tableau_specs.proofs.Built.{IsBuilt}
use Rattle.tableau_specs.proofs.Legal.{given_on_first}
use Rattle.tableau_specs.proofs.Listed.{ItemListed, facts_listed, follows_listed, start_listed}
use Rattle.tableau_specs.proofs.Reached.{reached_built, successor_is_child, parents_less}
use Rattle.tableau_specs.proofs.TreeShaped.{built_speak}
use Rattle.search_laws.specs.Runs.{IsRun, was_ever, puts_at}
use Rattle.search_laws.specs.ReuseLaws.{IsUnnamed}
use Rattle.search_laws.specs.BeginningLaws.{ParentsHaveMore, IsBeginning, OneBeginningServesMany, OneBeginningRunsOn}
use Rattle.search_laws.specs.BeginningLaws.{asks_for_nodes}
use Rattle.search_laws.proofs.Root.{Avoids, IsRooted, built_rooted, end_is_other}
use Rattle.search_laws.proofs.LongerGiven.{given_avoids, facts_up}
use Rattle.search_laws.proofs.ReuseSetting.{short, long}
use Rattle.search_laws.proofs.Running.{run_follows, ever_now, given_there}
use Rattle.search_laws.proofs.Answering.{choice_up}
use Rattle.search_laws.proofs.FullerStart.{bare_facts}
use Rattle.search_laws.proofs.FullerSteps.{IsBare, plain_down, goes_on}
use Rattle.search_laws.proofs.KeptSteps.{keeping}
use Rattle.search_laws.proofs.ParentsAsk.{asked}

-- ---- what was ever put behind the other start

-- in the first trail
first_puts : (x y : Bool) → ((x || (y || false)) || false) ≡ (x || (y || (false || false)))
first_puts true y = refl
first_puts false true = refl
first_puts false false = refl

-- in one trail more
further_puts : (x y r e : Bool) → ((x || (y || r)) || (x || (y || e))) ≡ (x || (y || (r || e)))
further_puts true y r e = refl
further_puts false true r e = refl
further_puts false false r e = refl

-- a trail behind the start with top alone says nothing of a test that top does not pass but what its rest says
rest_says : (p : Fact ℕ → Bool) (at : ℕ) (trail rest : List Item) → trail ≡ start at 0 0 ++ rest → p (Has at 0) ≡ false
    → list_any p (facts_of trail) ≡ list_any p (facts_of rest)
rest_says p at trail rest splits none =
    ap (λ (is : List Item). list_any p (facts_of is)) splits
    ∙ ap (λ (t : Bool). t || (t || list_any p (facts_of rest))) none

module _ (q : Question) (table more : List Shape) (rows : List Row) (good : IsTable table)
    (fits : IsChoice q.theory table rows) (is_first : q.at < q.first) (unnamed : IsUnnamed q) (a b : ℕ) where
  abbrev IsBegun : List (List Item) → Type 0
  IsBegun run = IsBeginning (long q table more rows) q.at a b run

  begun_before : (trail : List Item) (earlier : List (List Item)) → IsBegun (trail ∷ earlier) → IsBegun earlier
  begun_before trail earlier h = record {
    says_nothing_there = λ c e. h.says_nothing_there c
        (or_right (list_any (puts_at q.at c) (facts_of trail)) (was_ever (puts_at q.at c) earlier) e);
    parents_have_more = All-tail (λ is. ParentsHaveMore q.first a b (facts_of is)) trail earlier h.parents_have_more;
    start_is_clear = h.start_is_clear;
  }

  avoided : (f : Fact ℕ) → IsGiven (short q table more rows) f → Avoids q.at f
  avoided = given_avoids q table rows unnamed

  module _ (rest : List Item) (earlier : List (List Item))
      (run : IsRun (short q table more rows) (start q.at 0 0) ((start q.at 0 0 ++ rest) ∷ earlier))
      (h : IsBegun ((start q.at 0 0 ++ rest) ∷ earlier)) where
    abbrev now : List (Fact ℕ)
    now = bare_facts q.at a b (facts_of rest)

    follows : Follows (short q table more rows) (start q.at 0 0) (length earlier) (start q.at 0 0 ++ rest)
    follows = run_follows q table more rows (start q.at 0 0) (start q.at 0 0 ++ rest) earlier run

    pub items : All (ItemListed (length table)) (start q.at 0 0 ++ rest)
    items =
        follows_listed q table rows good fits (start q.at 0 0) (length earlier) (start q.at 0 0 ++ rest)
        (start_listed (length table) q.at 0 0 good.has_top good.has_top) follows

    built : IsBuilt q.first (IsGiven (short q table more rows)) (start q.at 0 0 ++ rest)
    built =
        reached_built (short q table more rows) q.at 0 0 (length earlier) (start q.at 0 0 ++ rest) is_first follows

    rooted : IsRooted (short q table more rows) q.at is_first avoided now
    rooted = built_rooted (short q table more rows) q.at is_first avoided (start q.at 0 0 ++ rest) built

    only_top : (c : ℕ) → has now q.at c ≡ true → c ≡ 0
    only_top c held =
        elim (or_cases (eqb c 0) (list_any (gives_concept (λ d. eqb d c) (rep now) (rep now q.at)) now) held) [
          | inl z ↦ eqb-true c 0 z
          | inr given ↦
              h.says_nothing_there c
              (ever_now (puts_at q.at c) (start q.at 0 0 ++ rest) earlier
              (given_there q.at c (rep now) (rep now q.at) rooted.stays rooted.alone now given))
        ]

    -- and no node is made below it
    not_parent : (x : ℕ) → ¬ (parent_from q.first now x ≡ Some q.at)
    not_parent x e =
        let kept = keeping (short q table more rows) q.at 0 0 (length earlier) (start q.at 0 0 ++ rest) follows in
        let h' = asked (short q table more rows) q.at 0 0 kept.numbers (start q.at 0 0 ++ rest) kept.grown x q.at e in
        let k = ap (λ (c : ℕ). asks_for_nodes (shape_of table c)) (only_top h'.by h'.holds) in
        let l = h'.asks in
        let m = ap asks_for_nodes good.begins_with_top in
        cc

    have_more : ParentsHaveMore q.first a b now
    have_more =
        All-head (λ is. ParentsHaveMore q.first a b (facts_of is)) (start q.at 0 0 ++ rest) earlier h.parents_have_more

    -- no edge begins at the node in question
    begins : (roles : ℕ → Bool) (x y : ℕ) → has_edge now roles x y ≡ true → ¬ (rep now x ≡ q.at)
    begins roles x y leads e =
        elim (successor_is_child (short q table more rows) q.at 0 0 (length earlier) (start q.at 0 0 ++ rest) is_first
        follows roles x y leads) [
          | inl given ↦
              (avoided (Edge given.role given.begin given.end) given.is_given).0
              (rooted.alone given.begin (given.at_begin ∙ e))
          | inr child ↦
              not_parent (rep now y)
              (child.is_parent ∙ ap (λ (p : ℕ). Some p) (rooted.alone child.up (child.is_joined ∙ e)))
        ]

    pub bare : IsBare q table more a b (facts_of rest)
    bare = record {
      known = facts_listed (length table) (start q.at 0 0 ++ rest) items;
      speaks = built_speak q.first (IsGiven (short q table more rows)) (given_on_first (short q table more rows))
          (start q.at 0 0 ++ rest) built;
      ends = end_is_other (short q table more rows) q.at is_first avoided now rooted;
      begins = begins;
      alone = rooted.alone;
      stays = rooted.stays;
      is_first = is_first;
      only_top = only_top;
      before =
          parents_less (short q table more rows) q.at 0 0 (length earlier) (start q.at 0 0 ++ rest) is_first follows;
      parents_have_more = have_more;
      start_is_clear = h.start_is_clear;
    }

  -- the trail goes on from the start with top alone, and the other search follows with the same rest; its run has the
  -- same trails behind its own start
  record IsFollowed (earlier : List (List Item)) (trail : List Item) : Type 0 where
    rest : List Item
    splits : trail ≡ start q.at 0 0 ++ rest
    follows : Follows (long q table more rows) (start q.at a b) (length earlier) (start q.at a b ++ rest)
    before : List (List Item)
    is_run : IsRun (long q table more rows) (start q.at a b) ((start q.at a b ++ rest) ∷ before)
    counted : length before ≡ length earlier
    puts_same : (p : Fact ℕ → Bool) → p (Has q.at 0) ≡ false
        → was_ever p ((start q.at a b ++ rest) ∷ before)
        ≡ (p (Has q.at a) || (p (Has q.at b) || was_ever p (trail ∷ earlier)))

  -- a clash behind the other start would be one of the beginning
  clear_behind : (rest : List Item) (earlier : List (List Item))
      → IsRun (short q table more rows) (start q.at 0 0) ((start q.at 0 0 ++ rest) ∷ earlier)
      → IsBegun ((start q.at 0 0 ++ rest) ∷ earlier)
      → ¬ HasPlainClash (short q table more rows) (start q.at 0 0 ++ rest)
      → ¬ HasPlainClash (long q table more rows) (start q.at a b ++ rest)
  clear_behind rest earlier run h none clash =
      none (plain_down q table more rows good a b (facts_of rest) (bare rest earlier run h) clash)

  one_more : (before trail : List Item) (earlier : List (List Item)) → IsFollowed earlier before
      → IsRun (short q table more rows) (start q.at 0 0) (trail ∷ before ∷ earlier)
      → IsBegun (trail ∷ before ∷ earlier) → IsFollowed (before ∷ earlier) trail
  one_more before trail earlier f run h =
      let again : IsRun (short q table more rows) (start q.at 0 0) ((start q.at 0 0 ++ f.rest) ∷ earlier) =
      subst (λ (is : List Item). IsRun (short q table more rows) (start q.at 0 0) (is ∷ earlier)) f.splits run.1 in
      let begun : IsBegun ((start q.at 0 0 ++ f.rest) ∷ earlier) =
      subst (λ (is : List Item). IsBegun (is ∷ earlier)) f.splits (begun_before trail (before ∷ earlier) h) in
      let legal = subst (λ (is : List Item). IsLegal (short q table more rows) is trail) f.splits run.0 in
      let t =
      goes_on q table more rows good a b f.rest (bare f.rest earlier again begun) avoided
      (items f.rest earlier again begun) fits trail
      (λ c there. h.says_nothing_there c (ever_now (puts_at q.at c) trail (before ∷ earlier) there))
      (All-head (λ is. ParentsHaveMore q.first a b (facts_of is)) trail (before ∷ earlier) h.parents_have_more)
      legal in
      record {
        rest = t.further;
        splits = t.splits;
        follows = (start q.at a b ++ f.rest, f.follows, t.is_legal);
        before = (start q.at a b ++ f.rest) ∷ f.before;
        is_run = (t.is_legal, f.is_run);
        counted = ap suc f.counted;
        puts_same = λ p none.
            let x = p (Has q.at a) in
            let y = p (Has q.at b) in
            let r = list_any p (facts_of t.further) in
            let e = was_ever p (before ∷ earlier) in
            ap (λ (w : Bool). (x || (y || r)) || w) (f.puts_same p none)
            ∙ further_puts x y r e
            ∙ ap (λ (w : Bool). x || (y || (w || e))) (sym (rest_says p q.at trail t.further t.splits none));
      }

  followed : (trail : List Item) (earlier : List (List Item))
      → IsRun (short q table more rows) (start q.at 0 0) (trail ∷ earlier) → IsBegun (trail ∷ earlier)
      → IsFollowed earlier trail
  followed trail [] run h = record {
    rest = [];
    splits = run;
    follows = refl;
    before = [];
    is_run = refl;
    counted = refl;
    puts_same = λ p none.
        let x = p (Has q.at a) in
        let y = p (Has q.at b) in
        first_puts x y ∙ ap (λ (w : Bool). x || (y || (w || false))) (sym (rest_says p q.at trail [] run none));
  }
  followed trail (before ∷ earlier) run h =
      one_more before trail earlier (followed before earlier run.1 (begun_before trail (before ∷ earlier) h)) run h

pub one_beginning_serves_many : OneBeginningServesMany
one_beginning_serves_many q table more rows a b trail earlier good longer fits have is_first unnamed lt reads mt means
    run h =
    let f = followed q table more rows good fits is_first unnamed a b trail earlier run h in
    record {
      rest = f.rest;
      splits = f.splits;
      reached = record {
        is_table = longer;
        is_choice = choice_up q.theory table more rows fits;
        facts_have_numbers = facts_up q table more rows have;
        at_first = is_first;
        sub_number = a;
        sub_listed = lt;
        sub_reads = reads;
        not_sup_number = b;
        not_sup_listed = mt;
        not_sup_reads = means;
        follows = f.follows;
      };
    }

pub one_beginning_runs_on : OneBeginningRunsOn
one_beginning_runs_on q table more rows a b trail earlier good fits is_first unnamed run h =
    let f = followed q table more rows good fits is_first unnamed a b trail earlier run h in
    record {
      rest = f.rest;
      splits = f.splits;
      before = f.before;
      is_run = f.is_run;
      counted = f.counted;
      puts_same = f.puts_same;
      clear = λ none.
          clear_behind q table more rows good fits is_first unnamed a b f.rest earlier
          (subst (λ (is : List Item). IsRun (short q table more rows) (start q.at 0 0) (is ∷ earlier)) f.splits run)
          (subst (λ (is : List Item). IsBeginning (long q table more rows) q.at a b (is ∷ earlier)) f.splits h)
          (λ clash. none (subst (HasPlainClash (short q table more rows)) (sym f.splits) clash));
    }

-- Whether new nodes have made a plain clash.
use Rattle.std.proofs.Common.{◌≡◌, ℕ, zero, suc, ◌+◌, ◌<◌, eqb, true, List, ◌++◌, Option, Some, None, refl, ap, ◌∙◌}
use Rattle.std.proofs.Common.{sym, subst, arith, eq-eqb}
use Rattle.std.specs.Prelude.{MatchOption}
use Rattle.std.specs.List.{list_any}
use Rattle.std.proofs.lemmas.Bool.{and_from, or_left, or_right}
use Rattle.std.proofs.lemmas.List.Folds.{list_any-append}
use Rattle.calculus_specs.specs.declared.facts.Fact.{Fact}
use Rattle.calculus_specs.specs.declared.facts.Fact.TheVariants.{Has}
use Rattle.calculus_specs.specs.Joins.{rep}
use Rattle.calculus_specs.specs.State.{node_count_from, has, is_given, gives_concept, fresh_facts}
use Rattle.tableau_specs.specs.Clash.{IsPlainClash}
use Rattle.tableau_specs.specs.Steps.{SearchContext, below_of}
use Rattle.tableau_specs.proofs.GenerateLines.{count-fresh}
use Rattle.tableau_specs.proofs.ClashBlock.{block_clashes}
use Rattle.step_agenda.specs.Trail.{facts_in, grounded}
use Rattle.step_finders.specs.declared.clash.Clash.{Clash}
use Rattle.step_finders.specs.declared.make.NewNodes.{NewNodes}
use Rattle.step_finders.specs.Clashing.{IsShown, NoClashByNew}
use Rattle.search_state.specs.Progress.{ProgressLists, IsStanding, IsLastNew, IsClashOf, IsSearching}
use Rattle.search_state.specs.Looking.{IsNewLookable}
use Rattle.search_state.proofs.Entries.{facts-append, facts-grounded}

-- the first of new nodes has their concept
has_new : (fs : List (Fact ℕ)) (x s e first n : ℕ) → 0 < n → has (fs ++ fresh_facts x s e first n) first e ≡ true
has_new fs x s e first zero lt = absurd (omega (arith, lt))
has_new fs x s e first (suc n) lt =
    let new = fresh_facts x s e first (suc n) in
    let gs = fs ++ new in
    let p = gives_concept (λ d. eqb d e) (rep gs) (rep gs first) in
    let here : p (Has first e) ≡ true =
    and_from (eqb (rep gs first) (rep gs first)) (eqb e e) (eq-eqb (rep gs first) (rep gs first) refl)
    (eq-eqb e e refl) in
    or_right (eqb e 0) (is_given (λ d. eqb d e) gs first)
    (list_any-append p fs new ∙ or_right (list_any p fs) (list_any p new) (or_left (p (Has first e)) _ here))

module _ (w : SearchContext) (s : ProgressLists) (st : IsStanding w s) (m : NewNodes) (new : ℕ)
    (last : IsLastNew w s.entries m new) where
  all_facts : facts_in s.entries
      ≡ facts_in last.front
      ++ fresh_facts m.parent m.role m.filler (node_count_from w.first (facts_in last.front)) m.count
  all_facts =
      let fresh = fresh_facts m.parent m.role m.filler (node_count_from w.first (facts_in last.front)) m.count in
      ap facts_in last.splits ∙ facts-append last.front (grounded last.by fresh)
      ∙ ap (λ (fs : List (Fact ℕ)). facts_in last.front ++ fs) (facts-grounded last.by fresh)

  pub new_lookable : IsNewLookable w (facts_in s.entries) m new
  new_lookable =
      let fs = facts_in last.front in
      let count : node_count_from w.first (facts_in s.entries) ≡ node_count_from w.first fs + m.count =
      ap (node_count_from w.first) all_facts ∙ count-fresh w.first fs m.parent m.role m.filler m.count in
      record {
        parent = omega (arith, count, last.is_node);
        is_node = omega (arith, count, last.new_is, last.is_some);
        holds = subst (λ (gs : List (Fact ℕ)). has gs new m.filler ≡ true) (sym all_facts)
            (subst (λ (n : ℕ). has (fs ++ fresh_facts m.parent m.role m.filler (node_count_from w.first fs) m.count) n
            m.filler
            ≡ true)
            (sym last.new_is) (has_new fs m.parent m.role m.filler (node_count_from w.first fs) m.count last.is_some));
      }

  none_new : (NoClashByNew w (facts_in s.entries) m.parent m.role m.filler)
      → ¬ IsPlainClash w.first (below_of w) w.table (facts_in s.entries)
  none_new free =
      let fs = facts_in last.front in
      let all = fs ++ fresh_facts m.parent m.role m.filler (node_count_from w.first fs) m.count in
      let free' : NoClashByNew w all m.parent m.role m.filler =
      subst (λ (gs : List (Fact ℕ)). NoClashByNew w gs m.parent m.role m.filler) all_facts free in
      subst (λ (gs : List (Fact ℕ)). ¬ IsPlainClash w.first (below_of w) w.table gs) (sym all_facts)
      (λ clash. free'.none
      ((block_clashes w.first (below_of w) w.table fs m.parent m.role m.filler m.count st.asked.is_table.begins_with_top
      last.speak last.is_node last.is_some last.none).0
      clash))

  known : (found : Option Clash)
      → MatchOption found (NoClashByNew w (facts_in s.entries) m.parent m.role m.filler)
      (IsShown w (facts_in s.entries))
      → IsClashOf w (facts_in s.entries) found
  known None h = none_new h
  known (Some clash) h = h

  pub new_looked : (found : Option Clash)
      → MatchOption found (NoClashByNew w (facts_in s.entries) m.parent m.role m.filler)
      (IsShown w (facts_in s.entries))
      → IsSearching w (record s { clash = found })
  new_looked found h = record {
    standing = record {
      asked = st.asked;
      first_is = st.first_is;
      follows = st.follows;
      blocks = st.blocks;
      places = st.places;
      from = st.from;
      from_is = st.from_is;
      traced = st.traced;
      are_marks = st.are_marks;
      grounded = st.grounded;
      fit = st.fit;
    };
    clash = known found h;
  }

-- What each kind of step keeps.
use Rattle.std.proofs.Common.{◌≡◌, ℕ, ◌<◌, leb, true, false, List, [], ◌∷◌, ◌++◌, refl, sym, subst, arith}
use Rattle.std.proofs.lemmas.Bool.{and_parts, leb-true}
use Rattle.lane_sieve.specs.Sets.{NumberSet}
use Rattle.calculus_specs.specs.Shape.{Shape, shape_of, is_normal, IsTable}
use Rattle.calculus_specs.specs.Shape.Shape.{top, bottom, name, not_name, intersection, union, some_of, all_of}
use Rattle.calculus_specs.specs.Shape.Shape.{at_least, at_most}
use Rattle.calculus_specs.specs.declared.facts.Fact.{Fact}
use Rattle.calculus_specs.specs.declared.facts.Fact.TheVariants.{Has}
use Rattle.calculus_specs.specs.State.{node_count_from, has, is_so, fresh_facts}
use Rattle.calculus_specs.specs.Line.{Line}
use Rattle.tableau_specs.specs.Items.{facts_of, says}
use Rattle.tableau_specs.specs.Clash.{IsPlainClash}
use Rattle.tableau_specs.specs.Steps.{SearchContext, IsGiven, below_of, Adds, Generates, IsLegal}
use Rattle.tableau_specs.specs.Steps.IsLegal.{add, give, generate}
use Rattle.search_trace.specs.Grounded.{named, is_known_within}
use Rattle.step_agenda.specs.By.{By}
use Rattle.step_agenda.specs.Entry.TheVariants.{Fact as Grounded}
use Rattle.step_agenda.specs.Trail.{facts_in, items_of, grounded}
use Rattle.step_finders.specs.declared.reason.Addition.{Addition}
use Rattle.step_finders.specs.declared.make.NewNodes.{NewNodes}
use Rattle.step_finders.specs.declared.state.Given.{Given}
use Rattle.step_finders.specs.Giving.{IsGiving}
use Rattle.tableau_specs.proofs.TreeShaped.{first_le}
use Rattle.step_finders.specs.Found.{Files}
use Rattle.step_finders.specs.Reasons.{IsAddition}
use Rattle.tableau_specs.proofs.Listed.{listed}
use Rattle.step_finders.specs.Making.{Asks, IsMaking}
use Rattle.step_lines.specs.Serving.{FactsStayGrounded, NewNodesStayGrounded}
use Rattle.search_trace.specs.Trace.{with_line}
use Rattle.search_state.specs.Marked.{marked_in}
use Rattle.search_state.specs.Resting.{RestsAddition, RestsGiven, RestsNewNodes}
use Rattle.search_state.specs.Progress.{ProgressLists, with_nodes, IsStanding, HasMoved}
use Rattle.search_state.proofs.Entries.{facts-items}
use Rattle.search_state.proofs.Holding.{part_itself}
use Rattle.search_state.proofs.Moving.{IsNext, moved, single_kept}

module _ (w : SearchContext) (old : ProgressLists) (st : IsStanding w old) where
  -- what the facts of the entries say, the items say
  pub at_items : (P : List (Fact ℕ) → Type 0) → P (facts_in old.entries) → P (facts_of (items_of old.entries))
  at_items P h = subst P (sym (facts-items old.entries)) h

  pub addition_moves : (files : Files) (a : Addition)
      → ¬ IsPlainClash w.first (below_of w) w.table (facts_in old.entries) → IsAddition w (facts_in old.entries) files a
      → FactsStayGrounded
      → (line : Line) (u : NumberSet) → RestsAddition w old.entries a.node a.concept line u → (by : By) → by.marks ≡ u
      → (new : ProgressLists)
      → IsNext old new (old.entries ++ Grounded (Has a.node a.concept) by ∷ []) (with_line old.trace line u) old.marks
      → HasMoved w old new
  addition_moves files a none is stay line u r by same new n =
      let f : Fact ℕ = Has a.node a.concept in
      let legal : IsLegal w (items_of old.entries) (items_of old.entries ++ says (f ∷ [])) =
      add a.node a.concept (at_items (λ fs. ¬ IsPlainClash w.first (below_of w) w.table fs) none)
      (at_items (λ fs. Adds w fs a.node a.concept) is.adds)
      (at_items (λ fs. has fs a.node a.concept ≡ false) is.lacks) in
      moved w old st.asked st.first_is st.follows new (old.entries ++ grounded by (f ∷ [])) (with_line old.trace line u)
      old.marks
      (single_kept w old st line u r.child (a.node ∷ []) (f ∷ []) by r.resting r.puts r.single same
      (stay w.first u u (marked_in old.entries) f st.grounded (part_itself u) r.resting.knows) legal)
      n

  pub given_moves : (g : Given) → ¬ IsPlainClash w.first (below_of w) w.table (facts_in old.entries)
      → IsGiving w (facts_in old.entries) g → FactsStayGrounded
      → (line : Line) (u : NumberSet) → RestsGiven w old.entries g.fact line u → (by : By) → by.marks ≡ u
      → (new : ProgressLists)
      → IsNext old new (old.entries ++ Grounded g.fact by ∷ []) (with_line old.trace line u) old.marks
      → HasMoved w old new
  given_moves g none is stay line u r by same new n =
      let given : IsGiven w g.fact = record {
        axiom_number = g.«axiom»;
        place = g.place;
        is_there = is.is_given.is_there;
        listed = is.is_given.listed;
        on_first = is.is_given.on_first;
      } in
      let legal : IsLegal w (items_of old.entries) (items_of old.entries ++ says (g.fact ∷ [])) =
      give g.fact (at_items (λ fs. ¬ IsPlainClash w.first (below_of w) w.table fs) none) given
      (at_items (λ fs. is_so fs g.fact ≡ false) is.lacks) in
      moved w old st.asked st.first_is st.follows new (old.entries ++ grounded by (g.fact ∷ []))
      (with_line old.trace line u) old.marks
      (single_kept w old st line u r.child (named g.fact) (g.fact ∷ []) by r.resting r.puts r.single same
      (stay w.first u u (marked_in old.entries) g.fact st.grounded (part_itself u) r.resting.knows) legal)
      n

  pub new_nodes_move : (m : NewNodes) → ¬ IsPlainClash w.first (below_of w) w.table (facts_in old.entries)
      → IsMaking w (facts_in old.entries) m → NewNodesStayGrounded
      → (line : Line) (u : NumberSet) → RestsNewNodes w old.entries m line u → (by : By) → by.marks ≡ u
      → (new : ProgressLists)
      → IsNext old new (with_nodes w.first old.entries m by) (with_line old.trace line u) old.marks → HasMoved w old new
  new_nodes_move m none is stay line u r by same new n =
      let from = node_count_from w.first (facts_in old.entries) in
      let fs : List (Fact ℕ) = fresh_facts m.parent m.role m.filler from m.count in
      let legal : IsLegal w (items_of old.entries) (items_of old.entries ++ says fs) =
      generate fs (at_items (λ gs. ¬ IsPlainClash w.first (below_of w) w.table gs) none)
      (at_items (λ gs. Generates w gs fs) is.generates) in
      let known = (and_parts (is_known_within w.first u (marked_in old.entries) m.parent) true r.resting.knows).0 in
      moved w old st.asked st.first_is st.follows new (old.entries ++ grounded by fs) (with_line old.trace line u)
      old.marks
      (single_kept w old st line u r.child (m.parent ∷ []) fs by r.resting r.puts r.single same
      (stay w.first u (marked_in old.entries) m.parent m.role m.filler from m.count
      (first_le w.first (facts_in old.entries)) st.grounded known)
      legal)
      n

-- at least one node is made
some_by : (w : SearchContext) (m : NewNodes) → IsTable w.table → (sh : Shape) → shape_of w.table m.concept ≡ sh
    → Asks sh m → 0 < m.count
some_by w m good (some_of s e) is a = omega (arith, a.2)
some_by w m good (at_least n s e) is a =
    let lt = listed w.table m.concept (λ top. cc) in
    let h : is_normal w.table (at_least n s e) ≡ true =
    subst (λ (sh : Shape). is_normal w.table sh ≡ true) is (good.are_normal m.concept lt) in
    let two = leb-true 2 n (and_parts (leb 2 n) (leb n 101) h).0 in
    omega (arith, two, a.2)
some_by w m good top is a = absurd a
some_by w m good bottom is a = absurd a
some_by w m good (name c) is a = absurd a
some_by w m good (not_name c) is a = absurd a
some_by w m good (intersection cs) is a = absurd a
some_by w m good (union cs) is a = absurd a
some_by w m good (all_of s e) is a = absurd a
some_by w m good (at_most n s e) is a = absurd a

pub some_are_made : (w : SearchContext) (fs : List (Fact ℕ)) (m : NewNodes) → IsTable w.table → IsMaking w fs m
    → 0 < m.count
some_are_made w fs m good making = some_by w m good (shape_of w.table m.concept) refl making.asks

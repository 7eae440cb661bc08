-- The mark to whose next alternative a search goes back.
use Rattle.std.proofs.Common.{◌≡◌, ℕ, zero, suc, ◌+◌, ◌^◌, ◌<◌, ◌≤◌, true, List, [], ◌∷◌, ◌++◌, length, take, drop}
use Rattle.std.proofs.Common.{reverse, Some, refl, ap, ◌∙◌, sym, subst, arith, append_assoc}
use Rattle.std.specs.Prelude.{slice_get}
use Rattle.std.proofs.lemmas.List.{length-append, length-reverse, reverse-append, take-append-drop, length-take-le}
use Rattle.std.proofs.Math.Seq.{take-append_seam}
use Rattle.lane_sieve.specs.Sets.{NumberSet}
use Rattle.calculus_specs.specs.declared.facts.Fact.{Fact}
use Rattle.calculus_specs.specs.State.{node_count_from}
use Rattle.step_agenda.specs.Entries.{IsFit}
use Rattle.tableau_specs.specs.declared.Choice.{Choice}
use Rattle.tableau_specs.specs.declared.Item.TheVariants.{Mark as Marks}
use Rattle.tableau_specs.specs.Items.{facts_of}
use Rattle.tableau_specs.specs.Clash.{IsPlainClash}
use Rattle.tableau_specs.specs.LineLaws.{IsNumbered}
use Rattle.tableau_specs.specs.StepLaws.{BranchIsOn}
use Rattle.tableau_specs.specs.Steps.{SearchContext, below_of, next_choice, IsAlternative}
use Rattle.tableau_specs.proofs.Reached.{nodes_before}
use Rattle.tableau_specs.proofs.Marks.{reached_before}
use Rattle.step_agenda.specs.By.{By}
use Rattle.step_agenda.specs.Entry.TheVariants.{Fact as Grounded, Mark}
use Rattle.step_agenda.specs.Trail.{facts_in, items_of, IsMarkAt}
use Rattle.step_lines.specs.Serving.{FactsStayGrounded, AlternativesSpeakOfNodes}
use Rattle.step_lines.specs.Kinds.{alternative_count}
use Rattle.search_state.specs.Backing.{IsLatest}
use Rattle.search_state.specs.Progress.{ProgressLists, HasMoved, IsLast}
use Rattle.search_state.specs.Turning.{IsTurning}
use Rattle.search_state.proofs.Entries.{facts-items, facts-marked}
use Rattle.search_state.proofs.Marks.{same_count, marks_left, AreLeft, get-within}
use Rattle.search_state.proofs.Choices.{with_choice, take_items, get_item, turn_moves}
use Rattle.search_state.proofs.Moving.{IsNext}
use Rattle.search_state.proofs.Parts.{alternative_fits}
use Rattle.search_trace.specs.Trail.{makes_no_node}

-- ---- lists

drop_front : {A : Type 0} → (xs ys : List A) → drop (length xs) (xs ++ ys) ≡ ys
drop_front [] ys = refl
drop_front (x ∷ xs) ys = drop_front xs ys

-- where the first n are kept, the latest of the others are dropped of the reversed list
reversed_first : (xs : List ℕ) (n k : ℕ) → length xs ≡ k + n → drop k (reverse xs) ≡ reverse (take n xs)
reversed_first xs n k long =
    let front = take n xs in
    let back = drop n xs in
    let split : reverse xs ≡ reverse back ++ reverse front =
    ap reverse (sym (take-append-drop n xs)) ∙ reverse-append front back in
    let as_long : length (reverse back) ≡ k =
    length-reverse back
    ∙ omega (
      arith,
      long,
      length-append front back,
      ap length (take-append-drop n xs),
      length-take-le n xs (omega (arith, long)),
    ) in
    ap (drop k) split ∙ ap (λ (i : ℕ). drop i (reverse back ++ reverse front)) (sym as_long)
    ∙ drop_front (reverse back) (reverse front)

first_of : {A : Type 0} → {x y : A} → {xs ys : List A} → x ∷ xs ≡ y ∷ ys → x ≡ y
first_of e = cc

-- what is left where something is dropped is within
dropped_within : {A : Type 0} → (xs : List A) (k : ℕ) (y : A) (ys : List A) → drop k xs ≡ y ∷ ys → k < length xs
dropped_within [] zero y ys e = cc
dropped_within [] (suc k) y ys e = cc
dropped_within (x ∷ xs) zero y ys e = omega arith
dropped_within (x ∷ xs) (suc k) y ys e = omega (arith, dropped_within xs k y ys e)

one_choice : {c d : Choice} → Some (Mark c) ≡ Some (Mark d) → c ≡ d
one_choice e = cc

module _ (w : SearchContext) (s : ProgressLists) (mark : ℕ) (marks : NumberSet) (t : IsTurning w s mark marks) where
  -- how many marks there are
  counted : length s.marks ≡ length t.passed + length (t.place ∷ t.older)
  counted =
      same_count w s.entries s.marks (t.passed ++ t.place ∷ t.older) t.are_marks
      ∙ length-append t.passed (t.place ∷ t.older)

  pub marks_within : length s.trace.opens ≤ length s.marks
  marks_within = omega (arith, counted, t.same_count)

  pub marks_some : 0 < length s.trace.opens
  marks_some = omega (arith, t.same_count)

  pub left : AreLeft w s.entries (drop (length t.passed) s.marks) t.place t.older
  left = marks_left w s.entries s.marks t.passed t.place t.older t.are_marks

  module _ (kept : List ℕ) (kept_are : reverse kept ≡ s.marks) where
    kept_left : reverse (take (length s.trace.opens) kept) ≡ left.at ∷ left.older
    kept_left =
        sym (reversed_first kept (length s.trace.opens) (length t.passed)
        (omega (arith, length-reverse kept, ap length kept_are, counted, t.same_count)))
        ∙ ap (drop (length t.passed)) kept_are ∙ left.ats_are

    latest_at : (at : ℕ) → IsLatest kept (length s.trace.opens) at → at ≡ left.at
    latest_at at l = first_of (sym (reverse-append l.before (at ∷ [])) ∙ ap reverse (sym l.are) ∙ kept_left)

  is_mark : IsMarkAt s.entries left.at
  is_mark = record { choice = left.mark.choice; stands = left.mark.stands }

  place_within : left.at ≤ length s.entries
  place_within = omega (arith, get-within s.entries left.at _ left.mark.stands)

  choice_is : (c : Choice) → slice_get s.entries left.at ≡ Some (Mark c) → c ≡ left.mark.choice
  choice_is c e = one_choice (sym e ∙ left.mark.stands)

  pub has_more : left.mark.choice.alternative < alternative_count w.table left.mark.choice.branch
  has_more =
      let n = t.has_next in
      omega (
        arith,
        left.mark.alternatives.count,
        dropped_within left.mark.children left.mark.choice.alternative n.0 n.1 (left.mark.rest ∙ n.2),
      )

  pub is_numbered : IsNumbered w.table left.mark.choice.branch
  is_numbered = left.mark.alternatives.numbered

  -- the number of the next alternative
  is_small : left.mark.choice.alternative + 1 < 2 ^ 32
  is_small = omega (arith, has_more, left.mark.small)

  -- ---- the trail before the mark

  facts_before : facts_of (take left.at (items_of s.entries)) ≡ facts_in (take left.at s.entries)
  facts_before = ap facts_of (sym (take_items left.at s.entries)) ∙ facts-items (take left.at s.entries)

  on : BranchIsOn (node_count_from w.first (facts_in (take left.at s.entries))) left.mark.choice.branch
  on = subst (λ (fs : List (Fact ℕ)). BranchIsOn (node_count_from w.first fs) left.mark.choice.branch) facts_before
      (nodes_before w s.at s.sub s.not_sup s.steps (items_of s.entries) t.asked.at_first t.follows left.at
      (Marks left.mark.choice) (get_item s.entries left.at left.mark.choice left.mark.stands))

  fits : (k : ℕ) (f : Fact ℕ) → IsAlternative w.table left.mark.choice.branch k f
      → IsFit (node_count_from w.first (facts_in (take left.at s.entries))) f
  fits k f a =
      alternative_fits w.table (node_count_from w.first (facts_in (take left.at s.entries))) left.mark.choice.branch k f
      a on

  no_clash_before : ¬ IsPlainClash w.first (below_of w) w.table (facts_in (take left.at s.entries))
  no_clash_before = subst (λ (fs : List (Fact ℕ)). ¬ IsPlainClash w.first (below_of w) w.table fs) facts_before
      (reached_before w s.at s.sub s.not_sup s.steps (items_of s.entries) t.asked.at_first t.follows left.at
      left.mark.choice (get_item s.entries left.at left.mark.choice left.mark.stands))

  front_long : length (take left.at s.entries) ≡ left.at
  front_long = length-take-le left.at s.entries place_within

  front_stays : (c : Choice) (f : Fact ℕ) (by : By)
      → take left.at (with_choice (take left.at s.entries) c f by) ≡ take left.at s.entries
  front_stays c f by =
      let front = take left.at s.entries in
      ap (λ (i : ℕ). take i (with_choice front c f by)) (sym front_long)
      ∙ take-append_seam front (Mark c ∷ Grounded f by ∷ [])

  still_within : (c : Choice) (f : Fact ℕ) (by : By) → left.at ≤ length (with_choice (take left.at s.entries) c f by)
  still_within c f by = omega (arith, front_long, length-append (take left.at s.entries) (Mark c ∷ Grounded f by ∷ []))

  is_last : (c : Choice) (f : Fact ℕ) (by : By) → makes_no_node w.first f ≡ true
      → IsLast w (with_choice (take left.at s.entries) c f by) f
  is_last c f by no_node = let front = take left.at s.entries in record {
    front = front ++ Mark c ∷ [];
    by = by;
    splits = sym (append_assoc front (Mark c ∷ []) (Grounded f by ∷ []));
    no_node = no_node;
    none =
        subst (λ (fs : List (Fact ℕ)). ¬ IsPlainClash w.first (below_of w) w.table fs) (sym (facts-marked front c))
        no_clash_before;
  }

  -- ---- as it is found: the latest of the marks that are kept, and its choice

  module _ (kept : List ℕ) (kept_are : reverse kept ≡ s.marks) (count at : ℕ) (count_is : count ≡ length s.trace.opens)
      (latest : IsLatest kept count at) where
    at_is : at ≡ left.at
    at_is = latest_at kept kept_are at (subst (λ (n : ℕ). IsLatest kept n at) count_is latest)

    kept_is : reverse (take count kept) ≡ left.at ∷ left.older
    kept_is = ap (λ (n : ℕ). reverse (take n kept)) count_is ∙ kept_left kept kept_are

    pub is_marked : IsMarkAt s.entries at
    is_marked = subst (λ (k : ℕ). IsMarkAt s.entries k) (sym at_is) is_mark

    pub at_within : at ≤ length s.entries
    at_within = omega (arith, at_is, place_within)

    pub at_still_within : (c : Choice) (f : Fact ℕ) (by : By) → at ≤ length (with_choice (take at s.entries) c f by)
    at_still_within c f by =
        subst (λ (k : ℕ). k ≤ length (with_choice (take k s.entries) c f by)) (sym at_is) (still_within c f by)

    pub front_at : (c : Choice) (f : Fact ℕ) (by : By)
        → take at (with_choice (take at s.entries) c f by) ≡ take at s.entries
    front_at c f by =
        subst (λ (k : ℕ). take k (with_choice (take k s.entries) c f by) ≡ take k s.entries) (sym at_is)
        (front_stays c f by)

    pub last_at : (c : Choice) (f : Fact ℕ) (by : By) → makes_no_node w.first f ≡ true
        → IsLast w (with_choice (take at s.entries) c f by) f
    last_at c f by no_node =
        subst (λ (k : ℕ). IsLast w (with_choice (take k s.entries) c f by) f) (sym at_is) (is_last c f by no_node)

    module _ (c : Choice) (stands : slice_get s.entries at ≡ Some (Mark c)) where
      c_is : c ≡ left.mark.choice
      c_is = choice_is c (subst (λ (k : ℕ). slice_get s.entries k ≡ Some (Mark c)) at_is stands)

      pub more_at : c.alternative < alternative_count w.table c.branch
      more_at = subst (λ (d : Choice). d.alternative < alternative_count w.table d.branch) (sym c_is) has_more

      pub small_at : c.alternative + 1 < 2 ^ 32
      small_at = subst (λ (d : Choice). d.alternative + 1 < 2 ^ 32) (sym c_is) is_small

      pub numbered_at : IsNumbered w.table c.branch
      numbered_at = subst (λ (d : Choice). IsNumbered w.table d.branch) (sym c_is) is_numbered

      pub fits_at : (f : Fact ℕ) → IsAlternative w.table c.branch (c.alternative + 1) f
          → IsFit (node_count_from w.first (facts_in (take at s.entries))) f
      fits_at f a =
          subst (λ (k : ℕ). IsFit (node_count_from w.first (facts_in (take k s.entries))) f) (sym at_is)
          (fits (c.alternative + 1) f
          (subst (λ (d : Choice). IsAlternative w.table d.branch (c.alternative + 1) f) c_is a))

      pub moves_at : FactsStayGrounded → AlternativesSpeakOfNodes → (f : Fact ℕ)
          → IsAlternative w.table c.branch (c.alternative + 1) f → (by : By) → by.marks ≡ marks
          → (new : ProgressLists)
          → IsNext s new (with_choice (take at s.entries) (next_choice w c) f by) s.trace (reverse (take count kept))
          → HasMoved w s new
      moves_at stay speak f a by same new n =
          turn_moves w s mark marks t left stay speak f
          (subst (λ (d : Choice). IsAlternative w.table d.branch (d.alternative + 1) f) c_is a) by same new
          (subst (λ (ks : List ℕ). IsNext s new
          (with_choice (take left.at s.entries) (next_choice w left.mark.choice) f by) s.trace ks)
          kept_is
          (subst (λ (d : Choice). IsNext s new (with_choice (take left.at s.entries) (next_choice w d) f by) s.trace
          (reverse (take count kept)))
          c_is
          (subst (λ (k : ℕ). IsNext s new (with_choice (take k s.entries) (next_choice w c) f by) s.trace
          (reverse (take count kept)))
          at_is n)))

-- The steps of a search keep its trace honest.
use Rattle.std.proofs.Common.{◌≡◌, ℕ, ◌&&◌, true, false, not, eqb, List, [], ◌∷◌, ◌++◌, map, Option, Some, refl, ap}
use Rattle.std.proofs.Common.{◌∙◌, sym, subst, ℕ, append_assoc, append-nil, inl, inr, arith}
use Rattle.std.specs.List.{list_any, list_all, range_with_len}
use Rattle.std.specs.Option.{option_and_then, option_map}
use Rattle.std.specs.FinSet as sets
use Rattle.std.proofs.lemmas.Bool.{and_parts, and_from, or_cases}
use Rattle.std.proofs.lemmas.List.Folds.{list_all-append}
use Rattle.calculus_specs.specs.Concept.{Concept}
use Rattle.refutation_tree.specs.NumberSets.{NumberSet}
use Rattle.calculus_specs.specs.Normal.{normal_form, negated_form}
use Rattle.calculus_specs.specs.Shape.{Shape}
use Rattle.calculus_specs.specs.Tree.{tree_of}
use Rattle.calculus_specs.specs.Rules.{Question}
use Rattle.calculus_specs.specs.declared.facts.Fact.{Fact}
use Rattle.calculus_specs.specs.declared.facts.Fact.TheVariants.{Has}
use Rattle.search_trace.specs.Premises.{Added, Rule, is_branching, is_single}
use Rattle.search_trace.specs.Leaves.{leaves}
use Rattle.search_trace.specs.Frames.{Frame, began, lines_of, lefts, turned, whole, AreOpen}
use Rattle.search_trace.specs.Noted.{Marked, marked, items, Noted, NotedLine, noted_added, marks_given, start_of}
use Rattle.search_trace.specs.Noted.{rests_on, strip}
use Rattle.search_trace.specs.Among.{IsAmong}
use Rattle.search_trace.specs.Trail.{is_next, RuleHolds, Puts}
use Rattle.search_trace.specs.Back.{Branching, frames_of, RestsWithin, step_of, AreBranchings, Closes}
use Rattle.search_trace.specs.Honest.{Tracing, trace_of, IsHonest, after_line, opened, at_alternative}
use Rattle.search_trace.proofs.Leaves.{leaves_append, trace_leaves, leaves_more}
use Rattle.search_trace.proofs.Trail.{covered_step, covered_child, known_in}
use Rattle.search_trace.proofs.Plain.{items_marked}
use Rattle.tableau_specs.proofs.AddLines.{in_range_below}
use Rattle.search_trace.proofs.GoingBack.{after_singles}

module _ (q : Question) (table : List Shape) (start : Noted) where
  abbrev step : Noted → NotedLine → Option (List Noted)
  step = step_of q table

  -- ---- a line with one child

  pub honest_line : (t : Tracing) → IsHonest q table start t
      → (l : NotedLine) (r : Rule) (a : Added) (new : List (Fact ℕ)) → RuleHolds q table t.facts l r
      → r.children ≡ a ∷ []
      → is_single l.line ≡ true → Puts q.first table a new → IsHonest q table start (after_line t l a new)
  honest_line t h l r a new holds one single puts =
      let g = marks_given l in
      let next =
      and_parts (is_next q.first t.facts a) true (ap (list_all (is_next q.first t.facts)) (sym one) ∙ holds.are_next) in
      let kids =
      covered_step q table t.facts t.now l r h.covers holds
      ∙ ap (λ (added : List Added). Some (map (noted_added g t.now) added)) one in
      record {
        are_open = h.are_open;
        singles =
            list_all-append (λ k. is_single k.line) t.lines (l ∷ [])
            ∙ and_from (list_all (λ k. is_single k.line) t.lines) (is_single l.line && true) h.singles
            (and_from (is_single l.line) true single refl);
        leads =
            leaves_append step t.lines (l ∷ []) (began start (frames_of t.branchings) ∷ []) (t.now ∷ []) h.leads
            ∙ ap (λ (o : Option (List Noted)). option_and_then (λ (left : List Noted). Some left)
            (option_map (λ (kids : List Noted). kids ++ []) o))
            kids;
        covers = covered_child q.first table g t.facts t.now h.covers a new puts next.0;
      }

  -- ---- a line that branches

  no_marks : (bs : List Branching) → RestsWithin bs sets.empty []
  no_marks bs m is h = cc

  pub honest_branching : (t : Tracing) → IsHonest q table start t
      → (l : NotedLine) (r : Rule) (a : Added) (rest : List Added) (new : List (Fact ℕ)) → RuleHolds q table t.facts l r
      → r.children ≡ a ∷ rest
      → is_branching l.line ≡ true → Puts q.first table a new
      → IsHonest q table start (at_alternative (opened t l a rest) t.branchings new)
  honest_branching t h l r a rest new holds several branches puts =
      let g = marks_given l in
      let next =
      and_parts (is_next q.first t.facts a) (list_all (is_next q.first t.facts) rest)
      (ap (list_all (is_next q.first t.facts)) (sym several) ∙ holds.are_next) in
      let kids =
      covered_step q table t.facts t.now l r h.covers holds
      ∙ ap (λ (added : List Added). Some (map (noted_added g t.now) added)) several in
      record {
        are_open = (
          record {
            is_open = record { leads = h.leads; branches = kids; closes = refl };
            branches = branches;
            singles = h.singles;
            gathers = no_marks t.branchings;
            covers = h.covers;
            kid_is = refl;
            left_is = refl;
            taken_is_next = next.0;
            rest_is_next = next.1;
          },
          h.are_open,
        );
        singles = refl;
        leads = refl;
        covers = covered_child q.first table g t.facts t.now h.covers a new puts next.0;
      }

  -- ---- a clash

  pub honest_clash : (t : Tracing) → IsHonest q table start t → (l : NotedLine) (r : Rule)
      → RuleHolds q table t.facts l r → r.children ≡ [] → Closes q table start t.branchings (t.lines ++ l ∷ []) l.marks
  honest_clash t h l r holds none =
      let g = marks_given l in
      let kids =
      covered_step q table t.facts t.now l r h.covers holds
      ∙ ap (λ (added : List Added). Some (map (noted_added g t.now) added)) none in
      record {
        run =
            leaves_append step t.lines (l ∷ []) (began start (frames_of t.branchings) ∷ []) (t.now ∷ []) h.leads
            ∙ ap (λ (o : Option (List Noted)). option_and_then (λ (left : List Noted). Some left)
            (option_map (λ (kids : List Noted). kids ++ []) o))
            kids;
        rests = λ m is rests.
            (let here = sym (after_singles q table m t.lines (l ∷ []) h.singles) ∙ rests in
            (elim (or_cases (not (is_single l.line) && rests_on m l) false here) [
              | inl on ↦ (and_parts (not (is_single l.line)) (rests_on m l) on).1
              | inr nowhere ↦ cc
            ]));
      }

  -- ---- the whole trace

  open_frames : (bs : List Branching) → AreBranchings q table start bs → AreOpen step start (frames_of bs)
  open_frames [] o = tt
  open_frames (b ∷ bs) o = (o.0.is_open, open_frames bs o.1)

  -- the lines of the trace leave the branch that is worked on, and the alternatives that are left
  pub trace_is_open : (t : Tracing) → IsHonest q table start t
      → leaves step (start ∷ []) (trace_of t) ≡ Some (t.now ∷ lefts (frames_of t.branchings))
  trace_is_open t h =
      let fs = frames_of t.branchings in
      leaves_append step (lines_of fs) t.lines (start ∷ []) (began start fs ∷ lefts fs)
      (trace_leaves step start fs (open_frames t.branchings h.are_open))
      ∙ leaves_more step t.lines (began start fs ∷ []) (lefts fs) (t.now ∷ []) h.leads

-- ---- the flat list of lines

module _ (f : Frame Noted NotedLine) (fs : List (Frame Noted NotedLine)) (lines : List NotedLine) where
  -- a branching all whose children are closed: its lines stay
  pub flat_whole : lines_of fs ++ whole f lines ≡ lines_of (f ∷ fs) ++ lines
  flat_whole =
      ap (λ (ls : List NotedLine). lines_of fs ++ ls) (sym (append_assoc f.before (f.branching ∷ f.closed) lines))
      ∙ sym (append_assoc (lines_of fs) (f.before ++ f.branching ∷ f.closed) lines)

  -- the next alternative: the lines stay
  pub flat_turned : (k : Noted) (ks : List Noted) → lines_of (turned f lines k ks ∷ fs) ≡ lines_of (f ∷ fs) ++ lines
  flat_turned k ks = flat_whole

  -- a branching that is taken out: what stands before its line stays, and what of its child does not rest on its mark
  pub flat_stripped : (m : ℕ) → lines_of fs ++ (f.before ++ strip m lines) ≡ (lines_of fs ++ f.before) ++ strip m lines
  flat_stripped m = sym (append_assoc (lines_of fs) f.before (strip m lines))

-- ---- the start

among_marked : (u : NumberSet) (xs : List (Fact Concept)) (ys : List (Fact Concept)) → xs ≡ ys
    → IsAmong (map (marked u) xs) (map (marked u) ys)
among_marked u xs ys e =
    subst (λ (zs : List (Fact Concept)). IsAmong (map (marked u) xs) (map (marked u) zs)) e (λ p h. h)

known_start : (x : ℕ) (xs : List ℕ)
    → list_any (λ y. eqb y x) (items (map (marked sets.empty) xs)) ≡ list_any (λ y. eqb y x) xs
known_start x xs = ap (list_any (λ y. eqb y x)) (items_marked sets.empty xs)

pub honest_start : (q : Question) (table : List Shape) (sub_number not_sup_number : ℕ)
    → tree_of table sub_number ≡ normal_form q.sub → tree_of table not_sup_number ≡ negated_form q.sup
    → IsHonest q table (start_of q)
    (record {
      branchings = [];
      lines = [];
      now = start_of q;
      facts = marked sets.empty (Has q.at sub_number) ∷ marked sets.empty (Has q.at not_sup_number) ∷ [];
    })
honest_start q table sub_number not_sup_number e f = record {
  are_open = tt;
  singles = refl;
  leads = refl;
  covers = record {
    nodes = λ p h. ap (list_any p) (sym (append-nil (map (marked sets.empty) (range_with_len 0 q.first)))) ∙ h;
    facts =
        among_marked sets.empty (Has q.at (tree_of table sub_number) ∷ Has q.at (tree_of table not_sup_number) ∷ [])
        (Has q.at (normal_form q.sub) ∷ Has q.at (negated_form q.sup) ∷ [])
        (ap (λ (c : Concept). Has q.at c ∷ Has q.at (tree_of table not_sup_number) ∷ []) e
        ∙ ap (λ (c : Concept). Has q.at (normal_form q.sub) ∷ Has q.at c ∷ []) f);
    no_more =
        λ x h. (let lt = in_range_below x 0 q.first (sym (known_start x (range_with_len 0 q.first)) ∙ h) in
        omega arith);
    no_less = λ x lt.
        ap (λ (xs : List (Marked ℕ)). list_any (λ y. eqb y x) (items xs))
        (append-nil (map (marked sets.empty) (range_with_len 0 q.first)))
        ∙ known_start x (range_with_len 0 q.first)
        ∙ known_in x 0 q.first (omega arith) (omega (arith, lt));
  };
}

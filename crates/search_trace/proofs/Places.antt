-- Where the open branchings stand in the flat list of lines.
use Rattle.std.proofs.Common.{◌≡◌, ℕ, ◌+◌, ◌<◌, ◌||◌, eqb, Bool, true, false, not, cond, List, [], ◌∷◌, ◌++◌, map}
use Rattle.std.proofs.Common.{length, take, drop, Some, refl, ap, ◌∙◌, sym, subst, arith, inl, inr, eq-eqb}
use Rattle.std.proofs.Common.{append_assoc}
use Rattle.std.specs.List.{list_any, filter}
use Rattle.std.specs.FinSet as sets
use Rattle.std.proofs.lemmas.Bool.{cases_Bool, or_left, ne_eqb}
use Rattle.std.proofs.lemmas.List.{append-nil, length-append}
use Rattle.std.proofs.Math.Seq.{take-append_seam, drop-append_seam}
use Rattle.refutation_tree.specs.NumberSets.{NumberSet}
use Rattle.calculus_specs.specs.Shape.{Shape}
use Rattle.calculus_specs.specs.Rules.{Question}
use Rattle.calculus_specs.specs.Normal.{normal_form, negated_form}
use Rattle.calculus_specs.specs.Tree.{tree_of}
use Rattle.calculus_specs.specs.declared.facts.Fact.{Fact}
use Rattle.calculus_specs.specs.declared.facts.Fact.TheVariants.{Has}
use Rattle.search_trace.specs.Premises.{Added, Rule, is_single, is_branching}
use Rattle.search_trace.specs.Leaves.{leaves}
use Rattle.search_trace.specs.Frames.{lines_of, lefts, whole}
use Rattle.search_trace.specs.Noted.{marked, marks_given, start_of, Noted, NotedLine, rests_on, strip}
use Rattle.search_trace.specs.Trail.{MarkedFact, RuleHolds, Puts}
use Rattle.search_trace.specs.Back.{Branching, frames_of, mark_of, marks_in, turned_branching, step_of, AreBranchings}
use Rattle.search_trace.specs.Back.{Closes}
use Rattle.search_trace.specs.Honest.{after_line, opened, at_alternative}
use Rattle.search_trace.specs.Places.{Place, IsPlaceOf, ArePlaces, opened_place, turned_place, place_marks}
use Rattle.search_trace.specs.Places.{without_place, IsTraced, IsClosing, Ascend, resting, others}
use Rattle.search_trace.proofs.Trail.{covered_child}
use Rattle.search_trace.proofs.GoingBack.{turned_is_honest, whole_is_closed, stripped_is_closed}
use Rattle.search_trace.proofs.Honest.{honest_line, honest_branching, honest_clash, honest_start, trace_is_open}
use Rattle.search_trace.proofs.Honest.{flat_whole}

-- a branching that is taken out of the flat list: what stands before its line stays, and what of its child does not
-- rest on its mark
pub stripped_flat : (bs : List Branching) (b : Branching) (p : Place) (lines : List NotedLine) → IsPlaceOf bs b p
    → without_place p (lines_of (frames_of (b ∷ bs)) ++ lines)
    ≡ lines_of (frames_of bs) ++ (b.frame.before ++ strip (mark_of b) lines)
stripped_flat bs b p lines is =
    let f = b.frame in
    let old = lines_of (frames_of bs) in
    let kid = lines_of (frames_of (b ∷ bs)) in
    let split : kid ++ lines ≡ (old ++ f.before) ++ ((f.branching ∷ f.closed) ++ lines) =
    ap (λ (ls : List NotedLine). ls ++ lines) (sym (append_assoc old f.before (f.branching ∷ f.closed)))
    ∙ append_assoc (old ++ f.before) (f.branching ∷ f.closed) lines in
    let front : take p.at (kid ++ lines) ≡ old ++ f.before =
    ap (λ (n : ℕ). take n (kid ++ lines)) is.at ∙ ap (take (length (old ++ f.before))) split
    ∙ take-append_seam (old ++ f.before) ((f.branching ∷ f.closed) ++ lines) in
    let back : drop p.child (kid ++ lines) ≡ lines =
    ap (λ (n : ℕ). drop n (kid ++ lines)) is.child ∙ drop-append_seam kid lines in
    ap (λ (ls : List NotedLine). ls ++ strip p.mark (drop p.child (kid ++ lines))) front
    ∙ ap (λ (ls : List NotedLine). (old ++ f.before) ++ strip p.mark ls) back
    ∙ ap (λ (m : ℕ). (old ++ f.before) ++ strip m lines) is.mark
    ∙ append_assoc old f.before (strip (mark_of b) lines)

-- ---- the steps of a search

module _ (q : Question) (table : List Shape) (start : Noted) where
  pub traced_line : (lines : List NotedLine) (ps : List Place) (ms : List MarkedFact)
      → IsTraced q table start lines ps ms → (l : NotedLine) (r : Rule) (a : Added) (new : List (Fact ℕ))
      → RuleHolds q table ms l r → r.children ≡ a ∷ [] → is_single l.line ≡ true → Puts q.first table a new
      → IsTraced q table start (lines ++ l ∷ []) ps (ms ++ map (marked (marks_given l)) new)
  traced_line lines ps ms h l r a new holds one single puts =
      let t = h.tracing in
      let here = subst (λ (fs : List MarkedFact). RuleHolds q table fs l r) (sym h.facts_are) holds in
      record {
        tracing = after_line t l a new;
        is_honest = honest_line q table start t h.is_honest l r a new here one single puts;
        lines_are =
            sym (append_assoc (lines_of (frames_of t.branchings)) t.lines (l ∷ []))
            ∙ ap (λ (ls : List NotedLine). ls ++ l ∷ []) h.lines_are;
        are_places = h.are_places;
        facts_are = ap (λ (fs : List MarkedFact). fs ++ map (marked (marks_given l)) new) h.facts_are;
      }

  pub traced_branching : (lines : List NotedLine) (ps : List Place) (ms : List MarkedFact)
      → IsTraced q table start lines ps ms
      → (l : NotedLine) (r : Rule) (a : Added) (rest : List Added) (new : List (Fact ℕ))
      → RuleHolds q table ms l r → r.children ≡ a ∷ rest → is_branching l.line ≡ true → Puts q.first table a new
      → IsTraced q table start (lines ++ l ∷ []) (opened_place lines ms l rest ∷ ps)
      (ms ++ map (marked (marks_given l)) new)
  traced_branching lines ps ms h l r a rest new holds several branches puts =
      let t = h.tracing in
      let here = subst (λ (fs : List MarkedFact). RuleHolds q table fs l r) (sym h.facts_are) holds in
      let old = lines_of (frames_of t.branchings) in
      let flat : old ++ (t.lines ++ l ∷ []) ≡ lines ++ l ∷ [] =
      sym (append_assoc old t.lines (l ∷ [])) ∙ ap (λ (ls : List NotedLine). ls ++ l ∷ []) h.lines_are in
      record {
        tracing = at_alternative (opened t l a rest) t.branchings new;
        is_honest = honest_branching q table start t h.is_honest l r a rest new here several branches puts;
        lines_are = append-nil (old ++ (t.lines ++ l ∷ [])) ∙ flat;
        are_places = (
          record {
            mark = refl;
            at = ap length (sym h.lines_are);
            child = omega (arith, ap length flat, length-append lines (l ∷ []));
            gathered = refl;
            marks = refl;
            facts = sym h.facts_are;
            rest = refl;
          },
          h.are_places,
        );
        facts_are = ap (λ (fs : List MarkedFact). fs ++ map (marked (marks_given l)) new) h.facts_are;
      }

  pub traced_clash : (lines : List NotedLine) (ps : List Place) (ms : List MarkedFact)
      → IsTraced q table start lines ps ms → (l : NotedLine) (r : Rule) → RuleHolds q table ms l r → r.children ≡ []
      → IsClosing q table start (lines ++ l ∷ []) ps l.marks
  traced_clash lines ps ms h l r holds none =
      let t = h.tracing in
      let here = subst (λ (fs : List MarkedFact). RuleHolds q table fs l r) (sym h.facts_are) holds in
      record {
        branchings = t.branchings;
        are_branchings = h.is_honest.are_open;
        last = t.lines ++ l ∷ [];
        closes = honest_clash q table start t h.is_honest l r here none;
        lines_are =
            sym (append_assoc (lines_of (frames_of t.branchings)) t.lines (l ∷ []))
            ∙ ap (λ (ls : List NotedLine). ls ++ l ∷ []) h.lines_are;
        are_places = h.are_places;
      }

  -- ---- the latest branching, where its open child is closed

  -- it is taken out
  stripped_by : (lines : List NotedLine) (p : Place) (ps : List Place) (u : NumberSet) → (bs : List Branching)
      → AreBranchings q table start bs → (last : List NotedLine) → Closes q table start bs last u
      → lines_of (frames_of bs) ++ last ≡ lines → ArePlaces bs (p ∷ ps) → sets.contains u p.mark ≡ false
      → IsClosing q table start (without_place p lines) ps u
  stripped_by lines p ps u [] o last c flat places out = absurd places
  stripped_by lines p ps u (b ∷ bs) o last c flat places out = record {
    branchings = bs;
    are_branchings = o.1;
    last = b.frame.before ++ strip (mark_of b) last;
    closes = stripped_is_closed q table start b bs o.0 last u (ap (sets.contains u) (sym places.0.mark) ∙ out) c;
    lines_are = sym (stripped_flat bs b p last places.0) ∙ ap (without_place p) flat;
    are_places = places.1;
  }

  pub closing_stripped : (lines : List NotedLine) (p : Place) (ps : List Place) (u : NumberSet)
      → IsClosing q table start lines (p ∷ ps) u → sets.contains u p.mark ≡ false
      → IsClosing q table start (without_place p lines) ps u
  closing_stripped lines p ps u h out =
      stripped_by lines p ps u h.branchings h.are_branchings h.last h.closes h.lines_are h.are_places out

  -- it has no alternative left: it is closed
  whole_by : (lines : List NotedLine) (p : Place) (ps : List Place) (u : NumberSet) → (bs : List Branching)
      → AreBranchings q table start bs → (last : List NotedLine) → Closes q table start bs last u
      → lines_of (frames_of bs) ++ last ≡ lines → ArePlaces bs (p ∷ ps) → p.rest ≡ []
      → IsClosing q table start lines ps (place_marks p u)
  whole_by lines p ps u [] o last c flat places none = absurd places
  whole_by lines p ps u (b ∷ bs) o last c flat places none = record {
    branchings = bs;
    are_branchings = o.1;
    last = whole b.frame last;
    closes =
        subst (Closes q table start bs (whole b.frame last))
        (λ i. sets.union (sets.union (sym places.0.gathered i) u) (sym places.0.marks i))
        (whole_is_closed q table start b bs o.0 last u (sym places.0.rest ∙ none) c);
    lines_are = flat_whole b.frame (frames_of bs) last ∙ flat;
    are_places = places.1;
  }

  pub closing_whole : (lines : List NotedLine) (p : Place) (ps : List Place) (u : NumberSet)
      → IsClosing q table start lines (p ∷ ps) u → p.rest ≡ [] → IsClosing q table start lines ps (place_marks p u)
  closing_whole lines p ps u h none =
      whole_by lines p ps u h.branchings h.are_branchings h.last h.closes h.lines_are h.are_places none

  -- it turns to its next alternative
  turned_by : (lines : List NotedLine) (p : Place) (ps : List Place) (u : NumberSet) (a : Added) (rest : List Added)
      (new : List (Fact ℕ))
      → (bs : List Branching) → AreBranchings q table start bs → (last : List NotedLine)
      → Closes q table start bs last u → lines_of (frames_of bs) ++ last ≡ lines → ArePlaces bs (p ∷ ps)
      → p.rest ≡ a ∷ rest → Puts q.first table a new
      → IsTraced q table start lines (turned_place p lines u rest ∷ ps)
      (p.facts ++ map (marked (sets.insert p.marks p.mark)) new)
  turned_by lines p ps u a rest new [] o last c flat places e puts = absurd places
  turned_by lines p ps u a rest new (b ∷ bs) o last c flat places e puts =
      let is = turned_is_honest q table start b bs o.0 last u a rest (sym places.0.rest ∙ e) c in
      let turned_b = turned_branching b last u a rest in
      let same : lines_of (frames_of (turned_b ∷ bs)) ≡ lines = flat_whole b.frame (frames_of bs) last ∙ flat in
      let given : marks_in b ≡ sets.insert p.marks p.mark =
      ap (λ (t : Bool). cond t (sets.insert b.frame.branching.marks (mark_of b)) b.frame.branching.marks) o.0.branches
      ∙ (λ i. sets.insert (sym places.0.marks i) (sym places.0.mark i)) in
      record {
        tracing = at_alternative turned_b bs new;
        is_honest = record {
          are_open = (is, o.1);
          singles = refl;
          leads = refl;
          covers = covered_child q.first table (marks_in b) b.facts b.frame.at is.covers a new puts is.taken_is_next;
        };
        lines_are = append-nil (lines_of (frames_of (turned_b ∷ bs))) ∙ same;
        are_places = (
          record {
            mark = places.0.mark;
            at = places.0.at;
            child = ap length (sym same);
            gathered = ap (λ (g : NumberSet). sets.union g u) places.0.gathered;
            marks = places.0.marks;
            facts = places.0.facts;
            rest = refl;
          },
          places.1,
        );
        facts_are = λ i. sym places.0.facts i ++ map (marked (given i)) new;
      }

  pub closing_turned : (lines : List NotedLine) (p : Place) (ps : List Place) (u : NumberSet) (a : Added)
      (rest : List Added) (new : List (Fact ℕ))
      → IsClosing q table start lines (p ∷ ps) u
      → p.rest ≡ a ∷ rest → Puts q.first table a new
      → IsTraced q table start lines (turned_place p lines u rest ∷ ps)
      (p.facts ++ map (marked (sets.insert p.marks p.mark)) new)
  closing_turned lines p ps u a rest new h e puts =
      turned_by lines p ps u a rest new h.branchings h.are_branchings h.last h.closes h.lines_are h.are_places e puts

  -- no branching is open
  ended_by : (lines : List NotedLine) (u : NumberSet) → (bs : List Branching) → (last : List NotedLine)
      → Closes q table start bs last u
      → lines_of (frames_of bs) ++ last ≡ lines → ArePlaces bs []
      → leaves (step_of q table) (start ∷ []) lines ≡ Some []
  ended_by lines u [] last c flat places = ap (leaves (step_of q table) (start ∷ [])) (sym flat) ∙ c.run
  ended_by lines u (b ∷ bs) last c flat places = absurd places

  pub closing_ended : (lines : List NotedLine) (u : NumberSet) → IsClosing q table start lines [] u
      → leaves (step_of q table) (start ∷ []) lines ≡ Some []
  closing_ended lines u h = ended_by lines u h.branchings h.last h.closes h.lines_are h.are_places

-- ---- lines by their numbers

-- no number below the first is among those of the lines that rest on the mark
none_below : (m n k : ℕ) (ls : List NotedLine) → k < n → Ascend n ls → list_any (λ j. eqb j k) (resting m ls) ≡ false
none_below m n k [] lt up = refl
none_below m n k (l ∷ ls) lt up =
    let rest = none_below m (l.number + 1) k ls (omega (arith, up.0)) up.1 in
    let apart : eqb l.number k ≡ false = ne_eqb l.number k (λ e. omega (arith, up.0)) in
    elim (cases_Bool (rests_on m l)) [
      | inl is ↦
          ap (λ (b : Bool). list_any (λ j. eqb j k)
          (map (λ x. x.number) (cond b (l ∷ filter (rests_on m) ls) (filter (rests_on m) ls))))
          is
          ∙ ap (λ (b : Bool). b || list_any (λ j. eqb j k) (resting m ls)) apart ∙ rest
      | inr isnt ↦
          ap (λ (b : Bool). list_any (λ j. eqb j k)
          (map (λ x. x.number) (cond b (l ∷ filter (rests_on m) ls) (filter (rests_on m) ls))))
          isnt
          ∙ rest
    ]

-- one number more, below those of the lines, takes no line out
others_more : (k n : ℕ) (ns : List ℕ) (ls : List NotedLine) → k < n → Ascend n ls → others (k ∷ ns) ls ≡ others ns ls
others_more k n ns [] lt up = refl
others_more k n ns (l ∷ ls) lt up =
    let apart : eqb k l.number ≡ false = ne_eqb k l.number (λ e. omega (arith, up.0)) in
    let rest = others_more k (l.number + 1) ns ls (omega (arith, up.0)) up.1 in
    ap (λ (b : Bool). cond (not (b || list_any (λ n. eqb n l.number) ns)) (l ∷ others (k ∷ ns) ls) (others (k ∷ ns) ls))
    apart
    ∙ ap (λ (xs : List NotedLine). cond (not (list_any (λ n. eqb n l.number) ns)) (l ∷ xs) xs) rest

-- taking out the numbers of the lines that rest on a mark takes out these lines
pub others_strip : (m n : ℕ) (ls : List NotedLine) → Ascend n ls → others (resting m ls) ls ≡ strip m ls
others_strip m n [] up = refl
others_strip m n (l ∷ ls) up =
    let rest = others_strip m (l.number + 1) ls up.1 in
    let numbers =
    λ (b : Bool). map (λ (x : NotedLine). x.number) (cond b (l ∷ filter (rests_on m) ls) (filter (rests_on m) ls)) in
    elim (cases_Bool (rests_on m l)) [
      | inl is ↦
          ap (λ (b : Bool). others (numbers b) (l ∷ ls)) is
          ∙ ap
          (λ (b : Bool). cond (not b) (l ∷ others (l.number ∷ resting m ls) ls) (others (l.number ∷ resting m ls) ls))
          (or_left (eqb l.number l.number) (list_any (λ n. eqb n l.number) (resting m ls))
          (eq-eqb l.number l.number refl))
          ∙ others_more l.number (l.number + 1) (resting m ls) ls (omega arith) up.1
          ∙ rest
          ∙ ap (λ (b : Bool). cond (not b) (l ∷ strip m ls) (strip m ls)) (sym is)
      | inr isnt ↦
          ap (λ (b : Bool). others (numbers b) (l ∷ ls)) isnt
          ∙ ap (λ (b : Bool). cond (not b) (l ∷ others (resting m ls) ls) (others (resting m ls) ls))
          (none_below m (l.number + 1) l.number ls (omega arith) up.1)
          ∙ ap (λ (xs : List NotedLine). l ∷ xs) rest
          ∙ ap (λ (b : Bool). cond (not b) (l ∷ strip m ls) (strip m ls)) (sym isnt)
    ]

-- ---- a trace at any time

pub open_places : (q : Question) (table : List Shape) (start : Noted) (lines : List NotedLine) (ps : List Place)
    (ms : List MarkedFact)
    → IsTraced q table start lines ps ms
    → (left : List Noted) × (now : Noted) × (leaves (step_of q table) (start ∷ []) lines ≡ Some (now ∷ left))
open_places q table start lines ps ms h =
    let t = h.tracing in (
      lefts (frames_of t.branchings),
      t.now,
      ap (leaves (step_of q table) (start ∷ [])) (sym h.lines_are) ∙ trace_is_open q table start t h.is_honest,
    )

pub start_is_traced : (q : Question) (table : List Shape) (sub_number not_sup_number : ℕ)
    → tree_of table sub_number ≡ normal_form q.sub → tree_of table not_sup_number ≡ negated_form q.sup
    → IsTraced q table (start_of q) [] []
    (marked sets.empty (Has q.at sub_number) ∷ marked sets.empty (Has q.at not_sup_number) ∷ [])
start_is_traced q table sub_number not_sup_number e f = record {
  tracing = record {
    branchings = [];
    lines = [];
    now = start_of q;
    facts = marked sets.empty (Has q.at sub_number) ∷ marked sets.empty (Has q.at not_sup_number) ∷ [];
  };
  is_honest = honest_start q table sub_number not_sup_number e f;
  lines_are = refl;
  are_places = tt;
  facts_are = refl;
}

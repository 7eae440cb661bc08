-- What a choice keeps, and the next alternative of one.
use Rattle.std.proofs.Common.{◌≡◌, ℕ, zero, suc, ◌+◌, ◌^◌, ◌<◌, true, List, [], ◌∷◌, ◌++◌, map, length, take, drop}
use Rattle.std.proofs.Common.{Option, Some, None, refl, ap, ◌∙◌, sym, subst, arith}
use Rattle.std.specs.Prelude.{slice_get}
use Rattle.std.specs.List.{list_all}
use Rattle.std.specs.Cmp.{nat_cmp_total}
use Rattle.std.specs.FinSet as sets
use Rattle.std.proofs.lemmas.Bool.{or_right}
use Rattle.std.proofs.lemmas.List.{length-take-le}
use Rattle.std.proofs.Math.Seq.{take-append_seam}
use Rattle.lane_sieve.specs.Sets.{NumberSet}
use Rattle.calculus_specs.specs.declared.facts.Fact.{Fact}
use Rattle.calculus_specs.specs.Line.{Line}
use Rattle.tableau_specs.specs.declared.Choice.{Choice}
use Rattle.tableau_specs.specs.declared.Item.{Item}
use Rattle.tableau_specs.specs.declared.Item.TheVariants.{Fact as Says, Mark as Marks}
use Rattle.tableau_specs.specs.Clash.{IsPlainClash}
use Rattle.tableau_specs.specs.Steps.{SearchContext, below_of, MayBranch, IsAlternative, IsLegal, next_choice}
use Rattle.tableau_specs.specs.Steps.IsLegal.{choose, back}
use Rattle.search_trace.specs.Noted.{marked}
use Rattle.search_trace.specs.Grounded.{is_known_within, AreGrounded}
use Rattle.search_trace.specs.Trail.{MarkedFact}
use Rattle.search_trace.specs.Places.{Place, opened_place, turned_place}
use Rattle.step_agenda.specs.By.{By}
use Rattle.step_agenda.specs.Entry.{Entry}
use Rattle.step_agenda.specs.Entry.TheVariants.{Fact as Grounded, Mark}
use Rattle.step_agenda.specs.Trail.{facts_in, items_of, item_of}
use Rattle.step_finders.specs.declared.choosing.Choosing.{Choosing}
use Rattle.step_finders.specs.Choosing.{branch_of, IsChoosable}
use Rattle.step_lines.specs.Serving.{FactsStayGrounded, AlternativesSpeakOfNodes, branch_nodes}
use Rattle.step_lines.specs.Kinds.{alternative_count}
use Rattle.search_trace.specs.Trace.{next_line, with_branching}
use Rattle.search_trace.specs.Laws.{IsTracedAt}
use Rattle.search_trace.proofs.Traced.{goes_on}
use Rattle.search_state.specs.Marked.{marked_in}
use Rattle.search_state.specs.Branchings.{AreMarks}
use Rattle.search_state.specs.Resting.{RestsChoice}
use Rattle.search_state.specs.Progress.{ProgressLists, asked_by, IsStanding, HasMoved}
use Rattle.search_state.specs.Turning.{IsTurning}
use Rattle.search_state.proofs.Entries.{items-append, marked-append}
use Rattle.search_state.proofs.Marks.{get-within, AreLeft, get-behind}
use Rattle.search_state.proofs.Moving.{IsNext, moved, lines_fit}
use Rattle.search_state.proofs.Steps.{at_items}

-- ---- lists

first_is : {A : Type 0} → (xs : List A) (x : A) → slice_get xs 0 ≡ Some x → xs ≡ x ∷ drop 1 xs
first_is [] x h = cc
first_is (y ∷ xs) x h = ap (λ (z : _). z ∷ xs) (same h)
  where
    same : {A : Type 0} → {a b : A} → Some a ≡ Some b → a ≡ b
    same e = cc

from_is : {A : Type 0} → (xs : List A) (k : ℕ) (x : A) → slice_get xs k ≡ Some x → drop k xs ≡ x ∷ drop (k + 1) xs
from_is xs zero x h = first_is xs x h
from_is [] (suc k) x h = cc
from_is (y ∷ xs) (suc k) x h =
    (let more : suc (k + 1) ≡ suc k + 1 = omega arith in from_is xs k x h ∙ ap (λ (n : ℕ). x ∷ drop n (y ∷ xs)) more)

part_inserted : (s : NumberSet) (m : ℕ) → sets.is_subset s (sets.insert s m) ≡ true
part_inserted s m =
    sets.contains-is_subset nat_cmp_total s (sets.insert s m)
    (λ k h. sets.contains-insert nat_cmp_total s m k ∙ or_right _ (sets.contains s k) h)

-- the trail before a place, with a mark and a fact there
abbrev pub with_choice : List Entry → Choice → Fact ℕ → By → List Entry
with_choice es c f by = es ++ Mark c ∷ Grounded f by ∷ []

marked-choice : (es : List Entry) (c : Choice) (f : Fact ℕ) (by : By) (u : NumberSet) → by.marks ≡ u
    → marked_in (with_choice es c f by) ≡ marked_in es ++ map (marked u) (f ∷ [])
marked-choice es c f by u same =
    marked-append es (Mark c ∷ Grounded f by ∷ []) ∙ ap (λ (v : NumberSet). marked_in es ++ marked v f ∷ []) same

pub items-choice : (es : List Entry) (c : Choice) (f : Fact ℕ) (by : By)
    → items_of (with_choice es c f by) ≡ items_of es ++ Marks c ∷ Says f ∷ []
items-choice es c f by = items-append es (Mark c ∷ Grounded f by ∷ [])

-- ---- a choice that is made

module _ (w : SearchContext) (old : ProgressLists) (st : IsStanding w old) where
  pub choice_moves : (k : Choosing) → ¬ IsPlainClash w.first (below_of w) w.table (facts_in old.entries)
      → IsChoosable w (facts_in old.entries) k → FactsStayGrounded → AlternativesSpeakOfNodes
      → (line : Line) (u : NumberSet) → RestsChoice w old.entries (branch_of k) line u → (left : ℕ)
      → left + 1 ≡ alternative_count w.table (branch_of k) → left + 1 < 2 ^ 32 → (f : Fact ℕ)
      → IsAlternative w.table (branch_of k) 1 f
      → (by : By) → by.marks ≡ sets.insert u old.trace.next
      → (new : ProgressLists)
      → IsNext old new
      (with_choice old.entries (record { line = old.trace.next; branch = branch_of k; alternative = 1 }) f by)
      (with_branching old.trace line u left) (length old.entries ∷ old.marks)
      → HasMoved w old new
  choice_moves k none is stay speak line u r left counts small f alternative by same new n =
      let m = old.trace.next in
      let c : Choice = record { line = m; branch = branch_of k; alternative = 1 } in
      let ms = marked_in old.entries in
      let es = with_choice old.entries c f by in
      let child = r.alternatives.each 0 f alternative in
      let rest = drop 1 r.children in
      let all : r.children ≡ child.added ∷ rest = first_is r.children child.added child.stands in
      let long : left ≡ length rest = omega (arith, counts, r.alternatives.count, ap length all) in
      let at = r.resting.holds (asked_by w old) m in
      let front : take (length old.entries) es ≡ old.entries =
      take-append_seam old.entries (Mark c ∷ Grounded f by ∷ []) in
      let place : Place = opened_place old.trace.lines ms (next_line old.trace line u) rest in
      let traced :
      IsTracedAt (asked_by w old) w.table st.from (with_branching old.trace line u (length rest))
      (place ∷ st.places) (ms ++ map (marked (sets.insert u m)) (f ∷ [])) =
      (goes_on (asked_by w old) w.table st.from old.trace st.places ms st.traced).branching line u
      at.rule child.added rest (f ∷ []) at.holds (at.children_are ∙ all) r.branching child.puts in
      let all_marked : marked_in es ≡ ms ++ map (marked (sets.insert u m)) (f ∷ []) =
      marked-choice old.entries c f by (sets.insert u m) same in
      let ground : AreGrounded w.first (ms ++ map (marked (sets.insert u m)) (f ∷ [])) =
      stay w.first u (sets.insert u m) ms f st.grounded (part_inserted u m)
      (subst (λ (xs : List ℕ). list_all (is_known_within w.first u ms) xs ≡ true)
      (sym (speak w.table (branch_of k) 1 f alternative)) r.resting.knows) in
      moved w old st.asked st.first_is st.follows new es (with_branching old.trace line u left)
      (length old.entries ∷ old.marks)
      (record {
        is_legal = subst (λ xs. IsLegal w (items_of old.entries) xs) (sym (items-choice old.entries c f by))
            (choose c f (at_items w old st (λ fs. ¬ IsPlainClash w.first (below_of w) w.table fs) none)
            (at_items w old st (λ fs. MayBranch w fs (branch_of k)) is.may) refl alternative);
        places = place ∷ st.places;
        from = st.from;
        from_is = st.from_is;
        traced =
            subst (λ (i : ℕ). IsTracedAt (asked_by w old) w.table st.from
            (with_branching old.trace line u i) (place ∷ st.places) (marked_in es))
            (sym long)
            (subst (λ (ns : List MarkedFact). IsTracedAt (asked_by w old) w.table st.from
            (with_branching old.trace line u (length rest)) (place ∷ st.places) ns)
            (sym all_marked) traced);
        are_marks = (
          record {
            choice = c;
            stands = get-behind old.entries (Mark c) (Grounded f by ∷ []);
            line = refl;
            before = ap marked_in front;
            grounded = st.grounded;
            known = r.resting.knows;
            facts = facts_in old.entries;
            children = r.children;
            alternatives = r.alternatives;
            small = subst (λ (i : ℕ). i < 2 ^ 32) counts small;
            rest = refl;
          },
          subst (λ (us : List Entry). AreMarks w us old.marks st.places) (sym front) st.are_marks,
        );
        grounded = subst (AreGrounded w.first) (sym all_marked) ground;
        fit = lines_fit w old st m line u r.children (branch_nodes (branch_of k)) r.resting;
      })
      n

-- ---- the next alternative of a choice

pub take_items : (n : ℕ) (es : List Entry) → items_of (take n es) ≡ take n (items_of es)
take_items zero es = refl
take_items (suc n) [] = refl
take_items (suc n) (e ∷ es) = ap (λ (is : List Item). item_of e ∷ is) (take_items n es)

pub get_item : (es : List Entry) (k : ℕ) (c : Choice) → slice_get es k ≡ Some (Mark c)
    → slice_get (items_of es) k ≡ Some (Marks c)
get_item [] k c h = cc
get_item (e ∷ es) zero c h = ap (λ (o : Option Entry). item_in o) h
  where
    item_in : Option Entry → Option Item
    item_in None = None
    item_in (Some e) = Some (item_of e)
get_item (e ∷ es) (suc k) c h = get_item es k c h

module _ (w : SearchContext) (s : ProgressLists) (mark : ℕ) (marks : NumberSet) (t : IsTurning w s mark marks)
    (l : AreLeft w s.entries (drop (length t.passed) s.marks) t.place t.older) where
  pub turn_moves : FactsStayGrounded → AlternativesSpeakOfNodes → (f : Fact ℕ)
      → IsAlternative w.table l.mark.choice.branch (l.mark.choice.alternative + 1) f → (by : By) → by.marks ≡ marks
      → (new : ProgressLists)
      → IsNext s new (with_choice (take l.at s.entries) (next_choice w l.mark.choice) f by) s.trace (l.at ∷ l.older)
      → HasMoved w s new
  turn_moves stay speak f alternative by same new n =
      let m = l.mark in
      let c = next_choice w m.choice in
      let p = t.place in
      let front = take l.at s.entries in
      let es = with_choice front c f by in
      let child = m.alternatives.each m.choice.alternative f alternative in
      let rest = drop (m.choice.alternative + 1) m.children in
      let all : p.rest ≡ child.added ∷ rest =
      sym m.rest ∙ from_is m.children m.choice.alternative child.added child.stands in
      let long : length front ≡ l.at =
      length-take-le l.at s.entries (omega (arith, get-within s.entries l.at _ m.stands)) in
      let here : take l.at es ≡ front =
      ap (λ (i : ℕ). take i es) (sym long) ∙ take-append_seam front (Mark c ∷ Grounded f by ∷ []) in
      let place : Place = turned_place p s.trace.lines t.used rest in
      let traced :
      IsTracedAt (asked_by w s) w.table t.from s.trace (place ∷ t.older)
      (p.facts ++ map (marked marks) (f ∷ [])) = t.traced child.added rest (f ∷ []) all child.puts in
      let all_marked : marked_in es ≡ p.facts ++ map (marked marks) (f ∷ []) =
      marked-choice front c f by marks same
      ∙ ap (λ (ns : List MarkedFact). ns ++ map (marked marks) (f ∷ [])) m.before in
      let more : sets.is_subset p.marks marks ≡ true =
      subst (λ (v : NumberSet). sets.is_subset p.marks v ≡ true) (sym t.marks_are) (part_inserted p.marks p.mark) in
      let ground : AreGrounded w.first (p.facts ++ map (marked marks) (f ∷ [])) =
      stay w.first p.marks marks p.facts f m.grounded more
      (subst (λ (xs : List ℕ). list_all (is_known_within w.first p.marks p.facts) xs ≡ true)
      (sym (speak w.table m.choice.branch (m.choice.alternative + 1) f alternative)) m.known) in
      let stands : slice_get es l.at ≡ Some (Mark c) =
      ap (λ (i : ℕ). slice_get es i) (sym long) ∙ get-behind front (Mark c) (Grounded f by ∷ []) in
      let legal : IsLegal w (items_of s.entries) (take l.at (items_of s.entries) ++ Marks c ∷ Says f ∷ []) =
      back l.at m.choice f t.has_clash (get_item s.entries l.at m.choice m.stands) alternative in
      moved w s t.asked t.first_is t.follows new es s.trace (l.at ∷ l.older)
      (record {
        is_legal =
            subst (λ (xs : List Item). IsLegal w (items_of s.entries) xs)
            (sym (items-choice front c f by
            ∙ ap (λ (is : List Item). is ++ Marks c ∷ Says f ∷ []) (take_items l.at s.entries)))
            legal;
        places = place ∷ t.older;
        from = t.from;
        from_is = t.from_is;
        traced =
            subst (λ (ns : List MarkedFact). IsTracedAt (asked_by w s) w.table t.from s.trace
            (place ∷ t.older) ns)
            (sym all_marked) traced;
        are_marks = (
          record {
            choice = c;
            stands = stands;
            line = m.line;
            before = ap marked_in here ∙ m.before;
            grounded = m.grounded;
            known = m.known;
            facts = m.facts;
            children = m.children;
            alternatives = m.alternatives;
            small = m.small;
            rest = refl;
          },
          subst (λ (us : List Entry). AreMarks w us l.older t.older) (sym here) l.others,
        );
        grounded = subst (AreGrounded w.first) (sym all_marked) ground;
        fit = t.fit;
      })
      n

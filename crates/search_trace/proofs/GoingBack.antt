-- A branching whose open child is closed: it is taken out, turns to its next alternative, or is closed as a whole.
use Rattle.std.proofs.Common.{◌≡◌, ℕ, ◌&&◌, ◌||◌, Bool, true, false, not, eqb, cond, List, [], ◌∷◌, ◌++◌, map, Option}
use Rattle.std.proofs.Common.{Some, None, refl, ap, ◌∙◌, sym, subst, inl, inr, eq-eqb}
use Rattle.std.specs.List.{list_all, filter}
use Rattle.std.specs.FinSet as sets
use Rattle.std.proofs.lemmas.Bool.{cases_Bool, and_parts, and_from, or_cases, or_parts, or_left, or_right, not-true}
use Rattle.std.proofs.lemmas.Cmp.{nat_cmp_total}
use Rattle.std.proofs.lemmas.List.Folds.{list_any-append}
use Rattle.refutation_tree.specs.NumberSets.{NumberSet}
use Rattle.refutation_tree.proofs.Bits.{contains_insert}
use Rattle.calculus_specs.specs.Shape.{Shape}
use Rattle.tableau_specs.specs.Lines.{concept_in}
use Rattle.calculus_specs.specs.Concept.{Concept}
use Rattle.calculus_specs.specs.Rules.{Question, when}
use Rattle.search_trace.specs.Premises.{Added, Rule, rule_of, holds, is_new, is_branching, is_single}
use Rattle.search_trace.specs.Leaves.{leaves}
use Rattle.search_trace.specs.Frames.{Frame, began, whole, IsOpen}
use Rattle.search_trace.specs.Noted.{Marked, Noted, NotedLine, known, known_within, noted_added, marks_given, noted_by}
use Rattle.search_trace.specs.Noted.{noted_children, rests_on, strip, closing_rests_on}
use Rattle.search_trace.specs.Among.{IsAmong, Keeps, AllKeep, IsDownward}
use Rattle.search_trace.specs.Trail.{is_next}
use Rattle.search_trace.specs.Back.{Branching, frames_of, mark_of, is_mark, RestsWithin, whole_marks, child_by}
use Rattle.search_trace.specs.Back.{turned_branching, IsBranching, Closes}
use Rattle.search_trace.proofs.Among.{any_implies, any_filter}
use Rattle.search_trace.proofs.Single.{when_some}
use Rattle.search_trace.proofs.Leaves.{some_eq, leaves_append, turned_is_open, whole_closes}
use Rattle.search_trace.proofs.Strip.{dropped_keeps, ends_stay, runs_keep}

-- ---- one mark

abbrev off : ℕ → NumberSet → Bool
off m u = not (sets.contains u m)

off_is_downward : (m : ℕ) → IsDownward (off m)
off_is_downward m s t part h = elim (cases_Bool (sets.contains s m)) [
  | inl is ↦ let e = sets.is_subset-contains nat_cmp_total s t part m is in let f = not-true (sets.contains t m) h in cc
  | inr isnt ↦ ap not isnt
]

itself_stays : {A : Type 0} → (may_stay : NumberSet → Bool) (ms : List (Marked A))
    → IsAmong (filter (λ m. may_stay m.marks) ms) ms
itself_stays may_stay ms p h =
    any_implies (λ m. may_stay m.marks && p m) p (λ m g. (and_parts (may_stay m.marks) (p m) g).1) ms
    (sym (any_filter p (λ m. may_stay m.marks) ms) ∙ h)

keeps_itself : (may_stay : NumberSet → Bool) (k : Noted) → Keeps may_stay k k
keeps_itself may_stay k =
    record { nodes = itself_stays may_stay k.nodes; facts = itself_stays may_stay k.facts; no_more = λ p h. h }

-- one of the children that a list has
child_of : (f : Added → Noted) (added : List Added) (done left : List Noted) (kid : Noted)
    → map f added ≡ done ++ kid ∷ left → (a : Added) × (f a ≡ kid)
child_of f [] [] left kid h = cc
child_of f (a ∷ added) [] left kid h = (a, cc)
child_of f [] (d ∷ done) left kid h = cc
child_of f (a ∷ added) (d ∷ done) left kid h = child_of f added done left kid cc

no_news : (may_stay : NumberSet → Bool) (news : List Noted) → AllKeep may_stay [] news → news ≡ []
no_news may_stay [] k = refl
no_news may_stay (n ∷ ns) k = absurd k

stays_or_single : (a b : Bool) → (not a && b) ≡ false → (a || not b) ≡ true
stays_or_single true b h = refl
stays_or_single false true h = cc
stays_or_single false false h = refl

all_ends_stay : (q : Question) (concept : ℕ → Option Concept) (m : ℕ) (ls : List NotedLine)
    → closing_rests_on m ls ≡ false → list_all (ends_stay q concept (off m) (off_is_downward m)) ls ≡ true
all_ends_stay q concept m [] h = refl
all_ends_stay q concept m (l ∷ ls) h =
    let b = or_parts (not (is_single l.line) && rests_on m l) (closing_rests_on m ls) h in
    and_from (is_single l.line || off m l.marks) (list_all (ends_stay q concept (off m) (off_is_downward m)) ls)
    (stays_or_single (is_single l.line) (rests_on m l) b.0) (all_ends_stay q concept m ls b.1)

module _ (q : Question) (table : List Shape) where
  abbrev concept : ℕ → Option Concept
  concept = concept_in table

  abbrev step : Noted → NotedLine → Option (List Noted)
  step = noted_children q concept

  kid_keeps : (at kid : Noted) (done left : List Noted) (l : NotedLine) (r : Option Rule) → is_branching l.line ≡ true
      → noted_by q concept at l r ≡ Some (done ++ kid ∷ left) → Keeps (off l.number) kid at
  kid_keeps at kid done left l None is h = cc
  kid_keeps at kid done left l (Some r) is h =
      let g = marks_given l in
      let e : g ≡ sets.insert l.marks l.number = ap (λ (b : Bool). cond b (sets.insert l.marks l.number) l.marks) is in
      let premises = list_all (holds q.theory (known_within l.marks at)) r.premises in
      let fresh = list_all (is_new (known at)) r.children in
      let kids = map (noted_added g at) r.children in
      let a = when_some premises (when fresh (Some kids)) (done ++ kid ∷ left) h in
      let b = when_some fresh (Some kids) (done ++ kid ∷ left) a.1 in
      let c = child_of (noted_added g at) r.children done left kid (some_eq kids (done ++ kid ∷ left) b.1) in
      let has_it : sets.contains g l.number ≡ true =
      ap (λ (u : NumberSet). sets.contains u l.number) e ∙ contains_insert l.marks l.number l.number
      ∙ or_left (eqb l.number l.number) (sets.contains l.marks l.number) (eq-eqb l.number l.number refl) in
      subst (λ (k : Noted). Keeps (off l.number) k at) c.1
      (dropped_keeps (off l.number) g (ap not has_it) at at c.0 (keeps_itself (off l.number) at))

  -- a child that is closed without its branching's mark closes without the branching
  pub strip_closes : (from : Noted) (f : Frame Noted NotedLine) → IsOpen step from f
      → is_branching f.branching.line ≡ true → (lines : List NotedLine)
      → closing_rests_on f.branching.number lines ≡ false → leaves step (f.kid ∷ []) lines ≡ Some []
      → leaves step (from ∷ []) (f.before ++ strip f.branching.number lines) ≡ Some []
  strip_closes from f o is lines free run =
      let m = f.branching.number in
      let keeps = kid_keeps f.at f.kid f.done f.left f.branching (rule_of q concept f.branching.line) is o.branches in
      let r =
      runs_keep q concept (off m) (off_is_downward m) lines [] (all_ends_stay q concept m lines free) (f.kid ∷ [])
      (f.at ∷ []) (keeps, tt) run in
      leaves_append step f.before (strip m lines) (from ∷ []) (f.at ∷ []) o.leads ∙ r.are
      ∙ ap (λ (ks : List Noted). Some ks) (no_news (off m) r.news r.keep)

  -- ---- on which marks closing rests

  singles_rest_on_none : (m : ℕ) (ls : List NotedLine) → list_all (λ l. is_single l.line) ls ≡ true
      → closing_rests_on m ls ≡ false
  singles_rest_on_none m [] h = refl
  singles_rest_on_none m (l ∷ ls) h =
      let b = and_parts (is_single l.line) (list_all (λ k. is_single k.line) ls) h in
      ap (λ (c : Bool). not c && rests_on m l || closing_rests_on m ls) b.0 ∙ singles_rest_on_none m ls b.1

  pub after_singles : (m : ℕ) (ls ms : List NotedLine) → list_all (λ l. is_single l.line) ls ≡ true
      → closing_rests_on m (ls ++ ms) ≡ closing_rests_on m ms
  after_singles m ls ms h =
      list_any-append (λ l. not (is_single l.line) && rests_on m l) ls ms
      ∙ ap (λ (c : Bool). c || closing_rests_on m ms) (singles_rest_on_none m ls h)

  strip_rests : (m j : ℕ) (ls : List NotedLine) → closing_rests_on j (strip m ls) ≡ true → closing_rests_on j ls ≡ true
  strip_rests m j ls h =
      let p : NotedLine → Bool = λ l. not (is_single l.line) && rests_on j l in
      let q : NotedLine → Bool = λ l. not (rests_on m l) in
      any_implies (λ l. q l && p l) p (λ l g. (and_parts (q l) (p l) g).1) ls (sym (any_filter p q ls) ∙ h)

  in_union : (s t : NumberSet) (j : ℕ) → sets.contains s j ≡ true → sets.contains (sets.union s t) j ≡ true
  in_union s t j h = sets.contains-union nat_cmp_total s t j ∙ or_left (sets.contains s j) (sets.contains t j) h

  in_union_too : (s t : NumberSet) (j : ℕ) → sets.contains t j ≡ true → sets.contains (sets.union s t) j ≡ true
  in_union_too s t j h = sets.contains-union nat_cmp_total s t j ∙ or_right (sets.contains s j) (sets.contains t j) h

  module _ (start : Noted) (b : Branching) (bs : List Branching)
      (o : IsBranching q table (began start (frames_of bs)) bs b) where
    older : (j : ℕ) → is_mark bs j ≡ true → is_mark (b ∷ bs) j ≡ true
    older j h = or_right (eqb (mark_of b) j) (is_mark bs j) h

    gathered_rest : (lines : List NotedLine) (u : NumberSet) → RestsWithin (b ∷ bs) u lines
        → RestsWithin bs (sets.union b.gathered u) (b.frame.closed ++ lines)
    gathered_rest lines u rests j is h =
        elim (or_cases (closing_rests_on j b.frame.closed) (closing_rests_on j lines)
        (sym (list_any-append (λ l. not (is_single l.line) && rests_on j l) b.frame.closed lines) ∙ h)) [
          | inl a ↦ in_union b.gathered u j (o.gathers j is a)
          | inr a ↦ in_union_too b.gathered u j (rests j (older j is) a)
        ]

    whole_rest : (lines : List NotedLine) (u : NumberSet) → RestsWithin (b ∷ bs) u lines
        → RestsWithin bs (whole_marks b u) (whole b.frame lines)
    whole_rest lines u rests j is h =
        let l = b.frame.branching in
        let both = sets.union b.gathered u in
        elim (or_cases (not (is_single l.line) && rests_on j l) (closing_rests_on j (b.frame.closed ++ lines))
        (sym (after_singles j b.frame.before (l ∷ (b.frame.closed ++ lines)) o.singles) ∙ h)) [
          | inl a ↦ in_union_too both l.marks j (and_parts (not (is_single l.line)) (rests_on j l) a).1
          | inr a ↦ in_union both l.marks j (gathered_rest lines u rests j is a)
        ]

    pub turned_is_honest : (lines : List NotedLine) (u : NumberSet) (a : Added) (rest : List Added) → b.rest ≡ a ∷ rest
        → Closes q table start (b ∷ bs) lines u
        → IsBranching q table (began start (frames_of bs)) bs (turned_branching b lines u a rest)
    turned_is_honest lines u a rest e c =
        let next =
        and_parts (is_next q.first b.facts a) (list_all (is_next q.first b.facts) rest)
        (ap (list_all (is_next q.first b.facts)) (sym e) ∙ o.rest_is_next) in
        record {
          is_open =
              turned_is_open step (began start (frames_of bs)) b.frame o.is_open lines (child_by b a)
              (map (child_by b) rest) (o.left_is ∙ ap (map (child_by b)) e) c.run;
          branches = o.branches;
          singles = o.singles;
          gathers = gathered_rest lines u c.rests;
          covers = o.covers;
          kid_is = refl;
          left_is = refl;
          taken_is_next = next.0;
          rest_is_next = next.1;
        }

    pub whole_is_closed : (lines : List NotedLine) (u : NumberSet) → b.rest ≡ [] → Closes q table start (b ∷ bs) lines u
        → Closes q table start bs (whole b.frame lines) (whole_marks b u)
    whole_is_closed lines u e c = record {
      run =
          whole_closes step (began start (frames_of bs)) b.frame o.is_open lines (o.left_is ∙ ap (map (child_by b)) e)
          c.run;
      rests = whole_rest lines u c.rests;
    }

    unrested : (lines : List NotedLine) (u : NumberSet) → sets.contains u (mark_of b) ≡ false
        → RestsWithin (b ∷ bs) u lines → closing_rests_on (mark_of b) lines ≡ false
    unrested lines u out rests = elim (cases_Bool (closing_rests_on (mark_of b) lines)) [
      | inl is ↦
          let e =
          rests (mark_of b)
          (or_left (eqb (mark_of b) (mark_of b)) (is_mark bs (mark_of b)) (eq-eqb (mark_of b) (mark_of b) refl)) is in
          cc
      | inr isnt ↦ isnt
    ]

    pub stripped_is_closed : (lines : List NotedLine) (u : NumberSet) → sets.contains u (mark_of b) ≡ false
        → Closes q table start (b ∷ bs) lines u → Closes q table start bs (b.frame.before ++ strip (mark_of b) lines) u
    stripped_is_closed lines u out c = record {
      run =
          strip_closes (began start (frames_of bs)) b.frame o.is_open o.branches lines (unrested lines u out c.rests)
          c.run;
      rests =
          λ j is h. c.rests j (older j is)
          (strip_rests (mark_of b) j lines
          (sym (after_singles j b.frame.before (strip (mark_of b) lines) o.singles) ∙ h));
    }

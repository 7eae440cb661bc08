-- What lines and going back make of a trace.
use Rattle.std.proofs.Common.{◌≡◌, ℕ, ◌&&◌, not, Bool, true, false, cond, eqb, suc, List, [], ◌∷◌, ◌++◌, length, take}
use Rattle.std.proofs.Common.{drop, map, refl, ap, ◌∙◌, sym, subst, arith, inl, inr}
use Rattle.std.specs.FinSet as sets
use Rattle.std.proofs.lemmas.Bool.{cases_Bool, eqb-true, eqb-false}
use Rattle.refutation_tree.specs.NumberSets.{NumberSet}
use Rattle.calculus_specs.specs.Shape.{Shape}
use Rattle.calculus_specs.specs.Rules.{Question}
use Rattle.search_trace.specs.Premises.{Added, is_branching, is_clash, is_single}
use Rattle.search_trace.specs.Noted.{marked, marks_given, Noted, NotedLine, strip}
use Rattle.search_trace.specs.Trail.{MarkedFact}
use Rattle.search_trace.specs.Places.{Place, IsTraced, IsClosing, opened_place, place_marks, without_place}
use Rattle.search_trace.specs.Places.{turned_place}
use Rattle.search_trace.proofs.Places.{traced_line, traced_branching, traced_clash, closing_stripped, closing_whole}
use Rattle.search_trace.proofs.Places.{closing_turned, closing_ended}
use Rattle.search_trace.specs.declared.opens.OpenBranching.{OpenBranching}
use Rattle.search_trace.specs.Trace.{TraceLists, next_line, whole_marks, without, GoneBack, gone_back, turned_latest}
use Rattle.search_trace.specs.Trace.{at_next, turn_of}
use Rattle.search_trace.specs.Laws.{AreAt, IsTracedAt, IsClosingAt, LinesAreTraced, IsLeft, GoesBack}
use Rattle.search_trace.proofs.Going.{back_whole, back_turns, back_out}

not_branching : (b c : Bool) → (not b && not c) ≡ true → b ≡ false
not_branching true c h = cc
not_branching false c h = refl

none_left : (xs : List Added) → length xs ≡ 0 → xs ≡ []
none_left [] h = refl
none_left (x ∷ xs) h = cc

next_of : (xs : List Added) (n : ℕ) → length xs ≡ n → ¬ (n ≡ 0) → (a : Added) × (rest : List Added) × (xs ≡ a ∷ rest)
next_of [] n e some = absurd (some (sym e))
next_of (x ∷ xs) n e some = (x, xs, refl)

-- there is none, or some alternative is left
abbrev pub CanTurn : List OpenBranching → Type 0
CanTurn [] = Unit {0}
CanTurn (o ∷ os) = ¬ (o.left ≡ 0)

count_at : (os : List OpenBranching) (ps : List Place) → AreAt os ps → length ps ≡ length os
count_at [] [] at = refl
count_at [] (p ∷ ps) at = absurd at
count_at (o ∷ os) [] at = absurd at
count_at (o ∷ os) (p ∷ ps) at = ap suc (count_at os ps at.1)

count_turned : (n : ℕ) (u : NumberSet) (os : List OpenBranching) → length (turned_latest n u os) ≡ length os
count_turned n u [] = refl
count_turned n u (o ∷ os) = refl

given_single : (l : NotedLine) → is_single l.line ≡ true → marks_given l ≡ l.marks
given_single l single =
    ap (λ (b : Bool). cond b (sets.insert l.marks l.number) l.marks)
    (not_branching (is_branching l.line) (is_clash l.line) single)

given_branching : (l : NotedLine) → is_branching l.line ≡ true → marks_given l ≡ sets.insert l.marks l.number
given_branching l branches = ap (λ (b : Bool). cond b (sets.insert l.marks l.number) l.marks) branches

module _ (q : Question) (table : List Shape) (start : Noted) where
  pub goes_on : (t : TraceLists) (ps : List Place) (ms : List MarkedFact) → IsTracedAt q table start t ps ms
      → LinesAreTraced q table start t ps ms
  goes_on t ps ms h = record {
    single = λ line marks r a new holds one single puts.
        let l = next_line t line marks in
        record {
          are_at = h.are_at;
          traced =
              subst (λ (u : NumberSet). IsTraced q table start (t.lines ++ l ∷ []) ps (ms ++ map (marked u) new))
              (given_single l single)
              (traced_line q table start t.lines ps ms h.traced l r a new holds one single puts);
        };
    branching = λ line marks r a rest new holds one branches puts.
        let l = next_line t line marks in
        record {
          are_at =
              (record { mark = refl; at = refl; child = refl; gathered = refl; marks = refl; left = refl }, h.are_at);
          traced =
              subst (λ (u : NumberSet). IsTraced q table start (t.lines ++ l ∷ []) (opened_place t.lines ms l rest ∷ ps)
              (ms ++ map (marked u) new))
              (given_branching l branches)
              (traced_branching q table start t.lines ps ms h.traced l r a rest new holds one branches puts);
        };
    clash =
        λ line marks r holds none. record {
          are_at = h.are_at;
          closing = traced_clash q table start t.lines ps ms h.traced (next_line t line marks) r holds none;
        };
  }

  -- ---- going back

  -- going back leads to some of the places
  record Leads (ps : List Place) (g : GoneBack) : Type 0 where
    passed : List Place
    left : List Place
    places_are : passed ++ left ≡ ps
    are_at : AreAt g.opens left
    closing : IsClosing q table start g.lines left g.used
    can_turn : CanTurn g.opens

  over : (p : Place) (ps : List Place) (g : GoneBack) → Leads ps g → Leads (p ∷ ps) g
  over p ps g h = record {
    passed = p ∷ h.passed;
    left = h.left;
    places_are = ap (λ (qs : List Place). p ∷ qs) h.places_are;
    are_at = h.are_at;
    closing = h.closing;
    can_turn = h.can_turn;
  }

  leads : (os : List OpenBranching) (ls : List NotedLine) (u : NumberSet) (ps : List Place) → AreAt os ps
      → IsClosing q table start ls ps u → Leads ps (gone_back ls os u)
  leads [] ls u [] at c = record { passed = []; left = []; places_are = refl; are_at = tt; closing = c; can_turn = tt }
  leads [] ls u (p ∷ ps) at c = absurd at
  leads (o ∷ os) ls u [] at c = absurd at
  leads (o ∷ os) ls u (p ∷ ps) at c =
      let is = at.0 in
      elim (cases_Bool (sets.contains u o.mark)) [
        | inl has ↦ elim (cases_Bool (eqb o.left 0)) [
          | inl none ↦
              let none' : o.left ≡ 0 = eqb-true o.left 0 none in
              let same : place_marks p u ≡ whole_marks o u =
              λ i. sets.union (sets.union (is.gathered i) u) (is.marks i) in
              let closed =
              subst (IsClosing q table start ls ps) same
              (closing_whole q table start ls p ps u c (none_left p.rest (is.left ∙ none'))) in
              subst (Leads (p ∷ ps)) (sym (back_whole ls o os u has none'))
              (over p ps (gone_back ls os (whole_marks o u)) (leads os ls (whole_marks o u) ps at.1 closed))
          | inr some ↦
              let some' : ¬ (o.left ≡ 0) = eqb-false o.left 0 some in
              subst (Leads (p ∷ ps)) (sym (back_turns ls o os u has some'))
              (record { passed = []; left = p ∷ ps; places_are = refl; are_at = at; closing = c; can_turn = some' })
        ]
        | inr has_not ↦
            let same : without_place p ls ≡ without o ls =
            λ i. take (is.at i) ls ++ strip (is.mark i) (drop (is.child i) ls) in
            let closed =
            subst (λ (ks : List NotedLine). IsClosing q table start ks ps u) same
            (closing_stripped q table start ls p ps u c (ap (sets.contains u) is.mark ∙ has_not)) in
            subst (Leads (p ∷ ps)) (sym (back_out ls o os u has_not))
            (over p ps (gone_back (without o ls) os u) (leads os (without o ls) u ps at.1 closed))
      ]

  -- the latest that is left turns, or the lines close everything
  lands : (next : ℕ) (ls : List NotedLine) (os : List OpenBranching) (u : NumberSet) (left : List Place) → AreAt os left
      → IsClosing q table start ls left u → CanTurn os
      → IsLeft q table start (at_next next (record { lines = ls; opens = os; used = u })) u left (turn_of os)
  lands next ls [] u [] at c can = closing_ended q table start ls u c
  lands next ls [] u (p ∷ older) at c can = absurd at
  lands next ls (o ∷ os) u [] at c can = absurd at
  lands next ls (o ∷ os) u (p ∷ older) at c can =
      let is = at.0 in
      let given : sets.insert p.marks p.mark ≡ sets.insert o.marks o.mark = λ i. sets.insert (is.marks i) (is.mark i) in
      record {
        mark_is = sym is.mark;
        marks_are = sym given;
        has_next = next_of p.rest o.left is.left can;
        traced = λ a rest new e puts. record {
          are_at = (
            record {
              mark = is.mark;
              at = is.at;
              child = refl;
              gathered = ap (λ (g : NumberSet). sets.union g u) is.gathered;
              marks = is.marks;
              left = omega (arith, is.left, ap length e);
            },
            at.1,
          );
          traced =
              subst (λ (v : NumberSet). IsTraced q table start ls (turned_place p ls u rest ∷ older)
              (p.facts ++ map (marked v) new))
              given (closing_turned q table start ls p older u a rest new c e puts);
        };
      }

  pub goes_back : (t : TraceLists) (ps : List Place) (u : NumberSet) → IsClosingAt q table start t ps u
      → GoesBack q table start t ps u
  goes_back t ps u h =
      let g = gone_back t.lines t.opens u in
      let l = leads t.opens t.lines u ps h.are_at h.closing in
      record {
        passed = l.passed;
        left = l.left;
        places_are = l.places_are;
        same_count = count_at g.opens l.left l.are_at ∙ sym (count_turned (length g.lines) g.used g.opens);
        is_left = lands t.next g.lines g.opens g.used l.left l.are_at l.closing l.can_turn;
      }

-- Going back step by step.
use Rattle.std.proofs.Common.{◌≡◌, ℕ, ◌≤◌, ◌&&◌, not, Bool, true, false, cond, eqb, List, [], ◌∷◌, ◌++◌, length, take}
use Rattle.std.proofs.Common.{drop, filter, map, reverse, refl, ap, ◌∙◌, sym, subst, arith, eq-eqb}
use Rattle.std.specs.FinSet as sets
use Rattle.std.proofs.lemmas.Bool.{ne_eqb}
use Rattle.std.proofs.lemmas.List.{reverse-append, reverse-reverse, length-append, length-take-le, map-append, take-map}
use Rattle.std.proofs.lemmas.List.{drop-map}
use Rattle.refutation_tree.specs.NumberSets.{NumberSet}
use Rattle.search_trace.specs.Noted.{NotedLine, strip}
use Rattle.search_trace.specs.declared.lines.TraceLine.{TraceLine}
use Rattle.search_trace.specs.declared.opens.OpenBranching.{OpenBranching}
use Rattle.search_trace.specs.Lines.{stays}
use Rattle.search_trace.specs.Trace.{noted, ArePlaced, whole_marks, without, GoneBack, gone_back, turn_of, is_turn}
use Rattle.search_trace.specs.Going.{IsPlaced, Passes, whole, out, Halts, IsTaken, going, reached, IsGoing, turns}

-- ---- one step

abbrev here : List NotedLine → List OpenBranching → NumberSet → GoneBack
here ls os u = record { lines = ls; opens = os; used = u }

-- by whether closing rests on the branching, and whether no alternative is left
abbrev by_tests : List NotedLine → OpenBranching → List OpenBranching → NumberSet → Bool → Bool → GoneBack
by_tests ls o os u rests none =
    cond rests (cond none (gone_back ls os (whole_marks o u)) (here ls (o ∷ os) u)) (gone_back (without o ls) os u)

pub back_whole : (ls : List NotedLine) (o : OpenBranching) (os : List OpenBranching) (u : NumberSet)
    → sets.contains u o.mark ≡ true → o.left ≡ 0 → gone_back ls (o ∷ os) u ≡ gone_back ls os (whole_marks o u)
back_whole ls o os u has none = λ i. by_tests ls o os u (has i) (eq-eqb o.left 0 none i)

pub back_turns : (ls : List NotedLine) (o : OpenBranching) (os : List OpenBranching) (u : NumberSet)
    → sets.contains u o.mark ≡ true → ¬ (o.left ≡ 0)
    → gone_back ls (o ∷ os) u ≡ record { lines = ls; opens = o ∷ os; used = u }
back_turns ls o os u has some = λ i. by_tests ls o os u (has i) (ne_eqb o.left 0 some i)

pub back_out : (ls : List NotedLine) (o : OpenBranching) (os : List OpenBranching) (u : NumberSet)
    → sets.contains u o.mark ≡ false → gone_back ls (o ∷ os) u ≡ gone_back (without o ls) os u
back_out ls o os u has_not = λ i. by_tests ls o os u (has_not i) (eqb o.left 0)

-- ---- the lines that are kept

noted_strip : (m : ℕ) (ls : List TraceLine) → map noted (filter (stays m) ls) ≡ strip m (map noted ls)
noted_strip m [] = refl
noted_strip m (l ∷ ls) = elim (stays m l) as
    (λ b. map noted (cond b (l ∷ filter (stays m) ls) (filter (stays m) ls))
    ≡ cond b (noted l ∷ strip m (map noted ls)) (strip m (map noted ls))) [
      | true ↦ ap (λ (xs : List NotedLine). noted l ∷ xs) (noted_strip m ls)
      | false ↦ noted_strip m ls
    ]

noted_without : (o : OpenBranching) (ls : List TraceLine)
    → map noted (take o.at ls ++ filter (stays o.mark) (drop o.child ls)) ≡ without o (map noted ls)
noted_without o ls =
    map-append noted (take o.at ls) (filter (stays o.mark) (drop o.child ls))
    ∙ ap (λ (xs : List NotedLine). xs ++ map noted (filter (stays o.mark) (drop o.child ls)))
    (sym (take-map noted o.at ls))
    ∙ ap (λ (xs : List NotedLine). take o.at (map noted ls) ++ xs)
    (noted_strip o.mark (drop o.child ls) ∙ ap (strip o.mark) (sym (drop-map noted o.child ls)))

-- ---- what the loop keeps

pub placed_more : (m n : ℕ) (os : List OpenBranching) → m ≤ n → ArePlaced m os → ArePlaced n os
placed_more m n [] le h = tt
placed_more m n (o ∷ os) le h = (h.0, omega (arith, h.1), h.2)

left_placed : (o : OpenBranching) (ls : List TraceLine) (u : NumberSet) (more : List TraceLine) (v : NumberSet)
    (os : List OpenBranching)
    → Passes o ls u more v → IsPlaced (length ls) o → ArePlaced o.at os → ArePlaced (length more) os
left_placed o ls u more' v' os (whole has none) p h = placed_more o.at (length ls) os (omega (arith, p.0, p.1)) h
left_placed o ls u more' v' os (out has_not) p h =
    placed_more o.at (length (take o.at ls ++ filter (stays o.mark) (drop o.child ls))) os
    (omega (
      arith,
      length-append (take o.at ls) (filter (stays o.mark) (drop o.child ls)),
      length-take-le o.at ls (omega (arith, p.0, p.1)),
    ))
    h

pub latest_placed : (n : ℕ) (opens less : List OpenBranching) (o : OpenBranching) → opens ≡ less ++ o ∷ []
    → ArePlaced n (reverse opens) → ArePlaced n (o ∷ reverse less)
latest_placed n opens less o e h = subst (ArePlaced n) (ap reverse e ∙ reverse-append less (o ∷ [])) h

pub less_placed : (n : ℕ) (opens less : List OpenBranching) (o : OpenBranching) → opens ≡ less ++ o ∷ []
    → ArePlaced n (reverse opens) → ArePlaced n (reverse less)
less_placed n opens less o e h =
    let p = latest_placed n opens less o e h in placed_more o.at n (reverse less) (omega (arith, p.0, p.1)) p.2

passes_on : (o : OpenBranching) (ls : List TraceLine) (u : NumberSet) (more : List TraceLine) (v : NumberSet)
    (os : List OpenBranching)
    → Passes o ls u more v → gone_back (map noted ls) (o ∷ os) u ≡ gone_back (map noted more) os v
passes_on o ls u more' v' os (whole has none) = back_whole (map noted ls) o os u has none
passes_on o ls u more' v' os (out has_not) =
    back_out (map noted ls) o os u has_not ∙ ap (λ (xs : List NotedLine). gone_back xs os u) (sym (noted_without o ls))

pub going_on : (ls : List TraceLine) (opens : List OpenBranching) (u : NumberSet) (now : List TraceLine)
    (left less : List OpenBranching) (v : NumberSet) (o : OpenBranching) (more : List TraceLine) (w : NumberSet)
    → IsGoing ls opens u now left v → IsTaken left less v o → Passes o now v more w → IsGoing ls opens u more less w
going_on ls opens u now left less v o more w g t p =
    let placed = latest_placed (length now) left less o t.taken g.placed in
    record {
      placed = left_placed o now v more w (reverse less) p (placed.0, placed.1) placed.2;
      same =
          sym (ap (λ (os : List OpenBranching). gone_back (map noted now) os v)
          (ap reverse t.taken ∙ reverse-append less (o ∷ []))
          ∙ passes_on o now v more w (reverse less) p)
          ∙ g.same;
    }

-- where a step fails, the lines are the same
pub stays_placed : (ls : List TraceLine) (opens : List OpenBranching) (u : NumberSet) (now : List TraceLine)
    (left less : List OpenBranching) (v : NumberSet) (o : OpenBranching) (same : List TraceLine)
    → IsGoing ls opens u now left v → IsTaken left less v o → same ≡ now → ArePlaced (length same) (reverse less)
stays_placed ls opens u now left less v o same g t e =
    subst (λ (ks : List TraceLine). ArePlaced (length ks) (reverse less)) (sym e)
    (less_placed (length now) left less o t.taken g.placed)

-- ---- its end

halted : (ls : List TraceLine) (left : List OpenBranching) (u : NumberSet) (rs : List OpenBranching) → reverse left ≡ rs
    → Halts left u → gone_back (map noted ls) rs u ≡ here (map noted ls) rs u
halted ls left u [] e h = refl
halted ls left u (o ∷ os) e h =
    let split : left ≡ reverse os ++ o ∷ [] = sym (reverse-reverse left) ∙ ap reverse e ∙ reverse-append (o ∷ []) os in
    let last = h (reverse os) o split in
    back_turns (map noted ls) o os u last.0 last.1

pub has_halted : (ls : List TraceLine) (opens : List OpenBranching) (u : NumberSet) (now : List TraceLine)
    (left : List OpenBranching) (v : NumberSet)
    → IsGoing ls opens u now left v → Halts left v → going ls opens u ≡ reached now left v
has_halted ls opens u now left v g h = sym g.same ∙ halted now left v (reverse left) refl h

-- ---- whether it comes to a branching that turns

pub turns_as_it_goes : (ls : List NotedLine) (os : List OpenBranching) (u : NumberSet)
    → turns os u ≡ is_turn (turn_of (gone_back ls os u).opens)
turns_as_it_goes ls [] u = refl
turns_as_it_goes ls (o ∷ os) u =
    elim (sets.contains u o.mark) as
    (λ rests. cond (rests && not (eqb o.left 0)) true (turns os (cond rests (whole_marks o u) u))
    ≡ is_turn (turn_of (by_tests ls o os u rests (eqb o.left 0)).opens)) [
      | true ↦ elim (eqb o.left 0) as
          (λ none. cond (not none) true (turns os (whole_marks o u))
          ≡ is_turn (turn_of (by_tests ls o os u true none).opens)) [
            | true ↦ turns_as_it_goes ls os (whole_marks o u)
            | false ↦ refl
          ]
      | false ↦ turns_as_it_goes (without o ls) os u
    ]

-- A run that ends saturated, where the node in question has top alone at its end, never said more of it.
use Rattle.std.proofs.Common.{◌≡◌, ℕ, zero, suc, ◌+◌, ◌<◌, ◌&&◌, not, eqb, Bool, true, false, List, [], ◌∷◌}
use Rattle.std.proofs.Common.{◌++◌, length, Option, Some, None, refl, ap, ◌∙◌, sym, subst, arith, inl, inr, Contains}
use Rattle.std.proofs.Common.{length-append}
use Rattle.std.specs.List.{list_any, list_all, range_with_len}
use Rattle.std.proofs.lemmas.Bool.{or_cases, and_parts, eqb-true}
use Rattle.std.proofs.lemmas.List.{take_at}
use Rattle.std.proofs.lemmas.List.Folds.{list_any-append}
use Rattle.calculus_specs.specs.Concept.{Concept, name}
use Rattle.calculus_specs.specs.Shape.{Shape, shape_of, IsTable}
use Rattle.calculus_specs.specs.Shape.Shape.{top, intersection, union}
use Rattle.calculus_specs.specs.Rows.{Part, Row, Trigger, part_at, conjunct_at}
use Rattle.calculus_specs.specs.Rows.Part.{inclusion, range}
use Rattle.calculus_specs.specs.Rows.Trigger.{always, names, edge, end_of}
use Rattle.calculus_specs.specs.Rules.{Question}
use Rattle.calculus_specs.specs.declared.facts.Fact.{Fact}
use Rattle.calculus_specs.specs.declared.facts.Fact.TheVariants.{Has, Edge, Apart, Same}
use Rattle.calculus_specs.specs.Joins.{rep}
use Rattle.calculus_specs.specs.State.{node_count_from, parent_from, gives_concept, has, has_edge, label, new_nodes}
use Rattle.calculus_specs.specs.State.{apart_from, pairwise_apart, fresh_facts}
use Rattle.calculus_specs.proofs.State.{any-label}
use Rattle.tableau_specs.specs.declared.Branch.{Branch}
use Rattle.tableau_specs.specs.declared.Branch.TheVariants.{Or, Choose, Pair}
use Rattle.tableau_specs.specs.declared.Item.{Item}
use Rattle.tableau_specs.specs.declared.Item.TheVariants.{Fact as Says, Mark}
use Rattle.tableau_specs.specs.Items.{facts_of, says}
use Rattle.tableau_specs.specs.Steps.{SearchContext, is_named, has_name, is_triggered}
use Rattle.tableau_specs.specs.Steps.{IsGiven, Adds, Generates, MayBranch, IsAlternative, IsSaturated}
use Rattle.tableau_specs.specs.Steps.Adds.{by_and, by_all, by_carry, by_row}
use Rattle.tableau_specs.specs.Steps.Generates.{by_some, by_least}
use Rattle.tableau_specs.specs.Steps.MayBranch.{on_union, on_filler, on_pair}
use Rattle.tableau_specs.specs.Steps.IsAlternative.{of_union, of_filler, of_complement, of_joining, of_parting}
use Rattle.tableau_specs.specs.Reached.{start, context_of}
use Rattle.tableau_specs.proofs.Built.{IsBuilt, built_take}
use Rattle.tableau_specs.proofs.Legal.{any_edge}
use Rattle.tableau_specs.proofs.PlainClash.{successor_has_edge}
use Rattle.tableau_specs.proofs.Reached.{reached_built}
use Rattle.tableau_specs.proofs.TreeShaped.{first_le, parent_of_origin}
use Rattle.search_laws.specs.Runs.{IsRun, was_ever, puts_at}
use Rattle.search_laws.specs.ReuseLaws.{IsUnnamed}
use Rattle.search_laws.specs.KeptSteps.{IsGrown}
use Rattle.search_laws.specs.KeptSteps.IsGrown.{at_first, by_add, by_give, by_make, by_choice}
use Rattle.search_laws.specs.BeginningLaws.{asks_for_nodes, RunsSayNothingThere}
use Rattle.search_laws.proofs.Grown.{facts_of-append, facts_of-says}
use Rattle.search_laws.proofs.Root.{Avoids, IsRooted, built_rooted, end_is_other}
use Rattle.search_laws.proofs.LongerGiven.{given_avoids}
use Rattle.search_laws.proofs.Running.{run_follows, given_there}
use Rattle.search_laws.proofs.KeptSteps.{keeping}
use Rattle.search_laws.proofs.LabelParts.{all_from}
use Rattle.search_laws.proofs.ParentsAsk.{HaveAsked, asked}

-- ---- lists of which no member passes

none_passes : (p : ℕ → Bool) (cs : List ℕ) → list_all (λ c. not (p c)) cs ≡ true → list_any p cs ≡ true → ⊥
none_passes p [] all some = cc
none_passes p (c ∷ cs) all some =
    let t = and_parts (not (p c)) (list_all (λ d. not (p d)) cs) all in
    elim (or_cases (p c) (list_any p cs) some) [
      | inl here ↦ (let k = ap not here in cc)
      | inr later ↦ none_passes p cs t.1 later
    ]

no_member : (p : ℕ → Bool) (ys : List ℕ) → ((y : ℕ) → ¬ (p y ≡ true)) → ¬ (list_any p ys ≡ true)
no_member p [] none some = cc
no_member p (y ∷ ys) none some = elim (or_cases (p y) (list_any p ys) some) [
  | inl here ↦ none y here
  | inr later ↦ no_member p ys none later
]

-- ---- facts that give a node no concept but top

-- the node `at` is given top alone
abbrev IsQuiet : ℕ → List (Fact ℕ) → Type 0
IsQuiet at fs = (c : ℕ) → list_any (puts_at at c) fs ≡ true → c ≡ 0

quiet_more : (at : ℕ) (fs gs : List (Fact ℕ)) → IsQuiet at fs → IsQuiet at gs → IsQuiet at (fs ++ gs)
quiet_more at fs gs h k c e =
    elim (or_cases (list_any (puts_at at c) fs) (list_any (puts_at at c) gs)
    (sym (list_any-append (puts_at at c) fs gs) ∙ e)) [
      | inl before ↦ h c before
      | inr now ↦ k c now
    ]

-- the fact gives it no concept but top
abbrev IsStill : ℕ → Fact ℕ → Type 0
IsStill at (Has x d) = x ≡ at → d ≡ 0
IsStill at (Edge r x y) = Unit {0}
IsStill at (Apart x y) = Unit {0}
IsStill at (Same x y) = Unit {0}

quiet_fact : (at : ℕ) (f : Fact ℕ) → IsStill at f → IsQuiet at (f ∷ [])
quiet_fact at (Has x d) still c e = elim (or_cases (eqb x at && eqb d c) false e) [
  | inl here ↦
      let t = and_parts (eqb x at) (eqb d c) here in
      sym (eqb-true d c t.1) ∙ still (eqb-true x at t.0)
  | inr no' ↦ absurd (cc)
]
quiet_fact at (Edge r x y) still c e = absurd (cc)
quiet_fact at (Apart x y) still c e = absurd (cc)
quiet_fact at (Same x y) still c e = absurd (cc)

avoids_still : (at : ℕ) (f : Fact ℕ) → Avoids at f → IsStill at f
avoids_still at (Has x d) out = λ e. absurd (out e)
avoids_still at (Edge r x y) out = tt
avoids_still at (Apart x y) out = tt
avoids_still at (Same x y) out = tt

-- new nodes are others
apart_quiet : (at y z n : ℕ) → IsQuiet at (apart_from y z n)
apart_quiet at y z zero c e = absurd (cc)
apart_quiet at y z (suc n) c e = apart_quiet at y (z + 1) n c e

pairs_quiet : (at first n : ℕ) → IsQuiet at (pairwise_apart first n)
pairs_quiet at first zero c e = absurd (cc)
pairs_quiet at first (suc n) c e =
    quiet_more at (apart_from first (first + 1) n) (pairwise_apart (first + 1) n)
    (apart_quiet at first (first + 1) n) (pairs_quiet at (first + 1) n) c e

new_quiet : (at x s e first n : ℕ) → at < first → IsQuiet at (new_nodes x s e first n)
new_quiet at x s e first zero lt c h = absurd (cc)
new_quiet at x s e first (suc n) lt c h =
    quiet_more at (Has first e ∷ []) (new_nodes x s e (first + 1) n)
    (quiet_fact at (Has first e) (λ same. absurd (omega (arith, same, lt))))
    (new_quiet at x s e (first + 1) n (omega (arith, lt))) c h

fresh_quiet : (at x s e first n : ℕ) → at < first → IsQuiet at (fresh_facts x s e first n)
fresh_quiet at x s e first n lt =
    quiet_more at (new_nodes x s e first n) (pairwise_apart first n) (new_quiet at x s e first n lt)
    (pairs_quiet at first n)

-- ---- a step that the trail keeps

module _ (q : Question) (table : List Shape) (rows : List Row) (good : IsTable table) (is_first : q.at < q.first)
    (unnamed : IsUnnamed q) where
  abbrev w : SearchContext
  w = context_of q table rows

  avoided : (f : Fact ℕ) → IsGiven w f → Avoids q.at f
  avoided = given_avoids q table rows unnamed

  abbrev Rooted : List (Fact ℕ) → Type 0
  Rooted fs = IsRooted w q.at is_first avoided fs

  -- what stands in a trail before the step
  record IsBefore (fs : List (Fact ℕ)) : Type 0 where
    rooted : Rooted fs
    quiet : IsQuiet q.at fs
    asked_for : HaveAsked w fs

  module _ (old : List (Fact ℕ)) (h : IsBefore old) where
    only_top : (c : ℕ) → has old q.at c ≡ true → c ≡ 0
    only_top c held =
        elim (or_cases (eqb c 0) (list_any (gives_concept (λ d. eqb d c) (rep old) (rep old q.at)) old) held) [
          | inl z ↦ eqb-true c 0 z
          | inr given ↦
              h.quiet c (given_there q.at c (rep old) (rep old q.at) h.rooted.stays h.rooted.alone old given)
        ]

    is_other : (x c : ℕ) (s : Shape) → ¬ (top ≡ s) → has old x c ≡ true → shape_of table c ≡ s → ¬ (x ≡ q.at)
    is_other x c s ne held sh e =
        let z : c ≡ 0 = only_top c (subst (λ (y : ℕ). has old y c ≡ true) e held) in
        ne (sym good.begins_with_top ∙ ap (shape_of table) (sym z) ∙ sh)

    not_end : (roles : ℕ → Bool) (x y : ℕ) → has_edge old roles x y ≡ true → ¬ (y ≡ q.at)
    not_end roles x y leads e =
        end_is_other w q.at is_first avoided old h.rooted roles x y leads (ap (rep old) e ∙ h.rooted.stays)

    not_parent : (x : ℕ) → ¬ (parent_from q.first old x ≡ Some q.at)
    not_parent x e =
        let by' = h.asked_for x q.at e in
        let k = ap (λ (c : ℕ). asks_for_nodes (shape_of table c)) (only_top by'.by by'.holds) in
        let l = by'.asks in
        let m = ap asks_for_nodes good.begins_with_top in
        cc

    not_begin : (roles : ℕ → Bool) (x y : ℕ) → has_edge old roles x y ≡ true → ¬ (x ≡ q.at)
    not_begin roles x y leads e =
        let is : rep old x ≡ q.at = ap (rep old) e ∙ h.rooted.stays in
        elim (h.rooted.tree.leads (rep old x) (rep old y) (any_edge old roles x y leads)) [
          | inl linked ↦
              (avoided (Edge linked.role linked.begin linked.end) linked.is_given).0
              (h.rooted.alone linked.begin (linked.at_begin ∙ is))
          | inr above ↦
              not_parent (rep old y)
              (parent_of_origin q.first old (rep old y) above.up above.not_first above.is_origin
              ∙ ap (λ (p : ℕ). Some p) (h.rooted.alone above.up (above.is_joined ∙ is)))
        ]

    -- it has no name
    no_name : (c : Concept) → ¬ (has_name w old q.at c ≡ true)
    no_name (name a) held =
        none_passes (λ c. is_named a (shape_of table c)) (label old q.at)
        (all_from (λ c. not (is_named a (shape_of table c))) (label old q.at)
        (λ c among.
        ap (λ (d : ℕ). not (is_named a (shape_of table d))) (only_top c (sym (any-label old q.at c) ∙ among))
        ∙ ap (λ (s : Shape). not (is_named a s)) good.begins_with_top)) held
    no_name _ held = cc

    -- a row that is used there is used there whatever else a trail says
    names_still : (now : List (Fact ℕ)) (cs : List Concept) (positions : List ℕ)
        → list_all (λ i. has_name w old q.at (conjunct_at cs i)) positions ≡ true
        → list_all (λ i. has_name w now q.at (conjunct_at cs i)) positions ≡ true
    names_still now cs [] used = refl
    names_still now cs (i ∷ is) used =
        let t =
        and_parts (has_name w old q.at (conjunct_at cs i)) (list_all (λ j. has_name w old q.at (conjunct_at cs j)) is)
        used in
        absurd (no_name (conjunct_at cs i) t.0)

    triggered_still : (now : List (Fact ℕ)) (p : Option Part) (t : Trigger) → is_triggered w old q.at p t ≡ true
        → is_triggered w now q.at p t ≡ true
    triggered_still now p always used = refl
    triggered_still now (Some (inclusion cs d)) (names positions) used = names_still now cs positions used
    triggered_still now (Some (range r d)) (names positions) used = absurd (cc)
    triggered_still now None (names positions) used = absurd (cc)
    triggered_still now p (edge s) used =
        absurd (no_member (λ y. has_edge old (λ r. q.theory.below r s) q.at y)
        (range_with_len 0 (node_count_from q.first old))
        (λ y leads. not_begin (λ r. q.theory.below r s) q.at y leads refl) used)
    triggered_still now p (end_of s) used =
        absurd (no_member (λ z. has_edge old (λ r. q.theory.below r s) z q.at)
        (range_with_len 0 (node_count_from q.first old))
        (λ z leads. not_end (λ r. q.theory.below r s) z q.at leads refl) used)

    -- ---- what the step gives

    module _ (last : List Item) (ends : IsSaturated w last)
        (bare : (c : ℕ) → has (facts_of last) q.at c ≡ true → c ≡ 0) where
      row_still : (row : Row) → Contains rows row
          → is_triggered w old q.at (part_at q.theory row.axiom_number row.part_number) row.trigger ≡ true
          → row.concept ≡ 0
      row_still row m used =
          bare row.concept
          (ends.no_add q.at row.concept
          (by_row q.at row (omega (arith, is_first, first_le q.first (facts_of last))) m
          (triggered_still (facts_of last) (part_at q.theory row.axiom_number row.part_number) row.trigger used)))

      adds_still : (x d : ℕ) → Adds w old x d → x ≡ q.at → d ≡ 0
      adds_still x d (by_and x' c d' parts lt held sh m) e =
          absurd (is_other x c (intersection parts) (λ k. cc) held sh e)
      adds_still x d (by_all x' y c s f lt mt held sh leads) e =
          absurd (not_end (λ r. q.theory.below r s) x' x leads e)
      adds_still x d (by_carry x' y c s t f d' carried sh) e =
          absurd (not_end (λ r. q.theory.below r t) x' x carried.edge e)
      adds_still x d (by_row x' row lt m used) e =
          row_still row m
          (subst
          (λ (y : ℕ). is_triggered w old y (part_at q.theory row.axiom_number row.part_number) row.trigger ≡ true) e
          used)

    -- the node that a branch gives a concept is another
    abbrev IsElsewhere : Branch → Type 0
    IsElsewhere (Or x c) = ¬ (x ≡ q.at)
    IsElsewhere (Choose y e) = ¬ (y ≡ q.at)
    IsElsewhere (Pair y z) = Unit {0}

    branch_elsewhere : (b : Branch) → MayBranch w old b → IsElsewhere b
    branch_elsewhere _ (on_union x c parts lt held sh none) = is_other x c (union parts) (λ k. cc) held sh
    branch_elsewhere _ (on_filler x c n s e y lt held sh next none out) =
        not_end (λ r. q.theory.below r s) x y (successor_has_edge old (λ r. q.theory.below r s) x y next)
    branch_elsewhere _ (on_pair x c n s e y z lt held sh many cy cz ne apart) = tt

    alternative_still : (b : Branch) (k : ℕ) (f : Fact ℕ) → IsElsewhere b → IsAlternative table b k f
        → IsStill q.at f
    alternative_still _ _ _ ne (of_union x c k d parts sh read) = λ e. absurd (ne e)
    alternative_still _ _ _ ne (of_filler y e) = λ same. absurd (ne same)
    alternative_still _ _ _ ne (of_complement y e d neg) = λ same. absurd (ne same)
    alternative_still _ _ _ ne (of_joining y z) = tt
    alternative_still _ _ _ ne (of_parting y z) = tt

    makes_quiet : (new : List (Fact ℕ)) → Generates w old new → IsQuiet q.at new
    makes_quiet _ (by_some x c s e at held sh none) =
        fresh_quiet q.at x s e (node_count_from q.first old) 1 (omega (arith, is_first, first_le q.first old))
    makes_quiet _ (by_least x c n s e at held sh none) =
        fresh_quiet q.at x s e (node_count_from q.first old) n (omega (arith, is_first, first_le q.first old))

  -- ---- a trail

  abbrev Built : List Item → Type 0
  Built is = IsBuilt q.first (IsGiven w) is

  built_old : (old new : List Item) → Built (old ++ new) → Built old
  built_old old new b =
      subst Built (take_at old new (length old) refl)
      (built_take q.first (IsGiven w) (old ++ new) (length old) b (omega (arith, length-append old new)))

  module _ (last : List Item) (ends : IsSaturated w last)
      (bare : (c : ℕ) → has (facts_of last) q.at c ≡ true → c ≡ 0) where
    before : (ns : List ℕ) (old : List Item) → IsGrown w (start q.at 0 0) ns old → Built old
        → IsQuiet q.at (facts_of old) → IsBefore (facts_of old)
    before ns old g b quiet = record {
      rooted = built_rooted w q.at is_first avoided old b;
      quiet = quiet;
      asked_for = asked w q.at 0 0 ns old g;
    }

    grown_quiet : (ns : List ℕ) (trail : List Item) → IsGrown w (start q.at 0 0) ns trail → Built trail
        → IsQuiet q.at (facts_of trail)
    grown_quiet ns trail at_first b =
        quiet_more q.at (Has q.at 0 ∷ []) (Has q.at 0 ∷ []) (quiet_fact q.at (Has q.at 0) (λ e. refl))
        (quiet_fact q.at (Has q.at 0) (λ e. refl))
    grown_quiet ns trail (by_add ms old x d g adds out) b =
        let b' = built_old old (says (Has x d ∷ [])) b in
        let quiet = grown_quiet ms old g b' in
        subst (IsQuiet q.at) (sym (facts_of-append old (says (Has x d ∷ []))))
        (quiet_more q.at (facts_of old) (Has x d ∷ []) quiet
        (quiet_fact q.at (Has x d) (adds_still (facts_of old) (before ms old g b' quiet) last ends bare x d adds)))
    grown_quiet ns trail (by_give ms old f g is_given out) b =
        let b' = built_old old (says (f ∷ [])) b in
        subst (IsQuiet q.at) (sym (facts_of-append old (says (f ∷ []))))
        (quiet_more q.at (facts_of old) (f ∷ []) (grown_quiet ms old g b')
        (quiet_fact q.at f (avoids_still q.at f (avoided f is_given))))
    grown_quiet ns trail (by_make ms old new g makes) b =
        let b' = built_old old (says new) b in
        let quiet = grown_quiet ms old g b' in
        subst (IsQuiet q.at) (sym (facts_of-append old (says new)))
        (quiet_more q.at (facts_of old) (facts_of (says new)) quiet
        (subst (IsQuiet q.at) (sym (facts_of-says new))
        (makes_quiet (facts_of old) (before ms old g b' quiet) new makes)))
    grown_quiet ns trail (by_choice ms old c f g may alt) b =
        let b' = built_old old (Mark c ∷ Says f ∷ []) b in
        let quiet = grown_quiet ms old g b' in
        let set = before ms old g b' quiet in
        subst (IsQuiet q.at) (sym (facts_of-append old (Mark c ∷ Says f ∷ [])))
        (quiet_more q.at (facts_of old) (f ∷ []) quiet
        (quiet_fact q.at f
        (alternative_still (facts_of old) set c.branch c.alternative f
        (branch_elsewhere (facts_of old) set c.branch may) alt)))

    -- ---- the run

    trail_quiet : (trail : List Item) (earlier : List (List Item)) → IsRun w (start q.at 0 0) (trail ∷ earlier)
        → IsQuiet q.at (facts_of trail)
    trail_quiet trail earlier run =
        let follows = run_follows q table [] rows (start q.at 0 0) trail earlier run in
        let kept = keeping w q.at 0 0 (length earlier) trail follows in
        grown_quiet kept.numbers trail kept.grown
        (reached_built w q.at 0 0 (length earlier) trail is_first follows)

    run_quiet : (trail : List Item) (earlier : List (List Item)) → IsRun w (start q.at 0 0) (trail ∷ earlier)
        → (c : ℕ) → was_ever (puts_at q.at c) (trail ∷ earlier) ≡ true → c ≡ 0
    run_quiet trail [] run c e =
        elim (or_cases (list_any (puts_at q.at c) (facts_of trail)) false e) [
          | inl now ↦ trail_quiet trail [] run c now
          | inr no' ↦ absurd (cc)
        ]
    run_quiet trail (one ∷ earlier) run c e =
        elim (or_cases (list_any (puts_at q.at c) (facts_of trail)) (was_ever (puts_at q.at c) (one ∷ earlier)) e) [
          | inl now ↦ trail_quiet trail (one ∷ earlier) run c now
          | inr then' ↦ run_quiet one earlier run.1 c then'
        ]

pub runs_say_nothing_there : RunsSayNothingThere
runs_say_nothing_there q table rows trail earlier good is_first unnamed run ends bare =
    run_quiet q table rows good is_first unnamed trail ends bare trail earlier run

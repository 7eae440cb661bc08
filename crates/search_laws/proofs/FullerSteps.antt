-- The same steps are legal where the node in question has two concepts from the start, and no step speaks of it.
use Rattle.std.proofs.Common.{◌≡◌, ℕ, zero, suc, ◌+◌, ◌<◌, ◌≤◌, ◌&&◌, ◌||◌, ◌⊎◌, eqb, Bool, true, false, List, []}
use Rattle.std.proofs.Common.{◌∷◌, ◌++◌}
use Rattle.std.proofs.Common.{length, take, Option, Some, None, refl, ap, ◌∙◌, sym, subst, arith, inl, inr, eq-eqb}
use Rattle.std.specs.List.{list_any, list_all, range_with_len, slice_get, All, Contains}
use Rattle.std.proofs.lemmas.Bool.{cases_Bool, cases_lt, and_parts, and_from, or_left, or_right, eqb-true}
use Rattle.std.proofs.lemmas.Bool.{false_from_ne_true}
use Rattle.std.proofs.lemmas.List.Elements.{All-get_or}
use Rattle.std.proofs.lemmas.Option.{slice_get_within, get_or_from_slice_get}
use Rattle.calculus_specs.specs.Concept.{Concept, name}
use Rattle.calculus_specs.specs.Shape.{Shape, shape_of, IsTable}
use Rattle.calculus_specs.specs.Shape.Shape.{top, bottom, name as name_shape, not_name, union}
use Rattle.calculus_specs.specs.Shape.Shape.{at_most}
use Rattle.calculus_specs.specs.Rules.{Question}
use Rattle.calculus_specs.specs.Rows.{Part, Row, IsChoice, Trigger, part_at, conjunct_at}
use Rattle.calculus_specs.specs.Rows.Part.{inclusion, range}
use Rattle.calculus_specs.specs.Rows.Trigger.{always, names, edge, end_of}
use Rattle.calculus_specs.specs.declared.facts.Fact.{Fact}
use Rattle.calculus_specs.specs.declared.facts.Fact.TheVariants.{Has, Edge, Apart, Same}
use Rattle.calculus_specs.specs.Joins.{rep}
use Rattle.calculus_specs.specs.State.{node_count_from, has, has_edge, all_apart, fresh_facts, is_so, speak_of_nodes}
use Rattle.calculus_specs.specs.State.{HaveParentsBefore}
use Rattle.calculus_specs.specs.Reading.{are_listed}
use Rattle.calculus_specs.proofs.Joined.{any-snoc, rep-le}
use Rattle.tableau_specs.specs.declared.Branch.{Branch}
use Rattle.tableau_specs.specs.declared.Choice.{Choice}
use Rattle.tableau_specs.specs.declared.Item.{Item}
use Rattle.tableau_specs.specs.declared.Item.TheVariants.{Fact as Says, Mark}
use Rattle.tableau_specs.specs.Items.{facts_of, says}
use Rattle.tableau_specs.specs.Clash.{filled_successors, IsClash, IsPlainClash}
use Rattle.tableau_specs.specs.Clash.IsClash.{of_bottom, of_names, of_most, of_differ}
use Rattle.tableau_specs.specs.Clash.IsPlainClash.{plain_bottom, plain_names, plain_most, plain_differ}
use Rattle.tableau_specs.specs.Steps.{is_named, has_name, has_names, is_triggered, is_run, IsGiven, Adds}
use Rattle.tableau_specs.specs.Steps.{IsCarried, IsOpen, Generates, MayBranch, IsLegal, next_choice}
use Rattle.tableau_specs.specs.Steps.Adds.{by_and, by_all, by_carry, by_row}
use Rattle.tableau_specs.specs.Steps.Generates.{by_some, by_least}
use Rattle.tableau_specs.specs.Steps.MayBranch.{on_union, on_filler, on_pair}
use Rattle.tableau_specs.specs.Steps.IsLegal.{add, give, generate, choose, back}
use Rattle.tableau_specs.specs.Reached.{start}
use Rattle.tableau_specs.proofs.Built.{facts_of-snoc}
use Rattle.tableau_specs.proofs.Grown.{before_run, is_grown}
use Rattle.tableau_specs.proofs.Listed.{listed, most_listed, branch_listed, BranchListed, ItemListed}
use Rattle.tableau_specs.proofs.PlainClash.{successor_has_edge, filled_are_successors}
use Rattle.search_laws.specs.Runs.{puts_at}
use Rattle.search_laws.specs.BeginningLaws.{is_inside, ParentsHaveMore}
use Rattle.search_laws.proofs.Counts.{not_none}
use Rattle.search_laws.proofs.Paths.{fresh_parent}
use Rattle.search_laws.proofs.Rising.{self_has}
use Rattle.search_laws.proofs.Root.{Avoids}
use Rattle.search_laws.proofs.Tally.{facts_after}
use Rattle.search_laws.proofs.Turned.{has_listed}
use Rattle.search_laws.proofs.LongerShapes.{same_shape, shape_up, shape_down, complement_down, alternative_up}
use Rattle.search_laws.proofs.LongerGiven.{given_up}
use Rattle.search_laws.proofs.ReuseSetting.{short, long}
use Rattle.search_laws.proofs.FullerStart.{bare_facts, full_facts, has_full, has_up, has_cases, has_other, label_up}
use Rattle.search_laws.proofs.FullerStart.{filled_same, run_same}
use Rattle.search_laws.proofs.FullerBlocks.{inside_each, inside_from, block_same}

-- what is so of the facts of each trail of the run
pub record IsBare (q : Question) (table more : List Shape) (a b : ℕ) (gs : List (Fact ℕ)) : Type 0 where
  pub known : are_listed (length table) (bare_facts q.at a b gs) ≡ true
  pub speaks : speak_of_nodes q.first (bare_facts q.at a b gs) ≡ true
  pub ends : (roles : ℕ → Bool) (x y : ℕ) → has_edge (bare_facts q.at a b gs) roles x y ≡ true
      → ¬ (rep (bare_facts q.at a b gs) y ≡ q.at)
  pub begins : (roles : ℕ → Bool) (x y : ℕ) → has_edge (bare_facts q.at a b gs) roles x y ≡ true
      → ¬ (rep (bare_facts q.at a b gs) x ≡ q.at)
  pub alone : (x : ℕ) → rep (bare_facts q.at a b gs) x ≡ q.at → x ≡ q.at
  pub stays : rep (bare_facts q.at a b gs) q.at ≡ q.at
  pub is_first : q.at < q.first
  pub only_top : (c : ℕ) → has (bare_facts q.at a b gs) q.at c ≡ true → c ≡ 0
  pub before : HaveParentsBefore q.first (bare_facts q.at a b gs)
  pub parents_have_more : ParentsHaveMore q.first a b (bare_facts q.at a b gs)
  pub start_is_clear : ¬ IsPlainClash q.first q.theory.below (table ++ more) (full_facts q.at a b [])

-- the last fact gives its node its concept
pub last_puts_at : (is : List Item) (x d : ℕ) → list_any (puts_at x d) (facts_of (is ++ Says (Has x d) ∷ [])) ≡ true
last_puts_at is x d =
    ap (list_any (puts_at x d)) (facts_of-snoc is (Has x d)) ∙ any-snoc (puts_at x d) (facts_of is) (Has x d)
    ∙ or_right (list_any (puts_at x d) (facts_of is)) (eqb x x && eqb d d) (self_has x d)

all_more : (p r : ℕ → Bool) → ((i : ℕ) → p i ≡ true → r i ≡ true) → (is : List ℕ) → list_all p is ≡ true
    → list_all r is ≡ true
all_more p r imp [] h = refl
all_more p r imp (i ∷ is) h =
    let t = and_parts (p i) (list_all p is) h in
    and_from (r i) (list_all r is) (imp i t.0) (all_more p r imp is t.1)

module _ (q : Question) (table more : List Shape) (rows : List Row) (good : IsTable table) (a b : ℕ) where
  module _ (gs : List (Fact ℕ)) (set : IsBare q table more a b gs) where
    abbrev old : List (Fact ℕ)
    old = bare_facts q.at a b gs

    abbrev new : List (Fact ℕ)
    new = full_facts q.at a b gs

    held_listed : (x c : ℕ) → has old x c ≡ true → c < length table
    held_listed x c h = has_listed (length table) old good.has_top set.known x c h

    up : (x c : ℕ) → has old x c ≡ true → has new x c ≡ true
    up = has_up q.first q.at a b gs set.stays

    other : (x c : ℕ) → ¬ (rep old x ≡ q.at) → has new x c ≡ has old x c
    other = has_other q.first q.at a b gs set.stays

    -- a node with a concept that is not top is another than the one in question
    is_other : (x c : ℕ) (s : Shape) → ¬ (top ≡ s) → has old x c ≡ true → shape_of table c ≡ s → ¬ (rep old x ≡ q.at)
    is_other x c s ne h sh e =
        let z : c ≡ 0 = set.only_top c (subst (λ (y : ℕ). has old y c ≡ true) (set.alone x e) h) in
        ne (sym good.begins_with_top ∙ ap (shape_of table) (sym z) ∙ sh)

    -- what the node in question has is of the start
    of_start : (c : ℕ) → has new q.at c ≡ true → has (full_facts q.at a b []) q.at c ≡ true
    of_start c h = elim (has_cases q.first q.at a b gs set.stays q.at c h) [
      | inl held ↦
          subst (λ (d : ℕ). has (full_facts q.at a b []) q.at d ≡ true) (sym (set.only_top c held)) refl
      | inr root ↦
          has_full q.first q.at a b [] refl q.at c
          ∙ or_right (has (bare_facts q.at a b []) q.at c) (eqb q.at q.at && (eqb a c || eqb b c))
          (and_from (eqb q.at q.at) (eqb a c || eqb b c) (eq-eqb q.at q.at refl) (elim root.1 [
            | inl one ↦ or_left (eqb a c) (eqb b c) (eq-eqb a c one)
            | inr two ↦ or_right (eqb a c) (eqb b c) (eq-eqb b c two)
          ]))
    ]

    start_has : (x c : ℕ) → rep old x ≡ q.at → has new x c ≡ true → has (full_facts q.at a b []) q.at c ≡ true
    start_has x c e h = of_start c (subst (λ (y : ℕ). has new y c ≡ true) (set.alone x e) h)

    filled : (x s e : ℕ)
        → filled_successors q.first q.theory.below new x s e ≡ filled_successors q.first q.theory.below old x s e
    filled x s e = filled_same q.first q.at a b gs set.stays set.ends q.theory.below x s e

    -- ---- clashes

    down : (x c : ℕ) (s : Shape) → ¬ (rep old x ≡ q.at) → has new x c ≡ true → shape_of (table ++ more) c ≡ s
        → (has old x c ≡ true) × (shape_of table c ≡ s)
    down x c s ne h sh =
        let before : has old x c ≡ true = sym (other x c ne) ∙ h in
        (before, shape_down table more c s (held_listed x c before) sh)

    elsewhere : (x : ℕ) → eqb (rep old x) q.at ≡ false → ¬ (rep old x ≡ q.at)
    elsewhere x miss e = (let k = eq-eqb (rep old x) q.at e in cc)

    pub plain_down : IsPlainClash q.first q.theory.below (table ++ more) new
        → IsPlainClash q.first q.theory.below table old
    plain_down (plain_bottom x c lt h sh) = elim (cases_Bool (eqb (rep old x) q.at)) [
      | inl root ↦
          absurd (set.start_is_clear (plain_bottom q.at c set.is_first
          (start_has x c (eqb-true (rep old x) q.at root) h) sh))
      | inr miss ↦ (let t = down x c bottom (elsewhere x miss) h sh in plain_bottom x c lt t.0 t.1)
    ]
    plain_down (plain_names x c d n lt h sh g th) = elim (cases_Bool (eqb (rep old x) q.at)) [
      | inl root ↦
          let e = eqb-true (rep old x) q.at root in
          absurd (set.start_is_clear
          (plain_names q.at c d n set.is_first (start_has x c e h) sh (start_has x d e g) th))
      | inr miss ↦
          let t = down x c (name_shape n) (elsewhere x miss) h sh in
          let u = down x d (not_name n) (elsewhere x miss) g th in
          plain_names x c d n lt t.0 t.1 u.0 u.1
    ]
    plain_down (plain_most x c n s e lt h sh many apart) = elim (cases_Bool (eqb (rep old x) q.at)) [
      | inl root ↦
          let next = filled_are_successors q.first q.theory.below new x s e 0 0 (omega (arith, many)) in
          absurd (set.begins (λ r. q.theory.below r s) x _
          (successor_has_edge new (λ r. q.theory.below r s) x _ next) (eqb-true (rep old x) q.at root))
      | inr miss ↦
          let t = down x c (at_most n s e) (elsewhere x miss) h sh in
          plain_most x c n s e lt t.0 t.1 (subst (λ (ys : List ℕ). n < length ys) (filled x s e) many)
          (subst (λ (ys : List ℕ). all_apart old ys ≡ true) (filled x s e) apart)
    ]
    plain_down (plain_differ y z lt mt apart same) = plain_differ y z lt mt apart same

    pub clash_up : IsClash q.first q.theory.below table old → IsClash q.first q.theory.below (table ++ more) new
    clash_up (of_bottom x c lt h sh) = of_bottom x c lt (up x c h) (shape_up table more c _ (λ k. cc) sh)
    clash_up (of_names x c d n lt h sh g th) =
        of_names x c d n lt (up x c h) (shape_up table more c _ (λ k. cc) sh) (up x d g)
        (shape_up table more d _ (λ k. cc) th)
    clash_up (of_most x c n s e ys lt h sh len all apart) =
        of_most x c n s e ys lt (up x c h) (shape_up table more c _ (λ k. cc) sh) len
        (run_same q.first q.at a b gs set.stays set.ends q.theory.below x s e ys ∙ all) apart
    clash_up (of_differ y z lt mt apart same) = of_differ y z lt mt apart same

    -- ---- Add

    is_named_up : (n c : ℕ) → is_named n (shape_of table c) ≡ true → is_named n (shape_of (table ++ more) c) ≡ true
    is_named_up n c h =
        let lt = listed table c (λ k. (let l = ap (is_named n) k in cc)) in
        ap (is_named n) (same_shape table more c lt) ∙ h

    name_up : (x : ℕ) (t : Concept) → has_name (short q table more rows) old x t ≡ true
        → has_name (long q table more rows) new x t ≡ true
    name_up x (name n) h =
        label_up q.first q.at a b gs set.stays (λ c. is_named n (shape_of table c))
        (λ c. is_named n (shape_of (table ++ more) c)) (is_named_up n) x h
    name_up x _ h = h

    names_up : (x : ℕ) (positions : List ℕ) (p : Option Part)
        → has_names (short q table more rows) old x positions p ≡ true
        → has_names (long q table more rows) new x positions p ≡ true
    names_up x positions (Some (inclusion cs d)) h =
        all_more (λ i. has_name (short q table more rows) old x (conjunct_at cs i))
        (λ i. has_name (long q table more rows) new x (conjunct_at cs i)) (λ i. name_up x (conjunct_at cs i)) positions
        h
    names_up x positions (Some (range r d)) h = h
    names_up x positions None h = h

    trigger_up : (x : ℕ) (p : Option Part) (t : Trigger) → is_triggered (short q table more rows) old x p t ≡ true
        → is_triggered (long q table more rows) new x p t ≡ true
    trigger_up x p always h = h
    trigger_up x p (names positions) h = names_up x positions p h
    trigger_up x p (edge s) h = h
    trigger_up x p (end_of s) h = h

    carried_up : (x y c s t e : ℕ) → IsCarried (short q table more rows) old x y c s t e
        → IsCarried (long q table more rows) new x y c s t e
    carried_up x y c s t e h = record {
      begin_is_node = h.begin_is_node;
      end_is_node = h.end_is_node;
      holds = up x c h.holds;
      shape = shape_up table more c _ (λ k. cc) h.shape;
      transitive = h.transitive;
      role_below = h.role_below;
      edge = h.edge;
    }

    adds_up : (x d : ℕ) → Adds (short q table more rows) old x d → Adds (long q table more rows) new x d
    adds_up x d (by_and x' c d' parts lt h sh m) =
        by_and x c d parts lt (up x c h) (shape_up table more c _ (λ k. cc) sh) m
    adds_up x d (by_all x' y c s e lt mt h sh leads) =
        by_all x' x c s d lt mt (up x' c h) (shape_up table more c _ (λ k. cc) sh) leads
    adds_up x d (by_carry x' y c s t e d' carried sh) =
        by_carry x' x c s t e d (carried_up x' x c s t e carried) (shape_up table more d _ (λ k. cc) sh)
    adds_up x d (by_row x' row lt m used) =
        by_row x row lt m (trigger_up x (part_at q.theory row.axiom_number row.part_number) row.trigger used)

    -- ---- Generate

    -- who makes a node has a label that is not inside the start, since it is its parent then
    outside_above : (x s e n : ℕ) → x < node_count_from q.first old → q.first ≤ rep old x
        → ParentsHaveMore q.first a b (old ++ fresh_facts x s e (node_count_from q.first old) (suc n))
        → is_inside a b old x ≡ false
    outside_above x s e n lt above have = false_from_ne_true (is_inside a b old x) (λ h.
        let count = node_count_from q.first old in
        let later = old ++ fresh_facts x s e count (suc n) in
        let grown = is_grown q.first old x s e (suc n) set.speaks in
        let none = before_run (rep old x) count (suc n) (omega (arith, lt, rep-le old x)) in
        let was : (c : ℕ) → has later x c ≡ has old x c =
        λ c. grown.holds x c ∙ ap (λ (t : Bool). has old x c || (t && eqb e c)) none ∙ or-nothing (has old x c) in
        let still : is_inside a b later x ≡ true =
        inside_from a b later x (λ c held. inside_each a b old x c h (sym (was c) ∙ held)) in
        let out =
        have count x (fresh_parent q.first old x s e (suc n) count (omega arith) (omega arith))
        (subst (λ (m : ℕ → ℕ). q.first ≤ m x) (sym grown.reps) above) in
        cc)
      where
        or-nothing : (t : Bool) → (t || false) ≡ t
        or-nothing true = refl
        or-nothing false = refl

    -- unless it is a first node
    outside : (x s e n : ℕ) → x < node_count_from q.first old → rep old x ≡ x
        → ParentsHaveMore q.first a b (old ++ fresh_facts x s e (node_count_from q.first old) (suc n))
        → (x < q.first) ⊎ (is_inside a b old x ≡ false)
    outside x s e n lt is have = elim (cases_lt x q.first) [
      | inl low ↦ inl low
      | inr high ↦ inr (outside_above x s e n lt (omega (arith, high, is)) have)
    ]

    open_up : (x : ℕ) → (x < q.first) ⊎ (is_inside a b old x ≡ false) → IsOpen (short q table more rows) old x
        → IsOpen (long q table more rows) new x
    open_up x out h = record {
      is_node = h.is_node;
      is_rep = h.is_rep;
      is_clear =
          block_same q.first q.at a b gs set.stays set.is_first set.alone set.only_top set.before
          set.parents_have_more x out
          ∙ h.is_clear;
    }

    same_run : (x s e m y : ℕ)
        → is_run (long q table more rows) new x s e m y ≡ is_run (short q table more rows) old x s e m y
    same_run x s e m y =
        ap (λ (t : Bool). t && all_apart old (range_with_len y m))
        (run_same q.first q.at a b gs set.stays set.ends q.theory.below x s e (range_with_len y m))

    generates_up : (fs : List (Fact ℕ)) → ParentsHaveMore q.first a b (old ++ fs)
        → Generates (short q table more rows) old fs → Generates (long q table more rows) new fs
    generates_up fs have (by_some x c s e at h sh none) =
        by_some x c s e (open_up x (outside x s e 0 at.is_node at.is_rep have) at) (up x c h)
        (shape_up table more c _ (λ k. cc) sh) (filled x s e ∙ none)
    generates_up fs have (by_least x c zero s e at h sh none) =
        absurd (not_none (short q table more rows) old x s e none)
    generates_up fs have (by_least x c (suc n) s e at h sh none) =
        by_least x c (suc n) s e (open_up x (outside x s e n at.is_node at.is_rep have) at) (up x c h)
        (shape_up table more c _ (λ k. cc) sh) (λ y. same_run x s e (suc n) y ∙ none y)

    -- ---- Choose

    may_up : (c : Branch) → MayBranch (short q table more rows) old c → MayBranch (long q table more rows) new c
    may_up _ (on_union x c parts lt h sh none) =
        let ne = is_other x c (union parts) (λ k. cc) h sh in
        on_union x c parts lt (up x c h) (shape_up table more c _ (λ k. cc) sh) (λ k d mt. other x _ ne ∙ none k d mt)
    may_up _ (on_filler x c n s e y lt h sh next none out) =
        let ne =
        set.ends (λ r. q.theory.below r s) x y (successor_has_edge old (λ r. q.theory.below r s) x y next) in
        on_filler x c n s e y lt (up x c h) (shape_up table more c _ (λ k. cc) sh) next (other y e ne ∙ none)
        (λ d neg. other y d ne ∙ false_from_ne_true (has old y d) (λ held.
        let k =
        out d (complement_down table more e d (most_listed (short q table more rows) good c n s e sh)
        (held_listed y d held) neg) in
        cc))
    may_up _ (on_pair x c n s e y z lt h sh many cy cz ne apart) =
        on_pair x c n s e y z lt (up x c h) (shape_up table more c _ (λ k. cc) sh)
        (subst (λ (ys : List ℕ). n < length ys) (sym (filled x s e)) many)
        (subst (λ (ys : List ℕ). Contains ys y) (sym (filled x s e)) cy)
        (subst (λ (ys : List ℕ). Contains ys z) (sym (filled x s e)) cz) ne apart

    -- ---- given facts

    so_same : (f : Fact ℕ) → Avoids q.at f → is_so new f ≡ is_so old f
    so_same (Has x c) ne = other x c (λ e. ne (set.alone x e))
    so_same (Edge r x y) ne = refl
    so_same (Apart x y) ne = refl
    so_same (Same x y) ne = refl

  -- ---- one step

  -- the trail goes on from the start with top alone, and so does the other one from its start
  pub record GoesOnToo (rest : List Item) (new' : List Item) : Type 0 where
    pub further : List Item
    pub splits : new' ≡ start q.at 0 0 ++ further
    pub is_legal : IsLegal (long q table more rows) (start q.at a b ++ rest) (start q.at a b ++ further)

  module _ (rest : List Item) (set : IsBare q table more a b (facts_of rest))
      (avoided : (f : Fact ℕ) → IsGiven (short q table more rows) f → Avoids q.at f)
      (items : All (ItemListed (length table)) (start q.at 0 0 ++ rest)) (fits : IsChoice q.theory table rows) where
    step_back : (place : ℕ) (c : Choice) (f : Fact ℕ)
        → slice_get (start q.at 0 0 ++ rest) place ≡ Some (Mark c)
        → (slice_get (start q.at a b ++ rest) place ≡ Some (Mark c)
        → IsLegal (long q table more rows) (start q.at a b ++ rest)
        (take place (start q.at a b ++ rest) ++ Mark (next_choice (long q table more rows) c) ∷ Says f ∷ []))
        → GoesOnToo rest
        (take place (start q.at 0 0 ++ rest) ++ Mark (next_choice (short q table more rows) c) ∷ Says f ∷ [])
    step_back zero c f read legal = absurd (cc)
    step_back (suc zero) c f read legal = absurd (cc)
    step_back (suc (suc place)) c f read legal = record {
      further = take place rest ++ Mark (next_choice (short q table more rows) c) ∷ Says f ∷ [];
      splits = refl;
      is_legal = legal read;
    }

    -- nothing is added at the node in question
    adds_elsewhere : (x d : ℕ)
        → ((c : ℕ) → list_any (puts_at q.at c) (facts_of ((start q.at 0 0 ++ rest) ++ Says (Has x d) ∷ [])) ≡ true
        → c ≡ 0)
        → has (bare_facts q.at a b (facts_of rest)) x d ≡ false
        → ¬ (rep (bare_facts q.at a b (facts_of rest)) x ≡ q.at)
    adds_elsewhere x d quiet out e =
        let is : List Item = start q.at 0 0 ++ rest in
        let there =
        subst (λ (y : ℕ). list_any (puts_at y d) (facts_of (is ++ Says (Has x d) ∷ [])) ≡ true) (set.alone x e)
        (last_puts_at is x d) in
        let k =
        subst (λ (c : ℕ). has (bare_facts q.at a b (facts_of rest)) x c ≡ false) (quiet d there) out in
        cc

    pub goes_on : (new' : List Item) → ((c : ℕ) → list_any (puts_at q.at c) (facts_of new') ≡ true → c ≡ 0)
        → ParentsHaveMore q.first a b (facts_of new')
        → IsLegal (short q table more rows) (start q.at 0 0 ++ rest) new' → GoesOnToo rest new'
    goes_on new' quiet have (add x d nc adds out) = record {
      further = rest ++ Says (Has x d) ∷ [];
      splits = refl;
      is_legal =
          add x d (λ k. nc (plain_down (facts_of rest) set k)) (adds_up (facts_of rest) set x d adds)
          (other (facts_of rest) set x d (adds_elsewhere x d quiet out) ∙ out);
    }
    goes_on new' quiet have (give f nc given out) = record {
      further = rest ++ Says f ∷ [];
      splits = refl;
      is_legal =
          give f (λ k. nc (plain_down (facts_of rest) set k)) (given_up q table more rows f given)
          (so_same (facts_of rest) set f (avoided f given) ∙ out);
    }
    goes_on new' quiet have (generate fs nc makes) = record {
      further = rest ++ says fs;
      splits = refl;
      is_legal =
          generate fs (λ k. nc (plain_down (facts_of rest) set k))
          (generates_up (facts_of rest) set fs
          (subst (ParentsHaveMore q.first a b) (facts_after (start q.at 0 0 ++ rest) fs) have) makes);
    }
    goes_on new' quiet have (choose c f nc may one alt) = record {
      further = rest ++ Mark c ∷ Says f ∷ [];
      splits = refl;
      is_legal =
          choose c f (λ k. nc (plain_down (facts_of rest) set k)) (may_up (facts_of rest) set c.branch may) one
          (alternative_up table more c.branch 1 f
          (branch_listed q table rows good fits (bare_facts q.at a b (facts_of rest)) c.branch may) alt);
    }
    goes_on new' quiet have (back place c f clash read alt) =
        let is : List Item = start q.at 0 0 ++ rest in
        let about : BranchListed (length table) c.branch =
        (let g =
        All-get_or (ItemListed (length table)) is place (Mark c) (slice_get_within is place (Mark c) read) items in
        rw (get_or_from_slice_get is place (Mark c) (Mark c) read) at g) in
        step_back place c f read
        (λ again. back place c f (clash_up (facts_of rest) set clash) again
        (alternative_up table more c.branch (c.alternative + 1) f about alt))

-- What nodes had when nodes were made below them differs along a path, so that paths are short.
use Rattle.std.proofs.Common.{◌≡◌, ℕ, zero, suc, ◌+◌, ◌^◌, ◌<◌, ◌≤◌, ◌&&◌, ◌||◌, eqb, Bool, true, false, List, [], ◌∷◌}
use Rattle.std.proofs.Common.{◌++◌, length, Some, refl, ap, ◌∙◌, sym, subst, arith, inl, inr, eq-eqb}
use Rattle.std.specs.List.{list_any, list_all, IsDistinct, AllByRecursion}
use Rattle.std.proofs.lemmas.Bool.{cases_Bool, cases_eq, cases_lt, and_parts, and_from, or_cases, or_left, or_right}
use Rattle.std.proofs.lemmas.Bool.{eqb-true, ne_eqb}
use Rattle.std.proofs.lemmas.Map.Steps.{length-le_from_distinct_below}
use Rattle.calculus_specs.specs.declared.facts.Fact.{Fact}
use Rattle.calculus_specs.specs.declared.facts.Fact.TheVariants.{Has, Edge, Apart, Same}
use Rattle.calculus_specs.specs.Joins.{rep}
use Rattle.calculus_specs.specs.State.{first_origin, parent_from, gives_concept, gives_edge, has, label, is_label_part}
use Rattle.calculus_specs.specs.State.{node_count_from, new_nodes, pairwise_apart, fresh_facts}
use Rattle.calculus_specs.proofs.Joined.{rep-le, rep-joined, joined-rep}
use Rattle.calculus_specs.proofs.State.{any-label}
use Rattle.tableau_specs.specs.declared.Block.TheVariants.{Clear}
use Rattle.tableau_specs.specs.Blocked.{block_of}
use Rattle.tableau_specs.specs.StateLaws.{BlockSays}
use Rattle.tableau_specs.specs.StepLaws.{any_role}
use Rattle.tableau_specs.proofs.Blocks.{blocks_say}
use Rattle.tableau_specs.specs.Steps.{SearchContext, IsGiven, IsOpen}
use Rattle.tableau_specs.proofs.Legal.{given_on_first}
use Rattle.tableau_specs.proofs.GenerateLines.{count-fresh}
use Rattle.tableau_specs.proofs.TreeShaped.{IsTreeShaped, linked_first, no_origin, first_le, origin_of_parent}
use Rattle.tableau_specs.proofs.TreeShaped.{parent_of_origin}
use Rattle.search_laws.proofs.Rising.{is_has, AreIn}
use Rattle.search_laws.proofs.Codes.{code, code_below, code_says}
use Rattle.search_laws.proofs.Asked.{has_stays}
use Rattle.search_laws.proofs.Plain.{origin-append, origin_keeps}
use Rattle.search_laws.proofs.Level.{level, fresh_old, fresh_new}

-- ---- labels

-- the node to which a fact gives what a node has, whose representative is `at`
pub record Giver (m : ℕ → ℕ) (at d : ℕ) (fs : List (Fact ℕ)) : Type 0 where
  pub node : ℕ
  pub stands : m node ≡ at
  pub gives : list_any (is_has node d) fs ≡ true

pub giver : (m : ℕ → ℕ) (at d : ℕ) (fs : List (Fact ℕ)) → list_any (gives_concept (λ e. eqb e d) m at) fs ≡ true
    → Giver m at d fs
giver m at d [] h = cc
giver m at d (Has y e ∷ fs) h =
    elim (or_cases (eqb (m y) at && eqb e d) (list_any (gives_concept (λ c. eqb c d) m at) fs) h) [
      | inl here ↦
          let t = and_parts (eqb (m y) at) (eqb e d) here in
          record {
            node = y;
            stands = eqb-true (m y) at t.0;
            gives =
                or_left (eqb y y && eqb e d) (list_any (is_has y d) fs)
                (and_from (eqb y y) (eqb e d) (eq-eqb y y refl) t.1);
          }
      | inr later ↦
          let r = giver m at d fs later in
          record {
            node = r.node;
            stands = r.stands;
            gives = or_right (eqb y r.node && eqb e d) (list_any (is_has r.node d) fs) r.gives;
          }
    ]
giver m at d (Edge r y z ∷ fs) h =
    let g = giver m at d fs h in record { node = g.node; stands = g.stands; gives = g.gives }
giver m at d (Apart y z ∷ fs) h =
    let g = giver m at d fs h in record { node = g.node; stands = g.stands; gives = g.gives }
giver m at d (Same y z ∷ fs) h =
    let g = giver m at d fs h in record { node = g.node; stands = g.stands; gives = g.gives }

-- what a node has, other than top, is in the list
pub had_in : (ds : List ℕ) (fs : List (Fact ℕ)) (x d : ℕ) → AreIn ds fs → has fs x d ≡ true → ¬ (d ≡ 0)
    → list_any (eqb d) ds ≡ true
had_in ds fs x d all h ne =
    elim (or_cases (eqb d 0) (list_any (gives_concept (λ e. eqb e d) (rep fs) (rep fs x)) fs) h) [
      | inl zero' ↦ absurd (ne (eqb-true d 0 zero'))
      | inr given ↦ let g = giver (rep fs) (rep fs x) d fs given in all g.node d g.gives
    ]

pub all_pass : (p : ℕ → Bool) (cs : List ℕ) → ((d : ℕ) → list_any (λ e. eqb e d) cs ≡ true → p d ≡ true)
    → list_all p cs ≡ true
all_pass p [] imp = refl
all_pass p (c ∷ cs) imp =
    and_from (p c) (list_all p cs) (imp c (or_left (eqb c c) (list_any (λ e. eqb e c) cs) (eq-eqb c c refl)))
    (all_pass p cs (λ d h. imp d (or_right (eqb c d) (list_any (λ e. eqb e d) cs) h)))

-- where one node has of the list all that another has, the label of the other is part of its own
label_part : (ds : List ℕ) (fs : List (Fact ℕ)) (x z : ℕ) → AreIn ds fs
    → ((d : ℕ) → list_any (eqb d) ds ≡ true → has fs x d ≡ true → has fs z d ≡ true) → is_label_part fs x z ≡ true
label_part ds fs x z all imp = all_pass (has fs z) (label fs x) (λ d h.
    let held : has fs x d ≡ true = sym (any-label fs x d) ∙ h in
    elim (cases_eq d 0) [
      | inl zero' ↦
          or_left (eqb d 0) (list_any (gives_concept (λ e. eqb e d) (rep fs) (rep fs z)) fs) (eq-eqb d 0 zero')
      | inr ne ↦ imp d (had_in ds fs x d all held ne) held
    ])

-- ---- the nodes above a node

pub parent_keeps : (first : ℕ) (fs gs : List (Fact ℕ)) (x p : ℕ) → parent_from first fs x ≡ Some p
    → parent_from first (fs ++ gs) x ≡ Some p
parent_keeps first fs gs x p h =
    let o = origin_of_parent first fs x p h in
    parent_of_origin first (fs ++ gs) x p o.0 (origin_keeps fs gs x p o.1)

-- the node o stands above x
pub data IsAbove (first : ℕ) (fs : List (Fact ℕ)) (o : ℕ) : ℕ → Type 0 where
  is_parent : (x : ℕ) → parent_from first fs x ≡ Some o → IsAbove first fs o x
  beyond : (x p : ℕ) → parent_from first fs x ≡ Some p → IsAbove first fs o p → IsAbove first fs o x

above_stays : (first : ℕ) (fs gs : List (Fact ℕ)) (o x : ℕ) → IsAbove first fs o x → IsAbove first (fs ++ gs) o x
above_stays first fs gs o x (is_parent x' h) = is_parent x (parent_keeps first fs gs x o h)
above_stays first fs gs o x (beyond x' p h a) =
    beyond x p (parent_keeps first fs gs x p h) (above_stays first fs gs o p a)

-- an edge leads to a node from where the first into it begins
origin_has_edge : (m : ℕ → ℕ) (fs : List (Fact ℕ)) (x p : ℕ) → first_origin fs x ≡ Some p
    → list_any (gives_edge any_role m (m p) (m x)) fs ≡ true
origin_has_edge m [] x p h = cc
origin_has_edge m (Has v c ∷ fs) x p h = origin_has_edge m fs x p h
origin_has_edge m (Apart v u ∷ fs) x p h = origin_has_edge m fs x p h
origin_has_edge m (Same v u ∷ fs) x p h = origin_has_edge m fs x p h
origin_has_edge m (Edge r v u ∷ fs) x p h = elim (cases_Bool (eqb u x)) [
  | inl hit ↦
      let k : Some v ≡ Some p = rw hit at h in
      let same : v ≡ p = cc in
      or_left (eqb (m v) (m p) && eqb (m u) (m x)) (list_any (gives_edge any_role m (m p) (m x)) fs)
      (and_from (eqb (m v) (m p)) (eqb (m u) (m x)) (eq-eqb (m v) (m p) (ap m same))
      (eq-eqb (m u) (m x) (ap m (eqb-true u x hit))))
  | inr miss ↦
      or_right (gives_edge {C = ℕ} any_role m (m p) (m x) (Edge r v u))
      (list_any (gives_edge any_role m (m p) (m x)) fs) (origin_has_edge m fs x p (rw miss at h))
]

-- ---- new nodes

new_origin_at : (x s e next n : ℕ) (rest : List (Fact ℕ)) (v : ℕ) → next ≤ v → v < next + n
    → first_origin (new_nodes x s e next n ++ rest) v ≡ Some x
new_origin_at x s e next zero rest v from before = absurd (omega arith)
new_origin_at x s e next (suc n) rest v from before = elim (cases_eq next v) [
  | inl at ↦ rw (eq-eqb next v at) refl
  | inr ne ↦ rw (ne_eqb next v ne) (new_origin_at x s e (next + 1) n rest v (omega arith) (omega arith))
]

pub fresh_parent : (first : ℕ) (fs : List (Fact ℕ)) (x s e n v : ℕ) → node_count_from first fs ≤ v
    → v < node_count_from first fs + n
    → parent_from first (fs ++ fresh_facts x s e (node_count_from first fs) n) v ≡ Some x
fresh_parent first fs x s e n v from before =
    parent_of_origin first (fs ++ fresh_facts x s e (node_count_from first fs) n) v x
    (omega (arith, first_le first fs))
    (origin-append fs (fresh_facts x s e (node_count_from first fs) n) v (no_origin first fs v from)
    ∙ new_origin_at x s e (node_count_from first fs) n (pairwise_apart (node_count_from first fs) n) v from before)

-- ---- what nodes had

module _ (first : ℕ) (ds : List ℕ) where
  -- a node above x had these concepts of the list when a node was made below it, on the path to x; it has them still
  pub record WasAt (fs : List (Fact ℕ)) (x q : ℕ) : Type 0 where
    node : ℕ
    had : ℕ → Bool
    is_code : q ≡ code ds had
    has_still : (d : ℕ) → had d ≡ true → has fs node d ≡ true
    is_above : IsAbove first fs node x

  -- what each node above x had, and no two had the same
  pub record IsTraced (fs : List (Fact ℕ)) (x : ℕ) : Type 0 where
    codes : List ℕ
    long : length codes ≡ level first fs x
    each : (q : ℕ) → list_any (eqb q) codes ≡ true → WasAt fs x q
    different : IsDistinct eqb codes

  abbrev pub AreTraced : List (Fact ℕ) → Type 0
  AreTraced fs = (x : ℕ) → x < node_count_from first fs → IsTraced fs x

  -- so few nodes stand above it
  pub few_above : (fs : List (Fact ℕ)) (x : ℕ) → IsTraced fs x → level first fs x ≤ 2 ^ length ds
  few_above fs x t = omega (
    arith,
    t.long,
    length-le_from_distinct_below t.codes (2 ^ length ds) t.different
        (λ q h. let o = t.each q h in omega (arith, o.is_code, code_below ds o.had)),
  )

  none_above : (fs : List (Fact ℕ)) (x : ℕ) → level first fs x ≡ 0 → IsTraced fs x
  unfolding IsDistinct
  none_above fs x low = record { codes = []; long = sym low; each = λ q h. cc; different = tt }

  was_stays : (fs gs : List (Fact ℕ)) (x q : ℕ) → WasAt fs x q → WasAt (fs ++ gs) x q
  was_stays fs gs x q o = record {
    node = o.node;
    had = o.had;
    is_code = o.is_code;
    has_still = λ d h. has_stays fs gs o.node d (o.has_still d h);
    is_above = above_stays first fs gs o.node x o.is_above;
  }

  pub traced_stays : (fs gs : List (Fact ℕ)) (x : ℕ) → level first (fs ++ gs) x ≡ level first fs x → IsTraced fs x
      → IsTraced (fs ++ gs) x
  traced_stays fs gs x same t = record {
    codes = t.codes;
    long = t.long ∙ sym same;
    each = λ q h. was_stays fs gs x q (t.each q h);
    different = t.different;
  }

  pub traced_start : (at a b : ℕ) → AreTraced (Has at a ∷ Has at b ∷ [])
  traced_start at a b x lt = none_above (Has at a ∷ Has at b ∷ []) x refl

  differ : (q : ℕ) (codes : List ℕ) → ((c : ℕ) → list_any (eqb c) codes ≡ true → ¬ (q ≡ c))
      → AllByRecursion (λ c. eqb q c ≡ false) codes
  differ q [] h = tt
  differ q (c ∷ codes) h = (
    ne_eqb q c (h c (or_left (eqb c c) (list_any (eqb c) codes) (eq-eqb c c refl))),
    differ q codes (λ d k. h d (or_right (eqb d c) (list_any (eqb d) codes) k)),
  )

  -- a new node below x, where no node above x had what x has
  traced_below : (fs gs : List (Fact ℕ)) (x v : ℕ) → parent_from first (fs ++ gs) v ≡ Some x
      → level first (fs ++ gs) v ≡ level first fs x + 1 → (t : IsTraced fs x)
      → ((q : ℕ) → list_any (eqb q) t.codes ≡ true → ¬ (code ds (has fs x) ≡ q)) → IsTraced (fs ++ gs) v
  unfolding IsDistinct
  traced_below fs gs x v up high t new = record {
    codes = code ds (has fs x) ∷ t.codes;
    long = omega (arith, high, t.long);
    each = λ q h. elim (or_cases (eqb q (code ds (has fs x))) (list_any (eqb q) t.codes) h) [
      | inl here ↦ record {
        node = x;
        had = has fs x;
        is_code = eqb-true q (code ds (has fs x)) here;
        has_still = λ d k. has_stays fs gs x d k;
        is_above = is_parent v up;
      }
      | inr later ↦
          let o = was_stays fs gs x q (t.each q later) in
          record {
            node = o.node;
            had = o.had;
            is_code = o.is_code;
            has_still = o.has_still;
            is_above = beyond v x up o.is_above;
          }
    ];
    different = (differ (code ds (has fs x)) t.codes new, t.different);
  }

-- ---- nodes are made below clear nodes

module _ (w : SearchContext) (ds : List ℕ) (fs : List (Fact ℕ)) (all : AreIn ds fs)
    (g : IsTreeShaped w.first (IsGiven w) (given_on_first w) fs) where
  parents_less : (v p : ℕ) → parent_from w.first fs v ≡ Some p → p < v
  parents_less v p h = let o = origin_of_parent w.first fs v p h in g.less v p o.0 o.1

  above_less : (o x : ℕ) → IsAbove w.first fs o x → o < x
  above_less o x (is_parent x' h) = parents_less x o h
  above_less o x (beyond x' p h a) = omega (arith, above_less o p a, parents_less x p h)

  above_is_later : (o x : ℕ) → IsAbove w.first fs o x → w.first ≤ x
  above_is_later o x (is_parent x' h) = (origin_of_parent w.first fs x o h).0
  above_is_later o x (beyond x' p h a) = (origin_of_parent w.first fs x p h).0

  rep_rep : (x : ℕ) → rep fs (rep fs x) ≡ rep fs x
  rep_rep x = sym (rep-joined fs x (rep fs x) (joined-rep fs x))

  say_clear : (x : ℕ) → w.first ≤ x → block_of w.first fs x ≡ Clear → BlockSays w.first fs x Clear
  say_clear x from c = subst (BlockSays w.first fs x) c ((blocks_say w.first fs parents_less).1 x from)

  -- where a node was joined to a first node, its parent was too, and first nodes are clear
  clear_parent : (x p : ℕ) → parent_from w.first fs x ≡ Some p → block_of w.first fs (rep fs x) ≡ Clear
      → block_of w.first fs (rep fs p) ≡ Clear
  clear_parent x p h c =
      let o = origin_of_parent w.first fs x p h in
      elim (g.leads (rep fs p) (rep fs x) (origin_has_edge (rep fs) fs x p o.1)) [
        | inl linked ↦
            (blocks_say w.first fs parents_less).0 (rep fs p)
            (linked_first w.first (IsGiven w) (given_on_first w) (rep fs) (rep fs p) (rep fs x) (rep-le fs) linked).0
        | inr up ↦
            subst (λ (y : ℕ). block_of w.first fs y ≡ Clear) up.is_joined
            ((say_clear (rep fs x) up.not_first c).0 up.up
            (parent_of_origin w.first fs (rep fs x) up.up up.not_first up.is_origin))
      ]

  clear_above : (o x : ℕ) → IsAbove w.first fs o x → block_of w.first fs (rep fs x) ≡ Clear
      → block_of w.first fs (rep fs o) ≡ Clear
  clear_above o x (is_parent x' h) c = clear_parent x o h c
  clear_above o x (beyond x' p h a) c = clear_above o p a (clear_parent x p h c)

  rep_has : (o d : ℕ) → has fs o d ≡ true → has fs (rep fs o) d ≡ true
  rep_has o d h =
      ap (λ (r : ℕ). eqb d 0 || list_any (gives_concept (λ e. eqb e d) (rep fs) r) fs) (rep_rep o) ∙ h

  -- no node above an open one had what that has: it would block it
  had_other : (x : ℕ) → IsOpen w fs x → (q : ℕ) → WasAt w.first ds fs x q → ¬ (code ds (has fs x) ≡ q)
  had_other x at q o e =
      let part =
      label_part ds fs x (rep fs o.node) all (λ d in_list held.
      rep_has o.node d (o.has_still d (sym (code_says ds (has fs x) o.had (e ∙ o.is_code) d in_list) ∙ held))) in
      (say_clear x (above_is_later o.node x o.is_above) at.is_clear).1 (rep fs o.node) (record {
        is_less = omega (arith, rep-le fs o.node, above_less o.node x o.is_above);
        is_rep = rep_rep o.node;
        is_clear =
            clear_above o.node x o.is_above
            (subst (λ (y : ℕ). block_of w.first fs y ≡ Clear) (sym at.is_rep) at.is_clear);
        has_label = part;
      })

  -- so the nodes are traced once nodes are made
  pub traced_fresh : (x s e n : ℕ) → IsOpen w fs x → AreTraced w.first ds fs
      → AreTraced w.first ds (fs ++ fresh_facts x s e (node_count_from w.first fs) n)
  traced_fresh x s e n at t v lt = elim (cases_lt v (node_count_from w.first fs)) [
    | inl old ↦
        traced_stays w.first ds fs (fresh_facts x s e (node_count_from w.first fs) n) v
        (fresh_old w.first fs x s e n v old) (t v old)
    | inr new ↦
        let before : v < node_count_from w.first fs + n = omega (arith, lt, count-fresh w.first fs x s e n) in
        let mine = t x at.is_node in
        traced_below w.first ds fs (fresh_facts x s e (node_count_from w.first fs) n) x v
        (fresh_parent w.first fs x s e n v new before) (fresh_new w.first fs x s e n v at.is_node new before) mine
        (λ q h. had_other x at q (mine.each q h))
  ]

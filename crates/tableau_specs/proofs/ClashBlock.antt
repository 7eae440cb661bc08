-- New nodes.
use Rattle.std.proofs.Common.{◌≡◌, ℕ, zero, suc, ◌+◌, ◌<◌, ◌≤◌, ◌&&◌, ◌||◌, eqb, Bool, true, false, List, [], ◌∷◌, ◌++◌}
use Rattle.std.proofs.Common.{length, refl, ap, ◌∙◌, sym, subst, arith, inl, inr, eq-eqb, cond}
use Rattle.std.specs.Prelude.{◌↔◌}
use Rattle.std.specs.List.{list_any, list_all, range_with_len, filter, All}
use Rattle.std.proofs.lemmas.Bool.{eqb-true, or_cases, cases_Bool, cases_lt, ne_eqb, and_parts, or_right}
use Rattle.std.proofs.lemmas.List.{append-nil}
use Rattle.std.proofs.lemmas.List.Elements.{filter-append, All-head, All-tail, All-weaker}
use Rattle.std.proofs.Math.Bool.{or-false, and-false}
use Rattle.calculus_specs.specs.Shape.{Shape, shape_of}
use Rattle.calculus_specs.specs.Shape.Shape.{top, bottom, name, not_name, at_most}
use Rattle.calculus_specs.specs.declared.facts.Fact.{Fact}
use Rattle.calculus_specs.specs.Joins.{rep}
use Rattle.calculus_specs.specs.State.{node_count_from, gives_concept, gives_edge, has, has_edge, is_successor}
use Rattle.calculus_specs.specs.State.{are_apart, all_apart, fresh_facts, speak_of_nodes}
use Rattle.calculus_specs.proofs.Joined.{rep-le}
use Rattle.tableau_specs.specs.Clash.{filled_successors, IsPlainClash}
use Rattle.tableau_specs.specs.Clash.IsPlainClash.{plain_bottom, plain_names, plain_most, plain_differ}
use Rattle.tableau_specs.proofs.PlainClash.{successor_is_node, filled_are_successors}
use Rattle.tableau_specs.specs.Near.{IsOverrun, ClashesByNew}
use Rattle.tableau_specs.specs.Near.ClashesByNew.{new_bottom, new_overrun}
use Rattle.tableau_specs.proofs.Bare.{own_rep, no_concept, no_edge_from, no_edge_to}
use Rattle.tableau_specs.proofs.Grown.{in_run, before_run, from_run, IsGrown, is_grown}
use Rattle.tableau_specs.proofs.Moved.{overrun_at}

-- ---- lists of numbers in a row

pub filter_filter : (p q : ℕ → Bool) (xs : List ℕ) → filter q (filter p xs) ≡ filter (λ z. p z && q z) xs
filter_filter p q [] = refl
filter_filter p q (x ∷ xs) = elim (p x) as
    (λ b. filter q (cond b (x ∷ filter p xs) (filter p xs))
    ≡ cond (b && q x) (x ∷ filter (λ z. p z && q z) xs) (filter (λ z. p z && q z) xs))
    [ true ↦ ap (λ (ys : List ℕ). cond (q x) (x ∷ ys) ys) (filter_filter p q xs) | false ↦ filter_filter p q xs ]

zero_right : (a : ℕ) → a ≡ a + 0
zero_right a = omega arith

zero_left : (k : ℕ) → 0 + k ≡ k
zero_left k = omega arith

suc_left : (n k : ℕ) → suc n + k ≡ suc (n + k)
suc_left n k = omega arith

one_along : (a n : ℕ) → (a + 1) + n ≡ a + suc n
one_along a n = omega arith

range-append : (a n k : ℕ) → range_with_len a (n + k) ≡ range_with_len a n ++ range_with_len (a + n) k
range-append a zero k = (λ i. range_with_len (zero_right a i) (zero_left k i))
range-append a (suc n) k =
    (λ i. range_with_len a (suc_left n k i)) ∙ ap (λ (ys : List ℕ). a ∷ ys) (range-append (a + 1) n k)
    ∙ (λ i. a ∷ (range_with_len (a + 1) n ++ range_with_len (one_along a n i) k))

same_in_row : (p q : ℕ → Bool) (a n : ℕ) → ((z : ℕ) → a ≤ z → z < a + n → p z ≡ q z)
    → filter p (range_with_len a n) ≡ filter q (range_with_len a n)
same_in_row p q a zero same = refl
same_in_row p q a (suc n) same =
    ap (λ (b : Bool). cond b (a ∷ filter p (range_with_len (a + 1) n)) (filter p (range_with_len (a + 1) n)))
    (same a (omega arith) (omega arith))
    ∙ ap (λ (ys : List ℕ). cond (q a) (a ∷ ys) ys)
    (same_in_row p q (a + 1) n (λ z le lt. same z (omega (arith, le)) (omega (arith, lt))))

none_in_row : (p : ℕ → Bool) (a n : ℕ) → ((z : ℕ) → a ≤ z → p z ≡ false) → filter p (range_with_len a n) ≡ []
none_in_row p a zero none = refl
none_in_row p a (suc n) none = rw (none a (omega arith)) (none_in_row p (a + 1) n (λ z le. none z (omega (arith, le))))

falls_none : (y : ℕ) → y ≤ y
falls_none y = omega arith

in_own_run : (first n : ℕ) → 0 < n → in_run first first n ≡ true
in_own_run first zero pos = absurd (omega arith)
in_own_run first (suc n) pos = rw (eq-eqb first first refl) refl

-- a test of edges, of nodes and of concepts that fails
no_fit : (a E r z d : Bool) → (E && (z || d)) ≡ false → ((a && (E && r)) && (z || (r && d))) ≡ false
no_fit false E r z d h = refl
no_fit true false r z d h = refl
no_fit true true false z d h = refl
no_fit true true true z d h = h

module _ (base : ℕ) (below : ℕ → ℕ → Bool) (table : List Shape) (fs : List (Fact ℕ)) (x s e n : ℕ)
    (begins : shape_of table 0 ≡ top) (speak : speak_of_nodes base fs ≡ true)
    (within : x < node_count_from base fs) where
  abbrev first : ℕ
  first = node_count_from base fs

  abbrev after : List (Fact ℕ)
  after = fs ++ fresh_facts x s e first n

  grown : IsGrown base fs after x s e first n
  grown = is_grown base fs x s e n speak

  alone : (z : ℕ) → first ≤ z → rep fs z ≡ z
  alone z le = own_rep (λ y. y) first z fs falls_none speak le refl

  -- why a node has a concept then
  data Source (y c : ℕ) : Type 0 where
    is_old : y < first → has fs y c ≡ true → Source y c
    is_top : c ≡ 0 → Source y c
    is_new : first ≤ y → e ≡ c → Source y c

  top_alone : (y c : ℕ) → first ≤ y → has fs y c ≡ eqb c 0
  top_alone y c le =
      ap (λ (b : Bool). eqb c 0 || b)
      (ap (λ (a : ℕ). list_any (gives_concept (λ d. eqb d c) (rep fs) a) fs) (alone y le)
      ∙ no_concept (rep fs) first y (λ d. eqb d c) fs (rep-le fs) speak le)
      ∙ or-false (eqb c 0)

  source : (y c : ℕ) → has after y c ≡ true → Source y c
  source y c h = elim (or_cases (has fs y c) (in_run (rep fs y) first n && eqb e c) (sym (grown.holds y c) ∙ h)) [
    | inl before ↦ elim (cases_lt y first) [
      | inl lt ↦ is_old lt before
      | inr ge ↦ is_top (eqb-true c 0 (sym (top_alone y c ge) ∙ before))
    ]
    | inr new ↦
        let t = and_parts (in_run (rep fs y) first n) (eqb e c) new in
        is_new (omega (arith, from_run (rep fs y) first n t.0, rep-le fs y)) (eqb-true e c t.1)
  ]

  -- ---- successors that fit

  abbrev fits : List (Fact ℕ) → ℕ → ℕ → ℕ → ℕ → Bool
  fits gs y t d z = is_successor gs (λ r. below r t) y z && has gs z d

  filled_is : (gs : List (Fact ℕ)) (y t d : ℕ)
      → filled_successors base below gs y t d ≡ filter (fits gs y t d) (range_with_len 0 (node_count_from base gs))
  filled_is gs y t d =
      filter_filter (is_successor gs (λ r. below r t) y) (λ z. has gs z d) (range_with_len 0 (node_count_from base gs))

  -- whether the new edges and the new concept may make y have more that fit
  abbrev is_near : ℕ → ℕ → ℕ → Bool
  is_near y t d = (below s t && eqb (rep fs x) (rep fs y)) && (eqb d 0 || eqb e d)

  old_fits : (y t d z : ℕ) → z < first → fits after y t d z ≡ fits fs y t d z
  old_fits y t d z lt =
      let out = before_run (rep fs z) first n (omega (arith, rep-le fs z, lt)) in
      let edge : has_edge after (λ r. below r t) y z ≡ has_edge fs (λ r. below r t) y z =
      grown.edges (λ r. below r t) y z
      ∙ ap (λ (b : Bool). has_edge fs (λ r. below r t) y z || ((below s t && eqb (rep fs x) (rep fs y)) && b)) out
      ∙ ap (λ (b : Bool). has_edge fs (λ r. below r t) y z || b) (and-false (below s t && eqb (rep fs x) (rep fs y)))
      ∙ or-false (has_edge fs (λ r. below r t) y z) in
      let holds : has after z d ≡ has fs z d =
      grown.holds z d ∙ ap (λ (b : Bool). has fs z d || (b && eqb e d)) out ∙ or-false (has fs z d) in
      (λ i. (eqb (grown.reps i z) z && edge i) && holds i)

  new_fits : (y t d z : ℕ) → is_near y t d ≡ false → first ≤ z → fits after y t d z ≡ false
  new_fits y t d z far le =
      let E : Bool = below s t && eqb (rep fs x) (rep fs y) in
      let edge : has_edge after (λ r. below r t) y z ≡ (E && in_run (rep fs z) first n) =
      grown.edges (λ r. below r t) y z
      ∙ ap (λ (b : Bool). b || (E && in_run (rep fs z) first n))
      (ap (λ (a : ℕ). list_any (gives_edge (λ r. below r t) (rep fs) (rep fs y) a) fs) (alone z le)
      ∙ no_edge_to (rep fs) first z (rep fs y) (λ r. below r t) fs (rep-le fs) speak le) in
      let holds : has after z d ≡ (eqb d 0 || (in_run (rep fs z) first n && eqb e d)) =
      grown.holds z d ∙ ap (λ (b : Bool). b || (in_run (rep fs z) first n && eqb e d)) (top_alone z d le) in
      (λ i. (eqb (rep after z) z && edge i) && holds i)
      ∙ no_fit (eqb (rep after z) z) E (in_run (rep fs z) first n) (eqb d 0) (eqb e d) far

  filled_before : (y t d : ℕ) → is_near y t d ≡ false
      → filled_successors base below after y t d ≡ filled_successors base below fs y t d
  filled_before y t d far =
      filled_is after y t d
      ∙ ap (λ (k : ℕ). filter (fits after y t d) (range_with_len 0 k)) grown.nodes
      ∙ ap (filter (fits after y t d)) (range-append 0 first n)
      ∙ filter-append (fits after y t d) (range_with_len 0 first) (range_with_len (0 + first) n)
      ∙ ap (λ (ys : List ℕ). filter (fits after y t d) (range_with_len 0 first) ++ ys)
      (none_in_row (fits after y t d) (0 + first) n (λ z le. new_fits y t d z far (omega (arith, le))))
      ∙ append-nil (filter (fits after y t d) (range_with_len 0 first))
      ∙ same_in_row (fits after y t d) (fits fs y t d) 0 first (λ z le lt. old_fits y t d z (omega (arith, lt)))
      ∙ sym (filled_is fs y t d)

  edge_gone : (z t y : ℕ) → first ≤ y → has_edge fs (λ r. below r t) y z ≡ false
  edge_gone z t y le =
      ap (λ (a : ℕ). list_any (gives_edge (λ r. below r t) (rep fs) a (rep fs z)) fs) (alone y le)
      ∙ no_edge_from (rep fs) first y (rep fs z) (λ r. below r t) fs (rep-le fs) speak le

  other : (y : ℕ) → first ≤ y → eqb (rep fs x) (rep fs y) ≡ false
  other y le = ne_eqb (rep fs x) (rep fs y) (λ k. absurd (omega (arith, k, rep-le fs x, alone y le, le, within)))

  -- new nodes have no successors
  none_filled : (y t d : ℕ) → first ≤ y → filled_successors base below after y t d ≡ []
  none_filled y t d le =
      filled_is after y t d ∙ none_in_row (fits after y t d) 0 (node_count_from base after) (λ z at.
      let edge : has_edge after (λ r. below r t) y z ≡ false =
      grown.edges (λ r. below r t) y z
      ∙ (λ i. edge_gone z t y le i || ((below s t && other y le i) && in_run (rep fs z) first n))
      ∙ ap (λ (b : Bool). b && in_run (rep fs z) first n) (and-false (below s t)) in
      (λ i. (eqb (rep after z) z && edge i) && has after z d)
      ∙ ap (λ (b : Bool). b && has after z d) (and-false (eqb (rep after z) z)))

  -- older nodes are apart as before
  all_before : (y : ℕ) (ys : List ℕ) → y < first → All (λ z. z < first) ys
      → list_all (are_apart after y) ys ≡ list_all (are_apart fs y) ys
  all_before y [] lt h = refl
  all_before y (z ∷ ys) lt h =
      (λ i. grown.aparts y z lt (All-head (λ z. z < first) z ys h) i
      && all_before y ys lt (All-tail (λ z. z < first) z ys h) i)

  all_apart_before : (ys : List ℕ) → All (λ z. z < first) ys → all_apart after ys ≡ all_apart fs ys
  all_apart_before [] h = refl
  all_apart_before (y ∷ ys) h =
      let tail = All-tail (λ z. z < first) y ys h in
      (λ i. all_before y ys (All-head (λ z. z < first) y ys h) tail i && all_apart_before ys tail i)

  filled_old : (y t d : ℕ) → All (λ z. z < first) (filled_successors base below fs y t d)
  filled_old y t d =
      All-weaker (λ z. is_successor fs (λ r. below r t) y z ≡ true) (λ z. z < first)
      (λ z h. successor_is_node base fs (λ r. below r t) y z h) (filled_successors base below fs y t d)
      (filled_are_successors base below fs y t d)

  module _ (none : ¬ IsPlainClash base below table fs) where
    not_top : (c : ℕ) (sh : Shape) → c ≡ 0 → shape_of table c ≡ sh → top ≡ sh
    not_top c sh k h = sym begins ∙ ap (shape_of table) (sym k) ∙ h

    near_bottom : (y c : ℕ) → shape_of table c ≡ bottom → Source y c → ClashesByNew base below table after x s e
    near_bottom y c sh (is_old lt h) = absurd (none (plain_bottom y c lt h sh))
    near_bottom y c sh (is_top k) = (let t = not_top c bottom k sh in cc)
    near_bottom y c sh (is_new le k) = new_bottom (ap (shape_of table) k ∙ sh)

    near_names : (y c d a : ℕ) → shape_of table c ≡ name a → shape_of table d ≡ not_name a → Source y c → Source y d
        → ClashesByNew base below table after x s e
    near_names y c d a sh th (is_old lt h) (is_old mt g) = absurd (none (plain_names y c d a lt h sh g th))
    near_names y c d a sh th (is_old lt h) (is_new le k) = absurd (omega (arith, lt, le))
    near_names y c d a sh th (is_old lt h) (is_top k) = (let t = not_top d (not_name a) k th in cc)
    near_names y c d a sh th (is_top k) l = (let t = not_top c (name a) k sh in cc)
    near_names y c d a sh th (is_new le k) (is_old lt h) = absurd (omega (arith, lt, le))
    near_names y c d a sh th (is_new le k) (is_top l) = (let t = not_top d (not_name a) l th in cc)
    near_names y c d a sh th (is_new le k) (is_new le' l) =
        (let t : name a ≡ not_name a = sym sh ∙ ap (shape_of table) (sym k ∙ l) ∙ th in cc)

    near_most : (y c m t d : ℕ) → IsOverrun base below table after y c m t d → Source y c
        → ClashesByNew base below table after x s e
    near_most y c m t d h (is_top k) = (let l = not_top c (at_most m t d) k h.shape in cc)
    near_most y c m t d h (is_new le k) =
        absurd (omega (arith, subst (λ (vs : List ℕ). m < length vs) (none_filled y t d le) h.more))
    near_most y c m t d h (is_old lt old) = elim (cases_Bool (is_near y t d)) [
      | inl hit ↦
          let u = and_parts (below s t && eqb (rep fs x) (rep fs y)) (eqb d 0 || eqb e d) hit in
          let v = and_parts (below s t) (eqb (rep fs x) (rep fs y)) u.0 in
          let same : rep after y ≡ rep after x =
          ap (λ (r : ℕ → ℕ). r y) grown.reps ∙ sym (eqb-true (rep fs x) (rep fs y) v.1)
          ∙ sym (ap (λ (r : ℕ → ℕ). r x) grown.reps) in
          new_overrun c m t d v.0
          (elim (or_cases (eqb d 0) (eqb e d) u.1)
          [ inl zero' ↦ inl (eqb-true d 0 zero') | inr new ↦ inr (sym (eqb-true e d new)) ])
          (overrun_at after base below table y x c m t d same h)
      | inr miss ↦
          let same = filled_before y t d miss in
          absurd (none (plain_most y c m t d lt old h.shape (subst (λ (vs : List ℕ). m < length vs) same h.more)
          (sym (all_apart_before (filled_successors base below fs y t d) (filled_old y t d))
          ∙ subst (λ (vs : List ℕ). all_apart after vs ≡ true) same h.every)))
    ]

    near : IsPlainClash base below table after → ClashesByNew base below table after x s e
    near (plain_bottom y c lt h sh) = near_bottom y c sh (source y c h)
    near (plain_names y c d a lt h sh g th) = near_names y c d a sh th (source y c h) (source y d g)
    near (plain_most y c m t d lt h sh more every) =
        near_most y c m t d (record { holds = h; shape = sh; more = more; every = every }) (source y c h)
    near (plain_differ a b lt mt h k) =
        let same : rep fs a ≡ rep fs b =
        sym (ap (λ (r : ℕ → ℕ). r a) grown.reps) ∙ k ∙ ap (λ (r : ℕ → ℕ). r b) grown.reps in
        elim (cases_lt a first) [
          | inl low ↦ elim (cases_lt b first) [
            | inl low' ↦ absurd (none (plain_differ a b low low' (sym (grown.aparts a b low low') ∙ h) same))
            | inr high' ↦ absurd (omega (arith, same, alone b high', rep-le fs a, low, high'))
          ]
          | inr high ↦ elim (cases_lt b first) [
            | inl low' ↦ absurd (omega (arith, same, alone a high, rep-le fs b, low', high))
            | inr high' ↦
                let one : a ≡ b = sym (alone a high) ∙ same ∙ alone b high' in
                let there : are_apart after a a ≡ true = ap (are_apart after a) one ∙ h in
                (let out = grown.itself a high in cc)
          ]
        ]

  far : x < node_count_from base after → 0 < n → ClashesByNew base below table after x s e
      → IsPlainClash base below table after
  far lt pos (new_bottom sh) =
      plain_bottom first e (omega (arith, grown.nodes, pos))
      (grown.holds first e ∙ ap (λ (a : ℕ). has fs first e || (in_run a first n && eqb e e)) (alone first (omega arith))
      ∙ or_right (has fs first e) (in_run first first n && eqb e e) (rw (in_own_run first n pos, eq-eqb e e refl) refl))
      sh
  far lt pos (new_overrun c m t d b or h) = plain_most x c m t d lt h.holds h.shape h.more h.every

pub block_clashes : (base : ℕ) (below : ℕ → ℕ → Bool) (table : List Shape) (fs : List (Fact ℕ)) (x s e n : ℕ)
    → shape_of table 0 ≡ top → speak_of_nodes base fs ≡ true → x < node_count_from base fs → 0 < n
    → ¬ IsPlainClash base below table fs
    → IsPlainClash base below table (fs ++ fresh_facts x s e (node_count_from base fs) n)
    ↔ ClashesByNew base below table (fs ++ fresh_facts x s e (node_count_from base fs) n) x s e
block_clashes base below table fs x s e n begins speak lt pos none = (
  near base below table fs x s e n begins speak lt none,
  far base below table fs x s e n begins speak lt (omega (arith, (is_grown base fs x s e n speak).nodes, lt)) pos,
)

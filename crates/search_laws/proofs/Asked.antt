-- What a node asks for stays met, once its new nodes are made.
use Rattle.std.proofs.Common.{◌≡◌, ℕ, zero, suc, ◌+◌, ◌<◌, ◌≤◌, ◌&&◌, ◌||◌, ◌⊎◌, eqb, ltb, Bool, true, false, List, []}
use Rattle.std.proofs.Common.{◌∷◌, ◌++◌, refl, ap, ◌∙◌, sym, subst, arith, inl, inr, eq-eqb, lt-ltb, append_assoc}
use Rattle.std.specs.List.{list_any, list_all, range_with_len}
use Rattle.std.proofs.lemmas.List.{append-nil}
use Rattle.std.proofs.lemmas.List.Folds.{list_any-append}
use Rattle.std.proofs.lemmas.Bool.{cases_eq, and_parts, and_from, or_cases, or_left, or_right, eqb-true, ltb-true}
use Rattle.std.proofs.lemmas.Bool.{false_from_ne_true}
use Rattle.calculus_specs.specs.Shape.{Shape, shape_of}
use Rattle.calculus_specs.specs.Shape.Shape.{some_of, at_least}
use Rattle.calculus_specs.specs.declared.facts.Fact.{Fact}
use Rattle.calculus_specs.specs.declared.facts.Fact.TheVariants.{Has, Edge, Apart, Same}
use Rattle.calculus_specs.specs.Joins.{rep}
use Rattle.calculus_specs.specs.State.{node_count_from, gives_concept, gives_edge, gives_apart, has, has_edge}
use Rattle.calculus_specs.specs.State.{are_apart, all_apart, new_nodes, apart_from, pairwise_apart, fresh_facts}
use Rattle.calculus_specs.proofs.Joined.{by_last, rep-snoc, after-same}
use Rattle.tableau_specs.specs.Clash.{filled_successors}
use Rattle.tableau_specs.proofs.PlainClash.{filled_parts}
use Rattle.tableau_specs.specs.Steps.{SearchContext, below_of, is_run, IsOpen, Generates}
use Rattle.tableau_specs.specs.Clash.{is_filled_successor}
use Rattle.tableau_specs.specs.Steps.Generates.{by_some, by_least}
use Rattle.tableau_specs.proofs.Saturated.{filled_is_counted}
use Rattle.tableau_specs.proofs.GenerateLines.{count-fresh}
use Rattle.search_laws.proofs.Counts.{count_front, not_none}
use Rattle.search_laws.proofs.Rising.{is_has, any_right, any_more, had, self_has}

-- ---- what facts say stays

same_stays : (fs gs : List (Fact ℕ)) (x y : ℕ) → rep fs x ≡ rep fs y → rep (fs ++ gs) x ≡ rep (fs ++ gs) y
same_stays fs gs x y e = by_last (λ (hs : List (Fact ℕ)). rep (fs ++ hs) x ≡ rep (fs ++ hs) y) base step gs
  where
    base : rep (fs ++ []) x ≡ rep (fs ++ []) y
    base = rw (append-nil fs) e

    step : (hs : List (Fact ℕ)) (f : Fact ℕ) → rep (fs ++ hs) x ≡ rep (fs ++ hs) y
        → rep (fs ++ (hs ++ f ∷ [])) x ≡ rep (fs ++ (hs ++ f ∷ [])) y
    step hs f k =
        subst (λ (is : List (Fact ℕ)). rep is x ≡ rep is y) (append_assoc fs hs (f ∷ []))
        (rep-snoc (fs ++ hs) f x ∙ after-same (rep (fs ++ hs)) f x y k ∙ sym (rep-snoc (fs ++ hs) f y))

any_stays : (p q : Fact ℕ → Bool) → ((f : Fact ℕ) → p f ≡ true → q f ≡ true) → (fs gs : List (Fact ℕ))
    → list_any p fs ≡ true → list_any q (fs ++ gs) ≡ true
any_stays p q imp fs gs h = list_any-append q fs gs ∙ or_left (list_any q fs) (list_any q gs) (any_more p q imp fs h)

module _ (fs gs : List (Fact ℕ)) where
  abbrev m : ℕ → ℕ
  m = rep fs

  abbrev m' : ℕ → ℕ
  m' = rep (fs ++ gs)

  pub eqb_stays : (y x : ℕ) → eqb (m y) (m x) ≡ true → eqb (m' y) (m' x) ≡ true
  eqb_stays y x h = eq-eqb (m' y) (m' x) (same_stays fs gs y x (eqb-true (m y) (m x) h))

  concept_stays : (x d : ℕ) (f : Fact ℕ) → gives_concept (λ e. eqb e d) m (m x) f ≡ true
      → gives_concept (λ e. eqb e d) m' (m' x) f ≡ true
  concept_stays x d (Has y e) h =
      let t = and_parts (eqb (m y) (m x)) (eqb e d) h in and_from (eqb (m' y) (m' x)) (eqb e d) (eqb_stays y x t.0) t.1
  concept_stays x d (Edge r y z) h = absurd (cc)
  concept_stays x d (Apart y z) h = absurd (cc)
  concept_stays x d (Same y z) h = absurd (cc)

  pub has_stays : (x d : ℕ) → has fs x d ≡ true → has (fs ++ gs) x d ≡ true
  has_stays x d h = elim (or_cases (eqb d 0) (list_any (gives_concept (λ e. eqb e d) m (m x)) fs) h) [
    | inl zero' ↦ or_left (eqb d 0) (list_any (gives_concept (λ e. eqb e d) m' (m' x)) (fs ++ gs)) zero'
    | inr given ↦
        or_right (eqb d 0) (list_any (gives_concept (λ e. eqb e d) m' (m' x)) (fs ++ gs))
        (any_stays (gives_concept (λ e. eqb e d) m (m x)) (gives_concept (λ e. eqb e d) m' (m' x)) (concept_stays x d)
        fs gs given)
  ]

  edge_fact_stays : (roles : ℕ → Bool) (x y : ℕ) (f : Fact ℕ) → gives_edge roles m (m x) (m y) f ≡ true
      → gives_edge roles m' (m' x) (m' y) f ≡ true
  edge_fact_stays roles x y (Edge r u v) h =
      let t = and_parts (roles r && eqb (m u) (m x)) (eqb (m v) (m y)) h in
      let s = and_parts (roles r) (eqb (m u) (m x)) t.0 in
      and_from (roles r && eqb (m' u) (m' x)) (eqb (m' v) (m' y))
      (and_from (roles r) (eqb (m' u) (m' x)) s.0 (eqb_stays u x s.1)) (eqb_stays v y t.1)
  edge_fact_stays roles x y (Has u e) h = absurd (cc)
  edge_fact_stays roles x y (Apart u v) h = absurd (cc)
  edge_fact_stays roles x y (Same u v) h = absurd (cc)

  pub edge_stays : (roles : ℕ → Bool) (x y : ℕ) → has_edge fs roles x y ≡ true → has_edge (fs ++ gs) roles x y ≡ true
  edge_stays roles x y h =
      any_stays (gives_edge roles m (m x) (m y)) (gives_edge roles m' (m' x) (m' y)) (edge_fact_stays roles x y) fs gs h

  apart_fact_stays : (y z : ℕ) (f : Fact ℕ) → gives_apart m (m y) (m z) f ≡ true → gives_apart m' (m' y) (m' z) f ≡ true
  apart_fact_stays y z (Apart u v) h =
      elim (or_cases (eqb (m u) (m y) && eqb (m v) (m z)) (eqb (m u) (m z) && eqb (m v) (m y)) h) [
        | inl one ↦
            let t = and_parts (eqb (m u) (m y)) (eqb (m v) (m z)) one in
            or_left (eqb (m' u) (m' y) && eqb (m' v) (m' z)) (eqb (m' u) (m' z) && eqb (m' v) (m' y))
            (and_from (eqb (m' u) (m' y)) (eqb (m' v) (m' z)) (eqb_stays u y t.0) (eqb_stays v z t.1))
        | inr other ↦
            let t = and_parts (eqb (m u) (m z)) (eqb (m v) (m y)) other in
            or_right (eqb (m' u) (m' y) && eqb (m' v) (m' z)) (eqb (m' u) (m' z) && eqb (m' v) (m' y))
            (and_from (eqb (m' u) (m' z)) (eqb (m' v) (m' y)) (eqb_stays u z t.0) (eqb_stays v y t.1))
      ]
  apart_fact_stays y z (Has u e) h = absurd (cc)
  apart_fact_stays y z (Edge r u v) h = absurd (cc)
  apart_fact_stays y z (Same u v) h = absurd (cc)

  pub apart_stays : (y z : ℕ) → are_apart fs y z ≡ true → are_apart (fs ++ gs) y z ≡ true
  apart_stays y z h =
      any_stays (gives_apart m (m y) (m z)) (gives_apart m' (m' y) (m' z)) (apart_fact_stays y z) fs gs h

  each_stays : (p q : ℕ → Bool) → ((y : ℕ) → p y ≡ true → q y ≡ true) → (ys : List ℕ) → list_all p ys ≡ true
      → list_all q ys ≡ true
  each_stays p q imp [] h = refl
  each_stays p q imp (y ∷ ys) h =
      let t = and_parts (p y) (list_all p ys) h in
      and_from (q y) (list_all q ys) (imp y t.0) (each_stays p q imp ys t.1)

  all_apart_stays : (ys : List ℕ) → all_apart fs ys ≡ true → all_apart (fs ++ gs) ys ≡ true
  all_apart_stays [] h = refl
  all_apart_stays (y ∷ ys) h =
      let t = and_parts (list_all (are_apart fs y) ys) (all_apart fs ys) h in
      and_from (list_all (are_apart (fs ++ gs) y) ys) (all_apart (fs ++ gs) ys)
      (each_stays (are_apart fs y) (are_apart (fs ++ gs) y) (apart_stays y) ys t.0) (all_apart_stays ys t.1)

  module _ (w : SearchContext) where
    filler_stays : (x s e z : ℕ) → is_filled_successor w.first (below_of w) fs x s e z ≡ true
        → is_filled_successor w.first (below_of w) (fs ++ gs) x s e z ≡ true
    filler_stays x s e z h =
        let roles : ℕ → Bool = λ r. below_of w r s in
        let t = and_parts (ltb z (node_count_from w.first fs) && has_edge fs roles x z) (has fs z e) h in
        let u = and_parts (ltb z (node_count_from w.first fs)) (has_edge fs roles x z) t.0 in
        let count = count_front w.first fs gs in
        let lt = ltb-true z (node_count_from w.first fs) u.0 in
        and_from (ltb z (node_count_from w.first (fs ++ gs)) && has_edge (fs ++ gs) roles x z) (has (fs ++ gs) z e)
        (and_from (ltb z (node_count_from w.first (fs ++ gs))) (has_edge (fs ++ gs) roles x z)
        (lt-ltb z (node_count_from w.first (fs ++ gs)) (omega arith)) (edge_stays roles x z u.1))
        (has_stays z e t.1)

    run_stays : (x s e n y : ℕ) → is_run w fs x s e n y ≡ true → is_run w (fs ++ gs) x s e n y ≡ true
    run_stays x s e n y h =
        let t =
        and_parts (list_all (is_filled_successor w.first (below_of w) fs x s e) (range_with_len y n))
        (all_apart fs (range_with_len y n)) h in
        and_from (list_all (is_filled_successor w.first (below_of w) (fs ++ gs) x s e) (range_with_len y n))
        (all_apart (fs ++ gs) (range_with_len y n))
        (each_stays (is_filled_successor w.first (below_of w) fs x s e)
        (is_filled_successor w.first (below_of w) (fs ++ gs) x s e) (filler_stays x s e) (range_with_len y n) t.0)
        (all_apart_stays (range_with_len y n) t.1)

-- ---- what a node asks for by a concept

-- how many nodes a concept asks for, by which role and with which concept
abbrev pub many : Shape → ℕ
many (some_of s e) = 1
many (at_least n s e) = n
many _ = 1

abbrev pub by_role : Shape → ℕ
by_role (some_of s e) = s
by_role (at_least n s e) = s
by_role _ = 0

abbrev pub with_concept : Shape → ℕ
with_concept (some_of s e) = e
with_concept (at_least n s e) = e
with_concept _ = 0

abbrev pub any_below : ℕ → (ℕ → Bool) → Bool
any_below zero p = false
any_below (suc n) p = p n || any_below n p

one_below : (n : ℕ) (p : ℕ → Bool) (y : ℕ) → y < n → p y ≡ true → any_below n p ≡ true
one_below zero p y lt h = absurd (omega arith)
one_below (suc n) p y lt h = elim (cases_eq y n) [
  | inl e ↦ or_left (p n) (any_below n p) (subst (λ (k : ℕ). p k ≡ true) e h)
  | inr ne ↦ or_right (p n) (any_below n p) (one_below n p y (omega arith) h)
]

found_below : (n : ℕ) (p : ℕ → Bool) → any_below n p ≡ true → (y : ℕ) × (y < n) × (p y ≡ true)
found_below zero p h = cc
found_below (suc n) p h = elim (or_cases (p n) (any_below n p) h) [
  | inl here ↦ (n, omega arith, here)
  | inr later ↦ let r = found_below n p later in (r.0, omega (arith, r.1), r.2)
]

-- the nodes that x asks for by c are there
abbrev pub is_met : SearchContext → List (Fact ℕ) → ℕ → ℕ → Bool
is_met w fs x c =
    any_below (node_count_from w.first fs)
    (is_run w fs x (by_role (shape_of w.table c)) (with_concept (shape_of w.table c)) (many (shape_of w.table c)))

pub met_stays : (w : SearchContext) (fs gs : List (Fact ℕ)) (x c : ℕ) → is_met w fs x c ≡ true
    → is_met w (fs ++ gs) x c ≡ true
met_stays w fs gs x c h =
    let s = by_role (shape_of w.table c) in
    let e = with_concept (shape_of w.table c) in
    let n = many (shape_of w.table c) in
    let r = found_below (node_count_from w.first fs) (is_run w fs x s e n) h in
    let lt = r.1 in
    let count = count_front w.first fs gs in
    one_below (node_count_from w.first (fs ++ gs)) (is_run w (fs ++ gs) x s e n) r.0 (omega arith)
    (run_stays fs gs w x s e n r.0 r.2)

-- ---- new nodes are what was asked for

edge_there : (p : Fact ℕ → Bool) (x s e first n z : ℕ) (rest : List (Fact ℕ)) → first ≤ z → z < first + n
    → p (Edge s x z) ≡ true → list_any p (new_nodes x s e first n ++ rest) ≡ true
edge_there p x s e first zero z rest from before h = absurd (omega arith)
edge_there p x s e first (suc n) z rest from before h = elim (cases_eq z first) [
  | inl at ↦
      or_left (p (Edge s x first)) (p (Has first e) || list_any p (new_nodes x s e (first + 1) n ++ rest))
      (subst (λ (k : ℕ). p (Edge s x k) ≡ true) at h)
  | inr ne ↦
      or_right (p (Edge s x first)) (p (Has first e) || list_any p (new_nodes x s e (first + 1) n ++ rest))
      (or_right (p (Has first e)) (list_any p (new_nodes x s e (first + 1) n ++ rest))
      (edge_there p x s e (first + 1) n z rest (omega arith) (omega arith) h))
]

concept_there : (p : Fact ℕ → Bool) (x s e first n z : ℕ) (rest : List (Fact ℕ)) → first ≤ z → z < first + n
    → p (Has z e) ≡ true → list_any p (new_nodes x s e first n ++ rest) ≡ true
concept_there p x s e first zero z rest from before h = absurd (omega arith)
concept_there p x s e first (suc n) z rest from before h =
    or_right (p (Edge s x first)) (p (Has first e) || list_any p (new_nodes x s e (first + 1) n ++ rest))
    (elim (cases_eq z first) [
      | inl at ↦
          or_left (p (Has first e)) (list_any p (new_nodes x s e (first + 1) n ++ rest))
          (subst (λ (k : ℕ). p (Has k e) ≡ true) at h)
      | inr ne ↦
          or_right (p (Has first e)) (list_any p (new_nodes x s e (first + 1) n ++ rest))
          (concept_there p x s e (first + 1) n z rest (omega arith) (omega arith) h)
    ])

apart_from_there : (p : Fact ℕ → Bool) (y z n v : ℕ) (rest : List (Fact ℕ)) → z ≤ v → v < z + n → p (Apart y v) ≡ true
    → list_any p (apart_from y z n ++ rest) ≡ true
apart_from_there p y z zero v rest from before h = absurd (omega arith)
apart_from_there p y z (suc n) v rest from before h = elim (cases_eq v z) [
  | inl at ↦
      or_left (p (Apart y z)) (list_any p (apart_from y (z + 1) n ++ rest))
      (subst (λ (k : ℕ). p (Apart y k) ≡ true) at h)
  | inr ne ↦
      or_right (p (Apart y z)) (list_any p (apart_from y (z + 1) n ++ rest))
      (apart_from_there p y (z + 1) n v rest (omega arith) (omega arith) h)
]

pair_there : (p : Fact ℕ → Bool) (first n y z : ℕ) → first ≤ y → y < z → z < first + n → p (Apart y z) ≡ true
    → list_any p (pairwise_apart first n) ≡ true
pair_there p first zero y z from less before h = absurd (omega arith)
pair_there p first (suc n) y z from less before h = elim (cases_eq y first) [
  | inl at ↦
      apart_from_there p first (first + 1) n z (pairwise_apart (first + 1) n) (omega arith) (omega arith)
      (subst (λ (k : ℕ). p (Apart k z) ≡ true) at h)
  | inr ne ↦
      any_right p (apart_from first (first + 1) n) (pairwise_apart (first + 1) n)
      (pair_there p (first + 1) n y z (omega arith) less (omega arith) h)
]

each_in_range : (p : ℕ → Bool) (a n : ℕ) → ((y : ℕ) → a ≤ y → y < a + n → p y ≡ true)
    → list_all p (range_with_len a n) ≡ true
each_in_range p a zero imp = refl
each_in_range p a (suc n) imp =
    and_from (p a) (list_all p (range_with_len (a + 1) n)) (imp a (omega arith) (omega arith))
    (each_in_range p (a + 1) n (λ y from before. imp y (omega arith) (omega arith)))

pairs_in_range : (fs : List (Fact ℕ)) (a n : ℕ) → ((y z : ℕ) → a ≤ y → y < z → z < a + n → are_apart fs y z ≡ true)
    → all_apart fs (range_with_len a n) ≡ true
pairs_in_range fs a zero imp = refl
pairs_in_range fs a (suc n) imp =
    and_from (list_all (are_apart fs a) (range_with_len (a + 1) n)) (all_apart fs (range_with_len (a + 1) n))
    (each_in_range (are_apart fs a) (a + 1) n (λ z from before. imp a z (omega arith) (omega arith) (omega arith)))
    (pairs_in_range fs (a + 1) n (λ y z from less before. imp y z (omega arith) less (omega arith)))

pub edge_at : (roles : ℕ → Bool) (m : ℕ → ℕ) (s x z : ℕ) → roles s ≡ true
    → gives_edge {C = ℕ} roles m (m x) (m z) (Edge s x z) ≡ true
edge_at roles m s x z h =
    and_from (roles s && eqb (m x) (m x)) (eqb (m z) (m z))
    (and_from (roles s) (eqb (m x) (m x)) h (eq-eqb (m x) (m x) refl)) (eq-eqb (m z) (m z) refl)

pub apart_at : (m : ℕ → ℕ) (y z : ℕ) → gives_apart {C = ℕ} m (m y) (m z) (Apart y z) ≡ true
apart_at m y z =
    or_left (eqb (m y) (m y) && eqb (m z) (m z)) (eqb (m y) (m z) && eqb (m z) (m y))
    (and_from (eqb (m y) (m y)) (eqb (m z) (m z)) (eq-eqb (m y) (m y) refl) (eq-eqb (m z) (m z) refl))

module _ (w : SearchContext) (fs : List (Fact ℕ)) (x s e n : ℕ) (itself : w.theory.below s s ≡ true) where
  abbrev first : ℕ
  first = node_count_from w.first fs

  abbrev now : List (Fact ℕ)
  now = fs ++ fresh_facts x s e first (suc n)

  new_filler : (z : ℕ) → first ≤ z → z < first + suc n → is_filled_successor w.first (below_of w) now x s e z ≡ true
  new_filler z from before =
      let roles : ℕ → Bool = λ r. below_of w r s in
      let pairs = pairwise_apart first (suc n) in
      let count = count-fresh w.first fs x s e (suc n) in
      and_from (ltb z (node_count_from w.first now) && has_edge now roles x z) (has now z e)
      (and_from (ltb z (node_count_from w.first now)) (has_edge now roles x z)
      (lt-ltb z (node_count_from w.first now) (omega arith))
      (any_right (gives_edge roles (rep now) (rep now x) (rep now z)) fs (fresh_facts x s e first (suc n))
      (edge_there (gives_edge roles (rep now) (rep now x) (rep now z)) x s e first (suc n) z pairs from before
      (edge_at roles (rep now) s x z itself))))
      (had now z e
      (any_right (is_has z e) fs (fresh_facts x s e first (suc n))
      (concept_there (is_has z e) x s e first (suc n) z pairs from before (self_has z e))))

  new_apart : (y z : ℕ) → first ≤ y → y < z → z < first + suc n → are_apart now y z ≡ true
  new_apart y z from less before =
      let p : Fact ℕ → Bool = gives_apart (rep now) (rep now y) (rep now z) in
      any_right p fs (fresh_facts x s e first (suc n))
      (any_right p (new_nodes x s e first (suc n)) (pairwise_apart first (suc n))
      (pair_there p first (suc n) y z from less before (apart_at (rep now) y z)))

  new_run : is_run w now x s e (suc n) first ≡ true
  new_run =
      and_from (list_all (is_filled_successor w.first (below_of w) now x s e) (range_with_len first (suc n)))
      (all_apart now (range_with_len first (suc n)))
      (each_in_range (is_filled_successor w.first (below_of w) now x s e) first (suc n) new_filler)
      (pairs_in_range now first (suc n) new_apart)

  pub new_some : any_below (node_count_from w.first now) (is_run w now x s e (suc n)) ≡ true
  new_some =
      let count = count-fresh w.first fs x s e (suc n) in
      one_below (node_count_from w.first now) (is_run w now x s e (suc n)) first (omega arith) new_run

-- ---- a Generate

-- new nodes are made at x by c, which asked for them
pub record IsMaking (w : SearchContext) (fs new : List (Fact ℕ)) : Type 0 where
  pub at : ℕ
  pub by : ℕ
  pub more : ℕ
  pub is_open : IsOpen w fs at
  pub holds : has fs at by ≡ true
  pub is_shape : (shape_of w.table by ≡ some_of (by_role (shape_of w.table by)) (with_concept (shape_of w.table by)))
      ⊎ (shape_of w.table by ≡ at_least (suc more) (by_role (shape_of w.table by)) (with_concept (shape_of w.table by)))
  pub are_many : many (shape_of w.table by) ≡ suc more
  pub is_new : new
      ≡ fresh_facts at (by_role (shape_of w.table by)) (with_concept (shape_of w.table by)) (node_count_from w.first fs)
      (suc more)
  pub not_met : is_met w fs at by ≡ false

no_member : (q : ℕ) (ys : List ℕ) → ys ≡ [] → ¬ (list_any (eqb q) ys ≡ true)
no_member q [] e h = cc
no_member q (y ∷ ys) e h = cc

module _ (w : SearchContext) (fs : List (Fact ℕ)) (x c : ℕ) where
  unmet_some : (s e : ℕ) → shape_of w.table c ≡ some_of s e → filled_successors w.first (below_of w) fs x s e ≡ []
      → is_met w fs x c ≡ false
  unmet_some s e sh none =
      rw sh (false_from_ne_true (any_below (node_count_from w.first fs) (is_run w fs x s e 1)) (λ h.
      let r = found_below (node_count_from w.first fs) (is_run w fs x s e 1) h in
      let t =
      and_parts (list_all (is_filled_successor w.first (below_of w) fs x s e) (r.0 ∷ [])) (all_apart fs (r.0 ∷ []))
      r.2 in
      let u = and_parts (is_filled_successor w.first (below_of w) fs x s e r.0) true t.0 in
      no_member (rep fs r.0) (filled_successors w.first (below_of w) fs x s e) none
      (filled_is_counted w fs x s e r.0 (filled_parts w.first (below_of w) fs x s e r.0 u.0))))

  unmet_least : (n s e : ℕ) → shape_of w.table c ≡ at_least n s e → ((y : ℕ) → is_run w fs x s e n y ≡ false)
      → is_met w fs x c ≡ false
  unmet_least n s e sh none =
      rw sh (false_from_ne_true (any_below (node_count_from w.first fs) (is_run w fs x s e n)) (λ h.
      let r = found_below (node_count_from w.first fs) (is_run w fs x s e n) h in
      let k = none r.0 in
      let l = r.2 in
      cc))

pub making : (w : SearchContext) (fs new : List (Fact ℕ)) → Generates w fs new → IsMaking w fs new
making w fs new (by_some x c s e at h sh none) = record {
  at = x;
  by = c;
  more = 0;
  is_open = at;
  holds = h;
  is_shape = inl (rw sh refl);
  are_many = ap many sh;
  is_new = ap (λ (t : Shape). fresh_facts x (by_role t) (with_concept t) (node_count_from w.first fs) 1) (sym sh);
  not_met = unmet_some w fs x c s e sh none;
}
making w fs new (by_least x c zero s e at h sh none) = absurd (not_none w fs x s e none)
making w fs new (by_least x c (suc n) s e at h sh none) = record {
  at = x;
  by = c;
  more = n;
  is_open = at;
  holds = h;
  is_shape = inr (rw sh refl);
  are_many = ap many sh;
  is_new = ap (λ (t : Shape). fresh_facts x (by_role t) (with_concept t) (node_count_from w.first fs) (suc n)) (sym sh);
  not_met = unmet_least w fs x c (suc n) s e sh none;
}

-- afterwards they are there
pub met_after : (w : SearchContext) (fs new : List (Fact ℕ)) (k : IsMaking w fs new)
    → ((s : ℕ) → w.theory.below s s ≡ true) → is_met w (fs ++ new) k.at k.by ≡ true
met_after w fs new k itself =
    let s = by_role (shape_of w.table k.by) in
    let e = with_concept (shape_of w.table k.by) in
    rw (k.is_new, k.are_many) (new_some w fs k.at s e k.more (itself s))

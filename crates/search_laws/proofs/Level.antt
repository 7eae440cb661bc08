-- How many nodes stand above a node.
use Rattle.std.proofs.Common.{◌≡◌, ℕ, zero, suc, ◌+◌, ◌<◌, ◌≤◌, cond, eqb, ltb, Bool, List, [], ◌∷◌, ◌++◌}
use Rattle.std.proofs.Common.{Option, Some, None, refl, ap, ◌∙◌, sym, arith, inl, inr, eq-eqb}
use Rattle.std.proofs.lemmas.Bool.{cases_eq, cases_lt, ne_eqb, lt-ltb, le-ltb}
use Rattle.calculus_specs.specs.declared.facts.Fact.{Fact}
use Rattle.calculus_specs.specs.declared.facts.Fact.TheVariants.{Has, Edge, Apart, Same}
use Rattle.calculus_specs.specs.State.{node_count_from, first_origin, new_nodes, apart_from, pairwise_apart}
use Rattle.calculus_specs.specs.State.{fresh_facts}
use Rattle.tableau_specs.specs.declared.Item.{Item}
use Rattle.tableau_specs.specs.declared.Item.TheVariants.{Fact as Says}
use Rattle.tableau_specs.specs.Items.{facts_of}
use Rattle.tableau_specs.proofs.Built.{Supports, IsBuilt, built_facts}
use Rattle.tableau_specs.specs.Steps.{SearchContext, IsGiven}
use Rattle.tableau_specs.proofs.Legal.{given_on_first}
use Rattle.tableau_specs.proofs.TreeShaped.{IsTreeShaped, tree_shaped_none, tree_shaped_after, first_le, or_else}
use Rattle.tableau_specs.proofs.TreeShaped.{origin-snoc, origin_stays, none_or_some, origin_is_node}
use Rattle.search_laws.proofs.Plain.{IsPlain, given_plain, plain_origin}

-- an edge to a first node moves no level
abbrev pub level_after : ℕ → (ℕ → ℕ) → Fact ℕ → ℕ → ℕ
level_after first h (Has y c) z = h z
level_after first h (Edge r x y) z = cond (ltb y first) (h z) (cond (eqb z y) (h x + 1) (h z))
level_after first h (Apart x y) z = h z
level_after first h (Same x y) z = h z

abbrev pub level_from : ℕ → (ℕ → ℕ) → List (Fact ℕ) → ℕ → ℕ
level_from first h [] z = h z
level_from first h (f ∷ fs) z = level_from first (level_after first h f) fs z

-- how many nodes stand above a node, up to the first node whose tree it is in, where each edge to a node that is no
-- first one leads to a new node
abbrev pub level : ℕ → List (Fact ℕ) → ℕ → ℕ
level first fs z = level_from first (λ y. 0) fs z

level_from-append : (first : ℕ) (h : ℕ → ℕ) (fs gs : List (Fact ℕ)) (z : ℕ)
    → level_from first h (fs ++ gs) z ≡ level_from first (level_from first h fs) gs z
level_from-append first h [] gs z = refl
level_from-append first h (f ∷ fs) gs z = level_from-append first (level_after first h f) fs gs z

pub level-append : (first : ℕ) (fs gs : List (Fact ℕ)) (z : ℕ)
    → level first (fs ++ gs) z ≡ level_from first (level first fs) gs z
level-append first fs gs z = level_from-append first (λ y. 0) fs gs z

pub level-snoc : (first : ℕ) (fs : List (Fact ℕ)) (f : Fact ℕ) (z : ℕ)
    → level first (fs ++ f ∷ []) z ≡ level_after first (level first fs) f z
level-snoc first fs f z = level-append first fs (f ∷ []) z

-- a fact that makes no node moves no level
pub plain_level : (first : ℕ) (fs : List (Fact ℕ)) (f : Fact ℕ) → IsPlain first f → (v : ℕ)
    → level first (fs ++ f ∷ []) v ≡ level first fs v
plain_level first fs f h v = level-snoc first fs f v ∙ one f h
  where
    one : (f : Fact ℕ) → IsPlain first f → level_after first (level first fs) f v ≡ level first fs v
    one (Has x c) h = refl
    one (Apart x y) h = refl
    one (Same x y) h = refl
    one (Edge r x y) h =
        ap (λ (b : Bool). cond b (level first fs v) (cond (eqb v y) (level first fs x + 1) (level first fs v)))
        (lt-ltb y first h)

-- ---- what holds of levels

pub record IsLevel (first : ℕ) (fs : List (Fact ℕ)) : Type 0 where
  pub first_is : (x : ℕ) → x < first → level first fs x ≡ 0
  pub up : (x p : ℕ) → first ≤ x → first_origin fs x ≡ Some p → level first fs x ≡ level first fs p + 1
  pub none : (x : ℕ) → first_origin fs x ≡ None → level first fs x ≡ 0

level_none : (first : ℕ) → IsLevel first []
level_none first = record { first_is = λ x lt. refl; up = λ x p from h. cc; none = λ x h. refl }

module _ (w : SearchContext) where
  abbrev Shaped : List (Fact ℕ) → Type 0
  Shaped fs = IsTreeShaped w.first (IsGiven w) (given_on_first w) fs

  abbrev Levels : List (Fact ℕ) → Type 0
  Levels fs = IsLevel w.first fs

  -- a fact that makes no node
  level_plain : (fs : List (Fact ℕ)) (f : Fact ℕ) → IsPlain w.first f → Levels fs → Levels (fs ++ f ∷ [])
  level_plain fs f p l = record {
    first_is = λ x lt. plain_level w.first fs f p x ∙ l.first_is x lt;
    up =
        λ x q from h. plain_level w.first fs f p x ∙ l.up x q from (sym (plain_origin w.first fs f p x from) ∙ h)
        ∙ (λ i. sym (plain_level w.first fs f p q) i + 1);
    none = λ x h. plain_level w.first fs f p x ∙ elim (cases_lt x w.first) [
      | inl low ↦ l.first_is x low
      | inr from ↦ l.none x (sym (plain_origin w.first fs f p x from) ∙ h)
    ];
  }

  -- an edge to the next node
  level_edge : (fs : List (Fact ℕ)) (r x y : ℕ) → x < node_count_from w.first fs → y ≡ node_count_from w.first fs
      → Shaped fs → Levels fs → Levels (fs ++ Edge r x y ∷ [])
  level_edge fs r x y lt new g l = record {
    first_is = λ z low. other z (omega (arith, new, low, first_le w.first fs)) ∙ l.first_is z low;
    up =
        λ z p from h. none_or_some (first_origin fs z)
        (level w.first (fs ++ Edge r x y ∷ []) z ≡ level w.first (fs ++ Edge r x y ∷ []) p + 1)
        (λ q e.
        let k : Some q ≡ Some p = sym (origin_stays fs (Edge r x y) z q e) ∙ h in
        let same : q ≡ p = cc in
        let node = origin_is_node w.first fs z q e in
        let less = g.less z q from e in
        omega (
          arith,
          other z (omega (arith, new, node)),
          other p (omega (arith, new, node, less, same)),
          l.up z p from (e ∙ ap (λ (a : ℕ). Some a) same),
        ))
        (λ e. fresh_up z p e h);
    none = λ z h. none_or_some (first_origin fs z) (level w.first (fs ++ Edge r x y ∷ []) z ≡ 0)
        (λ q e. (let k = sym (origin_stays fs (Edge r x y) z q e) ∙ h in cc))
        (λ e. elim (cases_eq z y) [
          | inl at ↦ (let k : Some x ≡ None = sym (origin_new z e at) ∙ h in cc)
          | inr ne ↦ other z ne ∙ l.none z e
        ]);
  }
    where
      after : (z : ℕ)
          → level w.first (fs ++ Edge r x y ∷ []) z ≡ cond (eqb z y) (level w.first fs x + 1) (level w.first fs z)
      after z =
          level-snoc w.first fs (Edge r x y) z
          ∙ ap
          (λ (b : Bool). cond b (level w.first fs z) (cond (eqb z y) (level w.first fs x + 1) (level w.first fs z)))
          (le-ltb y w.first (omega (arith, new, first_le w.first fs)))

      other : (z : ℕ) → ¬ (z ≡ y) → level w.first (fs ++ Edge r x y ∷ []) z ≡ level w.first fs z
      other z ne =
          after z ∙ ap (λ (b : Bool). cond b (level w.first fs x + 1) (level w.first fs z)) (ne_eqb z y ne)

      origin_new : (z : ℕ) → first_origin fs z ≡ None → z ≡ y → first_origin (fs ++ Edge r x y ∷ []) z ≡ Some x
      origin_new z e at =
          origin-snoc fs (Edge r x y) z ∙ ap (λ (o : Option ℕ). or_else o (first_origin {C = ℕ} (Edge r x y ∷ []) z)) e
          ∙ ap (λ (b : Bool). cond b (Some x) None) (eq-eqb y z (sym at))

      fresh_up : (z p : ℕ) → first_origin fs z ≡ None → first_origin (fs ++ Edge r x y ∷ []) z ≡ Some p
          → level w.first (fs ++ Edge r x y ∷ []) z ≡ level w.first (fs ++ Edge r x y ∷ []) p + 1
      fresh_up z p e h = elim (cases_eq z y) [
        | inl at ↦
            let k : Some x ≡ Some p = sym (origin_new z e at) ∙ h in
            let same : x ≡ p = cc in
            let here : level w.first (fs ++ Edge r x y ∷ []) z ≡ level w.first fs x + 1 =
            after z ∙ ap (λ (b : Bool). cond b (level w.first fs x + 1) (level w.first fs z)) (eq-eqb z y at) in
            omega (arith, here, other p (omega (arith, new, same, lt)), ap (level w.first fs) same)
        | inr ne ↦
            let k : None ≡ Some p =
            sym (origin-snoc fs (Edge r x y) z
            ∙ ap (λ (o : Option ℕ). or_else o (first_origin {C = ℕ} (Edge r x y ∷ []) z)) e
            ∙ ap (λ (b : Bool). cond b (Some x) None) (ne_eqb y z (λ q. ne (sym q))))
            ∙ h in
            absurd (cc)
      ]

  level_step : (fs : List (Fact ℕ)) (f : Fact ℕ) → Supports w.first (IsGiven w) fs (Says f) → Shaped fs → Levels fs
      → Levels (fs ++ f ∷ [])
  level_step fs (Has x c) s g l = level_plain fs (Has x c) tt l
  level_step fs (Apart x y) s g l = level_plain fs (Apart x y) tt l
  level_step fs (Same x y) s g l = level_plain fs (Same x y) tt l
  level_step fs (Edge r x y) s g l = elim s.1 [
    | inl new ↦ level_edge fs r x y s.0 new g l
    | inr given ↦ level_plain fs (Edge r x y) (given_plain w (Edge r x y) given) l
  ]

  pub levels_built : (is : List Item) → IsBuilt w.first (IsGiven w) is → Shaped (facts_of is) × Levels (facts_of is)
  levels_built =
      built_facts w.first (IsGiven w) (λ (fs : List (Fact ℕ)). Shaped fs × Levels fs)
      (tree_shaped_none w.first (IsGiven w) (given_on_first w), level_none w.first)
      (λ fs f s h. (tree_shaped_after w.first (IsGiven w) (given_on_first w) fs f s h.0, level_step fs f s h.0 h.1))

-- ---- the levels of new nodes

level-apart : (base : ℕ) (h : ℕ → ℕ) (y z n : ℕ) (rest : List (Fact ℕ)) (v : ℕ)
    → level_from base h (apart_from y z n ++ rest) v ≡ level_from base h rest v
level-apart base h y z zero rest v = refl
level-apart base h y z (suc n) rest v = level-apart base h y (z + 1) n rest v

level-pairs : (base : ℕ) (h : ℕ → ℕ) (first n v : ℕ) → level_from base h (pairwise_apart first n) v ≡ h v
level-pairs base h first zero v = refl
level-pairs base h first (suc n) v =
    level-apart base h first (first + 1) n (pairwise_apart (first + 1) n) v ∙ level-pairs base h (first + 1) n v

-- an edge to a node that is no first one
edge_moves : (base : ℕ) (h : ℕ → ℕ) (s x y v : ℕ) → base ≤ y
    → level_after base h (Edge s x y) v ≡ cond (eqb v y) (h x + 1) (h v)
edge_moves base h s x y v le = ap (λ (b : Bool). cond b (h v) (cond (eqb v y) (h x + 1) (h v))) (le-ltb y base le)

edge_keeps : (base : ℕ) (h : ℕ → ℕ) (s x y v : ℕ) → base ≤ y → ¬ (v ≡ y) → level_after base h (Edge s x y) v ≡ h v
edge_keeps base h s x y v le ne =
    edge_moves base h s x y v le ∙ ap (λ (b : Bool). cond b (h x + 1) (h v)) (ne_eqb v y ne)

-- what stands before the new nodes keeps its level
level_new_old : (base : ℕ) (h : ℕ → ℕ) (x s e first n : ℕ) (rest : List (Fact ℕ)) (v k : ℕ) → base ≤ first → v < first
    → h v ≡ k → ((g : ℕ → ℕ) → g v ≡ k → level_from base g rest v ≡ k)
    → level_from base h (new_nodes x s e first n ++ rest) v ≡ k
level_new_old base h x s e first zero rest v k low lt is after = after h is
level_new_old base h x s e first (suc n) rest v k low lt is after =
    level_new_old base (level_after base h (Edge s x first)) x s e (first + 1) n rest v k (omega arith) (omega arith)
    (edge_keeps base h s x first v low (λ q. absurd (omega (arith, q))) ∙ is) after

level_new_at : (base : ℕ) (h : ℕ → ℕ) (x s e first n : ℕ) (rest : List (Fact ℕ)) (v k : ℕ) → base ≤ first → x < first
    → first ≤ v → v < first + n → h x + 1 ≡ k → ((g : ℕ → ℕ) → g v ≡ k → level_from base g rest v ≡ k)
    → level_from base h (new_nodes x s e first n ++ rest) v ≡ k
level_new_at base h x s e first zero rest v k low out from before is after = absurd (omega arith)
level_new_at base h x s e first (suc n) rest v k low out from before is after =
    let h' : ℕ → ℕ = level_after base h (Edge s x first) in
    elim (cases_eq v first) [
      | inl at ↦
          level_new_old base h' x s e (first + 1) n rest v k (omega arith) (omega arith)
          (edge_moves base h s x first v low ∙ ap (λ (b : Bool). cond b (h x + 1) (h v)) (eq-eqb v first at) ∙ is) after
      | inr ne ↦
          level_new_at base h' x s e (first + 1) n rest v k (omega arith) (omega arith) (omega arith) (omega arith)
          (omega (arith, is, edge_keeps base h s x first x low (λ q. absurd (omega (arith, q))))) after
    ]

pub fresh_old : (first : ℕ) (fs : List (Fact ℕ)) (x s e n v : ℕ) → v < node_count_from first fs
    → level first (fs ++ fresh_facts x s e (node_count_from first fs) n) v ≡ level first fs v
fresh_old first fs x s e n v lt =
    level-append first fs (fresh_facts x s e (node_count_from first fs) n) v
    ∙ level_new_old first (level first fs) x s e (node_count_from first fs) n
    (pairwise_apart (node_count_from first fs) n) v (level first fs v) (first_le first fs) lt refl
    (λ g is. level-pairs first g (node_count_from first fs) n v ∙ is)

pub fresh_new : (first : ℕ) (fs : List (Fact ℕ)) (x s e n v : ℕ) → x < node_count_from first fs
    → node_count_from first fs ≤ v → v < node_count_from first fs + n
    → level first (fs ++ fresh_facts x s e (node_count_from first fs) n) v ≡ level first fs x + 1
fresh_new first fs x s e n v at from before =
    level-append first fs (fresh_facts x s e (node_count_from first fs) n) v
    ∙ level_new_at first (level first fs) x s e (node_count_from first fs) n
    (pairwise_apart (node_count_from first fs) n) v (level first fs x + 1) (first_le first fs) at from before refl
    (λ g is. level-pairs first g (node_count_from first fs) n v ∙ is)

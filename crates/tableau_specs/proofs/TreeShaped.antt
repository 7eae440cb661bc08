-- What holds of the facts of built trails.
use Rattle.std.proofs.Common.{◌≡◌, ℕ, ◌+◌, ◌<◌, ◌≤◌, ◌&&◌, ◌||◌, ◌⊎◌, min, max, eqb, ltb, cond, Bool, true, false, List}
use Rattle.std.proofs.Common.{[], ◌∷◌, ◌++◌, Option, Some, None, refl, ap, ◌∙◌, sym, subst, arith, inl, inr, eq-eqb}
use Rattle.std.specs.List.{list_any, list_all}
use Rattle.std.proofs.lemmas.Bool.{eqb-true, or_cases, cases_Bool, cases_lt, and_parts, ltb-true, lt-ltb, or_right}
use Rattle.std.proofs.lemmas.Bool.{or_parts}
use Rattle.std.proofs.lemmas.Bool.Decides.{nat_tests}
use Rattle.std.proofs.Math.Bool.{or-false}
use Rattle.calculus_specs.specs.declared.facts.Fact.{Fact}
use Rattle.calculus_specs.specs.declared.facts.Fact.TheVariants.{Has, Edge, Apart, Same}
use Rattle.calculus_specs.specs.Joins.{rep, rep_after, merged}
use Rattle.calculus_specs.specs.State.{node_count_from, first_origin, parent_from, gives_edge, gives_apart}
use Rattle.calculus_specs.specs.State.{speaks_below, speak_of_nodes}
use Rattle.calculus_specs.proofs.Joined.{any-snoc, rep-snoc, rep-le}
use Rattle.tableau_specs.proofs.PlainClash.{successor_is_node, successor_has_edge}
use Rattle.tableau_specs.specs.declared.Item.{Item}
use Rattle.tableau_specs.specs.declared.Item.TheVariants.{Fact as Says}
use Rattle.tableau_specs.specs.Items.{facts_of}
use Rattle.tableau_specs.specs.StepLaws.{any_role, AreSiblings}
use Rattle.tableau_specs.proofs.Built.{Supports, IsBuilt, built_facts}
use Rattle.std.proofs.lemmas.List.Folds.{list_all-append}

merged_out : (b c p : ℕ) → b < p → c < p → merged b c p ≡ p
merged_out b c p lt mt = grind (arith, nat_tests)

abbrev pub or_else : Option ℕ → Option ℕ → Option ℕ
or_else None p = p
or_else (Some q) p = Some q

pub origin-snoc : (fs : List (Fact ℕ)) (f : Fact ℕ) (x : ℕ)
    → first_origin (fs ++ f ∷ []) x ≡ or_else (first_origin fs x) (first_origin (f ∷ []) x)
origin-snoc [] f x = refl
origin-snoc (Has v c ∷ fs) f x = origin-snoc fs f x
origin-snoc (Edge r v w ∷ fs) f x =
    elim (eqb w x) as
    (λ b. cond b (Some v) (first_origin (fs ++ f ∷ []) x)
    ≡ or_else (cond b (Some v) (first_origin fs x)) (first_origin (f ∷ []) x))
    [ true ↦ refl | false ↦ origin-snoc fs f x ]
origin-snoc (Apart v w ∷ fs) f x = origin-snoc fs f x
origin-snoc (Same v w ∷ fs) f x = origin-snoc fs f x

pub origin_stays : (fs : List (Fact ℕ)) (f : Fact ℕ) (x p : ℕ) → first_origin fs x ≡ Some p
    → first_origin (fs ++ f ∷ []) x ≡ Some p
origin_stays fs f x p h = origin-snoc fs f x ∙ ap (λ (o : Option ℕ). or_else o (first_origin (f ∷ []) x)) h

-- ---- representatives of one fact more

pub reps-snoc : (fs : List (Fact ℕ)) (f : Fact ℕ) → rep (fs ++ f ∷ []) ≡ rep_after (rep fs) f
reps-snoc fs f i x = rep-snoc fs f x i

pub none_or_some : (o : Option ℕ) (P : Type 0) → ((p : ℕ) → o ≡ Some p → P) → (o ≡ None → P) → P
none_or_some None P some none = none refl
none_or_some (Some p) P some none = some p refl

pub or_else-none : (o : Option ℕ) → or_else o None ≡ o
or_else-none None = refl
or_else-none (Some p) = refl

record EdgeBefore (m m' : ℕ → ℕ) (fs : List (Fact ℕ)) (from to : ℕ) : Type 0 where
  begin : ℕ
  end : ℕ
  edge : list_any (gives_edge any_role m (m begin) (m end)) fs ≡ true
  at_from : m' begin ≡ from
  at_to : m' end ≡ to

edge_more : (m m' : ℕ → ℕ) (f : Fact ℕ) (fs : List (Fact ℕ)) (from to : ℕ) → EdgeBefore m m' fs from to
    → EdgeBefore m m' (f ∷ fs) from to
edge_more m m' f fs from to e = record {
  begin = e.begin;
  end = e.end;
  at_from = e.at_from;
  at_to = e.at_to;
  edge =
      or_right (gives_edge any_role m (m e.begin) (m e.end) f)
      (list_any (gives_edge any_role m (m e.begin) (m e.end)) fs) e.edge;
}

edge_before : (m m' : ℕ → ℕ) (fs : List (Fact ℕ)) (from to : ℕ) → list_any (gives_edge any_role m' from to) fs ≡ true
    → EdgeBefore m m' fs from to
edge_before m m' [] from to h = cc
edge_before m m' (Has v c ∷ fs) from to h = edge_more m m' (Has v c) fs from to (edge_before m m' fs from to h)
edge_before m m' (Apart v w ∷ fs) from to h = edge_more m m' (Apart v w) fs from to (edge_before m m' fs from to h)
edge_before m m' (Same v w ∷ fs) from to h = edge_more m m' (Same v w) fs from to (edge_before m m' fs from to h)
edge_before m m' (Edge r v w ∷ fs) from to h =
    elim
    (or_cases (gives_edge {C = ℕ} any_role m' from to (Edge r v w)) (list_any (gives_edge any_role m' from to) fs) h) [
      | inl here ↦
          let t = and_parts (eqb (m' v) from) (eqb (m' w) to) here in
          record {
            begin = v;
            end = w;
            at_from = eqb-true (m' v) from t.0;
            at_to = eqb-true (m' w) to t.1;
            edge = rw (eq-eqb (m v) (m v) refl, eq-eqb (m w) (m w) refl) refl;
          }
      | inr later ↦ edge_more m m' (Edge r v w) fs from to (edge_before m m' fs from to later)
    ]

min_cases : (a b : ℕ) → (min a b ≡ a) ⊎ (min a b ≡ b)
min_cases a b = elim (cases_lt a b)
    [ inl lt ↦ inl (let e : min a b ≡ a = omega arith in e) | inr ge ↦ inr (let e : min a b ≡ b = omega arith in e) ]

merged_le : (b c x : ℕ) → merged b c x ≤ x
merged_le b c x = grind (arith, nat_tests)

merged_low : (b c to : ℕ) → min b c ≡ to → merged b c to ≡ to
merged_low b c to at = grind (arith, nat_tests)

low_end : (b c e : ℕ) → (eqb e b || eqb e c) ≡ true → min b c ≤ e
low_end b c e h = grind (arith, nat_tests)

two : (y z k : ℕ) → y < k → z < k → (ltb y k && ltb z k) ≡ true
two y z k lt mt = rw (lt-ltb y k lt, lt-ltb z k mt) refl

more_below : (n k : ℕ) → n ≤ k → (f : Fact ℕ) → speaks_below n f ≡ true → speaks_below k f ≡ true
more_below n k le (Has x c) h = lt-ltb x k (omega (arith, ltb-true x n h))
more_below n k le (Edge r x y) h =
    let t = and_parts (ltb x n) (ltb y n) h in
    two x y k (omega (arith, ltb-true x n t.0)) (omega (arith, ltb-true y n t.1))
more_below n k le (Apart x y) h =
    let t = and_parts (ltb x n) (ltb y n) h in
    two x y k (omega (arith, ltb-true x n t.0)) (omega (arith, ltb-true y n t.1))
more_below n k le (Same x y) h =
    let t = and_parts (ltb x n) (ltb y n) h in
    two x y k (omega (arith, ltb-true x n t.0)) (omega (arith, ltb-true y n t.1))

all_more_below : (n k : ℕ) → n ≤ k → (fs : List (Fact ℕ)) → list_all (speaks_below n) fs ≡ true
    → list_all (speaks_below k) fs ≡ true
all_more_below n k le [] h = refl
all_more_below n k le (f ∷ fs) h =
    let t = and_parts (speaks_below n f) (list_all (speaks_below n) fs) h in
    rw (more_below n k le f t.0) (all_more_below n k le fs t.1)

-- nodes that are kept apart are nodes
pub apart_are_nodes : (m : ℕ → ℕ) (n a b : ℕ) (fs : List (Fact ℕ)) → ((x : ℕ) → m x ≤ x)
    → list_all (speaks_below n) fs ≡ true → list_any (gives_apart m a b) fs ≡ true → (a < n) × (b < n)
apart_are_nodes m n a b [] falls h g = cc
apart_are_nodes m n a b (Has x c ∷ fs) falls h g =
    apart_are_nodes m n a b fs falls (and_parts (ltb x n) (list_all (speaks_below n) fs) h).1 g
apart_are_nodes m n a b (Edge r x y ∷ fs) falls h g =
    apart_are_nodes m n a b fs falls (and_parts (ltb x n && ltb y n) (list_all (speaks_below n) fs) h).1 g
apart_are_nodes m n a b (Same x y ∷ fs) falls h g =
    apart_are_nodes m n a b fs falls (and_parts (ltb x n && ltb y n) (list_all (speaks_below n) fs) h).1 g
apart_are_nodes m n a b (Apart x y ∷ fs) falls h g =
    let t = and_parts (ltb x n && ltb y n) (list_all (speaks_below n) fs) h in
    let u = and_parts (ltb x n) (ltb y n) t.0 in
    let xt = ltb-true x n u.0 in
    let yt = ltb-true y n u.1 in
    elim (or_cases ((eqb (m x) a && eqb (m y) b) || (eqb (m x) b && eqb (m y) a)) (list_any (gives_apart m a b) fs) g) [
      | inr later ↦ apart_are_nodes m n a b fs falls t.1 later
      | inl here ↦ elim (or_cases (eqb (m x) a && eqb (m y) b) (eqb (m x) b && eqb (m y) a) here) [
        | inl one ↦
            let k = and_parts (eqb (m x) a) (eqb (m y) b) one in
            (omega (arith, eqb-true (m x) a k.0, falls x, xt), omega (arith, eqb-true (m y) b k.1, falls y, yt))
        | inr other ↦
            let k = and_parts (eqb (m x) b) (eqb (m y) a) other in
            (omega (arith, eqb-true (m y) a k.1, falls y, yt), omega (arith, eqb-true (m x) b k.0, falls x, xt))
      ]
    ]

meets : (b c p q : ℕ) → merged b c p ≡ merged b c q → ¬ (p ≡ q) → ((eqb p b && eqb q c) || (eqb p c && eqb q b)) ≡ true
meets b c p q e ne = grind (arith, nat_tests)

pub not_apart_merged : (m : ℕ → ℕ) (b c : ℕ) (fs : List (Fact ℕ)) → ((a : ℕ) → list_any (gives_apart m a a) fs ≡ false)
    → list_any (gives_apart m b c) fs ≡ false
    → (a : ℕ) → list_any (gives_apart (λ x. merged b c (m x)) a a) fs ≡ false
not_apart_merged m b c [] irr out a = refl
not_apart_merged m b c (Has v d ∷ fs) irr out a = not_apart_merged m b c fs irr out a
not_apart_merged m b c (Edge r v w ∷ fs) irr out a = not_apart_merged m b c fs irr out a
not_apart_merged m b c (Same v w ∷ fs) irr out a = not_apart_merged m b c fs irr out a
not_apart_merged m b c (Apart v w ∷ fs) irr out a =
    let here =
    or_parts ((eqb (m v) b && eqb (m w) c) || (eqb (m v) c && eqb (m w) b)) (list_any (gives_apart m b c) fs) out in
    let rest =
    not_apart_merged m b c fs
    (λ d. (or_parts (gives_apart {C = ℕ} m d d (Apart v w)) (list_any (gives_apart m d d) fs) (irr d)).1) here.1 a in
    let ne : ¬ (m v ≡ m w) =
    λ e. (let k =
    (or_parts (gives_apart {C = ℕ} m (m v) (m v) (Apart v w)) (list_any (gives_apart m (m v) (m v)) fs)
    (irr (m v))).0 in
    let l = (or_parts (eqb (m v) (m v) && eqb (m w) (m v)) (eqb (m v) (m v) && eqb (m w) (m v)) k).0 in
    let p = eq-eqb (m v) (m v) refl in let q = eq-eqb (m w) (m v) (sym e) in let t = rw (p, q) at l in cc) in
    elim (cases_Bool (eqb (merged b c (m v)) a && eqb (merged b c (m w)) a)) [
      | inl hit ↦
          let t = and_parts (eqb (merged b c (m v)) a) (eqb (merged b c (m w)) a) hit in
          let e : merged b c (m v) ≡ merged b c (m w) =
          eqb-true (merged b c (m v)) a t.0 ∙ sym (eqb-true (merged b c (m w)) a t.1) in
          let k = meets b c (m v) (m w) e ne in
          cc
      | inr miss ↦ rw miss rest
    ]

module _ (first : ℕ) where
  -- ---- nodes and parents of one fact more

  pub first_le : (fs : List (Fact ℕ)) → first ≤ node_count_from first fs
  first_le [] = omega arith
  first_le (Has v c ∷ fs) = first_le fs
  first_le (Edge r v w ∷ fs) = omega (arith, first_le fs)
  first_le (Apart v w ∷ fs) = first_le fs
  first_le (Same v w ∷ fs) = first_le fs

  pub count-edge : (fs : List (Fact ℕ)) (r x y : ℕ)
      → node_count_from first (fs ++ Edge r x y ∷ []) ≡ max (y + 1) (node_count_from first fs)
  count-edge [] r x y = refl
  count-edge (Has v c ∷ fs) r x y = count-edge fs r x y
  count-edge (Edge s v w ∷ fs) r x y = omega (arith, count-edge fs r x y)
  count-edge (Apart v w ∷ fs) r x y = count-edge fs r x y
  count-edge (Same v w ∷ fs) r x y = count-edge fs r x y

  pub count_le : (fs : List (Fact ℕ)) (f : Fact ℕ) → node_count_from first fs ≤ node_count_from first (fs ++ f ∷ [])
  count_le [] (Has v c) = omega arith
  count_le [] (Edge r v w) = omega arith
  count_le [] (Apart v w) = omega arith
  count_le [] (Same v w) = omega arith
  count_le (Has v c ∷ fs) f = count_le fs f
  count_le (Edge s v w ∷ fs) f = omega (arith, count_le fs f)
  count_le (Apart v w ∷ fs) f = count_le fs f
  count_le (Same v w ∷ fs) f = count_le fs f

  pub origin_is_node : (fs : List (Fact ℕ)) (x p : ℕ) → first_origin fs x ≡ Some p → x < node_count_from first fs
  origin_is_node [] x p h = cc
  origin_is_node (Has v c ∷ fs) x p h = origin_is_node fs x p h
  origin_is_node (Edge r v w ∷ fs) x p h = elim (cases_Bool (eqb w x)) [
    | inl hit ↦ omega (arith, eqb-true w x hit)
    | inr miss ↦ omega (arith, origin_is_node fs x p (rw miss at h))
  ]
  origin_is_node (Apart v w ∷ fs) x p h = origin_is_node fs x p h
  origin_is_node (Same v w ∷ fs) x p h = origin_is_node fs x p h

  pub parent_of_origin : (fs : List (Fact ℕ)) (x p : ℕ) → first ≤ x → first_origin fs x ≡ Some p
      → parent_from first fs x ≡ Some p
  parent_of_origin fs x p le h =
      elim (cases_Bool (ltb x first)) [ inl low ↦ absurd (omega (arith, ltb-true x first low)) | inr high ↦ rw high h ]

  pub origin_of_parent : (fs : List (Fact ℕ)) (x p : ℕ) → parent_from first fs x ≡ Some p
      → (first ≤ x) × (first_origin fs x ≡ Some p)
  origin_of_parent fs x p h = elim (cases_lt x first) [
    | inl low ↦ (let g = rw (lt-ltb x first low) at h in cc)
    | inr high ↦ elim (cases_Bool (ltb x first))
        [ inl low ↦ absurd (omega (arith, ltb-true x first low)) | inr test ↦ (high, rw test at h) ]
  ]

  -- ---- what holds of built facts

  -- an edge between nodes with these representatives leads from the parent of the second, which is no first node
  pub record HasUp (m : ℕ → ℕ) (fs : List (Fact ℕ)) (from to : ℕ) : Type 0 where
    pub up : ℕ
    pub is_origin : first_origin fs to ≡ Some up
    pub not_first : first ≤ to
    pub is_joined : m up ≡ from

  -- two siblings have one node above
  record Siblings (fs : List (Fact ℕ)) (y z : ℕ) : Type 0 where
    above : ℕ
    to_one : list_any (gives_edge any_role (rep fs) above (rep fs y)) fs ≡ true
    to_other : list_any (gives_edge any_role (rep fs) above (rep fs z)) fs ≡ true

  siblings : (fs : List (Fact ℕ)) (y z : ℕ) → AreSiblings fs y z → Siblings fs y z
  siblings fs y z h = record {
    above = rep fs h.above;
    to_one = successor_has_edge fs any_role h.above y h.first;
    to_other = successor_has_edge fs any_role h.above z h.second;
  }

  pub sibling_nodes : (fs : List (Fact ℕ)) (y z : ℕ) → AreSiblings fs y z
      → (y < node_count_from first fs) × (z < node_count_from first fs)
  sibling_nodes fs y z h =
      (successor_is_node first fs any_role h.above y h.first, successor_is_node first fs any_role h.above z h.second)

  pub no_origin : (fs : List (Fact ℕ)) (x : ℕ) → node_count_from first fs ≤ x → first_origin fs x ≡ None
  no_origin fs x le =
      none_or_some (first_origin fs x) (first_origin fs x ≡ None)
      (λ p e. absurd (omega (arith, origin_is_node fs x p e))) (λ e. e)

  -- two ways to the node above one node
  one_above : (fs : List (Fact ℕ)) (a b to : ℕ) → HasUp (rep fs) fs a to → HasUp (rep fs) fs b to → a ≡ b
  one_above fs a b to u v =
      let e : Some u.up ≡ Some v.up = sym u.is_origin ∙ v.is_origin in
      let k : u.up ≡ v.up = cc in sym u.is_joined ∙ ap (rep fs) k ∙ v.is_joined

  -- the node above, once two representatives are one
  joined_up : (m : ℕ → ℕ) (b c : ℕ) (fs : List (Fact ℕ)) (before from end to : ℕ) → HasUp m fs before end → end ≡ to
      → merged b c before ≡ from
      → HasUp (λ x. merged b c (m x)) fs from to
  joined_up m b c fs before from end to u e f = record {
    up = u.up;
    is_origin = subst (λ (t : ℕ). first_origin fs t ≡ Some u.up) e u.is_origin;
    not_first = omega (arith, u.not_first, e);
    is_joined = ap (merged b c) u.is_joined ∙ f;
  }

-- there are `first` first nodes, and facts with G are given, of first nodes alone
module _ (first : ℕ) (G : Fact ℕ → Type 0) (on_first : (f : Fact ℕ) → G f → speaks_below first f ≡ true) where
  abbrev AreFirst : ℕ → ℕ → Type 0
  AreFirst y z = (y < first) × (z < first)

  pair_first : (y z : ℕ) → (ltb y first && ltb z first) ≡ true → AreFirst y z
  pair_first y z h = let t = and_parts (ltb y first) (ltb z first) h in (ltb-true y first t.0, ltb-true z first t.1)

  -- a given edge joins nodes with these representatives
  pub record IsLinked (m : ℕ → ℕ) (from to : ℕ) : Type 0 where
    pub role : ℕ
    pub begin : ℕ
    pub end : ℕ
    pub is_given : G (Edge role begin end)
    pub at_begin : m begin ≡ from
    pub at_end : m end ≡ to

  pub linked_first : (m : ℕ → ℕ) (from to : ℕ) → ((x : ℕ) → m x ≤ x) → IsLinked m from to → AreFirst from to
  linked_first m from to falls l =
      let t = pair_first l.begin l.end (on_first (Edge l.role l.begin l.end) l.is_given) in
      (omega (arith, t.0, falls l.begin, l.at_begin), omega (arith, t.1, falls l.end, l.at_end))

  -- or the edge leads from the parent of the second
  abbrev pub Leads : (ℕ → ℕ) → List (Fact ℕ) → ℕ → ℕ → Type 0
  Leads m fs from to = IsLinked m from to ⊎ HasUp first m fs from to

  pub record IsTreeShaped (fs : List (Fact ℕ)) : Type 0 where
    -- a node that is not there yet is joined to none
    pub fresh : (z : ℕ) → node_count_from first fs ≤ z → rep fs z ≡ z
    pub not_apart : ((f : Fact ℕ) → ¬ G f) → (a : ℕ) → list_any (gives_apart (rep fs) a a) fs ≡ false
    pub leads : (from to : ℕ) → list_any (gives_edge any_role (rep fs) from to) fs ≡ true → Leads (rep fs) fs from to
    pub less : (x p : ℕ) → first ≤ x → first_origin fs x ≡ Some p → p < x

  pub tree_shaped_none : IsTreeShaped []
  tree_shaped_none =
      record { fresh = λ z h. refl; not_apart = λ none a. refl; leads = λ from to h. cc; less = λ x p le h. cc }

  pub joined_nodes : (fs : List (Fact ℕ)) (y z : ℕ) → AreSiblings fs y z ⊎ G (Same y z)
      → (y < node_count_from first fs) × (z < node_count_from first fs)
  joined_nodes fs y z (inl s) = sibling_nodes first fs y z s
  joined_nodes fs y z (inr k) =
      let t = pair_first y z (on_first (Same y z) k) in
      (omega (arith, t.0, first_le first fs), omega (arith, t.1, first_le first fs))

  -- ---- one fact more: nodes that are not there yet

  fresh_after : (fs : List (Fact ℕ)) (f : Fact ℕ) → Supports first G fs (Says f) → IsTreeShaped fs → (z : ℕ)
      → node_count_from first fs ≤ z → rep_after (rep fs) f z ≡ z
  fresh_after fs (Has v c) s g z le = g.fresh z le
  fresh_after fs (Edge r v w) s g z le = g.fresh z le
  fresh_after fs (Apart v w) s g z le = g.fresh z le
  fresh_after fs (Same v w) s g z le =
      let n = joined_nodes fs v w s in
      ap (merged (rep fs v) (rep fs w)) (g.fresh z le)
      ∙ merged_out (rep fs v) (rep fs w) z (omega (arith, n.0, rep-le fs v)) (omega (arith, n.1, rep-le fs w))

  -- ---- one fact more: nodes that are apart

  apart_of_new : (fs : List (Fact ℕ)) (v w : ℕ) → ¬ (rep fs v ≡ rep fs w) ⊎ G (Apart v w) → ((f : Fact ℕ) → ¬ G f)
      → (a : ℕ) → (eqb (rep fs v) a && eqb (rep fs w) a) ≡ false
  apart_of_new fs v w (inr k) none a = absurd (none (Apart v w) k)
  apart_of_new fs v w (inl ne) none a = elim (cases_Bool (eqb (rep fs v) a && eqb (rep fs w) a)) [
    | inl hit ↦
        let t = and_parts (eqb (rep fs v) a) (eqb (rep fs w) a) hit in
        absurd (ne (eqb-true (rep fs v) a t.0 ∙ sym (eqb-true (rep fs w) a t.1)))
    | inr miss ↦ miss
  ]

  apart_of_same : (fs : List (Fact ℕ)) (v w : ℕ) → AreSiblings fs v w ⊎ G (Same v w) → ((f : Fact ℕ) → ¬ G f)
      → ((a : ℕ) → list_any (gives_apart (rep fs) a a) fs ≡ false)
      → (a : ℕ) → list_any (gives_apart (λ x. merged (rep fs v) (rep fs w) (rep fs x)) a a) fs ≡ false
  apart_of_same fs v w (inr k) none before a = absurd (none (Same v w) k)
  apart_of_same fs v w (inl s) none before a = not_apart_merged (rep fs) (rep fs v) (rep fs w) fs before s.not_apart a

  apart_after : (fs : List (Fact ℕ)) (f : Fact ℕ) → Supports first G fs (Says f) → IsTreeShaped fs
      → ((f : Fact ℕ) → ¬ G f) → (a : ℕ)
      → list_any (gives_apart (rep_after (rep fs) f) a a) (fs ++ f ∷ []) ≡ false
  apart_after fs (Has v c) s g none a =
      any-snoc (gives_apart (rep fs) a a) fs (Has v c) ∙ or-false (list_any (gives_apart (rep fs) a a) fs)
      ∙ g.not_apart none a
  apart_after fs (Edge r v w) s g none a =
      any-snoc (gives_apart (rep fs) a a) fs (Edge r v w) ∙ or-false (list_any (gives_apart (rep fs) a a) fs)
      ∙ g.not_apart none a
  apart_after fs (Apart v w) s g none a =
      any-snoc (gives_apart (rep fs) a a) fs (Apart v w) ∙ rw (g.not_apart none a, apart_of_new fs v w s.2 none a) refl
  apart_after fs (Same v w) s g none a =
      any-snoc (gives_apart (λ x. merged (rep fs v) (rep fs w) (rep fs x)) a a) fs (Same v w)
      ∙ or-false (list_any (gives_apart (λ x. merged (rep fs v) (rep fs w) (rep fs x)) a a) fs)
      ∙ apart_of_same fs v w s none (g.not_apart none) a

  -- ---- one fact more: edges

  -- an edge to a new node
  up_of_new : (fs : List (Fact ℕ)) (r x y from to : ℕ) → y ≡ node_count_from first fs → IsTreeShaped fs
      → gives_edge {C = ℕ} any_role (rep fs) from to (Edge r x y) ≡ true
      → HasUp first (rep fs) (fs ++ Edge r x y ∷ []) from to
  up_of_new fs r x y from to new g h =
      let t = and_parts (eqb (rep fs x) from) (eqb (rep fs y) to) h in
      let at : y ≡ to = sym (g.fresh y (omega (arith, new))) ∙ eqb-true (rep fs y) to t.1 in
      record {
        up = x;
        is_origin =
            origin-snoc fs (Edge r x y) to
            ∙ ap (λ (o : Option ℕ). or_else o (cond (eqb y to) (Some x) None))
            (no_origin first fs to (omega (arith, new, at)))
            ∙ ap (λ (b : Bool). cond b (Some x) None) (eq-eqb y to at);
        not_first = omega (arith, new, at, first_le first fs);
        is_joined = eqb-true (rep fs x) from t.0;
      }

  -- an edge to one of two siblings begins at the node above both
  same_above : (fs : List (Fact ℕ)) (begin above end other : ℕ) → Leads (rep fs) fs above other → end ≡ other
      → HasUp first (rep fs) fs begin end → begin ≡ above
  same_above fs begin above end other (inl k) e u =
      absurd (omega (arith, (linked_first (rep fs) above other (rep-le fs) k).1, u.not_first, e))
  same_above fs begin above end other (inr v) e u =
      one_above first fs begin above end u (subst (HasUp first (rep fs) fs above) (sym e) v)

  joined_above : (fs : List (Fact ℕ)) (y z begin end : ℕ) → (s : AreSiblings fs y z) → IsTreeShaped fs
      → (eqb end (rep fs y) || eqb end (rep fs z)) ≡ true
      → HasUp first (rep fs) fs begin end → begin ≡ (siblings first fs y z s).above
  joined_above fs y z begin end s g hit u =
      let sib = siblings first fs y z s in
      elim (or_cases (eqb end (rep fs y)) (eqb end (rep fs z)) hit) [
        | inl a ↦
            same_above fs begin sib.above end (rep fs y) (g.leads sib.above (rep fs y) sib.to_one)
            (eqb-true end (rep fs y) a) u
        | inr a ↦
            same_above fs begin sib.above end (rep fs z) (g.leads sib.above (rep fs z) sib.to_other)
            (eqb-true end (rep fs z) a) u
      ]

  -- a given edge after a joining
  linked_still : (m : ℕ → ℕ) (b c from to before end : ℕ) → IsLinked m before end → merged b c before ≡ from
      → merged b c end ≡ to → IsLinked (λ x. merged b c (m x)) from to
  linked_still m b c from to before end l f e = record {
    role = l.role;
    begin = l.begin;
    end = l.end;
    is_given = l.is_given;
    at_begin = ap (merged b c) l.at_begin ∙ f;
    at_end = ap (merged b c) l.at_end ∙ e;
  }

  -- an edge whose end stays leads on as before
  joined_leads : (m : ℕ → ℕ) (b c : ℕ) (fs : List (Fact ℕ)) (before from end to : ℕ) → Leads m fs before end → end ≡ to
      → merged b c end ≡ to → merged b c before ≡ from
      → Leads (λ x. merged b c (m x)) fs from to
  joined_leads m b c fs before from end to (inl k) e g f = inl (linked_still m b c from to before end k f g)
  joined_leads m b c fs before from end to (inr u) e g f = inr (joined_up first m b c fs before from end to u e f)

  -- an edge to the node that two nodes become, where an edge led to it from above
  to_joined : (m : ℕ → ℕ) (b c : ℕ) (fs : List (Fact ℕ)) (above before from end to : ℕ) → ((x : ℕ) → m x ≤ x)
      → Leads m fs above to → Leads m fs before end → (HasUp first m fs before end → before ≡ above)
      → to ≤ end → merged b c end ≡ to → merged b c to ≡ to → merged b c before ≡ from
      → Leads (λ x. merged b c (m x)) fs from to
  to_joined m b c fs above before from end to falls (inl k) (inl j) same le e low f =
      inl (linked_still m b c from to before end j f e)
  to_joined m b c fs above before from end to falls (inl k) (inr u) same le e low f =
      inl (linked_still m b c from to above to k (ap (merged b c) (sym (same u)) ∙ f) low)
  to_joined m b c fs above before from end to falls (inr v) (inl j) same le e low f =
      absurd (omega (arith, (linked_first m before end falls j).1, v.not_first, le))
  to_joined m b c fs above before from end to falls (inr v) (inr u) same le e low f =
      inr (joined_up first m b c fs above from to to v refl (ap (merged b c) (sym (same u)) ∙ f))

  -- edges after a joining of two siblings
  up_after_join : (fs : List (Fact ℕ)) (y z : ℕ) → AreSiblings fs y z → IsTreeShaped fs → (from to : ℕ)
      → list_any (gives_edge {C = ℕ} any_role (λ x. merged (rep fs y) (rep fs z) (rep fs x)) from to) fs ≡ true
      → Leads (λ x. merged (rep fs y) (rep fs z) (rep fs x)) fs from to
  up_after_join fs y z s g from to h =
      let M : ℕ → ℕ = λ x. merged (rep fs y) (rep fs z) (rep fs x) in
      let e = edge_before (rep fs) M fs from to h in
      let sib = siblings first fs y z s in
      let old : Leads (rep fs) fs (rep fs e.begin) (rep fs e.end) = g.leads (rep fs e.begin) (rep fs e.end) e.edge in
      elim (cases_Bool (eqb (rep fs e.end) (rep fs y) || eqb (rep fs e.end) (rep fs z))) [
        | inr out ↦
            let at : rep fs e.end ≡ to = rw out at e.at_to in
            joined_leads (rep fs) (rep fs y) (rep fs z) fs (rep fs e.begin) from (rep fs e.end) to old at e.at_to
            e.at_from
        | inl hit ↦
            let at : min (rep fs y) (rep fs z) ≡ to = rw hit at e.at_to in
            let le : to ≤ rep fs e.end = omega (arith, at, low_end (rep fs y) (rep fs z) (rep fs e.end) hit) in
            let same : HasUp first (rep fs) fs (rep fs e.begin) (rep fs e.end) → rep fs e.begin ≡ sib.above =
            joined_above fs y z (rep fs e.begin) (rep fs e.end) s g hit in
            elim (min_cases (rep fs y) (rep fs z)) [
              | inl low ↦
                  to_joined (rep fs) (rep fs y) (rep fs z) fs sib.above (rep fs e.begin) from (rep fs e.end) to
                  (rep-le fs)
                  (subst (Leads (rep fs) fs sib.above) (sym low ∙ at) (g.leads sib.above (rep fs y) sib.to_one)) old
                  same le e.at_to (merged_low (rep fs y) (rep fs z) to at) e.at_from
              | inr high ↦
                  to_joined (rep fs) (rep fs y) (rep fs z) fs sib.above (rep fs e.begin) from (rep fs e.end) to
                  (rep-le fs)
                  (subst (Leads (rep fs) fs sib.above) (sym high ∙ at) (g.leads sib.above (rep fs z) sib.to_other)) old
                  same le e.at_to (merged_low (rep fs y) (rep fs z) to at) e.at_from
            ]
      ]

  first_end : (b c e : ℕ) → b < first → c < first → (eqb e b || eqb e c) ≡ true → e < first
  first_end b c e lt mt h = grind (arith, nat_tests)

  -- edges after a given joining
  first_leads : (m : ℕ → ℕ) (b c : ℕ) (fs : List (Fact ℕ)) (before from end to : ℕ) → Leads m fs before end
      → end < first → merged b c end ≡ to → merged b c before ≡ from → Leads (λ x. merged b c (m x)) fs from to
  first_leads m b c fs before from end to (inl k) lt e f = inl (linked_still m b c from to before end k f e)
  first_leads m b c fs before from end to (inr u) lt e f = absurd (omega (arith, lt, u.not_first))

  up_after_first : (fs : List (Fact ℕ)) (y z : ℕ) → AreFirst y z → IsTreeShaped fs → (from to : ℕ)
      → list_any (gives_edge {C = ℕ} any_role (λ x. merged (rep fs y) (rep fs z) (rep fs x)) from to) fs ≡ true
      → Leads (λ x. merged (rep fs y) (rep fs z) (rep fs x)) fs from to
  up_after_first fs y z k g from to h =
      let M : ℕ → ℕ = λ x. merged (rep fs y) (rep fs z) (rep fs x) in
      let e = edge_before (rep fs) M fs from to h in
      let old : Leads (rep fs) fs (rep fs e.begin) (rep fs e.end) = g.leads (rep fs e.begin) (rep fs e.end) e.edge in
      let fy : rep fs y < first = omega (arith, k.0, rep-le fs y) in
      let fz : rep fs z < first = omega (arith, k.1, rep-le fs z) in
      elim (cases_Bool (eqb (rep fs e.end) (rep fs y) || eqb (rep fs e.end) (rep fs z))) [
        | inr out ↦
            let at : rep fs e.end ≡ to = rw out at e.at_to in
            joined_leads (rep fs) (rep fs y) (rep fs z) fs (rep fs e.begin) from (rep fs e.end) to old at e.at_to
            e.at_from
        | inl hit ↦
            first_leads (rep fs) (rep fs y) (rep fs z) fs (rep fs e.begin) from (rep fs e.end) to old
            (first_end (rep fs y) (rep fs z) (rep fs e.end) fy fz hit) e.at_to e.at_from
      ]

  -- ---- one fact more, of any kind

  keep_up : (fs : List (Fact ℕ)) (f : Fact ℕ) (m : ℕ → ℕ) (from to : ℕ) → Leads m fs from to
      → Leads m (fs ++ f ∷ []) from to
  keep_up fs f m from to (inl k) = inl k
  keep_up fs f m from to (inr u) = inr (record {
    up = u.up;
    is_origin = origin_stays fs f to u.up u.is_origin;
    not_first = u.not_first;
    is_joined = u.is_joined;
  })

  up_of_edge : (fs : List (Fact ℕ)) (r x y from to : ℕ) → (y ≡ node_count_from first fs) ⊎ G (Edge r x y)
      → IsTreeShaped fs → gives_edge {C = ℕ} any_role (rep fs) from to (Edge r x y) ≡ true
      → Leads (rep fs) (fs ++ Edge r x y ∷ []) from to
  up_of_edge fs r x y from to (inl new) g h = inr (up_of_new fs r x y from to new g h)
  up_of_edge fs r x y from to (inr k) g h =
      let t = and_parts (eqb (rep fs x) from) (eqb (rep fs y) to) h in
      inl (record {
        role = r;
        begin = x;
        end = y;
        is_given = k;
        at_begin = eqb-true (rep fs x) from t.0;
        at_end = eqb-true (rep fs y) to t.1;
      })

  up_of_same : (fs : List (Fact ℕ)) (y z : ℕ) → AreSiblings fs y z ⊎ G (Same y z) → IsTreeShaped fs → (from to : ℕ)
      → list_any (gives_edge {C = ℕ} any_role (λ x. merged (rep fs y) (rep fs z) (rep fs x)) from to) fs ≡ true
      → Leads (λ x. merged (rep fs y) (rep fs z) (rep fs x)) fs from to
  up_of_same fs y z (inl s) g from to h = up_after_join fs y z s g from to h
  up_of_same fs y z (inr k) g from to h = up_after_first fs y z (pair_first y z (on_first (Same y z) k)) g from to h

  up_after : (fs : List (Fact ℕ)) (f : Fact ℕ) → Supports first G fs (Says f) → IsTreeShaped fs → (from to : ℕ)
      → list_any (gives_edge any_role (rep_after (rep fs) f) from to) (fs ++ f ∷ []) ≡ true
      → Leads (rep_after (rep fs) f) (fs ++ f ∷ []) from to
  up_after fs (Has v c) s g from to h =
      keep_up fs (Has v c) (rep fs) from to
      (g.leads from to
      (sym (any-snoc (gives_edge any_role (rep fs) from to) fs (Has v c)
      ∙ or-false (list_any (gives_edge any_role (rep fs) from to) fs))
      ∙ h))
  up_after fs (Apart v w) s g from to h =
      keep_up fs (Apart v w) (rep fs) from to
      (g.leads from to
      (sym (any-snoc (gives_edge any_role (rep fs) from to) fs (Apart v w)
      ∙ or-false (list_any (gives_edge any_role (rep fs) from to) fs))
      ∙ h))
  up_after fs (Same v w) s g from to h =
      let M : ℕ → ℕ = λ x. merged (rep fs v) (rep fs w) (rep fs x) in
      keep_up fs (Same v w) M from to
      (up_of_same fs v w s g from to
      (sym
      (any-snoc (gives_edge any_role M from to) fs (Same v w) ∙ or-false (list_any (gives_edge any_role M from to) fs))
      ∙ h))
  up_after fs (Edge r x y) s g from to h =
      elim (or_cases (list_any (gives_edge any_role (rep fs) from to) fs)
      (gives_edge {C = ℕ} any_role (rep fs) from to (Edge r x y))
      (sym (any-snoc (gives_edge any_role (rep fs) from to) fs (Edge r x y)) ∙ h)) [
        | inl before ↦ keep_up fs (Edge r x y) (rep fs) from to (g.leads from to before)
        | inr here ↦ up_of_edge fs r x y from to s.1 g here
      ]

  or_first : (r x y n : ℕ) → (y ≡ n) ⊎ G (Edge r x y) → (y ≡ n) ⊎ AreFirst x y
  or_first r x y n (inl new) = inl new
  or_first r x y n (inr k) = inr (pair_first x y (on_first (Edge r x y) k))

  -- the first edge into a node that is no first node begins at a lesser one
  less_of_new : (v w x p n : ℕ) → v < n → (w ≡ n) ⊎ AreFirst v w → first ≤ x → cond (eqb w x) (Some v) None ≡ Some p
      → p < x
  less_of_new v w x p n lt (inl new) le h = elim (cases_Bool (eqb w x)) [
    | inl hit ↦ let k : v ≡ p = (let l = rw hit at h in cc) in omega (arith, eqb-true w x hit, k, lt, new)
    | inr miss ↦ (let l = rw miss at h in cc)
  ]
  less_of_new v w x p n lt (inr k) le h = elim (cases_Bool (eqb w x)) [
    | inl hit ↦ absurd (omega (arith, eqb-true w x hit, k.1, le))
    | inr miss ↦ (let l = rw miss at h in cc)
  ]

  less_after : (fs : List (Fact ℕ)) (f : Fact ℕ) → Supports first G fs (Says f) → IsTreeShaped fs → (x p : ℕ)
      → first ≤ x → first_origin (fs ++ f ∷ []) x ≡ Some p → p < x
  less_after fs (Has v c) s g x p le h =
      g.less x p le (sym (origin-snoc fs (Has v c) x ∙ or_else-none (first_origin fs x)) ∙ h)
  less_after fs (Apart v w) s g x p le h =
      g.less x p le (sym (origin-snoc fs (Apart v w) x ∙ or_else-none (first_origin fs x)) ∙ h)
  less_after fs (Same v w) s g x p le h =
      g.less x p le (sym (origin-snoc fs (Same v w) x ∙ or_else-none (first_origin fs x)) ∙ h)
  less_after fs (Edge r v w) s g x p le h =
      none_or_some (first_origin fs x) (p < x)
      (λ q e. g.less x p le (e ∙ sym (origin_stays fs (Edge r v w) x q e) ∙ h))
      (λ e. less_of_new v w x p (node_count_from first fs) s.0 (or_first r v w (node_count_from first fs) s.1) le
      (sym (ap (λ (o : Option ℕ). or_else o (cond (eqb w x) (Some v) None)) e) ∙ sym (origin-snoc fs (Edge r v w) x)
      ∙ h))

  pub tree_shaped_after : (fs : List (Fact ℕ)) (f : Fact ℕ) → Supports first G fs (Says f) → IsTreeShaped fs
      → IsTreeShaped (fs ++ f ∷ [])
  tree_shaped_after fs f s g = record {
    fresh =
        λ z le. ap (λ (m : ℕ → ℕ). m z) (reps-snoc fs f) ∙ fresh_after fs f s g z (omega (arith, count_le first fs f));
    not_apart =
        λ none a. ap (λ (m : ℕ → ℕ). list_any (gives_apart m a a) (fs ++ f ∷ [])) (reps-snoc fs f)
        ∙ apart_after fs f s g none a;
    leads = λ from to h.
        subst (λ (m : ℕ → ℕ). Leads m (fs ++ f ∷ []) from to) (sym (reps-snoc fs f))
        (up_after fs f s g from to
        (sym (ap (λ (m : ℕ → ℕ). list_any (gives_edge any_role m from to) (fs ++ f ∷ [])) (reps-snoc fs f)) ∙ h));
    less = less_after fs f s g;
  }

  pub built_tree_shaped : (is : List Item) → IsBuilt first G is → IsTreeShaped (facts_of is)
  built_tree_shaped = built_facts first G IsTreeShaped tree_shaped_none tree_shaped_after

  -- ---- built facts speak of their nodes

  end_below : (fs : List (Fact ℕ)) (r x y : ℕ) → (y ≡ node_count_from first fs) ⊎ AreFirst x y
      → y < node_count_from first (fs ++ Edge r x y ∷ [])
  end_below fs r x y new = omega (arith, count-edge first fs r x y, first_le first fs)

  supported_below : (fs : List (Fact ℕ)) (f : Fact ℕ) → Supports first G fs (Says f)
      → speaks_below (node_count_from first (fs ++ f ∷ [])) f ≡ true
  supported_below fs (Has x c) s =
      lt-ltb x (node_count_from first (fs ++ Has x c ∷ [])) (omega (arith, s, count_le first fs (Has x c)))
  supported_below fs (Edge r x y) s =
      two x y (node_count_from first (fs ++ Edge r x y ∷ [])) (omega (arith, s.0, count_le first fs (Edge r x y)))
      (end_below fs r x y (or_first r x y (node_count_from first fs) s.1))
  supported_below fs (Apart y z) s =
      two y z (node_count_from first (fs ++ Apart y z ∷ [])) (omega (arith, s.0, count_le first fs (Apart y z)))
      (omega (arith, s.1, count_le first fs (Apart y z)))
  supported_below fs (Same y z) s =
      let n = joined_nodes fs y z s in
      two y z (node_count_from first (fs ++ Same y z ∷ [])) (omega (arith, n.0, count_le first fs (Same y z)))
      (omega (arith, n.1, count_le first fs (Same y z)))

  speak_more : (fs : List (Fact ℕ)) (f : Fact ℕ) → Supports first G fs (Says f) → speak_of_nodes first fs ≡ true
      → speak_of_nodes first (fs ++ f ∷ []) ≡ true
  speak_more fs f s h =
      let n = node_count_from first (fs ++ f ∷ []) in
      list_all-append (speaks_below n) fs (f ∷ [])
      ∙ rw (all_more_below (node_count_from first fs) n (count_le first fs f) fs h, supported_below fs f s) refl

  pub built_speak : (is : List Item) → IsBuilt first G is → speak_of_nodes first (facts_of is) ≡ true
  built_speak = built_facts first G (λ fs. speak_of_nodes first fs ≡ true) refl speak_more

-- A fact between representatives is kept exactly where some fact of the list says it of nodes with these
-- representatives.
use Rattle.std.proofs.Common.{◌≡◌, ℕ, ◌&&◌, ◌||◌, min, max, Bool, true, false, List, [], ◌∷◌, ◌++◌, Option, Some, None}
use Rattle.std.proofs.Common.{refl, ap, sym, subst, ◌∙◌, inl, inr, arith}
use Rattle.std.specs.Prelude.{◌==◌, if◌then◌else◌}
use Rattle.std.specs.List.{list_any}
use Rattle.std.proofs.lemmas.Bool.{cases_eq, cases_lt, cases_Bool, or_cases, and_parts, eqb-true, eq-eqb, ne_eqb}
use Rattle.std.proofs.lemmas.Bool.{or_left, or_right, and_from}
use Rattle.std.proofs.lemmas.List.Folds.{list_any-append}
use Rattle.std.proofs.Math.Bool.{or-false, or_assoc, and_assoc}
use Rattle.calculus_specs.proofs.Bools.{same_truth, or_exchange}
use Rattle.calculus_specs.specs.State.{gives_concept, gives_edge, gives_apart, is_given, has_edge, are_apart}
use Rattle.calculus_specs.proofs.State.{eqb-comm}
use Rattle.calculus_specs.specs.declared.facts.Fact.{Fact}
use Rattle.calculus_specs.specs.declared.facts.Fact.TheVariants as F
use Rattle.calculus_specs.specs.Joins.{rep}
use Rattle.calculus_specs.proofs.Joined.{by_last, rep-snoc}
use Rattle.branch_facts.specs.declared.seen.Seen.{Seen}
use Rattle.branch_facts.specs.declared.seen.Seen.TheVariants.{Has, Edge, Apart}
use Rattle.branch_facts.specs.Seen.{Index, renamed, through, is_same, is_seen, with_seen, mentions, seen_renamed}
use Rattle.branch_facts.specs.Seen.{copied_one, copied, index_linked, index_joined, seeing, index_after, index_of}
use Rattle.branch_facts.proofs.Grown.{index_of-snoc}
use Rattle.branch_facts.proofs.Reps.{merged_is, merged_one, when_equal, unless_equal, through_is_rep, rep_twice}

-- ---- tests

any-snoc : {X : Type 0} (p : X → Bool) (xs : List X) (x : X) → list_any p (xs ++ x ∷ []) ≡ (list_any p xs || p x)
any-snoc p xs x = list_any-append p xs (x ∷ []) ∙ ap (λ (b : Bool). list_any p xs || b) (or-false (p x))

-- an element of a list that passes a test
pub record IsFound {X : Type 0} (p : X → Bool) (xs : List X) : Type 0 where
  pub item : X
  pub stands : (q : X → Bool) → q item ≡ true → list_any q xs ≡ true
  pub passes : p item ≡ true

found : {X : Type 0} (p : X → Bool) (xs : List X) → list_any p xs ≡ true → IsFound p xs
found p [] h = cc
found p (x ∷ xs) h = elim (or_cases (p x) (list_any p xs) h) [
  | inl here ↦ record { item = x; stands = λ q e. or_left (q x) (list_any q xs) e; passes = here }
  | inr later ↦
      let f = found p xs later in
      record { item = f.item; stands = λ q e. or_right (q x) (list_any q xs) (f.stands q e); passes = f.passes }
]

-- ---- facts that are the same

pub same_true : (f g : Seen) → is_same f g ≡ true → f ≡ g
same_true (Has x c) (Has y d) h =
    let t = and_parts (x == y) (c == d) h in λ i. Has (eqb-true x y t.0 i) (eqb-true c d t.1 i)
same_true (Edge r x y) (Edge s v w) h =
    let t = and_parts (r == s) (x == v && y == w) h in
    let u = and_parts (x == v) (y == w) t.1 in
    λ i. Edge (eqb-true r s t.0 i) (eqb-true x v u.0 i) (eqb-true y w u.1 i)
same_true (Apart x y) (Apart v w) h =
    let t = and_parts (x == v) (y == w) h in λ i. Apart (eqb-true x v t.0 i) (eqb-true y w t.1 i)
same_true (Has x c) (Edge s v w) h = cc
same_true (Has x c) (Apart v w) h = cc
same_true (Edge r x y) (Has v d) h = cc
same_true (Edge r x y) (Apart v w) h = cc
same_true (Apart x y) (Has v d) h = cc
same_true (Apart x y) (Edge s v w) h = cc

same_itself : (f : Seen) → is_same f f ≡ true
same_itself (Has x c) = and_from (x == x) (c == c) (eq-eqb x x refl) (eq-eqb c c refl)
same_itself (Edge r x y) =
    and_from (r == r) (x == x && y == y) (eq-eqb r r refl)
    (and_from (x == x) (y == y) (eq-eqb x x refl) (eq-eqb y y refl))
same_itself (Apart x y) = and_from (x == x) (y == y) (eq-eqb x x refl) (eq-eqb y y refl)

true_same : (f g : Seen) → f ≡ g → is_same f g ≡ true
true_same f g e = subst (λ h. is_same f h ≡ true) e (same_itself f)

-- ---- what is seen after one fact more

seen-snoc : (seen : List Seen) (f g : Seen) → is_seen (seen ++ f ∷ []) g ≡ (is_seen seen g || is_same g f)
seen-snoc seen f g = any-snoc (is_same g) seen f

with_seen_has : (seen : List Seen) (f g : Seen) → is_seen (with_seen seen f) g ≡ (is_seen seen g || is_same g f)
with_seen_has seen f g = elim (cases_Bool (is_seen seen f)) [
  | inl there ↦
      ap (λ (b : Bool). is_seen (if b then seen else seen ++ f ∷ []) g) there
      ∙ same_truth (is_seen seen g) (is_seen seen g || is_same g f) (or_left (is_seen seen g) (is_same g f))
      (λ h. elim (or_cases (is_seen seen g) (is_same g f) h)
      [ inl before ↦ before | inr here ↦ subst (λ k. is_seen seen k ≡ true) (sym (same_true g f here)) there ])
  | inr absent ↦ ap (λ (b : Bool). is_seen (if b then seen else seen ++ f ∷ []) g) absent ∙ seen-snoc seen f g
]

-- what the copy of a fact adds
abbrev adds : ℕ → ℕ → Seen → Seen → Bool
adds high low g f = mentions high f && is_same g (seen_renamed high low f)

copied_one_has : (high low : ℕ) (seen : List Seen) (f g : Seen)
    → is_seen (copied_one high low seen f) g ≡ (is_seen seen g || adds high low g f)
copied_one_has high low seen f g = by (mentions high f)
  where
    by : (b : Bool)
        → is_seen (if b then with_seen seen (seen_renamed high low f) else seen) g
        ≡ (is_seen seen g || (b && is_same g (seen_renamed high low f)))
    by true = with_seen_has seen (seen_renamed high low f) g
    by false = sym (or-false (is_seen seen g))

copied_has : (high low : ℕ) (fs seen : List Seen) (g : Seen)
    → is_seen (copied high low fs seen) g ≡ (is_seen seen g || list_any (adds high low g) fs)
copied_has high low [] seen g = sym (or-false (is_seen seen g))
copied_has high low (f ∷ fs) seen g =
    copied_has high low fs (copied_one high low seen f) g
    ∙ ap (λ (b : Bool). b || list_any (adds high low g) fs) (copied_one_has high low seen f g)
    ∙ or_assoc (is_seen seen g) (adds high low g f) (list_any (adds high low g) fs)

-- ---- facts of a list, between representatives

abbrev pub placed : (ℕ → ℕ) → Fact ℕ → Option Seen
placed m (F.Has x c) = Some (Has (m x) c)
placed m (F.Edge r x y) = Some (Edge r (m x) (m y))
placed m (F.Apart x y) = Some (Apart (m x) (m y))
placed m (F.Same x y) = None

abbrev pub is_that : Seen → Option Seen → Bool
is_that g None = false
is_that g (Some f) = is_same g f

abbrev pub is_placed : (ℕ → ℕ) → Seen → Fact ℕ → Bool
is_placed m g f = is_that g (placed m f)

abbrev pub IsFixed : (ℕ → ℕ) → Seen → Type 0
IsFixed m (Has x c) = m x ≡ x
IsFixed m (Edge r x y) = (m x ≡ x) × (m y ≡ y)
IsFixed m (Apart x y) = (m x ≡ x) × (m y ≡ y)

abbrev pub AreFound : List (Fact ℕ) → Type 0
AreFound fs = (g : Seen) → IsFixed (rep fs) g → is_seen (index_of fs).seen g ≡ list_any (is_placed (rep fs) g) fs

-- a fact that joins no nodes
seen_more : (fs : List (Fact ℕ)) (f : Fact ℕ) (s : Seen) → placed (rep fs) f ≡ Some s
    → index_after (index_of fs) f ≡ seeing (index_of fs) s → rep (fs ++ f ∷ []) ≡ rep fs → AreFound fs
    → AreFound (fs ++ f ∷ [])
seen_more fs f s is put same ih g fixed =
    ap (λ (i : Index). is_seen i.seen g) (index_of-snoc fs f ∙ put)
    ∙ with_seen_has (index_of fs).seen s g
    ∙ ap (λ (b : Bool). b || is_same g s) (ih g (subst (λ (m : ℕ → ℕ). IsFixed m g) same fixed))
    ∙ ap (λ (o : Option Seen). list_any (is_placed (rep fs) g) fs || is_that g o) (sym is)
    ∙ sym (any-snoc (is_placed (rep fs) g) fs f)
    ∙ ap (λ (m : ℕ → ℕ). list_any (is_placed m g) (fs ++ f ∷ [])) (sym same)

reached : (fs : List (Fact ℕ)) → through (index_of fs).links ≡ rep fs
reached fs = λ i x. through_is_rep fs x i

-- ---- a fact that joins two nodes

module _ (m : ℕ → ℕ) (twice : (x : ℕ) → m (m x) ≡ m x) (high low : ℕ) (less : high ≡ low → ⊥) (of_high : m high ≡ high)
    (of_low : m low ≡ low) where
  abbrev after_link : ℕ → ℕ
  after_link x = renamed high low (m x)

  -- a node that stays as it is was a representative, and is not the one that goes
  node_fixed : (x : ℕ) → after_link x ≡ x → (m x ≡ x) × (x ≡ high → ⊥)
  node_fixed x stays = elim (cases_eq (m x) high) [
    | inl at ↦
        let to_low : x ≡ low = sym stays ∙ when_equal (m x) high low (m x) at in
        let low_is : m x ≡ low = ap m to_low ∙ of_low in
        absurd (less (sym at ∙ low_is))
    | inr other ↦
        let kept : m x ≡ x = sym (unless_equal (m x) high low (m x) other) ∙ stays in
        (kept, λ (e : x ≡ high). other (kept ∙ e))
  ]

  not_mentioned : (x y : ℕ) → (x ≡ high → ⊥) → (y ≡ high → ⊥) → (x == high || y == high) ≡ false
  not_mentioned x y nx ny = rw (ne_eqb x high nx, ne_eqb y high ny) refl

  fixed_before : (g : Seen) → IsFixed after_link g → IsFixed m g × (mentions high g ≡ false)
  fixed_before (Has x c) fixed = let t = node_fixed x fixed in (t.0, ne_eqb x high t.1)
  fixed_before (Edge r x y) fixed =
      let t = node_fixed x fixed.0 in let u = node_fixed y fixed.1 in ((t.0, u.0), not_mentioned x y t.1 u.1)
  fixed_before (Apart x y) fixed =
      let t = node_fixed x fixed.0 in let u = node_fixed y fixed.1 in ((t.0, u.0), not_mentioned x y t.1 u.1)

  node_stays : (x : ℕ) → (x == high) ≡ false → renamed high low x ≡ x
  node_stays x h = ap (λ (b : Bool). if b then low else x) h

  neither : (a b : Bool) → (a || b) ≡ false → (a ≡ false) × (b ≡ false)
  neither false b h = (refl, h)
  neither true b h = cc

  unmentioned_stays : (g : Seen) → mentions high g ≡ false → seen_renamed high low g ≡ g
  unmentioned_stays (Has x c) h = ap (λ z. Has z c) (node_stays x h)
  unmentioned_stays (Edge r x y) h =
      let t = neither (x == high) (y == high) h in λ i. Edge r (node_stays x t.0 i) (node_stays y t.1 i)
  unmentioned_stays (Apart x y) h =
      let t = neither (x == high) (y == high) h in λ i. Apart (node_stays x t.0 i) (node_stays y t.1 i)

  -- what becomes a representative was one
  node_was : (x : ℕ) → m (renamed high low x) ≡ renamed high low x → m x ≡ x
  node_was x h = elim (cases_eq x high) [
    | inl at ↦ ap m at ∙ of_high ∙ sym at
    | inr other ↦ let stays : renamed high low x ≡ x = unless_equal x high low x other in ap m (sym stays) ∙ h ∙ stays
  ]

  fixed_was : (s : Seen) → IsFixed m (seen_renamed high low s) → IsFixed m s
  fixed_was (Has x c) fixed = node_was x fixed
  fixed_was (Edge r x y) fixed = (node_was x fixed.0, node_was y fixed.1)
  fixed_was (Apart x y) fixed = (node_was x fixed.0, node_was y fixed.1)

  -- the same fact of the list, before and after
  placed_on : (f : Fact ℕ) (s : Seen) → is_placed m s f ≡ true → is_placed after_link (seen_renamed high low s) f ≡ true
  placed_on (F.Has x c) s h =
      true_same (seen_renamed high low s) (Has (after_link x) c)
      (ap (seen_renamed high low) (same_true s (Has (m x) c) h))
  placed_on (F.Edge r x y) s h =
      true_same (seen_renamed high low s) (Edge r (after_link x) (after_link y))
      (ap (seen_renamed high low) (same_true s (Edge r (m x) (m y)) h))
  placed_on (F.Apart x y) s h =
      true_same (seen_renamed high low s) (Apart (after_link x) (after_link y))
      (ap (seen_renamed high low) (same_true s (Apart (m x) (m y)) h))
  placed_on (F.Same x y) s h = cc

  record WasPlaced (f : Fact ℕ) (g : Seen) : Type 0 where
    pub before : Seen
    pub placed_before : is_placed m before f ≡ true
    pub becomes : seen_renamed high low before ≡ g
    pub fixed : IsFixed m before

  placed_back : (f : Fact ℕ) (g : Seen) → is_placed after_link g f ≡ true → WasPlaced f g
  placed_back (F.Has x c) g h = record {
    before = Has (m x) c;
    placed_before = same_itself (Has (m x) c);
    becomes = sym (same_true g (Has (after_link x) c) h);
    fixed = twice x;
  }
  placed_back (F.Edge r x y) g h = record {
    before = Edge r (m x) (m y);
    placed_before = same_itself (Edge r (m x) (m y));
    becomes = sym (same_true g (Edge r (after_link x) (after_link y)) h);
    fixed = (twice x, twice y);
  }
  placed_back (F.Apart x y) g h = record {
    before = Apart (m x) (m y);
    placed_before = same_itself (Apart (m x) (m y));
    becomes = sym (same_true g (Apart (after_link x) (after_link y)) h);
    fixed = (twice x, twice y);
  }
  placed_back (F.Same x y) g h = cc

  module _ (fs : List (Fact ℕ)) (seen : List Seen)
      (ih : (g : Seen) → IsFixed m g → is_seen seen g ≡ list_any (is_placed m g) fs) (g : Seen)
      (fixed : IsFixed after_link g) where
    -- a fact that is kept, found in the list under its new name
    listed : (s : Seen) → seen_renamed high low s ≡ g → IsFixed m s → is_seen seen s ≡ true
        → list_any (is_placed after_link g) fs ≡ true
    listed s is at kept =
        let f = found (is_placed m s) fs (sym (ih s at) ∙ kept) in
        f.stands (is_placed after_link g)
        (subst (λ k. is_placed after_link k f.item ≡ true) is (placed_on f.item s f.passes))

    one_way : (is_seen seen g || list_any (adds high low g) seen) ≡ true → list_any (is_placed after_link g) fs ≡ true
    one_way h =
        let before = fixed_before g fixed in
        elim (or_cases (is_seen seen g) (list_any (adds high low g) seen) h) [
          | inl kept ↦ listed g (unmentioned_stays g before.1) before.0 kept
          | inr added ↦
              let s = found (adds high low g) seen added in
              let parts = and_parts (mentions high s.item) (is_same g (seen_renamed high low s.item)) s.passes in
              let is : seen_renamed high low s.item ≡ g = sym (same_true g (seen_renamed high low s.item) parts.1) in
              listed s.item is (fixed_was s.item (subst (IsFixed m) (sym is) before.0))
              (s.stands (is_same s.item) (same_itself s.item))
        ]

    other_way : list_any (is_placed after_link g) fs ≡ true → (is_seen seen g || list_any (adds high low g) seen) ≡ true
    other_way h =
        let f = found (is_placed after_link g) fs h in
        let was = placed_back f.item g f.passes in
        let kept : is_seen seen was.before ≡ true =
        ih was.before was.fixed ∙ f.stands (is_placed m was.before) was.placed_before in
        elim (cases_Bool (mentions high was.before)) [
          | inl mentioned ↦
              let s = found (is_same was.before) seen kept in
              let is : was.before ≡ s.item = same_true was.before s.item s.passes in
              let added : adds high low g was.before ≡ true =
              and_from (mentions high was.before) (is_same g (seen_renamed high low was.before)) mentioned
              (true_same g (seen_renamed high low was.before) (sym was.becomes)) in
              or_right (is_seen seen g) (list_any (adds high low g) seen)
              (s.stands (adds high low g) (subst (λ k. adds high low g k ≡ true) is added))
          | inr unmentioned ↦
              or_left (is_seen seen g) (list_any (adds high low g) seen)
              (subst (λ k. is_seen seen k ≡ true) (sym (unmentioned_stays was.before unmentioned) ∙ was.becomes) kept)
        ]

    linked_found : is_seen (copied high low seen seen) g ≡ list_any (is_placed after_link g) fs
    linked_found =
        copied_has high low seen seen g
        ∙ same_truth (is_seen seen g || list_any (adds high low g) seen) (list_any (is_placed after_link g) fs) one_way
        other_way

-- ---- all facts

index_of_same : (fs : List (Fact ℕ)) (v w : ℕ)
    → index_of (fs ++ F.Same v w ∷ []) ≡ index_joined (index_of fs) (rep fs v) (rep fs w)
index_of_same fs v w =
    index_of-snoc fs (F.Same v w) ∙ ap (λ (m : ℕ → ℕ). index_joined (index_of fs) (m v) (m w)) (reached fs)

nothing_placed : (m : ℕ → ℕ) (fs : List (Fact ℕ)) (v w : ℕ) (g : Seen)
    → list_any (is_placed m g) (fs ++ F.Same v w ∷ []) ≡ list_any (is_placed m g) fs
nothing_placed m fs v w g = any-snoc (is_placed m g) fs (F.Same v w) ∙ or-false (list_any (is_placed m g) fs)

max_fixed : (m : ℕ → ℕ) (y z : ℕ) → m y ≡ y → m z ≡ z → (m (max y z) ≡ max y z) × (m (min y z) ≡ min y z)
max_fixed m y z p q = elim (cases_lt y z) [
  | inl lt ↦
      let hi : z ≡ max y z = omega arith in
      let lo : y ≡ min y z = omega arith in (subst (λ k. m k ≡ k) hi q, subst (λ k. m k ≡ k) lo p)
  | inr ge ↦
      let hi : y ≡ max y z = omega arith in
      let lo : z ≡ min y z = omega arith in (subst (λ k. m k ≡ k) hi p, subst (λ k. m k ≡ k) lo q)
]

max_min : (y z : ℕ) → (y ≡ z → ⊥) → max y z ≡ min y z → ⊥
max_min y z differ e = differ (omega (arith, e))

join_more : (fs : List (Fact ℕ)) (v w : ℕ) → AreFound fs → AreFound (fs ++ F.Same v w ∷ [])
join_more fs v w ih g fixed =
    let m = rep fs in
    let y = m v in
    let z = m w in
    elim (cases_eq y z) [
      | inl same ↦
          let one : rep (fs ++ F.Same v w ∷ []) ≡ m =
          λ i x. (rep-snoc fs (F.Same v w) x ∙ merged_one y z (m x) same) i in
          let index : index_of (fs ++ F.Same v w ∷ []) ≡ index_of fs =
          index_of_same fs v w ∙ when_equal y z (index_of fs) (index_linked (index_of fs) (max y z) (min y z)) same in
          ap (λ (i : Index). is_seen i.seen g) index
          ∙ ih g (subst (λ (n : ℕ → ℕ). IsFixed n g) one fixed)
          ∙ sym (nothing_placed m fs v w g)
          ∙ ap (λ (n : ℕ → ℕ). list_any (is_placed n g) (fs ++ F.Same v w ∷ [])) (sym one)
      | inr differ ↦
          let fix = max_fixed m y z (rep_twice fs v) (rep_twice fs w) in
          let to : rep (fs ++ F.Same v w ∷ []) ≡ (λ x. renamed (max y z) (min y z) (m x)) =
          λ i x. (rep-snoc fs (F.Same v w) x ∙ merged_is y z (m x) differ) i in
          let index : index_of (fs ++ F.Same v w ∷ []) ≡ index_linked (index_of fs) (max y z) (min y z) =
          index_of_same fs v w
          ∙ unless_equal y z (index_of fs) (index_linked (index_of fs) (max y z) (min y z)) differ in
          ap (λ (i : Index). is_seen i.seen g) index
          ∙ linked_found m (rep_twice fs) (max y z) (min y z) (max_min y z differ) fix.0 fix.1 fs (index_of fs).seen ih
          g (subst (λ (n : ℕ → ℕ). IsFixed n g) to fixed)
          ∙ sym (nothing_placed (λ x. renamed (max y z) (min y z) (m x)) fs v w g)
          ∙ ap (λ (n : ℕ → ℕ). list_any (is_placed n g) (fs ++ F.Same v w ∷ [])) (sym to)
    ]

fact_more : (fs : List (Fact ℕ)) (f : Fact ℕ) → AreFound fs → AreFound (fs ++ f ∷ [])
fact_more fs (F.Has x c) ih =
    seen_more fs (F.Has x c) (Has (rep fs x) c) refl
    (ap (λ (m : ℕ → ℕ). seeing (index_of fs) (Has (m x) c)) (reached fs)) (λ i y. rep-snoc fs (F.Has x c) y i) ih
fact_more fs (F.Edge r x y) ih =
    seen_more fs (F.Edge r x y) (Edge r (rep fs x) (rep fs y)) refl
    (ap (λ (m : ℕ → ℕ). seeing (index_of fs) (Edge r (m x) (m y))) (reached fs)) (λ i z. rep-snoc fs (F.Edge r x y) z i)
    ih
fact_more fs (F.Apart x y) ih =
    seen_more fs (F.Apart x y) (Apart (rep fs x) (rep fs y)) refl
    (ap (λ (m : ℕ → ℕ). seeing (index_of fs) (Apart (m x) (m y))) (reached fs)) (λ i z. rep-snoc fs (F.Apart x y) z i)
    ih
fact_more fs (F.Same x y) ih = join_more fs x y ih

are_found : (fs : List (Fact ℕ)) → AreFound fs
are_found = by_last {X = Fact ℕ} AreFound (λ g fixed. refl) (λ fs f ih. fact_more fs f ih)

-- ---- what the facts say

any_alike : {X : Type 0} (p q : X → Bool) → ((x : X) → p x ≡ q x) → (xs : List X) → list_any p xs ≡ list_any q xs
any_alike p q same xs = ap (λ (t : _ → Bool). list_any t xs) (λ i x. same x i)

concept_is : (m : ℕ → ℕ) (at c : ℕ) (f : Fact ℕ) → is_placed m (Has at c) f ≡ gives_concept (λ d. d == c) m at f
concept_is m at c (F.Has y d) = λ i. eqb-comm at (m y) i && eqb-comm c d i
concept_is m at c (F.Edge r y z) = refl
concept_is m at c (F.Apart y z) = refl
concept_is m at c (F.Same y z) = refl

edge_is : (m : ℕ → ℕ) (role a b : ℕ) (f : Fact ℕ) → is_placed m (Edge role a b) f ≡ gives_edge (λ r. r == role) m a b f
edge_is m role a b (F.Has y d) = refl
edge_is m role a b (F.Edge r y z) =
    (λ i. eqb-comm role r i && (eqb-comm a (m y) i && eqb-comm b (m z) i))
    ∙ sym (and_assoc (r == role) (m y == a) (m z == b))
edge_is m role a b (F.Apart y z) = refl
edge_is m role a b (F.Same y z) = refl

apart_is : (m : ℕ → ℕ) (a b : ℕ) (f : Fact ℕ)
    → (is_placed m (Apart a b) f || is_placed m (Apart b a) f) ≡ gives_apart m a b f
apart_is m a b (F.Has y d) = refl
apart_is m a b (F.Edge r y z) = refl
apart_is m a b (F.Apart y z) =
    λ i. (eqb-comm a (m y) i && eqb-comm b (m z) i) || (eqb-comm b (m y) i && eqb-comm a (m z) i)
apart_is m a b (F.Same y z) = refl

any_either : {X : Type 0} (p q : X → Bool) (xs : List X)
    → (list_any p xs || list_any q xs) ≡ list_any (λ x. p x || q x) xs
any_either p q [] = refl
any_either p q (x ∷ xs) =
    or_exchange (p x) (list_any p xs) (q x) (list_any q xs) ∙ ap (λ (b : Bool). (p x || q x) || b) (any_either p q xs)

-- the index of the facts, and the representatives by its links
module _ (fs : List (Fact ℕ)) (i : Index) (is : i ≡ index_of fs) where
  rep_of : (x : ℕ) → through i.links x ≡ rep fs x
  rep_of x = ap (λ (j : Index). through j.links x) is ∙ through_is_rep fs x

  pub has_found : (x c : ℕ) → is_seen i.seen (Has (through i.links x) c) ≡ is_given (λ d. d == c) fs x
  has_found x c =
      (λ k. is_seen (is k).seen (Has (rep_of x k) c))
      ∙ are_found fs (Has (rep fs x) c) (rep_twice fs x)
      ∙ any_alike (is_placed (rep fs) (Has (rep fs x) c)) (gives_concept (λ d. d == c) (rep fs) (rep fs x))
      (concept_is (rep fs) (rep fs x) c) fs

  pub edge_found : (role x y : ℕ)
      → is_seen i.seen (Edge role (through i.links x) (through i.links y)) ≡ has_edge fs (λ r. r == role) x y
  edge_found role x y =
      (λ k. is_seen (is k).seen (Edge role (rep_of x k) (rep_of y k)))
      ∙ are_found fs (Edge role (rep fs x) (rep fs y)) (rep_twice fs x, rep_twice fs y)
      ∙ any_alike (is_placed (rep fs) (Edge role (rep fs x) (rep fs y)))
      (gives_edge (λ r. r == role) (rep fs) (rep fs x) (rep fs y)) (edge_is (rep fs) role (rep fs x) (rep fs y)) fs

  apart_one : (x y : ℕ)
      → is_seen i.seen (Apart (through i.links x) (through i.links y))
      ≡ list_any (is_placed (rep fs) (Apart (rep fs x) (rep fs y))) fs
  apart_one x y =
      (λ k. is_seen (is k).seen (Apart (rep_of x k) (rep_of y k)))
      ∙ are_found fs (Apart (rep fs x) (rep fs y)) (rep_twice fs x, rep_twice fs y)

  pub apart_found : (x y : ℕ)
      → (is_seen i.seen (Apart (through i.links x) (through i.links y))
      || is_seen i.seen (Apart (through i.links y) (through i.links x)))
      ≡ are_apart fs x y
  apart_found x y =
      (λ k. apart_one x y k || apart_one y x k)
      ∙ any_either (is_placed (rep fs) (Apart (rep fs x) (rep fs y))) (is_placed (rep fs) (Apart (rep fs y) (rep fs x)))
      fs
      ∙ any_alike
      (λ f. is_placed (rep fs) (Apart (rep fs x) (rep fs y)) f || is_placed (rep fs) (Apart (rep fs y) (rep fs x)) f)
      (gives_apart (rep fs) (rep fs x) (rep fs y)) (apart_is (rep fs) (rep fs x) (rep fs y)) fs

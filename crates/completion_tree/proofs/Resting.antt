-- A fact of a trail's state holds by the facts that say it and the joins of its nodes.
use Rattle.std.proofs.Common.{◌≡◌, ℕ, zero, suc, ◌+◌, ◌<◌, ◌≤◌, ◌≢◌, Bool, true, false, List, [], ◌∷◌, ◌++◌, length}
use Rattle.std.proofs.Common.{take, get_or, refl, ap, sym, subst, ◌∙◌, arith, inl, inr}
use Rattle.std.specs.Prelude.{◌==◌, ◌&&◌, ◌||◌, not, ◌⊎◌, if◌then◌else◌, Some, slice_get, Result, Ok, Err, IfOk}
use Rattle.std.specs.List.{list_any}
use Rattle.std.specs.Cmp.{nat_cmp_total}
use Rattle.std.proofs.lemmas.List.{take_more}
use Rattle.std.specs.FinSet as set
use Rattle.std.proofs.lemmas.Bool.{cases_Bool, cases_eq, eqb-true, eq-eqb, ne_eqb, and_parts, or_cases, or_left}
use Rattle.std.proofs.lemmas.Bool.{or_right, and_from}
use Rattle.calculus_specs.proofs.Bools.{or_weaker}
use Rattle.axiom_sets.specs.NumberSets.{NumberSet}
use Rattle.calculus_specs.specs.declared.facts.Fact.{Fact}
use Rattle.calculus_specs.specs.declared.facts.Fact.TheVariants.{Has, Edge, Apart, Same}
use Rattle.calculus_specs.specs.Joins.{rep, joins, IsJoined}
use Rattle.calculus_specs.specs.Joins.IsJoined.{itself, by_fact}
use Rattle.calculus_specs.proofs.Joined.{rep-joins, rep-joined, joined-rep, rep_is_least}
use Rattle.completion_tree.specs.declared.tree.By.{By}
use Rattle.completion_tree.specs.declared.tree.Entry.{Entry}
use Rattle.completion_tree.specs.declared.tree.Entry.TheVariants.{Fact as Grounded, Mark}
use Rattle.completion_tree.specs.Trail.{facts_in}
use Rattle.calculus_specs.specs.State.{is_so}
use Rattle.fact_tree.specs.Told.{gives, IsAlone}
use Rattle.fact_tree.proofs.Agreeing.{any-on, concept_on, edge_on, apart_on}
use Rattle.completion_tree.specs.Marks.{facts_within, first_node, second_node, is_join, is_top, is_joining, AreWithin}
use Rattle.completion_tree.specs.Marks.{SomeWithin, IsGroundedBy, passes, marks_at}

-- ---- facts within marks

pub within-in : (p : Fact ℕ → Bool) (u : NumberSet) (es : List Entry) → list_any p (facts_within u es) ≡ true
    → list_any p (facts_in es) ≡ true
within-in p u [] h = h
within-in p u (Mark c ∷ es) h = within-in p u es h
within-in p u (Grounded f by ∷ es) h = elim (cases_Bool (set.is_subset by.marks u)) [
  | inl stays ↦
      elim (or_cases (p f) (list_any p (facts_within u es))
      (sym (ap (λ (b : Bool). list_any p (if b then f ∷ facts_within u es else facts_within u es)) stays) ∙ h)) [
        | inl here ↦ or_left (p f) (list_any p (facts_in es)) here
        | inr later ↦ or_right (p f) (list_any p (facts_in es)) (within-in p u es later)
      ]
  | inr gone ↦
      or_right (p f) (list_any p (facts_in es))
      (within-in p u es
      (sym (ap (λ (b : Bool). list_any p (if b then f ∷ facts_within u es else facts_within u es)) gone) ∙ h))
]

-- a fact that passes and stays
some_stays : (p : Fact ℕ → Bool) (u : NumberSet) (f : Fact ℕ) (by : By) (es : List Entry)
    → set.is_subset by.marks u ≡ true → p f ≡ true → list_any p (facts_within u (Grounded f by ∷ es)) ≡ true
some_stays p u f by es stays pass =
    ap (λ (b : Bool). list_any p (if b then f ∷ facts_within u es else facts_within u es)) stays
    ∙ or_left (p f) (list_any p (facts_within u es)) pass

-- another one before it does no harm
some_later : (p : Fact ℕ → Bool) (u : NumberSet) (e : Entry) (es : List Entry) → list_any p (facts_within u es) ≡ true
    → list_any p (facts_within u (e ∷ es)) ≡ true
some_later p u (Mark c) es h = h
some_later p u (Grounded f by) es h = elim (set.is_subset by.marks u) as
    (λ b. list_any p (if b then f ∷ facts_within u es else facts_within u es) ≡ true) [
      | true ↦ or_right (p f) (list_any p (facts_within u es)) h
      | false ↦ h
    ]

pub all-within : (p q : Fact ℕ → Bool) (u : NumberSet) (es : List Entry) → AreWithin p u es
    → ((f : Fact ℕ) → q f ≡ true → p f ≡ true) → SomeWithin q u es
all-within p q u [] are h any = any
all-within p q u (Mark c ∷ es) are h any = all-within p q u es are h any
all-within p q u (Grounded f by ∷ es) are h any = elim (or_cases (q f) (list_any q (facts_in es)) any) [
  | inl here ↦ some_stays q u f by es (are.0 (h f here)) here
  | inr later ↦ some_later q u (Grounded f by) es (all-within p q u es are.1 h later)
]

-- ---- more marks

pub part_on : (s u v : NumberSet) → set.is_subset s u ≡ true → set.is_subset u v ≡ true → set.is_subset s v ≡ true
part_on s u v h more =
    set.contains-is_subset nat_cmp_total s v
    (λ k one. set.is_subset-contains nat_cmp_total u v more k (set.is_subset-contains nat_cmp_total s u h k one))

pub are-more : (p : Fact ℕ → Bool) (u v : NumberSet) (es : List Entry) → set.is_subset u v ≡ true → AreWithin p u es
    → AreWithin p v es
are-more p u v [] more are = are
are-more p u v (Mark c ∷ es) more are = are-more p u v es more are
are-more p u v (Grounded f by ∷ es) more are =
    (λ pass. part_on by.marks u v (are.0 pass) more, are-more p u v es more are.1)

pub some-more : (p : Fact ℕ → Bool) (u v : NumberSet) (es : List Entry) → set.is_subset u v ≡ true → SomeWithin p u es
    → SomeWithin p v es
some-more p u v es more some any = grow es (some any)
  where
    grow : (us : List Entry) → list_any p (facts_within u us) ≡ true → list_any p (facts_within v us) ≡ true
    grow [] h = h
    grow (Mark c ∷ us) h = grow us h
    grow (Grounded f by ∷ us) h = elim (cases_Bool (set.is_subset by.marks u)) [
      | inl stays ↦
          elim (or_cases (p f) (list_any p (facts_within u us))
          (sym (ap (λ (b : Bool). list_any p (if b then f ∷ facts_within u us else facts_within u us)) stays) ∙ h)) [
            | inl here ↦ some_stays p v f by us (part_on by.marks u v stays more) here
            | inr later ↦ some_later p v (Grounded f by) us (grow us later)
          ]
      | inr gone ↦
          some_later p v (Grounded f by) us
          (grow us
          (sym (ap (λ (b : Bool). list_any p (if b then f ∷ facts_within u us else facts_within u us)) gone) ∙ h))
    ]

pub are-append : (p : Fact ℕ → Bool) (u : NumberSet) (es more : List Entry) → AreWithin p u es → AreWithin p u more
    → AreWithin p u (es ++ more)
are-append p u [] more are rest = rest
are-append p u (Mark c ∷ es) more are rest = are-append p u es more are rest
are-append p u (Grounded f by ∷ es) more are rest = (are.0, are-append p u es more are.1 rest)

-- ---- representatives

module _ (fs gs : List (Fact ℕ)) (fewer : (y z : ℕ) → list_any (joins y z) gs ≡ true → list_any (joins y z) fs ≡ true)
    (a : ℕ)
    (stay : (y z : ℕ) → list_any (joins y z) fs ≡ true → rep fs y ≡ a → y ≢ z → list_any (joins y z) gs ≡ true) where
  kept : (x z : ℕ) → IsJoined fs x z → rep fs x ≡ a → IsJoined gs x z
  kept x x' (itself y) at = itself y
  kept x x' (by_fact v y z any h) at = elim (cases_eq y z) [
    | inl same ↦ subst (λ (n : ℕ). IsJoined gs v n) same (kept v y h at)
    | inr other ↦ by_fact v y z (stay y z any (sym (rep-joined fs v y h) ∙ at) other) (kept v y h at)
  ]

  all : (x z : ℕ) → IsJoined gs x z → IsJoined fs x z
  all x x' (itself y) = itself y
  all x x' (by_fact v y z any h) = by_fact v y z (fewer y z any) (all v y h)

  pub same_rep : (x : ℕ) → rep fs x ≡ a → rep gs x ≡ a
  same_rep x at =
      let joined : IsJoined gs x a = kept x a (subst (λ (n : ℕ). IsJoined fs x n) at (joined-rep fs x)) at in
      let le : rep gs x ≤ a = (rep_is_least gs x).1 a joined in
      let ge : rep fs x ≤ rep gs x = (rep_is_least fs x).1 (rep gs x) (all x (rep gs x) (rep_is_least gs x).0) in
      omega (arith, le, ge, at)

-- ---- what is asked

-- a join of nodes with these representatives is one of those that stay
join_is : (fs : List (Fact ℕ)) (a b y z : ℕ) → list_any (joins y z) fs ≡ true → ((rep fs y ≡ a) ⊎ (rep fs y ≡ b))
    → y ≢ z → (f : Fact ℕ) → joins y z f ≡ true → is_join (rep fs) a b f ≡ true
join_is fs a b y z any at other (Has v c) h = cc
join_is fs a b y z any at other (Edge r v w) h = cc
join_is fs a b y z any at other (Apart v w) h = cc
join_is fs a b y z any at other (Same v w) h =
    let same : rep fs v ≡ rep fs y = elim (or_cases (v == y && w == z) (v == z && w == y) h) [
      | inl here ↦ ap (rep fs) (eqb-true v y (and_parts (v == y) (w == z) here).0)
      | inr turned ↦ ap (rep fs) (eqb-true v z (and_parts (v == z) (w == y) turned).0) ∙ sym (rep-joins fs y z any)
    ] in
    let two : v ≢ w = elim (or_cases (v == y && w == z) (v == z && w == y) h) [
      | inl here ↦
          (λ e. other
          (sym (eqb-true v y (and_parts (v == y) (w == z) here).0) ∙ e
          ∙ eqb-true w z (and_parts (v == y) (w == z) here).1))
      | inr turned ↦
          (λ e. other
          (sym (eqb-true w y (and_parts (v == z) (w == y) turned).1) ∙ sym e
          ∙ eqb-true v z (and_parts (v == z) (w == y) turned).0))
    ] in
    elim at [
      | inl e ↦
          and_from (rep fs v == a || rep fs v == b) (not (v == w))
          (or_left (rep fs v == a) (rep fs v == b) (eq-eqb (rep fs v) a (same ∙ e))) (ap not (ne_eqb v w two))
      | inr e ↦
          and_from (rep fs v == a || rep fs v == b) (not (v == w))
          (or_right (rep fs v == a) (rep fs v == b) (eq-eqb (rep fs v) b (same ∙ e))) (ap not (ne_eqb v w two))
    ]

same_test : (m n : ℕ → ℕ) (a : ℕ) → ((x : ℕ) → m x ≡ a → n x ≡ a) → (x : ℕ) → (m x == a) ≡ true → (n x == a) ≡ true
same_test m n a keeps x h = eq-eqb (n x) a (keeps x (eqb-true (m x) a h))

-- nodes with these representatives keep them
agree : (es : List Entry) (u : NumberSet) (a b : ℕ) → AreWithin (is_join (rep (facts_in es)) a b) u es → (c : ℕ)
    → ((c ≡ a) ⊎ (c ≡ b)) → (v : ℕ) → rep (facts_in es) v ≡ c → rep (facts_within u es) v ≡ c
agree es u a b are c which v e =
    same_rep (facts_in es) (facts_within u es) (λ y z h. within-in (joins y z) u es h) c
    (λ y z any at other. all-within (is_join (rep (facts_in es)) a b) (joins y z) u es are
    (join_is (facts_in es) a b y z any (turn which at) other) any)
    v e
  where
    turn : {n : ℕ} → ((c ≡ a) ⊎ (c ≡ b)) → n ≡ c → (n ≡ a) ⊎ (n ≡ b)
    turn (inl d) at = inl (at ∙ d)
    turn (inr d) at = inr (at ∙ d)

-- what holds, holds by a fact that gives it and the joins of its nodes
pub holds-within : (es : List Entry) (u : NumberSet) (q : Fact ℕ) → SomeWithin (gives (rep (facts_in es)) q) u es
    → AreWithin (is_join (rep (facts_in es)) (rep (facts_in es) (first_node q)) (rep (facts_in es) (second_node q))) u
    es
    → is_so (facts_in es) q ≡ true → is_so (facts_within u es) q ≡ true
holds-within es u (Has x c) some are h =
    let m : ℕ → ℕ = rep (facts_in es) in
    let n : ℕ → ℕ = rep (facts_within u es) in
    let at = agree es u (m x) (m x) are (m x) (inl refl) in
    or_weaker (c == 0) (list_any (gives m (Has x c)) (facts_in es)) (c == 0)
    (list_any (gives n (Has x c)) (facts_within u es)) (λ e. e)
    (λ any. any-on (gives m (Has x c)) (gives n (Has x c)) (concept_on m n x c (λ v e. at v e ∙ sym (at x refl)))
    (facts_within u es) (some any))
    h
holds-within es u (Edge r x y) some are h =
    let m : ℕ → ℕ = rep (facts_in es) in
    let n : ℕ → ℕ = rep (facts_within u es) in
    let first = agree es u (m x) (m y) are (m x) (inl refl) in
    let second = agree es u (m x) (m y) are (m y) (inr refl) in
    any-on (gives m (Edge r x y)) (gives n (Edge r x y))
    (edge_on m n r x y (λ v e. first v e ∙ sym (first x refl)) (λ v e. second v e ∙ sym (second y refl)))
    (facts_within u es) (some h)
holds-within es u (Apart x y) some are h =
    let m : ℕ → ℕ = rep (facts_in es) in
    let n : ℕ → ℕ = rep (facts_within u es) in
    let first = agree es u (m x) (m y) are (m x) (inl refl) in
    let second = agree es u (m x) (m y) are (m y) (inr refl) in
    any-on (gives m (Apart x y)) (gives n (Apart x y))
    (apart_on m n x y (λ v e. first v e ∙ sym (first x refl)) (λ v e. second v e ∙ sym (second y refl)))
    (facts_within u es) (some h)
holds-within es u (Same x y) some are h =
    let m : ℕ → ℕ = rep (facts_in es) in
    let first = agree es u (m x) (m y) are (m x) (inl refl) x refl in
    let second = agree es u (m x) (m y) are (m y) (inr refl) y refl in
    eq-eqb (rep (facts_within u es) x) (rep (facts_within u es) y) (first ∙ eqb-true (m x) (m y) h ∙ sym second)

-- ---- the loops

pub part_itself : (s : NumberSet) → set.is_subset s s ≡ true
part_itself s = set.contains-is_subset nat_cmp_total s s (λ k h. h)

pub part_left : (s t : NumberSet) → set.is_subset s (set.union s t) ≡ true
part_left s t =
    set.contains-is_subset nat_cmp_total s (set.union s t)
    (λ k h. set.contains-union nat_cmp_total s t k ∙ or_left (set.contains s k) (set.contains t k) h)

pub part_right : (s t : NumberSet) → set.is_subset t (set.union s t) ≡ true
part_right s t =
    set.contains-is_subset nat_cmp_total t (set.union s t)
    (λ k h. set.contains-union nat_cmp_total s t k ∙ or_right (set.contains s k) (set.contains t k) h)

pub found : (p : Fact ℕ → Bool) (es : List Entry) (i : ℕ) (d : Entry) → i < length es → passes p (get_or es i d) ≡ true
    → list_any p (facts_within (marks_at (get_or es i d)) es) ≡ true
found p [] i d lt h = absurd (omega (arith, lt))
found p (Grounded f by ∷ es) zero d lt h = some_stays p by.marks f by es (part_itself by.marks) h
found p (Mark c ∷ es) zero d lt h = cc
found p (e ∷ es) (suc i) d lt h = some_later p (marks_at (get_or es i d)) e es (found p es i d (omega (arith, lt)) h)

pub some-nothing : (p : Fact ℕ → Bool) (u : NumberSet) (es : List Entry) → list_any p (facts_in es) ≡ false
    → SomeWithin p u es
some-nothing p u es none any = cc (none, any)

pub single : (p : Fact ℕ → Bool) (u : NumberSet) (e : Entry) → (passes p e ≡ true → set.is_subset (marks_at e) u ≡ true)
    → AreWithin p u (e ∷ [])
single p u (Grounded f by) h = (h, tt)
single p u (Mark c) h = tt

pub are-next : (p : Fact ℕ → Bool) (u v : NumberSet) (es : List Entry) (i : ℕ) (d : Entry) → i < length es
    → AreWithin p u (take i es) → set.is_subset u v ≡ true → AreWithin p v (get_or es i d ∷ [])
    → AreWithin p v (take (i + 1) es)
are-next p u v es i d lt are more here =
    subst (AreWithin p v) (sym (take_more es i d lt))
    (are-append p v (take i es) (get_or es i d ∷ []) (are-more p u v (take i es) more are) here)

-- ---- results

pub if_ok_by : {X E : Type 0} (r : Result X E) (P Q : X → Type 0) → ((x : X) → P x → Q x) → IfOk r P → IfOk r Q
if_ok_by (Ok x) P Q f p = f x p
if_ok_by (Err e) P Q f p = tt

pub if_ok_both : {X E : Type 0} (r : Result X E) (P Q R : X → Type 0) → ((x : X) → P x → Q x → R x) → IfOk r P
    → IfOk r Q → IfOk r R
if_ok_both (Ok x) P Q R f p q = f x p q
if_ok_both (Err e) P Q R f p q = tt

-- ---- nodes that nothing joins

-- no two nodes with these representatives are joined
no_join : (m : ℕ → ℕ) (a b y z : ℕ) → ((v : ℕ) → m v ≡ a → v ≡ a) → ((v : ℕ) → m v ≡ b → v ≡ b) → m y ≡ m z
    → is_join m a b (Same y z) ≡ true → ⊥
no_join m a b y z at-a at-b same h =
    let parts = and_parts (m y == a || m y == b) (not (y == z)) h in
    let one : y ≡ z = elim (or_cases (m y == a) (m y == b) parts.0) [
      | inl e ↦ at-a y (eqb-true (m y) a e) ∙ sym (at-a z (sym same ∙ eqb-true (m y) a e))
      | inr e ↦ at-b y (eqb-true (m y) b e) ∙ sym (at-b z (sym same ∙ eqb-true (m y) b e))
    ] in
    no_both (y == z) (eq-eqb y z one) parts.1
  where
    no_both : (t : Bool) → t ≡ true → not t ≡ true → ⊥
    no_both true e h = cc
    no_both false e h = cc

joins_itself : (y z : ℕ) → joins {C = ℕ} y z (Same y z) ≡ true
joins_itself y z =
    or_left (y == y && z == z) (y == z && z == y) (and_from (y == y) (z == z) (eq-eqb y y refl) (eq-eqb z z refl))

none_within : (m : ℕ → ℕ) (a b : ℕ) (u : NumberSet) → ((v : ℕ) → m v ≡ a → v ≡ a) → ((v : ℕ) → m v ≡ b → v ≡ b)
    → (es : List Entry) → ((y z : ℕ) → list_any (joins y z) (facts_in es) ≡ true → m y ≡ m z)
    → AreWithin (is_join m a b) u es
none_within m a b u at-a at-b [] h = tt
none_within m a b u at-a at-b (Mark c ∷ es) h = none_within m a b u at-a at-b es h
none_within m a b u at-a at-b (Grounded f by ∷ es) h = (
  first f h,
  none_within m a b u at-a at-b es (λ y z any. h y z (or_right (joins y z f) (list_any (joins y z) (facts_in es)) any)),
)
  where
    first : (g : Fact ℕ) → ((y z : ℕ) → list_any (joins y z) (g ∷ facts_in es) ≡ true → m y ≡ m z)
        → is_join m a b g ≡ true → set.is_subset by.marks u ≡ true
    first (Has y d) k j = cc
    first (Edge r y z) k j = cc
    first (Apart y z) k j = cc
    first (Same y z) k j =
        absurd (no_join m a b y z at-a at-b
        (k y z (or_left (joins {C = ℕ} y z (Same y z)) (list_any (joins y z) (facts_in es)) (joins_itself y z))) j)

pub alone_within : (es : List Entry) (a b : ℕ) (u : NumberSet) → rep (facts_in es) a ≡ a → rep (facts_in es) b ≡ b
    → IsAlone (facts_in es) a → IsAlone (facts_in es) b → AreWithin (is_join (rep (facts_in es)) a b) u es
alone_within es a b u own-a own-b alone-a alone-b =
    none_within (rep (facts_in es)) a b u (λ v e. alone-a v (e ∙ sym own-a) ∙ own-a)
    (λ v e. alone-b v (e ∙ sym own-b) ∙ own-b) es (rep-joins (facts_in es))

pub rep_stays : (fs : List (Fact ℕ)) (x : ℕ) → rep fs (rep fs x) ≡ rep fs x
rep_stays fs x = sym (rep-joined fs x (rep fs x) (joined-rep fs x))

-- each node has top, whatever the facts are
pub top-within : (u : NumberSet) (es : List Entry) (q : Fact ℕ) → is_top q ≡ true → is_so (facts_within u es) q ≡ true
top-within u es (Has x c) h = or_left (c == 0) _ h
top-within u es (Edge r x y) h = cc
top-within u es (Apart x y) h = cc
top-within u es (Same x y) h = cc

-- a fact that is said by one alone says itself, whatever nodes are one
says_itself : (m n : ℕ → ℕ) (q f : Fact ℕ) → gives m q f ≡ true → gives n q q ≡ true
says_itself m n (Has x c) f h = and_from (n x == n x) (c == c) (eq-eqb (n x) (n x) refl) (eq-eqb c c refl)
says_itself m n (Edge r x y) f h =
    and_from (r == r && n x == n x) (n y == n y)
    (and_from (r == r) (n x == n x) (eq-eqb r r refl) (eq-eqb (n x) (n x) refl)) (eq-eqb (n y) (n y) refl)
says_itself m n (Apart x y) f h =
    or_left (n x == n x && n y == n y) (n x == n y && n y == n x)
    (and_from (n x == n x) (n y == n y) (eq-eqb (n x) (n x) refl) (eq-eqb (n y) (n y) refl))
says_itself m n (Same x y) f h = cc

-- what is said by a fact that stays is so
said_is_so : (fs : List (Fact ℕ)) (q : Fact ℕ) → list_any (gives (rep fs) q) fs ≡ true → is_so fs q ≡ true
said_is_so fs (Has x c) h = or_right (c == 0) (list_any (gives (rep fs) (Has x c)) fs) h
said_is_so fs (Edge r x y) h = h
said_is_so fs (Apart x y) h = h
said_is_so fs (Same x y) h = absurd (false_says (rep fs) x y fs h)
  where
    false_says : (m : ℕ → ℕ) (x y : ℕ) (gs : List (Fact ℕ)) → list_any (gives m (Same x y)) gs ≡ true → ⊥
    false_says m x y [] k = cc
    false_says m x y (g ∷ gs) k = false_says m x y gs k

pub at_place : (fs : List (Fact ℕ)) (i : ℕ) (f d : Fact ℕ) → slice_get fs i ≡ Some f → get_or fs i d ≡ f
at_place [] i f d h = cc
at_place (g ∷ fs) zero f d h = cc
at_place (g ∷ fs) (suc i) f d h = at_place fs i f d h

-- a fact of the trail is so in the state of the facts that rest on its marks
pub own-within : (m : ℕ → ℕ) (q : Fact ℕ) (es : List Entry) (i : ℕ) (u : NumberSet)
    → gives m q (get_or (facts_in es) i (Has 0 0)) ≡ true → get_or (facts_in es) i (Has 0 0) ≡ q → IsGroundedBy es i u
    → is_so (facts_within u es) q ≡ true
own-within m q es i u says is grounded =
    let n : ℕ → ℕ = rep (facts_within u es) in
    said_is_so (facts_within u es) q
    (grounded (gives n q) (ap (gives n q) is ∙ says_itself m n q (get_or (facts_in es) i (Has 0 0)) says))

-- that two nodes are one is said by no fact alone
nothing_says : (m : ℕ → ℕ) (x y : ℕ) (fs : List (Fact ℕ)) → list_any (gives m (Same x y)) fs ≡ false
nothing_says m x y [] = refl
nothing_says m x y (f ∷ fs) = nothing_says m x y fs

false_is : false ≡ true → ⊥
false_is e = cc

pub joining_within : (m : ℕ → ℕ) (q : Fact ℕ) (u : NumberSet) (es : List Entry) → is_joining q ≡ true
    → SomeWithin (gives m q) u es
joining_within m (Same x y) u es h = some-nothing (gives m (Same x y)) u es (nothing_says m x y (facts_in es))
joining_within m (Has x c) u es h = absurd (false_is h)
joining_within m (Edge r x y) u es h = absurd (false_is h)
joining_within m (Apart x y) u es h = absurd (false_is h)

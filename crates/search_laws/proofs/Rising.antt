-- Numbers that a trail's steps raise: of the concepts given to nodes, of the nodes that were joined to a lesser one,
-- and of the pairs of nodes that were set apart.
use Rattle.std.proofs.Common.{◌≡◌, ℕ, ◌+◌, ◌*◌, ◌<◌, ◌≤◌, ◌&&◌, not, Bool, true, false, eqb, List, [], ◌∷◌, ◌++◌}
use Rattle.std.proofs.Common.{length, refl, ap, ◌∙◌, sym, subst, arith, inl, inr, eq-eqb, append_assoc}
use Rattle.std.proofs.lemmas.List.{append-nil}
use Rattle.std.specs.List.{list_any, Contains}
use Rattle.std.proofs.lemmas.Bool.{cases_lt, and_parts, and_from, or_cases, or_left, or_right, eqb-true, ne_eqb}
use Rattle.std.proofs.lemmas.Bool.{false_from_ne_true, not_from_false}
use Rattle.std.proofs.lemmas.Bool.Decides.{nat_tests}
use Rattle.std.proofs.lemmas.List.Folds.{list_any-append}
use Rattle.std.proofs.lemmas.List.Elements.{All-contains}
use Rattle.std.proofs.lemmas.Option.{slice_get_within, get_or_from_slice_get}
use Rattle.ontology_limits.specs.Below.{count_below}
use Rattle.calculus_specs.specs.Shape.{shape_of}
use Rattle.calculus_specs.specs.Shape.Shape.{union}
use Rattle.calculus_specs.specs.Tree.{IsComplement}
use Rattle.calculus_specs.specs.declared.facts.Fact.{Fact}
use Rattle.calculus_specs.specs.declared.facts.Fact.TheVariants.{Has, Edge, Apart, Same}
use Rattle.calculus_specs.specs.Joins.{rep, rep_after, merged}
use Rattle.calculus_specs.specs.State.{node_count_from, gives_concept, gives_apart, has, is_successor, are_apart}
use Rattle.calculus_specs.proofs.Joined.{by_last, rep-snoc, rep-le}
use Rattle.tableau_specs.specs.declared.Branch.{Branch}
use Rattle.tableau_specs.specs.declared.Branch.TheVariants.{Or, Choose, Pair}
use Rattle.tableau_specs.specs.Clash.{filled_successors}
use Rattle.tableau_specs.proofs.PlainClash.{successor_is_node, successor_is_rep, filled_are_successors}
use Rattle.tableau_specs.specs.Steps.{SearchContext, below_of, MayBranch, IsAlternative}
use Rattle.tableau_specs.specs.Steps.MayBranch.{on_union, on_filler, on_pair}
use Rattle.tableau_specs.specs.Steps.IsAlternative.{of_union, of_filler, of_complement, of_joining, of_parting}
use Rattle.search_laws.proofs.Counting.{count_le, count_more, count_most}
use Rattle.search_laws.proofs.Sums.{sum_below, sum_le, sum_more, sum_most, count_in, in_le, in_more, in_most}

-- ---- facts

abbrev pub is_has : ℕ → ℕ → Fact ℕ → Bool
is_has x d (Has y e) = eqb y x && eqb e d
is_has x d (Edge r y z) = false
is_has x d (Apart y z) = false
is_has x d (Same y z) = false

abbrev pub is_apart : ℕ → ℕ → Fact ℕ → Bool
is_apart y z (Has v e) = false
is_apart y z (Edge r v w) = false
is_apart y z (Apart v w) = eqb v y && eqb w z
is_apart y z (Same v w) = false

-- each concept that a fact gives is in the list
abbrev pub AreIn : List ℕ → List (Fact ℕ) → Type 0
AreIn ds fs = (x d : ℕ) → list_any (is_has x d) fs ≡ true → list_any (eqb d) ds ≡ true

pub any_left : {X : Type 0} (p : X → Bool) (xs ys : List X) → list_any p xs ≡ true → list_any p (xs ++ ys) ≡ true
any_left p xs ys h = list_any-append p xs ys ∙ or_left (list_any p xs) (list_any p ys) h

pub any_right : {X : Type 0} (p : X → Bool) (xs ys : List X) → list_any p ys ≡ true → list_any p (xs ++ ys) ≡ true
any_right p xs ys h = list_any-append p xs ys ∙ or_right (list_any p xs) (list_any p ys) h

pub in_front : (ds : List ℕ) (fs gs : List (Fact ℕ)) → AreIn ds (fs ++ gs) → AreIn ds fs
in_front ds fs gs h x d k = h x d (any_left (is_has x d) fs gs k)

pub self_has : (x d : ℕ) → (eqb x x && eqb d d) ≡ true
self_has x d = and_from (eqb x x) (eqb d d) (eq-eqb x x refl) (eq-eqb d d refl)

pub has_last : (fs : List (Fact ℕ)) (x d : ℕ) → list_any (is_has x d) (fs ++ Has x d ∷ []) ≡ true
has_last fs x d = any_right (is_has x d) fs (Has x d ∷ []) (or_left (eqb x x && eqb d d) false (self_has x d))

apart_last : (fs : List (Fact ℕ)) (y z : ℕ) → list_any (is_apart y z) (fs ++ Apart y z ∷ []) ≡ true
apart_last fs y z = any_right (is_apart y z) fs (Apart y z ∷ []) (or_left (eqb y y && eqb z z) false (self_has y z))

pub any_more : (p q : Fact ℕ → Bool) → ((f : Fact ℕ) → p f ≡ true → q f ≡ true) → (fs : List (Fact ℕ))
    → list_any p fs ≡ true → list_any q fs ≡ true
any_more p q imp [] h = cc
any_more p q imp (f ∷ fs) h = elim (or_cases (p f) (list_any p fs) h) [
  | inl here ↦ or_left (q f) (list_any q fs) (imp f here)
  | inr later ↦ or_right (q f) (list_any q fs) (any_more p q imp fs later)
]

-- what a node does not have, no fact gives it
gives_had : (m : ℕ → ℕ) (x d : ℕ) (f : Fact ℕ) → is_has x d f ≡ true → gives_concept (λ e. eqb e d) m (m x) f ≡ true
gives_had m x d (Has y e) h =
    let t = and_parts (eqb y x) (eqb e d) h in
    and_from (eqb (m y) (m x)) (eqb e d) (eq-eqb (m y) (m x) (ap m (eqb-true y x t.0))) t.1
gives_had m x d (Edge r y z) h = absurd (cc)
gives_had m x d (Apart y z) h = absurd (cc)
gives_had m x d (Same y z) h = absurd (cc)

pub had : (fs : List (Fact ℕ)) (x d : ℕ) → list_any (is_has x d) fs ≡ true → has fs x d ≡ true
had fs x d h =
    or_right (eqb d 0) (list_any (gives_concept (λ e. eqb e d) (rep fs) (rep fs x)) fs)
    (any_more (is_has x d) (gives_concept (λ e. eqb e d) (rep fs) (rep fs x)) (gives_had (rep fs) x d) fs h)

not_had : (fs : List (Fact ℕ)) (x d : ℕ) → has fs x d ≡ false → list_any (is_has x d) fs ≡ false
not_had fs x d out = false_from_ne_true (list_any (is_has x d) fs) (λ h. let k = had fs x d h in cc)

gives_apart' : (m : ℕ → ℕ) (y z : ℕ) (f : Fact ℕ) → is_apart y z f ≡ true → gives_apart m (m y) (m z) f ≡ true
gives_apart' m y z (Apart v w) h =
    let t = and_parts (eqb v y) (eqb w z) h in
    or_left (eqb (m v) (m y) && eqb (m w) (m z)) (eqb (m v) (m z) && eqb (m w) (m y))
    (and_from (eqb (m v) (m y)) (eqb (m w) (m z)) (eq-eqb (m v) (m y) (ap m (eqb-true v y t.0)))
    (eq-eqb (m w) (m z) (ap m (eqb-true w z t.1))))
gives_apart' m y z (Has v e) h = absurd (cc)
gives_apart' m y z (Edge r v w) h = absurd (cc)
gives_apart' m y z (Same v w) h = absurd (cc)

not_set_apart : (fs : List (Fact ℕ)) (y z : ℕ) → are_apart fs y z ≡ false → list_any (is_apart y z) fs ≡ false
not_set_apart fs y z out =
    false_from_ne_true (list_any (is_apart y z) fs)
    (λ h.
    let k = any_more (is_apart y z) (gives_apart (rep fs) (rep fs y) (rep fs z)) (gives_apart' (rep fs) y z) fs h in cc)

-- ---- representatives

merged_le : (b c p : ℕ) → merged b c p ≤ p
merged_le b c p = grind (arith, nat_tests)

after_le : (m : ℕ → ℕ) (f : Fact ℕ) (x : ℕ) → rep_after m f x ≤ m x
after_le m (Same y z) x = merged_le (m y) (m z) (m x)
after_le m (Has y c) x = omega arith
after_le m (Edge r y z) x = omega arith
after_le m (Apart y z) x = omega arith

rep_falls : (fs gs : List (Fact ℕ)) (x : ℕ) → rep (fs ++ gs) x ≤ rep fs x
rep_falls fs gs x = by_last (λ (hs : List (Fact ℕ)). rep (fs ++ hs) x ≤ rep fs x) (base fs) step gs
  where
    base : (es : List (Fact ℕ)) → rep (es ++ []) x ≤ rep es x
    base es = omega (arith, ap (λ (hs : List (Fact ℕ)). rep hs x) (append-nil es))

    step : (hs : List (Fact ℕ)) (f : Fact ℕ) → rep (fs ++ hs) x ≤ rep fs x → rep (fs ++ (hs ++ f ∷ [])) x ≤ rep fs x
    step hs f le =
        let e : rep (fs ++ (hs ++ f ∷ [])) x ≡ rep ((fs ++ hs) ++ f ∷ []) x =
        ap (λ (is : List (Fact ℕ)). rep is x) (sym (append_assoc fs hs (f ∷ []))) in
        omega (arith, e, rep-snoc (fs ++ hs) f x, after_le (rep (fs ++ hs)) f x, le)

-- ---- the numbers

module _ (ds : List ℕ) (v : ℕ) where
  -- of the concepts given
  abbrev pub given : List (Fact ℕ) → ℕ
  given fs = sum_below v (λ x. count_in ds (λ d. list_any (is_has x d) fs))

  -- of the nodes joined to a lesser one
  abbrev pub joined : List (Fact ℕ) → ℕ
  joined fs = count_below v (λ x. not (eqb (rep fs x) x))

  -- of the pairs set apart
  abbrev pub parted : List (Fact ℕ) → ℕ
  parted fs = sum_below v (λ y. count_below v (λ z. list_any (is_apart y z) fs))

  pub given_most : (fs : List (Fact ℕ)) → given fs ≤ v * length ds
  given_most fs =
      sum_most v (length ds) (λ x. count_in ds (λ d. list_any (is_has x d) fs))
      (λ x lt. in_most ds (λ d. list_any (is_has x d) fs))

  pub joined_most : (fs : List (Fact ℕ)) → joined fs ≤ v
  joined_most fs = count_most v (λ x. not (eqb (rep fs x) x))

  pub parted_most : (fs : List (Fact ℕ)) → parted fs ≤ v * v
  parted_most fs =
      sum_most v v (λ y. count_below v (λ z. list_any (is_apart y z) fs))
      (λ y lt. count_most v (λ z. list_any (is_apart y z) fs))

  -- no fact more makes them less

  given_stays : (fs gs : List (Fact ℕ)) (x : ℕ)
      → count_in ds (λ d. list_any (is_has x d) fs) ≤ count_in ds (λ d. list_any (is_has x d) (fs ++ gs))
  given_stays fs gs x =
      in_le ds (λ d. list_any (is_has x d) fs) (λ d. list_any (is_has x d) (fs ++ gs))
      (λ d k. any_left (is_has x d) fs gs k)

  pub given_le : (fs gs : List (Fact ℕ)) → given fs ≤ given (fs ++ gs)
  given_le fs gs =
      sum_le v (λ x. count_in ds (λ d. list_any (is_has x d) fs))
      (λ x. count_in ds (λ d. list_any (is_has x d) (fs ++ gs))) (λ x lt. given_stays fs gs x)

  stays_joined : (fs gs : List (Fact ℕ)) (x : ℕ) → not (eqb (rep fs x) x) ≡ true → not (eqb (rep (fs ++ gs) x) x) ≡ true
  stays_joined fs gs x h = not_from_false (eqb (rep (fs ++ gs) x) x) (ne_eqb (rep (fs ++ gs) x) x (λ e.
      let k : rep fs x ≡ x = omega (arith, e, rep_falls fs gs x, rep-le fs x) in
      let l = eq-eqb (rep fs x) x k in
      let n : not (eqb (rep fs x) x) ≡ false = rw l refl in
      cc))

  pub joined_le : (fs gs : List (Fact ℕ)) → joined fs ≤ joined (fs ++ gs)
  joined_le fs gs =
      count_le v (λ x. not (eqb (rep fs x) x)) (λ x. not (eqb (rep (fs ++ gs) x) x)) (λ x lt. stays_joined fs gs x)

  parted_stays : (fs gs : List (Fact ℕ)) (y : ℕ)
      → count_below v (λ z. list_any (is_apart y z) fs) ≤ count_below v (λ z. list_any (is_apart y z) (fs ++ gs))
  parted_stays fs gs y =
      count_le v (λ z. list_any (is_apart y z) fs) (λ z. list_any (is_apart y z) (fs ++ gs))
      (λ z lt k. any_left (is_apart y z) fs gs k)

  pub parted_le : (fs gs : List (Fact ℕ)) → parted fs ≤ parted (fs ++ gs)
  parted_le fs gs =
      sum_le v (λ y. count_below v (λ z. list_any (is_apart y z) fs))
      (λ y. count_below v (λ z. list_any (is_apart y z) (fs ++ gs))) (λ y lt. parted_stays fs gs y)

  -- each kind of new fact raises one of them

  pub given_more : (fs : List (Fact ℕ)) (x d : ℕ) → x < v → AreIn ds (fs ++ Has x d ∷ []) → has fs x d ≡ false
      → given fs + 1 ≤ given (fs ++ Has x d ∷ [])
  given_more fs x d lt all out =
      let gs = Has x d ∷ [] in
      sum_more v (λ y. count_in ds (λ e. list_any (is_has y e) fs))
      (λ y. count_in ds (λ e. list_any (is_has y e) (fs ++ gs))) x lt (λ y mt. given_stays fs gs y)
      (in_more ds (λ e. list_any (is_has x e) fs) (λ e. list_any (is_has x e) (fs ++ gs)) d (all x d (has_last fs x d))
      (λ e k. any_left (is_has x e) fs gs k) (not_had fs x d out) (has_last fs x d))

  pub parted_more : (fs : List (Fact ℕ)) (y z : ℕ) → y < v → z < v → are_apart fs y z ≡ false
      → parted fs + 1 ≤ parted (fs ++ Apart y z ∷ [])
  parted_more fs y z lt mt out =
      let gs = Apart y z ∷ [] in
      sum_more v (λ u. count_below v (λ x. list_any (is_apart u x) fs))
      (λ u. count_below v (λ x. list_any (is_apart u x) (fs ++ gs))) y lt (λ u nt. parted_stays fs gs u)
      (count_more v (λ x. list_any (is_apart y x) fs) (λ x. list_any (is_apart y x) (fs ++ gs)) z mt
      (λ x nt k. any_left (is_apart y x) fs gs k) (not_set_apart fs y z out) (apart_last fs y z))

  -- the greater of two representatives is joined to the lesser
  joined_at : (fs : List (Fact ℕ)) (y z h : ℕ) → h < v → rep fs h ≡ h → rep (fs ++ Same y z ∷ []) h < h
      → joined fs + 1 ≤ joined (fs ++ Same y z ∷ [])
  joined_at fs y z h lt is_rep falls =
      count_more v (λ x. not (eqb (rep fs x) x)) (λ x. not (eqb (rep (fs ++ Same y z ∷ []) x) x)) h lt
      (λ x mt. stays_joined fs (Same y z ∷ []) x)
      (ap not (eq-eqb (rep fs h) h is_rep))
      (not_from_false (eqb (rep (fs ++ Same y z ∷ []) h) h)
      (ne_eqb (rep (fs ++ Same y z ∷ []) h) h (λ e. absurd (omega arith))))

  merged_falls : (y z : ℕ) → y < z → (merged y z z < z) × (merged z y z < z)
  merged_falls y z lt = (grind (arith, nat_tests), grind (arith, nat_tests))

  pub joined_more : (fs : List (Fact ℕ)) (y z : ℕ) → y < v → z < v → ¬ (y ≡ z) → rep fs y ≡ y → rep fs z ≡ z
      → joined fs + 1 ≤ joined (fs ++ Same y z ∷ [])
  joined_more fs y z lt mt ne ry rz =
      let after : (h : ℕ) → rep fs h ≡ h → rep (fs ++ Same y z ∷ []) h ≡ merged y z h = λ h rh.
      rep-snoc fs (Same y z) h ∙ (λ i. merged (ry i) (rz i) (rh i)) in
      elim (cases_lt y z) [
        | inl less ↦ joined_at fs y z z mt rz (omega (arith, after z rz, (merged_falls y z less).0))
        | inr more ↦
            let less : z < y = omega (arith, more, ne) in
            joined_at fs y z y lt ry (omega (arith, after y ry, (merged_falls z y less).1))
      ]

-- ---- choices

-- what a branch finds: its alternatives say something new
abbrev IsNew : SearchContext → List (Fact ℕ) → Branch → Type 0
IsNew w fs (Or x c) = (x < node_count_from w.first fs)
    × ((d : ℕ) (parts : List ℕ) → shape_of w.table c ≡ union parts → Contains parts d → has fs x d ≡ false)
IsNew w fs (Choose y e) = (y < node_count_from w.first fs) × (has fs y e ≡ false)
    × ((d : ℕ) → IsComplement w.table e d → has fs y d ≡ false)
IsNew w fs (Pair y z) = (y < node_count_from w.first fs) × (z < node_count_from w.first fs) × ¬ (y ≡ z) × (rep fs y ≡ y)
    × (rep fs z ≡ z) × (are_apart fs y z ≡ false)

finds_new : (w : SearchContext) (fs : List (Fact ℕ)) (b : Branch) → MayBranch w fs b → IsNew w fs b
finds_new w fs b (on_union x c parts lt h sh none) = (
  lt,
  λ d ps sh' m.
      let e : union ps ≡ union parts = sym sh' ∙ sh in
      let k : ps ≡ parts = cc in
      All-contains (λ a. has fs x a ≡ false) parts d none (subst (λ (qs : List ℕ). Contains qs d) k m),
)
finds_new w fs b (on_filler x c n s e y lt h sh next none out) =
    (successor_is_node w.first fs (λ r. below_of w r s) x y next, none, out)
finds_new w fs b (on_pair x c n s e y z lt h sh more cy cz ne apart) =
    let all = filled_are_successors w.first (below_of w) fs x s e in
    let roles : ℕ → Bool = λ r. below_of w r s in
    let test : ℕ → Type 0 = λ u. is_successor fs roles x u ≡ true in
    let at_y = All-contains test (filled_successors w.first (below_of w) fs x s e) y all cy in
    let at_z = All-contains test (filled_successors w.first (below_of w) fs x s e) z all cz in (
      successor_is_node w.first fs roles x y at_y,
      successor_is_node w.first fs roles x z at_z,
      ne,
      successor_is_rep fs roles x y at_y,
      successor_is_rep fs roles x z at_z,
      apart,
    )

-- the number rises that the fact is about; that of pairs set apart by no first alternative
abbrev pub Rises : List ℕ → ℕ → List (Fact ℕ) → Fact ℕ → ℕ → Type 0
Rises ds v fs (Has x d) k = given ds v fs + 1 ≤ given ds v (fs ++ Has x d ∷ [])
Rises ds v fs (Edge r x y) k = ⊥
Rises ds v fs (Apart y z) k = (parted ds v fs + 1 ≤ parted ds v (fs ++ Apart y z ∷ [])) × (k ≡ 2)
Rises ds v fs (Same y z) k = joined ds v fs + 1 ≤ joined ds v (fs ++ Same y z ∷ [])

alternative_rises : (w : SearchContext) (ds : List ℕ) (v : ℕ) (fs : List (Fact ℕ)) (b : Branch) (k : ℕ) (f : Fact ℕ)
    → node_count_from w.first fs ≤ v → AreIn ds (fs ++ f ∷ []) → IsAlternative w.table b k f → IsNew w fs b
    → Rises ds v fs f k
alternative_rises w ds v fs b k f le all (of_union x c k' d parts sh read) h =
    given_more ds v fs x d (omega (arith, h.0)) all
    (h.1 d parts sh (k', slice_get_within parts k' d read, get_or_from_slice_get parts k' d d read))
alternative_rises w ds v fs b k f le all (of_filler y e) h = given_more ds v fs y e (omega (arith, h.0)) all h.1
alternative_rises w ds v fs b k f le all (of_complement y e d neg) h =
    given_more ds v fs y d (omega (arith, h.0)) all (h.2 d neg)
alternative_rises w ds v fs b k f le all (of_joining y z) h =
    joined_more ds v fs y z (omega (arith, h.0)) (omega (arith, h.1)) h.2 h.3 h.4
alternative_rises w ds v fs b k f le all (of_parting y z) h =
    (parted_more ds v fs y z (omega (arith, h.0)) (omega (arith, h.1)) h.5, refl)

pub choice_rises : (w : SearchContext) (ds : List ℕ) (v : ℕ) (fs : List (Fact ℕ)) (b : Branch) (k : ℕ) (f : Fact ℕ)
    → node_count_from w.first fs ≤ v → AreIn ds (fs ++ f ∷ []) → MayBranch w fs b → IsAlternative w.table b k f
    → Rises ds v fs f k
choice_rises w ds v fs b k f le all may alt = alternative_rises w ds v fs b k f le all alt (finds_new w fs b may)

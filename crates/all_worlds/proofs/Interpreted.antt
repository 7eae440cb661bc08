-- A finite interpretation means the same as its world.
use Rattle.std.proofs.Common.{◌≡◌, ℕ, ◌+◌, ◌<◌, ◌&&◌, Bool, true, false, not, eqb, leb, List, []}
use Rattle.std.proofs.Common.{◌∷◌, get_or, refl, ap, sym, subst, ◌∙◌, arith}
use Rattle.std.specs.Prelude.{◌↔◌, All}
use Rattle.std.specs.List.{list_all}
use Rattle.std.proofs.lemmas.Bool.{and_parts, and_from, or_parts, or_from, not-true, eqb-true, eq-eqb, leb-true}
use Rattle.std.proofs.lemmas.Bool.{leb-false, le-leb, true≢false, false≢true}
use Rattle.std.proofs.lemmas.List.Elements.{All-nil, All-cons, All-head, All-tail}
use Rattle.shq_nnf.specs.Concept.{Concept, top, bottom, name, complement, intersection, union, some_of, all_of}
use Rattle.shq_nnf.specs.Concept.{at_least, at_most, exactly, Parts, no_parts, part}
use Rattle.shq_nnf.specs.Axiom.{Axiom}
use Rattle.shq_nnf.specs.Axiom.TheVariants.{SubClassOf, EquivalentClasses, DisjointClasses, DisjointUnion, SubRole}
use Rattle.shq_nnf.specs.Axiom.TheVariants.{EquivalentRoles, Domain, Range, Functional, Transitive, Member, Pair}
use Rattle.shq_nnf.specs.Axiom.TheVariants.{SameAll, Different}
use Rattle.role_box.specs.On.{On}
use Rattle.role_box.specs.On.TheVariants.{Any, Individual}
use Rattle.role_box.specs.TheoryRows.{Part, inclusion, range}
use Rattle.role_box.specs.Fact.{Fact}
use Rattle.role_box.specs.Fact.TheVariants.{Has, Edge, Apart, Same}
use Rattle.shq_nnf.specs.Below.{all_below}
use Rattle.shq_nnf.specs.Truth.{Interpretation, PlacesIndividuals, implies, successors, each_successor, holds, hold_all}
use Rattle.shq_nnf.specs.Truth.{hold_any, included, roles_equal, meets, meets_all, is_asked_at}
use Rattle.shq_nnf.proofs.Implied.{implied, implies_from}
use Rattle.shq_nnf.specs.Parts.{axiom_parts}
use Rattle.shq_nnf.specs.Facts.{facts_of}
use Rattle.shq_nnf.specs.Meeting.{meets_part, is_true as is_true_fact, is_role_axiom, is_assertion}
use Rattle.shq_nnf.proofs.Meeting.{axiom_is_parts}
use Rattle.shq_nnf.proofs.Facts.{assertion_is_facts}
use Rattle.all_worlds.specs.Worlds.{World, AreAtLeast, AreAtMost, IsSuccessor, IsIn, IsInAll, IsInNone}
use Rattle.all_worlds.specs.Worlds.{IsSubRole, MeetsEverywhere, MeetsAll, IsSo}
use Rattle.all_worlds.specs.Finite.{Element, world_of}
use Rattle.all_worlds.specs.Laws.{FiniteInterpretationsAreWorlds, EntailmentIsOfFiniteWorlds}
use Rattle.all_worlds.specs.Laws.{CounterModelsRefuteInAWorld}
use Rattle.all_worlds.proofs.Stable.{is_true}
use Rattle.all_worlds.proofs.Normal.{least_in}
use Rattle.all_worlds.proofs.Meeting.{MeetsPart, parts_met, parts_back, IsNotFalse, facts_met, facts_back}
use Rattle.all_worlds.proofs.Counted.{same_element, each_passes, many_from, counted_from}

-- ---- tests and what they say

false_from : (b : Bool) → ¬ (b ≡ true) → b ≡ false
false_from true h = absurd (h refl)
false_from false h = refl

-- the test passes exactly where it is so
abbrev Says : Bool → Type 0 → Type 0
Says b P = P ↔ (b ≡ true)

not_says : (b : Bool) (P : Type 0) → Says b P → Says (not b) (¬ P)
not_says true P is = (λ h. absurd (h (is.1 refl)), λ e. absurd (false≢true e))
not_says false P is = (λ h. refl, λ e p. false≢true (is.0 p))

and_says : (a b : Bool) (P Q : Type 0) → Says a P → Says b Q → Says (a && b) (P × Q)
and_says a b P Q is so = (
  λ h. and_from a b (is.0 h.0) (so.0 h.1),
  λ e. let both = and_parts a b e in (is.1 both.0, so.1 both.1),
)

implies_says : (a b : Bool) (P Q : Type 0) → Says a P → Says b Q → Says (implies a b) (P → Q)
implies_says a b P Q is so =
    (λ h. implies_from a b (λ e. so.0 (h (is.1 e))), λ e p. so.1 (implied a b e (is.0 p)))

-- a list of which each passes
all_says : {X : Type 0} (p : X → Bool) (P : X → Type 0) → ((x : X) → Says (p x) (P x)) → (xs : List X)
    → Says (list_all p xs) (All P xs)
all_says p P is [] = (λ h. refl, λ e. All-nil P)
all_says p P is (x ∷ xs) =
    let rest = all_says p P is xs in (
      λ h. and_from (p x) (list_all p xs) ((is x).0 (All-head P x xs h)) (rest.0 (All-tail P x xs h)),
      λ e.
          let both = and_parts (p x) (list_all p xs) e in
          All-cons P x xs ((is x).1 both.0) (rest.1 both.1),
    )

-- ---- class expressions

module _ (i : Interpretation) (placed : PlacesIndividuals i) where
  abbrev E : Type 0
  E = Element i.size

  abbrev w : World (Element i.size)
  w = world_of i placed

  -- a test of each element
  each_says : (p : ℕ → Bool) (P : E → Type 0) → ((x : E) → Says (p x.number) (P x))
      → Says (all_below i.size p) ((x : E) → P x)
  each_says p P is = each_passes i.size p P is

  module _ (r : ℕ) (p : ℕ → Bool) (P : E → Type 0) (is : (x : E) → Says (p x.number) (P x)) (x : E) where
    abbrev Successor : E → Type 0
    Successor = IsSuccessor w r x P

    abbrev leads : ℕ → Bool
    leads y = i.in_role r x.number y && p y

    abbrev many : ℕ
    many = successors i r p x.number

    successor_says : (y : E) → Says (leads y.number) (Successor y)
    successor_says y =
        and_says (i.in_role r x.number y.number) (p y.number) (w.in_role r x y ≡ true) (P y) (λ e. e, λ e. e) (is y)

    least_says : (n : ℕ) → Says (leb n many) (AreAtLeast n Successor)
    least_says n = (
      λ h.
          is_true (leb n many)
          (λ fewer. h (λ ys all. fewer (le-leb n many (counted_from i.size leads Successor successor_says n ys all)))),
      λ e. many_from i.size leads Successor successor_says n (leb-true n many e),
    )

    most_says : (n : ℕ) → Says (leb many n) (AreAtMost n Successor)
    most_says n = (
      λ h.
          is_true (leb many n)
          (λ more.
          let e = false_from (leb many n) more in
          let lt = leb-false many n e in
          many_from i.size leads Successor successor_says (n + 1) (omega arith) h),
      λ e ys all.
          let le = leb-true many n e in
          let ge = counted_from i.size leads Successor successor_says (n + 1) ys all in
          omega (arith, le, ge),
    )

    exactly_says : (n : ℕ) → Says (eqb many n) (AreAtLeast n Successor × AreAtMost n Successor)
    exactly_says n =
        let least = least_says n in
        let most = most_says n in (
          λ h.
              let ge = leb-true n many (least.0 h.0) in
              let le = leb-true many n (most.0 h.1) in
              eq-eqb many n (omega (arith, ge, le)),
          λ e.
              let same = eqb-true many n e in (
                least.1 (le-leb n many (omega (arith, same))),
                most.1 (le-leb many n (omega (arith, same))),
              ),
        )

    each_successor_says : Says (each_successor i r p x.number) ((y : E) → w.in_role r x y ≡ true → P y)
    each_successor_says =
        each_says (λ y. implies (i.in_role r x.number y) (p y)) (λ y. w.in_role r x y ≡ true → P y)
        (λ y. implies_says (i.in_role r x.number y.number) (p y.number) (w.in_role r x y ≡ true) (P y) (λ e. e, λ e. e)
        (is y))

  mutual
    pub in_says : (c : Concept) (x : E) → Says (holds i c x.number) (IsIn w c x)
    in_says top x = (λ h. refl, λ e. tt)
    in_says bottom x = (λ h. absurd h, λ e. false≢true e)
    in_says (name a) x = (λ e. e, λ e. e)
    in_says (complement c) x = not_says (holds i c x.number) (IsIn w c x) (in_says c x)
    in_says (intersection cs) x = in_all_says cs x
    in_says (union cs) x =
        let none = in_none_says cs x in (
          λ h. is_true (hold_any i cs x.number) (λ no. h (none.1 (false_from (hold_any i cs x.number) no))),
          λ e n. true≢false (sym e ∙ none.0 n),
        )
    in_says (some_of r c) x =
        let one = least_in w r c (complement c) (IsIn w c) (λ y. (λ h. h, λ h. h)) (λ y. (λ h. h, λ h. h)) x 1 in
        let least = least_says r (holds i c) (IsIn w c) (λ y. in_says c y) x 1 in
        (λ h. least.0 (one.0 h), λ e. one.1 (least.1 e))
    in_says (all_of r c) x = each_successor_says r (holds i c) (IsIn w c) (λ y. in_says c y) x
    in_says (at_least n r c) x = least_says r (holds i c) (IsIn w c) (λ y. in_says c y) x n
    in_says (at_most n r c) x = most_says r (holds i c) (IsIn w c) (λ y. in_says c y) x n
    in_says (exactly n r c) x = exactly_says r (holds i c) (IsIn w c) (λ y. in_says c y) x n

    in_all_says : (cs : Parts) (x : E) → Says (hold_all i cs x.number) (IsInAll w cs x)
    in_all_says no_parts x = (λ h. refl, λ e. tt)
    in_all_says (part c cs) x =
        and_says (holds i c x.number) (hold_all i cs x.number) (IsIn w c x) (IsInAll w cs x) (in_says c x)
        (in_all_says cs x)

    in_none_says : (cs : Parts) (x : E) → IsInNone w cs x ↔ (hold_any i cs x.number ≡ false)
    in_none_says no_parts x = (λ h. refl, λ e. tt)
    in_none_says (part c cs) x =
        let here = not_says (holds i c x.number) (IsIn w c x) (in_says c x) in
        let rest = in_none_says cs x in (
          λ h. or_from (holds i c x.number) (hold_any i cs x.number) (not-true (holds i c x.number) (here.0 h.0))
              (rest.0 h.1),
          λ e.
              let both = or_parts (holds i c x.number) (hold_any i cs x.number) e in
              (here.1 (ap not both.0), rest.1 both.1),
        )

  -- ---- axioms

  part_says : (p : Part) → Says (meets_part i p) (MeetsPart w p)
  part_says (inclusion cs e) =
      each_says (λ x. implies (list_all (λ c. holds i c x) cs) (holds i e x))
      (λ x. All (λ c. IsIn w c x) cs → IsIn w e x)
      (λ x.
      implies_says (list_all (λ c. holds i c x.number) cs) (holds i e x.number) (All (λ c. IsIn w c x) cs) (IsIn w e x)
      (all_says (λ c. holds i c x.number) (λ c. IsIn w c x) (λ c. in_says c x) cs) (in_says e x))
  part_says (range r e) =
      each_says (λ x. all_below i.size (λ y. implies (i.in_role r x y) (holds i e y)))
      (λ x. (y : E) → w.in_role r x y ≡ true → IsIn w e y)
      (λ x. each_successor_says r (holds i e) (IsIn w e) (λ y. in_says e y) x)

  parts_says : (a : Axiom) → Says (list_all (meets_part i) (axiom_parts a)) (All (MeetsPart w) (axiom_parts a))
  parts_says a = all_says (meets_part i) (MeetsPart w) part_says (axiom_parts a)

  same_says : (a b : E) → Says (eqb a.number b.number) (¬ ¬ (a ≡ b))
  same_says a b = (
    λ h.
        is_true (eqb a.number b.number)
        (λ other. h (λ e. other (eq-eqb a.number b.number (ap (λ (x : E). x.number) e)))),
    λ e k. k (same_element i.size a b (eqb-true a.number b.number e)),
  )

  fact_says : (f : Fact Concept) → Says (is_true_fact i i.individual f) (IsNotFalse w f)
  fact_says (Has a c) =
      let it = in_says c (w.individual a) in
      (λ h. is_true (holds i c (i.individual a)) (λ no. h (λ inside. no (it.0 inside))), λ e k. k (it.1 e))
  fact_says (Edge r a b) =
      (λ h. is_true (i.in_role r (i.individual a) (i.individual b)) h, λ e k. k e)
  fact_says (Apart a b) =
      let same = same_says (w.individual a) (w.individual b) in
      let it = not_says (eqb (i.individual a) (i.individual b)) (¬ ¬ (w.individual a ≡ w.individual b)) same in
      (it.0, it.1)
  fact_says (Same a b) = same_says (w.individual a) (w.individual b)

  facts_says : (a : Axiom) → Says (list_all (is_true_fact i i.individual) (facts_of a)) (All (IsNotFalse w) (facts_of a))
  facts_says a = all_says (is_true_fact i i.individual) (IsNotFalse w) fact_says (facts_of a)

  included_says : (r s : ℕ) → Says (included i r s) (IsSubRole w r s)
  included_says r s =
      each_says (λ x. all_below i.size (λ y. implies (i.in_role r x y) (i.in_role s x y)))
      (λ x. (y : E) → w.in_role r x y ≡ true → w.in_role s x y ≡ true)
      (λ x.
      each_says (λ y. implies (i.in_role r x.number y) (i.in_role s x.number y))
      (λ y. w.in_role r x y ≡ true → w.in_role s x y ≡ true)
      (λ y. implies_says (i.in_role r x.number y.number) (i.in_role s x.number y.number) (w.in_role r x y ≡ true)
      (w.in_role s x y ≡ true) (λ e. e, λ e. e) (λ e. e, λ e. e)))

  abbrev IsEqual : ℕ → ℕ → Type 0
  IsEqual r s = IsSubRole w r s × IsSubRole w s r

  -- each role has the pairs of the first exactly where each two have the same ones
  equal_says : (rs : List ℕ) → Says (roles_equal i rs) (All (λ r. All (λ s. IsSubRole w r s) rs) rs)
  equal_says rs =
      let first = get_or rs 0 0 in
      let it = all_says (λ s. included i first s && included i s first) (IsEqual first)
      (λ s. and_says (included i first s) (included i s first) (IsSubRole w first s) (IsSubRole w s first)
      (included_says first s) (included_says s first)) rs in
      (λ h. it.0 (from_first rs h), λ e. all_equal (it.1 e))
    where
      from_first : (qs : List ℕ) → All (λ r. All (λ s. IsSubRole w r s) qs) qs → All (IsEqual (get_or qs 0 0)) qs
      from_first [] h = All-nil (IsEqual 0)
      from_first (q ∷ qs) h =
          λ k x lt.
          (h 0 x (omega arith) k x lt, h k x lt 0 x (omega arith))

      all_equal : All (IsEqual (get_or rs 0 0)) rs → All (λ r. All (λ s. IsSubRole w r s) rs) rs
      all_equal h = λ k x lt j y less u v e. (h j y less).0 u v ((h k x lt).1 u v e)

  transitive_says : (r : ℕ) → Says (meets i (Transitive r)) (MeetsEverywhere w (Transitive r))
  transitive_says r =
      let it = each_says
      (λ x. all_below i.size
      (λ y. implies (i.in_role r x y) (all_below i.size (λ z. implies (i.in_role r y z) (i.in_role r x z)))))
      (λ x. (y : E) → w.in_role r x y ≡ true → (z : E) → w.in_role r y z ≡ true → w.in_role r x z ≡ true)
      (λ x.
      each_says
      (λ y. implies (i.in_role r x.number y)
      (all_below i.size (λ z. implies (i.in_role r y z) (i.in_role r x.number z))))
      (λ y. w.in_role r x y ≡ true → (z : E) → w.in_role r y z ≡ true → w.in_role r x z ≡ true)
      (λ y.
      implies_says (i.in_role r x.number y.number)
      (all_below i.size (λ z. implies (i.in_role r y.number z) (i.in_role r x.number z))) (w.in_role r x y ≡ true)
      ((z : E) → w.in_role r y z ≡ true → w.in_role r x z ≡ true) (λ e. e, λ e. e)
      (each_says (λ z. implies (i.in_role r y.number z) (i.in_role r x.number z))
      (λ z. w.in_role r y z ≡ true → w.in_role r x z ≡ true)
      (λ z. implies_says (i.in_role r y.number z.number) (i.in_role r x.number z.number) (w.in_role r y z ≡ true)
      (w.in_role r x z ≡ true) (λ e. e, λ e. e) (λ e. e, λ e. e))))) in
      (λ h. it.0 (λ x y e z f. h x y z e f), λ e x y z f g. it.1 e x y f z g)

  abbrev Meets : Axiom → Type 0
  Meets a = MeetsEverywhere w a

  by_parts : (a : Axiom) → is_role_axiom a ≡ false → is_assertion a ≡ false → Says (meets i a) (Meets a)
  by_parts a n m =
      let it = parts_says a in
      let same = axiom_is_parts i a n m in
      (λ h. same ∙ it.0 (parts_met w a h), λ e. parts_back w a n m (it.1 (sym same ∙ e)))

  by_facts : (a : Axiom) → is_assertion a ≡ true → Says (meets i a) (Meets a)
  by_facts a m =
      let it = facts_says a in
      let same = assertion_is_facts i a m in
      (λ h. same ∙ it.0 (facts_met w a h), λ e. facts_back w a m (it.1 (sym same ∙ e)))

  pub axiom_says : (a : Axiom) → Says (meets i a) (Meets a)
  axiom_says (SubClassOf c e) = by_parts (SubClassOf c e) refl refl
  axiom_says (EquivalentClasses cs) = by_parts (EquivalentClasses cs) refl refl
  axiom_says (DisjointClasses cs) = by_parts (DisjointClasses cs) refl refl
  axiom_says (DisjointUnion a cs) = by_parts (DisjointUnion a cs) refl refl
  axiom_says (SubRole r s) = included_says r s
  axiom_says (EquivalentRoles rs) = equal_says rs
  axiom_says (Domain r c) = by_parts (Domain r c) refl refl
  axiom_says (Range r c) = by_parts (Range r c) refl refl
  axiom_says (Functional r) = by_parts (Functional r) refl refl
  axiom_says (Transitive r) = transitive_says r
  axiom_says (Member c a) = by_facts (Member c a) refl
  axiom_says (Pair r a b) = by_facts (Pair r a b) refl
  axiom_says (SameAll as_) = by_facts (SameAll as_) refl
  axiom_says (Different as_) = by_facts (Different as_) refl

  all_axioms_say : (as_ : List Axiom) → Says (meets_all i as_) (MeetsAll w as_)
  all_axioms_say as_ = all_says (meets i) Meets axiom_says as_

  -- ---- queries

  no_counter : (a b c : Bool) → (a ≡ true → b ≡ true → c ≡ true) → (a && (b && not c)) ≡ false
  no_counter true true c f = ap not (f refl refl)
  no_counter true false c f = refl
  no_counter false b c f = refl

  from_none : (a b c : Bool) → (a && (b && not c)) ≡ false → a ≡ true → b ≡ true → c ≡ true
  from_none true true true e p q = refl
  from_none true true false e p q = absurd (true≢false e)
  from_none true false c e p q = absurd (false≢true q)
  from_none false b c e p q = absurd (false≢true p)

  so_says : (sub sup : Concept) (on : On)
      → IsSo w sub sup on
      ↔ ((x : ℕ) → x < i.size → (is_asked_at i on x && (holds i sub x && not (holds i sup x))) ≡ false)
  so_says sub sup Any = (
    λ h x lt.
        let at : E = record { number = x; below = lt } in
        no_counter true (holds i sub x) (holds i sup x)
        (λ p inside. (in_says sup at).0 (h at ((in_says sub at).1 inside))),
    λ h x inside.
        (in_says sup x).1
        (from_none true (holds i sub x.number) (holds i sup x.number) (h x.number x.below) refl
        ((in_says sub x).0 inside)),
  )
  so_says sub sup (Individual a) =
      let at : E = w.individual a in (
        λ h x lt.
            no_counter (eqb x (i.individual a)) (holds i sub x) (holds i sup x)
            (λ p inside.
            let e = eqb-true x (i.individual a) p in
            let there : holds i sub (i.individual a) ≡ true = subst (λ (y : ℕ). holds i sub y ≡ true) e inside in
            ap (holds i sup) e ∙ (in_says sup at).0 (h ((in_says sub at).1 there))),
        λ h inside.
            (in_says sup at).1
            (from_none (eqb (i.individual a) (i.individual a)) (holds i sub (i.individual a))
            (holds i sup (i.individual a)) (h (i.individual a) (placed a))
            (eq-eqb (i.individual a) (i.individual a) refl) ((in_says sub at).0 inside)),
      )

pub means_the_same : FiniteInterpretationsAreWorlds
means_the_same i placed = record {
  classes = in_says i placed;
  axioms = axiom_says i placed;
  queries = λ q. so_says i placed q.sub q.sup q.on;
}

pub entailment_is_of_finite_worlds : EntailmentIsOfFiniteWorlds
entailment_is_of_finite_worlds as_ q = (
  λ h i placed met.
      (so_says i placed q.sub q.sup q.on).1
      (λ x lt. h i (omega (arith, placed 0)) placed ((all_axioms_say i placed as_).0 met) x lt),
  λ h i some placed met x lt.
      (so_says i placed q.sub q.sup q.on).0 (h i placed ((all_axioms_say i placed as_).1 met)) x lt,
)

pub counter_model_refutes : CounterModelsRefuteInAWorld
counter_model_refutes i placed as_ q x lt met counter follows =
    let none = (so_says i placed q.sub q.sup q.on).0 (follows ((all_axioms_say i placed as_).1 met)) x lt in
    true≢false (sym counter ∙ none)

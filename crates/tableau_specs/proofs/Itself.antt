-- Whether a node is apart from itself once two nodes are one.
use Rattle.std.proofs.Common.{◌≡◌, ℕ, ◌&&◌, ◌||◌, eqb, Bool, true, false, List, [], ◌∷◌, ◌++◌, refl, ap, ◌∙◌, sym}
use Rattle.std.proofs.Common.{arith, inl, inr, eq-eqb}
use Rattle.std.specs.List.{list_any}
use Rattle.std.proofs.lemmas.Bool.{eqb-true, or_cases, cases_Bool, and_parts, or_right}
use Rattle.std.proofs.lemmas.Bool.Decides.{nat_tests}
use Rattle.std.proofs.Math.Bool.{or-false}
use Rattle.calculus_specs.specs.Shape.{Shape}
use Rattle.calculus_specs.specs.declared.facts.Fact.{Fact}
use Rattle.calculus_specs.specs.declared.facts.Fact.TheVariants.{Has, Edge, Apart, Same}
use Rattle.calculus_specs.specs.Joins.{rep, merged}
use Rattle.calculus_specs.specs.State.{node_count_from, gives_apart, are_apart, speak_of_nodes}
use Rattle.calculus_specs.proofs.Joined.{rep-le, rep-joined, joined-rep}
use Rattle.tableau_specs.specs.Clash.{IsPlainClash}
use Rattle.tableau_specs.specs.Clash.IsPlainClash.{plain_differ}
use Rattle.tableau_specs.proofs.TreeShaped.{reps-snoc, apart_are_nodes, not_apart_merged}
use Rattle.tableau_specs.specs.ClashLaws.{JoinedAreApartAsBefore}
use Rattle.tableau_specs.proofs.After.{any-snoc}
use Rattle.tableau_specs.proofs.Merged.{any_mono}

-- a node whose representative is kept apart from some other
record Kept (m : ℕ → ℕ) (n a : ℕ) : Type 0 where
  node : ℕ
  at : m node ≡ a

kept : (m : ℕ → ℕ) (n a b : ℕ) (fs : List (Fact ℕ)) → list_any (gives_apart m a b) fs ≡ true → Kept m n a
kept m n a b [] h = cc
kept m n a b (Has x c ∷ fs) h = kept m n a b fs h
kept m n a b (Edge r x y ∷ fs) h = kept m n a b fs h
kept m n a b (Same x y ∷ fs) h = kept m n a b fs h
kept m n a b (Apart x y ∷ fs) h =
    elim (or_cases ((eqb (m x) a && eqb (m y) b) || (eqb (m x) b && eqb (m y) a)) (list_any (gives_apart m a b) fs) h) [
      | inr later ↦ kept m n a b fs later
      | inl here ↦ elim (or_cases (eqb (m x) a && eqb (m y) b) (eqb (m x) b && eqb (m y) a) here) [
        | inl one ↦ record { node = x; at = eqb-true (m x) a (and_parts (eqb (m x) a) (eqb (m y) b) one).0 }
        | inr other ↦ record { node = y; at = eqb-true (m y) a (and_parts (eqb (m x) b) (eqb (m y) a) other).1 }
      ]
    ]

merged_ends : (b c : ℕ) → merged b c b ≡ merged b c c
merged_ends b c = grind (arith, nat_tests)

-- nodes that are apart stay apart
stays : (m : ℕ → ℕ) (b c : ℕ) (f : Fact ℕ) → gives_apart m b c f ≡ true
    → gives_apart (λ x. merged b c (m x)) (merged b c b) (merged b c c) f ≡ true
stays m b c (Has x d) h = cc
stays m b c (Edge r x y) h = cc
stays m b c (Same x y) h = cc
stays m b c (Apart x y) h = elim (or_cases (eqb (m x) b && eqb (m y) c) (eqb (m x) c && eqb (m y) b) h) [
  | inl one ↦
      let t = and_parts (eqb (m x) b) (eqb (m y) c) one in
      let p = eq-eqb (merged b c (m x)) (merged b c b) (ap (merged b c) (eqb-true (m x) b t.0)) in
      let q = eq-eqb (merged b c (m y)) (merged b c c) (ap (merged b c) (eqb-true (m y) c t.1)) in
      rw (p, q) refl
  | inr other ↦
      let t = and_parts (eqb (m x) c) (eqb (m y) b) other in
      let p = eq-eqb (merged b c (m x)) (merged b c c) (ap (merged b c) (eqb-true (m x) c t.0)) in
      let q = eq-eqb (merged b c (m y)) (merged b c b) (ap (merged b c) (eqb-true (m y) b t.1)) in
      or_right (eqb (merged b c (m x)) (merged b c b) && eqb (merged b c (m y)) (merged b c c))
      (eqb (merged b c (m x)) (merged b c c) && eqb (merged b c (m y)) (merged b c b)) (rw (p, q) refl)
]

module _ (first : ℕ) (below : ℕ → ℕ → Bool) (table : List Shape) (fs : List (Fact ℕ)) (y z : ℕ)
    (speak : speak_of_nodes first fs ≡ true) (none : ¬ IsPlainClash first below table fs) where
  abbrev joined : List (Fact ℕ)
  joined = fs ++ Same y z ∷ []

  abbrev m : ℕ → ℕ
  m = rep fs

  abbrev M : ℕ → ℕ
  M x = merged (m y) (m z) (m x)

  rep-rep : (v : ℕ) → rep fs (rep fs v) ≡ rep fs v
  rep-rep v = sym (rep-joined fs v (rep fs v) (joined-rep fs v))

  -- no representative is kept apart from itself
  before : (a : ℕ) → list_any (gives_apart m a a) fs ≡ false
  before a = elim (cases_Bool (list_any (gives_apart m a a) fs)) [
    | inr out ↦ out
    | inl held ↦
        let k = kept m 0 a a fs held in
        let node = apart_are_nodes m (node_count_from first fs) a a fs (rep-le fs) speak held in
        let there : are_apart fs a a ≡ true =
        ap (λ (v : ℕ). list_any (gives_apart m v v) fs) (ap m (sym k.at) ∙ rep-rep k.node ∙ k.at) ∙ held in
        absurd (none (plain_differ a a node.0 node.0 there refl))
  ]

  itself : are_apart joined y y ≡ list_any (gives_apart M (M y) (M y)) fs
  itself =
      ap (λ (r : ℕ → ℕ). list_any (gives_apart r (r y) (r y)) joined) (reps-snoc fs (Same y z))
      ∙ any-snoc (gives_apart M (M y) (M y)) fs (Same y z) ∙ or-false (list_any (gives_apart M (M y) (M y)) fs)

  same : are_apart joined y y ≡ are_apart fs y z
  same = elim (cases_Bool (are_apart fs y z)) [
    | inr out ↦ itself ∙ not_apart_merged m (m y) (m z) fs before out (M y) ∙ sym out
    | inl held ↦
        let ends : M z ≡ M y = sym (merged_ends (m y) (m z)) in
        itself ∙ ap (λ (v : ℕ). list_any (gives_apart M (M y) v) fs) (sym ends)
        ∙ any_mono (gives_apart m (m y) (m z)) (gives_apart M (M y) (M z)) (stays m (m y) (m z)) fs held ∙ sym held
  ]

pub joined_apart_itself : JoinedAreApartAsBefore
joined_apart_itself first below table fs y z speak none = same first below table fs y z speak none

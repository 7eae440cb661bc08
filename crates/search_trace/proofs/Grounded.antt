-- What a fact says that rests on few marks, it says of nodes that are known by few marks.
use Rattle.std.proofs.Common.{◌≡◌, ℕ, ◌&&◌, ◌⊎◌, eqb, Bool, true, List, [], ◌∷◌, ◌++◌, refl, ap, ◌∙◌, sym, subst, inl}
use Rattle.std.proofs.Common.{inr}
use Rattle.std.specs.List.{list_any, list_all}
use Rattle.std.specs.FinSet as sets
use Rattle.std.proofs.lemmas.Bool.{and_parts, and_from, or_cases, or_left, eqb-true}
use Rattle.std.proofs.lemmas.List.Folds.{list_any-append, list_all-append}
use Rattle.refutation_tree.specs.NumberSets.{NumberSet}
use Rattle.calculus_specs.specs.declared.facts.Fact.{Fact}
use Rattle.calculus_specs.specs.declared.facts.Fact.TheVariants.{Has, Edge, Apart, Same}
use Rattle.calculus_specs.specs.Joins.{rep, joins, IsJoined}
use Rattle.calculus_specs.specs.Joins.IsJoined.{itself, by_fact}
use Rattle.calculus_specs.specs.State.{gives_concept, is_given, gives_edge, has_edge}
use Rattle.calculus_specs.proofs.Joined.{joined-rep, joined_on, joined_back}
use Rattle.search_trace.specs.Noted.{Marked, is_within, within}
use Rattle.search_trace.specs.Trail.{MarkedFact, nodes_of, ends_of}
use Rattle.search_trace.specs.Grounded.{named, is_known_within, is_grounded, AreGrounded}
use Rattle.search_trace.proofs.Among.{any_within}
use Rattle.search_trace.proofs.Trail.{wider_part, nodes-append}

all_implies : {A : Type 0} → (p q : A → Bool) → ((a : A) → p a ≡ true → q a ≡ true) → (xs : List A)
    → list_all p xs ≡ true → list_all q xs ≡ true
all_implies p q imp [] h = refl
all_implies p q imp (x ∷ xs) h =
    let b = and_parts (p x) (list_all p xs) h in and_from (q x) (list_all q xs) (imp x b.0) (all_implies p q imp xs b.1)

module _ (first : ℕ) (u : NumberSet) (ms : List MarkedFact) (grounded : AreGrounded first ms) where
  abbrev known : ℕ → Bool
  known = is_known_within first u ms

  -- a fact that passes, and whose nodes are known
  record Found (p : Fact ℕ → Bool) : Type 0 where
    fact : Fact ℕ
    passes : p fact ≡ true
    are_known : list_all known (named fact) ≡ true

  wider : (v : NumberSet) → sets.is_subset v u ≡ true → (x : ℕ) → is_known_within first v ms x ≡ true → known x ≡ true
  wider v part x h = (wider_part first [] v u part ms).nodes (λ y. eqb y x) h

  find_in : (p : Fact ℕ → Bool) (xs : List MarkedFact) → list_all (is_grounded first ms) xs ≡ true
      → list_any (λ m. is_within u m && p m.item) xs ≡ true → Found p
  find_in p [] h any = cc
  find_in p (m ∷ xs) h any =
      let b = and_parts (is_grounded first ms m) (list_all (is_grounded first ms) xs) h in
      elim (or_cases (is_within u m && p m.item) (list_any (λ n. is_within u n && p n.item) xs) any) [
        | inl here ↦
            let c = and_parts (is_within u m) (p m.item) here in
            record {
              fact = m.item;
              passes = c.1;
              are_known = all_implies (is_known_within first m.marks ms) known (wider m.marks c.0) (named m.item) b.0;
            }
        | inr later ↦ find_in p xs b.1 later
      ]

  found : (p : Fact ℕ → Bool) → list_any p (within u ms) ≡ true → Found p
  found p any = find_in p ms grounded (sym (any_within u p ms) ∙ any)

  first_known : (x : ℕ) (xs : List ℕ) → list_all known (x ∷ xs) ≡ true → known x ≡ true
  first_known x xs h = (and_parts (known x) (list_all known xs) h).0

  second_known : (x y : ℕ) → list_all known (x ∷ y ∷ []) ≡ true → known y ≡ true
  second_known x y h = first_known y [] (and_parts (known x) (list_all known (y ∷ [])) h).1

  same_known : (y z : ℕ) (f : Fact ℕ) → joins y z f ≡ true → list_all known (named f) ≡ true → known y ≡ true
  same_known y z (Same v w) h k = elim (or_cases (eqb v y && eqb w z) (eqb v z && eqb w y) h) [
    | inl a ↦
        subst (λ (n : ℕ). known n ≡ true) (eqb-true v y (and_parts (eqb v y) (eqb w z) a).0) (first_known v (w ∷ []) k)
    | inr a ↦ subst (λ (n : ℕ). known n ≡ true) (eqb-true w y (and_parts (eqb v z) (eqb w y) a).1) (second_known v w k)
  ]
  same_known y z (Has v c) h k = cc
  same_known y z (Edge r v w) h k = cc
  same_known y z (Apart v w) h k = cc

  -- a node that is joined to another is that one, or is known
  joined_known : (x y : ℕ) → IsJoined (within u ms) x y → (x ≡ y) ⊎ (known x ≡ true)
  joined_known x x' (itself y) = inl refl
  joined_known x x' (by_fact a b c any h) = elim (joined_known a b h) [
    | inl same ↦
        let f = found (joins b c) any in
        inr (subst (λ (n : ℕ). known n ≡ true) (sym same) (same_known b c f.fact f.passes f.are_known))
    | inr is ↦ inr is
  ]

  -- a node with the representative of a known node is known
  rep_known : (x y : ℕ) → eqb (rep (within u ms) y) (rep (within u ms) x) ≡ true → known y ≡ true → known x ≡ true
  rep_known x y h is =
      let fs = within u ms in
      let to-x : IsJoined fs y (rep fs x) =
      subst (IsJoined fs y) (eqb-true (rep fs y) (rep fs x) h) (joined-rep fs y) in
      let joined : IsJoined fs x y =
      joined_back fs y x (joined_on fs y (rep fs x) x to-x (joined_back fs x (rep fs x) (joined-rep fs x))) in
      elim (joined_known x y joined)
      [ inl same ↦ subst (λ (n : ℕ). known n ≡ true) (sym same) is | inr known_x ↦ known_x ]

  has_known : (kind : ℕ → Bool) (x : ℕ) (f : Fact ℕ)
      → gives_concept kind (rep (within u ms)) (rep (within u ms) x) f ≡ true → list_all known (named f) ≡ true
      → known x ≡ true
  has_known kind x (Has y c) h k =
      rep_known x y (and_parts (eqb (rep (within u ms) y) (rep (within u ms) x)) (kind c) h).0 (first_known y [] k)
  has_known kind x (Edge r v w) h k = cc
  has_known kind x (Apart v w) h k = cc
  has_known kind x (Same v w) h k = cc

  -- a node that a fact gives a concept is known
  pub given_is_known : (kind : ℕ → Bool) (x : ℕ) → is_given kind (within u ms) x ≡ true → known x ≡ true
  given_is_known kind x h =
      let f = found (gives_concept kind (rep (within u ms)) (rep (within u ms) x)) h in
      has_known kind x f.fact f.passes f.are_known

  ends_known : (roles : ℕ → Bool) (x y : ℕ) (f : Fact ℕ)
      → gives_edge roles (rep (within u ms)) (rep (within u ms) x) (rep (within u ms) y) f ≡ true
      → list_all known (named f) ≡ true
      → (known x ≡ true) × (known y ≡ true)
  ends_known roles x y (Edge r v w) h k =
      let m = rep (within u ms) in
      let b = and_parts (roles r && eqb (m v) (m x)) (eqb (m w) (m y)) h in (
        rep_known x v (and_parts (roles r) (eqb (m v) (m x)) b.0).1 (first_known v (w ∷ []) k),
        rep_known y w b.1 (second_known v w k),
      )
  ends_known roles x y (Has v c) h k = cc
  ends_known roles x y (Apart v w) h k = cc
  ends_known roles x y (Same v w) h k = cc

  -- the nodes of an edge are known
  pub edge_is_known : (roles : ℕ → Bool) (x y : ℕ) → has_edge (within u ms) roles x y ≡ true
      → (known x ≡ true) × (known y ≡ true)
  edge_is_known roles x y h =
      let f = found (gives_edge roles (rep (within u ms)) (rep (within u ms) x) (rep (within u ms) y)) h in
      ends_known roles x y f.fact f.passes f.are_known

-- ---- more facts

within-append : {A : Type 0} → (u : NumberSet) (p : A → Bool) (ms ns : List (Marked A))
    → list_any p (within u ms) ≡ true → list_any p (within u (ms ++ ns)) ≡ true
within-append u p ms ns h =
    let q : Marked _ → Bool = λ m. is_within u m && p m.item in
    any_within u p (ms ++ ns) ∙ list_any-append q ms ns
    ∙ or_left (list_any q ms) (list_any q ns) (sym (any_within u p ms) ∙ h)

stays_known : (first : ℕ) (u : NumberSet) (ms ns : List MarkedFact) (x : ℕ) → is_known_within first u ms x ≡ true
    → is_known_within first u (ms ++ ns) x ≡ true
stays_known first u ms ns x h =
    ap (λ (es : List (Marked ℕ)). list_any (λ y. eqb y x) (within u es)) (nodes-append first ms ns)
    ∙ within-append u (λ y. eqb y x) (nodes_of first ms) (ends_of first ns) h

-- facts that are put last, each with nodes that are known by then
pub grounded_more : (first : ℕ) (ms ns : List MarkedFact) → AreGrounded first ms
    → list_all (is_grounded first (ms ++ ns)) ns ≡ true → AreGrounded first (ms ++ ns)
grounded_more first ms ns h g =
    list_all-append (is_grounded first (ms ++ ns)) ms ns
    ∙ and_from (list_all (is_grounded first (ms ++ ns)) ms) (list_all (is_grounded first (ms ++ ns)) ns)
    (all_implies (is_grounded first ms) (is_grounded first (ms ++ ns))
    (λ m. all_implies (is_known_within first m.marks ms) (is_known_within first m.marks (ms ++ ns))
    (stays_known first m.marks ms ns) (named m.item))
    ms h)
    g

-- Premises that hold by some facts hold by more, also where these join more nodes.
use Rattle.std.proofs.Common.{◌≡◌, ℕ, ◌&&◌, ◌||◌, eqb, Bool, true, false, cond, List, [], ◌∷◌, ◌++◌, map, refl, ap, ◌∙◌}
use Rattle.std.proofs.Common.{sym, subst, inl, inr, eq-eqb}
use Rattle.std.specs.List.{list_any, list_all, filter}
use Rattle.std.proofs.lemmas.Bool.{and_parts, and_from, or_cases, or_left, or_right, eqb-true}
use Rattle.std.proofs.lemmas.List.Folds.{list_any-append}
use Rattle.calculus_specs.specs.Concept.{Concept}
use Rattle.calculus_specs.specs.Normal.{is_top}
use Rattle.calculus_specs.specs.Same.{is_same}
use Rattle.calculus_specs.specs.Rows.{Theory}
use Rattle.calculus_specs.specs.declared.facts.Fact.{Fact}
use Rattle.calculus_specs.specs.declared.facts.Fact.TheVariants.{Has, Edge, Apart, Same}
use Rattle.calculus_specs.specs.Joins.{rep, joins, IsJoined}
use Rattle.calculus_specs.specs.Joins.IsJoined.{itself, by_fact}
use Rattle.calculus_specs.specs.State.{gives_concept, is_given, has_tree, gives_edge, has_edge, gives_apart, are_apart}
use Rattle.calculus_specs.proofs.Joined.{rep-joined, joined-rep, joined_on, joined_back}
use Rattle.calculus_specs.specs.Rules.{Known}
use Rattle.search_trace.specs.Premises.{Premise, is_node, has_concept, has_edge_below, is_apart, is_one, holds}
use Rattle.refutation_tree.specs.NumberSets.{NumberSet}
use Rattle.search_trace.specs.Noted.{Marked, is_within, within}
use Rattle.search_trace.specs.Among.{IsAmong, IsPart}

-- ---- tests of lists

pub any_implies : {A : Type 0} → (p q : A → Bool) → ((a : A) → p a ≡ true → q a ≡ true) → (xs : List A)
    → list_any p xs ≡ true → list_any q xs ≡ true
any_implies p q imp [] h = cc
any_implies p q imp (x ∷ xs) h = elim (or_cases (p x) (list_any p xs) h) [
  | inl here ↦ or_left (q x) (list_any q xs) (imp x here)
  | inr later ↦ or_right (q x) (list_any q xs) (any_implies p q imp xs later)
]

pub any_filter : {A : Type 0} → (p q : A → Bool) → (xs : List A)
    → list_any p (filter q xs) ≡ list_any (λ x. q x && p x) xs
any_filter p q [] = refl
any_filter p q (x ∷ xs) = elim (q x) as
    (λ b. list_any p (cond b (x ∷ filter q xs) (filter q xs)) ≡ ((b && p x) || list_any (λ y. q y && p y) xs)) [
      | true ↦ ap (λ (t : Bool). p x || t) (any_filter p q xs)
      | false ↦ any_filter p q xs
    ]

pub any_map : {A B : Type 0} → (f : A → B) (p : B → Bool) → (xs : List A)
    → list_any p (map f xs) ≡ list_any (λ x. p (f x)) xs
any_map f p [] = refl
any_map f p (x ∷ xs) = ap (λ (t : Bool). p (f x) || t) (any_map f p xs)

pub any_within : {A : Type 0} → (u : NumberSet) (p : A → Bool) (ms : List (Marked A))
    → list_any p (within u ms) ≡ list_any (λ m. is_within u m && p m.item) ms
any_within u p ms = any_map (λ m. m.item) p (filter (is_within u) ms) ∙ any_filter (λ m. p m.item) (is_within u) ms

pub within_among : {A : Type 0} → (u : NumberSet) (xs ys : List (Marked A)) → IsAmong xs ys
    → IsAmong (within u xs) (within u ys)
within_among u xs ys h p any = any_within u p ys ∙ h (λ m. is_within u m && p m.item) (sym (any_within u p xs) ∙ any)

pub among_itself : {A : Type 0} → (xs : List A) → IsAmong xs xs
among_itself xs p h = h

pub among_more : {A : Type 0} → (xs ys zs : List A) → IsAmong xs ys → IsAmong (xs ++ zs) (ys ++ zs)
among_more xs ys zs h p any =
    list_any-append p ys zs ∙ (elim (or_cases (list_any p xs) (list_any p zs) (sym (list_any-append p xs zs) ∙ any)) [
      | inl a ↦ or_left (list_any p ys) (list_any p zs) (h p a)
      | inr a ↦ or_right (list_any p ys) (list_any p zs) a
    ])

-- ---- facts, read through joins

module _ {C : Type 0} (fs gs : List (Fact C)) (more : IsAmong fs gs) where
  joined_among : (x y : ℕ) → IsJoined fs x y → IsJoined gs x y
  joined_among x x' (itself y) = itself y
  joined_among x x' (by_fact a b c any h) = by_fact a b c (more (joins b c) any) (joined_among a b h)

  one_rep : (x y : ℕ) → eqb (rep fs x) (rep fs y) ≡ true → eqb (rep gs x) (rep gs y) ≡ true
  one_rep x y h =
      let e : rep fs x ≡ rep fs y = eqb-true (rep fs x) (rep fs y) h in
      let to-y : IsJoined fs x (rep fs y) = subst (IsJoined fs x) e (joined-rep fs x) in
      let joined : IsJoined fs x y = joined_on fs x (rep fs y) y to-y (joined_back fs y (rep fs y) (joined-rep fs y)) in
      eq-eqb (rep gs x) (rep gs y) (rep-joined gs x y (joined_among x y joined))

  found : (p q : Fact C → Bool) → ((f : Fact C) → p f ≡ true → q f ≡ true) → list_any p fs ≡ true → list_any q gs ≡ true
  found p q imp h = more q (any_implies p q imp fs h)

  concept_stays : (kind : C → Bool) (x : ℕ) (f : Fact C) → gives_concept kind (rep fs) (rep fs x) f ≡ true
      → gives_concept kind (rep gs) (rep gs x) f ≡ true
  concept_stays kind x (Has y c) h =
      let b = and_parts (eqb (rep fs y) (rep fs x)) (kind c) h in
      and_from (eqb (rep gs y) (rep gs x)) (kind c) (one_rep y x b.0) b.1
  concept_stays kind x (Edge r y z) h = cc
  concept_stays kind x (Apart y z) h = cc
  concept_stays kind x (Same y z) h = cc

  pub given_stays : (kind : C → Bool) (x : ℕ) → is_given kind fs x ≡ true → is_given kind gs x ≡ true
  given_stays kind x h =
      found (gives_concept kind (rep fs) (rep fs x)) (gives_concept kind (rep gs) (rep gs x)) (concept_stays kind x) h

  edge_fact_stays : (roles : ℕ → Bool) (x y : ℕ) (f : Fact C) → gives_edge roles (rep fs) (rep fs x) (rep fs y) f ≡ true
      → gives_edge roles (rep gs) (rep gs x) (rep gs y) f ≡ true
  edge_fact_stays roles x y (Edge r v w) h =
      let b = and_parts (roles r && eqb (rep fs v) (rep fs x)) (eqb (rep fs w) (rep fs y)) h in
      let c = and_parts (roles r) (eqb (rep fs v) (rep fs x)) b.0 in
      and_from (roles r && eqb (rep gs v) (rep gs x)) (eqb (rep gs w) (rep gs y))
      (and_from (roles r) (eqb (rep gs v) (rep gs x)) c.0 (one_rep v x c.1)) (one_rep w y b.1)
  edge_fact_stays roles x y (Has v c) h = cc
  edge_fact_stays roles x y (Apart v w) h = cc
  edge_fact_stays roles x y (Same v w) h = cc

  pub edge_stays : (roles : ℕ → Bool) (x y : ℕ) → has_edge fs roles x y ≡ true → has_edge gs roles x y ≡ true
  edge_stays roles x y h =
      found (gives_edge roles (rep fs) (rep fs x) (rep fs y)) (gives_edge roles (rep gs) (rep gs x) (rep gs y))
      (edge_fact_stays roles x y) h

  both_stay : (v w x y : ℕ) → (eqb (rep fs v) (rep fs x) && eqb (rep fs w) (rep fs y)) ≡ true
      → (eqb (rep gs v) (rep gs x) && eqb (rep gs w) (rep gs y)) ≡ true
  both_stay v w x y h =
      let b = and_parts (eqb (rep fs v) (rep fs x)) (eqb (rep fs w) (rep fs y)) h in
      and_from (eqb (rep gs v) (rep gs x)) (eqb (rep gs w) (rep gs y)) (one_rep v x b.0) (one_rep w y b.1)

  apart_fact_stays : (x y : ℕ) (f : Fact C) → gives_apart (rep fs) (rep fs x) (rep fs y) f ≡ true
      → gives_apart (rep gs) (rep gs x) (rep gs y) f ≡ true
  apart_fact_stays x y (Apart v w) h =
      let one = eqb (rep gs v) (rep gs x) && eqb (rep gs w) (rep gs y) in
      let other = eqb (rep gs v) (rep gs y) && eqb (rep gs w) (rep gs x) in
      elim (or_cases (eqb (rep fs v) (rep fs x) && eqb (rep fs w) (rep fs y))
      (eqb (rep fs v) (rep fs y) && eqb (rep fs w) (rep fs x)) h) [
        | inl a ↦ or_left one other (both_stay v w x y a)
        | inr a ↦ or_right one other (both_stay v w y x a)
      ]
  apart_fact_stays x y (Has v c) h = cc
  apart_fact_stays x y (Edge r v w) h = cc
  apart_fact_stays x y (Same v w) h = cc

  pub apart_stays : (x y : ℕ) → are_apart fs x y ≡ true → are_apart gs x y ≡ true
  apart_stays x y h =
      found (gives_apart (rep fs) (rep fs x) (rep fs y)) (gives_apart (rep gs) (rep gs x) (rep gs y))
      (apart_fact_stays x y) h

tree_stays : (fs gs : List (Fact Concept)) → IsAmong fs gs → (x : ℕ) (c : Concept) → has_tree fs x c ≡ true
    → has_tree gs x c ≡ true
tree_stays fs gs more x c h = elim (or_cases (is_top c) (is_given (λ d. is_same d c) fs x) h) [
  | inl top ↦ or_left (is_top c) (is_given (λ d. is_same d c) gs x) top
  | inr given ↦
      or_right (is_top c) (is_given (λ d. is_same d c) gs x) (given_stays fs gs more (λ d. is_same d c) x given)
]

-- ---- premises

module _ (theory : Theory) (less more : Known) (part : IsPart less more) where
  pub premise_stays : (p : Premise) → holds theory less p ≡ true → holds theory more p ≡ true
  premise_stays (is_node x) h = part.nodes (λ y. eqb y x) h
  premise_stays (has_concept x c) h = tree_stays less.facts more.facts part.facts x c h
  premise_stays (has_edge_below s x y) h = edge_stays less.facts more.facts part.facts (λ r. theory.below r s) x y h
  premise_stays (is_apart x y) h = apart_stays less.facts more.facts part.facts x y h
  premise_stays (is_one x y) h = one_rep less.facts more.facts part.facts x y h

  pub premises_stay : (ps : List Premise) → list_all (holds theory less) ps ≡ true
      → list_all (holds theory more) ps ≡ true
  premises_stay [] h = refl
  premises_stay (p ∷ ps) h =
      let b = and_parts (holds theory less p) (list_all (holds theory less) ps) h in
      and_from (holds theory more p) (list_all (holds theory more) ps) (premise_stays p b.0) (premises_stay ps b.1)

-- Interpretations that make true what a branch knows: each node stands for an element.
use Rattle.std.proofs.Common.{◌≡◌, ℕ, ◌<◌, ◌≤◌, ◌&&◌, Bool, true, not, eqb, ltb, List, [], ◌∷◌, ◌++◌, length, refl, ap}
use Rattle.std.proofs.Common.{◌∙◌, sym, subst, arith, inl, inr}
use Rattle.std.specs.List.{list_any, list_all}
use Rattle.std.proofs.lemmas.Bool.{and_parts, and_from, or_cases, eqb-true, eqb-false, ltb-true, ne_eqb, not-true}
use Rattle.std.proofs.lemmas.List.Folds.{list_all-append}
use Rattle.shq_nnf.specs.Concept.{Concept, top}
use Rattle.role_box.specs.Normal.{is_top}
use Rattle.role_box.specs.Same.{is_same}
use Rattle.role_box.proofs.Same.{same_to_eq}
use Rattle.shq_nnf.specs.Below.{count_below}
use Rattle.shq_nnf.specs.Truth.{Interpretation, holds}
use Rattle.shq_nnf.specs.Meeting.{is_true}
use Rattle.role_box.specs.Fact.{Fact}
use Rattle.role_box.specs.Fact.TheVariants.{Has, Edge, Apart, Same}
use Rattle.role_box.specs.Joins.{rep, joins, IsJoined}
use Rattle.role_box.specs.Joins.IsJoined.{itself, by_fact}
use Rattle.role_box.specs.State.{gives_concept, is_given, has_tree, gives_edge, has_edge, gives_apart, are_apart}
use Rattle.role_box.specs.State.{all_apart}
use Rattle.role_box.proofs.Joined.{joined-rep}
use Rattle.role_box.specs.Rules.{Known, knows, with_facts}
use Rattle.refutation_truth.specs.Theory.{nodes_pass}
use Rattle.refutation_truth.proofs.Below.{but, count_but}

-- ---- members of lists

pub record Found (X : Type 0) (p q : X → Bool) : Type 0 where
  pub it : X
  pub first : p it ≡ true
  pub second : q it ≡ true

-- where one passes the first test and all pass the second, one passes both
pub found : {X : Type 0} (p q : X → Bool) (xs : List X) → list_any p xs ≡ true → list_all q xs ≡ true → Found X p q
found p q [] h all = cc
found p q (x ∷ xs) h all =
    let t = and_parts (q x) (list_all q xs) all in
    elim (or_cases (p x) (list_any p xs) h)
    [ inl here ↦ record { it = x; first = here; second = t.0 } | inr later ↦ found p q xs later t.1 ]

pub all_with : {X : Type 0} (p q r : X → Bool) → ((x : X) → p x ≡ true → q x ≡ true → r x ≡ true) → (xs : List X)
    → list_all p xs ≡ true → list_all q xs ≡ true → list_all r xs ≡ true
all_with p q r each [] h g = refl
all_with p q r each (x ∷ xs) h g =
    let a = and_parts (p x) (list_all p xs) h in
    let b = and_parts (q x) (list_all q xs) g in
    and_from (r x) (list_all r xs) (each x a.0 b.0) (all_with p q r each xs a.1 b.1)

pub all_of_both : {X : Type 0} (p : X → Bool) (xs ys : List X) → list_all p xs ≡ true → list_all p ys ≡ true
    → list_all p (xs ++ ys) ≡ true
all_of_both p xs ys h g = list_all-append p xs ys ∙ and_from (list_all p xs) (list_all p ys) h g

-- ---- facts that are true where each node stands for the element at its place

top_holds : (i : Interpretation) (c : Concept) (v : ℕ) → is_top c ≡ true → holds i c v ≡ true
top_holds i top v h = refl
top_holds i _ v h = cc

module _ (i : Interpretation) (place : ℕ → ℕ) (fs : List (Fact Concept))
    (all : list_all (is_true i place) fs ≡ true) where
  join_place : (y z : ℕ) (f : Fact Concept) → joins y z f ≡ true → is_true i place f ≡ true → place y ≡ place z
  join_place y z (Same v w) h t =
      let e = eqb-true (place v) (place w) t in
      elim (or_cases (eqb v y && eqb w z) (eqb v z && eqb w y) h) [
        | inl a ↦
            let b = and_parts (eqb v y) (eqb w z) a in
            sym (ap place (eqb-true v y b.0)) ∙ e ∙ ap place (eqb-true w z b.1)
        | inr a ↦
            let b = and_parts (eqb v z) (eqb w y) a in
            sym (ap place (eqb-true w y b.1)) ∙ sym e ∙ ap place (eqb-true v z b.0)
      ]
  join_place y z (Has v c) h t = cc
  join_place y z (Edge r v w) h t = cc
  join_place y z (Apart v w) h t = cc

  joined_place : (x y : ℕ) → IsJoined fs x y → place x ≡ place y
  joined_place x x' (itself y) = refl
  joined_place x x' (by_fact a b c any h) =
      let f = found (joins b c) (is_true i place) fs any all in
      joined_place a b h ∙ join_place b c f.it f.first f.second

  rep_place : (x : ℕ) → place x ≡ place (rep fs x)
  rep_place x = joined_place x (rep fs x) (joined-rep fs x)

  -- nodes with one representative stand for one element
  pub same_place : (x y : ℕ) → eqb (rep fs x) (rep fs y) ≡ true → place x ≡ place y
  same_place x y h = rep_place x ∙ ap place (eqb-true (rep fs x) (rep fs y) h) ∙ sym (rep_place y)

  given_place : (x : ℕ) (c : Concept) (f : Fact Concept) → gives_concept (λ d. is_same d c) (rep fs) (rep fs x) f ≡ true
      → is_true i place f ≡ true → holds i c (place x) ≡ true
  given_place x c (Has y d) h t =
      let b = and_parts (eqb (rep fs y) (rep fs x)) (is_same d c) h in
      let here : holds i d (place x) ≡ true = subst (λ (v : ℕ). holds i d v ≡ true) (same_place y x b.0) t in
      subst (λ (e : Concept). holds i e (place x) ≡ true) (same_to_eq d c b.1) here
  given_place x c (Edge r y z) h t = cc
  given_place x c (Apart y z) h t = cc
  given_place x c (Same y z) h t = cc

  -- what a node has, its element is in
  pub has_place : (x : ℕ) (c : Concept) → has_tree fs x c ≡ true → holds i c (place x) ≡ true
  has_place x c h = elim (or_cases (is_top c) (is_given (λ d. is_same d c) fs x) h) [
    | inl is ↦ top_holds i c (place x) is
    | inr given ↦
        let f = found (gives_concept (λ d. is_same d c) (rep fs) (rep fs x)) (is_true i place) fs given all in
        given_place x c f.it f.first f.second
  ]

  pub record Led (roles : ℕ → Bool) (x y : ℕ) : Type 0 where
    pub role : ℕ
    pub is_one : roles role ≡ true
    pub leads : i.in_role role (place x) (place y) ≡ true

  edge_place : (roles : ℕ → Bool) (x y : ℕ) (f : Fact Concept)
      → gives_edge roles (rep fs) (rep fs x) (rep fs y) f ≡ true → is_true i place f ≡ true → Led roles x y
  edge_place roles x y (Edge r v w) h t =
      let b = and_parts (roles r && eqb (rep fs v) (rep fs x)) (eqb (rep fs w) (rep fs y)) h in
      let a = and_parts (roles r) (eqb (rep fs v) (rep fs x)) b.0 in
      let from : i.in_role r (place x) (place w) ≡ true =
      subst (λ (p : ℕ). i.in_role r p (place w) ≡ true) (same_place v x a.1) t in
      record {
        role = r;
        is_one = a.0;
        leads = subst (λ (p : ℕ). i.in_role r (place x) p ≡ true) (same_place w y b.1) from;
      }
  edge_place roles x y (Has v c) h t = cc
  edge_place roles x y (Apart v w) h t = cc
  edge_place roles x y (Same v w) h t = cc

  -- an edge is a pair of its role
  pub led : (roles : ℕ → Bool) (x y : ℕ) → has_edge fs roles x y ≡ true → Led roles x y
  led roles x y h =
      let f = found (gives_edge roles (rep fs) (rep fs x) (rep fs y)) (is_true i place) fs h all in
      edge_place roles x y f.it f.first f.second

  parted : (x y : ℕ) (f : Fact Concept) → gives_apart (rep fs) (rep fs x) (rep fs y) f ≡ true → is_true i place f ≡ true
      → place x ≡ place y → ⊥
  parted x y (Apart v w) h t e =
      let differ = eqb-false (place v) (place w) (not-true (eqb (place v) (place w)) t) in
      elim (or_cases (eqb (rep fs v) (rep fs x) && eqb (rep fs w) (rep fs y))
      (eqb (rep fs v) (rep fs y) && eqb (rep fs w) (rep fs x)) h) [
        | inl a ↦
            let b = and_parts (eqb (rep fs v) (rep fs x)) (eqb (rep fs w) (rep fs y)) a in
            differ (same_place v x b.0 ∙ e ∙ sym (same_place w y b.1))
        | inr a ↦
            let b = and_parts (eqb (rep fs v) (rep fs y)) (eqb (rep fs w) (rep fs x)) a in
            differ (same_place v y b.0 ∙ sym e ∙ sym (same_place w x b.1))
      ]
  parted x y (Has v c) h t e = cc
  parted x y (Edge r v w) h t e = cc
  parted x y (Same v w) h t e = cc

  -- nodes that are apart stand for different elements
  pub differ_place : (x y : ℕ) → are_apart fs x y ≡ true → place x ≡ place y → ⊥
  differ_place x y h =
      let f = found (gives_apart (rep fs) (rep fs x) (rep fs y)) (is_true i place) fs h all in
      parted x y f.it f.first f.second

  -- so many nodes that are apart and whose elements pass a test are at most as many as pass it
  pub apart_are_counted : (m : ℕ) (ys : List ℕ) (p : ℕ → Bool)
      → list_all (λ y. ltb (place y) m && p (place y)) ys ≡ true → all_apart fs ys ≡ true → length ys ≤ count_below m p
  apart_are_counted m [] p h a = omega arith
  apart_are_counted m (y ∷ ys) p h a =
      let t = and_parts (ltb (place y) m && p (place y)) (list_all (λ z. ltb (place z) m && p (place z)) ys) h in
      let here = and_parts (ltb (place y) m) (p (place y)) t.0 in
      let others = and_parts (list_all (are_apart fs y) ys) (all_apart fs ys) a in
      let rest =
      all_with (λ z. ltb (place z) m && p (place z)) (are_apart fs y)
      (λ z. ltb (place z) m && but p (place y) (place z))
      (λ z passes differs.
      let b = and_parts (ltb (place z) m) (p (place z)) passes in
      and_from (ltb (place z) m) (but p (place y) (place z)) b.0
      (and_from (p (place z)) (not (eqb (place z) (place y))) b.1
      (ap not (ne_eqb (place z) (place y) (λ e. differ_place y z differs (sym e))))))
      ys t.1 others.0 in
      let fewer = apart_are_counted m ys (but p (place y)) rest others.1 in
      let one = count_but m p (place y) (ltb-true (place y) m here.0) here.1 in
      omega (arith, fewer, one)

-- ---- models of what is known

-- whether the fact's nodes are among these
abbrev pub is_on : List ℕ → Fact Concept → Bool
is_on nodes f = nodes_pass (λ x. list_any (λ y. eqb y x) nodes) f

-- where all nodes that pass one test pass another, so do those of a fact
pub still_pass : (p q : ℕ → Bool) → ((x : ℕ) → p x ≡ true → q x ≡ true) → (f : Fact Concept) → nodes_pass p f ≡ true
    → nodes_pass q f ≡ true
still_pass p q each (Has x c) h = each x h
still_pass p q each (Edge r x y) h = let b = and_parts (p x) (p y) h in and_from (q x) (q y) (each x b.0) (each y b.1)
still_pass p q each (Apart x y) h = let b = and_parts (p x) (p y) h in and_from (q x) (q y) (each x b.0) (each y b.1)
still_pass p q each (Same x y) h = let b = and_parts (p x) (p y) h in and_from (q x) (q y) (each x b.0) (each y b.1)

-- Each node stands for an element so that all facts are true, and facts name known nodes alone. The node of each of so
-- many individuals stands for it, and where any node is known, these are.
pub record Model (i : Interpretation) (named : ℕ) (k : Known) : Type 0 where
  pub place : ℕ → ℕ
  pub within : (x : ℕ) → place x < i.size
  pub are_true : list_all (is_true i place) k.facts ≡ true
  pub are_on : list_all (is_on k.nodes) k.facts ≡ true
  pub stands : (a : ℕ) → a < named → place a ≡ i.individual a
  pub known : (x : ℕ) → knows k x ≡ true → (a : ℕ) → a < named → knows k a ≡ true

-- a model in which more facts are true
pub more_facts : (i : Interpretation) (named : ℕ) (k : Known) (m : Model i named k) (fs : List (Fact Concept))
    → list_all (is_true i m.place) fs ≡ true → list_all (is_on k.nodes) fs ≡ true → Model i named (with_facts k fs)
more_facts i named k m fs h g = record {
  place = m.place;
  within = m.within;
  are_true = all_of_both (is_true i m.place) k.facts fs m.are_true h;
  are_on = all_of_both (is_on k.nodes) k.facts fs m.are_on g;
  stands = m.stands;
  known = m.known;
}

-- facts are as true under places that agree on their nodes
pub agree : (i : Interpretation) (p : ℕ → Bool) (old new : ℕ → ℕ) → ((x : ℕ) → p x ≡ true → new x ≡ old x)
    → (f : Fact Concept) → is_true i old f ≡ true → nodes_pass p f ≡ true → is_true i new f ≡ true
agree i p old new same (Has x c) h on = ap (holds i c) (same x on) ∙ h
agree i p old new same (Edge r x y) h on =
    let b = and_parts (p x) (p y) on in
    let d = same x b.0 in let e = same y b.1 in (λ j. i.in_role r (d j) (e j)) ∙ h
agree i p old new same (Apart x y) h on =
    let b = and_parts (p x) (p y) on in
    let d = same x b.0 in let e = same y b.1 in (λ j. not (eqb (d j) (e j))) ∙ h
agree i p old new same (Same x y) h on =
    let b = and_parts (p x) (p y) on in
    let d = same x b.0 in let e = same y b.1 in (λ j. eqb (d j) (e j)) ∙ h

pub all_agree : (i : Interpretation) (nodes : List ℕ) (old new : ℕ → ℕ)
    → ((x : ℕ) → list_any (λ y. eqb y x) nodes ≡ true → new x ≡ old x)
    → (fs : List (Fact Concept)) → list_all (is_true i old) fs ≡ true → list_all (is_on nodes) fs ≡ true
    → list_all (is_true i new) fs ≡ true
all_agree i nodes old new same fs h on =
    all_with (is_true i old) (is_on nodes) (is_true i new) (agree i (λ x. list_any (λ y. eqb y x) nodes) old new same)
    fs h on

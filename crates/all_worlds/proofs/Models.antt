-- Worlds that make true what a branch knows: each node stands for a member.
use Rattle.std.proofs.Common.{◌≡◌, ℕ, ◌<◌, ◌&&◌, Bool, true, eqb, List, [], ◌∷◌, map, refl, ap}
use Rattle.std.proofs.Common.{◌∙◌, sym, subst, arith, inl, inr}
use Rattle.std.specs.Prelude.{All}
use Rattle.std.specs.List.{list_all, AllPairs}
use Rattle.std.proofs.lemmas.Bool.{and_parts, or_cases, eqb-true}
use Rattle.std.proofs.lemmas.List.Elements.{All-append, All-map}
use Rattle.std.proofs.lemmas.List.Kept.{AllPairs-cons}
use Rattle.shq_nnf.specs.Concept.{Concept, top}
use Rattle.role_box.specs.Normal.{is_top}
use Rattle.role_box.specs.Same.{is_same}
use Rattle.role_box.proofs.Same.{same_to_eq}
use Rattle.role_box.specs.Fact.{Fact}
use Rattle.role_box.specs.Fact.TheVariants.{Has, Edge, Apart, Same}
use Rattle.role_box.specs.Joins.{rep, joins, IsJoined}
use Rattle.role_box.specs.Joins.IsJoined.{itself, by_fact}
use Rattle.role_box.specs.State.{gives_concept, is_given, has_tree, gives_edge, has_edge, gives_apart, are_apart}
use Rattle.role_box.specs.State.{all_apart}
use Rattle.role_box.proofs.Joined.{joined-rep}
use Rattle.role_box.specs.Rules.{Known, knows, with_facts}
use Rattle.refutation_truth.specs.Theory.{nodes_pass}
use Rattle.refutation_truth.proofs.Models.{is_on}
use Rattle.all_worlds.specs.Worlds.{World, IsIn}
use Rattle.all_worlds.proofs.Lists.{found, each_has}

-- ---- facts that are true where each node stands for the member at its place

abbrev pub IsTrueAt : {d : Type 0} → World d → (ℕ → d) → Fact Concept → Type 0
IsTrueAt w place (Has x c) = IsIn w c (place x)
IsTrueAt w place (Edge r x y) = w.in_role r (place x) (place y) ≡ true
IsTrueAt w place (Apart x y) = ¬ (place x ≡ place y)
IsTrueAt w place (Same x y) = place x ≡ place y

top_is_in : {d : Type 0} (w : World d) (c : Concept) (v : d) → is_top c ≡ true → IsIn w c v
top_is_in w top v h = tt
top_is_in w _ v h = cc

module _ {d : Type 0} (w : World d) (place : ℕ → d) (fs : List (Fact Concept)) (all : All (IsTrueAt w place) fs) where
  join_place : (y z : ℕ) (f : Fact Concept) → joins y z f ≡ true → IsTrueAt w place f → place y ≡ place z
  join_place y z (Same v u) h e = elim (or_cases (eqb v y && eqb u z) (eqb v z && eqb u y) h) [
    | inl a ↦
        let b = and_parts (eqb v y) (eqb u z) a in
        sym (ap place (eqb-true v y b.0)) ∙ e ∙ ap place (eqb-true u z b.1)
    | inr a ↦
        let b = and_parts (eqb v z) (eqb u y) a in
        sym (ap place (eqb-true u y b.1)) ∙ sym e ∙ ap place (eqb-true v z b.0)
  ]
  join_place y z (Has v c) h t = cc
  join_place y z (Edge r v u) h t = cc
  join_place y z (Apart v u) h t = cc

  joined_place : (x y : ℕ) → IsJoined fs x y → place x ≡ place y
  joined_place x x' (itself y) = refl
  joined_place x x' (by_fact a b c any h) =
      let f = found (joins b c) (IsTrueAt w place) fs any all in
      joined_place a b h ∙ join_place b c f.it f.passes f.has

  rep_place : (x : ℕ) → place x ≡ place (rep fs x)
  rep_place x = joined_place x (rep fs x) (joined-rep fs x)

  -- nodes with one representative stand for one member
  pub same_place : (x y : ℕ) → eqb (rep fs x) (rep fs y) ≡ true → place x ≡ place y
  same_place x y h = rep_place x ∙ ap place (eqb-true (rep fs x) (rep fs y) h) ∙ sym (rep_place y)

  given_place : (x : ℕ) (c : Concept) (f : Fact Concept) → gives_concept (λ e. is_same e c) (rep fs) (rep fs x) f ≡ true
      → IsTrueAt w place f → IsIn w c (place x)
  given_place x c (Has y e) h t =
      let b = and_parts (eqb (rep fs y) (rep fs x)) (is_same e c) h in
      let here : IsIn w e (place x) = subst (IsIn w e) (same_place y x b.0) t in
      subst (λ (f : Concept). IsIn w f (place x)) (same_to_eq e c b.1) here
  given_place x c (Edge r y z) h t = cc
  given_place x c (Apart y z) h t = cc
  given_place x c (Same y z) h t = cc

  -- what a node has, its member is in
  pub has_place : (x : ℕ) (c : Concept) → has_tree fs x c ≡ true → IsIn w c (place x)
  has_place x c h = elim (or_cases (is_top c) (is_given (λ e. is_same e c) fs x) h) [
    | inl is ↦ top_is_in w c (place x) is
    | inr given ↦
        let f = found (gives_concept (λ e. is_same e c) (rep fs) (rep fs x)) (IsTrueAt w place) fs given all in
        given_place x c f.it f.passes f.has
  ]

  pub record Led (roles : ℕ → Bool) (x y : ℕ) : Type 0 where
    pub role : ℕ
    pub is_one : roles role ≡ true
    pub leads : w.in_role role (place x) (place y) ≡ true

  edge_place : (roles : ℕ → Bool) (x y : ℕ) (f : Fact Concept)
      → gives_edge roles (rep fs) (rep fs x) (rep fs y) f ≡ true → IsTrueAt w place f → Led roles x y
  edge_place roles x y (Edge r v u) h t =
      let b = and_parts (roles r && eqb (rep fs v) (rep fs x)) (eqb (rep fs u) (rep fs y)) h in
      let a = and_parts (roles r) (eqb (rep fs v) (rep fs x)) b.0 in
      let from : w.in_role r (place x) (place u) ≡ true =
      subst (λ (p : d). w.in_role r p (place u) ≡ true) (same_place v x a.1) t in
      record {
        role = r;
        is_one = a.0;
        leads = subst (λ (p : d). w.in_role r (place x) p ≡ true) (same_place u y b.1) from;
      }
  edge_place roles x y (Has v c) h t = cc
  edge_place roles x y (Apart v u) h t = cc
  edge_place roles x y (Same v u) h t = cc

  -- an edge is a pair of its role
  pub led : (roles : ℕ → Bool) (x y : ℕ) → has_edge fs roles x y ≡ true → Led roles x y
  led roles x y h =
      let f = found (gives_edge roles (rep fs) (rep fs x) (rep fs y)) (IsTrueAt w place) fs h all in
      edge_place roles x y f.it f.passes f.has

  parted : (x y : ℕ) (f : Fact Concept) → gives_apart (rep fs) (rep fs x) (rep fs y) f ≡ true → IsTrueAt w place f
      → ¬ (place x ≡ place y)
  parted x y (Apart v u) h differ e =
      elim (or_cases (eqb (rep fs v) (rep fs x) && eqb (rep fs u) (rep fs y))
      (eqb (rep fs v) (rep fs y) && eqb (rep fs u) (rep fs x)) h) [
        | inl a ↦
            let b = and_parts (eqb (rep fs v) (rep fs x)) (eqb (rep fs u) (rep fs y)) a in
            differ (same_place v x b.0 ∙ e ∙ sym (same_place u y b.1))
        | inr a ↦
            let b = and_parts (eqb (rep fs v) (rep fs y)) (eqb (rep fs u) (rep fs x)) a in
            differ (same_place v y b.0 ∙ sym e ∙ sym (same_place u x b.1))
      ]
  parted x y (Has v c) h t e = cc
  parted x y (Edge r v u) h t e = cc
  parted x y (Same v u) h t e = cc

  -- nodes that are apart stand for different members
  pub differ_place : (x y : ℕ) → are_apart fs x y ≡ true → ¬ (place x ≡ place y)
  differ_place x y h =
      let f = found (gives_apart (rep fs) (rep fs x) (rep fs y)) (IsTrueAt w place) fs h all in
      parted x y f.it f.passes f.has

  -- nodes that are apart stand for as many members
  pub apart_are_distinct : (ys : List ℕ) → all_apart fs ys ≡ true → AllPairs (λ y z. ¬ (y ≡ z)) (map place ys)
  apart_are_distinct [] h = λ i j e before within. absurd (omega arith)
  apart_are_distinct (y ∷ ys) h =
      let b = and_parts (list_all (are_apart fs y) ys) (all_apart fs ys) h in
      AllPairs-cons (λ y z. ¬ (y ≡ z)) (place y) (map place ys)
      (All-map (λ z. ¬ (place y ≡ z)) place ys
      (each_has (are_apart fs y) (λ z. ¬ (place y ≡ place z)) (differ_place y) ys b.0))
      (apart_are_distinct ys b.1)

-- ---- models of what is known

-- Each node stands for a member so that all facts are true, and facts name known nodes alone. The node of each of so
-- many individuals stands for it, and where any node is known, these are.
pub record Model {d : Type 0} (w : World d) (named : ℕ) (k : Known) : Type 0 where
  pub place : ℕ → d
  pub are_true : All (IsTrueAt w place) k.facts
  pub are_on : All (λ f. is_on k.nodes f ≡ true) k.facts
  pub stands : (a : ℕ) → a < named → place a ≡ w.individual a
  pub known : (x : ℕ) → knows k x ≡ true → (a : ℕ) → a < named → knows k a ≡ true

-- a model in which more facts are true
pub more_facts : {d : Type 0} (w : World d) (named : ℕ) (k : Known) (m : Model w named k) (fs : List (Fact Concept))
    → All (IsTrueAt w m.place) fs → All (λ f. is_on k.nodes f ≡ true) fs → Model w named (with_facts k fs)
more_facts w named k m fs h g = record {
  place = m.place;
  are_true = All-append (IsTrueAt w m.place) k.facts fs m.are_true h;
  are_on = All-append (λ f. is_on k.nodes f ≡ true) k.facts fs m.are_on g;
  stands = m.stands;
  known = m.known;
}

-- facts are as true under places that agree on their nodes
pub agree : {d : Type 0} (w : World d) (p : ℕ → Bool) (old new : ℕ → d) → ((x : ℕ) → p x ≡ true → new x ≡ old x)
    → (f : Fact Concept) → IsTrueAt w old f → nodes_pass p f ≡ true → IsTrueAt w new f
agree w p old new same (Has x c) h on = subst (IsIn w c) (sym (same x on)) h
agree w p old new same (Edge r x y) h on =
    let b = and_parts (p x) (p y) on in
    let e = same x b.0 in let f = same y b.1 in (λ j. w.in_role r (e j) (f j)) ∙ h
agree w p old new same (Apart x y) h on =
    let b = and_parts (p x) (p y) on in λ e. h (sym (same x b.0) ∙ e ∙ same y b.1)
agree w p old new same (Same x y) h on =
    let b = and_parts (p x) (p y) on in same x b.0 ∙ h ∙ sym (same y b.1)

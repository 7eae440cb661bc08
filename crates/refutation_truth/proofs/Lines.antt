-- A line whose premises hold in a branch that has a model leaves a child that has one.
use Rattle.std.proofs.Common.{◌≡◌, ℕ, suc, ◌+◌, ◌<◌, ◌≤◌, ◌^◌, ◌⊎◌, ◌&&◌, ◌||◌, Bool, true, false, not, cond, eqb, leb}
use Rattle.std.proofs.Common.{ltb, List, [], ◌∷◌, map, length, get_or, Option, Some, None, refl, ap, sym, ◌∙◌, subst}
use Rattle.std.proofs.Common.{arith, inl, inr}
use Rattle.std.specs.List.{list_any, list_all, range_with_len}
use Rattle.std.proofs.lemmas.Bool.{cases_Bool, and_parts, and_from, or_cases, eqb-true, leb-true, ltb-true, le-leb}
use Rattle.std.proofs.lemmas.Bool.{lt-ltb, not-true, true≢false}
use Rattle.shq_nnf.specs.Concept.{Concept, top, bottom, name, complement, intersection, union, some_of, all_of}
use Rattle.shq_nnf.specs.Concept.{at_least, at_most, Parts, no_parts, part, part_list}
use Rattle.role_box.specs.Normal.{normal_form, negated_form}
use Rattle.role_box.specs.TheoryRows.{Part, inclusion, range, Theory, part_at, is_among, conjunct_at}
use Rattle.role_box.specs.TheoryRows.{are_name_positions, row_concept}
use Rattle.shq_nnf.specs.Below.{all_below, count_below}
use Rattle.shq_nnf.specs.Truth.{Interpretation, PlacesIndividuals, implies, each_successor, holds, hold_all, hold_any}
use Rattle.shq_nnf.proofs.Implied.{implied, implies_from}
use Rattle.shq_nnf.specs.Meeting.{meets_part, is_true}
use Rattle.shq_nnf.proofs.Truth.{normal_truth, negated_truth}
use Rattle.role_box.specs.Fact.{Fact}
use Rattle.role_box.specs.Fact.TheVariants.{Has, Apart, Same}
use Rattle.role_box.specs.Joins.{rep}
use Rattle.role_box.specs.State.{has_tree, has_edge, are_apart, all_apart}
use Rattle.role_box.specs.Line.{Line}
use Rattle.role_box.specs.Line.Line.{start_line, and_line, or_line, all_line, carry_line, row_line, range_line}
use Rattle.role_box.specs.Line.Line.{some_line, least_line, choose_line, pair_line, bottom_line, clash_line}
use Rattle.role_box.specs.Line.Line.{most_line, fact_line, differ_line}
use Rattle.role_box.specs.Rules.{Question, Known, nothing_known, knows, knows_some_from, with_facts, with_nodes}
use Rattle.role_box.specs.Rules.{when, at_concept, and_children, or_children, all_children, carry_children}
use Rattle.role_box.specs.Rules.{row_children, range_children, some_children, least_children, choose_children}
use Rattle.role_box.specs.Rules.{clash_children, are_fillers, most_children, fact_children, differ_children}
use Rattle.role_box.specs.Rules.{started, start_children, children_of}
use Rattle.refutation_truth.proofs.Below.{all_at, all_from, picks}
use Rattle.refutation_truth.specs.Theory.{nodes_pass}
use Rattle.refutation_truth.proofs.Models.{found, all_with, is_on, still_pass, same_place, has_place, led, differ_place}
use Rattle.refutation_truth.proofs.Models.{apart_are_counted, Model, more_facts, agree}
use Rattle.refutation_truth.proofs.Fresh.{in_range, with_new}
use Rattle.refutation_truth.proofs.Rows.{row_holds}

-- an interpretation in which the tests of a theory are right and its parts are met
pub record MeetsTheory (i : Interpretation) (theory : Theory) : Type 0 where
  pub upward : (r s : ℕ) → theory.below r s ≡ true → (x y : ℕ) → x < i.size → y < i.size → i.in_role r x y ≡ true
      → i.in_role s x y ≡ true
  pub onward : (t : ℕ) → theory.is_transitive t ≡ true → (x y z : ℕ) → x < i.size → y < i.size → z < i.size
      → i.in_role t x y ≡ true → i.in_role t y z ≡ true → i.in_role t x z ≡ true
  pub met : (a p : ℕ) (q : Part) → part_at theory a p ≡ Some q → meets_part i q ≡ true

-- a fact of the first so many individuals alone, and true of them
pub record IsTrueOfNamed (i : Interpretation) (named : ℕ) (f : Fact Concept) : Type 0 where
  pub true_of : is_true i i.individual f ≡ true
  pub of_named : nodes_pass (λ a. ltb a named) f ≡ true

-- where a question begins: the node of an individual is the individual, and any other one is the element v
abbrev pub begun : Interpretation → ℕ → ℕ → ℕ → ℕ
begun i named v x = cond (ltb x named) (i.individual x) v

-- an interpretation that meets what a question rests on, with so many individuals among its first nodes, and in which
-- the element v is what it asks for
pub record MeetsQuestion (i : Interpretation) (named : ℕ) (q : Question) (v : ℕ) : Type 0 where
  pub theory_met : MeetsTheory i q.theory
  pub facts_met : (a p : ℕ) (f : Fact Concept) → q.fact_of a p ≡ Some f → IsTrueOfNamed i named f
  pub are_first : named ≤ q.first
  pub is_at : q.at < q.first → begun i named v q.at ≡ v
  pub in_sub : holds i q.sub v ≡ true
  pub not_in_sup : holds i q.sup v ≡ false

-- one of the branches has a model
abbrev pub OneHasModel : Interpretation → ℕ → List Known → Type 0
OneHasModel i named [] = ⊥
OneHasModel i named (k ∷ ks) = Model i named k ⊎ OneHasModel i named ks

-- where there are branches
abbrev pub OneHasModelIf : Interpretation → ℕ → Option (List Known) → Type 0
OneHasModelIf i named None = Unit {0}
OneHasModelIf i named (Some ks) = OneHasModel i named ks

when_one : (i : Interpretation) (named : ℕ) (b : Bool) (o : Option (List Known)) → (b ≡ true → OneHasModelIf i named o)
    → OneHasModelIf i named (when b o)
when_one i named true o h = h refl
when_one i named false o h = tt

module _ (i : Interpretation) (named : ℕ) (k : Known) (m : Model i named k) where
  abbrev at : ℕ → ℕ
  at x = m.place x

  at_concept_one : (x : ℕ) (o : Option Concept) (answer : Concept → Option (List Known))
      → ((c : Concept) → knows k x ≡ true → holds i c (at x) ≡ true → OneHasModelIf i named (answer c))
      → OneHasModelIf i named (at_concept k x o answer)
  at_concept_one x None answer h = tt
  at_concept_one x (Some c) answer h =
      when_one i named (knows k x && has_tree k.facts x c) (answer c)
      (λ e.
      let b = and_parts (knows k x) (has_tree k.facts x c) e in
      h c b.0 (has_place i m.place k.facts m.are_true x c b.1))

  -- one more concept of a known node
  one_fact : (x : ℕ) (c : Concept) → knows k x ≡ true → holds i c (at x) ≡ true
      → Model i named (with_facts k (Has x c ∷ []))
  one_fact x c known h =
      more_facts i named k m (Has x c ∷ []) (and_from (holds i c (at x)) true h refl)
      (and_from (knows k x) true known refl)

  -- ---- parts of a concept

  each_true : (x : ℕ) (cs : Parts) → hold_all i cs (at x) ≡ true
      → list_all (is_true i m.place) (map (Has x) (part_list cs)) ≡ true
  each_true x no_parts h = refl
  each_true x (part c cs) h =
      let b = and_parts (holds i c (at x)) (hold_all i cs (at x)) h in
      and_from (holds i c (at x)) (list_all (is_true i m.place) (map (Has x) (part_list cs))) b.0 (each_true x cs b.1)

  each_on : (x : ℕ) (cs : Parts) → knows k x ≡ true → list_all (is_on k.nodes) (map (Has x) (part_list cs)) ≡ true
  each_on x no_parts h = refl
  each_on x (part c cs) h =
      and_from (knows k x) (list_all (is_on k.nodes) (map (Has x) (part_list cs))) h (each_on x cs h)

  and_one : (x : ℕ) (c : Concept) → knows k x ≡ true → holds i c (at x) ≡ true
      → OneHasModelIf i named (and_children k x c)
  and_one x (intersection cs) known h =
      inl (more_facts i named k m (map (Has x) (part_list cs)) (each_true x cs h) (each_on x cs known))
  and_one x _ known h = tt

  any_model : (x : ℕ) (cs : Parts) → knows k x ≡ true → hold_any i cs (at x) ≡ true
      → OneHasModel i named (map (λ d. with_facts k (Has x d ∷ [])) (part_list cs))
  any_model x no_parts known h = cc
  any_model x (part c cs) known h = elim (or_cases (holds i c (at x)) (hold_any i cs (at x)) h)
      [ inl here ↦ inl (one_fact x c known here) | inr later ↦ inr (any_model x cs known later) ]

  or_one : (x : ℕ) (c : Concept) → knows k x ≡ true → holds i c (at x) ≡ true
      → OneHasModelIf i named (or_children k x c)
  or_one x (union cs) known h = any_model x cs known h
  or_one x _ known h = tt

  -- ---- new nodes

  fresh_one : (x s : ℕ) (e : Concept) (first n : ℕ) → knows k x ≡ true
      → ((z : ℕ) → knows k z ≡ true → first ≤ z → z < first + n → ⊥)
      → n ≤ count_below i.size (λ v. i.in_role s (at x) v && holds i e v) → Model i named (with_nodes k x s e first n)
  fresh_one x s e first n known fresh le =
      with_new i named k m x s e first n known fresh (picks i.size (λ v. i.in_role s (at x) v && holds i e v) n le)

  some_one : (x y : ℕ) (c : Concept) → knows k x ≡ true → holds i c (at x) ≡ true
      → OneHasModelIf i named (some_children k x y c)
  some_one x y (some_of s e) known h = when_one i named (not (knows k y)) (Some (with_nodes k x s e y 1 ∷ []))
      (λ g.
      let unknown = not-true (knows k y) g in
      let fresh : (z : ℕ) → knows k z ≡ true → y ≤ z → z < y + 1 → ⊥ =
      λ z is le lt. let same : y ≡ z = omega arith in let f = subst (λ (w : ℕ). knows k w ≡ false) same unknown in cc in
      inl
      (fresh_one x s e y 1 known fresh (leb-true 1 (count_below i.size (λ v. i.in_role s (at x) v && holds i e v)) h)))
  some_one x y _ known h = tt

  none_in : (y n : ℕ) (nodes : List ℕ) → list_any (λ z. leb y z && ltb z (y + n)) nodes ≡ false → (z : ℕ)
      → list_any (λ w. eqb w z) nodes ≡ true → y ≤ z → z < y + n → ⊥
  none_in y n [] h z is le lt = cc
  none_in y n (w ∷ nodes) h z is le lt = elim (or_cases (eqb w z) (list_any (λ v. eqb v z) nodes) is) [
    | inl here ↦
        let e = eqb-true w z here in
        let hit : (leb y w && ltb w (y + n)) ≡ true =
        and_from (leb y w) (ltb w (y + n)) (le-leb y w (omega arith)) (lt-ltb w (y + n) (omega arith)) in
        let some : list_any (λ v. leb y v && ltb v (y + n)) (w ∷ nodes) ≡ true =
        ap (λ (b : Bool). b || list_any (λ v. leb y v && ltb v (y + n)) nodes) hit in
        cc
    | inr later ↦
        none_in y n nodes (or_false (leb y w && ltb w (y + n)) (list_any (λ v. leb y v && ltb v (y + n)) nodes) h) z
        later le lt
  ]
    where
      or_false : (a b : Bool) → (a || b) ≡ false → b ≡ false
      or_false true b g = cc
      or_false false b g = g

  least_one : (x y : ℕ) (c : Concept) → knows k x ≡ true → holds i c (at x) ≡ true
      → OneHasModelIf i named (least_children k x y c)
  least_one x y (at_least n s e) known h =
      when_one i named (leb (y + n) (2 ^ 32) && not (knows_some_from k y n)) (Some (with_nodes k x s e y n ∷ []))
      (λ g.
      let b = and_parts (leb (y + n) (2 ^ 32)) (not (knows_some_from k y n)) g in
      inl (fresh_one x s e y n known (none_in y n k.nodes (not-true (knows_some_from k y n) b.1))
      (leb-true n (count_below i.size (λ v. i.in_role s (at x) v && holds i e v)) h)))
  least_one x y _ known h = tt

  -- ---- choices

  choose_one : (y : ℕ) (o : Option Concept) → OneHasModelIf i named (choose_children k y o)
  choose_one y None = tt
  choose_one y (Some c) =
      when_one i named (knows k y)
      (Some (with_facts k (Has y c ∷ []) ∷ with_facts k (Has y (negated_form c) ∷ []) ∷ []))
      (λ known. elim (cases_Bool (holds i c (at y))) [
        | inl is ↦ inl (one_fact y c known is)
        | inr isnt ↦ inr (inl (one_fact y (negated_form c) known (negated_truth i c (at y) ∙ ap not isnt)))
      ])

  pair_one : (y z : ℕ)
      → OneHasModelIf i named
      (when (knows k y && knows k z) (Some (with_facts k (Same y z ∷ []) ∷ with_facts k (Apart y z ∷ []) ∷ [])))
  pair_one y z =
      when_one i named (knows k y && knows k z)
      (Some (with_facts k (Same y z ∷ []) ∷ with_facts k (Apart y z ∷ []) ∷ []))
      (λ known. elim (cases_Bool (eqb (at y) (at z))) [
        | inl is ↦
            inl (more_facts i named k m (Same y z ∷ []) (and_from (eqb (at y) (at z)) true is refl)
            (and_from (knows k y && knows k z) true known refl))
        | inr isnt ↦
            inr (inl (more_facts i named k m (Apart y z ∷ [])
            (and_from (not (eqb (at y) (at z))) true (ap not isnt) refl)
            (and_from (knows k y && knows k z) true known refl)))
      ])

  -- ---- clashes

  bottom_one : (x : ℕ) → OneHasModelIf i named (when (knows k x && has_tree k.facts x bottom) (Some []))
  bottom_one x = when_one i named (knows k x && has_tree k.facts x bottom) (Some [])
      (λ e.
      let h : false ≡ true =
      has_place i m.place k.facts m.are_true x bottom (and_parts (knows k x) (has_tree k.facts x bottom) e).1 in
      cc)

  -- nodes that are apart stand for different elements
  differ_one : (y z : ℕ) → OneHasModelIf i named (differ_children k y z)
  differ_one y z =
      when_one i named (knows k y && knows k z && are_apart k.facts y z && eqb (rep k.facts y) (rep k.facts z))
      (Some []) (λ e.
      let b = and_parts (knows k y && knows k z && are_apart k.facts y z) (eqb (rep k.facts y) (rep k.facts z)) e in
      let a = and_parts (knows k y && knows k z) (are_apart k.facts y z) b.0 in
      absurd (differ_place i m.place k.facts m.are_true y z a.1 (same_place i m.place k.facts m.are_true y z b.1)))

  clash_one : (x : ℕ) (c : Concept) → knows k x ≡ true → holds i c (at x) ≡ true
      → OneHasModelIf i named (clash_children k x c)
  clash_one x (name a) known h = when_one i named (has_tree k.facts x (complement (name a))) (Some [])
      (λ e.
      let g : not (i.in_class a (at x)) ≡ true = has_place i m.place k.facts m.are_true x (complement (name a)) e in
      let f = not-true (i.in_class a (at x)) g in cc)
  clash_one x _ known h = tt

  -- ---- facts of axioms

  -- a fact of individuals that is true of them is true at their nodes
  given_one : (o : Option (Fact Concept)) → ((f : Fact Concept) → o ≡ Some f → IsTrueOfNamed i named f)
      → OneHasModelIf i named (fact_children k o)
  given_one None met = tt
  given_one (Some f) met = when_one i named (knows k 0) (Some (with_facts k (f ∷ []) ∷ [])) (λ known.
      let is = met f refl in
      let holds_there =
      agree i (λ a. ltb a named) i.individual m.place (λ a lt. m.stands a (ltb-true a named lt)) f is.true_of
      is.of_named in
      let stands_on =
      still_pass (λ a. ltb a named) (knows k) (λ a lt. m.known 0 known a (ltb-true a named lt)) f is.of_named in
      inl (more_facts i named k m (f ∷ []) (and_from (is_true i m.place f) true holds_there refl)
      (and_from (is_on k.nodes f) true stands_on refl)))

  -- ---- roles and parts of the theory

  module _ (theory : Theory) (t : MeetsTheory i theory) where
    -- an edge below s is a pair of s
    pair_of : (s x y : ℕ) → has_edge k.facts (λ r. theory.below r s) x y ≡ true → i.in_role s (at x) (at y) ≡ true
    pair_of s x y h =
        let l = led i m.place k.facts m.are_true (λ r. theory.below r s) x y h in
        t.upward l.role s l.is_one (at x) (at y) (m.within x) (m.within y) l.leads

    each_at : (s x : ℕ) (p : ℕ → Bool) (v : ℕ) → each_successor i s p (at x) ≡ true → v < i.size
        → i.in_role s (at x) v ≡ true → p v ≡ true
    each_at s x p v h lt e =
        implied (i.in_role s (at x) v) (p v) (all_at i.size (λ w. implies (i.in_role s (at x) w) (p w)) v h lt) e

    all_one : (x y : ℕ) (c : Concept) → knows k x ≡ true → holds i c (at x) ≡ true
        → OneHasModelIf i named (all_children theory k x y c)
    all_one x y (all_of s e) known h =
        when_one i named (knows k y && has_edge k.facts (λ r. theory.below r s) x y)
        (Some (with_facts k (Has y e ∷ []) ∷ []))
        (λ g.
        let b = and_parts (knows k y) (has_edge k.facts (λ r. theory.below r s) x y) g in
        inl (one_fact y e b.0 (each_at s x (holds i e) (at y) h (m.within y) (pair_of s x y b.1))))
    all_one x y _ known h = tt

    carry_one : (x y r : ℕ) (c : Concept) → knows k x ≡ true → holds i c (at x) ≡ true
        → OneHasModelIf i named (carry_children theory k x y r c)
    carry_one x y r (all_of s e) known h =
        when_one i named
        (theory.is_transitive r && theory.below r s && knows k y && has_edge k.facts (λ q. theory.below q r) x y)
        (Some (with_facts k (Has y (all_of r e) ∷ []) ∷ []))
        (λ g.
        let b =
        and_parts (theory.is_transitive r && theory.below r s && knows k y)
        (has_edge k.facts (λ q. theory.below q r) x y) g in
        let d = and_parts (theory.is_transitive r && theory.below r s) (knows k y) b.0 in
        let f = and_parts (theory.is_transitive r) (theory.below r s) d.0 in
        let each : each_successor i r (holds i e) (at y) ≡ true =
        all_from i.size (λ v. implies (i.in_role r (at y) v) (holds i e v))
        (λ v lt. implies_from (i.in_role r (at y) v) (holds i e v)
        (λ on.
        let far = t.onward r f.0 (at x) (at y) v (m.within x) (m.within y) lt (pair_of r x y b.1) on in
        each_at s x (holds i e) v h lt (t.upward r s f.1 (at x) v (m.within x) lt far))) in
        inl (one_fact y (all_of r e) d.1 each))
    carry_one x y r _ known h = tt

    range_one : (x y : ℕ) (o : Option Part) → ((q : Part) → o ≡ Some q → meets_part i q ≡ true)
        → OneHasModelIf i named (range_children theory k x y o)
    range_one x y (Some (range s d)) met =
        when_one i named (knows k x && knows k y && has_edge k.facts (λ r. theory.below r s) x y)
        (Some (with_facts k (Has y d ∷ []) ∷ []))
        (λ g.
        let b = and_parts (knows k x && knows k y) (has_edge k.facts (λ r. theory.below r s) x y) g in
        let known = and_parts (knows k x) (knows k y) b.0 in
        let each : each_successor i s (holds i d) (at x) ≡ true =
        all_at i.size (λ v. all_below i.size (λ w. implies (i.in_role s v w) (holds i d w))) (at x)
        (met (range s d) refl) (m.within x) in
        inl (one_fact y d known.1 (each_at s x (holds i d) (at y) each (m.within y) (pair_of s x y b.1))))
    range_one x y (Some (inclusion cs d)) met = tt
    range_one x y None met = tt

    most_one : (x : ℕ) (ys : List ℕ) (c : Concept) → knows k x ≡ true → holds i c (at x) ≡ true
        → OneHasModelIf i named (most_children theory k x ys c)
    most_one x ys (at_most n s e) known h =
        when_one i named (eqb (length ys) (n + 1) && are_fillers theory k x s e ys && all_apart k.facts ys) (Some [])
        (λ g.
        let b = and_parts (eqb (length ys) (n + 1) && are_fillers theory k x s e ys) (all_apart k.facts ys) g in
        let d = and_parts (eqb (length ys) (n + 1)) (are_fillers theory k x s e ys) b.0 in
        let filler : ℕ → Bool =
        λ y. knows k y && has_edge k.facts (λ r. theory.below r s) x y && has_tree k.facts y e in
        let counts : ℕ → Bool = λ v. i.in_role s (at x) v && holds i e v in
        let pass = all_with filler filler (λ y. ltb (at y) i.size && counts (at y))
        (λ y f same.
        let a = and_parts (knows k y && has_edge k.facts (λ r. theory.below r s) x y) (has_tree k.facts y e) f in
        let w = and_parts (knows k y) (has_edge k.facts (λ r. theory.below r s) x y) a.0 in
        and_from (ltb (at y) i.size) (counts (at y)) (lt-ltb (at y) i.size (m.within y))
        (and_from (i.in_role s (at x) (at y)) (holds i e (at y)) (pair_of s x y w.1)
        (has_place i m.place k.facts m.are_true y e a.1)))
        ys d.1 d.1 in
        let many = apart_are_counted i m.place k.facts m.are_true i.size ys counts pass b.1 in
        let few = leb-true (count_below i.size counts) n h in
        let long = eqb-true (length ys) (n + 1) d.0 in
        absurd (omega (arith, many, few, long)))
    most_one x ys _ known h = tt

  row_one : (x : ℕ) (positions : List ℕ) (o : Option Part) → ((q : Part) → o ≡ Some q → meets_part i q ≡ true)
      → OneHasModelIf i named (row_children k x positions o)
  row_one x positions (Some (inclusion cs d)) met =
      when_one i named
      (are_name_positions cs positions && knows k x && list_all (λ n. has_tree k.facts x (conjunct_at cs n)) positions)
      (Some (with_facts k (Has x (row_concept cs d positions) ∷ []) ∷ []))
      (λ g.
      let b =
      and_parts (are_name_positions cs positions && knows k x)
      (list_all (λ n. has_tree k.facts x (conjunct_at cs n)) positions) g in
      let known = (and_parts (are_name_positions cs positions) (knows k x) b.0).1 in
      let given : (j : ℕ) → j < length cs → is_among positions (1 + j) ≡ true
      → holds i (get_or cs j top) (at x) ≡ true =
      λ j lt among.
      let f = found (λ n. eqb n (1 + j)) (λ n. has_tree k.facts x (conjunct_at cs n)) positions among b.1 in
      let e : f.it ≡ suc j = omega (arith, eqb-true f.it (1 + j) f.first) in
      has_place i m.place k.facts m.are_true x (conjunct_at cs (suc j))
      (subst (λ (n : ℕ). has_tree k.facts x (conjunct_at cs n) ≡ true) e f.second) in
      let right : list_all (λ c. holds i c (at x)) cs ≡ true → holds i d (at x) ≡ true =
      λ all. implied (list_all (λ c. holds i c (at x)) cs) (holds i d (at x))
      (all_at i.size (λ v. implies (list_all (λ c. holds i c v) cs) (holds i d v)) (at x) (met (inclusion cs d) refl)
      (m.within x))
      all in
      inl (one_fact x (row_concept cs d positions) known (row_holds i (at x) d positions cs given right)))
  row_one x positions (Some (range s d)) met = tt
  row_one x positions None met = tt

-- ---- any line

module _ (i : Interpretation) (placed : PlacesIndividuals i) (named : ℕ) (q : Question) (concept : ℕ → Option Concept)
    (v : ℕ) (v-in : v < i.size) (t : MeetsQuestion i named q v) where
  begun-in : (x : ℕ) → begun i named v x < i.size
  begun-in x = by (ltb x named)
    where
      by : (b : Bool) → cond b (i.individual x) v < i.size
      by true = placed x
      by false = v-in

  begun-named : (a : ℕ) → a < named → begun i named v a ≡ i.individual a
  begun-named a lt = ap (λ (b : Bool). cond b (i.individual a) v) (lt-ltb a named lt)

  -- where nothing is known
  pub blank : Model i named nothing_known
  blank = record {
    place = begun i named v;
    within = begun-in;
    are_true = refl;
    are_on = refl;
    stands = begun-named;
    known = λ x h. absurd (true≢false (sym h));
  }

  -- the node in question stands for the element that is in `sub` and not in `sup`
  start_model : q.at < q.first → Model i named (started q)
  start_model lt =
      let is : begun i named v q.at ≡ v = t.is_at lt in
      let in_it : holds i (normal_form q.sub) (begun i named v q.at) ≡ true =
      ap (holds i (normal_form q.sub)) is ∙ normal_truth i q.sub v ∙ t.in_sub in
      let out_of_it : holds i (negated_form q.sup) (begun i named v q.at) ≡ true =
      ap (holds i (negated_form q.sup)) is ∙ negated_truth i q.sup v ∙ ap not t.not_in_sup in
      let first_node : (x : ℕ) → x < q.first → list_any (λ y. eqb y x) (range_with_len 0 q.first) ≡ true =
      λ x less. in_range x q.first 0 (omega arith) (omega (arith, less)) in
      let at_is_on = first_node q.at lt in
      record {
        place = begun i named v;
        within = begun-in;
        are_true =
            and_from (holds i (normal_form q.sub) (begun i named v q.at))
            (holds i (negated_form q.sup) (begun i named v q.at) && true) in_it
            (and_from (holds i (negated_form q.sup) (begun i named v q.at)) true out_of_it refl);
        are_on =
            and_from (list_any (λ y. eqb y q.at) (range_with_len 0 q.first))
            (list_any (λ y. eqb y q.at) (range_with_len 0 q.first) && true) at_is_on
            (and_from (list_any (λ y. eqb y q.at) (range_with_len 0 q.first)) true at_is_on refl);
        stands = begun-named;
        known = λ x h a less. first_node a (omega (arith, less, t.are_first));
      }

  start_one : (nodes : List ℕ) → OneHasModelIf i named (start_children q nodes)
  start_one [] =
      when_one i named (ltb q.at q.first) (Some (started q ∷ [])) (λ e. inl (start_model (ltb-true q.at q.first e)))
  start_one (x ∷ xs) = tt

  pub line_one : (k : Known) (m : Model i named k) (line : Line) → OneHasModelIf i named (children_of q concept k line)
  line_one k m start_line = start_one k.nodes
  line_one k m (and_line x c) = at_concept_one i named k m x (concept c) (and_children k x) (and_one i named k m x)
  line_one k m (or_line x c) = at_concept_one i named k m x (concept c) (or_children k x) (or_one i named k m x)
  line_one k m (all_line x y c) =
      at_concept_one i named k m x (concept c) (all_children q.theory k x y)
      (all_one i named k m q.theory t.theory_met x y)
  line_one k m (carry_line x y r c) =
      at_concept_one i named k m x (concept c) (carry_children q.theory k x y r)
      (carry_one i named k m q.theory t.theory_met x y r)
  line_one k m (row_line x a p positions) =
      row_one i named k m x positions (part_at q.theory a p) (t.theory_met.met a p)
  line_one k m (range_line x y a) =
      range_one i named k m q.theory t.theory_met x y (part_at q.theory a 1) (t.theory_met.met a 1)
  line_one k m (some_line x y c) =
      at_concept_one i named k m x (concept c) (some_children k x y) (some_one i named k m x y)
  line_one k m (least_line x y c) =
      at_concept_one i named k m x (concept c) (least_children k x y) (least_one i named k m x y)
  line_one k m (choose_line y c) = choose_one i named k m y (concept c)
  line_one k m (pair_line y z) = pair_one i named k m y z
  line_one k m (bottom_line x) = bottom_one i named k m x
  line_one k m (clash_line x c) =
      at_concept_one i named k m x (concept c) (clash_children k x) (clash_one i named k m x)
  line_one k m (most_line x c ys) =
      at_concept_one i named k m x (concept c) (most_children q.theory k x ys)
      (most_one i named k m q.theory t.theory_met x ys)
  line_one k m (fact_line a p) = given_one i named k m (q.fact_of a p) (t.facts_met a p)
  line_one k m (differ_line y z) = differ_one i named k m y z

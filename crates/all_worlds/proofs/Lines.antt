-- A line whose premises hold in a branch that has a model in a world does not leave each child without one.
use Rattle.std.proofs.Common.{◌≡◌, ℕ, suc, ◌+◌, ◌<◌, ◌≤◌, ◌^◌, ◌&&◌, ◌||◌, Bool, true, false, not, cond, eqb, leb}
use Rattle.std.proofs.Common.{ltb, List, [], ◌∷◌, map, length, get_or, Option, Some, None, refl, ap, sym, ◌∙◌, subst}
use Rattle.std.proofs.Common.{arith, inl, inr}
use Rattle.std.specs.Prelude.{All, ⊤}
use Rattle.std.specs.List.{list_any, list_all, range_with_len}
use Rattle.std.proofs.lemmas.Bool.{and_parts, and_from, or_cases, eqb-true, ltb-true, le-leb, lt-ltb, not-true}
use Rattle.std.proofs.lemmas.Bool.{true≢false}
use Rattle.std.proofs.lemmas.List.{length-map}
use Rattle.std.proofs.lemmas.List.Elements.{All-nil, All-cons, All-map}
use Rattle.shq_nnf.specs.Concept.{Concept, top, bottom, name, complement, intersection, union, some_of, all_of}
use Rattle.shq_nnf.specs.Concept.{at_least, at_most, Parts, no_parts, part, part_list}
use Rattle.role_box.specs.Normal.{normal_form, negated_form}
use Rattle.role_box.specs.TheoryRows.{Part, Theory, part_at, is_among, conjunct_at, are_name_positions, row_concept}
use Rattle.role_box.specs.TheoryRows.Part.{inclusion, range}
use Rattle.role_box.specs.Fact.{Fact}
use Rattle.role_box.specs.Fact.TheVariants.{Has, Apart, Same}
use Rattle.role_box.specs.Joins.{rep}
use Rattle.role_box.specs.State.{has_tree, has_edge, are_apart, all_apart}
use Rattle.role_box.specs.Line.{Line}
use Rattle.role_box.specs.Line.Line.{start_line, and_line, or_line, all_line, carry_line, row_line, range_line}
use Rattle.role_box.specs.Line.Line.{some_line, least_line, choose_line, pair_line, bottom_line, clash_line}
use Rattle.role_box.specs.Line.Line.{most_line, fact_line, differ_line}
use Rattle.role_box.specs.Rules.{Question, Known, nothing_known, knows, knows_some_from, with_facts, with_nodes}
use Rattle.role_box.specs.Rules.{when, at_concept, and_children, or_children, all_children, carry_children}
use Rattle.role_box.specs.Rules.{row_children, range_children, some_children, least_children, choose_children}
use Rattle.role_box.specs.Rules.{clash_children, are_fillers, most_children, fact_children, differ_children}
use Rattle.role_box.specs.Rules.{started, start_children, children_of}
use Rattle.refutation_truth.specs.Theory.{nodes_pass}
use Rattle.refutation_truth.proofs.Models.{is_on, still_pass}
use Rattle.refutation_truth.proofs.Fresh.{in_range}
use Rattle.all_worlds.specs.Worlds.{World, IsSuccessor, IsIn, IsInAll, IsInNone}
use Rattle.all_worlds.proofs.Normal.{normal_in, negated_in}
use Rattle.all_worlds.proofs.Lists.{found, each_has}
use Rattle.all_worlds.proofs.Models.{IsTrueAt, same_place, has_place, led, differ_place}
use Rattle.all_worlds.proofs.Models.{apart_are_distinct, Model, more_facts, agree}
use Rattle.all_worlds.proofs.Meeting.{MeetsPart}
use Rattle.all_worlds.proofs.Fresh.{with_new}
use Rattle.all_worlds.proofs.Rows.{row_in}

-- a world in which the tests of a theory are right and its parts are met
pub record MeetsTheory {d : Type 0} (w : World d) (theory : Theory) : Type 0 where
  pub upward : (r s : ℕ) → theory.below r s ≡ true → (x y : d) → w.in_role r x y ≡ true → w.in_role s x y ≡ true
  pub onward : (t : ℕ) → theory.is_transitive t ≡ true → (x y z : d) → w.in_role t x y ≡ true → w.in_role t y z ≡ true
      → w.in_role t x z ≡ true
  pub met : (a p : ℕ) (q : Part) → part_at theory a p ≡ Some q → MeetsPart w q

-- a fact of the first so many individuals alone, and not false of them
pub record IsTrueOfNamed {d : Type 0} (w : World d) (named : ℕ) (f : Fact Concept) : Type 0 where
  pub true_of : ¬ ¬ IsTrueAt w w.individual f
  pub of_named : nodes_pass (λ a. ltb a named) f ≡ true

-- where a question begins: the node of an individual is the individual, and any other one is the member v
abbrev pub begun : {d : Type 0} → World d → ℕ → d → ℕ → d
begun w named v x = cond (ltb x named) (w.individual x) v

-- a world that meets what a question rests on, with so many individuals among its first nodes, and in which the member
-- v is what it asks for
pub record MeetsQuestion {d : Type 0} (w : World d) (named : ℕ) (q : Question) (v : d) : Type 0 where
  pub theory_met : MeetsTheory w q.theory
  pub facts_met : (a p : ℕ) (f : Fact Concept) → q.fact_of a p ≡ Some f → IsTrueOfNamed w named f
  pub are_first : named ≤ q.first
  pub is_at : q.at < q.first → begun w named v q.at ≡ v
  pub in_sub : IsIn w q.sub v
  pub not_in_sup : ¬ IsIn w q.sup v

-- none of the branches has a model
abbrev pub NoneHasModel : {d : Type 0} → World d → ℕ → List Known → Type 0
NoneHasModel w named [] = ⊤
NoneHasModel w named (k ∷ ks) = (¬ Model w named k) × NoneHasModel w named ks

-- where there are branches, not each is without one
abbrev pub OneHasModelIf : {d : Type 0} → World d → ℕ → Option (List Known) → Type 0
OneHasModelIf w named None = ⊤
OneHasModelIf w named (Some ks) = ¬ NoneHasModel w named ks

when_one : {d : Type 0} (w : World d) (named : ℕ) (b : Bool) (o : Option (List Known))
    → (b ≡ true → OneHasModelIf w named o) → OneHasModelIf w named (when b o)
when_one w named true o h = h refl
when_one w named false o h = tt

module _ {d : Type 0} (w : World d) (named : ℕ) (k : Known) (m : Model w named k) where
  abbrev at : ℕ → d
  at x = m.place x

  at_concept_one : (x : ℕ) (o : Option Concept) (answer : Concept → Option (List Known))
      → ((c : Concept) → knows k x ≡ true → IsIn w c (at x) → OneHasModelIf w named (answer c))
      → OneHasModelIf w named (at_concept k x o answer)
  at_concept_one x None answer h = tt
  at_concept_one x (Some c) answer h =
      when_one w named (knows k x && has_tree k.facts x c) (answer c)
      (λ e.
      let b = and_parts (knows k x) (has_tree k.facts x c) e in
      h c b.0 (has_place w m.place k.facts m.are_true x c b.1))

  -- one more fact of known nodes
  one_fact : (f : Fact Concept) → is_on k.nodes f ≡ true → IsTrueAt w m.place f → Model w named (with_facts k (f ∷ []))
  one_fact f on h =
      more_facts w named k m (f ∷ []) (All-cons (IsTrueAt w m.place) f [] h (All-nil (IsTrueAt w m.place)))
      (All-cons (λ g. is_on k.nodes g ≡ true) f [] on (All-nil (λ g. is_on k.nodes g ≡ true)))

  -- ---- parts of a concept

  each_true : (x : ℕ) (cs : Parts) → IsInAll w cs (at x) → All (IsTrueAt w m.place) (map (Has x) (part_list cs))
  each_true x no_parts h = All-nil (IsTrueAt w m.place)
  each_true x (part c cs) h =
      All-cons (IsTrueAt w m.place) (Has x c) (map (Has x) (part_list cs)) h.0 (each_true x cs h.1)

  each_on : (x : ℕ) (cs : Parts) → knows k x ≡ true
      → All (λ f. is_on k.nodes f ≡ true) (map (Has x) (part_list cs))
  each_on x no_parts h = All-nil (λ f. is_on k.nodes f ≡ true)
  each_on x (part c cs) h =
      All-cons (λ f. is_on k.nodes f ≡ true) (Has x c) (map (Has x) (part_list cs)) h (each_on x cs h)

  and_one : (x : ℕ) (c : Concept) → knows k x ≡ true → IsIn w c (at x) → OneHasModelIf w named (and_children k x c)
  and_one x (intersection cs) known h =
      λ none. none.0 (more_facts w named k m (map (Has x) (part_list cs)) (each_true x cs h) (each_on x cs known))
  and_one x _ known h = tt

  none_inside : (x : ℕ) (cs : Parts) → knows k x ≡ true
      → NoneHasModel w named (map (λ c. with_facts k (Has x c ∷ [])) (part_list cs)) → IsInNone w cs (at x)
  none_inside x no_parts known none = tt
  none_inside x (part c cs) known none =
      (λ i. none.0 (one_fact (Has x c) known i), none_inside x cs known none.1)

  or_one : (x : ℕ) (c : Concept) → knows k x ≡ true → IsIn w c (at x) → OneHasModelIf w named (or_children k x c)
  or_one x (union cs) known h = λ none. h (none_inside x cs known none)
  or_one x _ known h = tt

  -- ---- new nodes

  some_one : (x y : ℕ) (c : Concept) → knows k x ≡ true → IsIn w c (at x)
      → OneHasModelIf w named (some_children k x y c)
  some_one x y (some_of s e) known h = when_one w named (not (knows k y)) (Some (with_nodes k x s e y 1 ∷ []))
      (λ g.
      let unknown = not-true (knows k y) g in
      let fresh : (z : ℕ) → knows k z ≡ true → y ≤ z → z < y + 1 → ⊥ =
      λ z is le lt. let same : y ≡ z = omega arith in let f = subst (λ (u : ℕ). knows k u ≡ false) same unknown in cc in
      λ none.
      h
      (λ v edge inside.
      none.0
      (with_new w named k m x s e y 1 known fresh (v ∷ [])
      (record {
        count = refl;
        distinct = λ i j d before within. absurd (omega arith);
        each =
            All-cons (IsSuccessor w s (at x) (IsIn w e)) v [] (edge, inside)
            (All-nil (IsSuccessor w s (at x) (IsIn w e)));
      }))))
  some_one x y _ known h = tt

  none_in : (y n : ℕ) (nodes : List ℕ) → list_any (λ z. leb y z && ltb z (y + n)) nodes ≡ false → (z : ℕ)
      → list_any (λ u. eqb u z) nodes ≡ true → y ≤ z → z < y + n → ⊥
  none_in y n [] h z is le lt = cc
  none_in y n (u ∷ nodes) h z is le lt = elim (or_cases (eqb u z) (list_any (λ v. eqb v z) nodes) is) [
    | inl here ↦
        let e = eqb-true u z here in
        let hit : (leb y u && ltb u (y + n)) ≡ true =
        and_from (leb y u) (ltb u (y + n)) (le-leb y u (omega arith)) (lt-ltb u (y + n) (omega arith)) in
        let some : list_any (λ v. leb y v && ltb v (y + n)) (u ∷ nodes) ≡ true =
        ap (λ (b : Bool). b || list_any (λ v. leb y v && ltb v (y + n)) nodes) hit in
        cc
    | inr later ↦
        none_in y n nodes (or_false (leb y u && ltb u (y + n)) (list_any (λ v. leb y v && ltb v (y + n)) nodes) h) z
        later le lt
  ]
    where
      or_false : (a b : Bool) → (a || b) ≡ false → b ≡ false
      or_false true b g = cc
      or_false false b g = g

  least_one : (x y : ℕ) (c : Concept) → knows k x ≡ true → IsIn w c (at x)
      → OneHasModelIf w named (least_children k x y c)
  least_one x y (at_least n s e) known h =
      when_one w named (leb (y + n) (2 ^ 32) && not (knows_some_from k y n)) (Some (with_nodes k x s e y n ∷ []))
      (λ g.
      let b = and_parts (leb (y + n) (2 ^ 32)) (not (knows_some_from k y n)) g in
      λ none.
      h
      (λ ys many.
      none.0
      (with_new w named k m x s e y n known (none_in y n k.nodes (not-true (knows_some_from k y n) b.1)) ys many)))
  least_one x y _ known h = tt

  -- ---- choices

  choose_one : (y : ℕ) (o : Option Concept) → OneHasModelIf w named (choose_children k y o)
  choose_one y None = tt
  choose_one y (Some c) =
      when_one w named (knows k y)
      (Some (with_facts k (Has y c ∷ []) ∷ with_facts k (Has y (negated_form c) ∷ []) ∷ []))
      (λ known none.
      none.1.0
      (one_fact (Has y (negated_form c)) known
      ((negated_in w c (at y)).1 (λ i. none.0 (one_fact (Has y c) known i)))))

  pair_one : (y z : ℕ)
      → OneHasModelIf w named
      (when (knows k y && knows k z) (Some (with_facts k (Same y z ∷ []) ∷ with_facts k (Apart y z ∷ []) ∷ [])))
  pair_one y z =
      when_one w named (knows k y && knows k z)
      (Some (with_facts k (Same y z ∷ []) ∷ with_facts k (Apart y z ∷ []) ∷ []))
      (λ known none. none.1.0 (one_fact (Apart y z) known (λ e. none.0 (one_fact (Same y z) known e))))

  -- ---- clashes

  bottom_one : (x : ℕ) → OneHasModelIf w named (when (knows k x && has_tree k.facts x bottom) (Some []))
  bottom_one x = when_one w named (knows k x && has_tree k.facts x bottom) (Some [])
      (λ e none.
      has_place w m.place k.facts m.are_true x bottom (and_parts (knows k x) (has_tree k.facts x bottom) e).1)

  -- nodes that are apart stand for different members
  differ_one : (y z : ℕ) → OneHasModelIf w named (differ_children k y z)
  differ_one y z =
      when_one w named (knows k y && knows k z && are_apart k.facts y z && eqb (rep k.facts y) (rep k.facts z))
      (Some []) (λ e none.
      let b = and_parts (knows k y && knows k z && are_apart k.facts y z) (eqb (rep k.facts y) (rep k.facts z)) e in
      let a = and_parts (knows k y && knows k z) (are_apart k.facts y z) b.0 in
      differ_place w m.place k.facts m.are_true y z a.1 (same_place w m.place k.facts m.are_true y z b.1))

  clash_one : (x : ℕ) (c : Concept) → knows k x ≡ true → IsIn w c (at x)
      → OneHasModelIf w named (clash_children k x c)
  clash_one x (name a) known h = when_one w named (has_tree k.facts x (complement (name a))) (Some [])
      (λ e none. has_place w m.place k.facts m.are_true x (complement (name a)) e h)
  clash_one x _ known h = tt

  -- ---- facts of axioms

  -- a fact of individuals that is true of them is true at their nodes
  given_one : (o : Option (Fact Concept)) → ((f : Fact Concept) → o ≡ Some f → IsTrueOfNamed w named f)
      → OneHasModelIf w named (fact_children k o)
  given_one None met = tt
  given_one (Some f) met = when_one w named (knows k 0) (Some (with_facts k (f ∷ []) ∷ [])) (λ known none.
      let is = met f refl in
      let stands_on =
      still_pass (λ a. ltb a named) (knows k) (λ a lt. m.known 0 known a (ltb-true a named lt)) f is.of_named in
      is.true_of
      (λ true_of.
      none.0
      (one_fact f stands_on
      (agree w (λ a. ltb a named) w.individual m.place (λ a lt. m.stands a (ltb-true a named lt)) f true_of
      is.of_named))))

  -- ---- roles and parts of the theory

  module _ (theory : Theory) (t : MeetsTheory w theory) where
    -- an edge below s is a pair of s
    pair_of : (s x y : ℕ) → has_edge k.facts (λ r. theory.below r s) x y ≡ true → w.in_role s (at x) (at y) ≡ true
    pair_of s x y h =
        let l = led w m.place k.facts m.are_true (λ r. theory.below r s) x y h in
        t.upward l.role s l.is_one (at x) (at y) l.leads

    all_one : (x y : ℕ) (c : Concept) → knows k x ≡ true → IsIn w c (at x)
        → OneHasModelIf w named (all_children theory k x y c)
    all_one x y (all_of s e) known h =
        when_one w named (knows k y && has_edge k.facts (λ r. theory.below r s) x y)
        (Some (with_facts k (Has y e ∷ []) ∷ []))
        (λ g none.
        let b = and_parts (knows k y) (has_edge k.facts (λ r. theory.below r s) x y) g in
        none.0 (one_fact (Has y e) b.0 (h (at y) (pair_of s x y b.1))))
    all_one x y _ known h = tt

    carry_one : (x y r : ℕ) (c : Concept) → knows k x ≡ true → IsIn w c (at x)
        → OneHasModelIf w named (carry_children theory k x y r c)
    carry_one x y r (all_of s e) known h =
        when_one w named
        (theory.is_transitive r && theory.below r s && knows k y && has_edge k.facts (λ q. theory.below q r) x y)
        (Some (with_facts k (Has y (all_of r e) ∷ []) ∷ []))
        (λ g none.
        let b =
        and_parts (theory.is_transitive r && theory.below r s && knows k y)
        (has_edge k.facts (λ q. theory.below q r) x y) g in
        let c = and_parts (theory.is_transitive r && theory.below r s) (knows k y) b.0 in
        let f = and_parts (theory.is_transitive r) (theory.below r s) c.0 in
        none.0
        (one_fact (Has y (all_of r e)) c.1
        (λ v on. h v (t.upward r s f.1 (at x) v (t.onward r f.0 (at x) (at y) v (pair_of r x y b.1) on)))))
    carry_one x y r _ known h = tt

    range_one : (x y : ℕ) (o : Option Part) → ((q : Part) → o ≡ Some q → MeetsPart w q)
        → OneHasModelIf w named (range_children theory k x y o)
    range_one x y (Some (range s e)) met =
        when_one w named (knows k x && knows k y && has_edge k.facts (λ r. theory.below r s) x y)
        (Some (with_facts k (Has y e ∷ []) ∷ []))
        (λ g none.
        let b = and_parts (knows k x && knows k y) (has_edge k.facts (λ r. theory.below r s) x y) g in
        let known = and_parts (knows k x) (knows k y) b.0 in
        none.0 (one_fact (Has y e) known.1 (met (range s e) refl (at x) (at y) (pair_of s x y b.1))))
    range_one x y (Some (inclusion cs e)) met = tt
    range_one x y None met = tt

    most_one : (x : ℕ) (ys : List ℕ) (c : Concept) → knows k x ≡ true → IsIn w c (at x)
        → OneHasModelIf w named (most_children theory k x ys c)
    most_one x ys (at_most n s e) known h =
        when_one w named (eqb (length ys) (n + 1) && are_fillers theory k x s e ys && all_apart k.facts ys) (Some [])
        (λ g none.
        let b = and_parts (eqb (length ys) (n + 1) && are_fillers theory k x s e ys) (all_apart k.facts ys) g in
        let c = and_parts (eqb (length ys) (n + 1)) (are_fillers theory k x s e ys) b.0 in
        let filler : ℕ → Bool =
        λ y. knows k y && has_edge k.facts (λ r. theory.below r s) x y && has_tree k.facts y e in
        let each = each_has filler (λ y. IsSuccessor w s (at x) (IsIn w e) (at y))
        (λ y f.
        let a = and_parts (knows k y && has_edge k.facts (λ r. theory.below r s) x y) (has_tree k.facts y e) f in
        let u = and_parts (knows k y) (has_edge k.facts (λ r. theory.below r s) x y) a.0 in
        (pair_of s x y u.1, has_place w m.place k.facts m.are_true y e a.1)) ys c.1 in
        h (map m.place ys)
        (record {
          count = length-map ys m.place ∙ eqb-true (length ys) (n + 1) c.0;
          distinct = apart_are_distinct w m.place k.facts m.are_true ys b.1;
          each = All-map (IsSuccessor w s (at x) (IsIn w e)) m.place ys each;
        }))
    most_one x ys _ known h = tt

  row_one : (x : ℕ) (positions : List ℕ) (o : Option Part) → ((q : Part) → o ≡ Some q → MeetsPart w q)
      → OneHasModelIf w named (row_children k x positions o)
  row_one x positions (Some (inclusion cs e)) met =
      when_one w named
      (are_name_positions cs positions && knows k x && list_all (λ n. has_tree k.facts x (conjunct_at cs n)) positions)
      (Some (with_facts k (Has x (row_concept cs e positions) ∷ []) ∷ []))
      (λ g none.
      let b =
      and_parts (are_name_positions cs positions && knows k x)
      (list_all (λ n. has_tree k.facts x (conjunct_at cs n)) positions) g in
      let known = (and_parts (are_name_positions cs positions) (knows k x) b.0).1 in
      let all = each_has (λ n. has_tree k.facts x (conjunct_at cs n)) (λ n. IsIn w (conjunct_at cs n) (at x))
      (λ n has. has_place w m.place k.facts m.are_true x (conjunct_at cs n) has) positions b.1 in
      let given : (j : ℕ) → j < length cs → is_among positions (1 + j) ≡ true → IsIn w (get_or cs j top) (at x) =
      λ j lt among.
      let f = found (λ n. eqb n (1 + j)) (λ n. IsIn w (conjunct_at cs n) (at x)) positions among all in
      let is : f.it ≡ suc j = omega (arith, eqb-true f.it (1 + j) f.passes) in
      subst (λ (n : ℕ). IsIn w (conjunct_at cs n) (at x)) is f.has in
      none.0
      (one_fact (Has x (row_concept cs e positions)) known
      (row_in w (at x) e positions cs given (met (inclusion cs e) refl (at x)))))
  row_one x positions (Some (range s e)) met = tt
  row_one x positions None met = tt

-- ---- any line

module _ {d : Type 0} (w : World d) (named : ℕ) (q : Question) (concept : ℕ → Option Concept) (v : d)
    (t : MeetsQuestion w named q v) where
  begun-named : (a : ℕ) → a < named → begun w named v a ≡ w.individual a
  begun-named a lt = ap (λ (b : Bool). cond b (w.individual a) v) (lt-ltb a named lt)

  -- where nothing is known
  pub blank : Model w named nothing_known
  blank = record {
    place = begun w named v;
    are_true = All-nil (IsTrueAt w (begun w named v));
    are_on = All-nil (λ f. is_on [] f ≡ true);
    stands = begun-named;
    known = λ x h. absurd (true≢false (sym h));
  }

  -- the node in question stands for the member that is in `sub` and not in `sup`
  start_model : q.at < q.first → Model w named (started q)
  start_model lt =
      let is : begun w named v q.at ≡ v = t.is_at lt in
      let in_it : IsIn w (normal_form q.sub) (begun w named v q.at) =
      subst (IsIn w (normal_form q.sub)) (sym is) ((normal_in w q.sub v).1 t.in_sub) in
      let out_of_it : IsIn w (negated_form q.sup) (begun w named v q.at) =
      subst (IsIn w (negated_form q.sup)) (sym is) ((negated_in w q.sup v).1 t.not_in_sup) in
      let first_node : (x : ℕ) → x < q.first → list_any (λ y. eqb y x) (range_with_len 0 q.first) ≡ true =
      λ x less. in_range x q.first 0 (omega arith) (omega (arith, less)) in
      let at_is_on = first_node q.at lt in
      let True : Fact Concept → Type 0 = IsTrueAt w (begun w named v) in
      let On : Fact Concept → Type 0 = λ f. is_on (range_with_len 0 q.first) f ≡ true in
      let sub : Fact Concept = Has q.at (normal_form q.sub) in
      let sup : Fact Concept = Has q.at (negated_form q.sup) in
      record {
        place = begun w named v;
        are_true = All-cons True sub (sup ∷ []) in_it (All-cons True sup [] out_of_it (All-nil True));
        are_on = All-cons On sub (sup ∷ []) at_is_on (All-cons On sup [] at_is_on (All-nil On));
        stands = begun-named;
        known = λ x h a less. first_node a (omega (arith, less, t.are_first));
      }

  start_one : (nodes : List ℕ) → OneHasModelIf w named (start_children q nodes)
  start_one [] =
      when_one w named (ltb q.at q.first) (Some (started q ∷ []))
      (λ e none. none.0 (start_model (ltb-true q.at q.first e)))
  start_one (x ∷ xs) = tt

  pub line_one : (k : Known) (m : Model w named k) (line : Line) → OneHasModelIf w named (children_of q concept k line)
  line_one k m start_line = start_one k.nodes
  line_one k m (and_line x c) = at_concept_one w named k m x (concept c) (and_children k x) (and_one w named k m x)
  line_one k m (or_line x c) = at_concept_one w named k m x (concept c) (or_children k x) (or_one w named k m x)
  line_one k m (all_line x y c) =
      at_concept_one w named k m x (concept c) (all_children q.theory k x y)
      (all_one w named k m q.theory t.theory_met x y)
  line_one k m (carry_line x y r c) =
      at_concept_one w named k m x (concept c) (carry_children q.theory k x y r)
      (carry_one w named k m q.theory t.theory_met x y r)
  line_one k m (row_line x a p positions) =
      row_one w named k m x positions (part_at q.theory a p) (t.theory_met.met a p)
  line_one k m (range_line x y a) =
      range_one w named k m q.theory t.theory_met x y (part_at q.theory a 1) (t.theory_met.met a 1)
  line_one k m (some_line x y c) =
      at_concept_one w named k m x (concept c) (some_children k x y) (some_one w named k m x y)
  line_one k m (least_line x y c) =
      at_concept_one w named k m x (concept c) (least_children k x y) (least_one w named k m x y)
  line_one k m (choose_line y c) = choose_one w named k m y (concept c)
  line_one k m (pair_line y z) = pair_one w named k m y z
  line_one k m (bottom_line x) = bottom_one w named k m x
  line_one k m (clash_line x c) =
      at_concept_one w named k m x (concept c) (clash_children k x) (clash_one w named k m x)
  line_one k m (most_line x c ys) =
      at_concept_one w named k m x (concept c) (most_children q.theory k x ys)
      (most_one w named k m q.theory t.theory_met x ys)
  line_one k m (fact_line a p) = given_one w named k m (q.fact_of a p) (t.facts_met a p)
  line_one k m (differ_line y z) = differ_one w named k m y z

-- New nodes: what the facts of them say, and a model that has them.
use Rattle.std.proofs.Common.{◌≡◌, ℕ, zero, suc, ◌+◌, ◌-◌, ◌<◌, ◌≤◌, ◌&&◌, Bool, true, cond, eqb, leb, ltb, List}
use Rattle.std.proofs.Common.{◌∷◌, ◌++◌, get_or, ap, ◌∙◌, sym, subst, arith, inl, inr}
use Rattle.std.specs.Prelude.{All}
use Rattle.std.specs.List.{list_any, range_with_len}
use Rattle.std.proofs.lemmas.Bool.{and_from, and_left, and_right, or_left, or_right, le-leb, lt-leb, lt-ltb}
use Rattle.std.proofs.lemmas.Bool.{le-ltb, cases_lt}
use Rattle.std.proofs.lemmas.List.Folds.{list_any-append}
use Rattle.std.proofs.lemmas.List.Elements.{All-nil, All-cons, All-append, All-weaker}
use Rattle.shq_nnf.specs.Concept.{Concept}
use Rattle.role_box.specs.Fact.{Fact}
use Rattle.role_box.specs.Fact.TheVariants.{Has, Edge, Apart}
use Rattle.role_box.specs.State.{new_nodes, apart_from, pairwise_apart, fresh_facts}
use Rattle.role_box.specs.Rules.{Known, knows, with_nodes}
use Rattle.refutation_truth.proofs.Models.{is_on, still_pass}
use Rattle.refutation_truth.proofs.Fresh.{in_range}
use Rattle.all_worlds.specs.Worlds.{World, AreMany, IsSuccessor, IsIn}
use Rattle.all_worlds.proofs.Models.{IsTrueAt, Model, agree}

-- ---- a property of the facts of new nodes

module _ (P : Fact Concept → Type 0) where
  nodes_have : (x s : ℕ) (e : Concept) (n first : ℕ) → ((j : ℕ) → first ≤ j → j < first + n → P (Edge s x j))
      → ((j : ℕ) → first ≤ j → j < first + n → P (Has j e)) → All P (new_nodes x s e first n)
  nodes_have x s e zero first edge has = All-nil P
  nodes_have x s e (suc n) first edge has =
      All-cons P (Edge s x first) (Has first e ∷ new_nodes x s e (first + 1) n) (edge first (omega arith) (omega arith))
      (All-cons P (Has first e) (new_nodes x s e (first + 1) n) (has first (omega arith) (omega arith))
      (nodes_have x s e n (first + 1) (λ j le lt. edge j (omega arith) (omega arith))
      (λ j le lt. has j (omega arith) (omega arith))))

  aparts_have : (y n first : ℕ) → ((j : ℕ) → first ≤ j → j < first + n → P (Apart y j)) → All P (apart_from y first n)
  aparts_have y zero first each = All-nil P
  aparts_have y (suc n) first each =
      All-cons P (Apart y first) (apart_from y (first + 1) n) (each first (omega arith) (omega arith))
      (aparts_have y n (first + 1) (λ j le lt. each j (omega arith) (omega arith)))

  pairs_have : (n first : ℕ) → ((j k : ℕ) → first ≤ j → j < k → k < first + n → P (Apart j k))
      → All P (pairwise_apart first n)
  pairs_have zero first each = All-nil P
  pairs_have (suc n) first each =
      All-append P (apart_from first (first + 1) n) (pairwise_apart (first + 1) n)
      (aparts_have first n (first + 1) (λ j le lt. each first j (omega arith) (omega arith) (omega arith)))
      (pairs_have n (first + 1) (λ j k le lt less. each j k (omega arith) lt (omega arith)))

  fresh_have : (x s : ℕ) (e : Concept) (first n : ℕ) → ((j : ℕ) → first ≤ j → j < first + n → P (Edge s x j))
      → ((j : ℕ) → first ≤ j → j < first + n → P (Has j e))
      → ((j k : ℕ) → first ≤ j → j < k → k < first + n → P (Apart j k)) → All P (fresh_facts x s e first n)
  fresh_have x s e first n edge has apart =
      All-append P (new_nodes x s e first n) (pairwise_apart first n) (nodes_have x s e n first edge has)
      (pairs_have n first apart)

-- ---- nodes that are known, old and new

module _ (nodes : List ℕ) (first n : ℕ) where
  abbrev more : List ℕ
  more = nodes ++ range_with_len first n

  old_is_in : (x : ℕ) → list_any (λ z. eqb z x) nodes ≡ true → list_any (λ z. eqb z x) more ≡ true
  old_is_in x h =
      list_any-append (λ z. eqb z x) nodes (range_with_len first n)
      ∙ or_left (list_any (λ z. eqb z x) nodes) (list_any (λ z. eqb z x) (range_with_len first n)) h

  new_is_in : (x : ℕ) → first ≤ x → x < first + n → list_any (λ z. eqb z x) more ≡ true
  new_is_in x le lt =
      list_any-append (λ z. eqb z x) nodes (range_with_len first n)
      ∙ or_right (list_any (λ z. eqb z x) nodes) (list_any (λ z. eqb z x) (range_with_len first n))
      (in_range x n first le lt)

  all_on : (x s : ℕ) (e : Concept) (fs : List (Fact Concept)) → list_any (λ z. eqb z x) nodes ≡ true
      → All (λ f. is_on nodes f ≡ true) fs → All (λ f. is_on more f ≡ true) (fs ++ fresh_facts x s e first n)
  all_on x s e fs is on =
      All-append (λ f. is_on more f ≡ true) fs (fresh_facts x s e first n)
      (All-weaker (λ f. is_on nodes f ≡ true) (λ f. is_on more f ≡ true)
      (still_pass (λ y. list_any (λ z. eqb z y) nodes) (λ y. list_any (λ z. eqb z y) more) old_is_in) fs on)
      (fresh_have (λ f. is_on more f ≡ true) x s e first n
      (λ j le lt. and_from (list_any (λ z. eqb z x) more) (list_any (λ z. eqb z j) more) (old_is_in x is)
      (new_is_in j le lt))
      new_is_in
      (λ j k le lt less. and_from (list_any (λ z. eqb z j) more) (list_any (λ z. eqb z k) more)
      (new_is_in j le (omega arith)) (new_is_in k (omega arith) less)))

-- ---- a model with new nodes

module _ {d : Type 0} (first n : ℕ) (pick place : ℕ → d) where
  -- the nodes from `first` on stand for the members that are picked
  abbrev moved : ℕ → d
  moved z = cond (leb first z && ltb z (first + n)) (pick (z - first)) (place z)

  moved_in : (z : ℕ) → first ≤ z → z < first + n → moved z ≡ pick (z - first)
  moved_in z le lt =
      ap (λ (b : Bool). cond b (pick (z - first)) (place z))
      (and_from (leb first z) (ltb z (first + n)) (le-leb first z le) (lt-ltb z (first + n) lt))

  moved_out : (z : ℕ) → (first ≤ z → z < first + n → ⊥) → moved z ≡ place z
  moved_out z out = elim (cases_lt z first) [
    | inl lt ↦
        ap (λ (b : Bool). cond b (pick (z - first)) (place z))
        (and_left (leb first z) (ltb z (first + n)) (lt-leb first z lt))
    | inr le ↦ elim (cases_lt z (first + n)) [
      | inl lt ↦ absurd (out le lt)
      | inr ge ↦
          ap (λ (b : Bool). cond b (pick (z - first)) (place z))
          (and_right (leb first z) (ltb z (first + n)) (le-ltb z (first + n) ge))
    ]
  ]

module _ {d : Type 0} (w : World d) (named : ℕ) (k : Known) (m : Model w named k) (x s : ℕ) (e : Concept)
    (first n : ℕ) (known : knows k x ≡ true) (fresh : (z : ℕ) → knows k z ≡ true → first ≤ z → z < first + n → ⊥)
    (ys : List d) (many : AreMany (IsSuccessor w s (m.place x) (IsIn w e)) n ys) where
  abbrev pick : ℕ → d
  pick j = get_or ys j w.member

  abbrev there : ℕ → d
  there = moved first n pick m.place

  kept : (z : ℕ) → knows k z ≡ true → there z ≡ m.place z
  kept z h = moved_out first n pick m.place z (fresh z h)

  chosen : (j : ℕ) → first ≤ j → j < first + n → IsSuccessor w s (m.place x) (IsIn w e) (there j)
  chosen j le lt =
      subst (IsSuccessor w s (m.place x) (IsIn w e)) (sym (moved_in first n pick m.place j le lt))
      (many.each (j - first) w.member (omega (arith, many.count)))

  is_edge : (j : ℕ) → first ≤ j → j < first + n → w.in_role s (there x) (there j) ≡ true
  is_edge j le lt = ap (λ (v : d). w.in_role s v (there j)) (kept x known) ∙ (chosen j le lt).0

  is_other : (j l : ℕ) → first ≤ j → j < l → l < first + n → ¬ (there j ≡ there l)
  is_other j l le lt less same =
      let a = moved_in first n pick m.place j le (omega arith) in
      let b = moved_in first n pick m.place l (omega arith) less in
      many.distinct (j - first) (l - first) w.member (omega arith) (omega (arith, many.count)) (sym a ∙ same ∙ b)

  -- so many members that a role leads to stand for new nodes
  pub with_new : Model w named (with_nodes k x s e first n)
  with_new = record {
    place = there;
    are_true =
        All-append (IsTrueAt w there) k.facts (fresh_facts x s e first n)
        (λ i f lt. agree w (λ y. list_any (λ z. eqb z y) k.nodes) m.place there kept (get_or k.facts i f)
        (m.are_true i f lt) (m.are_on i f lt))
        (fresh_have (IsTrueAt w there) x s e first n is_edge (λ j le lt. (chosen j le lt).1) is_other);
    are_on = all_on k.nodes first n x s e k.facts known m.are_on;
    stands = λ a lt. kept a (m.known x known a lt) ∙ m.stands a lt;
    known = λ z some a lt. old_is_in k.nodes first n a (m.known x known a lt);
  }

-- New nodes: what the facts of them say, and a model that has them.
use Rattle.std.proofs.Common.{◌≡◌, ℕ, zero, suc, ◌+◌, ◌-◌, ◌<◌, ◌≤◌, ◌&&◌, Bool, true, not, cond, eqb, leb, ltb, List}
use Rattle.std.proofs.Common.{◌++◌, refl, ap, ◌∙◌, sym, arith, inl, inr}
use Rattle.std.specs.List.{list_any, list_all, range_with_len}
use Rattle.std.proofs.lemmas.Bool.{and_parts, and_from, and_left, and_right, or_left, or_right, eq-eqb, ne_eqb, le-leb}
use Rattle.std.proofs.lemmas.Bool.{lt-leb, lt-ltb, le-ltb, cases_eq, cases_lt}
use Rattle.std.proofs.lemmas.List.Folds.{list_any-append}
use Rattle.shq_nnf.specs.Concept.{Concept}
use Rattle.shq_nnf.specs.Truth.{Interpretation, holds}
use Rattle.shq_nnf.specs.Meeting.{is_true}
use Rattle.role_box.specs.Fact.{Fact}
use Rattle.role_box.specs.Fact.TheVariants.{Has, Edge, Apart}
use Rattle.role_box.specs.State.{new_nodes, apart_from, pairwise_apart, fresh_facts}
use Rattle.role_box.specs.Rules.{Known, knows, with_nodes}
use Rattle.refutation_truth.proofs.Below.{Picks}
use Rattle.refutation_truth.proofs.Models.{all_with, all_of_both, is_on, still_pass, Model, all_agree}

-- ---- a test of the facts of new nodes

module _ (p : Fact Concept → Bool) where
  nodes_pass : (x s : ℕ) (e : Concept) (n first : ℕ) → ((j : ℕ) → first ≤ j → j < first + n → p (Edge s x j) ≡ true)
      → ((j : ℕ) → first ≤ j → j < first + n → p (Has j e) ≡ true)
      → list_all p (new_nodes x s e first n) ≡ true
  nodes_pass x s e zero first edge has = refl
  nodes_pass x s e (suc n) first edge has =
      let rest =
      nodes_pass x s e n (first + 1) (λ j le lt. edge j (omega arith) (omega arith))
      (λ j le lt. has j (omega arith) (omega arith)) in
      and_from (p (Edge s x first)) (p (Has first e) && list_all p (new_nodes x s e (first + 1) n))
      (edge first (omega arith) (omega arith))
      (and_from (p (Has first e)) (list_all p (new_nodes x s e (first + 1) n)) (has first (omega arith) (omega arith))
      rest)

  aparts_pass : (y n first : ℕ) → ((j : ℕ) → first ≤ j → j < first + n → p (Apart y j) ≡ true)
      → list_all p (apart_from y first n) ≡ true
  aparts_pass y zero first each = refl
  aparts_pass y (suc n) first each =
      and_from (p (Apart y first)) (list_all p (apart_from y (first + 1) n)) (each first (omega arith) (omega arith))
      (aparts_pass y n (first + 1) (λ j le lt. each j (omega arith) (omega arith)))

  pairs_pass : (n first : ℕ) → ((j k : ℕ) → first ≤ j → j < k → k < first + n → p (Apart j k) ≡ true)
      → list_all p (pairwise_apart first n) ≡ true
  pairs_pass zero first each = refl
  pairs_pass (suc n) first each =
      all_of_both p (apart_from first (first + 1) n) (pairwise_apart (first + 1) n)
      (aparts_pass first n (first + 1) (λ j le lt. each first j (omega arith) (omega arith) (omega arith)))
      (pairs_pass n (first + 1) (λ j k le lt less. each j k (omega arith) lt (omega arith)))

  pub fresh_pass : (x s : ℕ) (e : Concept) (first n : ℕ) → ((j : ℕ) → first ≤ j → j < first + n → p (Edge s x j) ≡ true)
      → ((j : ℕ) → first ≤ j → j < first + n → p (Has j e) ≡ true)
      → ((j k : ℕ) → first ≤ j → j < k → k < first + n → p (Apart j k) ≡ true)
      → list_all p (fresh_facts x s e first n) ≡ true
  fresh_pass x s e first n edge has apart =
      all_of_both p (new_nodes x s e first n) (pairwise_apart first n) (nodes_pass x s e n first edge has)
      (pairs_pass n first apart)

-- ---- nodes that are known, old and new

pub in_range : (j n first : ℕ) → first ≤ j → j < first + n → list_any (λ z. eqb z j) (range_with_len first n) ≡ true
in_range j zero first le lt = absurd (omega arith)
in_range j (suc n) first le lt = elim (cases_eq first j) [
  | inl e ↦ or_left (eqb first j) (list_any (λ z. eqb z j) (range_with_len (first + 1) n)) (eq-eqb first j e)
  | inr ne ↦
      or_right (eqb first j) (list_any (λ z. eqb z j) (range_with_len (first + 1) n))
      (in_range j n (first + 1) (omega arith) (omega arith))
]

module _ (nodes : List ℕ) (first n : ℕ) where
  abbrev more : List ℕ
  more = nodes ++ range_with_len first n

  old_is_in : (x : ℕ) → list_any (λ z. eqb z x) nodes ≡ true → list_any (λ z. eqb z x) more ≡ true
  old_is_in x h =
      list_any-append (λ z. eqb z x) nodes (range_with_len first n)
      ∙ or_left (list_any (λ z. eqb z x) nodes) (list_any (λ z. eqb z x) (range_with_len first n)) h

  new_is_in : (x : ℕ) → first ≤ x → x < first + n → list_any (λ z. eqb z x) more ≡ true
  new_is_in x le lt =
      list_any-append (λ z. eqb z x) nodes (range_with_len first n)
      ∙ or_right (list_any (λ z. eqb z x) nodes) (list_any (λ z. eqb z x) (range_with_len first n))
      (in_range x n first le lt)

  all_on : (x s : ℕ) (e : Concept) (fs : List (Fact Concept)) → list_any (λ z. eqb z x) nodes ≡ true
      → list_all (is_on nodes) fs ≡ true → list_all (is_on more) (fs ++ fresh_facts x s e first n) ≡ true
  all_on x s e fs is on =
      all_of_both (is_on more) fs (fresh_facts x s e first n)
      (all_with (is_on nodes) (is_on nodes) (is_on more)
      (λ f here again. still_pass (λ y. list_any (λ z. eqb z y) nodes) (λ y. list_any (λ z. eqb z y) more) old_is_in f
      here)
      fs on on)
      (fresh_pass (is_on more) x s e first n
      (λ j le lt. and_from (list_any (λ z. eqb z x) more) (list_any (λ z. eqb z j) more) (old_is_in x is)
      (new_is_in j le lt))
      new_is_in
      (λ j k le lt less. and_from (list_any (λ z. eqb z j) more) (list_any (λ z. eqb z k) more)
      (new_is_in j le (omega arith)) (new_is_in k (omega arith) less)))

-- ---- a model with new nodes

abbrev moved : ℕ → ℕ → (ℕ → ℕ) → (ℕ → ℕ) → ℕ → ℕ
moved first n pick place z = cond (leb first z && ltb z (first + n)) (pick (z - first)) (place z)

module _ (first n : ℕ) (pick place : ℕ → ℕ) where
  moved_in : (z : ℕ) → first ≤ z → z < first + n → moved first n pick place z ≡ pick (z - first)
  moved_in z le lt =
      ap (λ (b : Bool). cond b (pick (z - first)) (place z))
      (and_from (leb first z) (ltb z (first + n)) (le-leb first z le) (lt-ltb z (first + n) lt))

  moved_below : (z : ℕ) → z < first → moved first n pick place z ≡ place z
  moved_below z lt =
      ap (λ (b : Bool). cond b (pick (z - first)) (place z))
      (and_left (leb first z) (ltb z (first + n)) (lt-leb first z lt))

  moved_above : (z : ℕ) → first + n ≤ z → moved first n pick place z ≡ place z
  moved_above z le =
      ap (λ (b : Bool). cond b (pick (z - first)) (place z))
      (and_right (leb first z) (ltb z (first + n)) (le-ltb z (first + n) le))

  moved_out : (z : ℕ) → (first ≤ z → z < first + n → ⊥) → moved first n pick place z ≡ place z
  moved_out z out = elim (cases_lt z first) [
    | inl lt ↦ moved_below z lt
    | inr le ↦ elim (cases_lt z (first + n)) [ inl lt ↦ absurd (out le lt) | inr ge ↦ moved_above z ge ]
  ]

  moved_within : (size : ℕ) → ((j : ℕ) → j < n → pick j < size) → ((z : ℕ) → place z < size) → (z : ℕ)
      → moved first n pick place z < size
  moved_within size picked placed z = elim (cases_lt z first) [
    | inl lt ↦ let e = moved_below z lt in let less = placed z in omega arith
    | inr le ↦ elim (cases_lt z (first + n)) [
      | inl lt ↦ let e = moved_in z le lt in let less = picked (z - first) (omega arith) in omega arith
      | inr ge ↦ let e = moved_above z ge in let less = placed z in omega arith
    ]
  ]

module _ (i : Interpretation) (named : ℕ) (k : Known) (m : Model i named k) (x s : ℕ) (e : Concept) (first n : ℕ)
    (known : knows k x ≡ true)
    (fresh : (z : ℕ) → knows k z ≡ true → first ≤ z → z < first + n → ⊥)
    (q : Picks i.size (λ v. i.in_role s (m.place x) v && holds i e v) n) where
  abbrev there : ℕ → ℕ
  there = moved first n q.pick m.place

  kept : (z : ℕ) → knows k z ≡ true → there z ≡ m.place z
  kept z h = moved_out first n q.pick m.place z (fresh z h)

  chosen : (j : ℕ) → first ≤ j → j < first + n → (i.in_role s (m.place x) (there j) && holds i e (there j)) ≡ true
  chosen j le lt =
      ap (λ (v : ℕ). i.in_role s (m.place x) v && holds i e v) (moved_in first n q.pick m.place j le lt)
      ∙ q.passes (j - first) (omega arith)

  is_edge : (j : ℕ) → first ≤ j → j < first + n → i.in_role s (there x) (there j) ≡ true
  is_edge j le lt =
      ap (λ (v : ℕ). i.in_role s v (there j)) (kept x known)
      ∙ (and_parts (i.in_role s (m.place x) (there j)) (holds i e (there j)) (chosen j le lt)).0

  is_filler : (j : ℕ) → first ≤ j → j < first + n → holds i e (there j) ≡ true
  is_filler j le lt = (and_parts (i.in_role s (m.place x) (there j)) (holds i e (there j)) (chosen j le lt)).1

  is_other : (j l : ℕ) → first ≤ j → j < l → l < first + n → not (eqb (there j) (there l)) ≡ true
  is_other j l le lt less =
      let a = moved_in first n q.pick m.place j le (omega arith) in
      let b = moved_in first n q.pick m.place l (omega arith) less in
      let apart : there j ≡ there l → ⊥ =
      λ same. q.different (j - first) (l - first) (omega arith) (omega arith) (sym a ∙ same ∙ b) in
      ap not (ne_eqb (there j) (there l) apart)

  -- so many elements that a role leads to stand for new nodes
  pub with_new : Model i named (with_nodes k x s e first n)
  with_new = record {
    place = there;
    within = moved_within first n q.pick m.place i.size q.below m.within;
    are_true =
        all_of_both (is_true i there) k.facts (fresh_facts x s e first n)
        (all_agree i k.nodes m.place there kept k.facts m.are_true m.are_on)
        (fresh_pass (is_true i there) x s e first n is_edge is_filler is_other);
    are_on = all_on k.nodes first n x s e k.facts known m.are_on;
    stands = λ a lt. kept a (m.known x known a lt) ∙ m.stands a lt;
    known = λ z some a lt. old_is_in k.nodes first n a (m.known x known a lt);
  }

-- New nodes as rule lines.
use Rattle.std.proofs.Common.{◌≡◌, ℕ, zero, suc, ◌+◌, ◌<◌, ◌≤◌, ◌^◌, ◌&&◌, eqb, ltb, leb, max, Bool, true, false, not}
use Rattle.std.proofs.Common.{List, [], ◌∷◌, ◌++◌, Some, refl, ap, ◌∙◌, sym, arith, inl, inr}
use Rattle.std.specs.List.{list_any, range_with_len}
use Rattle.std.proofs.lemmas.Bool.{cases_Bool, eqb-true}
use Rattle.std.proofs.lemmas.Bool.Decides.{nat_tests}
use Rattle.std.proofs.lemmas.List.{map-append}
use Rattle.calculus_specs.specs.Concept.{Concept}
use Rattle.calculus_specs.specs.Shape.Shape.{some_of as some_shape, at_least as least_shape}
use Rattle.calculus_specs.specs.Tree.{tree_of}
use Rattle.calculus_specs.specs.declared.facts.Fact.{Fact}
use Rattle.calculus_specs.specs.declared.facts.Fact.TheVariants.{Has, Edge, Apart, Same}
use Rattle.calculus_specs.specs.State.{node_count_from, new_nodes, apart_from, pairwise_apart, fresh_facts}
use Rattle.calculus_specs.specs.Reading.{read_fact, read_facts}
use Rattle.calculus_specs.specs.Rules.{Question, Known, knows, knows_some_from, when, with_nodes, some_children}
use Rattle.calculus_specs.specs.Rules.{least_children}
use Rattle.tableau_specs.specs.Steps.{SearchContext, Generates}
use Rattle.tableau_specs.specs.Steps.Generates.{by_some, by_least}
use Rattle.tableau_specs.proofs.TreeShaped.{first_le}
use Rattle.tableau_specs.specs.Lines.{known_by, children_in, line_of_generate}
use Rattle.tableau_specs.specs.LineLaws.{IsOver}
use Rattle.tableau_specs.proofs.KnownFacts.{at_shape}

-- ---- the number of nodes after new ones

module _ (base : ℕ) where
  pub count-append : (fs gs : List (Fact ℕ))
      → node_count_from base (fs ++ gs) ≡ max (node_count_from base fs) (node_count_from base gs)
  count-append [] gs = omega (arith, first_le base gs)
  count-append (Has x c ∷ fs) gs = count-append fs gs
  count-append (Edge r x y ∷ fs) gs = omega (arith, count-append fs gs)
  count-append (Apart x y ∷ fs) gs = count-append fs gs
  count-append (Same x y ∷ fs) gs = count-append fs gs

  count-aparts : (y z n : ℕ) (rest : List (Fact ℕ))
      → node_count_from base (apart_from y z n ++ rest) ≡ node_count_from base rest
  count-aparts y z zero rest = refl
  count-aparts y z (suc n) rest = count-aparts y (z + 1) n rest

  count-pairs : (first n : ℕ) → node_count_from {C = ℕ} base (pairwise_apart first n) ≡ base
  count-pairs first zero = refl
  count-pairs first (suc n) =
      count-aparts first (first + 1) n (pairwise_apart (first + 1) n) ∙ count-pairs (first + 1) n

  count-nodes : (x s e first n : ℕ) (rest : List (Fact ℕ)) → node_count_from base rest ≡ base → base ≤ first
      → max first (node_count_from base (new_nodes x s e first n ++ rest)) ≡ first + n
  count-nodes x s e first zero rest one le = omega (arith, one, le)
  count-nodes x s e first (suc n) rest one le = omega (arith, count-nodes x s e (first + 1) n rest one (omega arith))

  pub count-fresh : (fs : List (Fact ℕ)) (x s e n : ℕ)
      → node_count_from base (fs ++ fresh_facts x s e (node_count_from base fs) n) ≡ node_count_from base fs + n
  count-fresh fs x s e n =
      count-append fs (fresh_facts x s e (node_count_from base fs) n)
      ∙ count-nodes x s e (node_count_from base fs) n (pairwise_apart (node_count_from base fs) n)
      (count-pairs (node_count_from base fs) n) (first_le base fs)

range-append : (a n m : ℕ) → range_with_len a (n + m) ≡ range_with_len a n ++ range_with_len (a + n) m
range-append a zero m =
    let e : 0 + m ≡ m = omega arith in
    let f : a ≡ a + 0 = omega arith in
    ap (range_with_len a) e ∙ ap (λ (b : ℕ). range_with_len b m) f
range-append a (suc n) m =
    let e : suc n + m ≡ suc (n + m) = omega arith in
    let f : (a + 1) + n ≡ a + suc n = omega arith in
    ap (range_with_len a) e
    ∙ ap (λ (l : List ℕ). a ∷ l)
    (range-append (a + 1) n m ∙ ap (λ (b : ℕ). range_with_len (a + 1) n ++ range_with_len b m) f)

-- ---- the new facts over trees

module _ (t : ℕ → Concept) where
  aparts-read : (y z n : ℕ) (rest : List (Fact ℕ))
      → read_facts t (apart_from y z n ++ rest) ≡ apart_from y z n ++ read_facts t rest
  aparts-read y z zero rest = refl
  aparts-read y z (suc n) rest = ap (λ (l : List (Fact Concept)). Apart y z ∷ l) (aparts-read y (z + 1) n rest)

  pairs-read : (first n : ℕ) → read_facts t (pairwise_apart first n) ≡ pairwise_apart first n
  pairs-read first zero = refl
  pairs-read first (suc n) =
      aparts-read first (first + 1) n (pairwise_apart (first + 1) n)
      ∙ ap (λ (l : List (Fact Concept)). apart_from first (first + 1) n ++ l) (pairs-read (first + 1) n)

  nodes-read : (x s e first n : ℕ) (rest : List (Fact ℕ))
      → read_facts t (new_nodes x s e first n ++ rest) ≡ new_nodes x s (t e) first n ++ read_facts t rest
  nodes-read x s e first zero rest = refl
  nodes-read x s e first (suc n) rest =
      ap (λ (l : List (Fact Concept)). Edge s x first ∷ Has first (t e) ∷ l) (nodes-read x s e (first + 1) n rest)

  pub fresh-read : (x s e first n : ℕ) → read_facts t (fresh_facts x s e first n) ≡ fresh_facts x s (t e) first n
  fresh-read x s e first n =
      nodes-read x s e first n (pairwise_apart first n)
      ∙ ap (λ (l : List (Fact Concept)). new_nodes x s (t e) first n ++ l) (pairs-read first n)

-- ---- new nodes are not known

fresh_below : (z a n : ℕ) → a + n ≤ z → list_any (λ y. eqb y z) (range_with_len a n) ≡ false
fresh_below z a zero le = refl
fresh_below z a (suc n) le = elim (cases_Bool (eqb a z)) [
  | inl hit ↦ absurd (omega (arith, eqb-true a z hit))
  | inr miss ↦ rw miss (fresh_below z (a + 1) n (omega arith))
]

not_yet : (z a : ℕ) → a < z → leb z a ≡ false
not_yet z a lt = grind (arith, nat_tests)

le_test : (a b : ℕ) → a ≤ b → leb a b ≡ true
le_test a b le = grind (arith, nat_tests)

none_from : (z n a m : ℕ) → a + m ≤ z → list_any (λ y. leb z y && ltb y (z + n)) (range_with_len a m) ≡ false
none_from z n a zero le = refl
none_from z n a (suc m) le = rw (not_yet z a (omega arith)) (none_from z n (a + 1) m (omega arith))

-- ---- the lines

module _ (w : SearchContext) (q : Question) (fs : List (Fact ℕ)) (over : IsOver w fs) where
  abbrev state : Known
  state = known_by w.first w.table fs

  state_with : (x s e n : ℕ)
      → with_nodes state x s (tree_of w.table e) (node_count_from w.first fs) n
      ≡ known_by w.first w.table (fs ++ fresh_facts x s e (node_count_from w.first fs) n)
  state_with x s e n =
      let count = count-fresh w.first fs x s e n in
      let nodes : range_with_len 0 (node_count_from w.first fs) ++ range_with_len (node_count_from w.first fs) n
      ≡ range_with_len 0 (node_count_from w.first (fs ++ fresh_facts x s e (node_count_from w.first fs) n)) =
      ap (λ (b : ℕ). range_with_len 0 (node_count_from w.first fs) ++ range_with_len b n) (omega arith)
      ∙ sym (range-append 0 (node_count_from w.first fs) n) ∙ ap (range_with_len 0) (sym count) in
      let facts : state.facts ++ fresh_facts x s (tree_of w.table e) (node_count_from w.first fs) n
      ≡ read_facts (tree_of w.table) (fs ++ fresh_facts x s e (node_count_from w.first fs) n) =
      ap (λ (l : List (Fact Concept)). state.facts ++ l)
      (sym (fresh-read (tree_of w.table) x s e (node_count_from w.first fs) n))
      ∙ sym (map-append (read_fact (tree_of w.table)) fs (fresh_facts x s e (node_count_from w.first fs) n)) in
      λ i. record { nodes = nodes i; facts = facts i }

  pub generate_is_line : (new : List (Fact ℕ)) (generates : Generates w fs new)
      → node_count_from w.first (fs ++ new) ≤ 2 ^ 32
      → children_in w q fs (line_of_generate w fs new generates) ≡ Some (known_by w.first w.table (fs ++ new) ∷ [])
  generate_is_line new (by_some x c s e at h sh none) room =
      let y : ℕ = node_count_from w.first fs in
      let out : knows state y ≡ false = fresh_below y 0 y (omega arith) in
      at_shape w q fs over x c (some_shape s e) (some_children state x y) at.is_node h sh (λ k. cc)
      ∙ ap (λ (b : Bool). when (not b) (Some (with_nodes state x s (tree_of w.table e) y 1 ∷ []))) out
      ∙ ap (λ (k : Known). Some (k ∷ [])) (state_with x s e 1)
  generate_is_line new (by_least x c n s e at h sh none) room =
      let y : ℕ = node_count_from w.first fs in
      let out : knows_some_from state y n ≡ false = none_from y n 0 y (omega arith) in
      let fits : leb (y + n) (2 ^ 32) ≡ true =
      le_test (y + n) (2 ^ 32) (omega (arith, room, count-fresh w.first fs x s e n)) in
      at_shape w q fs over x c (least_shape n s e) (least_children state x y) at.is_node h sh (λ k. cc)
      ∙ ap (λ (b : Bool). when (b && not (knows_some_from state y n))
      (Some (with_nodes state x s (tree_of w.table e) y n ∷ [])))
      fits
      ∙ ap (λ (b : Bool). when (not b) (Some (with_nodes state x s (tree_of w.table e) y n ∷ []))) out
      ∙ ap (λ (k : Known). Some (k ∷ [])) (state_with x s e n)

-- The tests of the lines of a workload, and what is counted and listed behind them.
use Rattle.std.proofs.Common.{◌≡◌, ℕ, ◌+◌, ◌≤◌, true, false, cond, List, [], ◌∷◌, ◌++◌, length, Option, Some, None, Ok}
use Rattle.std.proofs.Common.{refl, ap, ◌∙◌, arith, codes}
use Rattle.std.specs.Prelude.{nat_le, is_some}
use Rattle.shq_terms.specs.Names.{with_name}
use Rattle.ofn_tree.specs.Items.{Item, name_item, group_item, Items, no_items, item}
use Rattle.ofn_expressions.specs.Counts.{Counts}
use Rattle.ofn_expressions.specs.Walk.{Test, shape, prefix, numbered, parts, nodes, class, role, number, walked}
use Rattle.ofn_expressions.specs.Names.{Prefix, prefix_iri, full_iri}
use Rattle.ofn_expressions.specs.Constructs.{excluded_role_name}
use Rattle.ofn_expressions.specs.Classes.{is_spelled, is_thing, is_nothing, listed_class, listed_role, role_tests}
use Rattle.ofn_expressions.specs.Classes.{number_tests, class_tests}
use Rattle.ofn_expressions.proofs.Walks.{goes_on}
use Rattle.ofn_reader.specs.Axioms.{axiom_tests}
use Rattle.text_laws.proofs.Checks.{le_true}
use Rattle.text_laws.proofs.Keywords as keywords
use Rattle.text_laws.proofs.Keywords.{group_tests, axiom_group_tests}
use Rattle.text_laws.proofs.Walks.{step, alone}
use Rattle.workload.specs.WorkloadAxioms.{prefix_iri_of_workloads, full_name}

-- ---- names

pub no_thing : (local : List ℕ) → is_thing (full_name local) ≡ false
unfolding full_name is_spelled
no_thing local = refl

pub no_nothing : (local : List ℕ) → is_nothing (full_name local) ≡ false
unfolding full_name is_spelled
no_nothing local = refl

no_excluded : (local : List ℕ) → excluded_role_name (full_name local) ≡ None
unfolding full_name excluded_role_name
no_excluded local = refl

pub name_is : (local : List ℕ) → full_iri (Some prefix_iri_of_workloads) local ≡ full_name local
unfolding full_name
name_is local = refl

-- so much is counted, and these names are listed
abbrev pub state : ℕ → ℕ → ℕ → List (List ℕ) → List (List ℕ) → Counts
state x p n cs rs = record { axioms = x; parts = p; nodes = n; classes = cs; roles = rs; individuals = [] }

-- where a class is met, the list of classes becomes this one
pub record Lists (cs : List (List ℕ)) (local : List ℕ) (ds : List (List ℕ)) : Type 0 where
  pub names : with_name cs (full_name local) ≡ ds
  pub room : nat_le (length ds) 20000 ≡ true

-- the same of a role
pub record ListsRole (rs : List (List ℕ)) (local : List ℕ) (ts : List (List ℕ)) : Type 0 where
  pub names : with_name rs (full_name local) ≡ ts
  pub room : nat_le (length ts) 1000 ≡ true

-- a name with the empty prefix, which stands for this IRI
abbrev class_word_tests : Option (List ℕ) → List ℕ → ℕ → List Test
class_word_tests iri local line =
    shape line true ∷ (prefix line (is_some iri) ∷ (nodes line 1 ∷ listed_class line (full_iri iri local)))

abbrev role_word_tests : Option (List ℕ) → List ℕ → ℕ → List Test
role_word_tests iri local line =
    shape line true
    ∷ (prefix line (is_some iri) ∷ listed_role (excluded_role_name (full_iri iri local)) line (full_iri iri local))

-- the item of a name
abbrev pub word_item : List ℕ → ℕ → Item
word_item local line = name_item (58 ∷ local) line

module _ (ps : List Prefix) (knows : prefix_iri ps [] ≡ Some prefix_iri_of_workloads) (line : ℕ) where
  pub class_walk : (x p n : ℕ) (cs rs : List (List ℕ)) (local : List ℕ) (ds : List (List ℕ)) → Lists cs local ds
      → n + 1 ≤ 262144
      → walked (state x p n cs rs) (class_tests ps (word_item local line)) ≡ Ok (state x p (n + 1) ds rs)
  class_walk x p n cs rs local ds lists few =
      let s : Counts = state x p n cs rs in
      let w : List ℕ = full_name local in
      ap (λ r. walked s (class_word_tests r local line)) knows
      ∙ ap (λ v. walked s (shape line true ∷ (prefix line true ∷ (nodes line 1 ∷ listed_class line v)))) (name_is local)
      ∙ step s (shape line true) (prefix line true ∷ (nodes line 1 ∷ listed_class line w)) refl
      ∙ step s (prefix line true) (nodes line 1 ∷ listed_class line w) refl
      ∙ step s (nodes line 1) (listed_class line w) (le_true (n + 1) 262144 few)
      ∙ (λ i. walked (state x p (n + 1) cs rs)
      (cond (no_thing local i) [] (cond (no_nothing local i) [] (class line w ∷ []))))
      ∙ step (state x p (n + 1) cs rs) (class line w) [] (ap (λ l. nat_le (length l) 20000) lists.names ∙ lists.room)
      ∙ ap (λ l. Ok (state x p (n + 1) l rs)) lists.names

  role_walk : (x p n : ℕ) (cs rs : List (List ℕ)) (local : List ℕ) (ts : List (List ℕ)) → ListsRole rs local ts
      → walked (state x p n cs rs) (role_tests ps (word_item local line)) ≡ Ok (state x p n cs ts)
  role_walk x p n cs rs local ts lists =
      let s : Counts = state x p n cs rs in
      let w : List ℕ = full_name local in
      ap (λ r. walked s (role_word_tests r local line)) knows
      ∙ ap (λ v. walked s (shape line true ∷ (prefix line true ∷ listed_role (excluded_role_name v) line v)))
      (name_is local)
      ∙ step s (shape line true) (prefix line true ∷ listed_role (excluded_role_name w) line w) refl
      ∙ step s (prefix line true) (listed_role (excluded_role_name w) line w) refl
      ∙ ap (λ e. walked s (listed_role e line w)) (no_excluded local)
      ∙ step s (role line w) [] (ap (λ l. nat_le (length l) 1000) lists.names ∙ lists.room)
      ∙ ap (λ l. Ok (state x p n cs l)) lists.names

  -- ---- groups

  group_walk : (x p n : ℕ) (cs rs : List (List ℕ)) (all inner : List Test) → all ≡ group_tests line true inner
      → n + 1 ≤ 262144 → walked (state x p n cs rs) all ≡ walked (state x p (n + 1) cs rs) inner
  group_walk x p n cs rs all inner is few =
      ap (walked (state x p n cs rs)) is
      ∙ step (state x p n cs rs) (nodes line 1) (shape line true ∷ inner) (le_true (n + 1) 262144 few)
      ∙ step (state x p (n + 1) cs rs) (shape line true) inner refl

  -- a role, and a class
  pub valued_walk : (x p n : ℕ) (cs rs : List (List ℕ)) (r local : List ℕ) (ds : List (List ℕ)) (all : List Test)
      → all ≡ group_tests line true (role_tests ps (word_item r line) ++ (class_tests ps (word_item local line) ++ []))
      → ListsRole rs r rs → Lists cs local ds → n + 2 ≤ 262144
      → walked (state x p n cs rs) all ≡ Ok (state x p (n + 1 + 1) ds rs)
  valued_walk x p n cs rs r local ds all is knows_role lists few =
      let s : Counts = state x p (n + 1) cs rs in
      let ts : List Test = class_tests ps (word_item local line) in
      group_walk x p n cs rs all (role_tests ps (word_item r line) ++ (ts ++ [])) is (omega (arith, few))
      ∙ goes_on s s (role_tests ps (word_item r line)) (ts ++ []) (role_walk x p (n + 1) cs rs r rs knows_role)
      ∙ alone s (state x p (n + 1 + 1) ds rs) ts (class_walk x p (n + 1) cs rs local ds lists (omega (arith, few)))

  -- the number 2, a role, and a class
  pub bounded_walk : (x p n : ℕ) (cs rs : List (List ℕ)) (r local : List ℕ) (ds : List (List ℕ)) (all : List Test)
      → all ≡ group_tests line true
      (number_tests (name_item (codes "2") line)
      ++ (role_tests ps (word_item r line) ++ (class_tests ps (word_item local line) ++ [])))
      → ListsRole rs r rs → Lists cs local ds → n + 2 ≤ 262144
      → walked (state x p n cs rs) all ≡ Ok (state x p (n + 1 + 1) ds rs)
  bounded_walk x p n cs rs r local ds all is knows_role lists few =
      let s : Counts = state x p (n + 1) cs rs in
      let ts : List Test = class_tests ps (word_item local line) in
      let rest : List Test = role_tests ps (word_item r line) ++ (ts ++ []) in
      group_walk x p n cs rs all (number_tests (name_item (codes "2") line) ++ rest) is (omega (arith, few))
      ∙ step s (number line 2) rest refl
      ∙ goes_on s s (role_tests ps (word_item r line)) (ts ++ []) (role_walk x p (n + 1) cs rs r rs knows_role)
      ∙ alone s (state x p (n + 1 + 1) ds rs) ts (class_walk x p (n + 1) cs rs local ds lists (omega (arith, few)))

  -- two classes
  pub pair_walk : (x p n : ℕ) (cs rs : List (List ℕ)) (u v : List ℕ) (ds es : List (List ℕ)) (all : List Test)
      → all ≡ group_tests line true (class_tests ps (word_item u line) ++ (class_tests ps (word_item v line) ++ []))
      → Lists cs u ds → Lists ds v es → n + 3 ≤ 262144
      → walked (state x p n cs rs) all ≡ Ok (state x p (n + 1 + 1 + 1) es rs)
  pair_walk x p n cs rs u v ds es all is first second few =
      let ts : List Test = class_tests ps (word_item u line) in
      let us : List Test = class_tests ps (word_item v line) in
      group_walk x p n cs rs all (ts ++ (us ++ [])) is (omega (arith, few))
      ∙ goes_on (state x p (n + 1) cs rs) (state x p (n + 1 + 1) ds rs) ts (us ++ [])
      (class_walk x p (n + 1) cs rs u ds first (omega (arith, few)))
      ∙ alone (state x p (n + 1 + 1) ds rs) (state x p (n + 1 + 1 + 1) es rs) us
      (class_walk x p (n + 1 + 1) ds rs v es second (omega (arith, few)))

  -- ---- axioms

  head_walk : (x p n : ℕ) (cs rs : List (List ℕ)) (all : List Test) (k : ℕ) (inner : List Test)
      → all ≡ axiom_group_tests line true k inner → x + 1 ≤ 20000 → p + k ≤ 500000
      → walked (state x p n cs rs) all ≡ walked (state (x + 1) (p + k) n cs rs) inner
  head_walk x p n cs rs all k inner is few few_parts =
      ap (walked (state x p n cs rs)) is
      ∙ step (state x p n cs rs) (numbered line) (shape line true ∷ (parts line k ∷ inner)) (le_true (x + 1) 20000 few)
      ∙ step (state (x + 1) p n cs rs) (shape line true) (parts line k ∷ inner) refl
      ∙ step (state (x + 1) p n cs rs) (parts line k) inner (le_true (p + k) 500000 few_parts)

  abbrev pub sub_item : List ℕ → Item → Item
  sub_item local second =
      group_item (Some (codes "SubClassOf")) (item (word_item local line) (item second no_items)) line

  -- a class in another, whose tests go from there on
  pub sub_walk : (x p n m : ℕ) (cs rs : List (List ℕ)) (local : List ℕ) (second : Item) (ds es : List (List ℕ))
      → Lists cs local ds
      → walked (state (x + 1) (p + 1) (n + 1) ds rs) (class_tests ps second) ≡ Ok (state (x + 1) (p + 1) m es rs)
      → x + 1 ≤ 20000 → p + 1 ≤ 500000 → n + 1 ≤ 262144
      → walked (state x p n cs rs) (axiom_tests ps (sub_item local second)) ≡ Ok (state (x + 1) (p + 1) m es rs)
  sub_walk x p n m cs rs local second ds es lists inner few few_parts few_nodes =
      let is : Items = item (word_item local line) (item second no_items) in
      let ts : List Test = class_tests ps (word_item local line) in
      let us : List Test = class_tests ps second in
      head_walk x p n cs rs (axiom_tests ps (sub_item local second)) 1 (ts ++ (us ++ []))
      (keywords.sub_class_tests ps line is is refl) few few_parts
      ∙ goes_on (state (x + 1) (p + 1) n cs rs) (state (x + 1) (p + 1) (n + 1) ds rs) ts (us ++ [])
      (class_walk (x + 1) (p + 1) n cs rs local ds lists few_nodes)
      ∙ alone (state (x + 1) (p + 1) (n + 1) ds rs) (state (x + 1) (p + 1) m es rs) us inner

  -- a role in another
  abbrev role_items : List ℕ → List ℕ → Items
  role_items r t = item (word_item r line) (item (word_item t line) no_items)

  pub sub_role_walk : (x p n : ℕ) (cs rs : List (List ℕ)) (r t : List ℕ) (ts us : List (List ℕ)) → ListsRole rs r ts
      → ListsRole ts t us → x + 1 ≤ 20000 → p ≤ 500000
      → walked (state x p n cs rs)
      (axiom_tests ps (group_item (Some (codes "SubObjectPropertyOf")) (role_items r t) line))
      ≡ Ok (state (x + 1) (p + 0) n cs us)
  sub_role_walk x p n cs rs r t ts us first second few few_parts =
      let is : Items = role_items r t in
      let as_ : List Test = role_tests ps (word_item r line) in
      let bs : List Test = role_tests ps (word_item t line) in
      head_walk x p n cs rs (axiom_tests ps (group_item (Some (codes "SubObjectPropertyOf")) is line)) 0
      (as_ ++ (bs ++ [])) (keywords.sub_role_tests ps line is is refl) few (omega (arith, few_parts))
      ∙ goes_on (state (x + 1) (p + 0) n cs rs) (state (x + 1) (p + 0) n cs ts) as_ (bs ++ [])
      (role_walk (x + 1) (p + 0) n cs rs r ts first)
      ∙ alone (state (x + 1) (p + 0) n cs ts) (state (x + 1) (p + 0) n cs us) bs
      (role_walk (x + 1) (p + 0) n cs ts t us second)

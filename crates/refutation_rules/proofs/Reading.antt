-- Facts over the numbers of a table say the same over a longer table, and what facts over trees say is found by
-- numbers.
use Rattle.std.proofs.Common.{◌≡◌, ℕ, ◌≤◌, ◌&&◌, ltb, Bool, true, List, [], ◌∷◌, ◌++◌, length, refl, ap, sym, ◌∙◌}
use Rattle.std.proofs.Common.{arith}
use Rattle.std.specs.List.{list_all}
use Rattle.std.proofs.lemmas.Bool.{ltb-true, lt-ltb, and_parts, and_from}
use Rattle.std.proofs.lemmas.List.{map-append}
use Rattle.shq_terms.specs.Concept.{Concept}
use Rattle.calculus_specs.specs.Shape.{Shape, IsTable}
use Rattle.calculus_specs.specs.Tree.{tree_of}
use Rattle.shq_nnf.specs.Numbers.{Extends, IsNumber}
use Rattle.shq_nnf.proofs.Numbers.{tree_stays, length_extends}
use Rattle.calculus_specs.specs.declared.facts.Fact.{Fact}
use Rattle.calculus_specs.specs.declared.facts.Fact.TheVariants.{Has, Edge, Apart, Same}
use Rattle.calculus_specs.specs.State.{has, has_tree, has_edge, are_apart, all_apart}
use Rattle.calculus_specs.specs.Reading.{read_fact, read_facts, is_fact_listed, are_listed}
use Rattle.calculus_specs.proofs.Reading.{keeps_state, has-read}
use Rattle.branch_facts.specs.NumberedBranch.{NumberedBranch as Branch}
use Rattle.refutation_rules.specs.Outcomes.{known_of, IsBranch}

-- ---- a longer table

pub facts_stay : (a b : List Shape) → Extends a b → (fs : List (Fact ℕ)) → are_listed (length a) fs ≡ true
    → read_facts (tree_of b) fs ≡ read_facts (tree_of a) fs
facts_stay a b e [] h = refl
facts_stay a b e (Has x c ∷ fs) h =
    let p = and_parts (ltb c (length a)) (are_listed (length a) fs) h in
    let head : tree_of b c ≡ tree_of a c = tree_stays a b e c (ltb-true c (length a) p.0) in
    let tail = facts_stay a b e fs p.1 in
    λ i. Has x (head i) ∷ tail i
facts_stay a b e (Edge r x y ∷ fs) h = ap (λ (l : List (Fact Concept)). Edge r x y ∷ l) (facts_stay a b e fs h)
facts_stay a b e (Apart x y ∷ fs) h = ap (λ (l : List (Fact Concept)). Apart x y ∷ l) (facts_stay a b e fs h)
facts_stay a b e (Same x y ∷ fs) h = ap (λ (l : List (Fact Concept)). Same x y ∷ l) (facts_stay a b e fs h)

-- a branch over the numbers of a table reads the same by a longer table
pub known_stays : (a b : List Shape) (k : Branch) → Extends a b → are_listed (length a) k.facts ≡ true
    → known_of b k ≡ known_of a k
known_stays a b k e h =
    ap (λ (fs : List (Fact Concept)). record { nodes = k.nodes; facts = fs }) (facts_stay a b e k.facts h)

fact_listed : (m n : ℕ) → m ≤ n → (f : Fact ℕ) → is_fact_listed m f ≡ true → is_fact_listed n f ≡ true
fact_listed m n le (Has x c) h = let less = ltb-true c m h in lt-ltb c n (omega arith)
fact_listed m n le (Edge r x y) h = refl
fact_listed m n le (Apart x y) h = refl
fact_listed m n le (Same x y) h = refl

pub listed_more : (m n : ℕ) → m ≤ n → (fs : List (Fact ℕ)) → are_listed m fs ≡ true → are_listed n fs ≡ true
listed_more m n le [] h = refl
listed_more m n le (f ∷ fs) h =
    let p = and_parts (is_fact_listed m f) (are_listed m fs) h in
    and_from (is_fact_listed n f) (are_listed n fs) (fact_listed m n le f p.0) (listed_more m n le fs p.1)

-- a branch over a table is one over a longer table
pub branch_stays : (a b : List Shape) (k : Branch) → Extends a b → IsBranch (length a) k → IsBranch (length b) k
branch_stays a b k e is =
    record { listed = listed_more (length a) (length b) (length_extends a b e) k.facts is.listed; begun = is.begun }

-- ---- what facts say

pub has_number : (table : List Shape) → IsTable table → (fs : List (Fact ℕ)) → are_listed (length table) fs ≡ true
    → (x n : ℕ) (c : Concept) → IsNumber table n c → has_tree (read_facts (tree_of table) fs) x c ≡ has fs x n
has_number table good fs h x n c is =
    ap (has_tree (read_facts (tree_of table) fs) x) (sym is.stands_for) ∙ has-read table good fs h x n is.listed

pub edge_read : (table : List Shape) (fs : List (Fact ℕ)) (roles : ℕ → Bool) (x y : ℕ)
    → has_edge (read_facts (tree_of table) fs) roles x y ≡ has_edge fs roles x y
edge_read table fs roles x y = (keeps_state ℕ Concept (tree_of table) fs).edges roles x y

apart_list-read : (table : List Shape) (fs : List (Fact ℕ)) (y : ℕ) (ys : List ℕ)
    → list_all (are_apart (read_facts (tree_of table) fs) y) ys ≡ list_all (are_apart fs y) ys
apart_list-read table fs y [] = refl
apart_list-read table fs y (z ∷ zs) =
    λ i. (keeps_state ℕ Concept (tree_of table) fs).aparts y z i && apart_list-read table fs y zs i

pub all_apart-read : (table : List Shape) (fs : List (Fact ℕ)) (ys : List ℕ)
    → all_apart (read_facts (tree_of table) fs) ys ≡ all_apart fs ys
all_apart-read table fs [] = refl
all_apart-read table fs (y ∷ ys) = λ i. apart_list-read table fs y ys i && all_apart-read table fs ys i

-- ---- facts more

pub facts_more : (table : List Shape) (fs gs : List (Fact ℕ))
    → read_facts (tree_of table) (fs ++ gs) ≡ read_facts (tree_of table) fs ++ read_facts (tree_of table) gs
facts_more table fs gs = map-append (read_fact (tree_of table)) fs gs

-- Numbers keep their trees while a table grows, and a shape that is put has the tree of its parts.
use Rattle.std.proofs.Common.{◌≡◌, ℕ, ◌+◌, ◌<◌, ◌≤◌, ◌&&◌, ltb, true, List, [], ◌∷◌, ◌++◌, map, length, take, drop}
use Rattle.std.proofs.Common.{refl, ap, sym, ◌∙◌, inl, inr, arith, length-append}
use Rattle.std.specs.List.{list_all}
use Rattle.std.proofs.lemmas.Bool.{ltb-true, lt-ltb, and_parts, and_from}
use Rattle.std.proofs.lemmas.List.{take-take, take_all, take-append-le, take-append-drop, length-take, get_or_push}
use Rattle.std.proofs.lemmas.List.{map-append}
use Rattle.std.proofs.lemmas.List.Folds.{list_all-append}
use Rattle.shq_meaning.specs.Concept.{Concept, top}
use Rattle.calculus_specs.specs.Shape.{Shape, shape_of, has_parts_below, IsTable}
use Rattle.calculus_specs.specs.Shape.Shape.{top as top_shape}
use Rattle.calculus_specs.specs.Tree.{tree_over, trees_of, tree_of}
use Rattle.calculus_specs.proofs.Tree.{tree_of-append, tree_of_new}
use Rattle.calculus_specs.proofs.Unique.{tree_of_shape}
use Rattle.shq_nnf.specs.Numbers.{Extends, IsPut, IsNumber, AreNumbers}

pub extends_itself : (t : List Shape) → Extends t t
extends_itself t = take_all (length t) t (omega arith)

pub length_extends : (a b : List Shape) → Extends a b → length a ≤ length b
length_extends a b e = let long = ap length e in omega (arith, long, length-take (length a) b)

pub extends_twice : (a b c : List Shape) → Extends a b → Extends b c → Extends a c
extends_twice a b c e f =
    sym (take-take (length a) (length b) c (length_extends a b e)) ∙ ap (take (length a)) f ∙ e

pub extends_put : (a : List Shape) (s : Shape) (b : List Shape) (n : ℕ) → IsPut a s b n → Extends a b
extends_put a s b n put = elim put.grown [
  | inl same ↦ ap (take (length a)) same ∙ extends_itself a
  | inr more ↦ ap (take (length a)) more ∙ take-append-le (length a) a (s ∷ []) (omega arith) ∙ extends_itself a
]

pub tree_stays : (a b : List Shape) → Extends a b → (n : ℕ) → n < length a → tree_of b n ≡ tree_of a n
tree_stays a b e n lt =
    let is : b ≡ a ++ drop (length a) b = sym (take-append-drop (length a) b) ∙ ap (λ l. l ++ drop (length a) b) e in
    ap (λ (t : List Shape). tree_of t n) is ∙ tree_of-append a (drop (length a) b) n lt

pub number_stays : (a b : List Shape) (n : ℕ) (c : Concept) → Extends a b → IsNumber a n c → IsNumber b n c
number_stays a b n c e is = record {
  listed = omega (arith, is.listed, length_extends a b e);
  stands_for = tree_stays a b e n is.listed ∙ is.stands_for;
}

listed_stay : (m n : ℕ) → m ≤ n → (cs : List ℕ) → list_all (λ c. ltb c m) cs ≡ true → list_all (λ c. ltb c n) cs ≡ true
listed_stay m n le [] h = refl
listed_stay m n le (c ∷ cs) h =
    let p = and_parts (ltb c m) (list_all (λ d. ltb d m) cs) h in
    let less = ltb-true c m p.0 in
    and_from (ltb c n) (list_all (λ d. ltb d n) cs) (lt-ltb c n (omega arith)) (listed_stay m n le cs p.1)

trees_stay : (a b : List Shape) → Extends a b → (cs : List ℕ) → list_all (λ c. ltb c (length a)) cs ≡ true
    → map (tree_of b) cs ≡ map (tree_of a) cs
trees_stay a b e [] h = refl
trees_stay a b e (c ∷ cs) h =
    let p = and_parts (ltb c (length a)) (list_all (λ d. ltb d (length a)) cs) h in
    let head : tree_of b c ≡ tree_of a c = tree_stays a b e c (ltb-true c (length a) p.0) in
    let tail : map (tree_of b) cs ≡ map (tree_of a) cs = trees_stay a b e cs p.1 in
    λ i. head i ∷ tail i

pub numbers_stay : (a b : List Shape) (ns : List ℕ) (cs : List Concept) → Extends a b → AreNumbers a ns cs
    → AreNumbers b ns cs
numbers_stay a b ns cs e are = record {
  listed = listed_stay (length a) (length b) (length_extends a b e) ns are.listed;
  stand_for = trees_stay a b e ns are.listed ∙ are.stand_for;
}

-- ---- a table's own trees

pub shape_tree : (t : List Shape) → IsTable t → (n : ℕ) → n < length t
    → tree_of t n ≡ tree_over (trees_of t) (shape_of t n)
shape_tree t good n lt = tree_of_shape t n lt (good.parts_below n lt)

pub top_number : (t : List Shape) → IsTable t → IsNumber t 0 top
top_number t good = record {
  listed = good.has_top;
  stands_for = shape_tree t good 0 good.has_top ∙ ap (tree_over (trees_of t)) good.begins_with_top;
}

pub put_number : (a : List Shape) (s : Shape) (b : List Shape) (n : ℕ) → IsTable b → has_parts_below (length a) s ≡ true
    → IsTable a → IsPut a s b n → IsNumber b n (tree_over (trees_of a) s)
put_number a s b n good below earlier put = elim put.grown [
  | inl same ↦
      let lt : n < length a = let long = ap length same in omega (arith, put.listed) in
      record {
        listed = put.listed;
        stands_for =
            ap (λ (t : List Shape). tree_of t n) same ∙ shape_tree a earlier n lt
            ∙ ap (tree_over (trees_of a)) (sym (ap (λ (t : List Shape). shape_of t n) same) ∙ put.has_shape);
      }
  | inr more ↦
      let long : length b ≡ length a + 1 = ap length more ∙ length-append a (s ∷ []) in
      let last : shape_of b (length a) ≡ s =
      ap (λ (t : List Shape). shape_of t (length a)) more ∙ get_or_push a s top_shape (length a) refl in
      let place : n ≡ length a =
      good.are_distinct n (length a) put.listed (omega (arith, long)) (put.has_shape ∙ sym last) in
      record {
        listed = put.listed;
        stands_for = ap (tree_of b) place ∙ ap (λ (t : List Shape). tree_of t (length a)) more ∙ tree_of_new a s [];
      }
]

-- one more of the numbers
pub numbers_push : (t : List Shape) (ns : List ℕ) (cs : List Concept) (n : ℕ) (c : Concept) → AreNumbers t ns cs
    → IsNumber t n c → AreNumbers t (ns ++ n ∷ []) (cs ++ c ∷ [])
numbers_push t ns cs n c are is = record {
  listed =
      list_all-append (λ k. ltb k (length t)) ns (n ∷ [])
      ∙ and_from (list_all (λ k. ltb k (length t)) ns) (ltb n (length t) && true) are.listed
      (ap (λ b. b && true) (lt-ltb n (length t) is.listed));
  stand_for = map-append (tree_of t) ns (n ∷ []) ∙ (λ i. are.stand_for i ++ is.stands_for i ∷ []);
}

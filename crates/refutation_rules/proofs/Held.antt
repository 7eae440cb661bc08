-- The shape of a concept that a known node has, and where a line goes on from it.
use Rattle.std.proofs.Common.{◌≡◌, ℕ, ◌≤◌, ◌&&◌, ltb, Bool, true, false, List, [], ◌∷◌, Option, Some, None, refl, ap}
use Rattle.std.proofs.Common.{◌∙◌, arith}
use Rattle.std.specs.List.{list_all}
use Rattle.std.proofs.lemmas.Bool.{ltb-true, lt-ltb, and_parts, and_from}
use Rattle.shq_terms.specs.Concept.{Concept}
use Rattle.calculus_specs.specs.Shape.{Shape, has_parts_below}
use Rattle.calculus_specs.specs.Shape.Shape.{top, bottom, name, not_name, intersection, union, some_of, all_of}
use Rattle.calculus_specs.specs.Shape.Shape.{at_least, at_most}
use Rattle.calculus_specs.specs.State.{has_tree}
use Rattle.calculus_specs.specs.Rules.{Known, knows, when, at_concept}

-- ---- parts below a number are below a greater one

listed_more : (m n : ℕ) → m ≤ n → (cs : List ℕ) → list_all (λ c. ltb c m) cs ≡ true → list_all (λ c. ltb c n) cs ≡ true
listed_more m n le [] h = refl
listed_more m n le (c ∷ cs) h =
    let p = and_parts (ltb c m) (list_all (λ d. ltb d m) cs) h in
    let less = ltb-true c m p.0 in
    and_from (ltb c n) (list_all (λ d. ltb d n) cs) (lt-ltb c n (omega arith)) (listed_more m n le cs p.1)

one_more : (m n c : ℕ) → m ≤ n → ltb c m ≡ true → ltb c n ≡ true
one_more m n c le h = let less = ltb-true c m h in lt-ltb c n (omega arith)

pub parts_more : (m n : ℕ) (s : Shape) → m ≤ n → has_parts_below m s ≡ true → has_parts_below n s ≡ true
parts_more m n top le h = refl
parts_more m n bottom le h = refl
parts_more m n (name a) le h = refl
parts_more m n (not_name a) le h = refl
parts_more m n (intersection cs) le h = listed_more m n le cs h
parts_more m n (union cs) le h = listed_more m n le cs h
parts_more m n (some_of r c) le h = one_more m n c le h
parts_more m n (all_of r c) le h = one_more m n c le h
parts_more m n (at_least k r c) le h = one_more m n c le h
parts_more m n (at_most k r c) le h = one_more m n c le h

-- ---- the answer for a concept

module _ (k : Known) (x : ℕ) (o : Option Concept) (answer : Concept → Option (List Known)) where
  pub at_none : o ≡ None → at_concept k x o answer ≡ None
  at_none e = ap (λ (p : Option Concept). at_concept k x p answer) e

  pub at_lacked : (c : Concept) → o ≡ Some c → (knows k x && has_tree k.facts x c) ≡ false
      → at_concept k x o answer ≡ None
  at_lacked c e h = ap (λ (p : Option Concept). at_concept k x p answer) e ∙ ap (λ (b : Bool). when b (answer c)) h

  pub at_held : (c : Concept) → o ≡ Some c → (knows k x && has_tree k.facts x c) ≡ true
      → at_concept k x o answer ≡ answer c
  at_held c e h = ap (λ (p : Option Concept). at_concept k x p answer) e ∙ ap (λ (b : Bool). when b (answer c)) h

-- Lists of names only grow.
use Rattle.std.proofs.Common.{◌≡◌, ℕ, List, [], ◌∷◌, ◌++◌, take, length, ap, ◌∙◌, refl, position, Option, Some, None}
use Rattle.std.proofs.Common.{arith}
use Rattle.std.proofs.lemmas.List.{take_all}
use Rattle.std.specs.Str.{bytes_eq}
use Rattle.shq_terms.specs.Names.{with_at, with_name}
use Rattle.ofn_expressions.specs.Counts.{State, Grows}

front : {A : Type 0} (xs ys zs : List A) → take (length xs) ys ≡ xs → take (length ys) zs ≡ ys
    → take (length xs) zs ≡ xs
front [] ys zs a b = refl
front (x ∷ xs) [] zs a b = let clash : [] ≡ x ∷ xs = a in absurd (cc clash)
front (x ∷ xs) (y ∷ ys) [] a b = let clash : [] ≡ y ∷ ys = b in absurd (cc clash)
front (x ∷ xs) (y ∷ ys) (z ∷ zs) a b =
    let head_a : y ≡ x = cc a in
    let tail_a : take (length xs) ys ≡ xs = cc a in
    let head_b : z ≡ y = cc b in
    let tail_b : take (length ys) zs ≡ ys = cc b in
    let rest : take (length xs) zs ≡ xs = front xs ys zs tail_a tail_b in
    λ i. (head_b ∙ head_a) i ∷ rest i

pub take_push : {A : Type 0} (xs ys : List A) → take (length xs) (xs ++ ys) ≡ xs
take_push [] ys = refl
take_push (x ∷ xs) ys = ap (λ l. x ∷ l) (take_push xs ys)

pub grows_name : (names : List (List ℕ)) (w : List ℕ) → take (length names) (with_name names w) ≡ names
grows_name names w = by (position (bytes_eq w) names)
  where
    by : (r : Option ℕ) → take (length names) (with_at r names w) ≡ names
    by (Some k) = take_all (length names) names (omega arith)
    by None = take_push names (w ∷ [])

pub grows_same : (s : State) → Grows s s
grows_same s = record {
  axioms = refl;
  parts = refl;
  nodes = omega arith;
  classes = take_all (length s.counts.classes) s.counts.classes (omega arith);
  roles = take_all (length s.counts.roles) s.counts.roles (omega arith);
  individuals = take_all (length s.counts.individuals) s.counts.individuals (omega arith);
  read = refl;
}

pub grows_grows : (a b c : State) → Grows a b → Grows b c → Grows a c
grows_grows a b c f g = record {
  axioms = g.axioms ∙ f.axioms;
  parts = g.parts ∙ f.parts;
  nodes = omega (arith, f.nodes, g.nodes);
  classes = front a.counts.classes b.counts.classes c.counts.classes f.classes g.classes;
  roles = front a.counts.roles b.counts.roles c.counts.roles f.roles g.roles;
  individuals = front a.counts.individuals b.counts.individuals c.counts.individuals f.individuals g.individuals;
  read = g.read ∙ f.read;
}

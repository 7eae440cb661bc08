-- The node in question of a query on any element is that of no individual.
use Rattle.std.proofs.Common.{◌≡◌, ℕ, ◌-◌, not, eqb, ltb, Bool, true, ap, sym, subst, arith}
use Rattle.std.specs.Prelude.{slice_get}
use Rattle.std.proofs.lemmas.Bool.{and_parts, and_from, ltb-true, ne_eqb}
use Rattle.shq_terms.specs.Concept.{Concept}
use Rattle.calculus_specs.specs.declared.facts.Fact.{Fact}
use Rattle.calculus_specs.specs.declared.facts.Fact.TheVariants.{Has, Edge, Apart, Same}
use Rattle.refutation_truth.specs.Theory.{nodes_pass, fact_in, node_in_question}
use Rattle.search_laws.specs.ReuseLaws.{AnyIsUnnamed}
use Rattle.search_laws.proofs.GivenFacts.{listed_split, given_split}

nodes_pass_more : (p r : ℕ → Bool) → ((x : ℕ) → p x ≡ true → r x ≡ true) → (f : Fact Concept) → nodes_pass p f ≡ true
    → nodes_pass r f ≡ true
nodes_pass_more p r imp (Has x c) h = imp x h
nodes_pass_more p r imp (Edge s x y) h = let t = and_parts (p x) (p y) h in and_from (r x) (r y) (imp x t.0) (imp y t.1)
nodes_pass_more p r imp (Apart x y) h = let t = and_parts (p x) (p y) h in and_from (r x) (r y) (imp x t.0) (imp y t.1)
nodes_pass_more p r imp (Same x y) h = let t = and_parts (p x) (p y) h in and_from (r x) (r y) (imp x t.0) (imp y t.1)

pub any_is_unnamed : AnyIsUnnamed
any_is_unnamed n axioms ks q any a p f e =
    let t = listed_split n (fact_in (slice_get axioms (a - 1)) p) f (given_split n axioms ks a p f e).1 in
    subst (λ (at : ℕ). nodes_pass (λ x. not (eqb x at)) f ≡ true) (sym (ap (node_in_question n) any))
    (nodes_pass_more (λ x. ltb x n) (λ x. not (eqb x n))
    (λ x lt. ap not (ne_eqb x n (λ same. absurd (omega (arith, same, ltb-true x n lt))))) f t.1)

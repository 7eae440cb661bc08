-- What axioms give, over a table and a longer one.
use Rattle.std.proofs.Common.{◌≡◌, ℕ, not, eqb, true, List, ◌++◌, length, Some, refl, ap, ◌∙◌, sym, subst, arith}
use Rattle.std.proofs.Common.{lt-ltb, length-append}
use Rattle.std.proofs.lemmas.Bool.{and_parts, ltb-true, eq-eqb}
use Rattle.calculus_specs.specs.Concept.{Concept}
use Rattle.calculus_specs.specs.Shape.{Shape, IsTable}
use Rattle.calculus_specs.specs.Tree.{tree_of}
use Rattle.calculus_specs.specs.Rows.{Row}
use Rattle.calculus_specs.specs.Rules.{Question}
use Rattle.calculus_specs.specs.declared.facts.Fact.{Fact}
use Rattle.calculus_specs.specs.declared.facts.Fact.TheVariants.{Has, Edge, Apart, Same}
use Rattle.calculus_specs.specs.Reading.{read_fact, is_fact_listed}
use Rattle.calculus_specs.proofs.Tree.{tree_of-append}
use Rattle.refutation_truth.specs.Theory.{nodes_pass}
use Rattle.tableau_specs.specs.Steps.{IsGiven}
use Rattle.tableau_specs.specs.Reached.{FactsHaveNumbers, context_of}
use Rattle.search_laws.specs.ReuseLaws.{IsUnnamed}
use Rattle.search_laws.proofs.Given.{numbered, numbered_back}
use Rattle.search_laws.proofs.Root.{Avoids}

-- ---- given facts do not speak of a node that no axiom names

passes_other : (x at : ℕ) → not (eqb x at) ≡ true → ¬ (x ≡ at)
passes_other x at h e = (let k = ap not (eq-eqb x at e) in cc)

read_avoids : (t : ℕ → Concept) (at : ℕ) (f : Fact ℕ) → nodes_pass (λ x. not (eqb x at)) (read_fact t f) ≡ true
    → Avoids at f
read_avoids t at (Has x c) h = passes_other x at h
read_avoids t at (Edge r x y) h =
    let b = and_parts (not (eqb x at)) (not (eqb y at)) h in (passes_other x at b.0, passes_other y at b.1)
read_avoids t at (Apart x y) h =
    let b = and_parts (not (eqb x at)) (not (eqb y at)) h in (passes_other x at b.0, passes_other y at b.1)
read_avoids t at (Same x y) h =
    let b = and_parts (not (eqb x at)) (not (eqb y at)) h in (passes_other x at b.0, passes_other y at b.1)

pub given_avoids : (q : Question) (table : List Shape) (rows : List Row) → IsUnnamed q → (f : Fact ℕ)
    → IsGiven (context_of q table rows) f → Avoids q.at f
given_avoids q table rows unnamed f g =
    read_avoids (tree_of table) q.at f (unnamed g.axiom_number g.place (read_fact (tree_of table) f) g.is_there)

-- ---- a longer table

module _ (q : Question) (table more : List Shape) (rows : List Row) where
  read_up : (f : Fact ℕ) → is_fact_listed (length table) f ≡ true
      → read_fact (tree_of table) f ≡ read_fact (tree_of (table ++ more)) f
  read_up (Has x c) h = ap (Has x) (sym (tree_of-append table more c (ltb-true c (length table) h)))
  read_up (Edge r x y) h = refl
  read_up (Apart x y) h = refl
  read_up (Same x y) h = refl

  still_listed : (f : Fact ℕ) → is_fact_listed (length table) f ≡ true
      → is_fact_listed (length (table ++ more)) f ≡ true
  still_listed (Has x c) h =
      lt-ltb c (length (table ++ more)) (omega (arith, ltb-true c (length table) h, length-append table more))
  still_listed (Edge r x y) h = refl
  still_listed (Apart x y) h = refl
  still_listed (Same x y) h = refl

  pub given_up : (f : Fact ℕ) → IsGiven (context_of q table rows) f → IsGiven (context_of q (table ++ more) rows) f
  given_up f h = record {
    axiom_number = h.axiom_number;
    place = h.place;
    is_there = h.is_there ∙ ap (λ (g : Fact Concept). Some g) (read_up f h.listed);
    listed = still_listed f h.listed;
    on_first = h.on_first;
  }

  pub facts_up : FactsHaveNumbers q table → FactsHaveNumbers q (table ++ more)
  facts_up h a p f there =
      let n = h a p f there in
      record {
        fact = n.fact;
        reads = sym (read_up n.fact n.listed) ∙ n.reads;
        listed = still_listed n.fact n.listed;
        on_first = n.on_first;
      }

  -- where each given fact has numbers in the shorter table, the longer one gives no more
  pub given_down : IsTable (table ++ more) → FactsHaveNumbers q table → (f : Fact ℕ)
      → IsGiven (context_of q (table ++ more) rows) f → IsGiven (context_of q table rows) f
  given_down longer have f g =
      let n = have g.axiom_number g.place (read_fact (tree_of (table ++ more)) f) g.is_there in
      let same : n.fact ≡ f =
      sym (numbered_back (table ++ more) longer n.fact (still_listed n.fact n.listed))
      ∙ ap (numbered (table ++ more)) (sym (read_up n.fact n.listed) ∙ n.reads)
      ∙ numbered_back (table ++ more) longer f g.listed in
      record {
        axiom_number = g.axiom_number;
        place = g.place;
        is_there = g.is_there ∙ ap (λ (h : Fact Concept). Some h) (sym n.reads ∙ ap (read_fact (tree_of table)) same);
        listed = subst (λ (h : Fact ℕ). is_fact_listed (length table) h ≡ true) same n.listed;
        on_first = g.on_first;
      }

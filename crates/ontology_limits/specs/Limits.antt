-- The limits of an ontology and of a query on it, together: what is read is within them, and each later call asks for
-- them.
use Rattle.std.specs.Prelude.{◌≡◌, ℕ, ◌+◌, ◌≤◌, Bool, true, ◌&&◌, List, [], ◌∷◌, length, nat_le, nat_lt}
use Rattle.std.specs.List.{list_all}
use Rattle.role_box.specs.Concept.{Concept, top, bottom, name, complement, intersection, union, some_of, all_of}
use Rattle.role_box.specs.Concept.{at_least, at_most, exactly, Parts, no_parts, part, parts_of, part_list}
use Rattle.role_box.specs.Listed.{Listed}
use Rattle.role_box.specs.Uses.{uses_listed, all_use_listed}
use Rattle.role_box.specs.Axiom.{Axiom}
use Rattle.role_box.specs.Axiom.TheVariants.{SubClassOf, EquivalentClasses, DisjointClasses, DisjointUnion, SubRole}
use Rattle.role_box.specs.Axiom.TheVariants.{EquivalentRoles, Domain, Range, Functional, Transitive, Member, Pair}
use Rattle.role_box.specs.Axiom.TheVariants.{SameAll, Different}
use Rattle.role_box.specs.Numbered.{Numbered}
use Rattle.role_box.specs.Query.{Query}
use Rattle.role_box.specs.On.{On}
use Rattle.role_box.specs.On.TheVariants.{Any, Individual}
use Rattle.role_box.specs.Counted.{counted_by_query}
use Rattle.role_box.specs.Simple.{are_simple, counts_simple, all_role_axioms}
use Rattle.shq_nnf.specs.Counts.{has_counts_within}
use Rattle.shq_nnf.specs.Facts.{facts_of}
use Rattle.shq_nnf.specs.Parts.{axiom_parts, axiom_has_counts_within}

-- ---- numbers of items (OWL 2 Structural Specification, sections 8.1, 9.1 and 9.2)

-- each intersection and each union in the expression has two parts at least
abbrev mutual
  pub has_enough_parts : Concept → Bool
  has_enough_parts top = true
  has_enough_parts bottom = true
  has_enough_parts (name a) = true
  has_enough_parts (complement c) = has_enough_parts c
  has_enough_parts (intersection cs) = nat_le 2 (length (part_list cs)) && have_enough_parts cs
  has_enough_parts (union cs) = nat_le 2 (length (part_list cs)) && have_enough_parts cs
  has_enough_parts (some_of r c) = has_enough_parts c
  has_enough_parts (all_of r c) = has_enough_parts c
  has_enough_parts (at_least n r c) = has_enough_parts c
  has_enough_parts (at_most n r c) = has_enough_parts c
  has_enough_parts (exactly n r c) = has_enough_parts c

  pub have_enough_parts : Parts → Bool
  have_enough_parts no_parts = true
  have_enough_parts (part c cs) = has_enough_parts c && have_enough_parts cs

-- equivalent and disjoint classes are two at least, and so are equivalent roles, the parts of a disjoint union, and
-- individuals that are the same or different
abbrev pub has_enough_items : Axiom → Bool
has_enough_items (SubClassOf c d) = has_enough_parts c && has_enough_parts d
has_enough_items (EquivalentClasses cs) = nat_le 2 (length cs) && have_enough_parts (parts_of cs)
has_enough_items (DisjointClasses cs) = nat_le 2 (length cs) && have_enough_parts (parts_of cs)
has_enough_items (DisjointUnion c cs) = nat_le 2 (length cs) && (has_enough_parts c && have_enough_parts (parts_of cs))
has_enough_items (SubRole r s) = true
has_enough_items (EquivalentRoles rs) = nat_le 2 (length rs)
has_enough_items (Domain r c) = has_enough_parts c
has_enough_items (Range r c) = has_enough_parts c
has_enough_items (Functional r) = true
has_enough_items (Transitive r) = true
has_enough_items (Member c a) = has_enough_parts c
has_enough_items (Pair r a b) = true
has_enough_items (SameAll as_) = nat_le 2 (length as_)
has_enough_items (Different as_) = nat_le 2 (length as_)

-- ---- the limits

-- how many parts axioms have together, of which each fact of an assertion is one
abbrev pub part_count : List Numbered → ℕ
part_count [] = 0
part_count (a ∷ as_) = length (axiom_parts a.axiom) + length (facts_of a.axiom) + part_count as_

-- The names of an ontology's axioms are listed, their groups have as many items as they need, no cardinality is above
-- 100, each role that is counted is simple, and there are not too many axioms, names and parts.
pub record IsOntologyInLimit (o : Listed) : Type 0 where
  pub listed : all_use_listed (length o.classes) (length o.roles) (length o.individuals) o.axioms ≡ true
  pub items : list_all (λ (a : Numbered). has_enough_items a.axiom) o.axioms ≡ true
  pub counts : list_all (λ (a : Numbered). axiom_has_counts_within 100 a.axiom) o.axioms ≡ true
  pub simple : list_all (counts_simple (all_role_axioms o.axioms)) o.axioms ≡ true
  pub few_axioms : length o.axioms ≤ 20000
  pub few_classes : length o.classes ≤ 20000
  pub few_roles : length o.roles ≤ 1000
  pub few_individuals : length o.individuals ≤ 20000
  pub few_parts : part_count o.axioms ≤ 500000

-- the individual that a query is on, if it is on one, is among so many
abbrev pub is_on_listed : ℕ → On → Bool
is_on_listed individuals Any = true
is_on_listed individuals (Individual a) = nat_lt a individuals

-- The same of an ontology and a query on it, where the ontology lists the names of both.
pub record IsInLimit (o : Listed) (q : Query) : Type 0 where
  pub ontology : IsOntologyInLimit o
  pub listed :
      (uses_listed (length o.classes) (length o.roles) q.sub && uses_listed (length o.classes) (length o.roles) q.sup)
      ≡ true
  pub items : (has_enough_parts q.sub && has_enough_parts q.sup) ≡ true
  pub counts : (has_counts_within 100 q.sub && has_counts_within 100 q.sup) ≡ true
  pub simple : are_simple (all_role_axioms o.axioms) (counted_by_query q) ≡ true
  pub on_listed : is_on_listed (length o.individuals) q.on ≡ true

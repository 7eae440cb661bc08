-- What the axioms of some numbers give to refutations. Numbers count from 1, and none is 0.
use Rattle.std.specs.Prelude.{ℕ, ◌+◌, ◌-◌, ◌&&◌, nat_lt, nat_le, Bool, List, [], ◌∷◌, ◌++◌, map, length, Option, Some}
use Rattle.std.specs.Prelude.{None, slice_get, if◌then◌else◌}
use Rattle.shq_nnf.specs.Concept.{Concept}
use Rattle.shq_nnf.specs.Axiom.{Axiom}
use Rattle.shq_nnf.specs.Numbered.{Numbered}
use Rattle.role_box.specs.On.{On}
use Rattle.role_box.specs.On.TheVariants.{Any, Individual}
use Rattle.role_box.specs.Query.{Query}
use Rattle.role_box.specs.Listed.{Listed}
use Rattle.role_box.specs.TheoryRows.{Part, NumberedPart, Theory, is_among}
use Rattle.role_box.specs.Fact.{Fact}
use Rattle.role_box.specs.Fact.TheVariants.{Has, Edge, Apart, Same}
use Rattle.role_box.specs.Rules.{Question}
use Rattle.shq_nnf.specs.Parts.{axiom_parts, part_in}
use Rattle.shq_nnf.specs.Facts.{fact_at}
use Rattle.role_box.specs.RoleAxioms.{role_axioms}
use Rattle.role_box.specs.Steps.{is_transitive}
use Rattle.role_box.specs.Paths.{is_below}

-- the axiom of a number, in a list of one; none where there is no such axiom
abbrev pub axioms_in : Option Numbered → List Axiom
axioms_in None = []
axioms_in (Some n) = n.axiom ∷ []

-- the axioms of these numbers
abbrev pub named_axioms : List Numbered → List ℕ → List Axiom
named_axioms axioms [] = []
named_axioms axioms (k ∷ ks) = axioms_in (slice_get axioms (k - 1)) ++ named_axioms axioms ks

-- all of the axioms
abbrev pub all_axioms : List Numbered → List Axiom
all_axioms axioms = map (λ n. n.axiom) axioms

-- ---- the parts of the axioms of these numbers

-- the parts of an axiom, where there is one
abbrev pub parts_in : Option Numbered → List Part
parts_in None = []
parts_in (Some n) = axiom_parts n.axiom

-- the parts of the axiom of a number
abbrev pub parts_at : List Numbered → ℕ → List Part
parts_at axioms k = parts_in (slice_get axioms (k - 1))

-- parts of the axiom k, numbered from `first` on
abbrev pub numbered_parts : ℕ → ℕ → List Part → List NumberedPart
numbered_parts k first [] = []
numbered_parts k first (q ∷ qs) =
    record { axiom_number = k; part_number = first; part = q } ∷ numbered_parts k (first + 1) qs

-- the parts of the axioms of some numbers, each with its numbers
abbrev pub named_parts : List Numbered → List ℕ → List NumberedPart
named_parts axioms [] = []
named_parts axioms (k ∷ ks) = numbered_parts k 1 (parts_at axioms k) ++ named_parts axioms ks

-- the parts of the axioms of these numbers, and the tests of roles that the role axioms among them make
abbrev pub theory_of : List Numbered → List ℕ → Theory
theory_of axioms ks = record {
  parts = named_parts axioms ks;
  below = is_below (role_axioms axioms ks);
  is_transitive = is_transitive (role_axioms axioms ks);
}

-- the part of an axiom that has a number, where the axiom is among those of the numbers and has such a part
abbrev pub part_of_axiom : List Numbered → List ℕ → ℕ → ℕ → Option Part
part_of_axiom axioms ks a p =
    if is_among ks a && nat_le 1 p && nat_le p (length (parts_at axioms a))
    then Some (part_in (parts_at axioms a) (p - 1)) else None

-- ---- the facts of the axioms of these numbers, and what a query asks

-- whether each of the fact's nodes passes a test
abbrev pub nodes_pass : (ℕ → Bool) → Fact Concept → Bool
nodes_pass p (Has x c) = p x
nodes_pass p (Edge r x y) = p x && p y
nodes_pass p (Apart x y) = p x && p y
nodes_pass p (Same x y) = p x && p y

-- the fact, where its nodes are those of the first k individuals
abbrev pub listed_fact : ℕ → Option (Fact Concept) → Option (Fact Concept)
listed_fact k None = None
listed_fact k (Some f) = if nodes_pass (λ x. nat_lt x k) f then Some f else None

-- the fact of an axiom that has a place, from 1
abbrev pub fact_in : Option Numbered → ℕ → Option (Fact Concept)
fact_in None place = None
fact_in (Some n) place = fact_at n.axiom place

-- The fact of the axiom of a number that has a place, where the axiom is among those of the numbers and the fact is of
-- the first k individuals alone: any other node may be that of a new element, of which the axiom says nothing. Here k
-- is any number; the axioms of an ontology name its individuals alone, so that each fact of theirs is one.
abbrev pub fact_of_axiom : ℕ → List Numbered → List ℕ → ℕ → ℕ → Option (Fact Concept)
fact_of_axiom k axioms ks a place =
    if is_among ks a then listed_fact k (fact_in (slice_get axioms (a - 1)) place) else None

-- The node in question, where k individuals are listed: that of the individual that is asked of, or where each element
-- is, the node after those of all individuals. An individual that is not listed has none: no first node is k + 1.
abbrev pub node_in_question : ℕ → On → ℕ
node_in_question k Any = k
node_in_question k (Individual a) = if nat_lt a k then a else k + 1

-- what refutes a query over the axioms of these numbers, where k individuals are listed
abbrev pub question_of : ℕ → List Numbered → List ℕ → Query → Question
question_of k axioms ks q = record {
  theory = theory_of axioms ks;
  sub = q.sub;
  sup = q.sup;
  first = k + 1;
  at = node_in_question k q.on;
  fact_of = fact_of_axiom k axioms ks;
}

-- the same of the axioms and the individuals of an ontology
abbrev pub question_in : Listed → List ℕ → Query → Question
question_in o ks q = question_of (length o.individuals) o.axioms ks q

-- The facts of assertions, by their places and over concepts by number.
use Rattle.std.specs.Prelude.{◌≡◌, ℕ, nat_lt, Bool, true, IsTrue, List, length, Option, Some, None}
use denote.Ref.{Bor}
use Rattle.shq_terms.specs.Concept.{Concept}
use Rattle.calculus_specs.specs.Normal.{normal_form}
use Rattle.calculus_specs.specs.Shape.{Shape}
use Rattle.calculus_specs.specs.Tree.{tree_of}
use Rattle.calculus_specs.specs.declared.facts.Fact.{Fact}
use Rattle.calculus_specs.specs.declared.facts.Fact.TheVariants.{Has, Edge, Apart, Same}
use Rattle.calculus_specs.specs.Reading.{read_fact, is_fact_listed}
use Rattle.shq_nnf.specs.Counts.{has_counts_within}
use Rattle.row_cache.specs.Theory.{nodes_pass}

-- the normal form of a class expression that is borrowed
abbrev pub form_behind : Bor Concept → Concept
form_behind c = normal_form c.now

-- the cardinalities of the fact's class expression, if it has one, are within the limit
abbrev pub HasCountsWithin : Fact (Bor Concept) → Type 0
HasCountsWithin (Has x c) = IsTrue (has_counts_within 100 c.now)
HasCountsWithin (Edge r x y) = Unit {0}
HasCountsWithin (Apart x y) = Unit {0}
HasCountsWithin (Same x y) = Unit {0}

-- whether the nodes of the fact are among the first ones
abbrev pub is_of_first : ℕ → Fact (Bor Concept) → Bool
is_of_first count f = nodes_pass (λ x. nat_lt x count) (read_fact form_behind f)

-- the fact that two individuals are the same
abbrev pub same_pair : ℕ × ℕ → Fact Concept
same_pair p = Same p.0 p.1

-- the fact that two individuals are apart
abbrev pub apart_pair : ℕ × ℕ → Fact Concept
apart_pair p = Apart p.0 p.1

-- the fact over numbers of the table reads as the one that is there; where there is none, none is told
abbrev pub IsFactFound : List Shape → Option (Fact Concept) → Option (Fact ℕ) → Type 0
IsFactFound table None None = Unit {0}
IsFactFound table (Some f) (Some g) = (read_fact (tree_of table) g ≡ f) × (is_fact_listed (length table) g ≡ true)
IsFactFound table _ _ = ⊥

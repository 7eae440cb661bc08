-- The print of a query: a number below 4,093 that tells most queries apart, by which tests are filed. Equal queries
-- have equal prints.
use Rattle.std.specs.Prelude.{ℕ, ◌+◌, ◌*◌, ◌%◌}
use Rattle.shq_terms.specs.Concept.{Concept, top, bottom, name, complement, intersection, union, some_of, all_of}
use Rattle.shq_terms.specs.Concept.{at_least, at_most, exactly, Parts, no_parts, part}
use Rattle.shq_terms.specs.declared.axioms.On.{On}
use Rattle.shq_terms.specs.declared.axioms.On.TheVariants.{Any, Individual}
use Rattle.shq_terms.specs.declared.axioms.Query.{Query}

-- one number more is taken into a print
unfoldable pub mixed : ℕ → ℕ → ℕ
mixed print n = (print * 31 + n) % 4093

-- each kind of class expression has a number of its own, after which its numbers and its parts come
abbrev mutual
  pub with_concept : ℕ → Concept → ℕ
  with_concept print top = mixed print 1
  with_concept print bottom = mixed print 2
  with_concept print (name a) = mixed (mixed print 3) a
  with_concept print (complement c) = with_concept (mixed print 4) c
  with_concept print (intersection cs) = with_parts (mixed print 5) cs
  with_concept print (union cs) = with_parts (mixed print 6) cs
  with_concept print (some_of r c) = with_concept (mixed (mixed print 7) r) c
  with_concept print (all_of r c) = with_concept (mixed (mixed print 8) r) c
  with_concept print (at_least n r c) = with_concept (mixed (mixed (mixed print 9) n) r) c
  with_concept print (at_most n r c) = with_concept (mixed (mixed (mixed print 10) n) r) c
  with_concept print (exactly n r c) = with_concept (mixed (mixed (mixed print 11) n) r) c

  pub with_parts : ℕ → Parts → ℕ
  with_parts print no_parts = mixed print 12
  with_parts print (part c cs) = with_parts (with_concept print c) cs

-- the print after what a query is on: each element, or an individual
abbrev pub with_on : ℕ → On → ℕ
with_on print Any = mixed print 1
with_on print (Individual a) = mixed (mixed print 2) a

-- the print of a query
abbrev pub query_print : Query → ℕ
query_print q = with_on (with_concept (with_concept 0 q.sub) q.sup) q.on

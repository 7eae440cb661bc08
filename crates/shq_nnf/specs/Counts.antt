-- The cardinalities that a class expression names.
use Rattle.std.specs.Prelude.{ℕ, Bool, true, ◌&&◌, nat_le}
use Rattle.shq_meaning.specs.Concept.{Concept, top, bottom, name, complement, intersection, union, some_of, all_of}
use Rattle.shq_meaning.specs.Concept.{at_least, at_most, exactly, Parts, no_parts, part}

-- whether each is at most a limit
abbrev mutual
  pub has_counts_within : ℕ → Concept → Bool
  has_counts_within limit top = true
  has_counts_within limit bottom = true
  has_counts_within limit (name a) = true
  has_counts_within limit (complement c) = has_counts_within limit c
  has_counts_within limit (intersection cs) = have_counts_within limit cs
  has_counts_within limit (union cs) = have_counts_within limit cs
  has_counts_within limit (some_of r c) = has_counts_within limit c
  has_counts_within limit (all_of r c) = has_counts_within limit c
  has_counts_within limit (at_least n r c) = nat_le n limit && has_counts_within limit c
  has_counts_within limit (at_most n r c) = nat_le n limit && has_counts_within limit c
  has_counts_within limit (exactly n r c) = nat_le n limit && has_counts_within limit c

  pub have_counts_within : ℕ → Parts → Bool
  have_counts_within limit no_parts = true
  have_counts_within limit (part c cs) = has_counts_within limit c && have_counts_within limit cs

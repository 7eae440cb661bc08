-- A test whether two class expressions are the same tree.
use Rattle.std.specs.Prelude.{◌==◌, ◌&&◌, Bool, true, false}
use Rattle.shq_base.specs.Concept.{Concept, top, bottom, name, complement, intersection, union, some_of, all_of}
use Rattle.shq_base.specs.Concept.{at_least, at_most, exactly, Parts, no_parts, part}

abbrev mutual
  -- two class expressions are one tree
  pub is_same : Concept → Concept → Bool
  is_same top top = true
  is_same bottom bottom = true
  is_same (name a) (name b) = a == b
  is_same (complement c) (complement d) = is_same c d
  is_same (intersection cs) (intersection ds) = are_same cs ds
  is_same (union cs) (union ds) = are_same cs ds
  is_same (some_of r c) (some_of s d) = r == s && is_same c d
  is_same (all_of r c) (all_of s d) = r == s && is_same c d
  is_same (at_least n r c) (at_least m s d) = n == m && r == s && is_same c d
  is_same (at_most n r c) (at_most m s d) = n == m && r == s && is_same c d
  is_same (exactly n r c) (exactly m s d) = n == m && r == s && is_same c d
  is_same _ _ = false

  -- two lists of parts are the same, part by part
  pub are_same : Parts → Parts → Bool
  are_same no_parts no_parts = true
  are_same (part c cs) (part d ds) = is_same c d && are_same cs ds
  are_same _ _ = false

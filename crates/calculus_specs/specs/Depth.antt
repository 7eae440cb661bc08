-- How deep the roles of a concept nest.
use Rattle.std.specs.Prelude.{ℕ, ◌+◌, max}
use Rattle.shq_base.specs.Concept.{Concept, top, bottom, name, complement, intersection, union, some_of, all_of}
use Rattle.shq_base.specs.Concept.{at_least, at_most, exactly, Parts, no_parts, part}

abbrev mutual
  -- how many restrictions over roles stand in each other at most
  pub role_depth : Concept → ℕ
  role_depth top = 0
  role_depth bottom = 0
  role_depth (name a) = 0
  role_depth (complement c) = role_depth c
  role_depth (intersection cs) = role_depth_parts cs
  role_depth (union cs) = role_depth_parts cs
  role_depth (some_of r c) = role_depth c + 1
  role_depth (all_of r c) = role_depth c + 1
  role_depth (at_least n r c) = role_depth c + 1
  role_depth (at_most n r c) = role_depth c + 1
  role_depth (exactly n r c) = role_depth c + 1

  -- the greatest role depth of a part
  pub role_depth_parts : Parts → ℕ
  role_depth_parts no_parts = 0
  role_depth_parts (part c cs) = max (role_depth c) (role_depth_parts cs)

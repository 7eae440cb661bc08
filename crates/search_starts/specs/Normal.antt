-- Normal trees: those that a table of concepts in normal form can hold.
use Rattle.std.specs.Prelude.{nat_le, ◌&&◌, Bool, true, false, length}
use Rattle.role_box.specs.Concept.{Concept, top, bottom, name, complement, intersection, union, some_of, all_of}
use Rattle.role_box.specs.Concept.{at_least, at_most, exactly, Parts, no_parts, part, part_list}
use Rattle.role_box.specs.TheoryRows.{is_name}

-- the tree may be a part of an intersection in normal form: it is no intersection itself, nor top nor bottom
abbrev pub is_conjunct_tree : Concept → Bool
is_conjunct_tree top = false
is_conjunct_tree bottom = false
is_conjunct_tree (intersection cs) = false
is_conjunct_tree _ = true

-- the tree may be a part of a union in normal form: it is no union itself, nor top nor bottom
abbrev pub is_disjunct_tree : Concept → Bool
is_disjunct_tree top = false
is_disjunct_tree bottom = false
is_disjunct_tree (union cs) = false
is_disjunct_tree _ = true

abbrev mutual
  -- the tree is in normal form: complements of names alone, parts that are at least two and of another kind, and
  -- numbers that a table of concepts can hold
  pub is_normal_tree : Concept → Bool
  is_normal_tree top = true
  is_normal_tree bottom = true
  is_normal_tree (name a) = true
  is_normal_tree (complement c) = is_name c
  is_normal_tree (intersection cs) = nat_le 2 (length (part_list cs)) && are_conjuncts cs
  is_normal_tree (union cs) = nat_le 2 (length (part_list cs)) && are_disjuncts cs
  is_normal_tree (some_of r c) = is_normal_tree c
  is_normal_tree (all_of r c) = is_normal_tree c
  is_normal_tree (at_least n r c) = (nat_le 2 n && nat_le n 101) && is_normal_tree c
  is_normal_tree (at_most n r c) = (nat_le 1 n && nat_le n 100) && is_normal_tree c
  is_normal_tree (exactly n r c) = false

  -- each part may stand in an intersection in normal form
  pub are_conjuncts : Parts → Bool
  are_conjuncts no_parts = true
  are_conjuncts (part c cs) = (is_conjunct_tree c && is_normal_tree c) && are_conjuncts cs

  -- each part may stand in a union in normal form
  pub are_disjuncts : Parts → Bool
  are_disjuncts no_parts = true
  are_disjuncts (part c cs) = (is_disjunct_tree c && is_normal_tree c) && are_disjuncts cs

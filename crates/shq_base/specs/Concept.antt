-- Class expressions as plain trees (OWL 2 Structural Specification, section 8), in which classes and roles are
-- numbers. In the last three constructors the first number is the cardinality and the second the role.
use Rattle.std.specs.Prelude.{ℕ, List, [], ◌∷◌}

mutual
  pub data Concept : Type 0 where
    top : Concept
    bottom : Concept
    name : ℕ → Concept
    complement : Concept → Concept
    intersection : Parts → Concept
    union : Parts → Concept
    some_of : ℕ → Concept → Concept
    all_of : ℕ → Concept → Concept
    at_least : ℕ → ℕ → Concept → Concept
    at_most : ℕ → ℕ → Concept → Concept
    exactly : ℕ → ℕ → Concept → Concept

  pub data Parts : Type 0 where
    no_parts : Parts
    part : Concept → Parts → Parts

-- the parts that a list holds, in order
abbrev pub parts_of : List Concept → Parts
parts_of [] = no_parts
parts_of (c ∷ cs) = part c (parts_of cs)

-- the list of the parts, in order
abbrev pub part_list : Parts → List Concept
part_list no_parts = []
part_list (part c cs) = c ∷ part_list cs

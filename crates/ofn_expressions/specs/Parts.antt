-- Parts after a list of expressions.
use Rattle.std.specs.Prelude.{List, [], ◌∷◌}
use Rattle.shq_terms.specs.Concept.{Concept, Parts, part}

-- these expressions, and then the parts
abbrev pub put_parts : List Concept → Parts → Parts
put_parts [] ps = ps
put_parts (c ∷ cs) ps = part c (put_parts cs ps)

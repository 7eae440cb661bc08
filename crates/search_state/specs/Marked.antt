-- The facts of a trail with the marks that they rest on.
use Rattle.std.specs.Prelude.{List, [], ◌∷◌}
use Rattle.search_trace.specs.Noted.{marked}
use Rattle.search_trace.specs.Trail.{MarkedFact}
use Rattle.step_agenda.specs.Entry.{Entry}
use Rattle.step_agenda.specs.Entry.TheVariants.{Fact as Grounded, Mark}

-- the facts of the entries in order, each with its marks
abbrev pub marked_in : List Entry → List MarkedFact
marked_in [] = []
marked_in (Grounded f by ∷ es) = marked by.marks f ∷ marked_in es
marked_in (Mark c ∷ es) = marked_in es

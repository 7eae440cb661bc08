-- Inclusions that axioms say.
use Rattle.std.specs.Prelude.{ℕ, ◌<◌, List, All}
use Rattle.subsumption.specs.declared.told.Inclusion.{Inclusion}

-- the numbers of both classes are below the count
abbrev pub IsOf : ℕ → Inclusion → Type 0
IsOf classes i = (i.sub < classes) × (i.sup < classes)

-- each of the inclusions is of classes below the count
abbrev pub AreOf : ℕ → List Inclusion → Type 0
AreOf classes told = All (IsOf classes) told

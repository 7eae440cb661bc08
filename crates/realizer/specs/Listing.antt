-- Whether the individuals and the classes of a realization are listed: their numbers are below the counts.
use Rattle.std.specs.Prelude.{ℕ, true, Bool, List, ◌&&◌, nat_lt}
use Rattle.std.specs.List.{list_all}
use Rattle.subsumption.specs.ClassNames.{are_listed}
use Rattle.realizer.specs.TypeLists.{TypeLists}
use Rattle.realizer.specs.declared.types.Types.{Types}
use Rattle.realizer.specs.declared.types.Types.TheVariants.{Inconsistent, Consistent}

-- the individual and its types are listed
abbrev pub line_is_listed : ℕ → ℕ → TypeLists → Bool
line_is_listed classes individuals t = nat_lt t.individual individuals && are_listed classes t.types

-- the individuals of some lines and their types are listed
abbrev pub lines_are_listed : ℕ → ℕ → List TypeLists → Bool
lines_are_listed classes individuals ts = list_all (line_is_listed classes individuals) ts

-- all individuals and types of a realization are listed
abbrev pub is_listed : ℕ → ℕ → Types → Bool
is_listed classes individuals Inconsistent = true
is_listed classes individuals (Consistent ts) = lines_are_listed classes individuals ts

-- The most specific classes of each listed individual, and the text that says them. Classes have the numbers of a
-- taxonomy: those that are listed the numbers below their count, owl:Thing the count, and owl:Nothing the next one.
use Rattle.std.specs.Prelude.{◌≡◌, ◌↔◌, ℕ, ◌+◌, ◌<◌, Bool, true, List, [], ◌∷◌, ◌++◌, ◌&&◌, length, map, codes}
use Rattle.std.specs.Prelude.{if◌then◌else◌}
use Rattle.std.specs.List.{range_with_len}
use Rattle.lane_sieve.specs.Sets.{passing}
use Rattle.shq_terms.specs.Concept.{name}
use Rattle.shq_terms.specs.Listed.{Listed}
use Rattle.ofn_writer.specs.Canonical.{individual_text, line}
use Rattle.subsumption.specs.Subsumption.{IsSubsumption}
use Rattle.subsumption.specs.Groups.{Parthood, is_first, is_lowest}
use Rattle.subsumption.specs.ClassNames.{names_or_thing_text}
use Rattle.realizer.specs.TypeLists.{TypeLists}
use Rattle.realizer.specs.Instances.{IsInstance}
use Rattle.realizer.specs.declared.types.Types.{Types}
use Rattle.realizer.specs.declared.types.Types.TheVariants.{Inconsistent, Consistent}

-- which individual is in which listed class
abbrev pub Typing : Type 0
Typing = ℕ → ℕ → Bool

-- it says of each listed individual and each listed class whether the one is an instance of the other
abbrev pub SaysInstances : Listed → Typing → Type 0
SaysInstances o typed = (a x : ℕ) → a < length o.individuals → x < length o.classes
    → (typed a x ≡ true ↔ IsInstance o (name x) a)

-- ---- the types of one individual, by a test that says which classes it is in

-- x is the first class of a group of equal classes of which the individual is an instance; classes without elements and
-- those of all elements are in no group
abbrev pub is_type : ℕ → Parthood → (ℕ → Bool) → ℕ → Bool
is_type count r test x = is_first count r x && test x

-- and the group holds no other one of these
abbrev pub is_direct_type : ℕ → Parthood → (ℕ → Bool) → ℕ → Bool
is_direct_type count r test x = is_lowest count r (is_type count r test) x

-- the first class of each direct type group, in list order
unfoldable pub direct_types : ℕ → Parthood → (ℕ → Bool) → List ℕ
direct_types count r test = passing (is_direct_type count r test) 0 count

-- ---- the whole

-- each of so many individuals, with its direct types
abbrev pub type_lists : ℕ → Parthood → ℕ → Typing → List TypeLists
type_lists count r individuals typed =
    map (λ a. record { individual = a; types = direct_types count r (typed a) }) (range_with_len 0 individuals)

-- the realization: inconsistent where owl:Thing is part of owl:Nothing, and else the types of each individual
abbrev pub types_of : ℕ → Parthood → ℕ → Typing → Types
types_of count r individuals typed =
    if r count (count + 1) then Inconsistent else Consistent (type_lists count r individuals typed)

-- the realization of an ontology by a relation of its classes and the classes of its individuals
abbrev pub types_by : Listed → Parthood → Typing → Types
types_by o r typed = types_of (length o.classes) r (length o.individuals) typed

-- these lines say the direct types of each listed individual, by a relation of the classes
pub record AreTypeLines (o : Listed) (r : Parthood) (ts : List TypeLists) : Type 0 where
  pub typed : Typing
  pub is_typed : SaysInstances o typed
  pub lines_are : ts ≡ type_lists (length o.classes) r (length o.individuals) typed

-- these are the direct types of each listed individual, by all axioms
pub record AreTypes (o : Listed) (types : Types) : Type 0 where
  pub part_of : Parthood
  pub is_so : IsSubsumption o part_of
  pub typed : Typing
  pub is_typed : SaysInstances o typed
  pub types_are : types ≡ types_by o part_of typed

-- ---- the text

-- `individual`, its name, `types`, and its direct types, or owl:Thing where there is none
abbrev pub type_line : Listed → TypeLists → List ℕ
type_line o t =
    line (codes "individual " ++ (individual_text o t.individual ++ (codes " types" ++ names_or_thing_text o t.types)))

-- a line for each individual, in order
abbrev pub type_lines : Listed → List TypeLists → List ℕ
type_lines o [] = []
type_lines o (t ∷ ts) = type_line o t ++ type_lines o ts

-- the text of a realization
abbrev pub realization_text : Listed → Types → List ℕ
realization_text o Inconsistent = line (codes "inconsistent")
realization_text o (Consistent ts) = line (codes "consistent") ++ type_lines o ts

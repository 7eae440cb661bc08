-- The normal form of a class expression and that of its complement. In a normal form a complement stands on names
-- alone, and no intersection or union has a part that is top, bottom or of its own kind.
use Rattle.std.specs.Prelude.{ℕ, zero, suc, Bool, true, false, not, List, [], ◌∷◌, filter, if◌then◌else◌}
use Rattle.std.specs.List.{list_any, flat_map}
use Rattle.shq_base.specs.Concept.{Concept, top, bottom, name, complement, intersection, union, some_of, all_of}
use Rattle.shq_base.specs.Concept.{at_least, at_most, exactly, Parts, no_parts, part, parts_of, part_list}

-- the concept is top itself
abbrev pub is_top : Concept → Bool
is_top top = true
is_top _ = false

-- the concept is bottom itself
abbrev pub is_bottom : Concept → Bool
is_bottom bottom = true
is_bottom _ = false

-- ---- intersections

-- the parts of an intersection, and any other concept alone
abbrev pub conjuncts_of : Concept → List Concept
conjuncts_of (intersection cs) = part_list cs
conjuncts_of c = c ∷ []

-- the members that an intersection of these concepts has: those of the inner ones, and no top
abbrev pub conjuncts : List Concept → List Concept
conjuncts cs = filter (λ c. not (is_top c)) (flat_map conjuncts_of cs)

-- no member is top, one stands alone, more are an intersection
abbrev pub intersected : List Concept → Concept
intersected [] = top
intersected (c ∷ []) = c
intersected (c ∷ d ∷ cs) = intersection (parts_of (c ∷ d ∷ cs))

-- the normal form of the intersection of normal forms
abbrev pub and_of : List Concept → Concept
and_of cs = if list_any is_bottom (conjuncts cs) then bottom else intersected (conjuncts cs)

-- ---- unions

-- the parts of a union; any other concept is its own only part
abbrev pub disjuncts_of : Concept → List Concept
disjuncts_of (union cs) = part_list cs
disjuncts_of c = c ∷ []

-- the parts of a union of these concepts: unions are opened, and bottom is left out
abbrev pub disjuncts : List Concept → List Concept
disjuncts cs = filter (λ c. not (is_bottom c)) (flat_map disjuncts_of cs)

-- the union of some parts: bottom for none, and for one the part itself
abbrev pub united : List Concept → Concept
united [] = bottom
united (c ∷ []) = c
united (c ∷ d ∷ cs) = union (parts_of (c ∷ d ∷ cs))

-- the normal form of the union of normal forms
abbrev pub or_of : List Concept → Concept
or_of cs = if list_any is_top (disjuncts cs) then top else united (disjuncts cs)

-- ---- cardinalities, of a filler in normal form and that of its complement

-- at least n: with none it holds of each, and one is a 'some'
abbrev pub least_form : ℕ → ℕ → Concept → Concept
least_form zero r c = top
least_form (suc zero) r c = some_of r c
least_form (suc (suc n)) r c = at_least (suc (suc n)) r c

-- the complement of at least n: fewer than n
abbrev pub fewer_form : ℕ → ℕ → Concept → Concept → Concept
fewer_form zero r c not_c = bottom
fewer_form (suc zero) r c not_c = all_of r not_c
fewer_form (suc (suc n)) r c not_c = at_most (suc n) r c

-- at most n: with none each has the complement
abbrev pub most_form : ℕ → ℕ → Concept → Concept → Concept
most_form zero r c not_c = all_of r not_c
most_form (suc n) r c not_c = at_most (suc n) r c

-- the complement of at most n: more than n
abbrev pub more_form : ℕ → ℕ → Concept → Concept
more_form zero r c = some_of r c
more_form (suc n) r c = at_least (suc (suc n)) r c

-- ---- any class expression

abbrev mutual
  -- the normal form of a class expression
  pub normal_form : Concept → Concept
  normal_form top = top
  normal_form bottom = bottom
  normal_form (name a) = name a
  normal_form (complement c) = negated_form c
  normal_form (intersection cs) = and_of (normal_forms cs)
  normal_form (union cs) = or_of (normal_forms cs)
  normal_form (some_of r c) = some_of r (normal_form c)
  normal_form (all_of r c) = all_of r (normal_form c)
  normal_form (at_least n r c) = least_form n r (normal_form c)
  normal_form (at_most n r c) = most_form n r (normal_form c) (negated_form c)
  normal_form (exactly n r c) =
      and_of (least_form n r (normal_form c) ∷ most_form n r (normal_form c) (negated_form c) ∷ [])

  -- the normal form of the complement
  pub negated_form : Concept → Concept
  negated_form top = bottom
  negated_form bottom = top
  negated_form (name a) = complement (name a)
  negated_form (complement c) = normal_form c
  negated_form (intersection cs) = or_of (negated_forms cs)
  negated_form (union cs) = and_of (negated_forms cs)
  negated_form (some_of r c) = all_of r (negated_form c)
  negated_form (all_of r c) = some_of r (negated_form c)
  negated_form (at_least n r c) = fewer_form n r (normal_form c) (negated_form c)
  negated_form (at_most n r c) = more_form n r (normal_form c)
  negated_form (exactly n r c) =
      or_of (fewer_form n r (normal_form c) (negated_form c) ∷ more_form n r (normal_form c) ∷ [])

  -- the normal form of each part, in order
  pub normal_forms : Parts → List Concept
  normal_forms no_parts = []
  normal_forms (part c cs) = normal_form c ∷ normal_forms cs

  -- the normal form of the complement of each part, in order
  pub negated_forms : Parts → List Concept
  negated_forms no_parts = []
  negated_forms (part c cs) = negated_form c ∷ negated_forms cs

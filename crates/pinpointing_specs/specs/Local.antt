-- Syntactic locality (B. Cuenca Grau, I. Horrocks, Y. Kazakov and U. Sattler, "Modular Reuse of Ontologies: Theory and
-- Practice", Journal of Artificial Intelligence Research 31, 2008, section 5): whether an axiom is met wherever all
-- names outside a signature are empty, by its form alone. The test `inside` tells which names the signature has.
use Rattle.std.specs.Prelude.{ℕ, Bool, true, false, not, ◌&&◌, ◌||◌, nat_le, count_by, List}
use Rattle.std.specs.List.{list_all}
use Rattle.shq_meaning.specs.Concept.{Concept, top, bottom, name, complement, intersection, union, some_of, all_of}
use Rattle.shq_meaning.specs.Concept.{at_least, at_most, exactly, Parts, no_parts, part, parts_of}
use Rattle.shq_meaning.specs.Axiom.{Axiom}
use Rattle.shq_meaning.specs.Axiom.TheVariants.{SubClassOf, EquivalentClasses, DisjointClasses}
use Rattle.shq_meaning.specs.Axiom.TheVariants.{DisjointUnion, SubRole, EquivalentRoles, Domain, Range}
use Rattle.shq_meaning.specs.Axiom.TheVariants.{Functional, Transitive, Member, Pair, SameAll, Different}
use Rattle.pinpointing_specs.specs.declared.module_laws.Name.{Name}
use Rattle.pinpointing_specs.specs.declared.module_laws.Name.TheVariants.{Class, Role}

abbrev mutual
  -- no element is in the class expression where the names outside are empty
  pub is_void : (Name → Bool) → Concept → Bool
  is_void inside top = false
  is_void inside bottom = true
  is_void inside (name a) = not (inside (Class a))
  is_void inside (complement c) = is_whole inside c
  is_void inside (intersection cs) = some_void inside cs
  is_void inside (union cs) = all_void inside cs
  is_void inside (some_of r c) = not (inside (Role r)) || is_void inside c
  is_void inside (all_of r c) = false
  is_void inside (at_least n r c) = nat_le 1 n && (not (inside (Role r)) || is_void inside c)
  is_void inside (at_most n r c) = false
  is_void inside (exactly n r c) = nat_le 1 n && (not (inside (Role r)) || is_void inside c)

  -- each element is in the class expression where the names outside are empty
  pub is_whole : (Name → Bool) → Concept → Bool
  is_whole inside top = true
  is_whole inside bottom = false
  is_whole inside (name a) = false
  is_whole inside (complement c) = is_void inside c
  is_whole inside (intersection cs) = all_whole inside cs
  is_whole inside (union cs) = some_whole inside cs
  is_whole inside (some_of r c) = false
  is_whole inside (all_of r c) = not (inside (Role r)) || is_whole inside c
  is_whole inside (at_least n r c) = nat_le n 0
  is_whole inside (at_most n r c) = not (inside (Role r)) || is_void inside c
  is_whole inside (exactly n r c) = nat_le n 0 && (not (inside (Role r)) || is_void inside c)

  -- some part is void by its form: nothing is in it where all names outside are empty
  pub some_void : (Name → Bool) → Parts → Bool
  some_void inside no_parts = false
  some_void inside (part c cs) = is_void inside c || some_void inside cs

  -- each part is void by its form
  pub all_void : (Name → Bool) → Parts → Bool
  all_void inside no_parts = true
  all_void inside (part c cs) = is_void inside c && all_void inside cs

  -- some part is whole by its form: everything is in it where all names outside are empty
  pub some_whole : (Name → Bool) → Parts → Bool
  some_whole inside no_parts = false
  some_whole inside (part c cs) = is_whole inside c || some_whole inside cs

  -- each part is whole by its form
  pub all_whole : (Name → Bool) → Parts → Bool
  all_whole inside no_parts = true
  all_whole inside (part c cs) = is_whole inside c && all_whole inside cs

-- the places at which a class expression is not void
abbrev pub count_not_void : (Name → Bool) → List Concept → ℕ
count_not_void inside cs = count_by (λ c. not (is_void inside c)) cs

-- the axiom is local for the signature; an assertion never is, since emptied names leave the individuals as they are
abbrev pub is_local : (Name → Bool) → Axiom → Bool
is_local inside (SubClassOf c d) = is_void inside c || is_whole inside d
is_local inside (EquivalentClasses cs) = all_void inside (parts_of cs) || all_whole inside (parts_of cs)
is_local inside (DisjointClasses cs) = nat_le (count_not_void inside cs) 1
is_local inside (DisjointUnion c cs) = is_void inside c && all_void inside (parts_of cs)
is_local inside (SubRole r s) = not (inside (Role r))
is_local inside (EquivalentRoles rs) = list_all (λ r. not (inside (Role r))) rs
is_local inside (Domain r c) = not (inside (Role r)) || is_whole inside c
is_local inside (Range r c) = not (inside (Role r)) || is_whole inside c
is_local inside (Functional r) = not (inside (Role r))
is_local inside (Transitive r) = not (inside (Role r))
is_local inside (Member c a) = false
is_local inside (Pair r a b) = false
is_local inside (SameAll as_) = false
is_local inside (Different as_) = false

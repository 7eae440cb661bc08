-- What contracts see of what one search shows of further classes.
use Rattle.std.specs.Prelude.{◌≡◌, ℕ, ◌+◌, ◌<◌, ◌≤◌, true, length, Option, Some, None}
use Rattle.std.specs.FinSet as set
use Rattle.axiom_sets.specs.Sets.{Limited}
use Rattle.shq_terms.specs.Concept.{Concept, name}
use Rattle.shq_terms.specs.Listed.{Listed}
use Rattle.shq_terms.specs.declared.axioms.On.TheVariants.{Any}
use Rattle.shq_terms.specs.declared.axioms.Query.{Query}
use Rattle.run_log.specs.declared.entry.Entry.{Entry}
use Rattle.run_log.specs.declared.entry.Entry.TheVariants.{Test}
use Rattle.run_log.specs.declared.entry.TestEnd.TheVariants.{No}
use Rattle.run_log.specs.Entries.{spent_of}
use Rattle.run_log.specs.HonestLog.{IsAxiomSet, IsHonestNo}
use Rattle.shq_oracle.specs.OracleLists.{OracleLists}

-- the ontology, the set of axioms, the class expression that is included in none of the classes, how many steps decide
-- that of each, and the classes, whose numbers are greater by one in their set
pub record ApartLists : Type 0 where
  pub ontology : Listed
  pub set : Limited
  pub sub : Concept
  pub steps : ℕ
  pub classes : Limited

-- the classes, where there are any
abbrev pub classes_of : Option ApartLists → Option Limited
classes_of None = None
classes_of (Some a) = Some a.classes

-- in no class of a set is the class expression included by the axioms, and so many steps decide that of each
pub record AreApart (o : Listed) (s : Limited) (sub : Concept) (steps : ℕ) (classes : Limited) : Type 0 where
  pub limit_is : classes.limit ≡ length o.classes
  pub honest : (a : ℕ) → a < length o.classes → set.contains classes.members (a + 1) ≡ true
      → IsHonestNo o s (record { sub = sub; sup = name a; on = Any }) steps

-- what is kept is true, and its axioms are the ontology's
pub record IsKeptApart (a : ApartLists) : Type 0 where
  pub of_axioms : IsAxiomSet a.ontology a.set
  pub apart : AreApart a.ontology a.set a.sub a.steps a.classes

-- it is about a class expression and a set of an ontology's axioms
pub record IsAbout (o : Listed) (s : Limited) (sub : Concept) (a : ApartLists) : Type 0 where
  pub ontology_is : a.ontology ≡ o
  pub set_is : a.set ≡ s
  pub sub_is : a.sub ≡ sub

-- the question whether the class expression is included in a class
abbrev pub query_of : ApartLists → ℕ → Query
query_of a class = record { sub = a.sub; sup = name class; on = Any }

-- the entry of a log for what the search shows of a class
abbrev pub entry_of : ApartLists → ℕ → Entry
entry_of a class = Test a.set (query_of a class) a.steps No

-- it shows this of the class, and as many steps are left of the budget
pub record MayNote (l : OracleLists) (a : ApartLists) (class : ℕ) : Type 0 where
  pub is_shown : set.contains a.classes.members (class + 1) ≡ true
  pub fits : spent_of l.log + a.steps ≤ l.budget

-- What a reader has counted and listed so far.
use Rattle.std.specs.Prelude.{◌≡◌, ◌≤◌, ◌+◌, ◌++◌, ◌∷◌, [], ℕ, List, None, take, length, position}
use Rattle.std.specs.Str.{bytes_eq}
use Rattle.shq_terms.specs.Listed.{Listed}
use Rattle.shq_terms.specs.declared.axioms.Axiom.{Axiom}
use Rattle.shq_terms.specs.declared.axioms.Numbered.{Numbered}

-- the numbered axioms, their parts and the nodes of expressions that were counted, and the names that were listed
pub record Counts : Type 0 where
  pub axioms : ℕ
  pub parts : ℕ
  pub nodes : ℕ
  pub classes : List (List ℕ)
  pub roles : List (List ℕ)
  pub individuals : List (List ℕ)

-- the counts, and the axioms that were read whole
pub record State : Type 0 where
  pub counts : Counts
  pub read : List Numbered

-- where a reader goes on from an ontology for which so many axioms and nodes were counted
abbrev pub first_state : Listed → ℕ → ℕ → State
first_state o axioms nodes = record {
  counts = record {
    axioms = axioms;
    parts = 0;
    nodes = nodes;
    classes = o.classes;
    roles = o.roles;
    individuals = o.individuals;
  };
  read = o.axioms;
}

-- the ontology that was read
abbrev pub ontology_of : State → Listed
ontology_of s =
    record { axioms = s.read; classes = s.counts.classes; roles = s.counts.roles; individuals = s.counts.individuals }

-- one numbered axiom more is counted, or so many parts more
abbrev pub with_axiom_counted : State → State
with_axiom_counted s = record s { counts = record s.counts { axioms = s.counts.axioms + 1 } }

-- the state with so many more parts counted
abbrev pub with_parts_counted : State → ℕ → State
with_parts_counted s n = record s { counts = record s.counts { parts = s.counts.parts + n } }

-- one axiom more is read whole, which stands on a line
abbrev pub with_axiom_read : State → Axiom → ℕ → State
with_axiom_read s a line = record s { read = s.read ++ record { «axiom» = a; line = line } ∷ [] }

-- a name is not listed, and there are as many classes, or roles, or individuals, as may be
abbrev pub ClassesAreFull : Counts → List ℕ → Type 0
ClassesAreFull s w = (20000 ≤ length s.classes) × (position (bytes_eq w) s.classes ≡ None)

-- as many roles are listed as may be, and the name is none of them
abbrev pub RolesAreFull : Counts → List ℕ → Type 0
RolesAreFull s w = (1000 ≤ length s.roles) × (position (bytes_eq w) s.roles ≡ None)

-- as many individuals are listed as may be, and the name is none of them
abbrev pub IndividualsAreFull : Counts → List ℕ → Type 0
IndividualsAreFull s w = (20000 ≤ length s.individuals) × (position (bytes_eq w) s.individuals ≡ None)

-- What stands after expressions or declarations were read, also where they are refused: the names that were listed
-- stand first, and names and nodes may have come, but no axiom was begun or read whole.
pub record Grows (old new : State) : Type 0 where
  pub axioms : new.counts.axioms ≡ old.counts.axioms
  pub parts : new.counts.parts ≡ old.counts.parts
  pub nodes : old.counts.nodes ≤ new.counts.nodes
  pub classes : take (length old.counts.classes) new.counts.classes ≡ old.counts.classes
  pub roles : take (length old.counts.roles) new.counts.roles ≡ old.counts.roles
  pub individuals : take (length old.counts.individuals) new.counts.individuals ≡ old.counts.individuals
  pub read : new.read ≡ old.read

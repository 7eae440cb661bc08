-- What a taxonomy says, in numbers of classes.
use Rattle.std.specs.Prelude.{ℕ, List}

-- classes that are equal, and the first class of each group that is directly above theirs
pub record GroupLists : Type 0 where
  pub classes : List ℕ
  pub parents : List ℕ

-- the classes that have no element, those that have every element, and the groups of the others
pub record HierarchyLists : Type 0 where
  pub nothing : List ℕ
  pub thing : List ℕ
  pub groups : List GroupLists

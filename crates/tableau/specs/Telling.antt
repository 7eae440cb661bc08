-- What one concept of a node does to what tells other nodes apart from the node in question.
use Rattle.std.specs.Prelude.{◌≡◌, ◌⊎◌, ℕ, ◌<◌, ◌==◌, nat_lt, ◌||◌, Bool, true, false, List}
use Rattle.std.specs.Prelude.{Option, Some, None}
use Rattle.calculus_specs.specs.Shape.{Shape, shape_of}
use Rattle.calculus_specs.specs.Shape.Shape.{not_name}
use Rattle.calculus_specs.specs.declared.facts.Fact.{Fact}
use Rattle.calculus_specs.specs.State.{has}
use Rattle.tableau.specs.Seen.{SeenSets, holds, is_complement, has_complement, union_parts, HasGained, AreOwn, HasOwn}
use Rattle.tableau.specs.Seen.{may_be_own, HasNoOwn}

-- what tells other nodes apart stays
pub record TellAsBefore (old new : SeenSets) : Type 0 where
  pub bearing : new.bearing ≡ old.bearing
  pub own : new.own ≡ old.own
  pub there : new.there ≡ old.there
  pub tells_apart : new.tells_apart ≡ old.tells_apart

-- all else stays
pub record NoteAsBefore (old new : SeenSets) : Type 0 where
  pub at_node : new.at_node ≡ old.at_node
  pub complements : new.complements ≡ old.complements
  pub bare : new.bare ≡ old.bare

-- the concept is one of those that the node in question was given
pub record HasPutThere (concept : ℕ) (old new : SeenSets) : Type 0 where
  pub before : new.tells_apart ≡ true → old.tells_apart ≡ true
  pub there : HasGained (λ c. concept == c) old.there new.there
  pub own : new.own ≡ old.own
  pub are_own : new.tells_apart ≡ true → AreOwn old → AreOwn new
  pub still : old.tells_apart ≡ true → AreOwn new → new.tells_apart ≡ true

-- and so is noted what it has to do with complements
pub record HasToldThere (table : List Shape) (concept : ℕ) (old new : SeenSets) : Type 0 where
  pub puts : HasPutThere concept old new
  pub bearing : HasGained
      (λ a. is_complement table a concept || has_complement table a (union_parts (shape_of table concept))) old.bearing
      new.bearing

-- whether a class was found for which there is room, that is below a limit
abbrev pub has_room : ℕ → Option ℕ → Bool
has_room limit (Some a) = nat_lt a limit
has_room limit None = false

-- the node has a concept that may be noted as its own one
pub record IsOwnConcept (s : SeenSets) (fs : List (Fact ℕ)) (node concept own : ℕ) : Type 0 where
  pub holds_it : has fs node own ≡ true
  pub may_be : may_be_own s own concept ≡ true

-- the concept is the complement of a class, and besides it and top the node has the concept `own`
pub record IsOwnBeside (table : List Shape) (fs : List (Fact ℕ)) (node concept own : ℕ) : Type 0 where
  pub class : ℕ
  pub shape : shape_of table concept ≡ not_name class
  pub holds_it : has fs node own ≡ true
  pub is_not_top : ¬ (own ≡ 0)
  pub is_another : ¬ (own ≡ concept)

-- another node was given a concept. If that is the complement of a class, the node has an own concept besides, which is
-- noted, or the class is noted as one that bears on the node in question. No other class is noted, and no concept but
-- one that this node has besides and that the node in question was not given before
pub record HasToldOther (table : List Shape) (fs : List (Fact ℕ)) (node concept : ℕ) (old new : SeenSets) : Type 0 where
  pub tells_apart : new.tells_apart ≡ old.tells_apart
  pub there : new.there ≡ old.there
  pub limit : new.bearing.limit ≡ old.bearing.limit
  pub bearing : (a : ℕ) → a < old.bearing.limit → holds old.bearing a ≡ true → holds new.bearing a ≡ true
  pub bears : (a : ℕ) → a < old.bearing.limit → holds new.bearing a ≡ true
      → (holds old.bearing a ≡ true) ⊎ ((shape_of table concept ≡ not_name a) × HasNoOwn old fs node concept)
  pub own : (c : ℕ) → c < old.there.limit → holds old.own c ≡ true → holds new.own c ≡ true
  pub owned : (c : ℕ) → c < old.there.limit → holds new.own c ≡ true
      → (holds old.own c ≡ true) ⊎ (IsOwnBeside table fs node concept c × (holds old.there c ≡ false))
  pub are_own : AreOwn old → AreOwn new
  pub told : (a : ℕ) → a < old.bearing.limit → shape_of table concept ≡ not_name a → holds new.bearing a ≡ false
      → HasOwn new fs node concept

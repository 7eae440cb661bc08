-- With which classes the run of a search has had to do.
use Rattle.std.specs.Prelude.{◌≡◌, ◌↔◌, ◌⊎◌, ℕ, ◌+◌, ◌<◌, ◌≤◌, ◌==◌, nat_lt, ◌&&◌, ◌||◌, not, Bool, true, false}
use Rattle.std.specs.Prelude.{List, [], ◌∷◌, ◌++◌, length, Option, Some, None, All, if◌then◌else◌}
use Rattle.std.specs.List.{list_any}
use Rattle.std.specs.FinSet as set
use Rattle.axiom_sets.specs.Sets.{Limited}
use Rattle.calculus_specs.specs.Shape.{Shape, shape_of}
use Rattle.calculus_specs.specs.Shape.Shape.{top, bottom, name, not_name, intersection, union, some_of, all_of}
use Rattle.calculus_specs.specs.Shape.Shape.{at_least, at_most}
use Rattle.calculus_specs.specs.declared.facts.Fact.{Fact}
use Rattle.calculus_specs.specs.declared.facts.Fact.TheVariants.{Has, Edge, Apart, Same}
use Rattle.calculus_specs.specs.State.{has}
use Rattle.tableau_specs.specs.declared.Item.{Item}
use Rattle.tableau_specs.specs.declared.Item.TheVariants.{Fact as Says, Mark}
use Rattle.tableau_specs.specs.Items.{facts_of}
use Rattle.search_laws.specs.Runs.{was_ever, puts_at, SetsApart}

-- Sets of classes: those that the node in question was given, and those whose complement bears on it: the complement
-- was given to some node, or is a part of a union that the node in question was given. Class numbers begin at 0 and
-- members at 1, so class a stands in a set as a + 1. Of the latter classes, those that bear on it even where other
-- nodes that were given a complement are told apart from it. Such nodes are told apart by concepts of their own, which
-- stand in a set as classes do, and in another set stand the concepts that the node in question was given. And whether
-- it is known that this node was given none of those own concepts, and whether it is known that it was given no more
-- than top
pub record SeenSets : Type 0 where
  pub at_node : Limited
  pub complements : Limited
  pub bearing : Limited
  pub own : Limited
  pub there : Limited
  pub tells_apart : Bool
  pub bare : Bool

-- the class is noted, or the concept
abbrev pub holds : Limited → ℕ → Bool
holds s a = set.contains s.members (a + 1)

-- no class is noted
abbrev pub no_classes : ℕ → Limited
no_classes count = record { limit = count; members = set.empty }

-- nothing is noted yet of so many classes and so many concepts
abbrev pub nothing_seen : ℕ → ℕ → SeenSets
nothing_seen count concepts = record {
  at_node = no_classes count;
  complements = no_classes count;
  bearing = no_classes count;
  own = no_classes concepts;
  there = no_classes concepts;
  tells_apart = true;
  bare = true;
}

-- nothing is kept, and nothing known
abbrev pub nothing_known : SeenSets
nothing_known = record {
  at_node = no_classes 0;
  complements = no_classes 0;
  bearing = no_classes 0;
  own = no_classes 0;
  there = no_classes 0;
  tells_apart = false;
  bare = false;
}

-- the sets are of classes below a count
pub record AreOver (count : ℕ) (s : SeenSets) : Type 0 where
  pub node_limit : s.at_node.limit ≡ count
  pub complements_limit : s.complements.limit ≡ count

-- ---- facts that have to do with a class

-- the class that a shape is, if it is one
abbrev pub class_of : Shape → Option ℕ
class_of (name a) = Some a
class_of (not_name a) = None
class_of top = None
class_of bottom = None
class_of (intersection parts) = None
class_of (union parts) = None
class_of (some_of r c) = None
class_of (all_of r c) = None
class_of (at_least n r c) = None
class_of (at_most n r c) = None

-- the class in whose complement a shape is, if it is one
abbrev pub complement_of : Shape → Option ℕ
complement_of (not_name a) = Some a
complement_of (name a) = None
complement_of top = None
complement_of bottom = None
complement_of (intersection parts) = None
complement_of (union parts) = None
complement_of (some_of r c) = None
complement_of (all_of r c) = None
complement_of (at_least n r c) = None
complement_of (at_most n r c) = None

-- the parts of a union, and none of any other shape
abbrev pub union_parts : Shape → List ℕ
union_parts (union parts) = parts
union_parts top = []
union_parts bottom = []
union_parts (name a) = []
union_parts (not_name a) = []
union_parts (intersection parts) = []
union_parts (some_of r c) = []
union_parts (all_of r c) = []
union_parts (at_least n r c) = []
union_parts (at_most n r c) = []

-- whether it is class a
abbrev pub is_one : ℕ → Option ℕ → Bool
is_one a (Some b) = b == a
is_one a None = false

-- whether the number of a table is that of the complement of class a
abbrev pub is_complement : List Shape → ℕ → ℕ → Bool
is_complement table a d = is_one a (complement_of (shape_of table d))

-- whether one of the numbers is
abbrev pub has_complement : List Shape → ℕ → List ℕ → Bool
has_complement table a numbers = list_any (is_complement table a) numbers

-- whether the fact gives the node `at` class a
abbrev pub gives_class : ℕ → List Shape → ℕ → Fact ℕ → Bool
gives_class at table a (Has x c) = x == at && is_one a (class_of (shape_of table c))
gives_class at table a (Edge r x y) = false
gives_class at table a (Apart y z) = false
gives_class at table a (Same y z) = false

-- whether the fact gives a node the complement of class a, or the node `at` a union of which that is a part
abbrev pub gives_complement : ℕ → List Shape → ℕ → Fact ℕ → Bool
gives_complement at table a (Has x c) =
    is_complement table a c || (x == at && has_complement table a (union_parts (shape_of table c)))
gives_complement at table a (Edge r x y) = false
gives_complement at table a (Apart y z) = false
gives_complement at table a (Same y z) = false

-- whether the fact gives the node `at` the complement of class a, or a union of which that is a part
abbrev pub gives_bearing : ℕ → List Shape → ℕ → Fact ℕ → Bool
gives_bearing at table a (Has x c) =
    x == at && (is_complement table a c || has_complement table a (union_parts (shape_of table c)))
gives_bearing at table a (Edge r x y) = false
gives_bearing at table a (Apart y z) = false
gives_bearing at table a (Same y z) = false

-- whether the fact gives the node `at` more than top, which is number 0
abbrev pub gives_more : ℕ → Fact ℕ → Bool
gives_more at (Has x c) = x == at && not (c == 0)
gives_more at (Edge r x y) = false
gives_more at (Apart y z) = false
gives_more at (Same y z) = false

-- ---- what is noted

-- a set has gained those classes of which a test says so
pub record HasGained (test : ℕ → Bool) (old new : Limited) : Type 0 where
  pub limit : new.limit ≡ old.limit
  pub held : (a : ℕ) → a < old.limit → holds new a ≡ (test a || holds old a)

-- the facts are noted, where the node `at` is the one in question
pub record HasNoted (at : ℕ) (table : List Shape) (fs : List (Fact ℕ)) (old new : SeenSets) : Type 0 where
  pub at_node : HasGained (λ a. list_any (gives_class at table a) fs) old.at_node new.at_node
  pub complements : HasGained (λ a. list_any (gives_complement at table a) fs) old.complements new.complements
  pub bare : new.bare ≡ (old.bare && not (list_any (gives_more at) fs))

-- the sets are those of the run, where the node `at` is the one in question, no more and no less, as far as they reach
pub record AreSeenIn (at : ℕ) (table : List Shape) (run : List (List Item)) (s : SeenSets) : Type 0 where
  pub at_node : (a : ℕ) → a < s.at_node.limit → holds s.at_node a ≡ was_ever (gives_class at table a) run
  pub complements : (a : ℕ) → a < s.complements.limit
      → holds s.complements a ≡ was_ever (gives_complement at table a) run
  pub bare : s.bare ≡ true → was_ever (gives_more at) run ≡ false

-- ---- other nodes that are told apart

-- by the facts node x has a concept besides c and top that is noted as the own concept of some node
pub record HasOwn (s : SeenSets) (fs : List (Fact ℕ)) (x c : ℕ) : Type 0 where
  pub concept : ℕ
  pub holds_it : has fs x concept ≡ true
  pub is_own : holds s.own concept ≡ true
  pub is_within : concept < s.there.limit
  pub is_not_top : ¬ (concept ≡ 0)
  pub is_another : ¬ (concept ≡ c)

-- where some of the facts give the complement of a class to another node than `at` that is no first one, this node has
-- an own concept by all of them, or the class is noted as one that bears on `at`
abbrev pub AreToldBy : ℕ → ℕ → List Shape → List (Fact ℕ) → List (Fact ℕ) → SeenSets → Type 0
AreToldBy first at table all some s =
    (x c a : ℕ) → first ≤ x → ¬ (x ≡ at) → a < s.bearing.limit → list_any (puts_at x c) some ≡ true
    → shape_of table c ≡ not_name a → holds s.bearing a ≡ false → HasOwn s all x c

-- the same of the facts of a trail, and of those before each of its marks, to which the search may go back
abbrev pub AreToldFrom : ℕ → ℕ → List Shape → SeenSets → List (Fact ℕ) → List Item → Type 0
AreToldFrom first at table s fs [] = AreToldBy first at table fs fs s
AreToldFrom first at table s fs (Says f ∷ items) = AreToldFrom first at table s (fs ++ f ∷ []) items
AreToldFrom first at table s fs (Mark c ∷ items) =
    AreToldBy first at table fs fs s × AreToldFrom first at table s fs items

-- and of a whole trail
abbrev pub AreTold : ℕ → ℕ → List Shape → SeenSets → List Item → Type 0
AreTold first at table s trail = AreToldFrom first at table s [] trail

-- the node in question was given no own concept of another node
abbrev pub AreOwn : SeenSets → Type 0
AreOwn s = (c : ℕ) → c < s.there.limit → holds s.own c ≡ true → holds s.there c ≡ false

-- ---- no more is noted than has to be

-- one of the facts gives concept c, the complement of class a, to node x, which is another than `at` and no first one
pub record GivesComplement (first at : ℕ) (table : List Shape) (fs : List (Fact ℕ)) (x c a : ℕ) : Type 0 where
  pub is_no_first : first ≤ x
  pub is_other : ¬ (x ≡ at)
  pub is_given : list_any (puts_at x c) fs ≡ true
  pub shape : shape_of table c ≡ not_name a

-- whether the concept `own` is neither top nor the other one, nor noted as one that the node in question was given
abbrev pub may_be_own : SeenSets → ℕ → ℕ → Bool
may_be_own s own concept =
    ((not (own == 0) && not (own == concept)) && nat_lt own s.there.limit) && not (holds s.there own)

-- by the facts node x has no concept that may be noted as its own one besides c
abbrev pub HasNoOwn : SeenSets → List (Fact ℕ) → ℕ → ℕ → Type 0
HasNoOwn s fs x c = (own : ℕ) → has fs x own ≡ true → may_be_own s own c ≡ false

-- some of the facts give the complement of class a to another node, which has no own concept by all of them
pub record IsGivenWithoutOwn (first at : ℕ) (table : List Shape) (all some : List (Fact ℕ)) (s : SeenSets) (a : ℕ) :
    Type 0 where
  pub node : ℕ
  pub concept : ℕ
  pub gives : GivesComplement first at table some node concept a
  pub has_none : HasNoOwn s all node concept

-- by some of the facts class a bears on the node `at`: they give this node the complement, or a union of which that is
-- a part, or they give the complement to a node that has no own concept
abbrev pub BearsBy : ℕ → ℕ → List Shape → List (Fact ℕ) → List (Fact ℕ) → SeenSets → ℕ → Type 0
BearsBy first at table all some s a =
    (list_any (gives_bearing at table a) some ≡ true) ⊎ IsGivenWithoutOwn first at table all some s a

-- some of the facts give the complement of a class to another node, which by all of them has the concept `own` besides
-- the complement and top
pub record IsOwnBy (first at : ℕ) (table : List Shape) (all some : List (Fact ℕ)) (own : ℕ) : Type 0 where
  pub node : ℕ
  pub concept : ℕ
  pub class : ℕ
  pub gives : GivesComplement first at table some node concept class
  pub holds_it : has all node own ≡ true
  pub is_not_top : ¬ (own ≡ 0)
  pub is_another : ¬ (own ≡ concept)

-- some trail of a run gives the complement of a class to another node, which has the concept `own` besides, and no
-- trail before it gave the node in question that concept. The latest trail of a run is its first one
pub record IsOwnIn (first at : ℕ) (table : List Shape) (run : List (List Item)) (own : ℕ) : Type 0 where
  pub later : List (List Item)
  pub trail : List Item
  pub earlier : List (List Item)
  pub run_is : run ≡ later ++ trail ∷ earlier
  pub by_trail : IsOwnBy first at table (facts_of trail) (facts_of trail) own
  pub was_not_there : was_ever (puts_at at own) earlier ≡ false

-- for how many concepts there is room, where there is room for so many classes: for all of the table, or for none
abbrev pub concept_room : ℕ → ℕ → ℕ
concept_room classes concepts = if classes == 0 then 0 else concepts

-- ---- runs and steps

-- class a bears on the node `at` in a run: the run gave this node the complement, or a union of which that is a part,
-- or some trail of it gives the complement to another node that is no first one, and has no concept of its own besides
abbrev pub Bears : ℕ → ℕ → List Shape → List (List Item) → ℕ → Type 0
Bears first at table run a =
    (was_ever (gives_bearing at table a) run ≡ true) ⊎ (¬ All (SetsApart first at table run a) run)

-- What is noted of a run to tell other nodes apart from the node in question. A class is noted where the run gave this
-- node the complement, or a union of which that is a part, and no class is noted that does not bear on this node.
-- Exactly the concepts that this node was given are noted, and some that other nodes have besides the complement of a
-- class, and that this node was not given before: of these, at least one for each such node whose class is not noted.
-- Other nodes are told apart exactly if the node in question was given none of these
pub record IsToldApart (first at : ℕ) (table : List Shape) (run : List (List Item)) (s : SeenSets) : Type 0 where
  pub limit : s.bearing.limit ≡ s.at_node.limit
  pub there_limit : s.there.limit ≡ concept_room s.bearing.limit (length table)
  pub all_noted : (a : ℕ) → a < s.bearing.limit → was_ever (gives_bearing at table a) run ≡ true
      → holds s.bearing a ≡ true
  pub none_else : (a : ℕ) → a < s.bearing.limit → holds s.bearing a ≡ true → Bears first at table run a
  pub there : (c : ℕ) → c < s.there.limit → holds s.there c ≡ was_ever (puts_at at c) run
  pub own : (c : ℕ) → c < s.there.limit → holds s.own c ≡ true → IsOwnIn first at table run c
  pub tells : s.tells_apart ≡ true ↔ AreOwn s
  pub each : All (AreTold first at table s) run

-- some of all facts are noted by these sets
pub record HasTold (first at : ℕ) (table : List Shape) (all some : List (Fact ℕ)) (old new : SeenSets) : Type 0 where
  pub before : new.tells_apart ≡ true → old.tells_apart ≡ true
  pub limit : new.bearing.limit ≡ old.bearing.limit
  pub bearing : (a : ℕ) → a < old.bearing.limit
      → (list_any (gives_bearing at table a) some || holds old.bearing a) ≡ true → holds new.bearing a ≡ true
  pub bears : (a : ℕ) → a < old.bearing.limit → holds new.bearing a ≡ true
      → (holds old.bearing a ≡ true) ⊎ BearsBy first at table all some new a
  pub there : HasGained (λ c. list_any (puts_at at c) some) old.there new.there
  pub own : (c : ℕ) → c < old.there.limit → holds old.own c ≡ true → holds new.own c ≡ true
  pub owned : (c : ℕ) → c < old.there.limit → holds new.own c ≡ true
      → (holds old.own c ≡ true) ⊎ (IsOwnBy first at table all some c × (holds old.there c ≡ false))
  pub are_own : new.tells_apart ≡ true → AreOwn old → AreOwn new
  pub still : old.tells_apart ≡ true → AreOwn new → new.tells_apart ≡ true
  pub told : AreToldBy first at table all some new

-- the classes that count as those whose complement bears on the node in question
abbrev pub counted : SeenSets → Limited
counted s = if s.tells_apart then s.bearing else s.complements

-- whether the run has had to do with class a
abbrev pub has_seen : SeenSets → ℕ → Bool
has_seen s a = holds s.at_node a || holds (counted s) a

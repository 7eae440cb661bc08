-- What is put into an interpretation.
use Rattle.std.specs.Prelude.{◌≡◌, ℕ, ◌<◌, ◌||◌, Bool, List, slice_index_or}
use Rattle.finite_model.specs.ModelLists.{ModelLists, meaning}

-- classes have gained members, and nothing else has changed
pub record HasMembers (old new : ModelLists) (more : ℕ → ℕ → Bool) : Type 0 where
  pub same_size : new.size ≡ old.size
  pub same_links : new.links ≡ old.links
  pub same_individuals : new.individuals ≡ old.individuals
  pub members_are : (a x : ℕ) → (meaning new).in_class a x ≡ ((meaning old).in_class a x || more a x)

-- the first individuals are the elements at their places, and nothing else has changed
pub record HasPlaces (old new : ModelLists) (places : List ℕ) : Type 0 where
  pub same_size : new.size ≡ old.size
  pub same_members : new.members ≡ old.members
  pub same_links : new.links ≡ old.links
  pub individuals_are : (a : ℕ) → (meaning new).individual a ≡ slice_index_or places a ((meaning old).individual a)

-- roles have gained pairs, and nothing else has changed
pub record HasLinks (old new : ModelLists) (more : ℕ → ℕ → ℕ → Bool) : Type 0 where
  pub same_size : new.size ≡ old.size
  pub same_members : new.members ≡ old.members
  pub same_individuals : new.individuals ≡ old.individuals
  pub links_are : (s x y : ℕ) → x < old.size → y < old.size
      → (meaning new).in_role s x y ≡ ((meaning old).in_role s x y || more s x y)

-- The axioms that use a name, by their places, which count from 0.
use Rattle.std.specs.Prelude.{◌≡◌, ◌⊎◌, ℕ, ◌<◌, Bool, true, List, [], length, slice_get, slice_index_or, Some}
use Rattle.std.specs.List.{Contains, list_all}
use Rattle.shq_terms.specs.declared.axioms.Numbered.{Numbered}
use Rattle.pinpointing_specs.specs.declared.module_laws.Name.{Name}
use Rattle.pinpointing_specs.specs.declared.module_laws.Name.TheVariants.{Class, Role}
use Rattle.pinpointing_specs.specs.Signature.{is_among, axiom_names}
use Rattle.module_extract.specs.declared.users.Users.{Users}
use Rattle.module_extract.specs.Marks.{is_listed}

-- the names in the signatures of all these axioms are listed, where so many classes and roles are
abbrev pub all_listed : ℕ → ℕ → List Numbered → Bool
all_listed classes roles axioms =
    list_all (λ (a : Numbered). list_all (is_listed classes roles) (axiom_names a.axiom)) axioms

-- the places that are kept for the name
abbrev pub places_of : Users → Name → List ℕ
places_of u (Class a) = slice_index_or u.classes.items a []
places_of u (Role r) = slice_index_or u.roles.items r []

-- there is a list for the name
abbrev pub has_list : Users → Name → Bool
has_list u n = is_listed (length u.classes.items) (length u.roles.items) n

-- the place is kept for each of the names once more, and those that were kept before are kept
pub record HasGained (old new : Users) (names : List Name) (place : ℕ) : Type 0 where
  pub same_classes : length new.classes.items ≡ length old.classes.items
  pub same_roles : length new.roles.items ≡ length old.roles.items
  pub kept : (n : Name) (p : ℕ) → Contains (places_of old n) p → Contains (places_of new n) p
  pub gained : (n : Name) → is_among names n ≡ true → Contains (places_of new n) place
  pub no_others : (n : Name) (p : ℕ) → Contains (places_of new n) p → Contains (places_of old n) p ⊎ (p ≡ place)

-- for each name the places of those of the first axioms, up to a count, that use it are kept, and no others
pub record IsIndex (axioms : List Numbered) (count : ℕ) (u : Users) : Type 0 where
  pub all_kept : (n : Name) (place : ℕ) (a : Numbered) → place < count → slice_get axioms place ≡ Some a
      → is_among (axiom_names a.axiom) n ≡ true → Contains (places_of u n) place
  pub within : (n : Name) (p : ℕ) → Contains (places_of u n) p → p < count

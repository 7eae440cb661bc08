-- Marks of names.
use Rattle.std.specs.Prelude.{◌≡◌, ℕ, ◌+◌, Bool, false, not, ◌&&◌, ◌||◌, ◌==◌, nat_lt, List, length, slice_index_or}
use Rattle.std.specs.Prelude.{count_by}
use Rattle.pinpointing_specs.specs.declared.module_laws.Name.{Name}
use Rattle.pinpointing_specs.specs.declared.module_laws.Name.TheVariants.{Class, Role}
use Rattle.pinpointing_specs.specs.Signature.{is_among}
use Rattle.module_extract.specs.declared.marks.Marks.{Marks}

-- the name is listed, where so many classes and roles are
abbrev pub is_listed : ℕ → ℕ → Name → Bool
is_listed classes roles (Class a) = nat_lt a classes
is_listed classes roles (Role r) = nat_lt r roles

-- there is a mark for the name
abbrev pub has_place : Marks → Name → Bool
has_place m n = is_listed (length m.classes.items) (length m.roles.items) n

-- the name is marked
abbrev pub is_marked : Marks → Name → Bool
is_marked m (Class a) = slice_index_or m.classes.items a false
is_marked m (Role r) = slice_index_or m.roles.items r false

-- how many names could still be marked
abbrev pub unmarked : Marks → ℕ
unmarked m = count_by not m.classes.items + count_by not m.roles.items

-- no name is marked, and so many classes and roles could be
pub record IsUnmarked (classes roles : ℕ) (m : Marks) : Type 0 where
  pub classes_listed : length m.classes.items ≡ classes
  pub roles_listed : length m.roles.items ≡ roles
  pub none_marked : (n : Name) → is_marked m n ≡ false

-- the mark of a number is set, where there is one, and the others are as before
pub record HasSet (old new : List Bool) (number : ℕ) : Type 0 where
  pub same_length : length new ≡ length old
  pub set_there : (k : ℕ)
      → slice_index_or new k false ≡ (slice_index_or old k false || (k == number && nat_lt k (length old)))

-- those of the names for which there is a mark are marked, and the others are as before
pub record HasMarked (old new : Marks) (names : List Name) : Type 0 where
  pub same_classes : length new.classes.items ≡ length old.classes.items
  pub same_roles : length new.roles.items ≡ length old.roles.items
  pub marked : (n : Name) → is_marked new n ≡ (is_marked old n || (is_among names n && has_place old n))

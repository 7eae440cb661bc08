-- What the functions that put texts last do, and which expressions they take.
use Rattle.std.specs.Prelude.{◌≡◌, ℕ, List, ◌++◌, Vec, IsTrue, length}
use Rattle.shq_terms.specs.Concept.{Concept, parts_of}
use Rattle.shq_terms.specs.Listed.{Listed}
use Rattle.shq_terms.specs.Uses.{uses_listed, parts_use_listed}
use Rattle.ofn_writer.specs.Canonical.{group_text}

-- the new bytes are the old ones and then a text
abbrev pub Puts : {Z : Type 0} → Vec ℕ Z → Vec ℕ Z → List ℕ → Type 0
Puts old new text = new.items ≡ old.items ++ text

-- the new bytes are the old ones and then a group of a keyword and its items
abbrev pub PutsGroup : {Z : Type 0} → Vec ℕ Z → Vec ℕ Z → List ℕ → List (List ℕ) → Type 0
PutsGroup old new keyword items = Puts old new (group_text keyword items)

-- the classes and roles that a class expression uses are listed
abbrev pub UsesListed : Listed → Concept → Type 0
UsesListed o c = IsTrue (uses_listed (length o.classes) (length o.roles) c)

-- the classes and roles that any of these class expressions uses are listed
abbrev pub PartsUseListed : Listed → List Concept → Type 0
PartsUseListed o cs = IsTrue (parts_use_listed (length o.classes) (length o.roles) (parts_of cs))

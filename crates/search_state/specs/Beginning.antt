-- Where a search begins.
use Rattle.std.specs.Prelude.{◌≡◌, ℕ, List, [], ◌∷◌, ◌++◌, Some, map, slice_get, take}
use Rattle.std.specs.FinSet as sets
use Rattle.calculus_specs.specs.declared.facts.Fact.{Fact}
use Rattle.calculus_specs.specs.declared.facts.Fact.TheVariants.{Has}
use Rattle.calculus_specs.specs.State.{node_count_from}
use Rattle.tableau_specs.specs.declared.Item.{Item}
use Rattle.tableau_specs.specs.declared.Item.TheVariants.{Fact as Says, Mark as Marks}
use Rattle.tableau_specs.specs.Items.{facts_of}
use Rattle.step_agenda.specs.By.{By}
use Rattle.step_agenda.specs.Entry.{Entry}
use Rattle.step_agenda.specs.Entry.TheVariants.{Fact as Grounded, Mark}
use Rattle.step_agenda.specs.Entries.{IsFit}

-- what rests on no mark
abbrev pub by_start : By
by_start = record { line = 0; marks = sets.empty }

-- the node in question has what the query asks
abbrev pub begun_entries : ℕ → ℕ → ℕ → List Entry
begun_entries at sub not_sup = Grounded (Has at sub) by_start ∷ Grounded (Has at not_sup) by_start ∷ []

-- an item of a trail that a search is given: a fact rests on no mark
abbrev pub given_entry : Item → Entry
given_entry (Says f) = Grounded f by_start
given_entry (Marks c) = Mark c

-- the items of such a trail, in order
abbrev pub given_entries : List Item → List Entry
given_entries is = map given_entry is

-- the item can be put where there are n nodes
abbrev pub IsFitItem : ℕ → Item → Type 0
IsFitItem n (Says f) = IsFit n f
IsFitItem n (Marks c) = Unit {0}

-- each of the items can be put behind these facts and the items before it
abbrev pub AreFit : ℕ → List (Fact ℕ) → List Item → Type 0
AreFit first fs is =
    (place : ℕ) (i : Item) → slice_get is place ≡ Some i
    → IsFitItem (node_count_from first (fs ++ facts_of (take place is))) i

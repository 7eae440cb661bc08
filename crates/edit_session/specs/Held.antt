-- What a session needs of the log that it goes on with.
use Rattle.std.specs.Prelude.{ℕ, List}
use Rattle.axiom_sets.specs.Sets.{Limited, IsWithin}
use Rattle.pinpointing_specs.specs.LocalModule.{FollowsFrom}
use Rattle.shq_terms.specs.declared.axioms.Numbered.{Numbered}
use Rattle.shq_terms.specs.declared.axioms.Query.{Query}
use Rattle.shq_oracle.specs.Entry.{Entry}
use Rattle.shq_oracle.specs.Entry.TheVariants.{Test, Node}
use Rattle.shq_oracle.specs.TestEnd.{TestEnd}
use Rattle.shq_oracle.specs.TestEnd.TheVariants.{Yes, No, Spent}

-- the sets of the entry hold numbers of so many axioms alone
abbrev pub EndIsOf : ℕ → TestEnd → Type 0
EndIsOf n (Yes u) = IsWithin n u.members
EndIsOf n No = Unit {0}
EndIsOf n (Spent t) = Unit {0}

-- the entry speaks of the first n axioms alone
abbrev pub IsOfHeld : ℕ → Entry → Type 0
IsOfHeld n (Test s q steps e) = IsWithin n s.members × EndIsOf n e
IsOfHeld n (Node s) = Unit {0}

-- what a test found is so of the axioms
abbrev pub EndHolds : List Numbered → Limited → Query → TestEnd → Type 0
EndHolds axioms s q (Yes u) = FollowsFrom axioms q u.members
EndHolds axioms s q No = ¬ FollowsFrom axioms q s.members
EndHolds axioms s q (Spent t) = Unit {0}

-- what the entry found is so of these axioms
abbrev pub Holds : List Numbered → Entry → Type 0
Holds axioms (Test s q steps e) = EndHolds axioms s q e
Holds axioms (Node s) = Unit {0}

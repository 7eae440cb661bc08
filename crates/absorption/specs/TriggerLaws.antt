-- What rows mean.
use Rattle.std.specs.Prelude.{◌≡◌, false, Some, IsSome}
use Rattle.std.specs.List.{list_all}
use Rattle.shq_terms.specs.Concept.{Concept}
use Rattle.calculus_specs.specs.Rows.{Part, Trigger, row_of}
use Rattle.shq_terms.specs.declared.axioms.Axiom.{Axiom}
use Rattle.row_cache.specs.Truth.{Interpretation, meets}
use Rattle.row_cache.specs.Parts.{axiom_parts}
use Rattle.row_cache.specs.Meeting.{meets_part, is_role_axiom, is_assertion}
use Rattle.absorption.specs.Triggers.{trigger_for, fixed_concept}
use Rattle.absorption.specs.Truth.{meets_row, meets_row_if}

-- each part has a row with its trigger
abbrev pub EachPartHasItsRow : Type 0
EachPartHasItsRow = (q : Part) → IsSome (fixed_concept q)

-- a finite interpretation meets a part exactly where it meets any one of its rows
abbrev pub RowsAreTheirParts : Type 0
RowsAreTheirParts = (i : Interpretation) (q : Part) (t : Trigger) (c : Concept) → row_of q t ≡ Some c
    → meets_part i q ≡ meets_row i q t c

-- and an axiom that is neither of roles alone nor an assertion exactly where it meets the rows of its parts
abbrev pub AxiomsAreTheirRows : Type 0
AxiomsAreTheirRows = (i : Interpretation) (a : Axiom) → is_role_axiom a ≡ false → is_assertion a ≡ false
    → meets i a ≡ list_all (λ q. meets_row_if i q (trigger_for q) (fixed_concept q)) (axiom_parts a)

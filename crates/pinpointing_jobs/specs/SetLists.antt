-- Lists of sets of axioms, as they are written.
use Rattle.std.specs.Prelude.{ℕ, ◌+◌, Bool, List, [], ◌∷◌, ◌++◌, length, codes, decimal, if◌then◌else◌}
use Rattle.std.specs.List.{list_any}
use Rattle.std.specs.FinSet as set
use Rattle.axiom_sets.specs.Sets.{Limited}
use Rattle.shq_terms.specs.Listed.{Listed}
use Rattle.shq_terms.specs.declared.axioms.Numbered.{Numbered}
use Rattle.ofn_writer.specs.Canonical.{items_text, line, axiom_text}
use Rattle.job_inputs.specs.SetText.{set_text}

-- ---- the sets

-- a line for each set
abbrev pub set_lines : List Limited → List ℕ
set_lines [] = []
set_lines (s ∷ sets) = line (set_text s) ++ set_lines sets

-- ---- their axioms

-- some listed set has the number
abbrev pub is_listed : List Limited → ℕ → Bool
is_listed sets k = list_any (λ s. set.contains s.members k) sets

-- `axiom`, the number, `line`, the line of the document on which the axiom stands, and its text
abbrev pub axiom_line : Listed → ℕ → Numbered → List ℕ
axiom_line o k a =
    line (items_text (codes "axiom" ∷ decimal k ∷ codes "line" ∷ decimal a.line ∷ axiom_text o a.axiom ∷ []))

-- a line for each of the axioms, numbered from k on, whose number passes the test
abbrev pub axiom_lines : Listed → (ℕ → Bool) → ℕ → List Numbered → List ℕ
axiom_lines o test k [] = []
axiom_lines o test k (a ∷ axioms) = (if test k then axiom_line o k a else []) ++ axiom_lines o test (k + 1) axioms

-- ---- the whole

-- the heading and the number of sets
abbrev pub heading_line : List ℕ → ℕ → List ℕ
heading_line heading count = line (items_text (heading ∷ decimal count ∷ []))

-- the heading, the sets, and each axiom that is in one of them
abbrev pub sets_text : Listed → List ℕ → List Limited → List ℕ
sets_text o heading sets =
    heading_line heading (length sets) ++ (set_lines sets ++ axiom_lines o (is_listed sets) 1 o.axioms)

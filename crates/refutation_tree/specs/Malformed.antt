-- The first malformed line of what is to be the text of a refutation. The line `refutation` has the number 2.
use Rattle.std.specs.Prelude.{ℕ, List, Option}
use Rattle.certificate_lines.specs.Malformed.{TellsMalformed}
use Rattle.certificate_lines.specs.Body.{malformed_after_line, malformed_in_body}
use Rattle.certificate_lines.specs.Listed.{Listed}
use Rattle.refutation_tree.specs.RefutationLists.{RefutationLists}
use Rattle.refutation_tree.specs.RefutationText.{refutation_line_read, begun, axioms_in, head_in, refutation_of}

-- of the lines after that of the axioms, where what was read so far is given
abbrev pub malformed_in_refutation : Listed → RefutationLists → List (List ℕ) → Option ℕ
malformed_in_refutation o k ls = malformed_in_body (refutation_line_read o) 4 k ls

-- from the line of the axioms on
abbrev pub malformed_axioms : Listed → List (List ℕ) → Option ℕ
malformed_axioms o ls = malformed_after_line 3 (axioms_in o) (λ a. malformed_in_refutation o (begun a)) ls

-- the first malformed line of what is to be a refutation, if there is one
abbrev pub malformed_refutation_line : Listed → List (List ℕ) → Option ℕ
malformed_refutation_line o ls = malformed_after_line 2 head_in (λ u. malformed_axioms o) ls

-- the malformed line that is told is the first, and without one the lines are the text of a refutation
abbrev pub RefutationsTellMalformed : Type 0
RefutationsTellMalformed = (o : Listed) → TellsMalformed 2 (refutation_of o) (malformed_refutation_line o)

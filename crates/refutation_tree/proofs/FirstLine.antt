-- The first malformed line.
use Rattle.std.proofs.Common.{◌≡◌, ℕ, List, [], ◌∷◌, length, Some, refl}
use Rattle.std.specs.Prelude.{codes}
use Rattle.std.specs.FinSet as set
use Rattle.certificate_lines.specs.Malformed.{BeginsText, TellsMalformed}
use Rattle.certificate_lines.specs.Body.{malformed_in_body}
use Rattle.certificate_lines.proofs.FirstMalformed.{body_tells, line_tells, begins_after}
use Rattle.certificate_lines.specs.Listed.{Listed}
use Rattle.refutation_tree.specs.RefutationLists.{RefutationLists}
use Rattle.refutation_tree.specs.RefutationText.{refutation_line_read, refutation_body, begun, axioms_in, axioms_from}
use Rattle.refutation_tree.specs.RefutationText.{head_in, refutation_of}
use Rattle.refutation_tree.specs.Malformed.{malformed_axioms, malformed_refutation_line}

-- the shortest text
abbrev least_text : List (List ℕ)
least_text = codes "axioms" ∷ codes "end" ∷ []

least : (o : Listed) → RefutationLists
least o = begun (record { limit = length o.axioms; members = set.empty })

least_is_text : (o : Listed) → axioms_from o least_text ≡ Some (least o)
unfolding least
least_is_text o = refl

some_axioms : (o : Listed) → BeginsText (axioms_from o) []
some_axioms o = (least_text, least o, least_is_text o)

pub some_refutation : (o : Listed) → BeginsText (refutation_of o) []
some_refutation o = begins_after head_in (λ u. axioms_from o) (codes "refutation") tt refl (some_axioms o)

axioms_tell : (o : Listed) → TellsMalformed 3 (axioms_from o) (malformed_axioms o)
axioms_tell o =
    line_tells (axioms_in o) (λ a. refutation_body o (begun a))
    (λ a. malformed_in_body (refutation_line_read o) 4 (begun a)) 3 (some_axioms o)
    (λ a. body_tells (refutation_line_read o) (λ last. last) 4 (begun a))

pub refutation_tells : (o : Listed) → TellsMalformed 2 (refutation_of o) (malformed_refutation_line o)
refutation_tells o =
    line_tells head_in (λ u. axioms_from o) (λ u. malformed_axioms o) 2 (some_refutation o) (λ u. axioms_tell o)

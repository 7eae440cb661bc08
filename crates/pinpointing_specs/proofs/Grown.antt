-- More axioms entail no less. Contracts cite this, so nothing that it stands on leads to code.
use Rattle.std.proofs.Common.{◌+◌, List, subst}
use Rattle.std.specs.List.{Contains}
use Rattle.axiom_sets.specs.NumberSets.{NumberSet, IsPart}
use Rattle.shq_meaning.specs.Axiom.{Axiom}
use Rattle.shq_meaning.specs.Numbered.{Numbered}
use Rattle.shq_meaning.specs.Query.{Query}
use Rattle.shq_meaning.specs.Truth.{meets}
use Rattle.shq_meaning.proofs.Members.{member_passes, all_pass}
use Rattle.pinpointing_specs.specs.LocalModule.{axioms_in_set, FollowsFrom}
use Rattle.pinpointing_specs.proofs.InSet.{in_set, to_set}

-- what follows from axioms of a set follows from those of a larger one
pub grows : (axioms : List Numbered) (q : Query) (s t : NumberSet) → IsPart s t → FollowsFrom axioms q s
    → FollowsFrom axioms q t
grows axioms q s t part follows i some placed met =
    follows i some placed
    (all_pass (meets i) (axioms_in_set s axioms)
    (λ a listed.
    let at = in_set s axioms a listed in
    member_passes (meets i) (axioms_in_set t axioms) met a
    (subst (λ (x : Axiom). Contains (axioms_in_set t axioms) x) at.is
    (to_set t axioms at.place at.numbered at.is_there (part (at.place + 1) at.member)))))

use Rattle.std.proofs.Common.{}
use Rattle.shq_meaning.specs.Truth.{meets}
use Rattle.shq_meaning.proofs.Members.{member_passes, all_pass}
use Rattle.shq_meaning.proofs.laws.entailment_is_monotone.Goals as goal

pub returns : goal.returns
returns c =
    λ few many q within follows i some placed met. follows i some placed
    (all_pass (meets i) few (λ a listed. member_passes (meets i) many met a (within a listed)))

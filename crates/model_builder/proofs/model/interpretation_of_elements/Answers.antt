use Rattle.model_builder.proofs.Numbers.{numbered_same}
use Rattle.model_builder.proofs.model.interpretation_of_elements.Goals as goal

pub interpretation_of-requires-clause-numbered : goal.interpretation_of-requires-clause-numbered
interpretation_of-requires-clause-numbered g c =
    numbered_same _ _ _ _ _ _ _ c.in_ok-elements.ensures.numbered c.as_slice-numbers.ensures.value
    c.as_slice-originals.ensures.value

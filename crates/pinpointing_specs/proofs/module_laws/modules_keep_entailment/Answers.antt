use Rattle.std.proofs.Common.{}
use Rattle.std.specs.FinSet as set
use Rattle.pinpointing_specs.proofs.Grown.{grows}
use Rattle.pinpointing_specs.proofs.Kept.{keeps, intersection_part}
use Rattle.pinpointing_specs.proofs.module_laws.modules_keep_entailment.Goals as goal

pub returns : goal.returns
returns c =
    λ axioms q m s is_module. (
      keeps axioms q m is_module s,
      grows axioms q (set.intersection s m) s (intersection_part s m),
    )

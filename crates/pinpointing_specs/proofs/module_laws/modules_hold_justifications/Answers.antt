use Rattle.std.proofs.Common.{}
use Rattle.pinpointing_specs.proofs.Kept.{held}
use Rattle.pinpointing_specs.proofs.module_laws.modules_hold_justifications.Goals as goal

pub returns : goal.returns
returns c = held

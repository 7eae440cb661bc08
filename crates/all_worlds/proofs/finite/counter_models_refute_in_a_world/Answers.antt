use Rattle.std.proofs.Common.{}
use Rattle.all_worlds.proofs.Interpreted.{counter_model_refutes}
use Rattle.all_worlds.proofs.finite.counter_models_refute_in_a_world.Goals as goal

pub returns : goal.returns
returns c = counter_model_refutes

use Rattle.std.proofs.Common.{}
use Rattle.guided_search.proofs.Everywhere.{tableaux_exclude_counter_models}
use Rattle.guided_search.proofs.laws.closed_tableaux_exclude_counter_models.Goals as goal

pub returns : goal.returns
returns c = tableaux_exclude_counter_models

use Rattle.search_laws.proofs.Unnamed.{any_is_unnamed}
use Rattle.search_laws.proofs.reuse_laws.any_is_unnamed.Goals as goal

pub returns : goal.returns
returns c = any_is_unnamed

use Rattle.text_laws.proofs.InLimit.{classes_list_names}
use Rattle.text_laws.proofs.limit_laws.classes_list_names.Goals as goal

pub returns : goal.returns
returns c = classes_list_names

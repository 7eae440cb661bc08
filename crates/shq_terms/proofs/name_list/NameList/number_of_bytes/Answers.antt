use Rattle.std.proofs.Common.{sym, ◌∙◌, ap, position}
use Rattle.std.specs.Str.{bytes_eq}
use Rattle.shq_terms.proofs.Position.{no_text-position}
use Rattle.shq_terms.proofs.name_list.NameList.number_of_bytes.Goals as goal

pub returns-in-Err : goal.returns-in-Err
returns-in-Err c =
    sym (no_text-position c.args.name.now c.self.inside.names.keys c.in-Err.ensures.cases.0)
    ∙ ap (position (bytes_eq c.args.name.now)) c.self.view_is

use Rattle.std.proofs.Common.{◌∙◌, ap, ◌∷◌, [], map, string_bytes}
use Rattle.std.specs.String.{string_eq}
use Rattle.std.proofs.lemmas.List.{map-append}
use Rattle.indexmap.proofs.CallerLemmas.{insert_entry-new}
use Rattle.ofn_expressions.specs.Names.{entry}
use Rattle.ofn_expressions.proofs.Declared.{none_looked_up}
use Rattle.ofn_expressions.proofs.prefixes.insert_new.Goals as goal

pub returns-clause-pushed : goal.returns-clause-pushed
returns-clause-pushed c =
    ap (map entry)
    (c.in_ok-insert.ensures.entries
    ∙ insert_entry-new string_eq c.args.entries.now c.args.name c.args.iri
    (none_looked_up (string_bytes c.args.name) c.args.entries.now.entries c.requires))
    ∙ map-append entry c.args.entries.now.entries ((c.args.name, c.args.iri) ∷ [])

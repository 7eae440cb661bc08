use Rattle.std.proofs.Common.{◌∙◌, sym, ap, Some, option_map}
use Rattle.std.specs.Prelude.{string_bytes}
use Rattle.std.specs.Option.{option_copied}
use Rattle.ofn_expressions.specs.Names.{prefix_iri}
use Rattle.ofn_expressions.proofs.Declared.{iri_found}
use Rattle.ofn_expressions.proofs.prefixes.Prefixes.iri.Goals as goal

pub returns-in-Some : goal.returns-in-Some
returns-in-Some c =
    ap Some c.as_str.ensures.value
    ∙ ap (option_map string_bytes) (sym (ap option_copied c.in-Some.is) ∙ c.get.ensures.value)
    ∙ sym (iri_found c.args.name.now c.self.inside.entries.entries)
    ∙ ap (λ ps. prefix_iri ps c.args.name.now) c.self.view_is

pub returns-in-None : goal.returns-in-None
returns-in-None c =
    ap (option_map string_bytes) (sym (ap option_copied c.in-None.is) ∙ c.get.ensures.value)
    ∙ sym (iri_found c.args.name.now c.self.inside.entries.entries)
    ∙ ap (λ ps. prefix_iri ps c.args.name.now) c.self.view_is

use Rattle.std.proofs.Common.{◌∷◌, []}
use Rattle.std.proofs.lemmas.Result.{on_ok_weaker}
use Rattle.ofn_writer.specs.Canonical.{iri_text, group_text}
use Rattle.ofn_writer.proofs.Lines.{declared}
use Rattle.ofn_writer.proofs.ontologies.put_declaration.Goals as goal

pub returns : goal.returns
returns c =
    on_ok_weaker c.put-2.result
    (declared (group_text c.args.kind.now (iri_text c.args.iri.now ∷ [])) c.args.out.now.items c.put.new.out.items
    c.put_entity.new.out.items c.put-2.new.out.items c.in_ok-put.ensures c.in_ok-put_entity.ensures)
    c.put-2.ensures

use Rattle.std.proofs.Common.{◌+◌, ◌∙◌, ap, length}
use Rattle.std.specs.FinSet as sets
use Rattle.std.proofs.lemmas.List.{get_or_default}
use Rattle.axiom_sets.specs.Sets.{Limited}
use Rattle.subsumption.specs.Matrices.{no_row}
use Rattle.realizer.proofs.Pruned.{found_open}
use Rattle.realizer.proofs.typing.Typing.next_open.Goals as goal

pub returns : goal.returns
returns c =
    let rows = c.args.self.now.rows.items in
    let types = c.args.types.now in
    let left = c.take_all.new.self in
    found_open c.args.relation.now.count c.args.individual (length rows) rows types left c.requires.rows
    c.requires.individual
    (c.take_all.ensures.members
    ∙ ap (λ (s : Limited). sets.difference s.members types.members)
    (c.in_ok-open.ensures ∙ c.index.ensures
    ∙ get_or_default rows c.args.individual c.index.result.now no_row c.requires.individual))
    c.most_specific.result c.most_specific.ensures

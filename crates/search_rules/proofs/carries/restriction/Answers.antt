use Rattle.std.proofs.Common.{sym, ◌∙◌}
use Rattle.absorption.proofs.ListedTrails.{listed}
use Rattle.search_rules.proofs.carries.restriction.Goals as goal

pub unreachable-requires : goal.unreachable-requires
unreachable-requires c =
    let found =
    c.requires.closed.carried c.args.number c.args.role c.args.filler c.args.lower c.requires.shape
    c.requires.transitive c.requires.role_below in
    c.in-None.ensures found.0 (listed c.args.concepts.now found.0 (λ is. (let e = sym is ∙ found.1 in cc))) found.1

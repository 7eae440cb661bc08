use Rattle.pinpointing_specs.proofs.Explored.{laws_of_leaves}
use Rattle.repair_list.proofs.finished_repairs_are_all.Goals as goal

pub returns : goal.returns
returns g c f list found finished are r limit =
    let E = g.E.Entail in
    let m = E.meaning c.args._entail.now in
    let law =
    laws_of_leaves m.holds m.size f.justifications.items f.leaves.items (g.met.E.Entail.grows c.args._entail.now)
    (found.explored finished) r limit in
    (λ h. law.0 ((are r).0 h), λ h. (are r).1 (law.1 h))

use Rattle.std.proofs.Common.{sym, ◌∙◌}
use Rattle.shq_nnf.proofs.Looked.{looked_up, looked_in_vain}
use Rattle.shq_nnf.proofs.concepts.Concepts.find.Goals as goal

pub returns-in-Some : goal.returns-in-Some
returns-in-Some c =
    looked_up c.self.inside.kept.keys c.args.self.now c.args.shape.now c.self.view_is c.in-Some.number
    (sym c.in-Some.ensures.index)

pub returns-in-None : goal.returns-in-None
returns-in-None c =
    looked_in_vain c.self.inside.kept.keys c.args.self.now c.args.shape.now c.self.view_is (sym c.in-None.ensures.found)

use Rattle.shq_nnf.specs.Shapes.{form_of}
use Rattle.shq_nnf.proofs.Numbers.{put_number, extends_put}
use Rattle.shq_nnf.proofs.concepts.Concepts.put.Goals as goal

pub returns-clause-number : goal.returns-clause-number
returns-clause-number c =
    put_number c.args.self.now (form_of c.args.shape) c.put_shape.new.self c.in_ok-number.number
    c.put_shape.ensures.table c.requires.parts c.len-count.ensures.table c.in_ok-number.ensures.put

pub returns-clause-kept : goal.returns-clause-kept
returns-clause-kept c =
    extends_put c.args.self.now (form_of c.args.shape) c.put_shape.new.self c.in_ok-number.number
    c.in_ok-number.ensures.put

use Rattle.std.proofs.Common.{sym, subst}
use Rattle.finite_model.specs.ModelLists.{begins}
use Rattle.finite_model.specs.Next.{IsNext}
use Rattle.finite_model.proofs.Nexts.{no_beginning, a_beginning}
use Rattle.finite_model.proofs.interp.Interp.next_beginning.Goals as goal

pub returns-in_err-link : goal.returns-in_err-link
returns-in_err-link c =
    let k = c.args.self.now in
    let told = c.first_link.ensures in
    subst (IsNext k.size c.args.from (begins k c.args.role)) (sym c.from_residual.ensures)
    (no_beginning c.args.role c.args.from k.size told.small k.links c.first_link.result told.first c.in_err-link.was)

pub returns : goal.returns
returns c =
    let k = c.args.self.now in
    let told = c.first_link.ensures in
    a_beginning c.args.role c.args.from k.size told.small k.links c.first_link.result told.first told.ordered
    c.in_ok-link.link c.next_element.result c.in_ok-link.was c.next_element.ensures

use Rattle.std.proofs.Common.{sym, subst}
use Rattle.std.specs.List.{list_any}
use Rattle.finite_model.specs.ModelLists.{is_link}
use Rattle.finite_model.specs.Next.{IsNext}
use Rattle.finite_model.proofs.Nexts.{no_successor, a_successor, is_successor}
use Rattle.finite_model.proofs.interp.Interp.next_successor.Goals as goal

pub returns-in_err-link-clause-next : goal.returns-in_err-link-clause-next
returns-in_err-link-clause-next c =
    let k = c.args.self.now in
    let told = c.first_link.ensures in
    subst (IsNext k.size c.args.from (λ y. list_any (is_link c.args.role c.args.x y) k.links))
    (sym c.from_residual.ensures)
    (no_successor c.args.role c.args.x c.args.from k.size told.small k.links c.first_link.result told.first
    c.in_err-link.was)

pub returns-clause-next : goal.returns-clause-next
returns-clause-next c =
    let k = c.args.self.now in
    let told = c.first_link.ensures in
    a_successor c.args.role c.args.x c.args.from k.size told.small k.links c.first_link.result told.first told.ordered
    c.in_ok-link.link c.next_element.result c.in_ok-link.was c.next_element.ensures

pub returns-clause-successor : goal.returns-clause-successor
returns-clause-successor c =
    let k = c.args.self.now in
    let told = c.first_link.ensures in
    is_successor c.args.role c.args.x c.args.from k.size told.small k.links c.first_link.result told.first
    c.in_ok-link.link c.next_element.result c.in_ok-link.was c.next_element.ensures

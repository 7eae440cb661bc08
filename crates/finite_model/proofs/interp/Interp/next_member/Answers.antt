use Rattle.std.proofs.Common.{sym, subst}
use Rattle.std.specs.List.{list_any}
use Rattle.finite_model.specs.ModelLists.{is_member}
use Rattle.finite_model.specs.Next.{IsNext}
use Rattle.finite_model.proofs.Nexts.{no_member, a_member}
use Rattle.finite_model.proofs.interp.Interp.next_member.Goals as goal

pub returns-in_err-member : goal.returns-in_err-member
returns-in_err-member c =
    let k = c.args.self.now in
    let told = c.first_member.ensures in
    subst (IsNext k.size c.args.from (λ x. list_any (is_member c.args.class x) k.members)) (sym c.from_residual.ensures)
    (no_member c.args.class c.args.from k.size told.small k.members c.first_member.result told.first
    c.in_err-member.was)

pub returns : goal.returns
returns c =
    let k = c.args.self.now in
    let told = c.first_member.ensures in
    a_member c.args.class c.args.from k.size told.small k.members c.first_member.result told.first told.ordered
    c.in_ok-member.member c.next_element.result c.in_ok-member.was c.next_element.ensures

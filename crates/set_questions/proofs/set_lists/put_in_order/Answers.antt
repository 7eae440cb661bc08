use Rattle.std.proofs.Common.{List, sym, subst}
use Rattle.pinpointing_specs.specs.Sets.{Limited}
use Rattle.pinpointing_specs.specs.Order.{IsAscending}
use Rattle.set_questions.specs.InOrder.{IsBetween, HasMore}
use Rattle.set_questions.proofs.Ordered.{inserted, insert_has}
use Rattle.set_questions.proofs.set_lists.put_in_order.Goals as goal

pub returns-clause-order : goal.returns-clause-order
returns-clause-order c =
    let sets = c.args.sets.now.items in
    let s = c.args.set in
    let n = c.in-Some.place in
    let between : IsBetween sets s n n =
    subst (λ (xs : List Limited). IsBetween xs s n n) c.deref.ensures.value c.in-Some.ensures.some in
    subst (λ (xs : List Limited). IsAscending xs) (sym c.in_ok-insert.ensures.items)
    (inserted sets s n c.requires.order between)

pub returns-clause-members : goal.returns-clause-members
returns-clause-members c =
    let sets = c.args.sets.now.items in
    subst (λ (xs : List Limited). HasMore sets c.args.set xs) (sym c.in_ok-insert.ensures.items)
    (insert_has sets c.args.set c.in-Some.place)

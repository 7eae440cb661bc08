use Rattle.set_questions.proofs.Ordered.{order_says}
use Rattle.set_questions.proofs.set_lists.order.Goals as goal

pub returns : goal.returns
returns c =
    order_says c.args.one.now c.args.other.now c.limit.ensures.within c.limit-2.ensures.within c.requires
    c.cmp_list.result c.cmp_list.ensures

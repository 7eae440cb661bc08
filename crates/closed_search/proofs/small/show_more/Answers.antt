use Rattle.closed_search.proofs.Fitting.{all_small}
use Rattle.closed_search.proofs.small.show_more.Goals as goal

pub returns-clause-others : goal.returns-clause-others
returns-clause-others c = all_small c.args.others.now (λ i. (c.type_inv.others i).fits)

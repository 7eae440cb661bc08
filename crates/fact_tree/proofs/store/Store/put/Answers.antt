use Rattle.fact_tree.proofs.Growing.{on_err_by}
use Rattle.fact_tree.proofs.Undone.{longer_back}
use Rattle.fact_tree.proofs.store.Store.put.Goals as goal

pub returns-in-Same-clause-back : goal.returns-in-Same-clause-back
returns-in-Same-clause-back g c =
    on_err_by c.join_two.result _ _
    (longer_back c.args.self.now c.join_two.new.self c.args.at c.args.high c.requires.place) c.join_two.ensures.begins

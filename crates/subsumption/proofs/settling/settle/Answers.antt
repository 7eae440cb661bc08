use Rattle.std.proofs.Common.{◌∙◌, sym}
use Rattle.subsumption.proofs.Ended.{all_settled}
use Rattle.subsumption.proofs.settling.settle.Goals as goal

pub returns-clause-settled : goal.returns-clause-settled
returns-clause-settled c =
    all_settled c.args.ontology.now c.settle_all.new.oracle c.settle_all.new.self c.into_known.result
    (c.in_ok-settle_all.ensures.alike.ontology ∙ c.requires.same) (sym c.into_known.ensures)
    c.in_ok-settle_all.ensures.ok c.in_ok-settle_all.ensures.done

use Rattle.std.proofs.lemmas.Result.{IfOk-weaker}
use Rattle.subsumption.specs.Settled.{IsSettled}
use Rattle.classifier.specs.ClassificationClassified.{IsClassified}
use Rattle.classifier.proofs.Settled.{classified}
use Rattle.classifier.proofs.classifying.classify.Goals as goal

pub returns-clause-classified : goal.returns-clause-classified
returns-clause-classified c =
    let o = c.args.ontology.now in
    let log = c.settle.new.oracle.log in
    IfOk-weaker c.settle.result (IsSettled o log) (IsClassified o log) (classified o log) c.settle.ensures.settled

use Rattle.ofn_reader.specs.Queries.{counted_in_first}
use Rattle.ofn_reader.proofs.Simple.{simple_ok, simple_err}
use Rattle.ofn_reader.proofs.queries.simple_class.Goals as goal

pub returns-in-Ok-clause-tests : goal.returns-in-Ok-clause-tests
returns-in-Ok-clause-tests c = λ s new ts cs judged first.
    simple_ok counted_in_first c.args.ontology.now.axioms c.args.line c.args.read c.in-Ok.class
    c.class_is_simple-simple.result c.if_simple.result c.in-Ok.is c.if_simple.ensures c.class_is_simple-simple.ensures s
    new ts cs judged first

pub returns-in-Err-clause-tests : goal.returns-in-Err-clause-tests
returns-in-Err-clause-tests c = λ s new ts cs judged first known.
    simple_err c.args.ontology.now.axioms c.args.line (counted_in_first cs) c.args.read c.in-Err.refusal c.in-Err.is s
    new ts judged known

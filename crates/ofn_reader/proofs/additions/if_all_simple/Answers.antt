use Rattle.ofn_reader.proofs.Added.{all_simple_ok, all_simple_err}
use Rattle.ofn_reader.proofs.additions.if_all_simple.Goals as goal

pub returns-in-Ok-clause-tests : goal.returns-in-Ok-clause-tests
returns-in-Ok-clause-tests c = λ s new ts as_ judged says.
    all_simple_ok c.args.ontology.now.axioms c.args.line c.args.read c.in-Ok.«axiom»
    c.all_count_simple_with-simple.result c.if_simple.result c.in-Ok.is c.if_simple.ensures
    c.all_count_simple_with-simple.ensures s new ts as_ judged says

pub returns-in-Err-clause-tests : goal.returns-in-Err-clause-tests
returns-in-Err-clause-tests c = λ s new ts as_ judged says known.
    all_simple_err c.args.ontology.now.axioms c.args.line c.args.read c.in-Err.refusal c.in-Err.is s new ts as_ judged
    known

use Rattle.std.proofs.Common.{sym}
use Rattle.ontology_jobs.specs.Status.TheVariants.{ReadFault, WriteFault}
use Rattle.ontology_cli.proofs.program.end_of.Goals as goal

pub returns-clause-ends : goal.returns-clause-ends
returns-clause-ends g c = record {
  status = c.run-status.result;
  number_is = c.exit_code.ensures.number;
  ended = record {
    log = c.run-status.new.log;
    answered = c.run-status.ensures.answer;
    leaves = c.run-status.ensures.leaves;
    undecided = c.run-status.ensures.undecided;
    unspent = c.run-status.ensures.unspent;
    complete = c.run-status.ensures.complete;
  };
}

pub returns-clause-read_fault : goal.returns-clause-read_fault
returns-clause-read_fault g c =
    λ same. c.run-status.ensures.read_fault (sym (c.exit_code.ensures.only ReadFault (sym same)))

pub returns-clause-write_fault : goal.returns-clause-write_fault
returns-clause-write_fault g c =
    λ same. c.run-status.ensures.write_fault (sym (c.exit_code.ensures.only WriteFault (sym same)))

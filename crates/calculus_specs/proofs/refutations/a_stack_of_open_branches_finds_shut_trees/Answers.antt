use Rattle.calculus_specs.proofs.Stack.{refutation_runs, run_refutes}
use Rattle.calculus_specs.proofs.refutations.a_stack_of_open_branches_finds_shut_trees.Goals as goal

pub returns : goal.returns
returns c = λ q shapes lines. (refutation_runs q shapes lines, run_refutes q shapes lines)

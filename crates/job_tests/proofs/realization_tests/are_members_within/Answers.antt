use Rattle.realizer.proofs.Unique.{questions_in_limit}
use Rattle.job_tests.proofs.realization_tests.are_members_within.Goals as goal

pub are_members_by-requires-clause-in_limit : goal.are_members_by-requires-clause-in_limit
are_members_by-requires-clause-in_limit c a = questions_in_limit c.args.ontology.now c.args.query.now a c.requires

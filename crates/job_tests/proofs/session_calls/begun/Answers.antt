use Rattle.std.proofs.Common.{}
use Rattle.text_laws.proofs.InLimit.{documents_in_limit}
use Rattle.edit_session.proofs.Beginning.{new_may_go_on}
use Rattle.job_tests.proofs.session_calls.begun.Goals as goal

pub new-requires : goal.new-requires
new-requires c =
    documents_in_limit _ c.in_ok-ontology.ontology c.in_ok-ontology.context _ c.in_ok-ontology.ensures.document

pub returns-clause-may_go_on : goal.returns-clause-may_go_on
returns-clause-may_go_on c =
    rw c.in_ok-new.ensures (new_may_go_on c.in_ok-ontology.ontology c.in_ok-ontology.context 1000).0

pub returns-clause-honest : goal.returns-clause-honest
returns-clause-honest c =
    rw c.in_ok-new.ensures (new_may_go_on c.in_ok-ontology.ontology c.in_ok-ontology.context 1000).1

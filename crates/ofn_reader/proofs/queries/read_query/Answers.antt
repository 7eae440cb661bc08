use Rattle.ofn_reader.specs.Queries.{query_tests}
use Rattle.ofn_reader.proofs.Refused.{query_refused}
use Rattle.ofn_reader.proofs.queries.read_query.Goals as goal

pub returns-clause-refused : goal.returns-clause-refused
returns-clause-refused c =
    query_refused query_tests c.args.ontology.now c.as_bytes-bytes.result.now c.args.text.now c.in_ok-items.items.items
    c.deref.result.now c.end_line.result c.nodes.result c.args.context.now.nodes c.args.context.now.prefixes
    c.prefixes.result.now c.read_query_on.result c.as_bytes-bytes.ensures.value c.in_ok-items.ensures.short
    c.in_ok-items.ensures.made c.deref.ensures.value c.end_line.ensures c.prefixes.ensures c.nodes.ensures.nodes
    c.read_query_on.ensures.refused

use Rattle.edit_session.proofs.Limits.{query_in_limit, query_cut}
use Rattle.edit_session.proofs.asking.ask_on.Goals as goal

pub decide-outcome-requires-clause-in_limit : goal.decide-outcome-requires-clause-in_limit
decide-outcome-requires-clause-in_limit c =
    query_in_limit c.args.context.now c.args.ontology.now c.args.text.now c.read_query.new.ontology c.in_ok-query.query
    c.requires.in_limit c.in_ok-query.ensures.query

pub returns-in_err-outcome-clause-cut : goal.returns-in_err-outcome-clause-cut
returns-in_err-outcome-clause-cut c =
    query_cut c.args.context.now c.args.ontology.now c.args.text.now c.read_query.new.ontology c.in_ok-query.query
    c.in_ok-query.ensures.query

pub returns-clause-asked : goal.returns-clause-asked
returns-clause-asked c = record {
  both = c.read_query.new.ontology;
  query = c.in_ok-query.query;
  is_query = c.in_ok-query.ensures.query;
  in_limit =
      query_in_limit c.args.context.now c.args.ontology.now c.args.text.now c.read_query.new.ontology
      c.in_ok-query.query c.requires.in_limit c.in_ok-query.ensures.query;
  decided = c.in_ok-outcome.ensures.decided;
}

pub returns-clause-cut : goal.returns-clause-cut
returns-clause-cut c =
    query_cut c.args.context.now c.args.ontology.now c.args.text.now c.read_query.new.ontology c.in_ok-query.query
    c.in_ok-query.ensures.query

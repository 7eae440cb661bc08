use Rattle.search_trace.proofs.Grounded.{given_is_known, edge_is_known}
use Rattle.search_trace.proofs.closing_laws.grounded_facts_know.Goals as goal

pub returns : goal.returns
returns c =
    λ first u ms grounded. record {
      given = given_is_known first u ms grounded;
      edge = edge_is_known first u ms grounded;
    }

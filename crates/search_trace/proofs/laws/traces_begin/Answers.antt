use Rattle.search_trace.proofs.Places.{start_is_traced}
use Rattle.search_trace.proofs.laws.traces_begin.Goals as goal

pub returns : goal.returns
returns c =
    λ q table sub_number not_sup_number e f. record {
      are_at = tt;
      traced = start_is_traced q table sub_number not_sup_number e f;
    }

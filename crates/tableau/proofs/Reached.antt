-- What is searched is reached.
use Rattle.tableau_specs.specs.Steps.{SearchContext}
use Rattle.tableau_specs.specs.Reached.{IsReached}
use Rattle.search_state.specs.Trail.{items_of}
use Rattle.search_state.specs.Progress.{ProgressLists, asked_by, IsStanding}

pub standing_is_reached : (w : SearchContext) (p : ProgressLists) → IsStanding w p
    → IsReached (asked_by w p) w.table w.rows p.steps (items_of p.entries)
standing_is_reached w p h = record {
  is_table = h.asked.is_table;
  is_choice = h.asked.is_choice;
  facts_have_numbers = h.asked.facts_have_numbers;
  at_first = h.asked.at_first;
  sub_number = p.sub;
  sub_listed = h.asked.sub_listed;
  sub_reads = h.asked.sub_is;
  not_sup_number = p.not_sup;
  not_sup_listed = h.asked.not_sup_listed;
  not_sup_reads = h.asked.not_sup_is;
  follows = h.follows;
}

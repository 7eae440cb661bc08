use Rattle.ontology_limits.proofs.Numbers.{extends_twice, number_stays}
use Rattle.search_rules.proofs.query_numbers.put_query.Goals as goal

pub returns-clause-found : goal.returns-clause-found
returns-clause-found c =
    let a = c.args.concepts.now in
    let b = c.intern.new.self in
    let d = c.intern_complement.new.self in
    let e = c.closed_tables.new.concepts in
    let later = extends_twice b d e c.intern_complement.ensures.kept c.closed_tables.ensures.kept in
    record {
      kept = extends_twice a b e c.intern.ensures.kept later;
      tabled = c.closed_tables.ensures.table;
      closed = c.in_ok-tables.ensures.closed;
      sub_is = number_stays b e c.in_ok-sub.sub _ later c.in_ok-sub.ensures.number;
      not_sup_is =
          number_stays d e c.in_ok-not_sup.not_sup _ c.closed_tables.ensures.kept c.in_ok-not_sup.ensures.number;
      lists = c.in_ok-tables.ensures.tables;
    }

use Rattle.row_cache.proofs.Cache.{table_stays}
use Rattle.row_cache.proofs.row_cache.RowCache.made_range.Goals as goal

pub invariant_of-self : goal.invariant_of-self
invariant_of-self c =
    let i = c.self.inside in
    table_stays i.ontology.now.axioms i.named.now i.concepts c.range_row.new.concepts i.rows.entries i.ranges.entries
    c.range_row.ensures.kept c.self.invariant

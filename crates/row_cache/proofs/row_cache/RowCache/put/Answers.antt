use Rattle.row_cache.proofs.Cache.{table_stays}
use Rattle.row_cache.proofs.row_cache.RowCache.put.Goals as goal

pub invariant_of-self : goal.invariant_of-self
invariant_of-self c =
    let i = c.self.inside in
    table_stays i.ontology.now.axioms i.named.now i.concepts c.put.new.self i.rows.entries i.ranges.entries
    c.put.ensures.kept c.self.invariant

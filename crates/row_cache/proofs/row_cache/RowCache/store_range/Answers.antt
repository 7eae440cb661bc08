use Rattle.row_cache.proofs.Cache.{range_stored}
use Rattle.row_cache.proofs.row_cache.RowCache.store_range.Goals as goal

pub invariant_of-self : goal.invariant_of-self
invariant_of-self c =
    let i = c.self.inside in
    range_stored i.ontology.now.axioms i.named.now i.concepts c.args.axiom i.ranges c.store_range.new.ranges
    i.rows.entries c.args.row c.store_range.result
    c.store_range.ensures.stored c.store_range.ensures.unchanged (rw (← c.self.view_is) at c.requires) c.self.invariant

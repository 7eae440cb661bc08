use Rattle.row_cache.proofs.Cache.{row_stored}
use Rattle.row_cache.proofs.row_cache.RowCache.store_row.Goals as goal

pub invariant_of-self : goal.invariant_of-self
invariant_of-self c =
    let i = c.self.inside in
    let a = c.args in
    row_stored i.ontology.now.axioms i.named.now i.concepts a.axiom i.rows c.store_row.new.rows i.ranges.entries a.part
    (record { positions = a.positions.now; row = a.row.now }) c.store_row.result
    c.store_row.ensures.stored c.store_row.ensures.unchanged (rw (← c.self.view_is) at c.requires) c.self.invariant

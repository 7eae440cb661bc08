use Rattle.std.proofs.Common.{refl}
use Rattle.completion_tree.specs.Trail.{is_fact, is_same}
use Rattle.completion_tree.proofs.Places.{places-snoc}
use Rattle.completion_tree.proofs.trail.Trail.push.Goals as goal

pub invariant_of-self : goal.invariant_of-self
invariant_of-self g c =
    let es = c.self.inside.entries.items in
    let h = c.in-Ok.ensures in (
      places-snoc is_fact es c.push_all.new.entries.items c.args.entry c.self.inside.facts.items
          c.push_all.new.facts.items _ c.self.invariant.0 refl h.entries h.facts,
      places-snoc is_same es c.push_all.new.entries.items c.args.entry c.self.inside.joins.items
          c.push_all.new.joins.items _ c.self.invariant.1 refl h.entries h.joins,
      h.small,
    )

use Rattle.std.proofs.Common.{None, Bool, refl, ap, sym}
use Rattle.std.specs.Prelude.{if◌then◌else◌}
use Rattle.std.proofs.lemmas.Bool.{lt-ltb}
use Rattle.calculus_specs.specs.State.{first_origin}
use Rattle.fact_tree.proofs.tree.FactTree.parent.Goals as goal

pub returns-in-None : goal.returns-in-None
returns-in-None g c =
    let t = c.args.self.now in
    sym (ap (λ (b : Bool). if b then None else first_origin t.facts c.args.node)
    (lt-ltb c.args.node t.first (c.in-None.ensures.none refl)))

pub returns-in-Some : goal.returns-in-Some
returns-in-Some g c = sym c.in-Some.ensures.some.1.1

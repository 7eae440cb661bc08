use Rattle.std.proofs.Common.{◌≡◌, length, ap, ◌∙◌, arith}
use Rattle.completion_tree.specs.Trail.{facts_in, is_fact}
use Rattle.completion_tree.proofs.Places.{places-length, facts-count}
use Rattle.completion_tree.proofs.trail.Trail.count_facts.Goals as goal

pub returns : goal.returns
returns g c =
    let es = c.self.inside.entries.items in
    let len : c.len.result ≡ length c.self.inside.facts.items = omega (arith, c.len.ensures) in
    len ∙ ap length c.self.invariant.0 ∙ places-length is_fact 0 es ∙ facts-count es
    ∙ ap (λ us. length (facts_in us)) c.self.view_is

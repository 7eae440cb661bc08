use Rattle.std.proofs.Common.{ℕ, [], ◌∷◌, ◌++◌, ap, ◌∙◌, arith}
use Rattle.blocking.specs.Trail.{facts_in}
use Rattle.model_builder.proofs.Placed.{places_more}
use Rattle.model_builder.proofs.places.places_of.Goals as goal

pub loop-individual-preserved : goal.loop-individual-preserved
loop-individual-preserved g c =
    places_more c.args.tree.now.first (facts_in c.args.tree.now.entries) c.args.numbers.now c.loop-individual.individual
    c.loop-individual.places.items c.push.new.self.items c.requires.numbers
    (omega (arith, c.requires.first, c.loop-individual-test.true)) c.loop-individual.invariant
    (c.in_ok-push.ensures.items ∙ ap (λ (x : ℕ). c.loop-individual.places.items ++ x ∷ []) c.place_of.ensures)

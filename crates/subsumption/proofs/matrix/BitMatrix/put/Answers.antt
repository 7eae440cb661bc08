use Rattle.std.proofs.Common.{◌∙◌, ◌+◌, ◌<◌, ◌&&◌, ◌||◌, ap, arith, subst, set}
use Rattle.std.specs.Prelude.{◌==◌}
use Rattle.std.specs.FinSet as sets
use Rattle.axiom_sets.specs.Sets.{Limited}
use Rattle.subsumption.specs.Matrices.{Matrix, has, IsMatrix}
use Rattle.subsumption.proofs.United.{one_put, covers_one}
use Rattle.subsumption.proofs.matrix.BitMatrix.put.Goals as goal

pub invariant_of-self : goal.invariant_of-self
invariant_of-self c =
    let size = c.self.inside.size in
    let lt : c.args.x < size = omega (arith, ap (λ (m : Matrix). m.size) c.self.view_is, c.requires.first) in
    let limit = c.put-2.ensures.limit ∙ ap (λ (s : Limited). s.limit) c.index_mut.ensures.value in
    let members =
    c.put-2.ensures.members ∙ ap (λ (s : Limited). sets.insert s.members (c.args.y + 1)) c.index_mut.ensures.value in
    covers_one size c.args.x c.args.y c.self.inside.rows.items c.self.inside.columns c.put.new.self c.put-2.new.self
    c.index_mut.result.now c.self.invariant lt limit members c.put.ensures.limit c.put.ensures.members

pub returns : goal.returns
returns c =
    let size = c.self.inside.size in
    let rows = c.self.inside.rows.items in
    let x = c.args.x in
    let y = c.args.y in
    let w = c.put-2.new.self in
    let lt : x < size = omega (arith, ap (λ (m : Matrix). m.size) c.self.view_is, c.requires.first) in
    let limit = c.put-2.ensures.limit ∙ ap (λ (s : Limited). s.limit) c.index_mut.ensures.value in
    let members =
    c.put-2.ensures.members ∙ ap (λ (s : Limited). sets.insert s.members (y + 1)) c.index_mut.ensures.value in
    subst (λ (m : Matrix). IsMatrix m.size (λ a b. has m a b || (a == x && b == y))
    (record { size = size; rows = set rows x w }))
    c.self.view_is
    (one_put size x y rows w c.index_mut.result.now c.self.invariant.square lt limit members)

use Rattle.std.proofs.Common.{◌≡◌, ◌∙◌, ◌+◌, ℕ, sym, ap, subst}
use Rattle.std.specs.FinSet as sets
use Rattle.std.proofs.lemmas.Bool.{and_parts}
use Rattle.subsumption.specs.Matrices.{Matrix, both_have, IsSquare, Gains}
use Rattle.subsumption.proofs.United.{covers_united}
use Rattle.subsumption.proofs.matrix.BitMatrix.unite.Goals as goal

pub invariant_of-self : goal.invariant_of-self
invariant_of-self c =
    let i = c.self.inside in
    let chosen = c.args.chosen.now in
    let added = c.args.added.now in
    let new = c.unite_rows.new.rows in
    let old = c.deref_mut.result.now in
    let e : chosen.limit ≡ i.size = c.requires.chosen ∙ sym (ap (λ (m : Matrix). m.size) c.self.view_is) in
    covers_united i.size i.rows.len (both_have chosen added) old new i.rows.items i.columns c.put_all.new.self added
    c.self.invariant c.deref_mut.ensures.value i.rows.ok.0
    (subst (λ (n : ℕ). IsSquare n new) e c.unite_rows.ensures.square)
    (subst (λ (n : ℕ). Gains n (both_have chosen added) old new) e c.unite_rows.ensures.rows)
    (λ x y h. (and_parts (sets.contains chosen.members (x + 1)) (sets.contains added.members (y + 1)) h).1)
    c.put_all.ensures.limit c.put_all.ensures.members

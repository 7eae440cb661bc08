use Rattle.std.proofs.Common.{◌≡◌, ◌∙◌, ◌+◌, ℕ, sym, ap, subst}
use Rattle.std.specs.FinSet as sets
use Rattle.std.proofs.lemmas.Bool.{and_parts}
use Rattle.subsumption.specs.Matrices.{Matrix, row_in, has_column, IsSquare, Gains}
use Rattle.subsumption.proofs.United.{covers_united}
use Rattle.subsumption.proofs.matrix.BitMatrix.unite_where.Goals as goal

pub invariant_of-self : goal.invariant_of-self
invariant_of-self c =
    let i = c.self.inside in
    let added = c.args.added.now in
    let new = c.unite_rows_where.new.rows in
    let old = c.deref_mut.result.now in
    let test = has_column old c.args.column added in
    let e : added.limit ≡ i.size = c.requires.added ∙ sym (ap (λ (m : Matrix). m.size) c.self.view_is) in
    covers_united i.size i.rows.len test old new i.rows.items i.columns c.put_all.new.self added c.self.invariant
    c.deref_mut.ensures.value i.rows.ok.0
    (subst (λ (n : ℕ). IsSquare n new) e c.unite_rows_where.ensures.square)
    (subst (λ (n : ℕ). Gains n test old new) e c.unite_rows_where.ensures.rows)
    (λ x y h. (and_parts (sets.contains (row_in old x).members (c.args.column + 1))
    (sets.contains added.members (y + 1)) h).1)
    c.put_all.ensures.limit c.put_all.ensures.members

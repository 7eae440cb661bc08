use Rattle.std.proofs.Common.{ap, ◌∙◌, subst, sym, ◌<◌, ℕ, length}
use Rattle.refutation_truth.specs.TheoryRows.{is_name}
use Rattle.refutation_truth.specs.Tree.{tree_of}
use Rattle.row_cache.proofs.Places.{tree_at, number_listed}
use Rattle.row_cache.proofs.cached_row.is_name_at.Goals as goal

pub is_name-requires : goal.is_name-requires
is_name-requires c =
    let t = c.args.concepts.now in
    subst (λ (n : ℕ). n < length t) (sym c.conjunct_at.ensures)
    (number_listed t c.len-count.ensures.table c.args.conjuncts.now c.args.position c.requires)

pub returns : goal.returns
returns c =
    let t = c.args.concepts.now in
    c.is_name.ensures ∙ ap (λ (n : ℕ). is_name (tree_of t n)) c.conjunct_at.ensures
    ∙ ap is_name (tree_at t c.len-count.ensures.table c.args.conjuncts.now c.args.position)

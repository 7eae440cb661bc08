use Rattle.std.proofs.Common.{◌∙◌, sym, map}
use Rattle.std.specs.List.{list_all}
use Rattle.std.proofs.lemmas.Bool.{and_from}
use Rattle.refutation_truth.specs.TheoryRows.{is_ascending, is_name, conjunct_at}
use Rattle.refutation_truth.specs.Tree.{tree_of}
use Rattle.row_cache.proofs.Assembled.{row_is}
use Rattle.row_cache.proofs.cached_row.part_row.Goals as goal

pub returns-clause-row : goal.returns-clause-row
returns-clause-row c =
    let t = c.args.concepts.now in
    let cs = c.args.conjuncts.now in
    let ps = c.args.positions.now in
    let test =
    and_from (is_ascending ps) (list_all (λ i. is_name (conjunct_at (map (tree_of t) cs) i)) ps)
    (sym c.is_ascending.ensures ∙ c.if-not-is_ascending.false) (sym c.are_names.ensures ∙ c.if-not-are_names.false) in
    row_is t c.row_concept-outcome.new.concepts c.len-count.ensures.table cs ps c.args.right
    (record { premises = c.in_ok-premises.premises; concept = c.in_ok-concept.concept })
    c.row_concept-outcome.ensures.kept c.requires.listed test c.in_ok-premises.ensures c.in_ok-concept.ensures.concept

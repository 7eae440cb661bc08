use Rattle.std.proofs.Common.{◌∙◌, ap, map, subst, List, ℕ, ◌≡◌}
use Rattle.std.specs.Prelude.{Some, Option}
use Rattle.refutation_truth.specs.TheoryRows.{inclusion, part_at}
use Rattle.refutation_truth.specs.Tree.{tree_of}
use Rattle.refutation_truth.specs.Part.{Part as Kept}
use Rattle.refutation_truth.specs.Part.TheVariants as K
use Rattle.axiom_sets.specs.Sets.{member_list}
use Rattle.refutation_truth.specs.Theory.{theory_of}
use Rattle.row_cache.specs.Rows.{IsPartFound, IsRow, row_for}
use Rattle.row_cache.proofs.Assembled.{row_of_inclusion}
use Rattle.row_cache.proofs.cached_row.inclusion_row.Goals as goal

pub returns-in_ok-row-in-Some-Inclusion-clause-row : goal.returns-in_ok-row-in-Some-Inclusion-clause-row
returns-in_ok-row-in-Some-Inclusion-clause-row c =
    let i = c.in-Some-Inclusion in
    let t = c.named_part.new.concepts in
    let u = c.part_row.new.concepts in
    let o = part_at (theory_of c.args.ontology.now.axioms (member_list c.args.named.now)) c.args.axiom c.args.part in
    let ps = c.args.positions.now in
    let r = c.in_ok-row-in-Some-Inclusion.row in
    let same : c.in_ok-found.found ≡ Some (K.Inclusion i.conjuncts i.right) =
    i.is ∙ ap (λ (k : Kept). Some k) i.field-0-is in
    let found : IsPartFound t o (Some (K.Inclusion i.conjuncts i.right)) =
    subst (λ (k : Option Kept). IsPartFound t o k) same c.in_ok-found.ensures.part in
    row_of_inclusion t u o i.conjuncts i.right ps r found
    (subst (λ (ns : List ℕ). IsRow u (row_for (Some (inclusion (map (tree_of t) ns) (tree_of t i.right))) ps) r)
    c.items.ensures c.in_ok-row-in-Some-Inclusion.ensures.row)

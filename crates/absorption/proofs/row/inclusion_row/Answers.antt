use Rattle.std.proofs.Common.{◌≡◌, ℕ, List, Option, Some, map, subst, refl, ◌∙◌}
use Rattle.calculus_specs.specs.Rows.{inclusion}
use Rattle.calculus_specs.specs.Tree.{tree_of}
use Rattle.row_cache.specs.declared.cached_row.CachedRow.{CachedRow}
use Rattle.row_cache.specs.Rows.{IsRow, row_for}
use Rattle.absorption.specs.Triggers.{name_positions, inclusion_trigger}
use Rattle.absorption.specs.declared.row.Row.{Row}
use Rattle.absorption.proofs.Listed.{made_row, no_row}
use Rattle.absorption.proofs.row.inclusion_row.Goals as goal

pub unreachable-requires : goal.unreachable-requires
unreachable-requires c =
    let u = c.part_row.new.concepts in
    let cs = map (tree_of c.args.concepts.now) c.args.conjuncts.now in
    let d = tree_of c.args.concepts.now c.args.right in
    let e : c.items.result.now ≡ name_positions 1 cs = c.items.ensures ∙ c.in_ok-positions.ensures in
    no_row u cs d
    (subst (λ (o : Option CachedRow). IsRow u (row_for (Some (inclusion cs d)) (name_positions 1 cs)) o) c.in-None.is
    (subst (λ (l : List ℕ). IsRow u (row_for (Some (inclusion cs d)) l) c.in_ok-row.field-0) e c.in_ok-row.ensures.row))

pub returns-clause-row : goal.returns-clause-row
returns-clause-row c =
    let u = c.part_row.new.concepts in
    let cs = map (tree_of c.args.concepts.now) c.args.conjuncts.now in
    let d = tree_of c.args.concepts.now c.args.right in
    let e : c.items.result.now ≡ name_positions 1 cs = c.items.ensures ∙ c.in_ok-positions.ensures in
    let row : Row = record {
      «axiom» = c.args.axiom;
      part = c.args.part;
      trigger = c.inclusion_trigger.result;
      concept = c.in-Some.row.concept;
      premises = c.in-Some.row.premises;
    } in
    made_row u cs d row c.in-Some.row
    (c.inclusion_trigger.ensures ∙ (λ i. inclusion_trigger (c.in_ok-positions.ensures i) (c.first_role-role.ensures i)))
    refl refl
    (subst (λ (o : Option CachedRow). IsRow u (row_for (Some (inclusion cs d)) (name_positions 1 cs)) o) c.in-Some.is
    (subst (λ (l : List ℕ). IsRow u (row_for (Some (inclusion cs d)) l) c.in_ok-row.field-0) e c.in_ok-row.ensures.row))

use Rattle.std.proofs.Common.{◌≡◌, ◌++◌, ◌∷◌, [], ℕ, sym, ap, ◌∙◌, arith}
use Rattle.std.proofs.lemmas.List.{get_or_default}
use Rattle.std.proofs.lemmas.List.FromFn.{map-range_with_len_more}
use Rattle.axiom_sets.specs.Sets.{Limited}
use Rattle.subsumption.specs.Rows.{holds}
use Rattle.subsumption.specs.Matrices.{no_row, row_in}
use Rattle.subsumption.specs.ClassSets.{has_class}
use Rattle.realizer.specs.TypeLists.{TypeLists}
use Rattle.realizer.specs.Realization.{direct_types}
use Rattle.realizer.specs.TypeRows.{typed_by}
use Rattle.realizer.proofs.direct_types.lines_by.Goals as goal

pub loop-individual-preserved : goal.loop-individual-preserved
loop-individual-preserved c =
    let r = c.args.relation.now in
    let rows = c.args.rows.now in
    let a = c.loop-individual.individual in
    let line_of : ℕ → TypeLists =
    λ b. record { individual = b; types = direct_types r.count (holds r) (typed_by rows b) } in
    let line_by : Limited → TypeLists =
    λ s. record { individual = a; types = direct_types r.count (holds r) (has_class s) } in
    let row : c.index-rows-individual.result ≡ row_in rows a =
    c.index-rows-individual.is
    ∙ get_or_default rows a c.index-rows-individual.result no_row
    (omega (arith, c.requires.rows.long, c.loop-individual-test.true)) in
    let line : c.in_ok-type_line.field-0 ≡ line_of a = c.in_ok-type_line.ensures ∙ ap line_by row in
    c.in_ok-push.ensures.items ∙ (λ i. c.loop-individual.invariant i ++ line i ∷ [])
    ∙ sym (map-range_with_len_more line_of 0 a a (omega arith))

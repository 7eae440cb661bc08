use Rattle.std.proofs.Common.{List, ◌∷◌, [], ◌++◌, append_assoc, ap, sym, subst, ◌∙◌}
use Rattle.std.specs.Prelude.{All}
use Rattle.std.proofs.lemmas.List.Elements.{All-tail}
use Rattle.absorption.specs.declared.row.Row.{Row}
use Rattle.absorption.specs.Places.{HasPlace}
use Rattle.absorption.proofs.Filed.{filed_more}
use Rattle.absorption.proofs.row_table.RowTable.filed.Goals as goal

pub loop-row-preserved : goal.loop-row-preserved
loop-row-preserved c =
    let t = c.args.concepts.now in
    let row = c.in-Some.row in
    let rest = c.next.new.self.rest.items in
    let first = c.in-Some.ensures.steps.0 in
    let before = c.loop-row.invariant in
    record {
      filed =
          filed_more t c.loop-row.yielded c.loop-row.table c.file.new.self row c.place_of-place.result before.filed
          c.place_of-place.ensures c.in_ok-file.ensures.rows c.file.ensures.keys;
      places = All-tail (HasPlace t) row rest (subst (λ (l : List Row). All (HasPlace t) l) first before.places);
      split =
          append_assoc c.loop-row.yielded (row ∷ []) rest ∙ ap (λ (l : List Row). c.loop-row.yielded ++ l) (sym first)
          ∙ before.split;
    }

use Rattle.std.proofs.Common.{◌≡◌, sym, ◌∙◌, get_or}
use Rattle.std.specs.Prelude.{slice_get, Some}
use Rattle.std.proofs.lemmas.Option.{slice_get-get_or}
use Rattle.module_extract.proofs.Joined.{looked_joined, looked_by_form, looked_by_member}
use Rattle.module_extract.proofs.growth.Growth.look_at.Goals as goal
use Rattle.module_extract.proofs.growth.Growth.look_at.Goals.{else-not-has-via-then-not-has+else-not-is_local}
use Rattle.module_extract.proofs.growth.Growth.look_at.Goals.{else-not-has-via-else-not-has}

pub returns-in_ok-join : goal.returns-in_ok-join
returns-in_ok-join c =
    let axioms = c.args.axioms.now in
    let place = c.args.place in
    let a = get_or axioms place c.index-axioms-place.result in
    let there : slice_get axioms place ≡ Some a =
    slice_get-get_or axioms place c.index-axioms-place.result c.requires.within in
    looked_joined axioms c.args.self.now c.join.new.self place a there c.in_ok-join.ensures
    (sym c.is_local.ensures ∙ c.if-not-is_local.true)

pub returns-else-not-has : goal.returns-else-not-has
returns-else-not-has c =
    let axioms = c.args.axioms.now in
    let place = c.args.place in
    let a = get_or axioms place c.index-axioms-place.result in
    let there : slice_get axioms place ≡ Some a =
    slice_get-get_or axioms place c.index-axioms-place.result c.requires.within in
    elim c.else-not-has.branch [
      | else-not-has-via-then-not-has+else-not-is_local w ↦
          looked_by_form axioms c.args.self.now place a there (sym w.is_local.ensures ∙ w.if-not-is_local.false)
      | else-not-has-via-else-not-has w ↦
          looked_by_member axioms c.args.self.now place a there (sym c.has.ensures ∙ w.if-not-has.false)
    ]

use Rattle.std.proofs.Common.{refl, length}
use Rattle.std.proofs.lemmas.Option.{slice_get_read}
use Rattle.edit_session.proofs.noted_places.is_yes_at.Goals as goal

pub returns-then-place-log : goal.returns-then-place-log
returns-then-place-log c =
    let log = c.args.log.now in
    let entry = c.index-log-place.result in
    λ t. (
      entry,
      slice_get_read log (length log) c.args.place entry refl c.if-place-log.true c.index-log-place.is,
      c.is_yes.ensures t,
    )

use Rattle.std.proofs.Common.{refl, length}
use Rattle.std.proofs.lemmas.Option.{slice_get_read}
use Rattle.edit_session.proofs.Filed.{found_at, end_of}
use Rattle.edit_session.proofs.noted_places.answer_at.Goals as goal

pub returns-then-place-log : goal.returns-then-place-log
returns-then-place-log c =
    let log = c.args.log.now in
    let entry = c.index-log-place.result in
    found_at log c.args.live.now c.args.query.now c.args.place entry
    (slice_get_read log (length log) c.args.place entry refl c.if-place-log.true c.index-log-place.is)
    (end_of c.answer_of.result) c.answer_of.ensures

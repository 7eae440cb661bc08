use Rattle.edit_session.proofs.Deciding.{noted_known}
use Rattle.edit_session.proofs.asking.decide.Goals as goal

pub decide_noted-requires-clause-noted : goal.decide_noted-requires-clause-noted
decide_noted-requires-clause-noted c =
    noted_known c.args.live.now.members c.args.log.now c.entries.result.now c.entries.ensures c.args.noted.now
    c.forget_other.new.self c.forget_other.ensures.within c.forget_other.ensures.kept c.forget_other.ensures.forgotten
    c.requires.noted

use Rattle.std.proofs.Common.{◌∙◌, ap, sym, subst, inl}
use Rattle.std.specs.FinSet as set
use Rattle.lane_sieve.specs.Sets.{NumberSet}
use Rattle.set_questions.specs.Asked.{Answers}
use Rattle.set_questions.specs.declared.entail.Reply.TheVariants.{No}
use Rattle.justification_shrink.proofs.Shrinking.{put_back}
use Rattle.justification_shrink.proofs.try_without.Goals as goal

pub returns-in-No-clause-tried : goal.returns-in-No-clause-tried
returns-in-No-clause-tried g c =
    let m = g.E.Entail.meaning c.ask.new.self in
    let answer : Answers m c.take.new.self No = rw c.in-No.is at c.in_ok-part.ensures.answer in (
      c.put.ensures.limit ∙ c.take.ensures.limit,
      inl (
        c.put.ensures.members ∙ ap (λ (s : NumberSet). set.insert s c.args.number) c.take.ensures.members
            ∙ put_back c.args.kept.members c.args.number (sym c.has.ensures ∙ c.if-not-has.false),
        λ _. subst (λ (s : NumberSet). ¬ m.holds s) c.take.ensures.members answer.0,
      ),
    )

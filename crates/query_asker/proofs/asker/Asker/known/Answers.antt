use Rattle.std.proofs.Common.{◌≡◌, ◌∙◌, ap}
use Rattle.set_questions.specs.Asked.{Answers}
use Rattle.set_questions.specs.Meaning.{one_more}
use Rattle.query_asker.specs.AskerLists.{AskerLists}
use Rattle.query_asker.specs.Told.{asker_meaning, part_in}
use Rattle.query_asker.proofs.Logged.{with_asks}
use Rattle.query_asker.proofs.Answering.{lifted, answers_counted, known_is, known_answers, new_if_none}
use Rattle.query_asker.proofs.asker.Asker.known.Goals as goal

pub returns-in-Some-clause-known : goal.returns-in-Some-clause-known
returns-in-Some-clause-known c =
    let a = c.args.self.now in
    let s = c.args.set.now in
    let known = c.in-Some.known in
    let p = c.in_ok-part.part in
    let new = c.count_ask.new.self in
    let counted : new ≡ with_asks a (one_more a.asks) =
    c.count_ask.ensures ∙ ap (λ (b : AskerLists). with_asks b (one_more b.asks)) c.recall.ensures.same in
    let told : Answers (asker_meaning a) p known =
    known_is a p c.in_ok-known.field-0 known c.in-Some.is c.in_ok-known.ensures.recalled in (
      counted,
      answers_counted a new (one_more a.asks) s known counted (lifted a s p known c.in_ok-part.ensures.part told),
      known_answers a new (part_in new s) p c.in_ok-known.field-0 known c.in-Some.is c.in_ok-known.ensures.recalled,
    )

pub returns-clause-known : goal.returns-clause-known
returns-clause-known c =
    let p = c.in_ok-part.part in (
      c.recall.ensures.same,
      c.in_ok-part.ensures.part,
      new_if_none c.args.self.now p c.in_ok-known.field-0 c.in_default.not-Some c.in_ok-known.ensures.recalled,
    )

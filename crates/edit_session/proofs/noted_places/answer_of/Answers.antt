use Rattle.edit_session.proofs.noted_places.answer_of.Goals as goal

pub returns-then-answers : goal.returns-then-answers
returns-then-answers c = (
  c.in-Test.set,
  c.in-Test.field-2,
  cc (c.in-Test.is, c.is_same.ensures.0 c.if-is_same.true),
  c.answers.ensures.0 c.if-answers.true,
)

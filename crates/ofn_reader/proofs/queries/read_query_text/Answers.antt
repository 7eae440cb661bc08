use Rattle.std.proofs.lemmas.Result.{err_from_is_err_and}
use Rattle.ofn_reader.specs.Queries.{long, refused}
use Rattle.ofn_reader.proofs.queries.read_query_text.Goals as goal

pub returns-then-text-gt-MAX_TEXT-clause-refused : goal.returns-then-text-gt-MAX_TEXT-clause-refused
returns-then-text-gt-MAX_TEXT-clause-refused c = λ tests s known. long c.if-text-gt-MAX_TEXT.true

pub returns-in_err-items-clause-refused : goal.returns-in_err-items-clause-refused
returns-in_err-items-clause-refused c =
    let p = err_from_is_err_and c.from_residual.result c.from_residual.ensures.1 in
    rw (p.1, p.2)
    (λ tests s known. refused c.in_err-items.field-0.0 c.if-text-gt-MAX_TEXT.false
    (c.in_err-items.ensures.refused tests s known))

use Rattle.std.proofs.Common.{ap, sym, ◌∙◌}
use Rattle.std.specs.Prelude.{if◌then◌else◌, Bool}
use Rattle.std.proofs.lemmas.Str.{is_utf8-from_IsUtf8}
use Rattle.edit_session.specs.ScriptLines.{other, split_request}
use Rattle.edit_session.proofs.NoText.{no_text}
use Rattle.edit_session.proofs.requests.read_request.Goals as goal

pub returns-in-Ok : goal.returns-in-Ok
returns-in-Ok c =
    let line = c.args.line.now in
    c.split_request.ensures ∙ ap split_request c.in-Ok.ensures.cases.0
    ∙ sym
    (ap (λ (b : Bool). if b then split_request line else other) (is_utf8-from_IsUtf8 line c.in-Ok.ensures.cases.1))

pub returns-in-Err : goal.returns-in-Err
returns-in-Err c =
    let line = c.args.line.now in
    sym (ap (λ (b : Bool). if b then split_request line else other) (no_text line c.in-Err.ensures.cases.0))

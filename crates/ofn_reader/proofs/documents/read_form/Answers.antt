use Rattle.std.proofs.Common.{◌≡◌, ap, ◌∙◌, sym}
use Rattle.std.proofs.lemmas.Result.{err_from_is_err_and}
use Rattle.ofn_expressions.specs.Counts.{State, first_state}
use Rattle.ofn_expressions.specs.Names.{predeclared}
use Rattle.ofn_expressions.specs.Walk.{walked}
use Rattle.ofn_reader.specs.Documents.{start, form_tests}
use Rattle.ofn_reader.proofs.documents.read_form.Goals as goal

pub returns-in_err-read_document-clause-refused : goal.returns-in_err-read_document-clause-refused
returns-in_err-read_document-clause-refused c =
    let p =
    err_from_is_err_and c.from_residual-in_err-read_document.result c.from_residual-in_err-read_document.ensures.1 in
    let begun : c.new-state.result.counts ≡ start =
    ap (λ (s : State). s.counts) (c.new-state.ensures ∙ ap (λ o. first_state o 0 0) c.new.ensures) in
    rw (p.1, p.2)
    (λ known.
    ap (λ s. walked s (form_tests predeclared c.args.end_line c.args.items.now)) (sym begun)
    ∙ ap (λ ps. walked c.new-state.result.counts (form_tests ps c.args.end_line c.args.items.now))
    (sym c.in_ok-prefixes.ensures)
    ∙ c.in_err-read_document.ensures.tests known)

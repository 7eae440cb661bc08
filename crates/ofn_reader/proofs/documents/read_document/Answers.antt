use Rattle.std.proofs.Common.{◌≡◌, ◌∙◌, ap, take, drop}
use Rattle.std.proofs.lemmas.Result.{err_from_is_err_and}
use Rattle.ofn_reader.specs.Documents.{prefix_groups, behind_prefixes}
use Rattle.ofn_reader.proofs.Heads.{document_stops, document_goes}
use Rattle.ofn_reader.proofs.documents.read_document.Goals as goal

pub returns-in_err-read_prefixes-clause-tests : goal.returns-in_err-read_prefixes-clause-tests
returns-in_err-read_prefixes-clause-tests c =
    let p = err_from_is_err_and c.from_residual.result c.from_residual.ensures.1 in
    let front : c.split_at.result.0.now ≡ prefix_groups c.args.items.now =
    c.split_at.ensures.front ∙ ap (λ n. take n c.args.items.now) c.prefix_group_count.ensures.value in
    rw (p.1, p.2)
    (λ known. document_stops c.args.prefixes.now c.args.end_line c.args.items.now c.split_at.result.0.now front
    c.args.state.now.counts c.in_err-read_prefixes.field-0.0
    (c.in_err-read_prefixes.ensures.tests c.args.state.now.counts known))

pub returns-clause-tests : goal.returns-clause-tests
returns-clause-tests c =
    let front : c.split_at.result.0.now ≡ prefix_groups c.args.items.now =
    c.split_at.ensures.front ∙ ap (λ n. take n c.args.items.now) c.prefix_group_count.ensures.value in
    let back : c.split_at.result.1.now ≡ behind_prefixes c.args.items.now =
    c.split_at.ensures.back ∙ ap (λ n. drop n c.args.items.now) c.prefix_group_count.ensures.value in
    document_goes c.args.prefixes.now c.args.end_line c.args.items.now c.split_at.result.0.now front
    c.args.state.now.counts c.read_ontology_group.result c.split_at.result.1.now c.read_prefixes.new.prefixes
    c.read_ontology_group.new.state.counts back c.in_ok-read_prefixes.ensures.declared
    (c.in_ok-read_prefixes.ensures.tests c.args.state.now.counts) c.read_ontology_group.ensures.tests

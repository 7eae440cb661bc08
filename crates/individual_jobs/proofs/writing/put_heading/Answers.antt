use Rattle.std.proofs.Common.{◌++◌, List, ℕ, length, codes, decimal, ap, ◌∙◌}
use Rattle.std.specs.Prelude.{slice_get}
use Rattle.axiom_sets.specs.Sets.{Limited}
use Rattle.individual_jobs.proofs.Written.{heading_is}
use Rattle.individual_jobs.proofs.writing.put_heading.Goals as goal

pub returns : goal.returns
returns c =
    let o = c.args.ontology.now in
    let name = c.individual_name-name.result.now in
    c.in_ok-extend_from_slice.ensures.items
    ∙ ap (λ (l : List ℕ). c.args.text.now.items ++ l)
    (c.as_bytes.ensures.value
    ∙ c.in_ok-line.ensures.ok
    ∙ ap (λ (js : List Limited). codes "instance <"
    ++ (name ++ (codes "> justifications " ++ (decimal (length js) ++ codes "\n"))))
    c.justifications.ensures
    ∙ heading_is o c.args.reasons.now name
    (c.individual_name-name.ensures ∙ ap (slice_get o.individuals) c.individual.ensures))

use Rattle.std.proofs.Common.{◌≡◌, List, length, sym, subst}
use Rattle.std.specs.List.{All}
use Rattle.axiom_sets.specs.Sets.{Limited}
use Rattle.job_inputs.specs.Answer.{text_bytes}
use Rattle.pinpointing_jobs.specs.Written.{AreFoundRepairs}
use Rattle.pinpointing_jobs.proofs.Listed.{found_limits, repairs_written}
use Rattle.pinpointing_jobs.proofs.listing.list_answer.Goals as goal

pub listing-requires-in-Repairs : goal.listing-requires-in-Repairs
listing-requires-in-Repairs c =
    let o = c.args.ontology.now in
    let sets = c.in_ok-repairs-in-Repairs.repairs.items in
    let found : AreFoundRepairs c.args.found.now sets =
    record { order = c.in_ok-repairs-in-Repairs.ensures.order; repairs = c.in_ok-repairs-in-Repairs.ensures.repairs } in
    subst (λ (xs : List Limited). All (λ (s : Limited). s.limit ≡ length o.axioms) xs)
    (sym c.deref-in-Repairs.ensures.value) (found_limits o c.args.found.now sets c.requires found)

pub returns-in_ok-repairs-in-Repairs : goal.returns-in_ok-repairs-in-Repairs
returns-in_ok-repairs-in-Repairs c =
    let sets = c.in_ok-repairs-in-Repairs.repairs.items in
    let found : AreFoundRepairs c.args.found.now sets =
    record { order = c.in_ok-repairs-in-Repairs.ensures.order; repairs = c.in_ok-repairs-in-Repairs.ensures.repairs } in
    repairs_written c.args.wanted c.args.ontology.now c.args.found.now c.deref-in-Repairs.result.now sets
    c.listing-in-Repairs.result text_bytes c.in-Repairs.is c.deref-in-Repairs.ensures.value found
    c.listing-in-Repairs.ensures.text c.listing-in-Repairs.ensures.status

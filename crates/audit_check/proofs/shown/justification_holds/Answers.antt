use Rattle.std.proofs.Common.{◌≡◌, List, length, ap, sym, ◌∙◌, subst, arith}
use Rattle.std.specs.List.{All}
use Rattle.std.proofs.lemmas.Bool.{true≢false}
use Rattle.std.proofs.lemmas.List.{length-map}
use Rattle.std.proofs.lemmas.Option.{slice_get_read}
use Rattle.axiom_sets.specs.Sets.{Limited}
use Rattle.audit_check.specs.Listed.{ContainsAnother}
use Rattle.audit_file.specs.declared.entries.Justification.{Justification}
use Rattle.audit_check.proofs.Places.{justified_limits, same_limits, holds_ok}
use Rattle.audit_check.proofs.shown.justification_holds.Goals as goal

pub contains_another-requires-clause-limits : goal.contains_another-requires-clause-limits
contains_another-requires-clause-limits c =
    let o = c.args.ontology.now in
    let js = c.args.list.now in
    let sets = c.args.sets.now in
    same_limits (length o.axioms) sets c.args.place
    (omega (arith, c.requires.place, ap length c.requires.sets, length-map js (λ (j : Justification). j.set)))
    (subst (λ (xs : List Limited). All (λ (s : Limited). s.limit ≡ length o.axioms) xs) (sym c.requires.sets)
    (justified_limits o js c.requires.of_axioms))

pub returns : goal.returns
returns c =
    let js = c.args.list.now in
    let j = c.index-list-place.result in
    holds_ok c.args.ontology.now c.args.query.now js c.args.place j
    (slice_get_read js (length js) c.args.place j (λ i. length js) c.requires.place c.index-list-place.is)
    (λ found. true≢false
    (sym (c.contains_another.ensures.1
    (subst (λ (xs : List Limited). ContainsAnother xs c.args.place) (sym c.requires.sets) found))
    ∙ c.if-contains_another.false))
    c.is_shown.result c.is_shown.ensures

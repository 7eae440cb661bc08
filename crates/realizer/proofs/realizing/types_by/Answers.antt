use Rattle.std.proofs.Common.{◌+◌, ◌∙◌, ℕ, ap, sym}
use Rattle.realizer.proofs.Chains.{realization_log}
use Rattle.realizer.proofs.Realized.{types_inconsistent, types_consistent}
use Rattle.realizer.proofs.Shown.{none_are_shown}
use Rattle.realizer.proofs.realizing.types_by.Goals as goal

pub returns-then-relates-clause-types : goal.returns-then-relates-clause-types
returns-then-relates-clause-types c =
    let count = c.class_count-count.result in
    let is = c.class_count-count.ensures.count in
    types_inconsistent c.args.ontology.now c.args.oracle.now.log c.args.relation.now c.requires.settled count
    (count + 1) is (ap (λ (n : ℕ). n + 1) is) (sym c.relates.ensures ∙ c.if-relates.true)

pub returns-then-relates-clause-honest : goal.returns-then-relates-clause-honest
returns-then-relates-clause-honest c =
    realization_log c.args.ontology.now c.args.oracle.now.budget c.args.oracle.now.log c.requires.honest

pub returns-clause-types : goal.returns-clause-types
returns-clause-types c =
    let count = c.class_count-count.result in
    let is = c.class_count-count.ensures.count in
    types_consistent c.args.ontology.now c.args.oracle.now.log c.args.relation.now c.requires.settled count (count + 1)
    is (ap (λ (n : ℕ). n + 1) is) c.in_ok-lines.lines (sym c.relates.ensures ∙ c.if-relates.false)
    c.in_ok-lines.ensures.lines

pub returns-then-relates-clause-shown : goal.returns-then-relates-clause-shown
returns-then-relates-clause-shown c =
    let count = c.class_count-count.result in
    let is = c.class_count-count.ensures.count in
    none_are_shown c.args.ontology.now c.args.oracle.now.budget c.args.oracle.now.log c.args.relation.now
    c.requires.honest c.requires.settled count (count + 1) is (ap (λ (n : ℕ). n + 1) is)
    (sym c.relates.ensures ∙ c.if-relates.true)

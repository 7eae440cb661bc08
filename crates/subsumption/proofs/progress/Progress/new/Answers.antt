use Rattle.std.proofs.Common.{◌∙◌, ℕ, ◌+◌, false, subst}
use Rattle.axiom_sets.specs.Sets.{IsFull}
use Rattle.subsumption.specs.Matrices.{IsMatrix}
use Rattle.subsumption.specs.Rows.{IsAtFirst}
use Rattle.subsumption.proofs.Mirrored.{mirrors_none}
use Rattle.subsumption.proofs.progress.Progress.new.Goals as goal

pub returns-clause-whole : goal.returns-clause-whole
returns-clause-whole c =
    let count = c.axiom_count.ensures.count in
    record {
      limit_is = c.in_ok-full.ensures.limit ∙ count;
      is_full = subst (λ (n : ℕ). IsFull n c.in_ok-full.field-0.members) count c.in_ok-full.ensures.members;
    }

pub returns-clause-mirrors : goal.returns-clause-mirrors
returns-clause-mirrors c =
    let count = c.class_count-count.ensures.count in
    let known = c.in_ok-new.field-0 in
    let ruled_out = c.in_ok-empty.field-0 in
    mirrors_none c.args.ontology.now known ruled_out (subst (λ (n : ℕ). IsAtFirst n known) count c.in_ok-new.ensures)
    (subst (λ (n : ℕ). IsMatrix (n + 2) (λ x y. false) ruled_out) count c.in_ok-empty.ensures)

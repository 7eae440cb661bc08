-- What is known of an audit that was read.
use Rattle.std.specs.Prelude.{◌≡◌, ℕ, ◌<◌, length}
use Rattle.std.specs.List.{All}
use Rattle.axiom_sets.specs.Sets.{Limited}
use Rattle.shq_terms.specs.Listed.{Listed}
use Rattle.refutation_tree.specs.RefutationLists.{RefutationLists}
use Rattle.refutation_tree.specs.ReadBack.{IsWritable}
use Rattle.audit_file.specs.AuditLists.{AuditLists}
use Rattle.audit_file.specs.declared.entries.Justification.{Justification}
use Rattle.audit_file.specs.declared.entries.Repair.{Repair}

-- a refutation over axioms of the document and over listed names, with fewer lines than so many
pub record IsFitting (o : Listed) (most : ℕ) (r : RefutationLists) : Type 0 where
  pub writable : IsWritable o r
  pub lines : length r.lines < most

-- the numbers of the set are those of axioms
abbrev pub IsOfAxioms : Listed → Limited → Type 0
IsOfAxioms o s = s.limit ≡ length o.axioms

-- all sets are of axioms, and all refutations fit
pub record Fits (o : Listed) (most : ℕ) (a : AuditLists) : Type 0 where
  pub justified : All (λ (j : Justification). IsOfAxioms o j.set) a.justifications
  pub refutations : All (λ (j : Justification). IsFitting o most j.refutation) a.justifications
  pub repaired : All (λ (r : Repair). IsOfAxioms o r.set) a.repairs

-- all sets are of axioms
pub record AreOfAxioms (o : Listed) (a : AuditLists) : Type 0 where
  pub justified : All (λ (j : Justification). IsOfAxioms o j.set) a.justifications
  pub repaired : All (λ (r : Repair). IsOfAxioms o r.set) a.repairs

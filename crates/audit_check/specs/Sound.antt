-- When an audit is sound, and what it lists then.
use Rattle.std.specs.Prelude.{◌≡◌, ◌↔◌, ℕ, ◌+◌, ◌<◌, Bool, true, ◌||◌, ◌&&◌, IsTrue, List, [], ◌∷◌, length}
use Rattle.std.specs.List.{Contains}
use Rattle.std.specs.FinSet as set
use Rattle.lane_sieve.specs.Sets.{NumberSet}
use Rattle.axiom_sets.specs.Sets.{Limited}
use Rattle.pinpointing_specs.specs.LocalModule.{IsJustification, IsRepair}
use Rattle.audit_check.specs.Audits.{IsAntichain}
use Rattle.audit_check.specs.Transversals.{AreTransversals}
use Rattle.shq_terms.specs.Listed.{Listed}
use Rattle.shq_terms.specs.declared.axioms.Numbered.{Numbered}
use Rattle.shq_terms.specs.declared.axioms.Query.{Query}
use Rattle.shq_meaning.specs.Truth.{Interpretation, PlacesIndividuals, meets, refutes_at}
use Rattle.finite_model.specs.ModelLists.{meaning}
use Rattle.refutation_check.specs.Verdicts.{IsValid}
use Rattle.audit_file.specs.AuditLists.{AuditLists, justified_sets, repaired_sets}
use Rattle.audit_file.specs.declared.entries.Justification.{Justification}
use Rattle.audit_file.specs.declared.entries.Repair.{Repair}

-- the refutation is valid over the set
abbrev pub IsShown : Listed → Query → Justification → Type 0
IsShown o q j = IsValid o j.set q j.refutation

-- each axiom is met, of those numbered from k on, whose number is not in the set
abbrev pub meets_rest : Interpretation → ℕ → NumberSet → List Numbered → Bool
meets_rest i k s [] = true
meets_rest i k s (a ∷ as_) = (set.contains s k || meets i a.axiom) && meets_rest i (k + 1) s as_

-- each individual is an element of the model, which meets the axioms without those of the set, and some element of
-- which the query speaks is in its left class and not in the right one
pub record IsCounterModel (axioms : List Numbered) (q : Query) (r : Repair) : Type 0 where
  pub places : PlacesIndividuals (meaning r.model)
  pub meets_them : IsTrue (meets_rest (meaning r.model) 1 r.set.members axioms)
  pub refutes : (x : ℕ) × (x < r.model.size) × (refutes_at (meaning r.model) q x ≡ true)

-- No justification contains another one, and each refutation is valid over its set; each model meets the axioms without
-- its repair, and refutes the query; the repairs are exactly the smallest sets that meet each justification.
pub record IsSound (o : Listed) (q : Query) (a : AuditLists) : Type 0 where
  pub antichain : IsAntichain (justified_sets a.justifications)
  pub shown : (j : Justification) → Contains a.justifications j → IsShown o q j
  pub modelled : (r : Repair) → Contains a.repairs r → IsCounterModel o.axioms q r
  pub transversals : AreTransversals (length o.axioms) (justified_sets a.justifications) (repaired_sets a.repairs)

-- the lists are exactly all justifications of the query and all its repairs
pub record ListsAll (o : Listed) (q : Query) (a : AuditLists) : Type 0 where
  pub justifications : (s : Limited) → s.limit ≡ length o.axioms
      → (Contains (justified_sets a.justifications) s ↔ IsJustification o.axioms q s.members)
  pub repairs : (r : Limited) → r.limit ≡ length o.axioms
      → (Contains (repaired_sets a.repairs) r ↔ IsRepair o.axioms q r.members)

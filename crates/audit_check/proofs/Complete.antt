-- The lists of a sound audit are all.
use Rattle.std.proofs.Common.{◌≡◌, length, ap, sym, ◌∙◌, subst}
use Rattle.std.specs.Prelude.{◌↔◌}
use Rattle.std.specs.List.{All, Contains}
use Rattle.axiom_sets.specs.Sets.{Limited, IsWithin}
use Rattle.pinpointing_specs.specs.Smallest.{rest, IsMinimalYes, IsMinimalRemoval}
use Rattle.pinpointing_specs.specs.LocalModule.{of_axioms, FollowsFrom}
use Rattle.pinpointing_specs.proofs.Grown.{grows}
use Rattle.audit_check.specs.Audits.{IsAudited}
use Rattle.audit_check.proofs.Audited.{audited_yes, audited_removals}
use Rattle.shq_terms.specs.Listed.{Listed}
use Rattle.shq_terms.specs.declared.axioms.Query.{Query}
use Rattle.audit_file.specs.AuditLists.{AuditLists, justified_sets, repaired_sets}
use Rattle.audit_file.specs.Fitting.{IsOfAxioms, AreOfAxioms}
use Rattle.audit_file.specs.declared.entries.Justification.{Justification}
use Rattle.audit_file.specs.declared.entries.Repair.{Repair}
use Rattle.audit_check.specs.Sound.{IsSound, ListsAll}
use Rattle.audit_check.specs.Laws.{SoundAuditsListAll}
use Rattle.audit_check.proofs.Items.{from_map, all_has}
use Rattle.audit_check.proofs.Follows.{follows_over, follows_not}

module _ (o : Listed) (q : Query) (a : AuditLists) (over : AreOfAxioms o a)
    (within : All (λ (s : Limited). IsWithin s.limit s.members) (justified_sets a.justifications))
    (sound : IsSound o q a) where
  yes_set : (s : Limited) → Contains (justified_sets a.justifications) s → FollowsFrom o.axioms q s.members
  yes_set s listed =
      let j = from_map (λ (x : Justification). x.set) a.justifications s listed in
      let inside =
      all_has (λ (x : Limited). IsWithin x.limit x.members) (justified_sets a.justifications) s within listed in
      subst (λ (x : Limited). FollowsFrom o.axioms q x.members) j.2
      (follows_over o j.0.set q j.0.refutation (subst (λ (x : Limited). IsWithin x.limit x.members) (sym j.2) inside)
      (sound.shown j.0 j.1))

  end : (s : Limited) → Contains (repaired_sets a.repairs) s → FollowsFrom o.axioms q (rest s) → ⊥
  end s listed follows =
      let r = from_map (λ (x : Repair). x.set) a.repairs s listed in
      follows_not o.axioms q r.0 (sound.modelled r.0 r.1)
      (subst (λ (x : Limited). FollowsFrom o.axioms q (rest x)) (sym r.2) follows)

  limit_of : (s : Limited) → Contains (justified_sets a.justifications) s → s.limit ≡ length o.axioms
  limit_of s listed =
      let j = from_map (λ (x : Justification). x.set) a.justifications s listed in
      ap (λ (x : Limited). x.limit) (sym j.2)
      ∙ all_has (λ (x : Justification). IsOfAxioms o x.set) a.justifications j.0 over.justified j.1

  audited : IsAudited (FollowsFrom o.axioms q) (length o.axioms) (justified_sets a.justifications)
      (repaired_sets a.repairs)
  audited = record {
    limits = limit_of;
    within =
        λ s listed. all_has (λ (x : Limited). IsWithin x.limit x.members) (justified_sets a.justifications) s within
        listed;
    antichain = sound.antichain;
    yes_sets = yes_set;
    transversals = sound.transversals;
    ends = end;
  }

  same_set : (s : Limited) → s.limit ≡ length o.axioms → s ≡ of_axioms o.axioms s.members
  same_set s e i = record { limit = e i; members = s.members }

  lists : ListsAll o q a
  lists = record {
    justifications =
        λ s e. subst
        (λ (x : Limited). Contains (justified_sets a.justifications) s ↔ IsMinimalYes (FollowsFrom o.axioms q) x)
        (same_set s e)
        (audited_yes (FollowsFrom o.axioms q) (length o.axioms) (justified_sets a.justifications)
        (repaired_sets a.repairs) (grows o.axioms q) audited s e);
    repairs =
        λ r e. subst
        (λ (x : Limited). Contains (repaired_sets a.repairs) r ↔ IsMinimalRemoval (FollowsFrom o.axioms q) x)
        (same_set r e)
        (audited_removals (FollowsFrom o.axioms q) (length o.axioms) (justified_sets a.justifications)
        (repaired_sets a.repairs) (grows o.axioms q) audited r e);
  }

pub lists_all : SoundAuditsListAll
lists_all = lists

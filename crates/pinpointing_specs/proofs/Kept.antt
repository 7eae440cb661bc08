-- A query follows from the axioms of a local module just where it follows from all of them.
use Rattle.std.proofs.Common.{◌≡◌, ◌+◌, Bool, true, false, List, refl, ap, sym, ◌∙◌, subst, inl, inr}
use Rattle.std.specs.Cmp.{nat_cmp_total}
use Rattle.std.specs.List.{list_all, Contains}
use Rattle.std.specs.FinSet as set
use Rattle.std.proofs.lemmas.Bool.{and_parts, and_from, true≢false, true_from_ne_false, cases_eq, ne_eqb}
use Rattle.axiom_sets.specs.NumberSets.{NumberSet, IsPart}
use Rattle.axiom_sets.proofs.Bits.{contains_remove}
use Rattle.shq_meaning.specs.Axiom.{Axiom}
use Rattle.shq_meaning.specs.Numbered.{Numbered}
use Rattle.shq_meaning.specs.Query.{Query}
use Rattle.shq_meaning.specs.Truth.{Interpretation, meets, meets_all}
use Rattle.shq_meaning.proofs.Members.{member_passes, all_pass}
use Rattle.pinpointing_specs.specs.declared.module_laws.Name.{Name}
use Rattle.pinpointing_specs.specs.Signature.{is_among, axiom_names}
use Rattle.pinpointing_specs.specs.Local.{is_local}
use Rattle.pinpointing_specs.specs.LocalModule.{axioms_in_set, module_names, IsLocalModule, FollowsFrom}
use Rattle.pinpointing_specs.specs.LocalModule.{IsJustification}
use Rattle.pinpointing_specs.proofs.Names.{names_of_query, names_of_member}
use Rattle.pinpointing_specs.proofs.Grown.{grows}
use Rattle.pinpointing_specs.proofs.InSet.{InSet, in_set, to_set}
use Rattle.pinpointing_specs.proofs.Emptied.{emptied, local_is_met, same_met, same_refuted}

module _ (axioms : List Numbered) (q : Query) (m : NumberSet) (is_module : IsLocalModule axioms q m) where
  abbrev inside : Name → Bool
  inside = is_among (module_names axioms q m)

  -- an interpretation that meets those of the axioms that are in the module meets all of them when the names outside
  -- are emptied
  all_met : (s : NumberSet) (i : Interpretation) → meets_all i (axioms_in_set (set.intersection s m) axioms) ≡ true
      → meets_all (emptied inside i) (axioms_in_set s axioms) ≡ true
  all_met s i met =
      all_pass (meets (emptied inside i)) (axioms_in_set s axioms)
      (λ a listed. let at = in_set s axioms a listed in by a at (set.contains m (at.place + 1)) refl)
    where
      by : (a : Axiom) (at : InSet s axioms a) (b : Bool) → set.contains m (at.place + 1) ≡ b
          → meets (emptied inside i) a ≡ true
      by a at true member =
          let both : set.contains (set.intersection s m) (at.place + 1) ≡ true =
          set.contains-intersection nat_cmp_total s m (at.place + 1)
          ∙ and_from (set.contains s (at.place + 1)) (set.contains m (at.place + 1)) at.member member in
          let named : list_all inside (axiom_names a) ≡ true =
          names_of_member axioms q m a at.place at.numbered at.is_there at.is member in
          same_met inside i a named
          ∙ member_passes (meets i) (axioms_in_set (set.intersection s m) axioms) met a
          (subst (λ (x : Axiom). Contains (axioms_in_set (set.intersection s m) axioms) x) at.is
          (to_set (set.intersection s m) axioms at.place at.numbered at.is_there both))
      by a at false member =
          local_is_met inside i a
          (true_from_ne_false (is_local inside a)
          (λ other. true≢false
          (sym (is_module.closed at.place at.numbered at.is_there (ap (is_local inside) at.is ∙ other)) ∙ member)))

  pub keeps : (s : NumberSet) → FollowsFrom axioms q s → FollowsFrom axioms q (set.intersection s m)
  keeps s follows i some placed met x lt =
      sym (same_refuted inside i q (names_of_query axioms q m) x)
      ∙ follows (emptied inside i) some placed (all_met s i met) x lt

pub intersection_part : (s t : NumberSet) → IsPart (set.intersection s t) s
intersection_part s t k h =
    (and_parts (set.contains s k) (set.contains t k) (sym (set.contains-intersection nat_cmp_total s t k) ∙ h)).0

-- a member of a justification is in the module
pub held : (axioms : List Numbered) (q : Query) (m j : NumberSet) → IsLocalModule axioms q m
    → IsJustification axioms q j → IsPart j m
held axioms q m j is_module just k member =
    true_from_ne_false (set.contains m k)
    (λ none. just.needed k member
    (grows axioms q (set.intersection j m) (set.remove j k) (part none) (keeps axioms q m is_module j just.yes_set)))
  where
    part : set.contains m k ≡ false → IsPart (set.intersection j m) (set.remove j k)
    part none n h =
        let both =
        and_parts (set.contains j n) (set.contains m n) (sym (set.contains-intersection nat_cmp_total j m n) ∙ h) in
        contains_remove j k n
        ∙ (elim (cases_eq n k) [
          | inl e ↦ absurd (true≢false (sym both.1 ∙ ap (set.contains m) e ∙ none))
          | inr ne ↦ rw (ne_eqb n k ne) both.0
        ])

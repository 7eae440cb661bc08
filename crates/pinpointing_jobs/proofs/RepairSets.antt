-- Leaves of a hitting-set tree, and the repairs among them.
use Rattle.std.proofs.Common.{◌≡◌, ℕ, ◌-◌, ◌≤◌, List, length, sym, subst, arith, inl, inr}
use Rattle.std.specs.Prelude.{slice_index_or}
use Rattle.std.specs.List.{Contains}
use Rattle.std.specs.FinSet as set
use Rattle.std.proofs.lemmas.Bool.{cases_Bool}
use Rattle.lane_sieve.specs.Sets.{NumberSet}
use Rattle.axiom_sets.specs.Sets.{Limited}
use Rattle.pinpointing_specs.specs.Smallest.{rest, without, IsMinimalYes, IsMinimalRemoval, IsHitAlone, AreApart}
use Rattle.pinpointing_specs.specs.Nodes.{AreSettled}
use Rattle.pinpointing_specs.proofs.Choices.{to_rest, in_without}
use Rattle.repair_list.specs.Alone.{AreRepairs}
use Rattle.shq_terms.specs.Listed.{Listed}
use Rattle.shq_terms.specs.declared.axioms.Query.{Query as Asked}
use Rattle.pinpointing_specs.specs.LocalModule.{FollowsFrom, of_axioms}
use Rattle.pinpointing_specs.proofs.Grown.{grows}
use Rattle.query_asker.specs.HonestLog.{IsJustificationSet}
use Rattle.pinpointing_jobs.specs.Wanted.{IsRepairSet, HasRepairsOf}
use Rattle.pinpointing_jobs.specs.Searched.{IsLeaf}

-- ---- sets of axioms of the ontology

pub as_axioms : (o : Listed) (s : Limited) → s.limit ≡ length o.axioms → s ≡ of_axioms o.axioms s.members
as_axioms o s e = λ i. record { limit = e i; members = s.members }

module _ (o : Listed) (q : Asked) where
  abbrev pub holds : NumberSet → Type 0
  holds = FollowsFrom o.axioms q

  pub to_justification : (j : Limited) → j.limit ≡ length o.axioms → IsMinimalYes holds j → IsJustificationSet o q j
  to_justification j e h = record { limit_is = e; is_one = subst (IsMinimalYes holds) (as_axioms o j e) h }

  pub from_justification : (j : Limited) → IsJustificationSet o q j → IsMinimalYes holds j
  from_justification j x = subst (IsMinimalYes holds) (sym (as_axioms o j x.limit_is)) x.is_one

  pub to_repair : (r : Limited) → r.limit ≡ length o.axioms → IsMinimalRemoval holds r → IsRepairSet o q r
  to_repair r e h = record { limit_is = e; is_one = subst (IsMinimalRemoval holds) (as_axioms o r e) h }

  pub from_repair : (r : Limited) → IsRepairSet o q r → IsMinimalRemoval holds r
  from_repair r x = subst (IsMinimalRemoval holds) (sym (as_axioms o r x.limit_is)) x.is_one

-- ---- beside justifications

module _ (o : Listed) (q : Asked) (justifications : List Limited)
    (each : (j : Limited) → Contains justifications j → IsJustificationSet o q j) where
  -- a justification is part of what a set leaves, if it has none of its members
  left_over : (j s : Limited) → Contains justifications j → s.limit ≡ length o.axioms → AreApart j.members s.members
      → FollowsFrom o.axioms q (rest s)
  left_over j s listed e apart =
      let just = (each j listed).is_one in
      grows o.axioms q j.members (rest s)
      (λ k in_j.
      let inside = just.within k in_j in
      to_rest s k inside.0 (subst (λ (n : ℕ). k ≤ n) (sym e) inside.1) (apart k in_j))
      just.yes_set

  -- a leaf of which each member is hit alone is a repair
  pub alone_is_repair : (l : Limited) → IsLeaf o q l → IsHitAlone justifications l → IsRepairSet o q l
  alone_is_repair l leaf alone =
      to_repair o q l leaf.limit_is (record {
        within = leaf.within;
        ends = leaf.ends;
        needed = λ k member.
            let hit = alone k member in
            left_over hit.0 (without l k) hit.1 leaf.limit_is
            (λ m in_j. elim (cases_Bool (set.contains (set.remove l.members k) m)) [
              | inl yes' ↦ let both = in_without l.members k m yes' in absurd (both.0 (hit.3 m both.1 in_j))
              | inr no' ↦ no'
            ]);
      })

  -- a repair is apart from no justification
  pub repair_meets : (r j : Limited) → IsRepairSet o q r → Contains justifications j → ¬ AreApart j.members r.members
  repair_meets r j repair listed apart = (from_repair o q r repair).ends (left_over j r listed repair.limit_is apart)

  -- the leaves in which each member is hit alone are all that the settled nodes make known
  pub has_repairs : (leaves nodes sets : List Limited) → AreSettled justifications leaves nodes (length nodes - 1)
      → AreRepairs justifications leaves sets → HasRepairsOf o q justifications nodes sets
  has_repairs leaves nodes sets settled found place d lt repair alone =
      elim (settled place d (omega arith) (omega arith)) [
        | inl leaf ↦ (found (slice_index_or nodes place d)).1 (leaf, alone)
        | inr apart ↦ absurd (repair_meets (slice_index_or nodes place d) apart.0 repair apart.1 apart.2)
      ]

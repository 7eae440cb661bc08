-- Justifications and repairs are the same by entailment and by what follows in a world.
use Rattle.std.proofs.Common.{◌↔◌, ℕ, List, length}
use Rattle.std.specs.FinSet as set
use Rattle.lane_sieve.specs.Sets.{NumberSet}
use Rattle.axiom_sets.specs.Sets.{Limited, IsWithin}
use Rattle.axiom_sets.proofs.Kept.{take_within, difference_within}
use Rattle.pinpointing_specs.specs.LocalModule.{FollowsFrom, IsJustification, IsRepair}
use Rattle.pinpointing_specs.specs.Smallest.{IsMinimalYes, IsMinimalRemoval, numbers_to, rest, without}
use Rattle.set_questions.proofs.Rest.{numbers_within}
use Rattle.shq_terms.specs.Listed.{Listed}
use Rattle.shq_terms.specs.declared.axioms.Numbered.{Numbered}
use Rattle.shq_terms.specs.declared.axioms.Query.{Query as Asked}
use Rattle.all_worlds.specs.Worlds.{World}
use Rattle.answers_everywhere.specs.Laws.{IsOfWorld}
use Rattle.audit_jobs.specs.AuditLists.{AuditLists}
use Rattle.audit_check.specs.Sound.{ListsAll}
use Rattle.pinpointing_jobs.specs.declared.wanted.Wanted.{Wanted}
use Rattle.pinpointing_jobs.specs.declared.wanted.Wanted.TheVariants.{Justifications, Repairs}
use Rattle.pinpointing_jobs.specs.Wanted.{IsWanted, HasAll, HasSome}
use Rattle.ontology_jobs.specs.Entry.{Entry}
use Rattle.runs_everywhere.specs.Sets.{FollowsFromIn, IsJustificationIn, IsRepairIn, IsWantedSetIn, HasAllIn}
use Rattle.runs_everywhere.specs.Sets.{HasSomeIn, ListsAllIn}

-- ---- two claims that hold of the same sets of numbers up to a limit

module _ (p q : NumberSet → Type 0) (n : ℕ) (to : (s : NumberSet) → IsWithin n s → p s → q s)
    (back : (s : NumberSet) → IsWithin n s → q s → p s) where
  abbrev numbers : NumberSet → Limited
  numbers s = record { limit = n; members = s }

  rest_within : (s : NumberSet) → IsWithin n (rest (numbers s))
  rest_within s = difference_within n (numbers_to n) s (numbers_within n)

  yes_moved : (s : NumberSet) → IsMinimalYes p (numbers s) → IsMinimalYes q (numbers s)
  yes_moved s h = record {
    within = h.within;
    yes_set = to s h.within h.yes_set;
    needed = λ k member claim. h.needed k member (back (set.remove s k) (take_within n k s h.within) claim);
  }

  removal_moved : (s : NumberSet) → IsMinimalRemoval p (numbers s) → IsMinimalRemoval q (numbers s)
  removal_moved s h = record {
    within = h.within;
    ends = λ claim. h.ends (back (rest (numbers s)) (rest_within s) claim);
    needed = λ k member. to (rest (without (numbers s) k)) (rest_within (set.remove s k)) (h.needed k member);
  }

-- ---- in a world

module _ {d : Type 0} (w : World d) (axioms : List Numbered) (q : Asked) (of : IsOfWorld w axioms q) where
  to_world : (s : NumberSet) → IsWithin (length axioms) s → FollowsFrom axioms q s → FollowsFromIn w axioms q s
  to_world s within h = (of.some s within).0 h

  from_world : (s : NumberSet) → IsWithin (length axioms) s → FollowsFromIn w axioms q s → FollowsFrom axioms q s
  from_world s within h = (of.some s within).1 h

  abbrev follows : NumberSet → Type 0
  follows = FollowsFrom axioms q

  abbrev follows_in : NumberSet → Type 0
  follows_in = FollowsFromIn w axioms q

  justification : (s : NumberSet) → IsJustification axioms q s ↔ IsJustificationIn w axioms q s
  justification s = (
    yes_moved follows follows_in (length axioms) to_world from_world s,
    yes_moved follows_in follows (length axioms) from_world to_world s,
  )

  repair : (s : NumberSet) → IsRepair axioms q s ↔ IsRepairIn w axioms q s
  repair s = (
    removal_moved follows follows_in (length axioms) to_world from_world s,
    removal_moved follows_in follows (length axioms) from_world to_world s,
  )

module _ {d : Type 0} (w : World d) (o : Listed) (q : Asked) (of : IsOfWorld w o.axioms q) where
  wanted_to : (wanted : Wanted) (s : Limited) → IsWanted wanted o q s → IsWantedSetIn w wanted o q s
  wanted_to Justifications s h = record {
    limit_is = h.limit_is;
    is_one = (justification w o.axioms q of s.members).0 h.is_one;
  }
  wanted_to Repairs s h = record {
    limit_is = h.limit_is;
    is_one = (repair w o.axioms q of s.members).0 h.is_one;
  }

  wanted_from : (wanted : Wanted) (s : Limited) → IsWantedSetIn w wanted o q s → IsWanted wanted o q s
  wanted_from Justifications s h = record {
    limit_is = h.limit_is;
    is_one = (justification w o.axioms q of s.members).1 h.is_one;
  }
  wanted_from Repairs s h = record {
    limit_is = h.limit_is;
    is_one = (repair w o.axioms q of s.members).1 h.is_one;
  }

  pub has_all : (wanted : Wanted) (sets : List Limited) → HasAll wanted o q sets → HasAllIn w wanted o q sets
  has_all wanted sets h = record {
    order = h.order;
    all = λ s. (λ listed. wanted_to wanted s ((h.all s).0 listed), λ is. (h.all s).1 (wanted_from wanted s is));
  }

  pub has_some : (wanted : Wanted) (log : List Entry) (sets : List Limited) → HasSome wanted o q log sets
      → HasSomeIn w wanted o q sets
  has_some wanted log sets h = record {
    order = h.order;
    some = λ s listed. wanted_to wanted s (h.some s listed);
  }

  pub lists_all : (a : AuditLists) → ListsAll o q a → ListsAllIn w o q a
  lists_all a h = record {
    justifications =
        λ s limit. (
          λ listed. (justification w o.axioms q of s.members).0 ((h.justifications s limit).0 listed),
          λ is. (h.justifications s limit).1 ((justification w o.axioms q of s.members).1 is),
        );
    repairs =
        λ s limit. (
          λ listed. (repair w o.axioms q of s.members).0 ((h.repairs s limit).0 listed),
          λ is. (h.repairs s limit).1 ((repair w o.axioms q of s.members).1 is),
        );
  }

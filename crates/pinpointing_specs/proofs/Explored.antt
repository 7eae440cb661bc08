-- What two explored lists are.
use Rattle.std.proofs.Common.{◌≡◌, ℕ, ◌≤◌, true, false, List, ◌⊎◌, sym, ap, ◌∙◌, subst, inl, inr}
use Rattle.std.specs.List.{Contains}
use Rattle.std.specs.FinSet as set
use Rattle.std.proofs.lemmas.Bool.{cases_Bool, true≢false, cases_eq}
use Rattle.axiom_sets.specs.NumberSets.{NumberSet, IsPart, DoMeet}
use Rattle.axiom_sets.specs.Sets.{Limited}
use Rattle.axiom_sets.proofs.Same.{set_of_parts, same_limited}
use Rattle.pinpointing_specs.specs.Smallest.{rest, without, Grows, IsMinimalYes, IsMinimalRemoval, IsHitAlone, HasPart}
use Rattle.pinpointing_specs.specs.Smallest.{MeetsEach, IsExplored}
use Rattle.pinpointing_specs.specs.Laws.{ListedAreMinimalYes, HitAloneAreMinimalRemovals}
use Rattle.pinpointing_specs.proofs.Choices.{part_or_more, one_or_each, in_rest, to_rest, rest_of_part, in_without}
use Rattle.pinpointing_specs.proofs.Choices.{to_without, meet_or_apart}

apart_or_meet : (s t : NumberSet) → ((k : ℕ) → set.contains s k ≡ true → set.contains t k ≡ false) ⊎ DoMeet s t
apart_or_meet s t = elim (meet_or_apart s t) [ inl m ↦ inr m | inr a ↦ inl a ]

module _ (holds : NumberSet → Type 0) (limit : ℕ) (justifications leaves : List Limited) (grows : Grows holds)
    (explored : IsExplored holds limit justifications leaves) where
  -- a smallest yes-set that is part of another one is that one
  same_as : (s j : Limited) → s.limit ≡ limit → IsMinimalYes holds s → Contains justifications j
      → IsPart j.members s.members → Contains justifications s
  same_as s j e smallest listed part =
      elim (part_or_more s.members j.members) [
        | inl back ↦
            subst (λ (l : Limited). Contains justifications l)
            (same_limited j s (explored.limits j listed ∙ sym e) (set_of_parts j.members s.members part back)) listed
        | inr more ↦
            absurd (smallest.needed more.0 more.1
            (grows j.members (set.remove s.members more.0)
            (λ k h. to_without s.members more.0 k
            (λ same. true≢false (sym h ∙ ap (set.contains j.members) same ∙ more.2)) (part k h))
            (explored.smallest j listed).yes_set))
      ]

  pub listed_minimal : (s : Limited) → s.limit ≡ limit → IsMinimalYes holds s → Contains justifications s
  listed_minimal s e smallest =
      elim (one_or_each (λ (j : Limited). IsPart j.members s.members)
      (λ (j : Limited). (k : ℕ) × (set.contains j.members k ≡ true) × (set.contains s.members k ≡ false))
      (λ j. part_or_more j.members s.members) justifications) [
        | inl part ↦ same_as s part.0 e smallest part.1 part.2
        | inr others ↦
            let leaf = explored.covered (rest s) (λ j listed.
            let more = others j listed in
            let inside = (explored.smallest j listed).within more.0 more.1 in (
              more.0,
              more.1,
              to_rest s more.0 inside.0 (subst (λ (n : ℕ). more.0 ≤ n) (explored.limits j listed ∙ sym e) inside.1)
                  more.2,
            )) in
            absurd ((explored.ends leaf.0 leaf.1).1
            (grows s.members (rest leaf.0)
            (λ k member. let inside = smallest.within k member in
            to_rest leaf.0 k inside.0 (subst (λ (n : ℕ). k ≤ n) (e ∙ sym (explored.leaf_limits leaf.0 leaf.1)) inside.1)
            (elim (cases_Bool (set.contains leaf.0.members k)) [
              | inl yes' ↦ absurd (true≢false (sym member ∙ in_rest s k (leaf.2 k yes')))
              | inr no' ↦ no'
            ]))
            smallest.yes_set))
      ]

  -- ---- removals

  -- a leaf whose rest would hold
  no_leaf : (r : Limited) → r.limit ≡ limit → holds (rest r) → ¬ HasPart leaves r.members
  no_leaf r e yes' leaf =
      (explored.ends leaf.0 leaf.1).1
      (grows (rest r) (rest leaf.0) (rest_of_part leaf.0 r (explored.leaf_limits leaf.0 leaf.1 ∙ sym e) leaf.2) yes')

  -- a removal meets each listed set
  removal_meets : (r : Limited) → r.limit ≡ limit → ¬ holds (rest r) → MeetsEach justifications r.members
  removal_meets r e ends j listed =
      elim (part_or_more j.members (rest r)) [
        | inl part ↦ absurd (ends (grows j.members (rest r) part (explored.smallest j listed).yes_set))
        | inr more ↦
            let inside = (explored.smallest j listed).within more.0 more.1 in (
              more.0,
              more.1,
              elim (cases_Bool (set.contains r.members more.0)) [
                | inl yes' ↦ yes'
                | inr no' ↦
                    absurd (true≢false
                    (sym (to_rest r more.0 inside.0
                    (subst (λ (n : ℕ). more.0 ≤ n) (explored.limits j listed ∙ sym e) inside.1) no')
                    ∙ more.2))
              ],
            )
      ]

  -- a leaf that is part of a smallest removal is all of it
  pub removal_is_leaf : (r : Limited) → r.limit ≡ limit → IsMinimalRemoval holds r → Contains leaves r
  removal_is_leaf r e smallest =
      let leaf = explored.covered r.members (removal_meets r e smallest.ends) in
      elim (part_or_more r.members leaf.0.members) [
        | inl back ↦
            subst (λ (l : Limited). Contains leaves l)
            (same_limited leaf.0 r (explored.leaf_limits leaf.0 leaf.1 ∙ sym e)
            (set_of_parts leaf.0.members r.members leaf.2 back))
            leaf.1
        | inr more ↦
            absurd (no_leaf (without r more.0) e (smallest.needed more.0 more.1) (
              leaf.0,
              leaf.1,
              λ k h. to_without r.members more.0 k
                  (λ same. true≢false (sym h ∙ ap (set.contains leaf.0.members) same ∙ more.2)) (leaf.2 k h),
            ))
      ]

  -- without k it meets each listed set but those that it hits in k alone
  pub removal_is_hit_alone : (r : Limited) → r.limit ≡ limit → IsMinimalRemoval holds r → IsHitAlone justifications r
  removal_is_hit_alone r e smallest k member =
      elim (one_or_each
      (λ (j : Limited). (m : ℕ) → set.contains j.members m ≡ true → set.contains (set.remove r.members k) m ≡ false)
      (λ (j : Limited). DoMeet j.members (set.remove r.members k))
      (λ j. apart_or_meet j.members (set.remove r.members k)) justifications) [
        | inl found ↦
            let j = found.0 in
            let hit = removal_meets r e smallest.ends j found.1 in
            let alone : (m : ℕ) → set.contains r.members m ≡ true → set.contains j.members m ≡ true → m ≡ k =
            λ m in_r in_j. elim (cases_eq m k) [
              | inl same ↦ same
              | inr ne ↦ absurd (true≢false (sym (to_without r.members k m ne in_r) ∙ found.2 m in_j))
            ] in
            (j, found.1, subst (λ (m : ℕ). set.contains j.members m ≡ true) (alone hit.0 hit.2 hit.1) hit.1, alone)
        | inr each ↦
            absurd (no_leaf (without r k) e (smallest.needed k member) (explored.covered (set.remove r.members k) each))
      ]

  pub hit_alone_is_removal : (r : Limited) → r.limit ≡ limit → Contains leaves r → IsHitAlone justifications r
      → IsMinimalRemoval holds r
  hit_alone_is_removal r e leaf alone =
      record {
        within = (explored.ends r leaf).0;
        ends = (explored.ends r leaf).1;
        needed = λ k member.
            let hit = alone k member in
            let j = hit.0 in
            grows j.members (rest (without r k))
            (λ m in_j.
            let inside = (explored.smallest j hit.1).within m in_j in
            to_rest (without r k) m inside.0 (subst (λ (n : ℕ). m ≤ n) (explored.limits j hit.1 ∙ sym e) inside.1)
            (elim (cases_Bool (set.contains (set.remove r.members k) m)) [
              | inl yes' ↦ let both = in_without r.members k m yes' in absurd (both.0 (hit.3 m both.1 in_j))
              | inr no' ↦ no'
            ]))
            (explored.smallest j hit.1).yes_set;
      }

pub laws_of_lists : (holds : NumberSet → Type 0) → ListedAreMinimalYes holds
laws_of_lists holds limit justifications leaves grows explored s e =
    (λ listed. explored.smallest s listed, listed_minimal holds limit justifications leaves grows explored s e)

pub laws_of_leaves : (holds : NumberSet → Type 0) → HitAloneAreMinimalRemovals holds
laws_of_leaves holds limit justifications leaves grows explored r e = (
  λ both. hit_alone_is_removal holds limit justifications leaves grows explored r e both.0 both.1,
  λ smallest. (
    removal_is_leaf holds limit justifications leaves grows explored r e smallest,
    removal_is_hit_alone holds limit justifications leaves grows explored r e smallest,
  ),
)

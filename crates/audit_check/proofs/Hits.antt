-- Sets that meet each listed set, and what each of their members is there for.
use Rattle.std.proofs.Common.{◌≡◌, ℕ, zero, suc, ◌+◌, ◌<◌, ◌≤◌, true, eqb, List, ◌⊎◌, refl, sym, ◌∙◌, subst, arith, inl}
use Rattle.std.proofs.Common.{inr}
use Rattle.std.specs.List.{Contains}
use Rattle.std.specs.Cmp.{nat_cmp_total}
use Rattle.std.specs.FinSet as set
use Rattle.std.proofs.lemmas.Bool.{true≢false, cases_eq, and_parts, or_cases, eqb-true}
use Rattle.lane_sieve.specs.Sets.{NumberSet, IsPart, DoMeet}
use Rattle.lane_sieve.proofs.Bits.{contains_insert}
use Rattle.axiom_sets.specs.Sets.{Limited, IsWithin}
use Rattle.pinpointing_specs.specs.Smallest.{numbers_to, AreApart, IsHitAlone, MeetsEach, HasPart}
use Rattle.pinpointing_specs.proofs.Choices.{one_or_each, in_without, to_without, meet_or_apart, in_numbers_to}
use Rattle.audit_check.specs.Transversals.{IsMinimalTransversal, AreTransversals, TransversalsHitAlone}

-- some listed set has k, and no other member of t
abbrev pub HitsAt : List Limited → NumberSet → ℕ → Type 0
HitsAt sets t k = (j : Limited) × Contains sets j × (set.contains j.members k ≡ true)
    × ((m : ℕ) → set.contains t m ≡ true → set.contains j.members m ≡ true → m ≡ k)

apart_or_meet : (s t : NumberSet) → AreApart s t ⊎ DoMeet s t
apart_or_meet s t = elim (meet_or_apart s t) [ inl m ↦ inr m | inr a ↦ inl a ]

-- some listed set is apart from t, or t meets each
pub one_apart_or_met : (sets : List Limited) (t : NumberSet)
    → ((j : Limited) × Contains sets j × AreApart j.members t) ⊎ MeetsEach sets t
one_apart_or_met sets t =
    one_or_each (λ (j : Limited). AreApart j.members t) (λ (j : Limited). DoMeet j.members t)
    (λ j. apart_or_meet j.members t) sets

-- a set that meets t, but not without k, has k alone
pub alone_in : (j t : NumberSet) (k : ℕ) → AreApart j (set.remove t k) → (m : ℕ) → set.contains t m ≡ true
    → set.contains j m ≡ true → m ≡ k
alone_in j t k apart m in_t in_j =
    elim (cases_eq m k) [
      | inl same ↦ same
      | inr ne ↦ absurd (true≢false (sym (to_without t k m ne in_t) ∙ apart m in_j))
    ]

pub hits_at : (sets : List Limited) (t : NumberSet) (k : ℕ) (j : Limited) → Contains sets j → DoMeet j.members t
    → AreApart j.members (set.remove t k) → HitsAt sets t k
hits_at sets t k j listed meet apart = (
  j,
  listed,
  subst (λ (m : ℕ). set.contains j.members m ≡ true) (alone_in j.members t k apart meet.0 meet.2 meet.1) meet.1,
  alone_in j.members t k apart,
)

-- ---- smallest ones

pub smallest_hits_alone : (sets : List Limited) (r : Limited) → IsMinimalTransversal sets r → IsHitAlone sets r
smallest_hits_alone sets r minimal k member =
    elim (one_apart_or_met sets (set.remove r.members k)) [
      | inl found ↦ hits_at sets r.members k found.0 found.1 (minimal.meets found.0 found.1) found.2
      | inr each ↦
          let back = minimal.smallest (set.remove r.members k) (λ m h. (in_without r.members k m h).1) each k member in
          absurd ((in_without r.members k k back).0 (λ i. k))
    ]

pub alone_is_smallest : (sets : List Limited) (r : Limited) → IsHitAlone sets r → (t : NumberSet) → IsPart t r.members
    → MeetsEach sets t → IsPart r.members t
alone_is_smallest sets r alone t part meets k member =
    let hit = alone k member in
    let meet = meets hit.0 hit.1 in
    subst (λ (m : ℕ). set.contains t m ≡ true) (hit.3 meet.0 (part meet.0 meet.2) meet.1) meet.2

pub told_by_hits : TransversalsHitAlone
told_by_hits sets r = (
  λ minimal. (minimal.within, minimal.meets, smallest_hits_alone sets r minimal),
  λ h. record { within = h.0; meets = h.1; smallest = alone_is_smallest sets r h.2 },
)

-- ---- each set that meets all of them has a smallest one as part

fewer : (sets : List Limited) (t u : NumberSet) (k : ℕ) → IsPart u t → HitsAt sets t k → HitsAt sets u k
fewer sets t u k part hit = (hit.0, hit.1, hit.2, λ m in_u in_j. hit.3 m (part m in_u) in_j)

-- members above n are needed already; those from n down are let go of, where the others meet each set
needed_part : (sets : List Limited) (n : ℕ) (t : NumberSet) → MeetsEach sets t
    → ((k : ℕ) → set.contains t k ≡ true → n < k → HitsAt sets t k)
    → (u : NumberSet) × IsPart u t × MeetsEach sets u × ((k : ℕ) → set.contains u k ≡ true → 0 < k → HitsAt sets u k)
needed_part sets zero t meets needed = (t, λ k h. h, meets, needed)
needed_part sets (suc n) t meets needed =
    elim (one_apart_or_met sets (set.remove t (n + 1))) [
      | inl found ↦
          needed_part sets n t meets
          (λ k member low. elim (cases_eq k (n + 1)) [
            | inl e ↦
                subst (λ (m : ℕ). HitsAt sets t m) (sym e)
                (hits_at sets t (n + 1) found.0 found.1 (meets found.0 found.1) found.2)
            | inr ne ↦ needed k member (omega arith)
          ])
      | inr each ↦
          let less = needed_part sets n (set.remove t (n + 1)) each
          (λ k member low. let both = in_without t (n + 1) k member in
          fewer sets t (set.remove t (n + 1)) k (λ m h. (in_without t (n + 1) m h).1)
          (needed k both.1 (omega (arith, low, both.0)))) in
          (less.0, λ k h. (in_without t (n + 1) k (less.1 k h)).1, less.2, less.3)
    ]

numbers_within : (n k : ℕ) → set.contains (numbers_to n) k ≡ true → (1 ≤ k) × (k ≤ n)
unfolding numbers_to
numbers_within zero k h = absurd (true≢false (sym h ∙ set.contains-empty _ k))
numbers_within (suc n) k h =
    elim
    (or_cases (eqb k (n + 1)) (set.contains (numbers_to n) k) (sym (contains_insert (numbers_to n) (n + 1) k) ∙ h)) [
      | inl e ↦ let same : k ≡ n + 1 = eqb-true k (n + 1) e in (omega arith, omega arith)
      | inr old ↦ let both = numbers_within n k old in (both.0, omega (arith, both.1))
    ]

module _ (limit : ℕ) (sets : List Limited) (limits : (j : Limited) → Contains sets j → j.limit ≡ limit)
    (inside : (j : Limited) → Contains sets j → IsWithin j.limit j.members) where
  abbrev up_to_limit : NumberSet → NumberSet
  up_to_limit t = set.intersection t (numbers_to limit)

  in_both : (t : NumberSet) (k : ℕ) → set.contains (up_to_limit t) k ≡ true
      → (set.contains t k ≡ true) × (set.contains (numbers_to limit) k ≡ true)
  in_both t k h =
      and_parts (set.contains t k) (set.contains (numbers_to limit) k)
      (sym (set.contains-intersection nat_cmp_total t (numbers_to limit) k) ∙ h)

  still_met : (t : NumberSet) → MeetsEach sets t → MeetsEach sets (up_to_limit t)
  still_met t meets j listed =
      let meet = meets j listed in
      let range = inside j listed meet.0 meet.1 in (
        meet.0,
        meet.1,
        set.contains-intersection nat_cmp_total t (numbers_to limit) meet.0
            ∙ rw (meet.2, in_numbers_to limit meet.0 range.0 (subst (λ (n : ℕ). meet.0 ≤ n) (limits j listed) range.1))
            refl,
      )

  pub has_smallest : (list : List Limited) → AreTransversals limit sets list → (t : NumberSet) → MeetsEach sets t
      → HasPart list t
  has_smallest list are t meets =
      let found = needed_part sets limit (up_to_limit t) (still_met t meets)
      (λ k member low. absurd (omega (arith, low, (numbers_within limit k (in_both t k member).1).1))) in
      let r : Limited = record { limit = limit; members = found.0 } in
      let within : IsWithin limit found.0 = λ k h. numbers_within limit k (in_both t k (found.1 k h)).1 in
      let alone : IsHitAlone sets r = λ k h. found.3 k h (omega (arith, (within k h).0)) in (
        r,
        (are r).1 (λ i. limit, (told_by_hits sets r).1 (within, found.2, alone)),
        λ k h. (in_both t k (found.1 k h)).0,
      )

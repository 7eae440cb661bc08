-- Numbers by which a node of the search may grow.
use Rattle.std.proofs.Common.{◌≡◌, ℕ, zero, suc, ◌≤◌, ◌++◌, ◌∷◌, [], true, false, eqb, List, ◌⊎◌, refl, sym, ap, ◌∙◌}
use Rattle.std.proofs.Common.{subst, arith, inl, inr, eq-eqb}
use Rattle.std.specs.Prelude.{◌↔◌}
use Rattle.std.specs.List.{Contains}
use Rattle.std.specs.FinSet as set
use Rattle.std.proofs.lemmas.Bool.{cases_Bool, true≢false, cases_eq, or_cases, eqb-true}
use Rattle.std.proofs.lemmas.List.{get_or_default}
use Rattle.std.proofs.lemmas.List.Elements.{Contains-append_left, Contains-push, Contains-push_cases}
use Rattle.std.proofs.Math.Bool.{or-true}
use Rattle.lane_sieve.specs.Sets.{NumberSet}
use Rattle.lane_sieve.proofs.Bits.{contains_insert}
use Rattle.axiom_sets.specs.Sets.{Limited, IsWithin, IsFull, member_list}
use Rattle.axiom_sets.proofs.Listed.{member_list-at, member_list-place}
use Rattle.pinpointing_specs.specs.Smallest.{AreApart, IsHitAlone}
use Rattle.pinpointing_specs.proofs.Choices.{one_or_each, in_difference, to_difference, in_without, to_without}
use Rattle.pinpointing_specs.proofs.Choices.{meet_or_apart, in_numbers_to}
use Rattle.set_questions.proofs.Rest.{full_is, numbers_within}
use Rattle.audit_check.specs.Territory.{with_number, AreCandidates, AreChoices, AreShared, IsFree, LeavesFree, HasAlone}
use Rattle.audit_check.specs.Territory.{KeepsShared, KeepsCommon}

-- ---- one number more

pub in_more : (s : NumberSet) (n k : ℕ) → set.contains (set.insert s n) k ≡ true → (k ≡ n) ⊎ (set.contains s k ≡ true)
in_more s n k h = elim (or_cases (eqb k n) (set.contains s k) (sym (contains_insert s n k) ∙ h))
    [ inl e ↦ inl (eqb-true k n e) | inr old ↦ inr old ]

pub to_more : (s : NumberSet) (n k : ℕ) → set.contains s k ≡ true → set.contains (set.insert s n) k ≡ true
to_more s n k h = contains_insert s n k ∙ rw h (or-true (eqb k n))

pub has_more : (s : NumberSet) (n : ℕ) → set.contains (set.insert s n) n ≡ true
has_more s n = contains_insert s n n ∙ rw (eq-eqb n n refl) refl

-- ---- what both sets have

pub common : (other old lost new : NumberSet) → lost ≡ set.difference old other → new ≡ set.difference old lost
    → KeepsCommon other old new
common other old lost new e f k = (
  λ h. let both = in_difference old lost k (subst (λ (s : NumberSet). set.contains s k ≡ true) f h) in (
    both.0,
    elim (cases_Bool (set.contains other k)) [
      | inl yes' ↦ yes'
      | inr no' ↦
          absurd (true≢false
          (sym (subst (λ (s : NumberSet). set.contains s k ≡ true) (sym e) (to_difference old other k both.0 no'))
          ∙ both.1))
    ],
  ),
  λ h. subst (λ (s : NumberSet). set.contains s k ≡ true) (sym f)
      (to_difference old lost k h.0 (elim (cases_Bool (set.contains lost k)) [
        | inl yes' ↦
            absurd (true≢false
            (sym h.1 ∙ (in_difference old other k (subst (λ (s : NumberSet). set.contains s k ≡ true) e yes')).1))
        | inr no' ↦ no'
      ])),
)

pub shared_by_alone : (j : Limited) (others old new : NumberSet) (u : ℕ) → HasAlone j others u
    → KeepsCommon j.members old new → KeepsShared j others u old new
shared_by_alone j others old new u alone keeps k =
    (λ h. let both = (keeps k).0 h in (both.0, λ _. both.1), λ h. (keeps k).1 (h.0, h.1 alone))

pub shared_by_other : (j : Limited) (others old : NumberSet) (u : ℕ) → ¬ HasAlone j others u
    → KeepsShared j others u old old
shared_by_other j others old u other k = (λ h. (h, λ alone. absurd (other alone)), λ h. h.0)

-- ---- what all sets have that hit a member alone

pub shared_none : (others : NumberSet) (u : ℕ) (fitting : NumberSet) → AreShared [] others u fitting fitting
shared_none others u fitting k = (λ h. (h, λ j listed. absurd (omega (arith, listed.1))), λ h. h.0)

pub shared_more : (sets longer : List Limited) (j : Limited) (others : NumberSet) (u : ℕ) (fitting old new : NumberSet)
    → longer ≡ sets ++ j ∷ []
    → AreShared sets others u fitting old → KeepsShared j others u old new → AreShared longer others u fitting new
shared_more sets longer j others u fitting old new e before keeps k = (
  λ h.
      let now = (keeps k).0 h in
      let then = (before k).0 now.0 in (
        then.0,
        λ s listed alone. elim (Contains-push_cases sets j s (subst (λ (xs : List Limited). Contains xs s) e listed)) [
          | inl front ↦ then.1 s front alone
          | inr same ↦
              subst (λ (x : Limited). set.contains x.members k ≡ true) same
              (now.1 (subst (λ (x : Limited). HasAlone x others u) (sym same) alone))
        ],
      ),
  λ h. (keeps k).1 (
    (before k).1 (
      h.0,
      λ s listed. h.1 s
          (subst (λ (xs : List Limited). Contains xs s) (sym e) (Contains-append_left sets (j ∷ []) s listed)),
    ),
    h.1 j (subst (λ (xs : List Limited). Contains xs j) (sym e) (Contains-push sets j)),
  ),
)

module _ (sets : List Limited) (hit : Limited) (u : ℕ) (others : NumberSet)
    (e : others ≡ set.remove hit.members u) where
  is_alone : (j : Limited) → HasAlone j others u → (m : ℕ) → set.contains hit.members m ≡ true
      → set.contains j.members m ≡ true → m ≡ u
  is_alone j alone m in_hit in_j =
      elim (cases_eq m u) [
        | inl same ↦ same
        | inr ne ↦ absurd (alone.1 (
          m,
          in_j,
          subst (λ (s : NumberSet). set.contains s m ≡ true) (sym e) (to_without hit.members u m ne in_hit),
        ))
      ]

  has_alone : (j : Limited) → set.contains j.members u ≡ true
      → ((m : ℕ) → set.contains hit.members m ≡ true → set.contains j.members m ≡ true → m ≡ u) → HasAlone j others u
  has_alone j has alone = (
    has,
    λ meet.
        let both = in_without hit.members u meet.0 (subst (λ (s : NumberSet). set.contains s meet.0 ≡ true) e meet.2) in
        both.0 (alone meet.0 both.1 meet.1),
  )

  -- one set has u alone and lacks k, or each that has u alone has k
  lacks_or_has : (k : ℕ) (j : Limited)
      → (HasAlone j others u × (set.contains j.members k ≡ false))
      ⊎ (HasAlone j others u → set.contains j.members k ≡ true)
  lacks_or_has k j =
      elim (cases_Bool (set.contains j.members k)) [
        | inl in_j ↦ inr (λ _. in_j)
        | inr out ↦ elim (cases_Bool (set.contains j.members u)) [
          | inl has ↦ elim (meet_or_apart j.members others) [
            | inl meet ↦ inr (λ alone. absurd (alone.1 meet))
            | inr apart ↦ inl ((has, λ meet. true≢false (sym meet.2 ∙ apart meet.0 meet.1)), out)
          ]
          | inr lacks ↦ inr (λ alone. absurd (true≢false (sym alone.0 ∙ lacks)))
        ]
      ]

  pub leaves_free : (old blocked new : NumberSet) → AreShared sets others u old blocked
      → new ≡ set.difference old blocked → LeavesFree sets hit u old new
  leaves_free old blocked new shared f k = (
    λ h.
        let both = in_difference old blocked k (subst (λ (s : NumberSet). set.contains s k ≡ true) f h) in (
          both.0,
          elim (one_or_each (λ (j : Limited). HasAlone j others u × (set.contains j.members k ≡ false))
              (λ (j : Limited). HasAlone j others u → set.contains j.members k ≡ true) (lacks_or_has k) sets) [
                | inl found ↦ (found.0, found.1, found.2.0.0, is_alone found.0 found.2.0, found.2.1)
                | inr each ↦ absurd (true≢false (sym ((shared k).1 (both.0, each)) ∙ both.1))
              ],
        ),
    λ h.
        let free = h.1 in
        subst (λ (s : NumberSet). set.contains s k ≡ true) (sym f)
        (to_difference old blocked k h.0 (elim (cases_Bool (set.contains blocked k)) [
          | inl yes' ↦
              absurd (true≢false (sym (((shared k).0 yes').1 free.0 free.1 (has_alone free.0 free.2 free.3)) ∙ free.4))
          | inr no' ↦ no'
        ])),
  )

-- ---- for each member

abbrev pub EachFree : List Limited → Limited → List ℕ → ℕ → Type 0
EachFree sets hit us k = (u : ℕ) → Contains us u → IsFree sets hit u k

-- of the first numbers those are left that are free for each member already gone through
abbrev pub AreLeft : List Limited → Limited → NumberSet → List ℕ → NumberSet → Type 0
AreLeft sets hit first us fitting = (k : ℕ)
    → ((set.contains fitting k ≡ true) × EachFree sets hit us k)
    ↔ ((set.contains first k ≡ true) × EachFree sets hit (member_list hit) k)

first_or_later : (u : ℕ) (us : List ℕ) (v : ℕ) → Contains (u ∷ us) v → (u ≡ v) ⊎ Contains us v
first_or_later u us v (zero, lt, e) = inl e
first_or_later u us v (suc i, lt, e) = inr (i, omega (arith, lt), e)

pub left_next : (sets : List Limited) (hit : Limited) (first : NumberSet) (u : ℕ) (us : List ℕ) (old new : NumberSet)
    → AreLeft sets hit first (u ∷ us) old → LeavesFree sets hit u old new → AreLeft sets hit first us new
left_next sets hit first u us old new before leaves k = (
  λ h.
      let now = (leaves k).0 h.0 in
      (before k).0 (
        now.0,
        λ v at. elim (first_or_later u us v at)
            [ inl e ↦ subst (λ (w : ℕ). IsFree sets hit w k) e now.1 | inr later ↦ h.1 v later ],
      ),
  λ h.
      let then = (before k).1 h in
      ((leaves k).1 (then.0, then.1 u (0, omega arith, refl)), λ v at. then.1 v (suc at.0, omega (arith, at.1), at.2)),
)

-- ---- numbers that are gone through

pub first_ahead : (us : List ℕ) (u : ℕ) (later : List ℕ) → us ≡ u ∷ later → Contains us u
first_ahead us u later e = subst (λ (xs : List ℕ). Contains xs u) (sym e) (0, omega arith, refl)

pub later_ahead : (us : List ℕ) (u : ℕ) (later : List ℕ) (v : ℕ) → us ≡ u ∷ later → Contains later v → Contains us v
later_ahead us u later v e at = subst (λ (xs : List ℕ). Contains xs v) (sym e) (suc at.0, omega (arith, at.1), at.2)

pub listed_number : (s : Limited) (u : ℕ) → Contains (member_list s) u → set.contains s.members u ≡ true
listed_number s u at =
    subst (λ (v : ℕ). set.contains s.members v ≡ true) at.2
    (subst (λ (v : ℕ). set.contains s.members v ≡ true) (get_or_default (member_list s) at.0 0 u at.1)
    (member_list-at s at.0 at.1).0)

pub number_listed : (s : Limited) → IsWithin s.limit s.members → (u : ℕ) → set.contains s.members u ≡ true
    → Contains (member_list s) u
number_listed s within u member =
    let place = member_list-place s within u member in
    (place.0, place.1, get_or_default (member_list s) place.0 u 0 place.1 ∙ place.2)

-- ---- which numbers are candidates

module _ (sets : List Limited) (hit barred : Limited) (within : IsWithin hit.limit hit.members)
    (full first candidates : NumberSet) (is_full : IsFull hit.limit full)
    (first_is : first ≡ set.difference full barred.members) (left : AreLeft sets hit first [] candidates) where
  in_full : (k : ℕ) → set.contains full k ≡ true → (1 ≤ k) × (k ≤ hit.limit)
  in_full k h =
      numbers_within hit.limit k (subst (λ (s : NumberSet). set.contains s k ≡ true) (full_is hit.limit full is_full) h)

  to_full : (k : ℕ) → 1 ≤ k → k ≤ hit.limit → set.contains full k ≡ true
  to_full k low high =
      subst (λ (s : NumberSet). set.contains s k ≡ true) (sym (full_is hit.limit full is_full))
      (in_numbers_to hit.limit k low high)

  pub are_candidates : AreCandidates sets hit barred candidates
  are_candidates k = (
    λ h.
        let all = (left k).0 (h, λ u at. absurd (omega (arith, at.1))) in
        let both =
        in_difference full barred.members k (subst (λ (s : NumberSet). set.contains s k ≡ true) first_is all.0) in
        let bounds = in_full k both.0 in
        (bounds.0, bounds.1, both.1, λ u in_hit. all.1 u (number_listed hit within u in_hit)),
    λ h. ((left k).1 (
      subst (λ (s : NumberSet). set.contains s k ≡ true) (sym first_is)
          (to_difference full barred.members k (to_full k h.0 h.1) h.2),
      λ u at. h.3 u (listed_number hit u at),
    )).0,
  )

module _ (sets : List Limited) (unmet hit : Limited) (listed : Contains sets unmet)
    (apart : AreApart unmet.members hit.members) where
  lacks : (k : ℕ) → set.contains unmet.members k ≡ true → set.contains hit.members k ≡ true → ⊥
  lacks k in_unmet in_hit = true≢false (sym in_hit ∙ apart k in_unmet)

  free_of_alone : (k : ℕ) → set.contains unmet.members k ≡ true → IsHitAlone sets (with_number hit k) → (u : ℕ)
      → set.contains hit.members u ≡ true → IsFree sets hit u k
  free_of_alone k in_unmet alone u in_hit =
      let found = alone u (to_more hit.members k u in_hit) in (
        found.0,
        found.1,
        found.2,
        λ m m_hit m_in. found.3 m (to_more hit.members k m m_hit) m_in,
        elim (cases_Bool (set.contains found.0.members k)) [
          | inl has ↦
              absurd (lacks k in_unmet
              (subst (λ (v : ℕ). set.contains hit.members v ≡ true) (sym (found.3 k (has_more hit.members k) has))
              in_hit))
          | inr out ↦ out
        ],
      )

  alone_of_free : (k : ℕ) → set.contains unmet.members k ≡ true
      → ((u : ℕ) → set.contains hit.members u ≡ true → IsFree sets hit u k) → IsHitAlone sets (with_number hit k)
  alone_of_free k in_unmet free u in_both =
      elim (in_more hit.members k u in_both) [
        | inl e ↦ (
          unmet,
          listed,
          subst (λ (v : ℕ). set.contains unmet.members v ≡ true) (sym e) in_unmet,
          λ m m_both m_in. elim (in_more hit.members k m m_both)
              [ inl same ↦ same ∙ sym e | inr m_hit ↦ absurd (lacks m m_in m_hit) ],
        )
        | inr in_hit ↦
            let found = free u in_hit in (
              found.0,
              found.1,
              found.2,
              λ m m_both m_in. elim (in_more hit.members k m m_both) [
                | inl same ↦ absurd (true≢false (sym m_in ∙ ap (set.contains found.0.members) same ∙ found.4))
                | inr m_hit ↦ found.3 m m_hit m_in
              ],
            )
      ]

  pub are_choices : (barred : Limited) (candidates fitting : NumberSet) → IsWithin hit.limit unmet.members
      → AreCandidates sets hit barred candidates → KeepsCommon candidates unmet.members fitting
      → AreChoices sets unmet hit barred fitting
  are_choices barred candidates fitting within are keeps k = (
    λ h.
        let both = (keeps k).0 h in
        let found = (are k).0 both.1 in
        (both.0, found.2, alone_of_free k both.0 found.3),
    λ h.
        let bounds = within k h.0 in
        (keeps k).1 (h.0, (are k).1 (bounds.0, bounds.1, h.1, free_of_alone k h.0 h.2)),
  )

pub left_first : (sets : List Limited) (hit : Limited) (first : NumberSet) (us : List ℕ) (fitting : NumberSet)
    → us ≡ member_list hit → fitting ≡ first → AreLeft sets hit first us fitting
left_first sets hit first us fitting e f k = (
  λ h. (
    subst (λ (s : NumberSet). set.contains s k ≡ true) f h.0,
    subst (λ (xs : List ℕ). EachFree sets hit xs k) e h.1,
  ),
  λ h. (
    subst (λ (s : NumberSet). set.contains s k ≡ true) (sym f) h.0,
    subst (λ (xs : List ℕ). EachFree sets hit xs k) (sym e) h.1,
  ),
)

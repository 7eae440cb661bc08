-- What a search for sets that hit a member alone finds.
use Rattle.std.proofs.Common.{◌≡◌, ℕ, ◌+◌, ◌≤◌, ◌++◌, ◌∷◌, [], List, get_or, true, sym, subst, arith, inl, inr}
use Rattle.std.specs.Prelude.{◌↔◌}
use Rattle.std.specs.FinSet as set
use Rattle.std.specs.List.{Contains, All}
use Rattle.std.proofs.lemmas.Bool.{cases_eq}
use Rattle.std.proofs.lemmas.List.Elements.{Contains-append_left, Contains-append_right, Contains-get_or, Contains-push}
use Rattle.std.proofs.lemmas.List.Elements.{Contains-push_cases}
use Rattle.lane_sieve.specs.Sets.{NumberSet}
use Rattle.axiom_sets.specs.Sets.{Limited, IsWithin}
use Rattle.pinpointing_specs.specs.Smallest.{IsHitAlone}
use Rattle.pinpointing_specs.proofs.Choices.{in_without, to_without}
use Rattle.hitting_set_tree.specs.InOrder.{HaveOneLimit, HasMore}
use Rattle.repair_list.specs.Alone.{HitsAlone, HitsBeside, IsRepairAdded}

-- ---- the other members

module _ (listed : List Limited) (s : Limited) (k : ℕ) (others : NumberSet) (e : others ≡ set.remove s.members k) where
  pub to_alone : HitsBeside listed others k → HitsAlone listed s k
  to_alone found = (
    found.0,
    found.1,
    found.2.0,
    λ m in_s in_j. elim (cases_eq m k) [
      | inl same ↦ same
      | inr ne ↦ absurd (found.2.1
          (m, in_j, subst (λ (t : NumberSet). set.contains t m ≡ true) (sym e) (to_without s.members k m ne in_s)))
    ],
  )

  pub from_alone : HitsAlone listed s k → HitsBeside listed others k
  from_alone found = (
    found.0,
    found.1,
    (
      found.2,
      λ meet.
          let both = in_without s.members k meet.0 (subst (λ (t : NumberSet). set.contains t meet.0 ≡ true) e meet.2) in
          both.0 (found.3 meet.0 both.1 meet.1),
    ),
  )

-- ---- each member up to p, and so each one up to the limit

abbrev pub up_to : List Limited → Limited → ℕ → Type 0
up_to listed s p = (k : ℕ) → k ≤ p → set.contains s.members k ≡ true → HitsAlone listed s k

pub up_to-none : (listed : List Limited) (s : Limited) → IsWithin s.limit s.members → up_to listed s 0
up_to-none listed s within k le member = absurd (omega (arith, (within k member).0))

pub up_to-more : (listed : List Limited) (s : Limited) (p : ℕ) → up_to listed s p
    → (set.contains s.members (p + 1) ≡ true → HitsAlone listed s (p + 1)) → up_to listed s (p + 1)
up_to-more listed s p each new k le member =
    elim (cases_eq k (p + 1)) [
      | inl e ↦
          subst (λ (n : ℕ). HitsAlone listed s n) (sym e)
          (new (subst (λ (n : ℕ). set.contains s.members n ≡ true) e member))
      | inr ne ↦ each k (omega arith) member
    ]

pub up_to-all : (listed : List Limited) (s : Limited) (p : ℕ) → IsWithin s.limit s.members → s.limit ≤ p
    → up_to listed s p → IsHitAlone listed s
up_to-all listed s p within le each k member = each k (omega (arith, (within k member).1)) member

-- ---- limits

module _ (xs ys : List Limited) (one : HaveOneLimit (xs ++ ys)) (y : Limited) (y_at : Contains ys y) where
  pub left_limits : (ws : List Limited) → ws ≡ xs → All (λ (s : Limited). s.limit ≡ y.limit) ws
  left_limits ws e k d lt =
      one (get_or ws k d) y
      (Contains-append_left xs ys (get_or ws k d)
      (subst (λ (vs : List Limited). Contains vs (get_or ws k d)) e (Contains-get_or ws k d lt)))
      (Contains-append_right xs ys y y_at)

  pub list_limits : (list : List Limited) → ((x : Limited) → Contains list x → Contains ys x)
      → All (λ (s : Limited). s.limit ≡ y.limit) list
  list_limits list from k d lt =
      one (get_or list k d) y
      (Contains-append_right xs ys (get_or list k d) (from (get_or list k d) (Contains-get_or list k d lt)))
      (Contains-append_right xs ys y y_at)

-- ---- one leaf more

pub put_alone : (listed list more : List Limited) (leaf : Limited) → HasMore list leaf more → IsHitAlone listed leaf
    → IsRepairAdded listed list leaf more
put_alone listed list more leaf has alone x = (
  λ h. elim ((has x).0 h) [ inl old ↦ inl old | inr e ↦ inr (e, alone) ],
  λ h. elim h [ inl old ↦ (has x).1 (inl old) | inr both ↦ (has x).1 (inr both.0) ],
)

pub left_out : (listed list : List Limited) (leaf : Limited) → ¬ IsHitAlone listed leaf
    → IsRepairAdded listed list leaf list
left_out listed list leaf shared x = (λ h. inl h, λ h. elim h [ inl old ↦ old | inr both ↦ absurd (shared both.1) ])

pub repairs_more : (justifications front longer old new : List Limited) (leaf : Limited) → longer ≡ front ++ leaf ∷ []
    → IsRepairAdded justifications old leaf new
    → ((r : Limited) → Contains old r ↔ (Contains front r × IsHitAlone justifications r)) → (r : Limited)
    → Contains new r ↔ (Contains longer r × IsHitAlone justifications r)
repairs_more justifications front longer old new leaf e added before r = (
  λ h. elim ((added r).0 h) [
    | inl had ↦
        let both = (before r).0 had in
        (subst (λ (xs : List Limited). Contains xs r) (sym e) (Contains-append_left front (leaf ∷ []) r both.0), both.1)
    | inr both ↦ (
      subst (λ (xs : List Limited). Contains xs r) (sym e)
          (subst (λ (x : Limited). Contains (front ++ leaf ∷ []) x) (sym both.0) (Contains-push front leaf)),
      subst (λ (x : Limited). IsHitAlone justifications x) (sym both.0) both.1,
    )
  ],
  λ h. elim (Contains-push_cases front leaf r (subst (λ (xs : List Limited). Contains xs r) e h.0)) [
    | inl in_front ↦ (added r).1 (inl ((before r).1 (in_front, h.1)))
    | inr same ↦ (added r).1 (inr (sym same, subst (λ (x : Limited). IsHitAlone justifications x) (sym same) h.1))
  ],
)

-- A list in the order of sets is told by its sets.
use Rattle.std.proofs.Common.{◌≡◌, ℕ, zero, suc, ◌+◌, ◌<◌, ◌≤◌, ◌∷◌, [], Bool, true, false, List, length, get_or, ◌⊎◌}
use Rattle.std.proofs.Common.{refl, sym, ap, ◌∙◌, subst, arith, inl, inr}
use Rattle.std.specs.List.{Contains}
use Rattle.std.specs.FinSet as set
use Rattle.std.specs.declared.cmp.Ordering.{Ordering}
use Rattle.std.specs.declared.cmp.Ordering.TheVariants.{Less, Equal, Greater}
use Rattle.std.proofs.lemmas.Bool.{true≢false, cases_eq}
use Rattle.std.proofs.lemmas.List.{get_or_default, ext_get_or}
use Rattle.lane_sieve.specs.Sets.{IsPart}
use Rattle.axiom_sets.specs.Sets.{Limited, list_cmp}
use Rattle.pinpointing_specs.specs.Order.{IsAscending}
use Rattle.set_questions.proofs.Ordered.{less_less, turned_back}
use Rattle.audit_check.specs.Transversals.{IsMinimalTransversal, AreTransversals}
use Rattle.audit_check.specs.Listed.{NoneContainsAnother}

is_less : Ordering → Bool
is_less Less = true
is_less Equal = false
is_less Greater = false

pub not_before_itself : (s : Limited) → list_cmp s s ≡ Less → ⊥
unfolding is_less
not_before_itself s h = true≢false (ap is_less (sym h ∙ turned_back s s h))

head_or_later : (x : Limited) (xs : List Limited) (s : Limited) → Contains (x ∷ xs) s → (x ≡ s) ⊎ Contains xs s
head_or_later x xs s (zero, lt, e) = inl e
head_or_later x xs s (suc i, lt, e) = inr (i, omega (arith, lt), e)

head_first : (x : Limited) (xs : List Limited) (s : Limited) → IsAscending (x ∷ xs) → Contains xs s
    → list_cmp x s ≡ Less
head_first x xs s ascending at =
    subst (λ (y : Limited). list_cmp x y ≡ Less) at.2 (ascending 0 (suc at.0) s (omega arith) (omega (arith, at.1)))

later_ascends : (x : Limited) (xs : List Limited) → IsAscending (x ∷ xs) → IsAscending xs
later_ascends x xs ascending i j d lt within = ascending (suc i) (suc j) d (omega (arith, lt)) (omega (arith, within))

same_heads : (x y : Limited) (xs ys : List Limited) → IsAscending (x ∷ xs) → IsAscending (y ∷ ys) → Contains (y ∷ ys) x
    → Contains (x ∷ xs) y → x ≡ y
same_heads x y xs ys up up' x_at y_at =
    elim (head_or_later y ys x x_at) [
      | inl e ↦ sym e
      | inr later ↦ elim (head_or_later x xs y y_at) [
        | inl e ↦ e
        | inr later' ↦
            absurd (not_before_itself x (less_less x y x (head_first x xs y up later') (head_first y ys x up' later)))
      ]
    ]

-- what the one tail has, the other one has
into_tail : (x y : Limited) (xs ys : List Limited) → x ≡ y → IsAscending (x ∷ xs)
    → ((s : Limited) → Contains (x ∷ xs) s → Contains (y ∷ ys) s) → (s : Limited) → Contains xs s → Contains ys s
into_tail x y xs ys e up to s at =
    elim (head_or_later y ys s (to s (suc at.0, omega (arith, at.1), at.2))) [
      | inl same ↦
          absurd (not_before_itself x
          (subst (λ (z : Limited). list_cmp x z ≡ Less) (sym (e ∙ same)) (head_first x xs s up at)))
      | inr later ↦ later
    ]

pub told_by_sets : (xs ys : List Limited) → IsAscending xs → IsAscending ys
    → ((s : Limited) → Contains xs s → Contains ys s) → ((s : Limited) → Contains ys s → Contains xs s) → xs ≡ ys
told_by_sets [] [] up up' to from = refl
told_by_sets [] (y ∷ ys) up up' to from = absurd (omega (arith, (from y (0, omega arith, refl)).1))
told_by_sets (x ∷ xs) [] up up' to from = absurd (omega (arith, (to x (0, omega arith, refl)).1))
told_by_sets (x ∷ xs) (y ∷ ys) up up' to from =
    let e = same_heads x y xs ys up up' (to x (0, omega arith, refl)) (from y (0, omega arith, refl)) in
    let rest =
    told_by_sets xs ys (later_ascends x xs up) (later_ascends y ys up') (into_tail x y xs ys e up to)
    (into_tail y x ys xs (sym e) up' from) in
    λ i. e i ∷ rest i

-- a list in the order of sets is no longer than one that has its sets
pub no_longer : (xs ys : List Limited) → IsAscending xs → IsAscending ys
    → ((s : Limited) → Contains xs s → Contains ys s) → length xs ≤ length ys
no_longer [] ys up up' to = omega arith
no_longer (x ∷ xs) [] up up' to = absurd (omega (arith, (to x (0, omega arith, refl)).1))
no_longer (x ∷ xs) (y ∷ ys) up up' to =
    elim (head_or_later y ys x (to x (0, omega arith, refl))) [
      | inl e ↦ omega
          (arith, no_longer xs ys (later_ascends x xs up) (later_ascends y ys up') (into_tail x y xs ys (sym e) up to))
      | inr later ↦
          let y_first = head_first y ys x up' later in
          let within : length (x ∷ xs) ≤ length ys =
          no_longer (x ∷ xs) ys up (later_ascends y ys up') (λ s at. elim (head_or_later y ys s (to s at)) [
            | inl same ↦ absurd (not_before_itself s (elim (head_or_later x xs s at) [
              | inl e ↦
                  subst (λ (z : Limited). list_cmp z s ≡ Less) same
                  (subst (λ (z : Limited). list_cmp y z ≡ Less) e y_first)
              | inr further ↦
                  subst (λ (z : Limited). list_cmp z s ≡ Less) same
                  (less_less y x s y_first (head_first x xs s up further))
            ]))
            | inr in_ys ↦ in_ys
          ]) in
          omega (arith, within)
    ]

-- ---- none contains another

pub none_contains : NoneContainsAnother
none_contains sets none s t s_at t_at part =
    elim (cases_eq s_at.0 t_at.0) [
      | inl e ↦ sym s_at.2 ∙ get_or_default sets s_at.0 s t s_at.1 ∙ ap (λ (n : ℕ). get_or sets n t) e ∙ t_at.2
      | inr ne ↦
          absurd (none t_at.0 t_at.1 (
            s_at.0,
            s_at.1,
            (
              ne,
              λ d k h. subst (λ (x : Limited). set.contains x.members k ≡ true)
                  (sym (get_or_default sets t_at.0 d t t_at.1 ∙ t_at.2))
                  (part k (subst (λ (x : Limited). set.contains x.members k ≡ true)
                  (get_or_default sets s_at.0 d s s_at.1 ∙ s_at.2) h)),
            ),
          ))
    ]

-- ---- two lists

pub same_by_places : (xs ys : List Limited) → length xs ≡ length ys
    → ((i : ℕ) (d : Limited) → i < length xs → get_or xs i d ≡ get_or ys i d) → xs ≡ ys
same_by_places xs ys e each =
    let d : Limited = record { limit = 0; members = set.empty } in
    ext_get_or d xs ys e (λ i lt. each i d lt)

module _ (limit : ℕ) (sets list found : List Limited) (up : IsAscending found) (up' : IsAscending list) where
  pub same_is : AreTransversals limit sets found → found ≡ list → AreTransversals limit sets list
  same_is are e = subst (λ (xs : List Limited). AreTransversals limit sets xs) e are

  pub is_same : AreTransversals limit sets found → AreTransversals limit sets list → found ≡ list
  is_same are are' =
      told_by_sets found list up up' (λ s at. (are' s).1 ((are s).0 at)) (λ s at. (are s).1 ((are' s).0 at))

  pub not_more : ((x : Limited) → Contains found x → (x.limit ≡ limit) × IsMinimalTransversal sets x)
      → AreTransversals limit sets list → length list < length found → ⊥
  not_more from are' more = absurd (omega (arith, more, no_longer found list up up' (λ s at. (are' s).1 (from s at))))

-- ---- sets at two places

module _ (sets : List Limited) (place other : ℕ) (one two : Limited) (lt : place < length sets)
    (lt' : other < length sets) (is : one ≡ get_or sets place one) (is' : two ≡ get_or sets other two) where
  pub part_at : IsPart two.members one.members → (d : Limited)
      → IsPart (get_or sets other d).members (get_or sets place d).members
  part_at part d k h =
      subst (λ (x : Limited). set.contains x.members k ≡ true) (is ∙ get_or_default sets place one d lt)
      (part k
      (subst (λ (x : Limited). set.contains x.members k ≡ true) (sym (is' ∙ get_or_default sets other two d lt')) h))

  pub at_part : ((d : Limited) → IsPart (get_or sets other d).members (get_or sets place d).members)
      → IsPart two.members one.members
  at_part part k h =
      subst (λ (x : Limited). set.contains x.members k ≡ true) (sym (is ∙ get_or_default sets place one two lt))
      (part two k (subst (λ (x : Limited). set.contains x.members k ≡ true) is' h))

pub each_more : (xs ys : List Limited) (p : ℕ) (x y : Limited) → p < length xs → p < length ys → x ≡ get_or xs p x
    → y ≡ get_or ys p y → x ≡ y → ((k : ℕ) (d : Limited) → k < p → get_or xs k d ≡ get_or ys k d)
    → (k : ℕ) (d : Limited) → k < p + 1 → get_or xs k d ≡ get_or ys k d
each_more xs ys p x y lt lt' is is' same each k d low =
    elim (cases_eq k p) [
      | inl e ↦
          ap (λ (n : ℕ). get_or xs n d) e ∙ sym (is ∙ get_or_default xs p x d lt) ∙ same ∙ is'
          ∙ get_or_default ys p y d lt' ∙ ap (λ (n : ℕ). get_or ys n d) (sym e)
      | inr ne ↦ each k d (omega arith)
    ]

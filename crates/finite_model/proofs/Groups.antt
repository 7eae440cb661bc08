-- Elements that are inserted in ascending order go last, and a list in order is its groups by a key.
use Rattle.std.proofs.Common.{◌≡◌, ℕ, ◌+◌, ◌<◌, ◌≤◌, true, false, cond, List, [], ◌∷◌, ◌++◌, length, refl, ap, sym}
use Rattle.std.proofs.Common.{subst, ◌∙◌, inl, inr, arith, append_assoc}
use Rattle.std.specs.Prelude.{nat_eq, nat_lt}
use Rattle.std.specs.List.{filter, list_all, AllByRecursion}
use Rattle.std.specs.List.Sorted.{IsStrictlySortedBy}
use Rattle.std.specs.BTreeSet.{insert_key}
use Rattle.std.specs.declared.cmp.Ordering.{Ordering}
use Rattle.std.specs.declared.cmp.Ordering.TheVariants.{Less, Greater}
use Rattle.std.specs.Ordering.{match_ordering}
use Rattle.std.proofs.lemmas.Bool.{and_parts, cases_eq}
use Rattle.std.proofs.lemmas.Bool.Decides.{nat_tests}
use Rattle.std.proofs.lemmas.List.{append-nil}

-- each of the others is inserted, in order
abbrev pub insert_each : {T : Type 0} → (T → T → Ordering) → List T → List T → List T
insert_each cmp ts [] = ts
insert_each cmp ts (u ∷ us) = insert_each cmp (insert_key cmp ts u) us

pub insert_each-append : {T : Type 0} (cmp : T → T → Ordering) (us vs ts : List T)
    → insert_each cmp ts (us ++ vs) ≡ insert_each cmp (insert_each cmp ts us) vs
insert_each-append cmp [] vs ts = refl
insert_each-append cmp (u ∷ us) vs ts = insert_each-append cmp us vs (insert_key cmp ts u)

module _ {T : Type 0} (cmp : T → T → Ordering) (turned : (a b : T) → cmp a b ≡ Less → cmp b a ≡ Greater) where
  goes_last : (ts : List T) (u : T) → AllByRecursion (λ t. cmp t u ≡ Less) ts → insert_key cmp ts u ≡ ts ++ u ∷ []
  goes_last [] u less = refl
  goes_last (t ∷ ts) u less =
      ap (λ o. match_ordering o (u ∷ t ∷ ts) (t ∷ ts) (t ∷ insert_key cmp ts u)) (turned t u less.0)
      ∙ ap (λ l. t ∷ l) (goes_last ts u less.1)

  middle : (P : T → Type 0) (ts us : List T) (u : T) → AllByRecursion P (ts ++ u ∷ us) → P u
  middle P [] us u all = all.0
  middle P (t ∷ ts) us u all = middle P ts us u all.1

  before : (ts us : List T) (u : T) → IsStrictlySortedBy cmp (ts ++ u ∷ us) → AllByRecursion (λ t. cmp t u ≡ Less) ts
  unfolding IsStrictlySortedBy
  before [] us u sorted = tt
  before (t ∷ ts) us u sorted = (middle (λ v. cmp t v ≡ Less) ts us u sorted.0, before ts us u sorted.1)

  pub inserted_each : (us ts : List T) → IsStrictlySortedBy cmp (ts ++ us) → insert_each cmp ts us ≡ ts ++ us
  inserted_each [] ts sorted = sym (append-nil ts)
  inserted_each (u ∷ us) ts sorted =
      let together : (ts ++ u ∷ []) ++ us ≡ ts ++ u ∷ us = append_assoc ts (u ∷ []) us in
      ap (λ l. insert_each cmp l us) (goes_last ts u (before ts us u sorted))
      ∙ inserted_each us (ts ++ u ∷ []) (subst (IsStrictlySortedBy cmp) (sym together) sorted) ∙ together

-- ---- groups

-- the elements of the key a, then those of the next, as many keys as there are names
abbrev pub groups : {T : Type 0} → (T → ℕ) → ℕ → List (List ℕ) → List T → List T
groups key a [] ts = []
groups key a (n ∷ ns) ts = filter (λ t. nat_eq (key t) a) ts ++ groups key (a + 1) ns ts

module _ {T : Type 0} (key : T → ℕ) where
  abbrev group : ℕ → List T → List T
  group a ts = filter (λ t. nat_eq (key t) a) ts

  later : (ns : List (List ℕ)) (a : ℕ) (t : T) (ts : List T) → key t < a → groups key a ns (t ∷ ts) ≡ groups key a ns ts
  later [] a t ts less = refl
  later (n ∷ ns) a t ts less =
      let other : nat_eq (key t) a ≡ false = grind (arith, nat_tests) in
      let rest = later ns (a + 1) t ts (omega arith) in
      ap (λ b. cond b (t ∷ group a ts) (group a ts) ++ groups key (a + 1) ns (t ∷ ts)) other
      ∙ ap (λ l. group a ts ++ l) rest

  none_of : (a : ℕ) (c : ℕ) (ts : List T) → a < c → AllByRecursion (λ u. c ≤ key u) ts → group a ts ≡ []
  none_of a c [] less up = refl
  none_of a c (t ∷ ts) less up =
      let above = up.0 in
      let other : nat_eq (key t) a ≡ false = grind (arith, nat_tests) in
      ap (λ b. cond b (t ∷ group a ts) (group a ts)) other ∙ none_of a c ts less up.1

  first_group : (ns : List (List ℕ)) (a : ℕ) (t : T) (ts : List T) → a ≤ key t → key t < a + length ns
      → AllByRecursion (λ u. key t ≤ key u) ts → groups key a ns (t ∷ ts) ≡ t ∷ groups key a ns ts
  first_group [] a t ts low high up = absurd (omega arith)
  first_group (n ∷ ns) a t ts low high up = elim (cases_eq (key t) a) [
    | inl same ↦
        let is : nat_eq (key t) a ≡ true = grind (arith, nat_tests) in
        ap (λ b. cond b (t ∷ group a ts) (group a ts) ++ groups key (a + 1) ns (t ∷ ts)) is
        ∙ ap (λ l. t ∷ (group a ts ++ l)) (later ns (a + 1) t ts (omega arith))
    | inr other ↦
        let is : nat_eq (key t) a ≡ false = grind (arith, nat_tests) in
        let none = none_of a (key t) ts (omega arith) up in
        ap (λ b. cond b (t ∷ group a ts) (group a ts) ++ groups key (a + 1) ns (t ∷ ts)) is
        ∙ ap (λ l. l ++ groups key (a + 1) ns (t ∷ ts)) none
        ∙ first_group ns (a + 1) t ts (omega arith) (omega arith) up
        ∙ ap (λ l. t ∷ (l ++ groups key (a + 1) ns ts)) (sym none)
  ]

  module _ (cmp : T → T → Ordering) (rises : (t u : T) → cmp t u ≡ Less → key t ≤ key u) where
    all_rise : (t : T) (ts : List T) → AllByRecursion (λ u. cmp t u ≡ Less) ts → AllByRecursion (λ u. key t ≤ key u) ts
    all_rise t [] less = tt
    all_rise t (u ∷ us) less = (rises t u less.0, all_rise t us less.1)

    none_at_all : (ns : List (List ℕ)) (a : ℕ) → groups key a ns [] ≡ []
    none_at_all [] a = refl
    none_at_all (n ∷ ns) a = none_at_all ns (a + 1)

    pub all_groups : (ns : List (List ℕ)) (ts : List T) → IsStrictlySortedBy cmp ts
        → list_all (λ t. nat_lt (key t) (length ns)) ts ≡ true → groups key 0 ns ts ≡ ts
    unfolding IsStrictlySortedBy
    all_groups ns [] sorted below = none_at_all ns 0
    all_groups ns (t ∷ ts) sorted below =
        let parts = and_parts (nat_lt (key t) (length ns)) (list_all (λ u. nat_lt (key u) (length ns)) ts) below in
        let first = parts.0 in
        let less : key t < 0 + length ns = grind (arith, nat_tests) in
        first_group ns 0 t ts (omega arith) less (all_rise t ts sorted.0)
        ∙ ap (λ l. t ∷ l) (all_groups ns ts sorted.1 parts.1)

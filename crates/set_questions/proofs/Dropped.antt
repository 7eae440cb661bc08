-- Sets that are dropped, and one that is put.
use Rattle.std.proofs.Common.{◌≡◌, ℕ, ◌+◌, ◌-◌, ◌<◌, ◌≤◌, ◌++◌, ◌∷◌, [], ◌⊎◌, List, length, get_or, sym, ap, ◌∙◌, subst}
use Rattle.std.proofs.Common.{arith, inl, inr, length-append}
use Rattle.std.specs.List.{Contains, All, remove}
use Rattle.std.proofs.lemmas.Bool.{cases_eq, cases_lt}
use Rattle.std.proofs.lemmas.List.{get_or_default, get_or_append_left, get_or_push}
use Rattle.std.proofs.lemmas.List.Edits.{length-remove, get_or-remove_below, get_or-remove_above}
use Rattle.std.proofs.lemmas.List.Elements.{Contains-append_left, Contains-get_or, Contains-push, Contains-push_cases}
use Rattle.lane_sieve.specs.Sets.{NumberSet}
use Rattle.pinpointing_specs.specs.Sets.{Limited}
use Rattle.set_questions.specs.declared.antichain.Kind.{Kind}
use Rattle.set_questions.specs.declared.antichain.Kind.TheVariants.{Minimal, Maximal}
use Rattle.set_questions.specs.Kept.{Outranks, AreApart, HasAbove, AreKept, KeepsWith, IsDropped}

outranks_self : (kind : Kind) (s : NumberSet) → Outranks kind s s
outranks_self Minimal s = λ k h. h
outranks_self Maximal s = λ k h. h

outranks_on : (kind : Kind) (s t u : NumberSet) → Outranks kind s t → Outranks kind t u → Outranks kind s u
outranks_on Minimal s t u f g = λ k h. g k (f k h)
outranks_on Maximal s t u f g = λ k h. f k (g k h)

-- ---- one set is removed

module _ (xs : List Limited) (q : ℕ) (lt : q < length xs) where
  shorter : length (remove xs q) + 1 ≡ length xs
  shorter = length-remove xs q lt

  -- where a place of the shorter list was
  place_before : (k : ℕ) (d : Limited) → k < length (remove xs q)
      → (j : ℕ) × (j < length xs) × (get_or (remove xs q) k d ≡ get_or xs j d)
      × ((k < q) × (j ≡ k) ⊎ (q ≤ k) × (j ≡ k + 1))
  place_before k d low =
      elim (cases_lt k q) [
        | inl below ↦ (k, omega (arith, shorter), get_or-remove_below xs q d k below lt, inl (below, omega arith))
        | inr above ↦ (k + 1, omega (arith, shorter), get_or-remove_above xs q d k above lt, inr (above, omega arith))
      ]

  removed_from : (x : Limited) → Contains (remove xs q) x → Contains xs x
  removed_from x at = let before = place_before at.0 x at.1 in (before.0, before.1, sym before.2 ∙ at.2)

  removed_kept : (x : Limited) → Contains xs x → (get_or xs q x ≡ x) ⊎ Contains (remove xs q) x
  removed_kept x at =
      elim (cases_eq at.0 q) [
        | inl e ↦ inl (ap (λ (n : ℕ). get_or xs n x) (sym e) ∙ at.2)
        | inr ne ↦ elim (cases_lt at.0 q) [
          | inl below ↦ inr (at.0, omega (arith, shorter), get_or-remove_below xs q x at.0 below lt ∙ at.2)
          | inr above ↦
              let e : (at.0 - 1) + 1 ≡ at.0 = omega arith in
              inr (
                at.0 - 1,
                omega (arith, shorter, at.1),
                get_or-remove_above xs q x (at.0 - 1) (omega arith) lt ∙ ap (λ (n : ℕ). get_or xs n x) e ∙ at.2,
              )
        ]
      ]

  removed_apart : (kind : Kind) → AreApart kind xs → AreApart kind (remove xs q)
  removed_apart kind apart i j d i_lt j_lt ne outranks =
      let i' = place_before i d i_lt in
      let j' = place_before j d j_lt in
      let differ : ¬ (i'.0 ≡ j'.0) = λ e. elim i'.3 [
        | inl a ↦ elim j'.3
            [ inl b ↦ ne (omega (arith, a.1, b.1, e)) | inr b ↦ absurd (omega (arith, a.0, a.1, b.0, b.1, e)) ]
        | inr a ↦ elim j'.3
            [ inl b ↦ absurd (omega (arith, a.0, a.1, b.0, b.1, e)) | inr b ↦ ne (omega (arith, a.1, b.1, e)) ]
      ] in
      apart i'.0 j'.0 d i'.1 j'.1 differ
      (subst (λ (y : Limited). Outranks kind (get_or xs i'.0 d).members y.members) j'.2
      (subst (λ (y : Limited). Outranks kind y.members (get_or (remove xs q) j d).members) i'.2 outranks))

  removed_each : (P : Limited → Type 0) → ((i : ℕ) (d : Limited) → i < length xs → P (get_or xs i d))
      → (i : ℕ) (d : Limited) → i < length (remove xs q) → P (get_or (remove xs q) i d)
  removed_each P each i d low = let before = place_before i d low in subst P (sym before.2) (each before.0 d before.1)

-- ---- a list from whose end up to a place the outranked sets were dropped

pub record IsSwept (kind : Kind) (s : Limited) (old now : List Limited) (place : ℕ) : Type 0 where
  pub within : place ≤ length now
  pub limits : (i : ℕ) (d : Limited) → i < length now → (get_or now i d).limit ≡ s.limit
  pub from : (x : Limited) → Contains now x → Contains old x
  pub kept : (x : Limited) → Contains old x → Outranks kind s.members x.members ⊎ Contains now x
  pub beside : (i : ℕ) (d : Limited) → place ≤ i → i < length now → ¬ Outranks kind s.members (get_or now i d).members
  pub apart : AreApart kind old → AreApart kind now

pub swept_none : (kind : Kind) (s : Limited) (old : List Limited) (place : ℕ) → place ≡ length old
    → All (λ (x : Limited). x.limit ≡ s.limit) old → IsSwept kind s old old place
swept_none kind s old place e limits =
    record {
      within = omega arith;
      limits = limits;
      from = λ x at. at;
      kept = λ x at. inr at;
      beside = λ i d le lt. absurd (omega arith);
      apart = λ h. h;
    }

module _ (kind : Kind) (s : Limited) (old now : List Limited) (place q : ℕ) (next : place ≡ q + 1)
    (swept : IsSwept kind s old now place) (read : Limited) (is : read ≡ get_or now q read) where
  q_lt : q < length now
  q_lt = omega (arith, swept.within)

  pub swept_removed : Outranks kind s.members read.members → IsSwept kind s old (remove now q) q
  swept_removed outranks =
      record {
        within = omega (arith, shorter now q q_lt, swept.within);
        limits = removed_each now q q_lt (λ (x : Limited). x.limit ≡ s.limit) swept.limits;
        from = λ x at. swept.from x (removed_from now q q_lt x at);
        kept = λ x at. elim (swept.kept x at) [
          | inl yes' ↦ inl yes'
          | inr in_now ↦ elim (removed_kept now q q_lt x in_now) [
            | inl e ↦
                inl (subst (λ (y : Limited). Outranks kind s.members y.members)
                (is ∙ get_or_default now q read x q_lt ∙ e) outranks)
            | inr left ↦ inr left
          ]
        ];
        beside = λ i d le lt out.
            swept.beside (i + 1) d (omega arith) (omega (arith, shorter now q q_lt))
            (subst (λ (y : Limited). Outranks kind s.members y.members) (get_or-remove_above now q d i le q_lt) out);
        apart = λ h. removed_apart now q q_lt kind (swept.apart h);
      }

  pub swept_passed : ¬ Outranks kind s.members read.members → IsSwept kind s old now q
  swept_passed stays =
      record {
        within = omega (arith, swept.within);
        limits = swept.limits;
        from = swept.from;
        kept = swept.kept;
        beside = λ i d le lt out. elim (cases_eq i q) [
          | inl e ↦
              stays (subst (λ (y : Limited). Outranks kind s.members y.members)
              (ap (λ (n : ℕ). get_or now n d) e ∙ get_or_default now q d read q_lt ∙ sym is) out)
          | inr ne ↦ swept.beside i d (omega arith) lt out
        ];
        apart = swept.apart;
      }

pub swept_all : (kind : Kind) (s : Limited) (old now : List Limited) (place : ℕ) → place ≡ 0
    → IsSwept kind s old now place → IsDropped kind s old now
swept_all kind s old now place e swept = record {
  from = swept.from;
  kept = swept.kept;
  beside = λ i d lt. swept.beside i d (omega arith) lt;
  apart = swept.apart;
}

-- ---- one set is put

pub limits_same : (s : Limited) (old new : List Limited) → new ≡ old → All (λ (x : Limited). x.limit ≡ s.limit) old
    → All (λ (x : Limited). x.limit ≡ s.limit) new
limits_same s old new e limits =
    subst (λ (xs : List Limited). All (λ (x : Limited). x.limit ≡ s.limit) xs) (sym e) limits

pub limits_new : (kind : Kind) (s : Limited) (old left new : List Limited)
    → All (λ (x : Limited). x.limit ≡ s.limit) old → IsDropped kind s old left → new ≡ left ++ s ∷ []
    → All (λ (x : Limited). x.limit ≡ s.limit) new
limits_new kind s old left new limits dropped e =
    limits_same s (left ++ s ∷ []) new e (λ k d lt. elim (cases_lt k (length left)) [
      | inl low ↦
          let x = get_or left k d in
          let at = dropped.from x (Contains-get_or left k d low) in
          ap (λ (y : Limited). y.limit) (get_or_append_left left (s ∷ []) d k low ∙ sym at.2) ∙ limits at.0 x at.1
      | inr high ↦ ap (λ (y : Limited). y.limit) (get_or_push left s d k (omega (arith, length-append left (s ∷ []))))
    ])

pub with_above : (kind : Kind) (s : Limited) (old : List Limited) → HasAbove kind old s → KeepsWith kind s old old
with_above kind s old above all kept =
    record {
      from = λ x at. Contains-append_left all (s ∷ []) x (kept.from x at);
      above =
          λ x at. elim (Contains-push_cases all s x at)
          [ inl before ↦ kept.above x before | inr e ↦ subst (λ (y : Limited). HasAbove kind old y) e above ];
      apart = kept.apart;
    }

pub with_new : (kind : Kind) (s : Limited) (old left new : List Limited) → ¬ HasAbove kind old s
    → IsDropped kind s old left → new ≡ left ++ s ∷ [] → KeepsWith kind s old new
with_new kind s old left new none dropped e all kept =
    let more = left ++ s ∷ [] in
    let long : length more ≡ length left + 1 = length-append left (s ∷ []) in
    subst (λ (xs : List Limited). AreKept kind (all ++ s ∷ []) xs) (sym e)
    (record {
      from = λ x at. elim (Contains-push_cases left s x at) [
        | inl had ↦ Contains-append_left all (s ∷ []) x (kept.from x (dropped.from x had))
        | inr same ↦ subst (λ (y : Limited). Contains (all ++ s ∷ []) y) same (Contains-push all s)
      ];
      above = λ x at. elim (Contains-push_cases all s x at) [
        | inl before ↦
            let t = kept.above x before in
            elim (dropped.kept t.0 t.1) [
              | inl out ↦ (s, Contains-push left s, outranks_on kind s.members t.0.members x.members out t.2)
              | inr stays ↦ (t.0, Contains-append_left left (s ∷ []) t.0 stays, t.2)
            ]
        | inr same ↦ (
          s,
          Contains-push left s,
          subst (λ (y : Limited). Outranks kind s.members y.members) same (outranks_self kind s.members),
        )
      ];
      apart = λ i j d i_lt j_lt ne out. elim (cases_lt i (length left)) [
        | inl i_low ↦ elim (cases_lt j (length left)) [
          | inl j_low ↦
              dropped.apart kept.apart i j d i_low j_low ne
              (subst (λ (y : Limited). Outranks kind (get_or left i d).members y.members)
              (get_or_append_left left (s ∷ []) d j j_low)
              (subst (λ (y : Limited). Outranks kind y.members (get_or more j d).members)
              (get_or_append_left left (s ∷ []) d i i_low) out))
          | inr j_high ↦
              none (
                get_or left i d,
                dropped.from (get_or left i d) (Contains-get_or left i d i_low),
                subst (λ (y : Limited). Outranks kind (get_or left i d).members y.members)
                    (get_or_push left s d j (omega (arith, long)))
                    (subst (λ (y : Limited). Outranks kind y.members (get_or more j d).members)
                    (get_or_append_left left (s ∷ []) d i i_low) out),
              )
        ]
        | inr i_high ↦ elim (cases_lt j (length left)) [
          | inl j_low ↦
              dropped.beside j d j_low
              (subst (λ (y : Limited). Outranks kind s.members y.members) (get_or_append_left left (s ∷ []) d j j_low)
              (subst (λ (y : Limited). Outranks kind y.members (get_or more j d).members)
              (get_or_push left s d i (omega (arith, long))) out))
          | inr j_high ↦ ne (omega (arith, long))
        ]
      ];
    })

-- Individuals that are put in ascending order go last, and those that are kept are put again.
use Rattle.std.proofs.Common.{◌≡◌, ℕ, zero, suc, ◌+◌, ◌<◌, Bool, true, false, ◌&&◌, cond, List, [], ◌∷◌, ◌++◌, Some}
use Rattle.std.proofs.Common.{refl, ap, sym, ◌∙◌, arith, append_assoc}
use Rattle.std.specs.Prelude.{nat_eq, nat_lt, unwrap_or, if◌then◌else◌}
use Rattle.std.specs.List.{filter, AllByRecursion}
use Rattle.std.specs.List.Sorted.{IsStrictlySortedBy}
use Rattle.std.specs.BTreeMap.{insert_entry, is_at}
use Rattle.std.specs.Map.{lookup, remove_entry, keys_of}
use Rattle.std.specs.declared.cmp.Ordering.TheVariants.{Less, Greater}
use Rattle.std.specs.Ordering.{nat_cmp, match_ordering}
use Rattle.std.proofs.lemmas.Bool.{and_parts}
use Rattle.std.proofs.lemmas.Bool.Decides.{nat_tests}
use Rattle.std.proofs.lemmas.List.{append-nil}
use Rattle.finite_model.specs.ModelLists.{ModelLists, individuals_below, element_at, placed}
use Rattle.finite_model.proofs.Groups.{groups}
use Rattle.finite_model.proofs.TextRead.{with_individuals}

-- ---- the last is put

abbrev KeysBelow : ℕ → List (ℕ × ℕ) → Type 0
KeysBelow a ps = AllByRecursion (λ (p : ℕ × ℕ). p.0 < a) ps

-- the individual with its element, unless that is 0
abbrev entry_of : ℕ → ℕ → List (ℕ × ℕ)
entry_of a zero = []
entry_of a (suc x) = (a, suc x) ∷ []

removed_none : (a : ℕ) (ps : List (ℕ × ℕ)) → KeysBelow a ps → remove_entry (is_at (nat_cmp a)) ps ≡ ps
removed_none a [] below = refl
removed_none a (p ∷ ps) below =
    let less = below.0 in
    let other : is_at (nat_cmp a) p.0 ≡ false = grind (arith, nat_tests) in
    ap (λ b. cond b ps (p ∷ remove_entry (is_at (nat_cmp a)) ps)) other ∙ ap (λ l. p ∷ l) (removed_none a ps below.1)

entered_last : (a x : ℕ) (ps : List (ℕ × ℕ)) → KeysBelow a ps → insert_entry nat_cmp ps a x ≡ ps ++ (a, x) ∷ []
entered_last a x [] below = refl
entered_last a x (p ∷ ps) below =
    let less = below.0 in
    let after : nat_cmp a p.0 ≡ Greater = grind (arith, nat_tests) in
    ap (λ o. match_ordering o ((a, x) ∷ p ∷ ps) ((p.0, x) ∷ ps) (p ∷ insert_entry nat_cmp ps a x)) after
    ∙ ap (λ l. p ∷ l) (entered_last a x ps below.1)

put_last : (a x : ℕ) (ps : List (ℕ × ℕ)) → KeysBelow a ps → placed a x ps ≡ ps ++ entry_of a x
put_last a zero ps below = removed_none a ps below ∙ sym (append-nil ps)
put_last a (suc x) ps below =
    let other : nat_eq (suc x) 0 ≡ false = grind (arith, nat_tests) in
    ap (λ b. if b then remove_entry (is_at (nat_cmp a)) ps else insert_entry nat_cmp ps a (suc x)) other
    ∙ entered_last a (suc x) ps below

-- ---- the entry of each individual

none_above : (a c : ℕ) (ps : List (ℕ × ℕ)) → nat_eq c a ≡ true → AllByRecursion (λ k. nat_cmp c k ≡ Less) (keys_of ps)
    → filter (λ p. nat_eq p.0 a) ps ≡ []
none_above a c [] same above = refl
none_above a c (p ∷ ps) same above =
    let less = above.0 in
    let other : nat_eq p.0 a ≡ false = grind (arith, nat_tests) in
    ap (λ b. cond b (p ∷ filter (λ q. nat_eq q.0 a) ps) (filter (λ q. nat_eq q.0 a) ps)) other
    ∙ none_above a c ps same above.1

entry_above : (a x : ℕ) → nat_lt 0 x ≡ true → entry_of a x ≡ (a, x) ∷ []
entry_above a zero some = let clash : false ≡ true = some in absurd (cc clash)
entry_above a (suc x) some = refl

one_entry : (size a : ℕ) (ps : List (ℕ × ℕ)) → IsStrictlySortedBy nat_cmp (keys_of ps)
    → individuals_below size ps ≡ true → entry_of a (element_at ps a) ≡ filter (λ p. nat_eq p.0 a) ps
unfolding IsStrictlySortedBy
one_entry size a [] sorted below = refl
one_entry size a (p ∷ ps) sorted below =
    let parts = and_parts (nat_lt 0 p.1 && nat_lt p.1 size) (individuals_below size ps) below in
    let some = (and_parts (nat_lt 0 p.1) (nat_lt p.1 size) parts.0).0 in
    let same : is_at (nat_cmp a) p.0 ≡ nat_eq p.0 a = grind (arith, nat_tests) in
    ap (λ b. entry_of a (unwrap_or (cond b (Some p.1) (lookup (is_at (nat_cmp a)) ps)) 0)) same
    ∙ by some (one_entry size a ps sorted.1 parts.1) (nat_eq p.0 a) refl
  where
    by : nat_lt 0 p.1 ≡ true → entry_of a (element_at ps a) ≡ filter (λ q. nat_eq q.0 a) ps → (b : Bool)
        → nat_eq p.0 a ≡ b
        → entry_of a (unwrap_or (cond b (Some p.1) (lookup (is_at (nat_cmp a)) ps)) 0)
        ≡ cond b (p ∷ filter (λ q. nat_eq q.0 a) ps) (filter (λ q. nat_eq q.0 a) ps)
    by some rest true h =
        let here : a ≡ p.0 = grind (arith, nat_tests) in
        entry_above a p.1 some ∙ ap (λ c. (c, p.1) ∷ []) here ∙ ap (λ l. p ∷ l) (sym (none_above a p.0 ps h sorted.0))
    by some rest false h = rest

-- ---- all of them

above_group : (a : ℕ) (ps : List (ℕ × ℕ)) → KeysBelow (a + 1) (filter (λ p. nat_eq p.0 a) ps)
above_group a [] = tt
above_group a (p ∷ ps) = by (nat_eq p.0 a) refl (above_group a ps)
  where
    by : (b : Bool) → nat_eq p.0 a ≡ b → KeysBelow (a + 1) (filter (λ q. nat_eq q.0 a) ps)
        → KeysBelow (a + 1) (cond b (p ∷ filter (λ q. nat_eq q.0 a) ps) (filter (λ q. nat_eq q.0 a) ps))
    by true h rest = (grind (arith, nat_tests), rest)
    by false h rest = rest

all_below_next : (a : ℕ) (ps qs : List (ℕ × ℕ)) → KeysBelow a ps → KeysBelow (a + 1) qs → KeysBelow (a + 1) (ps ++ qs)
all_below_next a [] qs below more = more
all_below_next a (p ∷ ps) qs below more = (omega (arith, below.0), all_below_next a ps qs below.1 more)

pub with_individuals_is : (size : ℕ) (ps : List (ℕ × ℕ)) → IsStrictlySortedBy nat_cmp (keys_of ps)
    → individuals_below size ps ≡ true → (ns : List (List ℕ)) (a : ℕ) (k : ModelLists) → KeysBelow a k.individuals
    → with_individuals a ns ps k ≡ record k { individuals = k.individuals ++ groups (λ p. p.0) a ns ps }
with_individuals_is size ps sorted inside [] a k below =
    ap (λ l. record k { individuals = l }) (sym (append-nil k.individuals))
with_individuals_is size ps sorted inside (n ∷ ns) a k below =
    let here = filter (λ p. nat_eq p.0 a) ps in
    ap (λ l. with_individuals (a + 1) ns ps (record k { individuals = l }))
    (put_last a (element_at ps a) k.individuals below
    ∙ ap (λ l. k.individuals ++ l) (one_entry size a ps sorted inside))
    ∙ with_individuals_is size ps sorted inside ns (a + 1) (record k { individuals = k.individuals ++ here })
    (all_below_next a k.individuals here below (above_group a ps))
    ∙ ap (λ l. record k { individuals = l }) (append_assoc k.individuals here (groups (λ p. p.0) (a + 1) ns ps))

-- in order by their keys
pub sorted_entries : (ps : List (ℕ × ℕ)) → IsStrictlySortedBy nat_cmp (keys_of ps)
    → IsStrictlySortedBy (λ p q. nat_cmp p.0 q.0) ps
unfolding IsStrictlySortedBy
sorted_entries [] sorted = tt
sorted_entries (p ∷ ps) sorted = (each ps sorted.0, sorted_entries ps sorted.1)
  where
    each : (qs : List (ℕ × ℕ)) → AllByRecursion (λ k. nat_cmp p.0 k ≡ Less) (keys_of qs)
        → AllByRecursion (λ (q : ℕ × ℕ). nat_cmp p.0 q.0 ≡ Less) qs
    each [] less = tt
    each (q ∷ qs) less = (less.0, each qs less.1)

-- A log with one entry more, whatever it asks.
use Rattle.std.proofs.Common.{◌≡◌, ◌⊎◌, ℕ, zero, suc, ◌+◌, ◌<◌, ◌≤◌, ◌||◌, Bool, true, false, List, [], ◌∷◌, ◌++◌}
use Rattle.std.proofs.Common.{length, length-append, take, Some, refl, sym, ap, subst, ◌∙◌, arith, inl, inr}
use Rattle.std.specs.Prelude.{slice_get, slice_index_or, Contains}
use Rattle.std.specs.List.{list_any}
use Rattle.std.proofs.lemmas.Bool.{or_parts, or_cases, or_from}
use Rattle.std.proofs.lemmas.List.{take-append-le, take_all}
use Rattle.std.proofs.lemmas.List.Elements.{All-push}
use Rattle.axiom_sets.specs.Sets.{Limited}
use Rattle.shq_terms.specs.Listed.{Listed}
use Rattle.shq_terms.specs.declared.axioms.Query.{Query}
use Rattle.shq_oracle.specs.Entry.{Entry}
use Rattle.shq_oracle.specs.Entry.TheVariants.{Test, Node}
use Rattle.shq_oracle.specs.TestEnd.{TestEnd}
use Rattle.shq_oracle.specs.Entries.{spent_of, is_spent, ended_spent, IsAnswered}
use Rattle.shq_oracle.specs.HonestLog.{IsHonestEntry, IsHonestWithin, AsksNothingTwice}

-- ---- what stands at a place

-- before the last place it is what was there, and there it is what was put
pub at_push : {X : Type 0} (xs : List X) (t e : X) (place : ℕ) → slice_get (xs ++ t ∷ []) place ≡ Some e
    → ((slice_get xs place ≡ Some e) × (place < length xs)) ⊎ ((place ≡ length xs) × (t ≡ e))
at_push [] t e zero h = inr (refl, cc)
at_push [] t e (suc place) h = absurd (cc h)
at_push (x ∷ xs) t e zero h = inl (h, omega arith)
at_push (x ∷ xs) t e (suc place) h = elim (at_push xs t e place h) [
  | inl old ↦ inl (old.0, omega (arith, old.1))
  | inr new ↦ inr (omega (arith, new.0), new.1)
]

pub at_contains : {X : Type 0} (xs : List X) (e : X) (place : ℕ) → slice_get xs place ≡ Some e → Contains xs e
at_contains [] e place h = absurd (cc h)
at_contains (x ∷ xs) e zero h = let k : x ≡ e = cc in (0, omega arith, k)
at_contains (x ∷ xs) e (suc place) h = let r = at_contains xs e place h in (suc r.0, omega (arith, r.1), r.2)

pub at_index : (xs : List Entry) (k : ℕ) (e : Entry) → k < length xs → slice_index_or xs k e ≡ e
    → slice_get xs k ≡ Some e
at_index [] k e lt is = absurd (omega (arith, lt))
at_index (z ∷ zs) zero e lt is = ap Some is
at_index (z ∷ zs) (suc k) e lt is = at_index zs k e (omega (arith, lt)) is

pub any-push : {X : Type 0} (p : X → Bool) (xs : List X) (t : X) → list_any p (xs ++ t ∷ []) ≡ (list_any p xs || p t)
any-push p [] t = or_false (p t)
  where
    or_false : (a : Bool) → (a || false) ≡ a
    or_false true = refl
    or_false false = refl
any-push p (x ∷ xs) t = ap (λ (b : Bool). p x || b) (any-push p xs t) ∙ regroup (p x) (list_any p xs) (p t)
  where
    regroup : (a b c : Bool) → (a || (b || c)) ≡ ((a || b) || c)
    regroup true b c = refl
    regroup false b c = refl

pub none_of : {X : Type 0} (p : X → Bool) (xs : List X) (e : X) (place : ℕ) → list_any p xs ≡ false
    → slice_get xs place ≡ Some e → p e ≡ false
none_of p [] e place lacks h = absurd (cc h)
none_of p (x ∷ xs) e zero lacks h = let k : x ≡ e = cc in ap p (sym k) ∙ (or_parts (p x) (list_any p xs) lacks).0
none_of p (x ∷ xs) e (suc place) lacks h = none_of p xs e place (or_parts (p x) (list_any p xs) lacks).1 h

-- a test that did not spend the budget leaves the log as one that goes on
pub goes_on : (log : List Entry) (e : Entry) → list_any is_spent log ≡ false → is_spent e ≡ false
    → list_any is_spent (log ++ e ∷ []) ≡ false
goes_on log e unspent h = any-push is_spent log e ∙ or_from (list_any is_spent log) (is_spent e) unspent h

-- ---- one honest test more

module _ (log : List Entry) (s : Limited) (q : Query) (steps : ℕ) (e : TestEnd) where
  abbrev added : Entry
  added = Test s q steps e

  query_of : (t : Limited) (p : Query) (k : ℕ) (g : TestEnd) → added ≡ Test t p k g → q ≡ p
  query_of t p k g h = cc

  -- it is the query's first where no test before was of it
  pub once_more : AsksNothingTwice log
      → ((place : ℕ) (t : Limited) (p : Query) (k : ℕ) (g : TestEnd) → slice_get log place ≡ Some (Test t p k g) → p ≡ q
      → ⊥)
      → AsksNothingTwice (log ++ added ∷ [])
  once_more once untested i j t u p r k l f g lt at at' same = elim (at_push log added (Test u r l g) j at') [
    | inl before ↦ elim (at_push log added (Test t p k f) i at) [
      | inl earlier ↦ once i j t u p r k l f g lt earlier.0 before.0 same
      | inr late ↦ absurd (omega (arith, lt, late.0, before.1))
    ]
    | inr new ↦ elim (at_push log added (Test t p k f) i at) [
      | inl earlier ↦ untested i t p k f earlier.0 (same ∙ sym (query_of u r l g new.1))
      | inr late ↦ absurd (omega (arith, lt, late.0, new.0))
    ]
  ]

  pub before_place : (n : ℕ) → n ≤ length log → take n (log ++ added ∷ []) ≡ take n log
  before_place n less = rw take-append-le refl

  pub all_before : (n : ℕ) → n ≡ length log → take n (log ++ added ∷ []) ≡ log
  all_before n h = before_place n (omega (arith, h)) ∙ take_all n log (omega (arith, h))

  -- what is asked at each place is new there, where the last query is new
  pub new_more : (P : List Entry → Query → Type 0)
      → ((place : ℕ) (t : Limited) (p : Query) (k : ℕ) (g : TestEnd) → slice_get log place ≡ Some (Test t p k g)
      → P (take place log) p → ⊥)
      → (P log q → ⊥)
      → (place : ℕ) (t : Limited) (p : Query) (k : ℕ) (g : TestEnd)
      → slice_get (log ++ added ∷ []) place ≡ Some (Test t p k g) → P (take place (log ++ added ∷ [])) p → ⊥
  new_more P old new place t p k g at answered = elim (at_push log added (Test t p k g) place at) [
    | inl before ↦ let less : place ≤ length log = omega (arith, before.1) in
        old place t p k g before.0 (subst (λ (es : List Entry). P es p) (before_place place less) answered)
    | inr late ↦ let same : q ≡ p = query_of t p k g late.1 in
        new (subst (P log) (sym same) (subst (λ (es : List Entry). P es p) (all_before place late.0) answered))
  ]

  is_last : list_any is_spent log ≡ false → (place : ℕ) (f : Entry) → slice_get (log ++ added ∷ []) place ≡ Some f
      → is_spent f ≡ true → place + 1 ≡ length (log ++ added ∷ [])
  is_last unspent place f at spent = elim (at_push log added f place at) [
    | inl before ↦ let k : is_spent f ≡ false = none_of is_spent log f place unspent before.0 in absurd (cc (k, spent))
    | inr new ↦ omega (arith, new.0, length-append log (added ∷ []))
  ]

  -- the log stays within its budget and honest
  pub within_more : (o : Listed) (budget : ℕ) → list_any is_spent log ≡ false → IsHonestWithin o budget log
      → IsHonestEntry o added → spent_of (log ++ added ∷ []) ≤ budget
      → (ended_spent e ≡ true → spent_of (log ++ added ∷ []) ≡ budget) → IsHonestWithin o budget (log ++ added ∷ [])
  within_more o budget unspent kept so within all_spent = record {
    within = within;
    honest = All-push (IsHonestEntry o) log added kept.honest so;
    ends = record {
      is_last = is_last unspent;
      is_whole =
          λ some. elim (or_cases (list_any is_spent log) (ended_spent e) (sym (any-push is_spent log added) ∙ some)) [
            | inl old ↦ absurd (cc (old, unspent))
            | inr new ↦ all_spent new
          ];
    };
  }

-- the log does not answer a query of which no test was
pub unanswered : (log : List Entry) (asked : Limited) (q : Query)
    → ((place : ℕ) (t : Limited) (p : Query) (k : ℕ) (g : TestEnd) → slice_get log place ≡ Some (Test t p k g) → p ≡ q
    → ⊥)
    → IsAnswered log asked q → ⊥
unanswered log asked q untested (Test t p k g, there, answers) = at_place there answers.0
  where
    at_place : Contains log (Test t p k g) → p ≡ q → ⊥
    at_place (place, lt, is) = untested place t p k g (at_index log place (Test t p k g) lt is)
unanswered log asked q untested (Node t, there, answers) = answers

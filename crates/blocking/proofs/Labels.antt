-- What lists with the same numbers have in common, and the prints of labels.
use Rattle.std.proofs.Common.{◌≡◌, ℕ, ◌+◌, ◌-◌, ◌/◌, ◌%◌, ◌^◌, ◌<◌, zero, suc, get_or, take, length, ◌||◌, Bool, true}
use Rattle.std.proofs.Common.{false, eqb, List, [], ◌∷◌, ◌++◌, refl, ap, sym, ◌∙◌, inl, inr, eq-eqb, arith}
use Rattle.std.specs.List.{list_any, list_all}
use Rattle.std.specs.FinSet as set
use Rattle.std.proofs.lemmas.Bool.{or_cases, and_parts, eqb-true, or_right}
use Rattle.lane_sieve.specs.Sets.{NumberSet, number_set}
use Rattle.std.specs.Int.{bit_at}
use Rattle.std.proofs.lemmas.List.{take_more}
use Rattle.std.proofs.lemmas.Nat.Bits.{bit_at-zero, bit_at_ones}
use Rattle.lane_sieve.proofs.Bits.{has_bit-is, contains-number_set, contains_insert}
use Rattle.calculus_specs.proofs.Joined.{any-snoc}
use Rattle.std.proofs.Math.Bool.{or_comm}
use Rattle.calculus_specs.proofs.Bools.{same_truth}
use Rattle.calculus_specs.proofs.State.{eqb-comm}
use Rattle.calculus_specs.specs.declared.facts.Fact.{Fact}
use Rattle.calculus_specs.specs.State.{label}
use Rattle.calculus_specs.specs.Listed.{IsLabel}
use Rattle.calculus_specs.proofs.State.{any-label}
use Rattle.blocking.specs.Followed.{IsPrintOf, IsPrintWithin}

abbrev pub is_in : ℕ → List ℕ → Bool
is_in c cs = list_any (λ d. eqb d c) cs

-- a test of all, and of one of them
pub all_at : (p : ℕ → Bool) (c : ℕ) (cs : List ℕ) → list_all p cs ≡ true → is_in c cs ≡ true → p c ≡ true
all_at p c [] h m = cc
all_at p c (d ∷ cs) h m =
    let t = and_parts (p d) (list_all p cs) h in
    elim (or_cases (eqb d c) (is_in c cs) m)
    [ inl here ↦ ap p (sym (eqb-true d c here)) ∙ t.0 | inr later ↦ all_at p c cs t.1 later ]

pub all_from : (p : ℕ → Bool) (cs : List ℕ) → ((c : ℕ) → is_in c cs ≡ true → p c ≡ true) → list_all p cs ≡ true
all_from p [] h = refl
all_from p (d ∷ cs) h =
    rw (h d (rw (eq-eqb d d refl) refl)) (all_from p cs (λ c m. h c (or_right (eqb d c) (is_in c cs) m)))

-- ---- lists with the same numbers

module _ (cs ds : List ℕ) (same : (c : ℕ) → is_in c cs ≡ is_in c ds) where
  pub same_all : (p : ℕ → Bool) → list_all p cs ≡ list_all p ds
  same_all p =
      same_truth (list_all p cs) (list_all p ds) (λ h. all_from p ds (λ c m. all_at p c cs h (same c ∙ m)))
      (λ h. all_from p cs (λ c m. all_at p c ds h (sym (same c) ∙ m)))

pub any_at : (q : ℕ → Bool) (c : ℕ) (cs : List ℕ) → is_in c cs ≡ true → q c ≡ true → list_any q cs ≡ true
any_at q c [] m h = cc
any_at q c (d ∷ cs) m h = elim (or_cases (eqb d c) (is_in c cs) m) [
  | inl here ↦ ap (λ (b : Bool). b || list_any q cs) (ap q (eqb-true d c here) ∙ h)
  | inr later ↦ or_right (q d) (list_any q cs) (any_at q c cs later h)
]

-- a number that passes, where one does
any_some : (q : ℕ → Bool) (cs : List ℕ) → list_any q cs ≡ true → (c : ℕ) × (is_in c cs ≡ true) × (q c ≡ true)
any_some q [] h = cc
any_some q (d ∷ cs) h = elim (or_cases (q d) (list_any q cs) h) [
  | inl here ↦ (d, rw (eq-eqb d d refl) refl, here)
  | inr later ↦ let more = any_some q cs later in (more.0, or_right (eqb d more.0) (is_in more.0 cs) more.1, more.2)
]

module _ (cs ds : List ℕ) (same : (c : ℕ) → is_in c cs ≡ is_in c ds) where
  pub same_any : (q : ℕ → Bool) → list_any q cs ≡ list_any q ds
  same_any q =
      same_truth (list_any q cs) (list_any q ds)
      (λ h. let one = any_some q cs h in any_at q one.0 ds (sym (same one.0) ∙ one.1) one.2)
      (λ h. let one = any_some q ds h in any_at q one.0 cs (same one.0 ∙ one.1) one.2)

any_front : (q : ℕ → Bool) (n : ℕ) (cs : List ℕ) → list_any q (take n cs) ≡ true → list_any q cs ≡ true
any_front q zero cs h = cc
any_front q (suc n) [] h = h
any_front q (suc n) (d ∷ cs) h = elim (or_cases (q d) (list_any q (take n cs)) h) [
  | inl here ↦ ap (λ (b : Bool). b || list_any q cs) here
  | inr later ↦ or_right (q d) (list_any q cs) (any_front q n cs later)
]

-- ---- labels

module _ (fs : List (Fact ℕ)) (x : ℕ) (cs : List ℕ) (is : IsLabel fs x cs) where
  same_label : (c : ℕ) → is_in c cs ≡ is_in c (label fs x)
  same_label c = is c ∙ sym (any-label fs x c)

  pub all_of_label : (p : ℕ → Bool) → list_all p cs ≡ list_all p (label fs x)
  all_of_label p = same_all cs (label fs x) same_label p

  -- the print of the first of them shows nothing else
  pub front_within : (n : ℕ) (print : List ℕ) → IsPrintOf (take n cs) print → IsPrintWithin (label fs x) print
  front_within n print shows k h =
      let q : ℕ → Bool = λ c. eqb (c % 256) k in
      sym (same_any cs (label fs x) same_label q) ∙ any_front q n cs (sym (shows k) ∙ h)

-- each of some concepts has its bit in their print
pub shown : (cs print : List ℕ) → IsPrintOf cs print → (c : ℕ) → is_in c cs ≡ true
    → set.contains (number_set print) (c % 256) ≡ true
shown cs print shows c h =
    shows (c % 256) ∙ any_at (λ d. eqb (d % 256) (c % 256)) c cs h (eq-eqb (c % 256) (c % 256) refl)

-- where a list's concepts are all shown by another print, their own print is part of it
pub all_shown : (p : ℕ → Bool) (cs print other : List ℕ) → IsPrintWithin cs print → list_all p cs ≡ true
    → ((c : ℕ) → p c ≡ true → set.contains (number_set other) (c % 256) ≡ true)
    → (k : ℕ) → set.contains (number_set print) k ≡ true → set.contains (number_set other) k ≡ true
all_shown p cs print other shows all each k h =
    let one = any_some (λ c. eqb (c % 256) k) cs (shows k h) in
    ap (set.contains (number_set other)) (sym (eqb-true (one.0 % 256) k one.2))
    ∙ each one.0 (all_at p one.0 cs all one.1)

-- ---- how a print is made

abbrev pub empty_print : List ℕ
empty_print = 0 ∷ 0 ∷ 0 ∷ 0 ∷ []

zero_at : (i : ℕ) → get_or empty_print i 0 ≡ 0
zero_at zero = refl
zero_at (suc zero) = refl
zero_at (suc (suc zero)) = refl
zero_at (suc (suc (suc zero))) = refl
zero_at (suc (suc (suc (suc i)))) = refl

pub none_shown : (k : ℕ) → set.contains (number_set empty_print) k ≡ false
none_shown k =
    contains-number_set empty_print k ∙ has_bit-is empty_print k
    ∙ ap (λ (w : ℕ). eqb (bit_at w (k % 64)) 1) (zero_at (k / 64)) ∙ ap (λ (b : ℕ). eqb b 1) (bit_at-zero (k % 64))

-- a print that shows everything
abbrev pub full_print : List ℕ
full_print = (2 ^ 64 - 1) ∷ (2 ^ 64 - 1) ∷ (2 ^ 64 - 1) ∷ (2 ^ 64 - 1) ∷ []

full_at : (i : ℕ) → i < 4 → get_or full_print i 0 ≡ 2 ^ 64 - 1
full_at zero h = refl
full_at (suc zero) h = refl
full_at (suc (suc zero)) h = refl
full_at (suc (suc (suc zero))) h = refl
full_at (suc (suc (suc (suc i)))) h = absurd (omega arith)

pub each_shown : (k : ℕ) → k < 256 → set.contains (number_set full_print) k ≡ true
each_shown k h =
    contains-number_set full_print k ∙ has_bit-is full_print k
    ∙ ap (λ (w : ℕ). eqb (bit_at w (k % 64)) 1) (full_at (k / 64) (omega arith))
    ∙ ap (λ (b : ℕ). eqb b 1) (bit_at_ones 64 (k % 64) (omega arith))

pub one_shown : (before now cs : List ℕ) (i c : ℕ) → i < length cs → get_or cs i 0 ≡ c
    → number_set now ≡ set.insert (number_set before) (c % 256) → IsPrintOf (take i cs) before
    → IsPrintOf (take (i + 1) cs) now
one_shown before now cs i c lt is put shows k =
    let q = λ (d : ℕ). eqb (d % 256) k in
    ap (λ (s : NumberSet). set.contains s k) put ∙ contains_insert (number_set before) (c % 256) k
    ∙ ap (λ (b : Bool). eqb k (c % 256) || b) (shows k)
    ∙ ap (λ (b : Bool). b || list_any q (take i cs)) (eqb-comm k (c % 256))
    ∙ or_comm (eqb (c % 256) k) (list_any q (take i cs))
    ∙ sym (ap (list_any q) (take_more cs i 0 lt ∙ ap (λ (d : ℕ). take i cs ++ d ∷ []) is) ∙ any-snoc q (take i cs) c)

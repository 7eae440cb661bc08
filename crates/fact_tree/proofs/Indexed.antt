-- The bits of long labels.
use Rattle.std.proofs.Common.{◌≡◌, ℕ, ◌+◌, ◌-◌, ◌/◌, ◌<◌, ◌≤◌, ◌&&◌, ◌||◌, not, eqb, Bool, true, false, List, [], ◌∷◌}
use Rattle.std.proofs.Common.{◌++◌, length, take, get_or, ap, sym, subst, ◌∙◌, arith, inl, inr, refl, eq-eqb}
use Rattle.std.specs.Prelude.{◌==◌, replicate}
use Rattle.std.specs.List.{list_any}
use Rattle.std.specs.FinSet as set
use Rattle.std.proofs.Math.ListN.{get_or-append}
use Rattle.std.proofs.Math.Seq.{get_or-append_right, get_or-append_seam, take-append_seam}
use Rattle.std.proofs.lemmas.Bool.{cases_eq, cases_lt, ne_eqb, true≢false}
use Rattle.std.proofs.lemmas.List.{get_or-replicate, get_or_past, get_or-take, take_more, take_all, length-replicate}
use Rattle.std.proofs.lemmas.List.{take-append-le, length-append, length-take, take-take}
use Rattle.std.proofs.Math.Bool.{or_comm}
use Rattle.lane_sieve.specs.Sets.{has_bit, number_set}
use Rattle.lane_sieve.proofs.Bits.{has_bit-is, contains-number_set, number_set_same, contains_insert, contains_remove}
use Rattle.lane_sieve.proofs.Next.{contains-past}
use Rattle.calculus_specs.proofs.State.{eqb-comm}
use Rattle.fact_tree.specs.Short.{HaveBits, AreIndexed, EachIsNew}
use Rattle.fact_tree.proofs.Content.{any-snoc}

-- ---- words of no bits behind others

zeros : (n i : ℕ) → ◌≡◌ {A = ℕ} (get_or (replicate n 0) i 0) 0
zeros n i = elim (cases_lt i n) [
  | inl lt ↦ get_or-replicate n i 0 0 lt
  | inr ge ↦ get_or_past (replicate n 0) i 0 (omega (arith, ge, length-replicate {A = ℕ} n 0))
]

word_with_zeros : (words : List ℕ) (n i : ℕ) → get_or (words ++ replicate n 0) i 0 ≡ get_or words i 0
word_with_zeros words n i = elim (cases_lt i (length words)) [
  | inl lt ↦ get_or-append words (replicate n 0) 0 i lt
  | inr ge ↦
      get_or-append_right words (replicate n 0) i 0 ge ∙ zeros n (i - length words) ∙ sym (get_or_past words i 0 ge)
]

set_with_zeros : (words : List ℕ) (n : ℕ) → number_set (words ++ replicate n 0) ≡ number_set words
set_with_zeros words n =
    number_set_same (words ++ replicate n 0) (number_set words)
    (λ k. bits_with_zeros k ∙ sym (contains-number_set words k))
  where
    bits_with_zeros : (k : ℕ) → has_bit (words ++ replicate n 0) k ≡ has_bit words k
    bits_with_zeros k =
        rw (has_bit-is (words ++ replicate n 0) k, has_bit-is words k, word_with_zeros words n (k / 64)) refl

pub grown : (words : List ℕ) (m n : ℕ) (more : List ℕ) → length words ≤ m → more ≡ take m words ++ replicate n 0
    → number_set more ≡ number_set words
grown words m n more le is =
    ap number_set (is ∙ ap (λ (ws : List ℕ). ws ++ replicate n 0) (take_all m words le)) ∙ set_with_zeros words n

-- ---- one concept more

pub bits_of_none : (bits : List ℕ) → bits ≡ [] → HaveBits [] bits
bits_of_none bits none =
    record { each = λ c. ap (λ (ws : List ℕ). set.contains (number_set ws) c) none ∙ contains-past [] c (omega arith) }

pub more_bits : (cs bits bits' : List ℕ) (c : ℕ) → number_set bits' ≡ set.insert (number_set bits) c → HaveBits cs bits
    → HaveBits (cs ++ c ∷ []) bits'
more_bits cs bits bits' c is h = record {
  each = λ k.
      ap (λ s. set.contains s k) is ∙ contains_insert (number_set bits) c k ∙ ap (λ (b : Bool). eqb k c || b) (h.each k)
      ∙ or_comm (eqb k c) (list_any (λ d. d == k) cs) ∙ ap (λ (b : Bool). list_any (λ d. d == k) cs || b) (eqb-comm k c)
      ∙ sym (any-snoc (λ d. d == k) cs c);
}

pub more_indexed : (cs bits bits' : List ℕ) (c : ℕ) → number_set bits' ≡ set.insert (number_set bits) c
    → HaveBits cs bits → AreIndexed (cs ++ c ∷ []) bits'
more_indexed cs bits bits' c is h = record { have = λ lt. more_bits cs bits bits' c is h }

pub not_indexed : (cs bits : List ℕ) → bits ≡ [] → AreIndexed cs bits
not_indexed cs bits none = record { have = λ lt. absurd (omega (arith, lt, ap length none)) }

pub new_behind : (cs cs' : List ℕ) (c : ℕ) → cs' ≡ cs ++ c ∷ [] → list_any (λ d. d == c) cs ≡ false → EachIsNew cs
    → EachIsNew cs'
new_behind cs cs' c is new h = record {
  each =
      λ i lt. subst (λ (xs : List ℕ). list_any (λ d. d == get_or xs i 0) (take i xs) ≡ false) (sym is)
      (at i (omega (arith, lt, ap length is, length-append cs (c ∷ []))));
}
  where
    at : (i : ℕ) → i < length cs + 1 → list_any (λ d. d == get_or (cs ++ c ∷ []) i 0) (take i (cs ++ c ∷ [])) ≡ false
    at i lt = elim (cases_lt i (length cs)) [
      | inl before ↦
          rw (get_or-append cs (c ∷ []) 0 i before, take-append-le i cs (c ∷ []) (omega (arith, before)))
          (h.each i before)
      | inr behind ↦
          let e : i ≡ length cs = omega (arith, lt, behind) in
          rw (e, get_or-append_seam cs c [] 0, take-append_seam cs (c ∷ [])) new
    ]

-- ---- fewer concepts

pub first_new : (n : ℕ) (cs : List ℕ) → EachIsNew cs → EachIsNew (take n cs)
first_new n cs h = record {
  each = λ i lt.
      let within : i < n = omega (arith, lt, length-take n cs) in
      let inside : i < length cs = omega (arith, lt, length-take n cs) in
      rw (get_or-take n cs i 0 within, take-take i n cs (omega (arith, within))) (h.each i inside);
}

pub less_indexed : (cs bits bits' : List ℕ) (i : ℕ) → i < length cs → EachIsNew cs
    → number_set bits' ≡ set.remove (number_set bits) (get_or cs i 0) → length bits' ≡ length bits
    → AreIndexed (take (i + 1) cs) bits → AreIndexed (take i cs) bits'
less_indexed cs bits bits' i lt new is same h = record {
  have = λ some.
      let x = get_or cs i 0 in
      record {
        each = λ k.
            ap (λ s. set.contains s k) is ∙ contains_remove (number_set bits) x k
            ∙ ap (λ (b : Bool). not (eqb k x) && b)
            ((h.have (omega (arith, some, same))).each k ∙ ap (list_any (λ d. d == k)) (take_more cs i 0 lt)
            ∙ any-snoc (λ d. d == k) (take i cs) x)
            ∙ last_taken k x (list_any (λ d. d == k) (take i cs))
            (λ e. subst (λ (n : ℕ). list_any (λ d. d == n) (take i cs) ≡ false) (sym e) (new.each i lt));
      };
}
  where
    or_none : (b : Bool) → (true && (b || false)) ≡ b
    or_none true = refl
    or_none false = refl

    last_taken : (k x : ℕ) (b : Bool) → (k ≡ x → b ≡ false) → (not (eqb k x) && (b || x == k)) ≡ b
    last_taken k x b none = elim (cases_eq k x) [
      | inl e ↦ rw (eq-eqb k x e) (sym (none e))
      | inr other ↦ rw (eqb-comm x k, ne_eqb k x other) (or_none b)
    ]

pub nothing_indexed : (cs bits : List ℕ) (i : ℕ) → i < length cs → length bits ≤ get_or cs i 0 / 64
    → AreIndexed (take (i + 1) cs) bits → AreIndexed (take i cs) bits
nothing_indexed cs bits i lt past h = record {
  have = λ some.
      let x = get_or cs i 0 in
      let there : list_any (λ d. d == x) (take (i + 1) cs) ≡ true =
      ap (list_any (λ d. d == x)) (take_more cs i 0 lt) ∙ any-snoc (λ d. d == x) (take i cs) x
      ∙ last (list_any (λ d. d == x) (take i cs)) (eq-eqb x x refl) in
      absurd (true≢false (sym ((h.have some).each x ∙ there) ∙ contains-past bits x (omega (arith, past))));
}
  where
    last : (a : Bool) {b : Bool} → b ≡ true → (a || b) ≡ true
    last true h = refl
    last false h = h

pub top_new : (cs cs' : List ℕ) → cs ≡ [] → cs' ≡ cs ++ 0 ∷ [] → EachIsNew cs'
top_new cs cs' none is = new_behind cs cs' 0 is (ap (list_any (λ d. d == 0)) none)
    (record { each = λ i lt. absurd (omega (arith, lt, ap length none)) })

-- One number more was tried.
use Rattle.std.proofs.Common.{◌≡◌, ℕ, ◌+◌, ◌<◌, ◌≤◌, ◌⊎◌, true, ap, ◌∙◌, sym, subst, arith, inl, inr, eq-eqb, length}
use Rattle.std.proofs.Common.{refl, cond, ◌-◌, zero-add, length-append}
use Rattle.std.specs.FinSet as set
use Rattle.std.proofs.lemmas.Bool.{cases_eq, cases_Bool, ne_eqb}
use Rattle.lane_sieve.proofs.Bools.{counted_le}
use Rattle.lane_sieve.specs.Sets.{NumberSet, IsPart, members_below, passing}
use Rattle.lane_sieve.proofs.Bits.{contains_insert}
use Rattle.lane_sieve.proofs.Ranges.{passing-add, passing_take, passing_skip}
use Rattle.axiom_sets.specs.Sets.{Limited}
use Rattle.pinpointing_specs.specs.Smallest.{Grows, without}
use Rattle.axiom_sets.proofs.Same.{set_of_parts}
use Rattle.pinpointing_specs.proofs.Choices.{in_without, to_without}
use Rattle.set_questions.specs.Meaning.{Meaning, Keeps, ShowsAbove}
use Rattle.justification_shrink.specs.declared.Shrunk.TheVariants.{Smallest, Spent}
use Rattle.justification_shrink.specs.Shrunk.{Tries, TriesAbove, LosesNothing}

-- what is left of `start` once the numbers below n were tried
pub record IsShrunk (m : Meaning) (start kept : Limited) (n : ℕ) : Type 0 where
  pub limit : kept.limit ≡ start.limit
  pub part : IsPart kept.members start.members
  pub still : m.holds kept.members
  pub shown : (kept.members ≡ start.members) ⊎ m.shown_yes kept.members
  pub needed : (k : ℕ) → k < n → set.contains kept.members k ≡ true → ¬ m.holds (without kept k).members

pub keeps_on : (m m' m'' : Meaning) → Keeps m m' → Keeps m' m'' → Keeps m m''
keeps_on m m' m'' g h =
    record {
      same_size = h.same_size ∙ g.same_size;
      same_question =
          λ s. (
            λ x. (h.same_question s).0 ((g.same_question s).0 x),
            λ x. (g.same_question s).1 ((h.same_question s).1 x),
          );
      left_falls = omega (arith, g.left_falls, h.left_falls);
      keeps_yes = λ s x. h.keeps_yes s (g.keeps_yes s x);
      keeps_no = λ s x. h.keeps_no s (g.keeps_no s x);
    }

pub keeps_all : (m : Meaning) → Keeps m m
keeps_all m = record {
  same_size = refl;
  same_question = λ s. (λ x. x, λ x. x);
  left_falls = omega arith;
  keeps_yes = λ s x. x;
  keeps_no = λ s x. x;
}

-- a number that was taken out and put back
pub put_back : (s : NumberSet) (n : ℕ) → set.contains s n ≡ true → set.insert (set.remove s n) n ≡ s
put_back s n member =
    set_of_parts _ _
    (λ k h. elim (cases_eq k n) [
      | inl e ↦ subst (λ (j : ℕ). set.contains s j ≡ true) (sym e) member
      | inr ne ↦ (in_without s n k (rw (ne_eqb k n ne) at (sym (contains_insert (set.remove s n) n k) ∙ h))).1
    ])
    (λ k h. contains_insert (set.remove s n) n k
    ∙ (elim (cases_eq k n) [ inl e ↦ rw (eq-eqb k n e) refl | inr ne ↦ rw (ne_eqb k n ne) (to_without s n k ne h) ]))

module _ (m m' : Meaning) (keeps : Keeps m m') (grows : Grows m.holds) (start kept : Limited) (n : ℕ)
    (shrunk : IsShrunk m start kept n) where
  stays : (next : Limited) → next.limit ≡ kept.limit → next.members ≡ kept.members
      → (set.contains kept.members n ≡ true → ¬ m'.holds (without kept n).members) → IsShrunk m' start next (n + 1)
  stays next limit members need =
      record {
        limit = limit ∙ shrunk.limit;
        part = λ k h. shrunk.part k (subst (λ (s : NumberSet). set.contains s k ≡ true) members h);
        still = subst m'.holds (sym members) ((keeps.same_question kept.members).0 shrunk.still);
        shown = elim shrunk.shown [
          | inl e ↦ inl (members ∙ e)
          | inr s ↦ inr (subst m'.shown_yes (sym members) (keeps.keeps_yes kept.members s))
        ];
        needed = λ k lt h yes'.
            let in_kept : set.contains kept.members k ≡ true =
            subst (λ (s : NumberSet). set.contains s k ≡ true) members h in
            let claim : m'.holds (set.remove kept.members k) =
            subst (λ (s : NumberSet). m'.holds (set.remove s k)) members yes' in
            elim (cases_eq k n) [
              | inl e ↦
                  need (subst (λ (j : ℕ). set.contains kept.members j ≡ true) e in_kept)
                  (subst (λ (j : ℕ). m'.holds (set.remove kept.members j)) e claim)
              | inr ne ↦
                  shrunk.needed k (omega arith) in_kept ((keeps.same_question (set.remove kept.members k)).1 claim)
            ];
      }

  falls : (next : Limited) → next.limit ≡ kept.limit → IsPart next.members (without kept n).members
      → m'.holds next.members → m'.shown_yes next.members → IsShrunk m' start next (n + 1)
  falls next limit part yes' shown =
      let inside : IsPart next.members kept.members = λ k h. (in_without kept.members n k (part k h)).1 in
      record {
        limit = limit ∙ shrunk.limit;
        part = λ k h. shrunk.part k (inside k h);
        still = yes';
        shown = inr shown;
        needed = λ k lt h claim.
            elim (cases_eq k n) [
              | inl e ↦ (in_without kept.members n k (part k h)).0 e
              | inr ne ↦
                  shrunk.needed k (omega arith) (inside k h)
                  (grows (set.remove next.members k) (set.remove kept.members k)
                  (λ q q_in.
                  let both = in_without next.members k q q_in in to_without kept.members k q both.0 (inside q both.1))
                  ((keeps.same_question (set.remove next.members k)).1 claim))
            ];
      }

  pub step : (next : Limited) → Tries m' kept n (Smallest next) → IsShrunk m' start next (n + 1)
  step next tried =
      elim tried.1 [
        | inl need ↦ stays next tried.0 need.0 need.1
        | inr found ↦ falls next tried.0 found.0 found.1 found.2
      ]

-- what was shown until the number was tried, and meanwhile, has what is left as part
pub above_next : (m m' m'' : Meaning) (kept next : Limited) (n : ℕ) → ShowsAbove m m' kept
    → Tries m'' kept n (Smallest next) → ShowsAbove m' m'' next → ShowsAbove m m'' next
above_next m m' m'' kept next n above tried shown s at =
    let inside : IsPart next.members kept.members = elim tried.1 [
      | inl same ↦ λ k h. subst (λ (t : NumberSet). set.contains t k ≡ true) same.0 h
      | inr found ↦ λ k h. (in_without kept.members n k (found.0 k h)).1
    ] in
    elim (shown s at) [
      | inl before ↦ elim (above s before) [ inl old ↦ inl old | inr part ↦ inr (λ k h. part k (inside k h)) ]
      | inr part ↦ inr part
    ]

-- the number was not tried to its end
pub cut_short : (m m' m'' : Meaning) (start kept : Limited) (n : ℕ) → Keeps m' m'' → IsPart kept.members start.members
    → m'.holds kept.members → ShowsAbove m m' kept → TriesAbove m' m'' kept n Spent → LosesNothing m m'' start Spent
cut_short m m' m'' start kept n keeps inside still above tried = (
  kept,
  inside,
  record { still = (keeps.same_question kept.members).0 still; number = n; member = tried.0; unknown = tried.1 },
  λ s at. above s (tried.2 s at),
)

-- one member more at most
one_longer : (s : NumberSet) (n : ℕ)
    → length (members_below s (n + 1)) ≡ length (members_below s n) + cond (set.contains s n) 1 0
unfolding passing
one_longer s n =
    ap length (passing-add (set.contains s) 0 n 1)
    ∙ length-append (passing (set.contains s) 0 n) (passing (set.contains s) (0 + n) 1)
    ∙ ap (λ (k : ℕ). length (passing (set.contains s) 0 n) + k)
    (ap (λ (k : ℕ). length (passing (set.contains s) k 1)) (zero-add n)
    ∙ (elim (cases_Bool (set.contains s n)) [
      | inl t ↦ ap length (passing_take (set.contains s) n 0 t) ∙ rw t refl
      | inr f ↦ ap length (passing_skip (set.contains s) n 0 f) ∙ rw f refl
    ]))

module _ (s kept : NumberSet) (part : IsPart kept s) (before asks asks' n : ℕ)
    (asked : asks ≤ before + length (members_below s n)) (more : asks' ≤ asks + cond (set.contains kept n) 1 0) where
  pub asked_more : asks' ≤ before + length (members_below s (n + 1))
  asked_more = omega (arith, one_longer s n, counted_le (set.contains kept n) (set.contains s n) (part n))

  pub asked_all : (limit : ℕ) → n ≤ limit → asks' ≤ before + length (members_below s (limit + 1))
  asked_all limit le =
      let e : limit + 1 ≡ (n + 1) + (limit - n) = omega arith in
      let split : length (members_below s (limit + 1))
      ≡ length (members_below s (n + 1)) + length (passing (set.contains s) (0 + (n + 1)) (limit - n)) =
      ap (λ (k : ℕ). length (members_below s k)) e ∙ ap length (passing-add (set.contains s) 0 (n + 1) (limit - n))
      ∙ length-append (members_below s (n + 1)) (passing (set.contains s) (0 + (n + 1)) (limit - n)) in
      omega (arith, asked_more, split)

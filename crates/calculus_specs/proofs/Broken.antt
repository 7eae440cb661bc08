-- Where lines break the rules.
use Rattle.std.proofs.Common.{◌≡◌, ℕ, zero, suc, ◌+◌, ◌≤◌, ◌⊎◌, List, [], ◌∷◌, length, take, drop, Option, Some, None}
use Rattle.std.proofs.Common.{refl, ap, ◌∙◌, sym, subst, arith, inl, inr}
use Rattle.std.specs.Option.{option_and_then}
use Rattle.shq_base.specs.Concept.{Concept}
use Rattle.calculus_specs.specs.Shape.{Shape}
use Rattle.calculus_specs.specs.Line.{Line}
use Rattle.calculus_specs.specs.Rules.{Question, Known, nothing_known}
use Rattle.calculus_specs.specs.Valid.{concept_at, open_after, open_after_all, Breaks, IsBrokenAt}
use Rattle.calculus_specs.specs.RefutationLaws.{IsJudged}
use Rattle.calculus_specs.proofs.Stack.{refutation_runs, run_refutes}

module _ (q : Question) (concept : ℕ → Option Concept) where
  -- lines that break the rules after `count` of them, from these open branches
  record BreaksAfter (ks : List Known) (lines : List Line) (count : ℕ) : Type 0 where
    within : count ≤ length lines
    left : List Known
    before : open_after_all q concept ks (take count lines) ≡ Some left
    breaks : Breaks q concept left (drop count lines)

  abbrev Outcome : List Known → List Line → Type 0
  Outcome ks lines = (open_after_all q concept ks lines ≡ Some []) ⊎ ((count : ℕ) × BreaksAfter ks lines count)

  at_line : (ks : List Known) (line : Line) (lines : List Line) → open_after q concept ks line ≡ None
      → Breaks q concept ks (line ∷ lines)
  at_line [] line lines e = e
  at_line (k ∷ ks) line lines e = e

  line_breaks : (ks : List Known) (line : Line) (lines : List Line) → Breaks q concept ks (line ∷ lines)
      → open_after q concept ks line ≡ None
  line_breaks [] line lines h = h
  line_breaks (k ∷ ks) line lines h = h

  step : (ks : List Known) (line : Line) (lines : List Line) (o : Option (List Known))
      → open_after q concept ks line ≡ o
      → ((left : List Known) → Outcome left lines) → Outcome ks (line ∷ lines)
  step ks line lines None e rest =
      inr (0, record { within = omega arith; left = ks; before = refl; breaks = at_line ks line lines e })
  step ks line lines (Some left) e rest = elim (rest left) [
    | inl done ↦ inl (ap (option_and_then (λ (ks' : List Known). open_after_all q concept ks' lines)) e ∙ done)
    | inr broken ↦
        inr (
          suc broken.0,
          record {
            within = omega (arith, broken.1.within);
            left = broken.1.left;
            before =
                ap (option_and_then (λ (ks' : List Known). open_after_all q concept ks' (take broken.0 lines))) e
                ∙ broken.1.before;
            breaks = broken.1.breaks;
          },
        )
  ]

  outcome : (lines : List Line) (ks : List Known) → Outcome ks lines
  outcome [] [] = inl refl
  outcome [] (k ∷ ks) = inr (0, record { within = omega arith; left = k ∷ ks; before = refl; breaks = tt })
  outcome (line ∷ lines) ks = step ks line lines (open_after q concept ks line) refl (outcome lines)

  -- ---- at most one place, and none in a refutation

  early : (ks : List Known) (line : Line) (lines : List Line) → BreaksAfter ks (line ∷ lines) 0
      → open_after q concept ks line ≡ None
  early ks line lines b =
      let f : Some ks ≡ Some b.left = b.before in
      let same : b.left ≡ ks = cc in
      line_breaks ks line lines (subst (λ (l : List Known). Breaks q concept l (line ∷ lines)) same b.breaks)

  record Later (ks : List Known) (line : Line) (lines : List Line) (count : ℕ) : Type 0 where
    middle : List Known
    leaves : open_after q concept ks line ≡ Some middle
    rest : BreaksAfter middle lines count

  later_from : (ks : List Known) (line : Line) (lines : List Line) (count : ℕ) (o : Option (List Known))
      → open_after q concept ks line ≡ o
      → BreaksAfter ks (line ∷ lines) (suc count) → Later ks line lines count
  later_from ks line lines count None e b =
      let f =
      ap (option_and_then (λ (left : List Known). open_after_all q concept left (take count lines))) (sym e)
      ∙ b.before in
      cc
  later_from ks line lines count (Some m) e b =
      let f =
      ap (option_and_then (λ (left : List Known). open_after_all q concept left (take count lines))) (sym e)
      ∙ b.before in
      record {
        middle = m;
        leaves = e;
        rest = record { within = omega (arith, b.within); left = b.left; before = f; breaks = b.breaks };
      }

  later : (ks : List Known) (line : Line) (lines : List Line) (count : ℕ) → BreaksAfter ks (line ∷ lines) (suc count)
      → Later ks line lines count
  later ks line lines count b = later_from ks line lines count (open_after q concept ks line) refl b

  unique : (lines : List Line) (ks : List Known) (p q : ℕ) → BreaksAfter ks lines p → BreaksAfter ks lines q → p ≡ q
  unique [] ks p q b c = omega (arith, b.within, c.within)
  unique (line ∷ lines) ks zero zero b c = refl
  unique (line ∷ lines) ks zero (suc q) b c =
      let e = early ks line lines b in let f = (later ks line lines q c).leaves in cc
  unique (line ∷ lines) ks (suc p) zero b c =
      let e = early ks line lines c in let f = (later ks line lines p b).leaves in cc
  unique (line ∷ lines) ks (suc p) (suc q) b c =
      let f = later ks line lines p b in
      let g = later ks line lines q c in
      let k : Some g.middle ≡ Some f.middle = sym g.leaves ∙ f.leaves in
      let same : g.middle ≡ f.middle = cc in
      ap suc (unique lines f.middle p q f.rest (subst (λ (m : List Known). BreaksAfter m lines q) same g.rest))

  not_done : (lines : List Line) (ks : List Known) (count : ℕ) → open_after_all q concept ks lines ≡ Some []
      → ¬ BreaksAfter ks lines count
  not_done [] ks zero e b =
      let f : Some ks ≡ Some b.left = b.before in
      let same : b.left ≡ [] = cc in
      subst (λ (l : List Known). Breaks q concept l []) same b.breaks
  not_done [] ks (suc count) e b = absurd (omega (arith, b.within))
  not_done (line ∷ lines) ks zero e b =
      let f =
      ap (option_and_then (λ (left : List Known). open_after_all q concept left lines)) (sym (early ks line lines b))
      ∙ e in
      cc
  not_done (line ∷ lines) ks (suc count) e b =
      let g = later ks line lines count b in
      let f = ap (option_and_then (λ (left : List Known). open_after_all q concept left lines)) (sym g.leaves) ∙ e in
      not_done lines g.middle count f g.rest

-- ---- the law

module _ (q : Question) (shapes : List Shape) (lines : List Line) where
  broken_at : (count : ℕ) → BreaksAfter q (concept_at shapes) (nothing_known ∷ []) lines count
      → IsBrokenAt q (concept_at shapes) lines (count + 1)
  broken_at count b =
      record { count = count; counts = refl; within = b.within; left = b.left; before = b.before; breaks = b.breaks }

  breaks_after : (place : ℕ) → (b : IsBrokenAt q (concept_at shapes) lines place)
      → BreaksAfter q (concept_at shapes) (nothing_known ∷ []) lines b.count
  breaks_after place b = record { within = b.within; left = b.left; before = b.before; breaks = b.breaks }

  pub judged : IsJudged q shapes lines
  judged = record {
    one_way = elim (outcome q (concept_at shapes) lines (nothing_known ∷ [])) [
      | inl done ↦ inl (run_refutes q shapes lines done)
      | inr broken ↦ inr (broken.0 + 1, broken_at broken.0 broken.1)
    ];
    not_both =
        λ h place b. not_done q (concept_at shapes) lines (nothing_known ∷ []) b.count
        (refutation_runs q shapes lines h) (breaks_after place b);
    only_place =
        λ p other b c. omega (
          arith,
          b.counts,
          c.counts,
          unique q (concept_at shapes) lines (nothing_known ∷ []) b.count c.count (breaks_after p b)
              (breaks_after other c),
        );
  }

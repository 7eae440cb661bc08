-- What entries say of the first axioms they say where more axioms stand after them.
use Rattle.std.proofs.Common.{◌≡◌, ℕ, zero, suc, ◌+◌, ◌-◌, ◌<◌, ◌≤◌, Bool, true, false, List, [], ◌∷◌, ◌++◌, length}
use Rattle.std.proofs.Common.{take, refl, ap, sym, subst, ◌∙◌, arith}
use Rattle.std.specs.Prelude.{if◌then◌else◌, ◌↔◌}
use Rattle.std.specs.FinSet as set
use Rattle.std.proofs.lemmas.List.{take-append-le}
use Rattle.lane_sieve.specs.Sets.{NumberSet}
use Rattle.axiom_sets.specs.Sets.{IsWithin}
use Rattle.shq_terms.specs.Listed.{Listed}
use Rattle.shq_terms.specs.declared.axioms.Axiom.{Axiom}
use Rattle.shq_terms.specs.declared.axioms.Numbered.{Numbered}
use Rattle.shq_terms.specs.declared.axioms.Query.{Query}
use Rattle.shq_meaning.specs.Truth.{Entails}
use Rattle.pinpointing_specs.specs.LocalModule.{axioms_from, axioms_in_set, FollowsFrom}
use Rattle.shq_oracle.specs.Entry.{Entry}
use Rattle.shq_oracle.specs.Entry.TheVariants.{Test, Node}
use Rattle.shq_oracle.specs.TestEnd.TheVariants.{Yes, No, Spent}
use Rattle.edit_session.specs.Held.{IsOfHeld, Holds}
use Rattle.edit_session.specs.Laws.{EntriesStayHonest}

-- ---- the axioms of a set of the first ones

not_there : (s : NumberSet) (n k : ℕ) → IsWithin n s → n < k → set.contains s k ≡ false
not_there s n k within lt = by (set.contains s k) refl
  where
    by : (b : Bool) → set.contains s k ≡ b → b ≡ false
    by true h = let w = within k h in absurd (omega (arith, w.1, lt))
    by false h = refl

-- a number that is too low or too high for them
pub none_outside : (s : NumberSet) (n k : ℕ) → IsWithin n s → (1 ≤ k → k ≤ n → ⊥) → set.contains s k ≡ false
none_outside s n k within out = by (set.contains s k) refl
  where
    by : (b : Bool) → set.contains s k ≡ b → b ≡ false
    by true h = let w = within k h in absurd (out w.0 w.1)
    by false h = refl

none_from : (s : NumberSet) (n k : ℕ) (ys : List Numbered) → IsWithin n s → n < k → axioms_from k s ys ≡ []
none_from s n k [] within lt = refl
none_from s n k (y ∷ ys) within lt =
    ap (λ (b : Bool). if b then y.axiom ∷ axioms_from (k + 1) s ys else axioms_from (k + 1) s ys)
    (not_there s n k within lt)
    ∙ none_from s n (k + 1) ys within (omega (arith, lt))

first_from : (s : NumberSet) (n k : ℕ) (xs ys : List Numbered) → IsWithin n s → n < k + length xs
    → axioms_from k s (xs ++ ys) ≡ axioms_from k s xs
first_from s n k [] ys within lt = none_from s n k ys within (omega (arith, lt))
first_from s n k (x ∷ xs) ys within lt =
    ap (λ (as_ : List Axiom). if set.contains s k then x.axiom ∷ as_ else as_)
    (first_from s n (k + 1) xs ys within (omega (arith, lt)))

pub first_axioms : (s : NumberSet) (xs ys : List Numbered) → IsWithin (length xs) s
    → axioms_in_set s (xs ++ ys) ≡ axioms_in_set s xs
first_axioms s xs ys within = first_from s (length xs) 1 xs ys within (omega arith)

pub follows_more : (q : Query) (s : NumberSet) (xs ys : List Numbered) → IsWithin (length xs) s
    → FollowsFrom (xs ++ ys) q s ↔ FollowsFrom xs q s
follows_more q s xs ys within = (
  λ h. subst (λ (as_ : List Axiom). Entails as_ q) (first_axioms s xs ys within) h,
  λ h. subst (λ (as_ : List Axiom). Entails as_ q) (sym (first_axioms s xs ys within)) h,
)

-- ---- what was found

module _ (xs ys : List Numbered) where
  pub hold_more : (e : Entry) → IsOfHeld (length xs) e → Holds xs e → Holds (xs ++ ys) e
  hold_more (Test s q steps (Yes u)) of h = (follows_more q u.members xs ys of.1).1 h
  hold_more (Test s q steps No) of h = λ f. h ((follows_more q s.members xs ys of.0).0 f)
  hold_more (Test s q steps (Spent t)) of h = tt
  hold_more (Node s) of h = tt

within_more : (m n : ℕ) (s : NumberSet) → m ≤ n → IsWithin m s → IsWithin n s
within_more m n s le within k h = let w = within k h in (w.0, omega (arith, w.1, le))

pub held_more : (m n : ℕ) → m ≤ n → (e : Entry) → IsOfHeld m e → IsOfHeld n e
held_more m n le (Test s q steps (Yes u)) of = (within_more m n s.members le of.0, within_more m n u.members le of.1)
held_more m n le (Test s q steps No) of = (within_more m n s.members le of.0, tt)
held_more m n le (Test s q steps (Spent t)) of = (within_more m n s.members le of.0, tt)
held_more m n le (Node s) of = tt

-- ---- honest entries

first_take : (n : ℕ) (o : Listed) (standing : Listed) (p : Listed) (more : List Numbered) → n ≡ length standing.axioms
    → standing.axioms ≡ take n o.axioms → p.axioms ≡ o.axioms ++ more → standing.axioms ≡ take n p.axioms
first_take n o standing p more len first longer =
    let short : n ≤ length o.axioms = omega (arith, len, ap length first, length_take n o.axioms) in
    first ∙ sym (take-append-le n o.axioms more short) ∙ sym (ap (take n) longer)
  where
    length_take : (m : ℕ) (zs : List Numbered) → length (take m zs) ≤ length zs
    length_take zero zs = omega arith
    length_take (suc m) [] = omega arith
    length_take (suc m) (z ∷ zs) = let h = length_take m zs in omega (arith, h)

pub stay_honest : EntriesStayHonest
stay_honest o p more (Test s q steps e) longer h = record {
  standing = h.standing;
  first_axioms = first_take s.limit o h.standing p more h.honest.0.limit_is h.first_axioms longer;
  in_limit = h.in_limit;
  honest = h.honest;
}
stay_honest o p more (Node s) longer h = absurd h

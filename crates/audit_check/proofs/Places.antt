-- Places of an audit, one after another.
use Rattle.std.proofs.Common.{◌≡◌, ℕ, zero, suc, ◌+◌, ◌-◌, ◌<◌, ◌||◌, ◌&&◌, Bool, true, false, List, [], ◌∷◌, length}
use Rattle.std.proofs.Common.{map, get_or, drop, Result, Ok, Err, Option, Some, None, refl, ap, sym, ◌∙◌, subst, arith}
use Rattle.std.proofs.Common.{inl, inr, add-one}
use Rattle.std.specs.Prelude.{◌↔◌, IsTrue, IfOk, slice_get, not}
use Rattle.std.specs.Option.{is_some}
use Rattle.std.specs.List.{All}
use Rattle.std.specs.FinSet as set
use Rattle.std.proofs.lemmas.Bool.{cases_eq, true≢false, not_from_true}
use Rattle.lane_sieve.specs.Sets.{NumberSet}
use Rattle.axiom_sets.specs.Sets.{Limited}
use Rattle.audit_check.specs.Listed.{ContainsAnother}
use Rattle.shq_terms.specs.Listed.{Listed}
use Rattle.shq_terms.specs.NoMemory.{NoMemory}
use Rattle.shq_terms.specs.declared.axioms.Numbered.{Numbered}
use Rattle.shq_terms.specs.declared.axioms.Query.{Query}
use Rattle.shq_meaning.specs.Truth.{Interpretation, PlacesIndividuals, meets, refutes_at}
use Rattle.shq_meaning.specs.Least.{IsFirstBelow}
use Rattle.shq_meaning.specs.Below.{all_below}
use Rattle.shq_meaning.proofs.Below.{all_below-false}
use Rattle.finite_model.specs.ModelLists.{meaning}
use Rattle.audit_file.specs.AuditLists.{justified_sets}
use Rattle.audit_file.specs.Fitting.{IsOfAxioms}
use Rattle.audit_file.specs.declared.entries.Justification.{Justification}
use Rattle.audit_file.specs.declared.entries.Repair.{Repair}
use Rattle.audit_check.specs.Sound.{IsShown, meets_rest, IsCounterModel}
use Rattle.audit_check.specs.Verdicts.{JustificationHolds, RepairHolds, FailsFirst}

-- ---- limits

map_all : {A B : Type 0} (f : A → B) (P : B → Type 0) (xs : List A) → All (λ x. P (f x)) xs → All P (map f xs)
map_all f P [] all k d lt = absurd (omega (arith, lt))
map_all f P (x ∷ xs) all zero d lt = all 0 x (omega arith)
map_all f P (x ∷ xs) all (suc k) d lt =
    map_all f P xs (λ j e less. all (suc j) e (omega (arith, less))) k d (omega (arith, lt))

pub justified_limits : (o : Listed) (js : List Justification) → All (λ (j : Justification). IsOfAxioms o j.set) js
    → All (λ (s : Limited). s.limit ≡ length o.axioms) (justified_sets js)
justified_limits o js all = map_all (λ (j : Justification). j.set) (λ (s : Limited). s.limit ≡ length o.axioms) js all

pub same_limits : (n : ℕ) (sets : List Limited) (place : ℕ) → place < length sets
    → All (λ (s : Limited). s.limit ≡ n) sets → All (λ (s : Limited). s.limit ≡ (get_or sets place s).limit) sets
same_limits n sets place lt all k d less = all k d less ∙ sym (all place (get_or sets k d) lt)

-- ---- one place more

pub below_more : (P : ℕ → Type 0) (n : ℕ) → ((k : ℕ) → k < n → P k) → P n → (k : ℕ) → k < n + 1 → P k
below_more P n before here k lt =
    elim (cases_eq k n) [ inl e ↦ subst P (sym e) here | inr ne ↦ before k (omega (arith, lt, ne)) ]

pub fails_here : (P : ℕ → Type 0) (n count : ℕ) → n < count → ((k : ℕ) → k < n → P k) → (b : Bool) → (IsTrue b ↔ P n)
    → b ≡ false → FailsFirst P count n
fails_here P n count lt before b is out =
    record { within = lt; before = before; fails = λ holds. true≢false (sym (is.1 holds) ∙ out) }

module _ (o : Listed) (q : Query) (js : List Justification) (place : ℕ) (j : Justification)
    (at : slice_get js place ≡ Some j) where
  holds_if : ¬ ContainsAnother (justified_sets js) place → (b : Bool) → (IsTrue b ↔ IsShown o q j)
      → (IsTrue b ↔ JustificationHolds o q js place)
  holds_if alone b is = (
    λ h. record { contains_none = alone; shown = λ x x_at. subst (IsShown o q) (cc (sym at ∙ x_at)) (is.0 h) },
    λ holds. is.1 (holds.shown j at),
  )

  pub holds_ok : ¬ ContainsAnother (justified_sets js) place → (r : Result Bool NoMemory)
      → IfOk r (λ b. IsTrue b ↔ IsShown o q j) → IfOk r (λ b. IsTrue b ↔ JustificationHolds o q js place)
  holds_ok alone (Ok b) h = holds_if alone b h
  holds_ok alone (Err e) h = tt

pub repair_holds_if : (axioms : List Numbered) (q : Query) (rs : List Repair) (place : ℕ) (r : Repair)
    → slice_get rs place ≡ Some r → (b : Bool) → (IsTrue b ↔ IsCounterModel axioms q r)
    → (IsTrue b ↔ RepairHolds axioms q rs place)
repair_holds_if axioms q rs place r at b is =
    (λ h x x_at. subst (IsCounterModel axioms q) (cc (sym at ∙ x_at)) (is.0 h), λ holds. is.1 (holds r at))

-- ---- the axioms outside of a set

meets_at : (i : Interpretation) (k : ℕ) (s : NumberSet) (j : ℕ) (as_ : List Numbered) (a : Numbered)
    → Some a ≡ slice_get as_ j
    → meets_rest i k s (drop j as_)
    ≡ ((set.contains s k || meets i a.axiom) && meets_rest i (k + 1) s (drop (suc j) as_))
meets_at i k s zero [] a h = absurd (cc h)
meets_at i k s (suc j) [] a h = absurd (cc h)
meets_at i k s zero (b ∷ as_) a h =
    let same : b ≡ a = cc h in
    ap (λ (n : Numbered). (set.contains s k || meets i n.axiom) && meets_rest i (k + 1) s as_) same
meets_at i k s (suc j) (b ∷ as_) a h = meets_at i k s j as_ a h

module _ (i : Interpretation) (s : NumberSet) (j : ℕ) (as_ : List Numbered) where
  listed_at : (k : ℕ) (xs : List Numbered) → k < length xs → (a : Numbered) × (Some a ≡ slice_get xs k)
  listed_at k [] less = absurd (omega (arith, less))
  listed_at zero (x ∷ xs) less = (x, refl)
  listed_at (suc k) (x ∷ xs) less = listed_at k xs (omega (arith, less))

  later : (b : Bool) → set.contains s (j + 1) ≡ b → set.contains s (suc j) ≡ b
  later b is = ap (set.contains s) (sym (add-one j)) ∙ is

  -- where the number is in the set, the others tell
  pub met_here : j < length as_ → set.contains s (j + 1) ≡ true
      → meets_rest i (j + 1) s (drop j as_) ≡ meets_rest i (j + 1 + 1) s (drop (j + 1) as_)
  met_here lt inside =
      let a = listed_at j as_ lt in
      rw (add-one j)
      (meets_at i (suc j) s j as_ a.0 a.1
      ∙ ap (λ (b : Bool). (b || meets i a.0.axiom) && meets_rest i (suc j + 1) s (drop (suc j) as_))
      (later true inside))

  module _ (a : Numbered) (listed : Some a ≡ slice_get as_ (j + 1 - 1)) where
    here : Some a ≡ slice_get as_ j
    here = let same : j + 1 - 1 ≡ j = omega arith in listed ∙ ap (slice_get as_) same

    opened : (b c : Bool) → set.contains s (j + 1) ≡ b → meets i a.axiom ≡ c
        → meets_rest i (j + 1) s (drop j as_) ≡ ((b || c) && meets_rest i (j + 1 + 1) s (drop (j + 1) as_))
    opened b c inside is =
        rw (add-one j)
        (meets_at i (suc j) s j as_ a here
        ∙ (λ k. (later b inside k || is k) && meets_rest i (suc j + 1) s (drop (suc j) as_)))

    pub met_outside : set.contains s (j + 1) ≡ false → meets i a.axiom ≡ true
        → meets_rest i (j + 1) s (drop j as_) ≡ meets_rest i (j + 1 + 1) s (drop (j + 1) as_)
    met_outside out is = opened false true out is

    pub unmet_outside : set.contains s (j + 1) ≡ false → meets i a.axiom ≡ false
        → meets_rest i (j + 1) s (drop j as_) ≡ false
    unmet_outside out is = opened false false out is

-- ---- a counter-element

fails_at : (n : ℕ) (p : ℕ → Bool) → all_below n (λ y. not (p y)) ≡ true → (x : ℕ) → x < n → p x ≡ true → ⊥
fails_at n p none x lt is = true≢false (sym none ∙ all_below-false n (λ y. not (p y)) x lt (not_from_true (p x) is))

pub refuted_or_not : (axioms : List Numbered) (q : Query) (r : Repair) (first : Option ℕ) (b : Bool) → b ≡ is_some first
    → PlacesIndividuals (meaning r.model) → IsTrue (meets_rest (meaning r.model) 1 r.set.members axioms)
    → IsFirstBelow r.model.size (refutes_at (meaning r.model) q) first → (IsTrue b ↔ IsCounterModel axioms q r)
refuted_or_not axioms q r None b is places met least = (
  λ h. (let clash : true ≡ false = sym h ∙ is in absurd (cc clash)),
  λ shows. absurd
      (fails_at r.model.size (refutes_at (meaning r.model) q) least shows.refutes.0 shows.refutes.1 shows.refutes.2),
)
refuted_or_not axioms q r (Some x) b is places met least =
    (λ h. record { places = places; meets_them = met; refutes = (x, least.below, least.passes) }, λ shows. is)

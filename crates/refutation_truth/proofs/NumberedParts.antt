-- The numbers of parts in a theory.
use Rattle.std.proofs.Common.{◌≡◌, ℕ, suc, ◌+◌, ◌-◌, ◌<◌, ◌≤◌, ◌&&◌, ◌||◌, Bool, true, false, cond, eqb, leb, List, []}
use Rattle.std.proofs.Common.{◌∷◌, ◌++◌, length, Option, Some, None, refl, ap, ◌∙◌, sym, arith, inl, inr}
use Rattle.std.specs.List.{find}
use Rattle.std.specs.Option.{option_map, option_or}
use Rattle.std.proofs.lemmas.Bool.{cases_lt, cases_eq, eq-eqb, ne_eqb, le-leb, lt-leb, and_left, and_right}
use Rattle.std.proofs.lemmas.List.Folds.{find-append}
use Rattle.shq_nnf.specs.Numbered.{Numbered}
use Rattle.role_box.specs.TheoryRows.{Part, NumberedPart, is_numbered, is_among}
use Rattle.shq_nnf.specs.Parts.{part_in}
use Rattle.refutation_truth.specs.Theory.{parts_at, numbered_parts, named_parts, part_of_axiom}
use Rattle.refutation_truth.specs.Laws.{PartsAreNumbered}

abbrev part_found : ℕ → ℕ → List NumberedPart → Option Part
part_found a p ns = option_map (λ n. n.part) (find (is_numbered a p) ns)

-- the part with the number p among parts of the axiom k that are numbered from `first` on
abbrev from_first : ℕ → ℕ → ℕ → ℕ → List Part → Option Part
from_first a p k first qs =
    cond (eqb k a && (leb first p && leb (p + 1) (first + length qs))) (Some (part_in qs (p - first))) None

outside : (a p k first : ℕ) (qs : List Part) → (eqb k a && (leb first p && leb (p + 1) (first + length qs))) ≡ false
    → from_first a p k first qs ≡ None
outside a p k first qs h = ap (λ (b : Bool). cond b (Some (part_in qs (p - first))) None) h

inside : (a p k first : ℕ) (qs : List Part) → k ≡ a → first ≤ p → p < first + length qs
    → from_first a p k first qs ≡ Some (part_in qs (p - first))
inside a p k first qs e le lt =
    rw (eq-eqb k a e, le-leb first p le, le-leb (p + 1) (first + length qs) (omega arith)) refl

too_low : (a p k first : ℕ) (qs : List Part) → p < first → from_first a p k first qs ≡ None
too_low a p k first qs lt =
    outside a p k first qs
    (and_right (eqb k a) (leb first p && leb (p + 1) (first + length qs))
    (and_left (leb first p) (leb (p + 1) (first + length qs)) (lt-leb first p lt)))

too_high : (a p k first : ℕ) (qs : List Part) → first + length qs ≤ p → from_first a p k first qs ≡ None
too_high a p k first qs le =
    outside a p k first qs
    (and_right (eqb k a) (leb first p && leb (p + 1) (first + length qs))
    (and_right (leb first p) (leb (p + 1) (first + length qs)) (lt-leb (p + 1) (first + length qs) (omega arith))))

other_axiom : (a p k first : ℕ) (qs : List Part) → (k ≡ a → ⊥) → from_first a p k first qs ≡ None
other_axiom a p k first qs ne =
    outside a p k first qs (and_left (eqb k a) (leb first p && leb (p + 1) (first + length qs)) (ne_eqb k a ne))

passed : (a p k first : ℕ) (q : Part) (qs : List Part) → (eqb k a && eqb first p) ≡ false
    → part_found a p (numbered_parts k first (q ∷ qs)) ≡ part_found a p (numbered_parts k (first + 1) qs)
passed a p k first q qs h =
    ap (λ (b : Bool). option_map (λ (n : NumberedPart). n.part)
    (cond b (Some (record { axiom_number = k; part_number = first; part = q }))
    (find (is_numbered a p) (numbered_parts k (first + 1) qs))))
    h

among_parts : (a p k : ℕ) (qs : List Part) (first : ℕ)
    → part_found a p (numbered_parts k first qs) ≡ from_first a p k first qs
among_parts a p k [] first = elim (cases_lt p first) [
  | inl lt ↦ sym (too_low a p k first [] lt)
  | inr ge ↦ sym (too_high a p k first [] (omega arith))
]
among_parts a p k (q ∷ qs) first =
    let rest = among_parts a p k qs (first + 1) in
    elim (cases_eq k a) [
      | inr ne ↦
          passed a p k first q qs (and_left (eqb k a) (eqb first p) (ne_eqb k a ne)) ∙ rest
          ∙ other_axiom a p k (first + 1) qs ne ∙ sym (other_axiom a p k first (q ∷ qs) ne)
      | inl e ↦ elim (cases_eq first p) [
        | inl here ↦
            let at : p - first ≡ 0 = omega arith in
            let hit : part_found a p (numbered_parts k first (q ∷ qs)) ≡ Some q =
            rw (eq-eqb k a e, eq-eqb first p here) refl in
            hit ∙ sym
            (inside a p k first (q ∷ qs) e (omega arith) (omega arith) ∙ ap (λ (n : ℕ). Some (part_in (q ∷ qs) n)) at)
        | inr ne ↦
            passed a p k first q qs (and_right (eqb k a) (eqb first p) (ne_eqb first p ne)) ∙ rest
            ∙ (elim (cases_lt p first) [
              | inl lt ↦ too_low a p k (first + 1) qs (omega arith) ∙ sym (too_low a p k first (q ∷ qs) lt)
              | inr ge ↦ elim (cases_lt p (first + length (q ∷ qs))) [
                | inr past ↦ too_high a p k (first + 1) qs (omega arith) ∙ sym (too_high a p k first (q ∷ qs) past)
                | inl lt ↦
                    let at : p - first ≡ suc (p - (first + 1)) = omega arith in
                    inside a p k (first + 1) qs e (omega arith) (omega arith)
                    ∙ sym (inside a p k first (q ∷ qs) e ge lt ∙ ap (λ (n : ℕ). Some (part_in (q ∷ qs) n)) at)
              ]
            ])
      ]
    ]

-- ---- the parts of all named axioms

map_or : (f : NumberedPart → Part) (o q : Option NumberedPart)
    → option_map f (option_or o q) ≡ option_or (option_map f o) (option_map f q)
map_or f None q = refl
map_or f (Some n) q = refl

found_either : (a p : ℕ) (ms ns : List NumberedPart)
    → part_found a p (ms ++ ns) ≡ option_or (part_found a p ms) (part_found a p ns)
found_either a p ms ns =
    ap (option_map (λ (n : NumberedPart). n.part)) (find-append (is_numbered a p) ms ns)
    ∙ map_or (λ n. n.part) (find (is_numbered a p) ms) (find (is_numbered a p) ns)

-- the part by the tests that the axiom is here, that it is named later, and that it has such a part
abbrev by_tests : Option Part → Bool → Bool → Bool → Bool → Option Part
by_tests q here later low high = cond ((here || later) && low && high) q None

either : (q : Option Part) (here later low high : Bool)
    → option_or (cond (here && (low && high)) q None) (by_tests q false later low high) ≡ by_tests q here later low high
either q true true true true = elim q as (λ (o : Option Part). option_or o o ≡ o) [ None ↦ refl | Some x ↦ refl ]
either q true false true true = elim q as (λ (o : Option Part). option_or o None ≡ o) [ None ↦ refl | Some x ↦ refl ]
either q true true true false = refl
either q true true false high = refl
either q true false true false = refl
either q true false false high = refl
either q false later low high = refl

one_more : (p n : ℕ) → leb (p + 1) (1 + n) ≡ leb p n
one_more p n = elim (cases_lt n p) [
  | inl lt ↦ lt-leb (p + 1) (1 + n) (omega arith) ∙ sym (lt-leb p n lt)
  | inr le ↦ le-leb (p + 1) (1 + n) (omega arith) ∙ sym (le-leb p n le)
]

pub among_named : (axioms : List Numbered) (a p : ℕ) (ks : List ℕ)
    → part_found a p (named_parts axioms ks) ≡ part_of_axiom axioms ks a p
among_named axioms a p [] = refl
among_named axioms a p (k ∷ ks) =
    let rest = among_named axioms a p ks in
    found_either a p (numbered_parts k 1 (parts_at axioms k)) (named_parts axioms ks)
    ∙ (λ i. option_or (among_parts a p k (parts_at axioms k) 1 i) (rest i))
    ∙ (elim (cases_eq k a) [
      | inr ne ↦
          ap (λ (o : Option Part). option_or o (part_of_axiom axioms ks a p))
          (other_axiom a p k 1 (parts_at axioms k) ne)
          ∙ sym (ap
          (λ (b : Bool). by_tests (Some (part_in (parts_at axioms a) (p - 1))) b (is_among ks a) (leb 1 p)
          (leb p (length (parts_at axioms a))))
          (ne_eqb k a ne))
      | inl e ↦
          let limit : leb (p + 1) (1 + length (parts_at axioms a)) ≡ leb p (length (parts_at axioms a)) =
          one_more p (length (parts_at axioms a)) in
          let same : from_first a p k 1 (parts_at axioms k) ≡ from_first a p k 1 (parts_at axioms a) =
          ap (λ (n : ℕ). from_first a p k 1 (parts_at axioms n)) e in
          ap (λ (o : Option Part). option_or o (part_of_axiom axioms ks a p))
          (same
          ∙ ap (λ (b : Bool). cond (eqb k a && (leb 1 p && b)) (Some (part_in (parts_at axioms a) (p - 1))) None) limit)
          ∙ either (Some (part_in (parts_at axioms a) (p - 1))) (eqb k a) (is_among ks a) (leb 1 p)
          (leb p (length (parts_at axioms a)))
    ])

pub numbered : PartsAreNumbered
numbered axioms ks a p = among_named axioms a p ks

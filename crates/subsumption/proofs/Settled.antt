-- Where each pair is settled, what is known is which class is part of which.
use Rattle.std.proofs.Common.{◌≡◌, ℕ, ◌+◌, ◌<◌, ◌||◌, true, List, length, sym, subst, arith, inl, inr}
use Rattle.std.proofs.lemmas.Bool.{or_cases}
use Rattle.std.proofs.lemmas.List.Elements.{All-contains}
use Rattle.shq_terms.specs.Concept.{Concept}
use Rattle.shq_terms.proofs.Bools.{none_outside}
use Rattle.shq_terms.specs.Listed.{Listed}
use Rattle.shq_terms.specs.declared.axioms.Axiom.{Axiom}
use Rattle.shq_terms.specs.declared.axioms.On.{On}
use Rattle.shq_terms.specs.declared.axioms.On.TheVariants.{Any}
use Rattle.shq_meaning.specs.Truth.{holds as has_element, Entails}
use Rattle.shq_oracle.specs.Theory.{all_axioms}
use Rattle.shq_oracle.specs.Entry.{Entry}
use Rattle.shq_oracle.specs.Entry.TheVariants.{Test}
use Rattle.shq_oracle.specs.TestEnd.TheVariants.{No}
use Rattle.shq_oracle.specs.HonestLog.{IsHonestEntry, IsClassTest, IsClassificationLog}
use Rattle.shq_oracle.specs.HonestLog.IsChain.{none}
use Rattle.shq_oracle.specs.Shown.{IsRuledOut}
use Rattle.shq_oracle.proofs.Told.{chain_is_true}
use Rattle.shq_oracle.proofs.Named.{whole}
use Rattle.subsumption.specs.Matrices.{Matrix, has}
use Rattle.subsumption.specs.Rows.{Rows, holds, IsOrder}
use Rattle.subsumption.specs.Subsumption.{class_at, query_at, IsSubsumption}
use Rattle.subsumption.specs.Settled.{IsSettled, IsShownPair}
use Rattle.subsumption.specs.Mirrors.{Mirrors}
use Rattle.subsumption.proofs.Chains.{then_chain}

pub part_of_part : (axioms : List Axiom) (x y z : Concept) → Entails axioms (record { sub = x; sup = y; on = Any })
    → Entails axioms (record { sub = y; sup = z; on = Any }) → Entails axioms (record { sub = x; sup = z; on = Any })
part_of_part axioms x y z h k i some placed meets v lt =
    none_outside (has_element i x v) (has_element i y v) (has_element i z v) (h i some placed meets v lt)
    (k i some placed meets v lt)

module _ (o : Listed) (budget : ℕ) (log : List Entry) (honest : IsClassificationLog o budget log) where
  -- what is ruled out does not follow
  pub ruled_out_is_true : (x y : Concept) → IsRuledOut log x y
      → Entails (all_axioms o.axioms) (record { sub = x; sup = y; on = Any }) → ⊥
  ruled_out_is_true x y r h =
      let all = all_axioms o.axioms in
      let q = r.query in
      let so = All-contains (IsHonestEntry o) log (Test r.tested q r.steps No) honest.budget_kept.honest r.is_no in
      let test = All-contains (IsClassTest o) log (Test r.tested q r.steps No) honest.tests r.is_no in
      let lower = chain_is_true o log q.sub x honest.budget_kept.honest honest.tests r.lower in
      let upper = chain_is_true o log y q.sup honest.budget_kept.honest honest.tests r.upper in
      let part : Entails all (record { sub = q.sub; sup = q.sup; on = Any }) =
      part_of_part all q.sub x q.sup lower (part_of_part all x y q.sup h upper) in
      let follows : Entails all q =
      subst (λ (on : On). Entails all (record { sub = q.sub; sup = q.sup; on = on })) (sym r.of_all) part in
      so.1.follows_not (subst (λ (as_ : List Axiom). Entails as_ q) (sym (whole o r.tested test.0)) follows)

  module _ (known : Rows) (ruled_out : Matrix) (m : Mirrors o log known ruled_out)
      (settled : (x y : ℕ) → x < length o.classes + 2 → y < length o.classes + 2
      → (holds known x y || has ruled_out x y) ≡ true) where
    abbrev c : ℕ → Concept
    c a = class_at (length o.classes) a

    shown_at : (x y : ℕ) → x < length o.classes + 2 → y < length o.classes + 2 → IsShownPair (length o.classes) log x y
    shown_at x y lx ly = elim (or_cases (holds known x y) (has ruled_out x y) (settled x y lx ly)) [
      | inl h ↦ inl ((m.known_is x y lx ly).0 h)
      | inr h ↦ inr ((m.ruled_out_is x y lx ly).0 h)
    ]

    is_order : IsOrder (length o.classes + 2) (holds known)
    is_order = record {
      reflexive = λ x lx. (m.known_is x x lx lx).1 (none (c x));
      transitive =
          λ x y z lx ly lz h k. (m.known_is x z lx lz).1
          (then_chain log (c x) (c y) (c z) ((m.known_is x y lx ly).0 h) ((m.known_is y z ly lz).0 k));
    }

    is_part : (x y : ℕ) → x < length o.classes + 2 → y < length o.classes + 2
        → Entails (all_axioms o.axioms) (query_at (length o.classes) x y) → holds known x y ≡ true
    is_part x y lx ly h = elim (or_cases (holds known x y) (has ruled_out x y) (settled x y lx ly)) [
      | inl k ↦ k
      | inr k ↦ absurd (ruled_out_is_true (c x) (c y) ((m.ruled_out_is x y lx ly).0 k) h)
    ]

    is_subsumption : IsSubsumption o (holds known)
    is_subsumption x y lx ly =
        let kx : x < length o.classes + 2 = omega (arith, lx) in
        let ky : y < length o.classes + 2 = omega (arith, ly) in (
          λ h. chain_is_true o log (c x) (c y) honest.budget_kept.honest honest.tests ((m.known_is x y kx ky).0 h),
          λ h. is_part x y kx ky h,
        )

    pub is_settled : IsSettled o log known
    is_settled = record { count_is = m.count_is; order = is_order; is_so = is_subsumption; shown = shown_at }

-- What an answer of the oracle says of individuals.
use Rattle.std.proofs.Common.{◌≡◌, ◌&&◌, not, Bool, true, false, ℕ, List, refl, ap, sym, subst, ◌∙◌, eqb, eq-eqb}
use Rattle.std.specs.Prelude.{IsTrue}
use Rattle.std.proofs.lemmas.Bool.{and_parts, and_from, eqb-true, not-true, true≢false}
use Rattle.axiom_sets.specs.Sets.{Limited}
use Rattle.shq_terms.specs.Concept.{Concept, top, bottom}
use Rattle.shq_terms.specs.Listed.{Listed}
use Rattle.shq_terms.specs.declared.axioms.Axiom.{Axiom}
use Rattle.shq_terms.specs.declared.axioms.On.TheVariants.{Any}
use Rattle.shq_terms.specs.declared.axioms.Query.{Query}
use Rattle.shq_meaning.specs.Truth.{Interpretation, holds, meets_all, refutes_at, Entails}
use Rattle.finite_model.specs.ModelLists.{ModelLists, meaning}
use Rattle.subsumption.specs.Theory.{all_axioms}
use Rattle.subsumption.specs.Entry.TheVariants.{Test}
use Rattle.subsumption.specs.TestEnd.TheVariants.{Yes}
use Rattle.subsumption.specs.HonestLog.{IsWhole, IsHonestEntry}
use Rattle.subsumption.proofs.Named.{more, whole}
use Rattle.subsumption.specs.Decided.{IsRefuting}
use Rattle.realizer.specs.Instances.{instance_query, IsInstance}

-- a yes says that its query follows from all axioms
pub follows_by_yes : (o : Listed) (s : Limited) (q : Query) (steps : ℕ) (u : Limited) → IsWhole o s
    → IsHonestEntry o (Test s q steps (Yes u)) → Entails (all_axioms o.axioms) q
follows_by_yes o s q steps u is so =
    subst (λ (as_ : List Axiom). Entails as_ q) (whole o s is) (more o u s q so.1.of_axioms so.0 so.1.part so.1.follows)

-- an instance of a class is one of each class of which that is part
pub instance_above : (o : Listed) (x y : Concept) (a : ℕ) → IsInstance o x a
    → Entails (all_axioms o.axioms) (record { sub = x; sup = y; on = Any }) → IsInstance o y a
instance_above o x y a is part i some placed meets v lt =
    both (eqb v (i.individual a)) (holds i x v) (holds i y v) (is i some placed meets v lt)
    (part i some placed meets v lt)
  where
    both : (at p q : Bool) → (at && (true && not p)) ≡ false → (true && (p && not q)) ≡ false
        → (at && (true && not q)) ≡ false
    both false p q h k = refl
    both true true true h k = refl
    both true true false h k = cc
    both true false q h k = cc

-- all things being in a class, each individual is
pub instance_of_all : (o : Listed) (y : Concept) (a : ℕ)
    → Entails (all_axioms o.axioms) (record { sub = top; sup = y; on = Any }) → IsInstance o y a
instance_of_all o y a part i some placed meets v lt =
    both (eqb v (i.individual a)) (holds i y v) (part i some placed meets v lt)
  where
    both : (at q : Bool) → (true && (true && not q)) ≡ false → (at && (true && not q)) ≡ false
    both false q k = refl
    both true q k = k

-- where nothing can have an element, each individual is in each class expression
pub in_each : (o : Listed) (a : ℕ) (c : Concept)
    → Entails (all_axioms o.axioms) (record { sub = top; sup = bottom; on = Any }) → IsInstance o c a
in_each o a c none i some placed meets v lt = absurd (true≢false (none i some placed meets v lt))

module _ (o : Listed) (s : Limited) (q : Query) (m : ModelLists) (is : IsWhole o s) (r : IsRefuting o s q m) where
  abbrev i : Interpretation
  i = meaning m

  -- a counter-model shows of each individual that is not in a class expression there that it need not be an instance
  pub no_instance : (c : Concept) (b : ℕ) → holds i c (i.individual b) ≡ false → IsInstance o c b → ⊥
  no_instance c b out h =
      let k = r.refutes in
      let met : IsTrue (meets_all i (all_axioms o.axioms)) =
      subst (λ (as_ : List Axiom). meets_all i as_ ≡ true) (whole o s is) k.meets_axioms in
      let none : refutes_at i (instance_query c b) (i.individual b) ≡ false =
      h i k.has_element k.places met (i.individual b) (k.places b) in
      let some : refutes_at i (instance_query c b) (i.individual b) ≡ true =
      and_from (eqb (i.individual b) (i.individual b)) (true && not (holds i c (i.individual b)))
      (eq-eqb (i.individual b) (i.individual b) refl) (ap (λ (v : Bool). true && not v) out) in
      true≢false (sym some ∙ none)

  -- and so it does of the one that was asked about
  pub asked_is_out : (c : Concept) (a : ℕ) → q ≡ instance_query c a → holds i c (i.individual a) ≡ false
  asked_is_out c a same =
      let k = r.refutes in
      let some : refutes_at i (instance_query c a) k.counter_example ≡ true =
      subst (λ (p : Query). refutes_at i p k.counter_example ≡ true) same k.refutes in
      let parts = and_parts (eqb k.counter_example (i.individual a)) (true && not (holds i c k.counter_example)) some in
      ap (holds i c) (sym (eqb-true k.counter_example (i.individual a) parts.0))
      ∙ not-true (holds i c k.counter_example) parts.1

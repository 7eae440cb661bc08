-- What follows from an assertion that an individual is in a class.
use Rattle.std.proofs.Common.{◌≡◌, ℕ, Bool, true, false, not, ◌&&◌, eqb, [], ◌∷◌, refl, ap, sym, ◌∙◌, arith}
use Rattle.std.proofs.lemmas.Bool.{eqb-true}
use Rattle.shq_terms.specs.Concept.{Concept, bottom}
use Rattle.shq_terms.specs.declared.axioms.Axiom.TheVariants.{SubClassOf, Member}
use Rattle.shq_terms.specs.declared.axioms.Query.{Query}
use Rattle.shq_meaning.specs.Below.{all_below}
use Rattle.shq_meaning.specs.Truth.{implies, holds, meets, Entails}
use Rattle.shq_meaning.specs.Examples.{is_in}
use Rattle.shq_meaning.proofs.Below.{all_below-false}
use Rattle.shq_meaning.proofs.Members.{member_passes}

pub empty_class_has_no_member : (c : Concept) (a : ℕ) (q : Query) → Entails (Member c a ∷ SubClassOf c bottom ∷ []) q
empty_class_has_no_member c a q i some placed met x inside =
    let asserted : holds i c (i.individual a) ≡ true =
    member_passes (meets i) (Member c a ∷ SubClassOf c bottom ∷ []) met (Member c a) (0, omega arith, refl) in
    let included : all_below i.size (λ y. implies (holds i c y) false) ≡ true =
    member_passes (meets i) (Member c a ∷ SubClassOf c bottom ∷ []) met (SubClassOf c bottom) (1, omega arith, refl) in
    let broken : all_below i.size (λ y. implies (holds i c y) false) ≡ false =
    all_below-false i.size (λ y. implies (holds i c y) false) (i.individual a) (placed a)
    (ap (λ b. implies b false) asserted) in
    let clash : true ≡ false = sym included ∙ broken in
    absurd (cc clash)

pub assertion_follows : (c : Concept) (a : ℕ) → Entails (Member c a ∷ []) (is_in c a)
assertion_follows c a i some placed met x inside = by (eqb x (i.individual a)) refl
  where
    asserted : holds i c (i.individual a) ≡ true
    asserted = member_passes (meets i) (Member c a ∷ []) met (Member c a) (0, omega arith, refl)

    by : (b : Bool) → eqb x (i.individual a) ≡ b → (eqb x (i.individual a) && (true && not (holds i c x))) ≡ false
    by false other = ap (λ b. b && (true && not (holds i c x))) other
    by true same =
        let holds_there : holds i c x ≡ true = ap (holds i c) (eqb-true x (i.individual a) same) ∙ asserted in
        (λ j. same j && (true && not (holds_there j)))

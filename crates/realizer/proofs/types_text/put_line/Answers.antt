use Rattle.std.proofs.Common.{◌≡◌, ℕ, List, [], ◌∷◌, ◌++◌, codes, ◌∙◌, ap, refl, append_assoc}
use Rattle.std.proofs.lemmas.Result.{on_ok_weaker}
use Rattle.ofn_writer.specs.Canonical.{individual_text}
use Rattle.subsumption.specs.ClassNames.{names_or_thing_text}
use Rattle.realizer.proofs.types_text.put_line.Goals as goal

regroup : (out a i t n z : List ℕ) → ((((out ++ a) ++ i) ++ t) ++ n) ++ z ≡ out ++ ((a ++ (i ++ (t ++ n))) ++ z)
regroup out a i t n z = simp append_assoc refl

pub returns : goal.returns
returns c =
    let out = c.args.out.now.items in
    let name = individual_text c.args.ontology.now c.args.line.now.individual in
    let names = names_or_thing_text c.args.ontology.now c.args.line.now.types in
    let named : c.put_individual.new.out.items ≡ (out ++ codes "individual ") ++ name =
    c.in_ok-put_individual.ensures
    ∙ (λ i. c.in_ok-put.ensures.text i ++ individual_text c.args.ontology.now (c.individual.ensures i)) in
    let then_typed : c.put-2.new.out.items ≡ ((out ++ codes "individual ") ++ name) ++ codes " types" =
    c.in_ok-put-2.ensures.text ∙ ap (λ (xs : List ℕ). xs ++ codes " types") named in
    let typed : c.put_names_or_thing.new.out.items
    ≡ (((out ++ codes "individual ") ++ name) ++ codes " types") ++ names =
    c.in_ok-put_names_or_thing.ensures.text
    ∙ (λ i. then_typed i ++ names_or_thing_text c.args.ontology.now (c.types.ensures i)) in
    on_ok_weaker c.put-3.result
    (λ h. h ∙ ap (λ (xs : List ℕ). xs ++ 10 ∷ []) typed
    ∙ regroup out (codes "individual ") name (codes " types") names (10 ∷ []))
    c.put-3.ensures.text

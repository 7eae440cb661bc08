use Rattle.std.proofs.Common.{◌≡◌, ◌<◌, ◌∙◌, List, length, get_or, ap, sym, subst}
use Rattle.refutation_tree.specs.RefutationLists.{RefutationLists}
use Rattle.audit_jobs.specs.Kept.{HasRefutation}
use Rattle.audit_jobs.proofs.TakenOut.{taken}
use Rattle.audit_jobs.proofs.taking.take_refutation.Goals as goal

pub place_of_refutation-place-requires : goal.place_of_refutation-place-requires
place_of_refutation-place-requires c =
    subst (λ (xs : List RefutationLists). HasRefutation xs c.args.axioms.now) (sym c.deref.ensures.value) c.requires

pub returns : goal.returns
returns c =
    let old = c.args.refutations.now.items in
    let p = c.place_of_refutation-place.result in
    let x = c.remove.result in
    let inside : p < length old =
    subst (λ (xs : List RefutationLists). p < length xs) c.deref.ensures.value
    c.place_of_refutation-place.ensures.within in
    let is_of : (get_or old p x).axioms ≡ c.args.axioms.now =
    subst (λ (xs : List RefutationLists). (get_or xs p x).axioms ≡ c.args.axioms.now) c.deref.ensures.value
    (c.place_of_refutation-place.ensures.is x) in
    taken (λ (y : RefutationLists). y.axioms) c.args.axioms.now old c.remove.new.self.items p x inside
    c.remove.ensures.value (ap (λ (y : RefutationLists). y.axioms) c.remove.ensures.value ∙ is_of)
    c.remove.ensures.by_index.2

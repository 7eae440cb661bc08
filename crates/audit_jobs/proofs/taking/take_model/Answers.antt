use Rattle.std.proofs.Common.{◌≡◌, ◌<◌, ◌∙◌, List, length, get_or, ap, sym, subst}
use Rattle.audit_jobs.specs.declared.evidence.CounterModel.{CounterModel}
use Rattle.audit_jobs.specs.Kept.{HasModel}
use Rattle.audit_jobs.proofs.TakenOut.{taken}
use Rattle.audit_jobs.proofs.taking.take_model.Goals as goal

pub place_of_model-place-requires : goal.place_of_model-place-requires
place_of_model-place-requires c =
    subst (λ (xs : List CounterModel). HasModel xs c.args.set.now) (sym c.deref.ensures.value) c.requires

pub returns : goal.returns
returns c =
    let old = c.args.models.now.items in
    let p = c.place_of_model-place.result in
    let x = c.remove.result in
    let inside : p < length old =
    subst (λ (xs : List CounterModel). p < length xs) c.deref.ensures.value c.place_of_model-place.ensures.within in
    let is_of : (get_or old p x).set ≡ c.args.set.now =
    subst (λ (xs : List CounterModel). (get_or xs p x).set ≡ c.args.set.now) c.deref.ensures.value
    (c.place_of_model-place.ensures.is x) in
    taken (λ (y : CounterModel). y.set) c.args.set.now old c.remove.new.self.items p x inside c.remove.ensures.value
    (ap (λ (y : CounterModel). y.set) c.remove.ensures.value ∙ is_of) c.remove.ensures.by_index.2

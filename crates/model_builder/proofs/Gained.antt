-- A gain of nothing, and the same gain said by another test.
use Rattle.std.proofs.Common.{◌≡◌, ℕ, ◌<◌, ◌||◌, Bool, false, refl, ap, ◌∙◌, sym}
use Rattle.std.proofs.Math.Bool.{or-false}
use Rattle.finite_model.specs.ModelLists.{ModelLists, meaning}
use Rattle.model_builder.specs.Gains.{HasLinks}

pub no_links : (k : ModelLists) (f : ℕ → ℕ → ℕ → Bool) → ((s x y : ℕ) → x < k.size → y < k.size → f s x y ≡ false)
    → HasLinks k k f
no_links k f none = record {
  same_size = refl;
  same_members = refl;
  same_individuals = refl;
  links_are =
      λ s x y lt mt. sym
      (ap (λ (b : Bool). (meaning k).in_role s x y || b) (none s x y lt mt) ∙ or-false ((meaning k).in_role s x y));
}

pub same_links_gained : (a b : ModelLists) (f h : ℕ → ℕ → ℕ → Bool) → HasLinks a b f
    → ((s x y : ℕ) → x < a.size → y < a.size → h s x y ≡ f s x y) → HasLinks a b h
same_links_gained a b f h first is = record {
  same_size = first.same_size;
  same_members = first.same_members;
  same_individuals = first.same_individuals;
  links_are =
      λ s x y lt mt. first.links_are s x y lt mt
      ∙ ap (λ (t : Bool). (meaning a).in_role s x y || t) (sym (is s x y lt mt));
}

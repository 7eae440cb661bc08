use Rattle.std.proofs.Common.{◌≡◌, ℕ, List, length, sym, ap, ◌∙◌, subst}
use Rattle.axiom_sets.specs.Sets.{Limited, IsWithin}
use Rattle.shq_terms.specs.declared.axioms.Numbered.{Numbered}
use Rattle.pinpointing_specs.specs.LocalModule.{IsLocalModule}
use Rattle.module_extract.proofs.Joined.{ends}
use Rattle.module_extract.proofs.extraction.module.Goals as goal

pub returns-clause-module : goal.returns-clause-module
returns-clause-module c =
    let axioms = c.axioms-axioms.result.now in
    let q = c.args.query.now in
    let g = c.close.new.self in
    let made = c.into_members.result in
    let same = c.into_members.ensures.members in
    let limit : made.limit ≡ length axioms =
    ap (λ (s : Limited). s.limit) same ∙ c.in_ok-close.ensures.limit ∙ c.in_ok-look_at_each.ensures.limit
    ∙ c.in_ok-growth.ensures.limit in
    let within : IsWithin (length axioms) g.members.members =
    subst (λ (s : Limited). IsWithin (length axioms) s.members) same
    (subst (λ (n : ℕ). IsWithin n made.members) limit c.into_members.ensures.within) in
    let grown =
    c.in_ok-close.ensures.growing q (c.in_ok-look_at_each.ensures.growing q c.in_ok-growth.ensures.growing) in
    let whole : IsLocalModule axioms q g.members.members =
    ends axioms q g grown c.in_ok-close.ensures.settled c.in_ok-close.ensures.none_wait within in
    subst (λ (xs : List Numbered). IsLocalModule xs q made.members) c.axioms-axioms.ensures.all
    (subst (λ (s : Limited). IsLocalModule axioms q s.members) (sym same) whole)

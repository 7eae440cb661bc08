use Rattle.std.proofs.Common.{◌≡◌, ◌+◌, ◌<◌, ◌≤◌, ◌++◌, ◌∷◌, [], List, length, take, sym, ap, ◌∙◌, subst, arith}
use Rattle.std.proofs.lemmas.List.{take_all, take_more}
use Rattle.axiom_sets.specs.Sets.{Limited}
use Rattle.audit_check.specs.Territory.{AreShared}
use Rattle.audit_check.proofs.Growing.{shared_none, shared_more}
use Rattle.audit_check.proofs.choices.shared_by.Goals as goal

pub loop-place-init : goal.loop-place-init
loop-place-init c =
    record {
      limit = ap (λ (s : Limited). s.limit) c.in_ok-blocked.ensures;
      shared =
          subst
          (λ (s : Limited). AreShared [] c.args.others.now.members c.args.number c.args.fitting.now.members s.members)
          (sym c.in_ok-blocked.ensures)
          (shared_none c.args.others.now.members c.args.number c.args.fitting.now.members);
    }

pub loop-place-preserved : goal.loop-place-preserved
loop-place-preserved c =
    let sets = c.args.sets.now in
    let p = c.loop-place.place in
    let j = c.index-sets-place.result in
    let lt : p < length sets = omega arith in
    let longer : take (p + 1) sets ≡ take p sets ++ j ∷ [] =
    take_more sets p j lt ∙ ap (λ (x : Limited). take p sets ++ x ∷ []) (sym c.index-sets-place.is) in
    record {
      limit = c.keep_shared.ensures.limit ∙ c.loop-place.invariant.limit;
      shared =
          shared_more (take p sets) (take (p + 1) sets) j c.args.others.now.members c.args.number
          c.args.fitting.now.members c.loop-place.blocked.members c.keep_shared.new.blocked.members longer
          c.loop-place.invariant.shared c.in_ok-keep_shared.ensures.members;
    }

pub returns-clause-members : goal.returns-clause-members
returns-clause-members c =
    let sets = c.args.sets.now in
    let past : length sets ≤ c.loop-place.place = omega arith in
    subst (λ (xs : List Limited). AreShared xs c.args.others.now.members c.args.number c.args.fitting.now.members
    c.loop-place.blocked.members)
    (take_all c.loop-place.place sets past) c.loop-place.invariant.shared

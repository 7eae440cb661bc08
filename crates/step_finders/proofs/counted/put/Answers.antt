use Rattle.std.proofs.Common.{subst, sym, ap, ◌∙◌, eqb}
use Rattle.std.specs.List.{IsDistinct, list_any}
use Rattle.step_finders.proofs.Gathered.{push_distinct}
use Rattle.step_finders.proofs.counted.put.Goals as goal

pub returns-in_ok-push-clause-distinct : goal.returns-in_ok-push-clause-distinct
returns-in_ok-push-clause-distinct c =
    subst (IsDistinct eqb) (sym c.in_ok-push.ensures.items)
    (push_distinct c.args.found.now.items c.args.number c.requires
    (ap (list_any (λ z. eqb z c.args.number)) (sym c.deref.ensures.value) ∙ sym c.if-not-contains.ensures.value))

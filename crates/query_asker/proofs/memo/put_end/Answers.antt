use Rattle.std.proofs.Common.{◌≡◌, ◌∙◌, ◌∷◌, [], List, ap, sym, subst}
use Rattle.std.specs.List.{Contains}
use Rattle.std.proofs.lemmas.Result.{on_ok_weaker}
use Rattle.axiom_sets.specs.Sets.{Limited}
use Rattle.shq_oracle.specs.TestEnd.{TestEnd}
use Rattle.set_questions.specs.Kept.{kind_of, kept_sets}
use Rattle.query_asker.specs.Memory.{yes_by, no_by, KeepsWithAll}
use Rattle.query_asker.proofs.Remembered.{one_member}
use Rattle.query_asker.proofs.memo.put_end.Goals as goal

pub put-requires : goal.put-requires
put-requires c =
    let copy = c.in_ok-copied-in-Yes.field-0 in
    let e : yes_by c.args.ended.now ≡ copy ∷ [] =
    ap yes_by c.in-Yes.is ∙ ap (λ (x : Limited). x ∷ []) (sym c.in_ok-copied-in-Yes.ensures) in
    c.requires.yes_limits copy (subst (λ (xs : List Limited). Contains xs copy) (sym e) (one_member copy))

pub put-requires-in-No : goal.put-requires-in-No
put-requires-in-No c =
    let copy = c.in_ok-copied-in-No.field-0 in
    let e : no_by c.args.asked.now c.args.ended.now ≡ copy ∷ [] =
    ap (λ (d : TestEnd). no_by c.args.asked.now d) c.in-No.is
    ∙ ap (λ (x : Limited). x ∷ []) (sym c.in_ok-copied-in-No.ensures) in
    c.requires.no_limits copy (subst (λ (xs : List Limited). Contains xs copy) (sym e) (one_member copy))

pub returns-in_ok-copied-in-Yes-clause-yes : goal.returns-in_ok-copied-in-Yes-clause-yes
returns-in_ok-copied-in-Yes-clause-yes c =
    let copy = c.in_ok-copied-in-Yes.field-0 in
    let e : yes_by c.args.ended.now ≡ copy ∷ [] =
    ap yes_by c.in-Yes.is ∙ ap (λ (x : Limited). x ∷ []) (sym c.in_ok-copied-in-Yes.ensures) in
    on_ok_weaker c.put.result
    (λ h. subst
    (λ (xs : List Limited). KeepsWithAll (kind_of c.args.yes.now) xs (kept_sets c.args.yes.now)
    (kept_sets c.put.new.self))
    (sym e) h)
    c.put.ensures.ok

pub returns-in_ok-copied-in-No-clause-no : goal.returns-in_ok-copied-in-No-clause-no
returns-in_ok-copied-in-No-clause-no c =
    let copy = c.in_ok-copied-in-No.field-0 in
    let put = c.put-in-No in
    let e : no_by c.args.asked.now c.args.ended.now ≡ copy ∷ [] =
    ap (λ (d : TestEnd). no_by c.args.asked.now d) c.in-No.is
    ∙ ap (λ (x : Limited). x ∷ []) (sym c.in_ok-copied-in-No.ensures) in
    on_ok_weaker put.result
    (λ h. subst
    (λ (xs : List Limited). KeepsWithAll (kind_of c.args.no.now) xs (kept_sets c.args.no.now) (kept_sets put.new.self))
    (sym e) h)
    put.ensures.ok

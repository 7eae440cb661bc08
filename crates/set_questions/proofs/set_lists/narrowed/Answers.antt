use Rattle.std.proofs.Common.{◌≡◌, ◌∙◌, ◌+◌, ◌-◌, ◌/◌, get_or, subst, arith}
use Rattle.std.specs.declared.cmp.Ordering.TheVariants.{Less, Greater}
use Rattle.std.proofs.lemmas.List.{get_or_default}
use Rattle.pinpointing_specs.specs.Sets.{Limited, list_cmp}
use Rattle.set_questions.proofs.Ordered.{to_right, to_left}
use Rattle.set_questions.proofs.set_lists.narrowed.Goals as goal

pub returns-in-Less-clause-between : goal.returns-in-Less-clause-between
returns-in-Less-clause-between c =
    let sets = c.args.sets.now in
    let s = c.args.set.now in
    let middle = c.args.low + (c.args.high - c.args.low) / 2 in
    let read : c.index-sets-middle.result ≡ get_or sets middle s =
    c.index-sets-middle.is
    ∙ get_or_default sets middle c.index-sets-middle.result s
    (omega (arith, c.requires.some, c.requires.between.within)) in
    to_right sets s c.args.low c.args.high middle c.requires.order c.requires.between (omega arith)
    (omega (arith, c.requires.some)) (subst (λ (x : Limited). list_cmp x s ≡ Less) read c.in-Less.ensures)

pub returns-in-Greater-clause-between : goal.returns-in-Greater-clause-between
returns-in-Greater-clause-between c =
    let sets = c.args.sets.now in
    let s = c.args.set.now in
    let middle = c.args.low + (c.args.high - c.args.low) / 2 in
    let read : c.index-sets-middle.result ≡ get_or sets middle s =
    c.index-sets-middle.is
    ∙ get_or_default sets middle c.index-sets-middle.result s
    (omega (arith, c.requires.some, c.requires.between.within)) in
    to_left sets s c.args.low c.args.high middle c.requires.order c.requires.between (omega arith)
    (omega (arith, c.requires.some)) (subst (λ (x : Limited). list_cmp x s ≡ Greater) read c.in-Greater.ensures)

use Rattle.std.proofs.Common.{ℕ, ◌+◌, List, [], ◌∷◌, ◌++◌, ap, subst, sym, ◌∙◌}
use Rattle.refutation_rules.specs.Numbers.{AreFirst}
use Rattle.refutation_rules.proofs.Renumbered.{first_one, first_more}
use Rattle.refutation_rules.proofs.numbering.number_concepts.Goals as goal

pub loop-place-init : goal.loop-place-init
loop-place-init c =
    first_one c.args.refutation.now.shapes c.args.concepts.now c.len-count.ensures.table c.push.new.self.items
    (c.in_ok-push.ensures.items ∙ ap (λ (l : List ℕ). l ++ 0 ∷ []) c.new-numbers.ensures.items)

pub loop-place-preserved : goal.loop-place-preserved
loop-place-preserved c =
    let l = c.loop-place in
    let a = c.args.refutation.now.shapes in
    let more =
    first_more a l.concepts c.put_concept.new.concepts l.numbers.items (l.place + 1) c.in_ok-number.number l.invariant
    c.put_concept.ensures.kept c.in_ok-number.ensures.number in
    subst (λ (ns : List ℕ). AreFirst a c.put_concept.new.concepts ns (l.place + 1 + 1))
    (sym c.in_ok-push-2.ensures.items) more

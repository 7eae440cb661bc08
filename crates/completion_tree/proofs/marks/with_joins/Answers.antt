use Rattle.std.proofs.Common.{sym, subst, ap, ◌∙◌, List, ℕ}
use Rattle.calculus_specs.specs.declared.facts.Fact.{Fact}
use Rattle.calculus_specs.specs.Joins.{rep}
use Rattle.fact_tree.specs.Told.{IsAlone}
use Rattle.completion_tree.specs.Marks.{is_join, AreWithin}
use Rattle.completion_tree.proofs.Resting.{part_itself, alone_within}
use Rattle.completion_tree.proofs.marks.with_joins.Goals as goal

pub returns-then-is_alone-2-clause-more : goal.returns-then-is_alone-2-clause-more
returns-then-is_alone-2-clause-more g c = part_itself c.args.ground

pub returns-then-is_alone-2-clause-joins : goal.returns-then-is_alone-2-clause-joins
returns-then-is_alone-2-clause-joins g c =
    let es = c.args.trail.now in
    let a = c.args.first in
    let b = c.args.second in
    let same = c.requires.same in
    let alone-a = subst (λ (fs : List (Fact ℕ)). IsAlone fs a) same (c.is_alone.ensures.alone c.if-is_alone.true) in
    let alone-b =
    subst (λ (fs : List (Fact ℕ)). IsAlone fs b) same (c.is_alone-then-is_alone.ensures.alone c.if-is_alone-2.true) in
    let own-a = ap (λ (fs : List (Fact ℕ)). rep fs a) (sym same) ∙ c.requires.first in
    let own-b = ap (λ (fs : List (Fact ℕ)). rep fs b) (sym same) ∙ c.requires.second in
    subst (λ (fs : List (Fact ℕ)). AreWithin (is_join (rep fs) a b) c.args.ground es) (sym same)
    (alone_within es a b c.args.ground own-a own-b alone-a alone-b)

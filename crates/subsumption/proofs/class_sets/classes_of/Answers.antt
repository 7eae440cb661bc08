use Rattle.std.proofs.Common.{◌≡◌, ℕ, ◌++◌, ◌-◌, List, ◌∙◌, sym, ap, map}
use Rattle.std.specs.Prelude.{nat_lt}
use Rattle.std.specs.List.{list_all}
use Rattle.std.proofs.lemmas.List.{append-nil}
use Rattle.axiom_sets.specs.Sets.{member_list}
use Rattle.subsumption.proofs.Members.{class_list-is, numbers_from_one}
use Rattle.subsumption.proofs.class_sets.classes_of.Goals as goal

pub loop-number-init : goal.loop-number-init
loop-number-init c =
    let all : c.into_iter-number-iterator.result ≡ member_list c.args.set.now =
    c.into_iter-number-iterator.ensures.into_iter_gives ∙ c.numbers-number-items.ensures.members in
    record {
      listed = λ i. c.new-classes.ensures.items i ++ map (λ k. k - 1) (all i);
      from_one =
          ap (list_all (λ k. nat_lt 0 k)) all ∙ numbers_from_one c.args.set.now c.numbers-number-items.ensures.within;
    }

pub returns : goal.returns
returns c =
    let items = c.loop-number.classes.items in
    sym (append-nil items)
    ∙ ap (λ (rest : List ℕ). items ++ map (λ k. k - 1) rest) (sym c.in-None.ensures.steps.0)
    ∙ c.loop-number.invariant.listed
    ∙ class_list-is c.args.set.now c.numbers-number-items.ensures.within

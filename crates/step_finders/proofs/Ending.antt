-- The end of a search.
use Rattle.std.proofs.Common.{List}
use Rattle.tableau_specs.specs.declared.Item.{Item}
use Rattle.tableau_specs.specs.Items.{facts_of}
use Rattle.tableau_specs.specs.Steps.{SearchContext, IsSaturated, HasPlainClash}
use Rattle.step_finders.specs.Stepping.{NoStep}

pub saturated : (w : SearchContext) (trail : List Item) → ¬ HasPlainClash w trail → NoStep w (facts_of trail)
    → IsSaturated w trail
saturated w trail none h = record {
  no_clash = none;
  no_add = h.no_add.no_add;
  no_give = h.no_give;
  no_carry = h.no_add.no_carry;
  no_generate = h.no_making.none;
  no_choose = λ b f may alt. h.no_choice.none b may;
}

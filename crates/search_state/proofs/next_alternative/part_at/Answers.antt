use Rattle.search_state.proofs.Placed.{of_part}
use Rattle.search_state.proofs.next_alternative.part_at.Goals as goal

pub returns : goal.returns
returns g c =
    of_part (g.R.Rules.context c.args.rules.now).table c.args.concept c.args.place c.in-Or.parts.now c.in-Or.ensures
    c.requires

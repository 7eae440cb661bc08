use Rattle.step_finders.proofs.Adding.{all_adds, the_carries, none_to_carry}
use Rattle.calculus_specs.specs.Shape.Shape.{all_of}
use Rattle.step_finders.specs.Found.{AllCarried, NoneByShape}
use Rattle.step_finders.specs.Reasons.{IsAddition}
use Rattle.step_finders.proofs.Each.{answers_more}
use Rattle.step_finders.proofs.parts.find_by_all.Goals as goal

pub find_carried-requires-clause-carries : goal.find_carried-requires-clause-carries
find_carried-requires-clause-carries g c =
    the_carries (g.R.Rules.context c.args.search.now.rules.now) (g.S.State.facts c.args.search.now.state.now)
    c.args.node c.args.concept
    c.args.role c.args.filler c.carries.result.now c.requires.shape c.carries.ensures

pub returns-in-Some : goal.returns-in-Some
returns-in-Some g c =
    all_adds (g.R.Rules.context c.args.search.now.rules.now) (g.R.Rules.files c.args.search.now.rules.now)
    (g.S.State.facts c.args.search.now.state.now)
    c.args.node c.args.concept c.args.role c.args.filler c.in-Some.by c.in-Some.end c.requires.is_node
    c.requires.holds c.requires.shape c.in-Some.ensures

pub returns-in-None : goal.returns-in-None
returns-in-None g c =
    let w = g.R.Rules.context c.args.search.now.rules.now in
    let fs = g.S.State.facts c.args.search.now.state.now in
    let pairs = c.carries.result.now in
    let is = IsAddition w fs (g.R.Rules.files c.args.search.now.rules.now) in
    answers_more c.find_carried.result (AllCarried w fs c.args.node pairs)
    (NoneByShape w fs c.args.node (all_of c.args.role c.args.filler)) is is
    (λ all. (
      c.in-None.ensures,
      none_to_carry w fs c.args.node c.args.concept c.args.role c.args.filler pairs c.requires.shape c.carries.ensures
          all,
    ))
    (λ a l. l) c.find_carried.ensures

use Rattle.std.proofs.Common.{sym, ◌∙◌, ap}
use Rattle.calculus_specs.specs.Tree.{tree_of}
use Rattle.shq_nnf.specs.declared.counts.Bound.{Bound}
use Rattle.shq_nnf.specs.Bounds.{bound_form}
use Rattle.shq_nnf.proofs.Bounded.{exactly_of}
use Rattle.shq_nnf.proofs.concepts.Concepts.bounded.Goals as goal

pub returns-in_ok-number-in-Exactly-clause-number : goal.returns-in_ok-number-in-Exactly-clause-number
returns-in_ok-number-in-Exactly-clause-number c =
    let t = c.args.self.now in
    let is = c.in_ok-number-in-Exactly.ensures.number in
    record {
      listed = is.listed;
      stands_for = is.stands_for
          ∙ exactly_of t c.least-in-Exactly.new.self c.most-in-Exactly.new.self c.args.negated c.args.count c.args.role
          c.args.plain c.args.complement c.in_ok-least-in-Exactly.least c.in_ok-most-in-Exactly.most
          c.requires.plain_listed c.requires.complement_listed c.least-in-Exactly.ensures.kept
          c.most-in-Exactly.ensures.kept c.in_ok-least-in-Exactly.ensures.number c.in_ok-most-in-Exactly.ensures.number
          ∙ sym (ap
          (λ (b : Bound). bound_form b c.args.negated c.args.count c.args.role (tree_of t c.args.plain)
          (tree_of t c.args.complement))
          c.in-Exactly.is);
    }

use Rattle.std.proofs.Common.{arith}
use Rattle.search_rules.proofs.Negated.{there_is, there_is_none}
use Rattle.search_rules.proofs.complements.complement_of.Goals as goal

pub returns-then-complement-count-clause-found : goal.returns-then-complement-count-clause-found
returns-then-complement-count-clause-found c =
    there_is c.args.concepts.now c.negated.new.self c.negated.ensures.kept c.args.number c.in_ok-complement.complement
    c.requires c.in_ok-complement.ensures.number (omega (arith, c.if-complement-count.true, c.len-count.ensures.count))

pub returns-else-complement-count-clause-found : goal.returns-else-complement-count-clause-found
returns-else-complement-count-clause-found c =
    there_is_none c.args.concepts.now c.negated.new.self c.negated.ensures.kept c.args.number
    c.in_ok-complement.complement c.requires c.in_ok-complement.ensures.number c.len-count-2.ensures.table
    (omega (arith, c.if-complement-count.false, c.len-count.ensures.count))

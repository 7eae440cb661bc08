use Rattle.std.proofs.Common.{[], ◌∷◌, sym, subst}
use Rattle.ofn_tree.specs.Items.{items_of}
use Rattle.ofn_reader.specs.Queries.{Asks, member_in}
use Rattle.ofn_reader.proofs.Meanings.{member_asked}
use Rattle.ofn_reader.proofs.queries.read_member_query.Goals as goal

pub returns-clause-value : goal.returns-clause-value
returns-clause-value c =
    subst (Asks c.read_member.new.state.counts
    (λ later. member_in c.args.prefixes.now later (items_of (c.args.class.now ∷ c.args.individual.now ∷ []))))
    (sym c.member_query.ensures)
    (member_asked c.args.prefixes.now c.read_member.new.state.counts c.args.class.now c.args.individual.now
    c.in_ok-member.member.class c.in_ok-member.member.individual c.in_ok-member.ensures.value)

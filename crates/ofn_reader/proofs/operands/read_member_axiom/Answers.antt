use Rattle.std.proofs.Common.{[], ◌∷◌, sym, subst}
use Rattle.ofn_tree.specs.Items.{items_of}
use Rattle.ofn_reader.specs.Axioms.{MeansAxiom}
use Rattle.ofn_reader.specs.declared.keywords.AxiomKind.TheVariants as K
use Rattle.ofn_reader.proofs.Meanings.{member_means}
use Rattle.ofn_reader.proofs.operands.read_member_axiom.Goals as goal

pub returns-clause-value : goal.returns-clause-value
returns-clause-value c =
    subst (MeansAxiom c.args.prefixes.now c.read_member.new.state.counts K.Member
    (items_of (c.args.class.now ∷ c.args.individual.now ∷ [])))
    (sym c.member_axiom.ensures)
    (member_means c.args.prefixes.now c.read_member.new.state.counts c.args.class.now c.args.individual.now
    c.in_ok-member.member.class c.in_ok-member.member.individual c.in_ok-member.ensures.value)

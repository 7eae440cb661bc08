use Rattle.std.proofs.Common.{sym, subst}
use Rattle.ofn_tree.specs.Items.{items_of}
use Rattle.std.proofs.Common.{[], ◌∷◌}
use Rattle.ofn_reader.specs.Axioms.{MeansAxiom}
use Rattle.ofn_reader.specs.declared.keywords.AxiomKind.TheVariants as K
use Rattle.ofn_reader.proofs.Meanings.{sub_class_means}
use Rattle.ofn_reader.proofs.operands.read_sub_class.Goals as goal

pub returns-clause-value : goal.returns-clause-value
returns-clause-value c =
    subst (MeansAxiom c.args.prefixes.now c.read_pair.new.state.counts K.SubClassOf
    (items_of (c.args.sub.now ∷ c.args.sup.now ∷ [])))
    (sym c.sub_class.ensures)
    (sub_class_means c.args.prefixes.now c.read_pair.new.state.counts c.args.sub.now c.args.sup.now c.in_ok-pair.pair
    c.in_ok-pair.ensures.value)

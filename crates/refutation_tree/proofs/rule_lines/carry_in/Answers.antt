use Rattle.std.proofs.Common.{map, sym, arith}
use Rattle.std.proofs.lemmas.List.{length-map}
use Rattle.refutation_tree.proofs.Words.{short_carry}
use Rattle.refutation_tree.proofs.rule_lines.carry_in.Goals as goal

pub returns-in_default : goal.returns-in_default
returns-in_default c = sym (short_carry c.args.ontology.now (map (λ w. w.now) c.args.fields.now)
    (omega (arith, length-map c.args.fields.now (λ w. w.now))))

use Rattle.std.proofs.Common.{length, ap, arith}
use Rattle.shq_nnf.specs.Parts.{axiom_parts}
use Rattle.shq_nnf.proofs.Pairs.{length_equivalent}
use Rattle.shq_nnf.proofs.concepts.Concepts.part_at.Goals as goal

pub equivalent_part-requires-clause-listed : goal.equivalent_part-requires-clause-listed
equivalent_part-requires-clause-listed c =
    let same = ap (λ a. length (axiom_parts a)) c.in-EquivalentClasses.is in
    let items = ap length c.items.ensures in
    omega (arith, c.requires.listed, same, items, length_equivalent c.in-EquivalentClasses.classes)

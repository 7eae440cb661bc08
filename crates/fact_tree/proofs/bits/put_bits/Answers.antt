use Rattle.std.proofs.Common.{take, get_or, subst, sym, arith, List, ℕ}
use Rattle.std.proofs.lemmas.List.{take_more}
use Rattle.fact_tree.specs.Short.{HaveBits}
use Rattle.fact_tree.proofs.Indexed.{bits_of_none, more_bits}
use Rattle.fact_tree.proofs.bits.put_bits.Goals as goal

pub loop-concept-init : goal.loop-concept-init
loop-concept-init g c = bits_of_none c.args.bits.now.items c.requires

pub loop-concept-preserved : goal.loop-concept-preserved
loop-concept-preserved g c =
    let i = c.loop-concept.concept-index in
    let cs = c.args.concepts.now in
    subst (λ (ds : List ℕ). HaveBits ds c.put_bit.new.bits.items)
    (sym (take_more cs i 0 (omega (arith, c.loop-concept-test.true))))
    (more_bits (take i cs) c.loop-concept.bits.items c.put_bit.new.bits.items (get_or cs i 0) c.in_ok-put_bit.ensures
    c.loop-concept.invariant)

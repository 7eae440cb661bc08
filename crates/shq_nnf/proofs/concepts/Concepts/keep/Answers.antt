use Rattle.std.proofs.Common.{◌≡◌, length, map, List, true, arith, subst, sym}
use Rattle.calculus_specs.specs.Shape.{Shape, has_parts_below, is_normal}
use Rattle.shq_nnf.specs.Shapes.{form_of_owned}
use Rattle.shq_nnf.specs.Numbers.{IsPut}
use Rattle.shq_nnf.proofs.Inserted.{length_inserted, table_inserted, put_inserted}
use Rattle.shq_nnf.proofs.concepts.Concepts.keep.Goals as goal

pub invariant_of-self-2 : goal.invariant_of-self-2
invariant_of-self-2 c =
    let keys = c.self.inside.kept.keys in
    let inserted = c.in_ok-number.ensures.keys in (
      omega (arith, length_inserted keys _ c.args.shape inserted, c.len.ensures.len, c.if-len.false),
      table_inserted keys _ c.args.shape inserted c.self.invariant.1
          (subst (λ (t : List Shape). has_parts_below (length t) (form_of_owned c.args.shape) ≡ true)
          (sym c.self.view_is) c.requires.parts)
          (subst (λ (t : List Shape). is_normal t (form_of_owned c.args.shape) ≡ true) (sym c.self.view_is)
          c.requires.normal),
    )

pub returns-clause-number : goal.returns-clause-number
returns-clause-number c =
    let keys = c.self.inside.kept.keys in
    let h = c.in_ok-number.ensures.stored in
    subst (λ (t : List Shape). IsPut t (form_of_owned c.args.shape) (map form_of_owned c.insert_full.new.self.keys)
    c.in_ok-number.number)
    c.self.view_is
    (put_inserted keys c.insert_full.new.self.keys c.args.shape h.0 c.in_ok-number.number c.in_ok-number.ensures.keys
    h.1 h.2)

pub returns-clause-table : goal.returns-clause-table
returns-clause-table c =
    table_inserted c.self.inside.kept.keys _ c.args.shape c.in_ok-number.ensures.keys c.self.invariant.1
    (subst (λ (t : List Shape). has_parts_below (length t) (form_of_owned c.args.shape) ≡ true) (sym c.self.view_is)
    c.requires.parts)
    (subst (λ (t : List Shape). is_normal t (form_of_owned c.args.shape) ≡ true) (sym c.self.view_is) c.requires.normal)

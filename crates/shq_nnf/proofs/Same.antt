-- Kept shapes compare alike exactly where their plain shapes are equal.
use Rattle.std.proofs.Common.{◌≡◌, ◌&&◌, true, eqb, eq-eqb, refl, ap}
use Rattle.std.proofs.lemmas.Bool.{eqb-true, and_parts, and_from}
use Rattle.std.proofs.lemmas.Slice.Eq.{bytes_eq-Decides}
use Rattle.calculus_specs.specs.Shape.Shape.{name, not_name, intersection, union}
use Rattle.shq_nnf.specs.declared.shapes.OwnedShape.{OwnedShape}
use Rattle.shq_nnf.specs.declared.shapes.OwnedShape.TheVariants.{Top, Bottom, Name, NotName, And, Or, SomeOf, AllOf}
use Rattle.shq_nnf.specs.declared.shapes.OwnedShape.TheVariants.{Min, Max}
use Rattle.shq_nnf.specs.contracts.shapes.OwnedShapePartialEq.TheImpl.{ghosts}
use Rattle.shq_nnf.specs.Shapes.{form_of_owned}

pub same_form : (a b : OwnedShape) → ghosts.eq a b ≡ true → form_of_owned a ≡ form_of_owned b
same_form Top Top h = refl
same_form Bottom Bottom h = refl
same_form (Name x) (Name y) h = ap name (eqb-true x y h)
same_form (NotName x) (NotName y) h = ap not_name (eqb-true x y h)
same_form (And xs) (And ys) h = ap intersection ((bytes_eq-Decides xs.items ys.items).0 h)
same_form (Or xs) (Or ys) h = ap union ((bytes_eq-Decides xs.items ys.items).0 h)
same_form (SomeOf r c) (SomeOf s d) h =
    let e : (eqb r s && eqb c d) ≡ true = h in
    let t = and_parts (eqb r s) (eqb c d) e in let p = eqb-true r s t.0 in let q = eqb-true c d t.1 in cc
same_form (AllOf r c) (AllOf s d) h =
    let e : (eqb r s && eqb c d) ≡ true = h in
    let t = and_parts (eqb r s) (eqb c d) e in let p = eqb-true r s t.0 in let q = eqb-true c d t.1 in cc
same_form (Min n r c) (Min m s d) h =
    let e : (eqb n m && (eqb r s && eqb c d)) ≡ true = h in
    let t = and_parts (eqb n m) (eqb r s && eqb c d) e in
    let u = and_parts (eqb r s) (eqb c d) t.1 in
    let o = eqb-true n m t.0 in let p = eqb-true r s u.0 in let q = eqb-true c d u.1 in cc
same_form (Max n r c) (Max m s d) h =
    let e : (eqb n m && (eqb r s && eqb c d)) ≡ true = h in
    let t = and_parts (eqb n m) (eqb r s && eqb c d) e in
    let u = and_parts (eqb r s) (eqb c d) t.1 in
    let o = eqb-true n m t.0 in let p = eqb-true r s u.0 in let q = eqb-true c d u.1 in cc
same_form a b h = cc

pub form_same : (a b : OwnedShape) → form_of_owned a ≡ form_of_owned b → ghosts.eq a b ≡ true
form_same Top Top e = refl
form_same Bottom Bottom e = refl
form_same (Name x) (Name y) e = eq-eqb x y cc
form_same (NotName x) (NotName y) e = eq-eqb x y cc
form_same (And xs) (And ys) e = (bytes_eq-Decides xs.items ys.items).1 cc
form_same (Or xs) (Or ys) e = (bytes_eq-Decides xs.items ys.items).1 cc
form_same (SomeOf r c) (SomeOf s d) e = and_from (eqb r s) (eqb c d) (eq-eqb r s cc) (eq-eqb c d cc)
form_same (AllOf r c) (AllOf s d) e = and_from (eqb r s) (eqb c d) (eq-eqb r s cc) (eq-eqb c d cc)
form_same (Min n r c) (Min m s d) e =
    and_from (eqb n m) (eqb r s && eqb c d) (eq-eqb n m cc)
    (and_from (eqb r s) (eqb c d) (eq-eqb r s cc) (eq-eqb c d cc))
form_same (Max n r c) (Max m s d) e =
    and_from (eqb n m) (eqb r s && eqb c d) (eq-eqb n m cc)
    (and_from (eqb r s) (eqb c d) (eq-eqb r s cc) (eq-eqb c d cc))
form_same a b e = cc

use Rattle.std.proofs.Common.{◌≡◌, ℕ, [], ◌-◌, ◌≤◌, length, get_or, take, drop, map, Bor, List, Some, IfOk, Result, Ok}
use Rattle.std.proofs.Common.{Err, ap, subst, sym, arith}
use Rattle.std.proofs.lemmas.List.{length-map, length-take, length-drop}
use Rattle.certificate_lines.specs.Lines.{words}
use Rattle.certificate_lines.specs.declared.fault.LineFault.{LineFault}
use Rattle.certificate_lines.specs.Listed.{Listed}
use Rattle.refutation_tree.specs.RefutationLists.{RefutationLists}
use Rattle.refutation_tree.specs.RefutationText.{refutation_body, begun}
use Rattle.refutation_tree.specs.ReadBack.{IsWritable}
use Rattle.refutation_tree.proofs.Writable.{body_writable, begun_writable}
use Rattle.refutation_tree.proofs.Lengths.{body_adds}
use Rattle.refutation_tree.proofs.reading.read_text.Goals as goal

read_writable : (o : Listed) (k : RefutationLists) (ls : List (List ℕ)) (read : Result RefutationLists LineFault)
    → IsWritable o k → IfOk read (λ m. refutation_body o k ls ≡ Some m) → IfOk read (λ m. IsWritable o m)
read_writable o k ls (Ok m) can is = body_writable o k m ls can is
read_writable o k ls (Err e) can is = is

pub returns-clause-writable : goal.returns-clause-writable
returns-clause-writable c =
    let o = c.args.ontology.now in
    let none : Bor (List ℕ) = record { ref_ptr = (0, 0); now = [] } in
    let begins : IsWritable o (begun c.in_ok-axioms.axioms) =
    begun_writable o (words (get_or c.args.lines.now 1 none).now) c.in_ok-axioms.axioms c.in_ok-axioms.ensures.few
    c.in_ok-axioms.ensures.axioms in
    read_writable o c.new-refutation.result
    (map (λ l. l.now) (take (length c.args.lines.now - 2) (drop 2 c.args.lines.now))) c.read_body.result
    (subst (IsWritable o) (sym c.new-refutation.ensures) begins) c.read_body.ensures.refutation

read_few : (o : Listed) (k : RefutationLists) (ls : List (List ℕ)) (n : ℕ) (read : Result RefutationLists LineFault)
    → length k.lines ≡ 0 → length ls ≤ n → IfOk read (λ m. refutation_body o k ls ≡ Some m)
    → IfOk read (λ m. length m.lines ≤ n)
read_few o k ls n (Ok m) none short is = omega (arith, body_adds o k m ls is, none, short)
read_few o k ls n (Err e) none short is = is

-- the lines after the first two are no more than all
after_two : (ls : List (Bor (List ℕ))) → length (map (λ l. l.now) (take (length ls - 2) (drop 2 ls))) ≤ length ls
after_two ls = omega (
  arith,
  length-map (take (length ls - 2) (drop 2 ls)) (λ l. l.now),
  length-take (length ls - 2) (drop 2 ls),
  length-drop 2 ls,
)

pub returns-clause-lines : goal.returns-clause-lines
returns-clause-lines c =
    let lines = c.args.lines.now in
    let none : length c.new-refutation.result.lines ≡ 0 =
    ap (λ (k : RefutationLists). length k.lines) c.new-refutation.ensures in
    read_few c.args.ontology.now c.new-refutation.result (map (λ l. l.now) (take (length lines - 2) (drop 2 lines)))
    (length lines) c.read_body.result none (after_two lines) c.read_body.ensures.refutation

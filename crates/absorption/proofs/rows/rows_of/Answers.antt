use Rattle.std.proofs.Common.{◌≡◌, ◌+◌, ◌++◌, List, take, get_or, subst, sym, ap, ◌∙◌}
use Rattle.std.proofs.lemmas.List.{take_more}
use Rattle.calculus_specs.specs.Rows.{Part, NumberedPart}
use Rattle.row_cache.specs.Parts.{axiom_parts}
use Rattle.row_cache.proofs.Numbers.{extends_twice}
use Rattle.row_cache.specs.Theory.{parts_in, parts_at, numbered_parts, named_parts}
use Rattle.absorption.specs.Rows.{AreRowsOf}
use Rattle.absorption.proofs.Listed.{named_parts-push}
use Rattle.absorption.proofs.rows.rows_of.Goals as goal

pub loop-number-preserved : goal.loop-number-preserved
loop-number-preserved c =
    let axioms = c.args.ontology.now.axioms in
    let ks = c.args.numbers.now in
    let i = c.loop-number.number-index in
    let k = get_or ks i 0 in
    let before = named_parts axioms (take i ks) in
    let parts : axiom_parts c.axiom.result.now.axiom ≡ parts_at axioms k = ap parts_in c.axiom.ensures in
    let more : named_parts axioms (take (i + 1) ks)
    ≡ before ++ numbered_parts k 1 (axiom_parts c.axiom.result.now.axiom) =
    ap (named_parts axioms) (take_more ks i 0 c.loop-number-test.true) ∙ named_parts-push axioms (take i ks) k
    ∙ ap (λ (qs : List Part). before ++ numbered_parts k 1 qs) (sym parts) in
    record {
      rows =
          subst (λ (l : List NumberedPart). AreRowsOf c.push_rows.new.concepts l c.push_rows.new.rows.items) (sym more)
          (c.in_ok-push_rows.ensures.rows.added before c.loop-number.invariant.rows);
      kept =
          extends_twice c.args.concepts.now c.loop-number.concepts c.push_rows.new.concepts c.loop-number.invariant.kept
          c.push_rows.ensures.kept;
    }

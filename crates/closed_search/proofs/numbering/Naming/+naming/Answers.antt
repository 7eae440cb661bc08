use Rattle.std.proofs.Common.{ℕ, List, [], ◌∷◌, ◌++◌, take, get_or, subst, sym}
use Rattle.std.proofs.lemmas.List.{take_more}
use Rattle.std.proofs.lemmas.Result.{IfOk-weaker}
use Rattle.calculus_specs.specs.Shape.{Shape}
use Rattle.refutation_truth.specs.Shapes.{form_of_owned}
use Rattle.closed_search.specs.Naming.{IsPut, IsNamed, IsRenamed, AreRenamed}
use Rattle.closed_search.proofs.Names.{unused, admitted, named_new, renamed_more, below_at}
use Rattle.closed_search.proofs.numbering.Naming.+naming.Goals as goal

pub name_new-put-requires-clause-new : goal.name_new-put-requires-clause-new
name_new-put-requires-clause-new t c =
    let r =
    subst (λ (f : Shape). IsRenamed c.args.concepts.now c.args.self.now c.renamed.new.self c.args.concept f
    (form_of_owned c.in_ok-shape.shape))
    c.shape.ensures.shape c.in_ok-shape.ensures in
    unused c.args.concepts.now c.shape.ensures.table c.args.self.now c.renamed.new.self c.args.concept
    (form_of_owned c.in_ok-shape.shape) c.requires.listed c.requires.new r

pub name_new-put-requires-clause-admitted : goal.name_new-put-requires-clause-admitted
name_new-put-requires-clause-admitted t c =
    let r =
    subst (λ (f : Shape). IsRenamed c.args.concepts.now c.args.self.now c.renamed.new.self c.args.concept f
    (form_of_owned c.in_ok-shape.shape))
    c.shape.ensures.shape c.in_ok-shape.ensures in
    admitted c.args.concepts.now c.shape.ensures.table c.args.self.now c.renamed.new.self c.args.concept
    (form_of_owned c.in_ok-shape.shape) c.requires.listed c.requires.new r

pub name_new-returns : goal.name_new-returns
name_new-returns t c =
    let r =
    subst (λ (f : Shape). IsRenamed c.args.concepts.now c.args.self.now c.renamed.new.self c.args.concept f
    (form_of_owned c.in_ok-shape.shape))
    c.shape.ensures.shape c.in_ok-shape.ensures in
    IfOk-weaker c.put.result
    (IsPut c.renamed.new.self c.put.new.self c.args.concept (form_of_owned c.in_ok-shape.shape))
    (IsNamed c.args.concepts.now c.args.self.now c.put.new.self c.args.concept)
    (λ n p. named_new c.args.concepts.now c.shape.ensures.table c.args.self.now c.renamed.new.self c.args.concept
    (form_of_owned c.in_ok-shape.shape) c.requires.listed c.requires.new r c.put.new.self n p)
    c.put.ensures

pub named_parts-loop-part-preserved : goal.named_parts-loop-part-preserved
named_parts-loop-part-preserved t c =
    let i = c.loop-part.part-index in
    let p = get_or c.args.parts.now i 0 in
    subst (λ (ps : List ℕ). AreRenamed c.args.concepts.now c.args.self.now c.name.new.self c.args.above ps
    c.push.new.self.items)
    (sym (take_more c.args.parts.now i 0 c.loop-part-test.true))
    (subst
    (AreRenamed c.args.concepts.now c.args.self.now c.name.new.self c.args.above (take i c.args.parts.now ++ p ∷ []))
    (sym c.in_ok-push.ensures.items)
    (renamed_more c.args.concepts.now c.args.self.now c.loop-part.self c.name.new.self c.args.above p
    c.in_ok-number.number (take i c.args.parts.now) c.loop-part.numbers.items
    (below_at c.args.above i c.args.parts.now 0 c.requires.below c.loop-part-test.true) c.loop-part.invariant
    c.in_ok-number.ensures))

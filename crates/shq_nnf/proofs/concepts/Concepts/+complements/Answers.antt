use Rattle.std.proofs.Common.{◌+◌, ℕ, true, false, take, IfOk, map, List, ap, subst, sym, ◌∙◌}
use Rattle.shq_meaning.specs.Concept.{Concept}
use Rattle.calculus_specs.specs.Normal.{negated_form}
use Rattle.calculus_specs.specs.Shape.Shape.{top, bottom, name, not_name, some_of, all_of}
use Rattle.calculus_specs.specs.Tree.{tree_of}
use Rattle.shq_nnf.specs.Bounds.{joined_form}
use Rattle.shq_nnf.specs.Shapes.{form_of_owned}
use Rattle.shq_nnf.specs.Numbers.{IsNumber, AreNumbers}
use Rattle.shq_nnf.proofs.Numbers.{extends_twice}
use Rattle.shq_nnf.proofs.Stable.{complement_is, intersection_complement, union_complement, least_complement}
use Rattle.shq_nnf.proofs.Stable.{most_complement, complements_push}
use Rattle.shq_nnf.proofs.concepts.Concepts.+complements.Goals as goal

pub complement_of-returns-in-Top-clause-number : goal.complement_of-returns-in-Top-clause-number
complement_of-returns-in-Top-clause-number t c =
    let table = c.args.self.now in
    subst (λ (k : Concept). IfOk c.constant.result (λ n. IsNumber c.constant.new.self n k))
    (complement_is table c.in_ok-shape.ensures.table c.args.concept c.requires top
    (sym (ap form_of_owned c.in-Top.is) ∙ c.in_ok-shape.ensures.shape))
    c.constant.ensures.number

pub complement_of-returns-in-Bottom-clause-number : goal.complement_of-returns-in-Bottom-clause-number
complement_of-returns-in-Bottom-clause-number t c =
    let table = c.args.self.now in
    subst (λ (k : Concept). IfOk c.constant-in-Bottom.result (λ n. IsNumber c.constant-in-Bottom.new.self n k))
    (complement_is table c.in_ok-shape.ensures.table c.args.concept c.requires bottom
    (sym (ap form_of_owned c.in-Bottom.is) ∙ c.in_ok-shape.ensures.shape))
    c.constant-in-Bottom.ensures.number

pub complement_of-returns-in-Name-clause-number : goal.complement_of-returns-in-Name-clause-number
complement_of-returns-in-Name-clause-number t c =
    let table = c.args.self.now in
    subst (λ (k : Concept). IfOk c.literal.result (λ n. IsNumber c.literal.new.self n k))
    (complement_is table c.in_ok-shape.ensures.table c.args.concept c.requires (name c.in-Name.class)
    (sym (ap form_of_owned c.in-Name.is) ∙ c.in_ok-shape.ensures.shape))
    c.literal.ensures.number

pub complement_of-returns-in-NotName-clause-number : goal.complement_of-returns-in-NotName-clause-number
complement_of-returns-in-NotName-clause-number t c =
    let table = c.args.self.now in
    subst (λ (k : Concept). IfOk c.literal-in-NotName.result (λ n. IsNumber c.literal-in-NotName.new.self n k))
    (complement_is table c.in_ok-shape.ensures.table c.args.concept c.requires (not_name c.in-NotName.class)
    (sym (ap form_of_owned c.in-NotName.is) ∙ c.in_ok-shape.ensures.shape))
    c.literal-in-NotName.ensures.number

pub complement_of-returns-in-SomeOf-clause-number : goal.complement_of-returns-in-SomeOf-clause-number
complement_of-returns-in-SomeOf-clause-number t c =
    let table = c.args.self.now in
    subst (λ (k : Concept). IfOk c.quantified_complement.result (λ n. IsNumber c.quantified_complement.new.self n k))
    (complement_is table c.in_ok-shape.ensures.table c.args.concept c.requires
    (some_of c.in-SomeOf.role c.in-SomeOf.filler) (sym (ap form_of_owned c.in-SomeOf.is) ∙ c.in_ok-shape.ensures.shape))
    c.quantified_complement.ensures.number

pub complement_of-returns-in-AllOf-clause-number : goal.complement_of-returns-in-AllOf-clause-number
complement_of-returns-in-AllOf-clause-number t c =
    let table = c.args.self.now in
    subst (λ (k : Concept). IfOk c.quantified_complement-in-AllOf.result
    (λ n. IsNumber c.quantified_complement-in-AllOf.new.self n k))
    (complement_is table c.in_ok-shape.ensures.table c.args.concept c.requires
    (all_of c.in-AllOf.role c.in-AllOf.filler) (sym (ap form_of_owned c.in-AllOf.is) ∙ c.in_ok-shape.ensures.shape))
    c.quantified_complement-in-AllOf.ensures.number

pub complement_of-returns-in-And-clause-number : goal.complement_of-returns-in-And-clause-number
complement_of-returns-in-And-clause-number t c =
    let table = c.args.self.now in
    subst (λ (k : Concept). IfOk c.joined_complement.result (λ n. IsNumber c.joined_complement.new.self n k))
    (ap (λ (l : List ℕ). joined_form true (map (λ d. negated_form (tree_of table d)) l)) c.deref.ensures.value
    ∙ intersection_complement table c.in_ok-shape.ensures.table c.args.concept c.requires c.in-And.parts.items
    (sym (ap form_of_owned c.in-And.is) ∙ c.in_ok-shape.ensures.shape))
    c.joined_complement.ensures.number

pub complement_of-returns-in-Or-clause-number : goal.complement_of-returns-in-Or-clause-number
complement_of-returns-in-Or-clause-number t c =
    let table = c.args.self.now in
    subst
    (λ (k : Concept). IfOk c.joined_complement-in-Or.result (λ n. IsNumber c.joined_complement-in-Or.new.self n k))
    (ap (λ (l : List ℕ). joined_form false (map (λ d. negated_form (tree_of table d)) l)) c.deref-in-Or.ensures.value
    ∙ union_complement table c.in_ok-shape.ensures.table c.args.concept c.requires c.in-Or.parts.items
    (sym (ap form_of_owned c.in-Or.is) ∙ c.in_ok-shape.ensures.shape))
    c.joined_complement-in-Or.ensures.number

pub complement_of-returns-in-Min-clause-number : goal.complement_of-returns-in-Min-clause-number
complement_of-returns-in-Min-clause-number t c =
    let table = c.args.self.now in
    subst (λ (k : Concept). IfOk c.at_most.result (λ n. IsNumber c.at_most.new.self n k))
    ((least_complement table c.in_ok-shape.ensures.table c.args.concept c.requires c.in-Min.count c.in-Min.role
    c.in-Min.filler (sym (ap form_of_owned c.in-Min.is) ∙ c.in_ok-shape.ensures.shape)).2)
    c.at_most.ensures.number

pub complement_of-returns-clause-number : goal.complement_of-returns-clause-number
complement_of-returns-clause-number t c =
    let table = c.args.self.now in
    subst (λ (k : Concept). IfOk c.at_least.result (λ n. IsNumber c.at_least.new.self n k))
    ((most_complement table c.in_ok-shape.ensures.table c.args.concept c.requires c.in-Max.count c.in-Max.role
    c.in-Max.filler (sym (ap form_of_owned c.in-Max.is) ∙ c.in_ok-shape.ensures.shape)).2)
    c.at_least.ensures.number

pub complements-loop-part-preserved : goal.complements-loop-part-preserved
complements-loop-part-preserved t c =
    let first = c.args.self.now in
    let before = c.loop-part.self in
    let after = c.complement_of.new.self in
    let ns = c.loop-part.numbers.items in
    record {
      are =
          subst (λ l. AreNumbers after l
          (map (λ d. negated_form (tree_of first d)) (take (c.loop-part.part-index + 1) c.args.parts.now)))
          (sym c.in_ok-push.ensures.items)
          (complements_push first before after c.args.above c.args.parts.now c.loop-part.part-index ns
          c.in_ok-number.number c.requires.listed c.requires.below c.loop-part-test.true c.loop-part.invariant.kept
          c.complement_of.ensures.kept c.loop-part.invariant.are c.in_ok-number.ensures.number);
      kept = extends_twice first before after c.loop-part.invariant.kept c.complement_of.ensures.kept;
    }

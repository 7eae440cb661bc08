use Rattle.std.proofs.Common.{◌≡◌, ◌++◌, ◌+◌, ◌∷◌, [], IfOk, map, not, take, List, arith, ap, subst, sym, ◌∙◌}
use Rattle.std.proofs.lemmas.List.{map_more}
use Rattle.shq_meaning.specs.Concept.{Concept}
use Rattle.shq_meaning.specs.Depth.{depth}
use Rattle.shq_meaning.proofs.Depth.{depth_at}
use Rattle.shq_meaning.specs.Node.{tree}
use Rattle.calculus_specs.specs.Normal.{normal_form, negated_form}
use Rattle.calculus_specs.specs.Tree.{tree_of}
use Rattle.shq_nnf.specs.Bounds.{signed_form, joined_form}
use Rattle.shq_nnf.specs.Counts.{has_counts_within}
use Rattle.shq_nnf.specs.Numbers.{IsNumber, AreNumbers}
use Rattle.shq_nnf.proofs.Numbers.{tree_stays, numbers_stay, numbers_push, extends_twice}
use Rattle.shq_nnf.proofs.Bounded.{bound_form_used, intersection_form, union_form, counts_at}
use Rattle.shq_nnf.proofs.concepts.Concepts.+forms.Goals as goal

pub bounded_form-returns-clause-number : goal.bounded_form-returns-clause-number
bounded_form-returns-clause-number t c =
    let is = c.in_ok-number.ensures.number in
    let plain = c.in_ok-plain.ensures.number in
    let complement = c.in_ok-complement.ensures.number in
    let a = c.filler.new.self in
    let b = c.filler-2.new.self in
    let used =
    bound_form_used c.args.bound c.args.negated c.args.count c.args.role (tree_of b c.in_ok-plain.plain)
    (tree_of b c.in_ok-complement.complement) (normal_form c.args.filler.now) (negated_form c.args.filler.now)
    (λ u. tree_stays a b c.filler-2.ensures.kept c.in_ok-plain.plain plain.listed
    ∙ plain.stands_for (c.uses_plain-uses_plain.ensures ∙ u))
    (λ u. complement.stands_for (c.uses_negated-uses_negated.ensures ∙ u)) in
    subst (λ (k : Concept). IsNumber c.bounded.new.self c.in_ok-number.number k) used is

pub form-returns-in-And-clause-number : goal.form-returns-in-And-clause-number
form-returns-in-And-clause-number t c =
    subst (λ (k : Concept). IfOk c.joined_form.result (λ n. IsNumber c.joined_form.new.self n k))
    (ap (λ (cs : List Concept). joined_form c.args.negated (map (signed_form c.args.negated) cs))
    c.deref-in-And.ensures.value
    ∙ intersection_form c.args.negated c.in-And.parts.items
    ∙ ap (signed_form c.args.negated) (sym (ap tree c.in-And.is) ∙ c.concept.view_is))
    c.joined_form.ensures.number

pub form-returns-in-Or-clause-number : goal.form-returns-in-Or-clause-number
form-returns-in-Or-clause-number t c =
    subst (λ (k : Concept). IfOk c.joined_form-in-Or.result (λ n. IsNumber c.joined_form-in-Or.new.self n k))
    (ap (λ (cs : List Concept). joined_form (not c.args.negated) (map (signed_form c.args.negated) cs))
    c.deref-in-Or.ensures.value
    ∙ union_form c.args.negated c.in-Or.parts.items
    ∙ ap (signed_form c.args.negated) (sym (ap tree c.in-Or.is) ∙ c.concept.view_is))
    c.joined_form-in-Or.ensures.number

pub forms-form-requires : goal.forms-form-requires
forms-form-requires t c =
    let cs = c.args.concepts.now in
    let i = c.loop-concept.concept-index in (
      omega (
        arith,
        c.decreases,
        ap depth c.concept-item.is,
        depth_at cs i c.concept-item.result c.loop-concept-test.true,
      ),
      ap (has_counts_within 100) c.concept-item.is
          ∙ counts_at 100 cs i c.concept-item.result c.loop-concept-test.true c.requires,
    )

pub forms-loop-concept-preserved : goal.forms-loop-concept-preserved
forms-loop-concept-preserved t c =
    let cs = c.args.concepts.now in
    let i = c.loop-concept.concept-index in
    let f = signed_form c.args.negated in
    let before = c.loop-concept.self in
    let after = c.form.new.self in
    let d = c.concept-item.result in
    let stay =
    numbers_stay before after c.loop-concept.numbers.items (map f (take i cs)) c.form.ensures.kept
    c.loop-concept.invariant.are in
    let push =
    numbers_push after c.loop-concept.numbers.items (map f (take i cs)) c.in_ok-number.number (f d) stay
    c.in_ok-number.ensures.number in
    let one : map f (take i cs) ++ f d ∷ [] ≡ map f (take (i + 1) cs) =
    ap (λ (k : Concept). map f (take i cs) ++ f k ∷ []) c.concept-item.is
    ∙ sym (map_more f cs i d c.loop-concept-test.true) in
    record {
      are =
          subst (λ (l : List Concept). AreNumbers after c.push.new.self.items l) one
          (subst (λ ns. AreNumbers after ns (map f (take i cs) ++ f d ∷ [])) (sym c.in_ok-push.ensures.items) push);
      kept = extends_twice c.args.self.now before after c.loop-concept.invariant.kept c.form.ensures.kept;
    }

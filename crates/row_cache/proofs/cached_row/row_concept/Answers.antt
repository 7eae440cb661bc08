use Rattle.std.proofs.Common.{◌≡◌, ◌∙◌, ap, subst, sym, true, List, ℕ, map, length, ltb}
use Rattle.std.specs.List.{list_all}
use Rattle.std.proofs.lemmas.Bool.{and_parts}
use Rattle.refutation_truth.specs.Concept.{Concept}
use Rattle.refutation_truth.specs.Normal.{negated_form, or_of}
use Rattle.refutation_truth.specs.TheoryRows.{is_ascending, is_name, conjunct_at}
use Rattle.refutation_truth.specs.Tree.{tree_of}
use Rattle.refutation_truth.specs.Numbers.{IsNumber, AreNumbers}
use Rattle.row_cache.specs.Rows.{other_numbers}
use Rattle.row_cache.proofs.Places.{names_low, others_listed}
use Rattle.row_cache.proofs.Assembled.{concept_is}
use Rattle.row_cache.proofs.cached_row.row_concept.Goals as goal

pub others-requires-clause-low : goal.others-requires-clause-low
others-requires-clause-low c =
    let cs = map (tree_of c.args.concepts.now) c.args.conjuncts.now in
    let ps = c.args.positions.now in
    names_low cs ps (and_parts (is_ascending ps) (list_all (λ i. is_name (conjunct_at cs i)) ps) c.requires.positions).1

pub complements-requires : goal.complements-requires
complements-requires c =
    let t = c.args.concepts.now in
    subst (λ (l : List ℕ). list_all (λ n. ltb n (length t)) l ≡ true)
    (sym (c.deref.ensures.value ∙ c.in_ok-others.ensures))
    (others_listed (length t) 1 c.args.positions.now c.args.conjuncts.now c.requires.listed)

pub returns-clause-concept : goal.returns-clause-concept
returns-clause-concept c =
    let t = c.args.concepts.now in
    let u = c.complements.new.concepts in
    let cs = c.args.conjuncts.now in
    let ps = c.args.positions.now in
    let ms = c.in_ok-members.members.items in
    let are : AreNumbers u ms (map (λ n. negated_form (tree_of t n)) (other_numbers 1 ps cs)) =
    subst (λ (l : List ℕ). AreNumbers u ms (map (λ n. negated_form (tree_of t n)) l))
    (c.deref.ensures.value ∙ c.in_ok-others.ensures) c.in_ok-members.ensures.numbers in
    subst (λ (k : Concept). IsNumber c.union_of.new.self c.in_ok-concept.concept k)
    (ap (λ (l : List ℕ). or_of (map (tree_of u) l)) (c.deref-2.ensures.value ∙ c.in_ok-push.ensures.items)
    ∙ concept_is t u cs ps ms c.args.right c.in_ok-members.ensures.kept c.requires.right_listed are)
    c.in_ok-concept.ensures.number

-- Facts that are given, and nodes that differ.
use Rattle.std.proofs.Common.{◌≡◌, ℕ, ◌&&◌, eqb, Bool, true, List, [], ◌∷◌, length, Option, Some, None, refl, ap, subst}
use Rattle.std.proofs.Common.{sym, ◌∙◌}
use Rattle.std.proofs.lemmas.Bool.{and_from}
use Rattle.shq_terms.specs.Concept.{Concept}
use Rattle.calculus_specs.specs.Shape.{Shape}
use Rattle.calculus_specs.specs.Tree.{tree_of}
use Rattle.calculus_specs.specs.declared.facts.Fact.{Fact}
use Rattle.calculus_specs.specs.Joins.{rep}
use Rattle.calculus_specs.specs.State.{are_apart}
use Rattle.calculus_specs.specs.Reading.{read_facts, is_fact_listed, are_listed}
use Rattle.calculus_specs.proofs.Reading.{keeps_state}
use Rattle.branch_facts.specs.NumberedBranch.{NumberedBranch as Branch, has_node}
use Rattle.calculus_specs.specs.Line.{Line}
use Rattle.calculus_specs.specs.Rules.{Known, knows, when, fact_children}
use Rattle.calculus_specs.specs.Rules.{with_facts as known_with}
use Rattle.refutation_rules.specs.declared.outcome.Outcome.{Outcome}
use Rattle.refutation_rules.specs.declared.outcome.Outcome.TheVariants.{More}
use Rattle.refutation_rules.specs.Outcomes.{known_of, children_after, IsFitIfSome, AddsFactIfSome}
use Rattle.refutation_rules.specs.Assertions.{IsFactFound}
use Rattle.refutation_rules.specs.RefutationContext.{RefutationContext, line_children, IsOutcome}
use Rattle.refutation_rules.specs.Tests.{are_differing}
use Rattle.refutation_rules.proofs.Children.{known_more}

-- ---- facts that are given

pub fact_given : (f : RefutationContext) (k : Branch) (line : Line) (asked : Option (Fact Concept))
    (found : Option (Fact ℕ)) (o : Option Outcome)
    → line_children f k line ≡ fact_children (known_of f.table k) asked → has_node k 0 ≡ true
    → IsFactFound f.table asked found → AddsFactIfSome found o → IsOutcome f k line o
fact_given f k line None None o e known found is = record {
  children = e ∙ sym (ap (children_after f.table k) is);
  fit = subst (λ (p : Option Outcome). IsFitIfSome (length f.table) k p) (sym is) tt;
}
fact_given f k line None (Some g) o e known found is = absurd found
fact_given f k line (Some a) None o e known found is = absurd found
fact_given f k line (Some a) (Some g) (Some (More fs)) e known found is =
    let one = ap (read_facts (tree_of f.table)) is ∙ ap (λ (b : Fact Concept). b ∷ []) found.0 in
    record {
      children = e ∙ ap (λ (b : Bool). when b (Some (known_with (known_of f.table k) (a ∷ []) ∷ []))) known
          ∙ ap (λ (j : Known). Some (j ∷ [])) (known_more f.table k fs.items (a ∷ []) one);
      fit = ap (are_listed (length f.table)) is ∙ and_from (is_fact_listed (length f.table) g) true found.1 refl;
    }
fact_given f k line (Some a) (Some g) _ e known found is = absurd is

-- ---- nodes that are apart and one

pub differ_read : (table : List Shape) (k : Branch) (y z : ℕ)
    → are_differing k y z
    ≡ (knows (known_of table k) y && knows (known_of table k) z && are_apart (known_of table k).facts y z
    && eqb (rep (known_of table k).facts y) (rep (known_of table k).facts z))
differ_read table k y z =
    let kept = keeps_state ℕ Concept (tree_of table) k.facts in
    λ i. has_node k y && has_node k z && sym (kept.aparts y z) i && eqb (sym (kept.reps y) i) (sym (kept.reps z) i)

-- A longer table serves the same context, and lines read the same by it.
use Rattle.std.proofs.Common.{◌≡◌, ℕ, ◌+◌, true, List, length, sym, ◌∙◌}
use Rattle.shq_terms.specs.Concept.{bottom}
use Rattle.shq_terms.specs.declared.axioms.Query.{Query}
use Rattle.calculus_specs.specs.Normal.{normal_form, negated_form}
use Rattle.calculus_specs.specs.Shape.{Shape}
use Rattle.shq_nnf.specs.Numbers.{Extends}
use Rattle.shq_nnf.proofs.Numbers.{number_stays}
use Rattle.role_box.specs.declared.role_axiom.RoleAxiom.{RoleAxiom}
use Rattle.role_box.specs.RoleAxioms.{role_axioms}
use Rattle.row_cache.specs.Cache.{CacheState, HasSameAxioms}
use Rattle.calculus_specs.specs.Reading.{are_listed}
use Rattle.branch_facts.specs.NumberedBranch.{NumberedBranch as Branch}
use Rattle.calculus_specs.specs.Line.{Line}
use Rattle.calculus_specs.specs.Rules.{children_of}
use Rattle.calculus_specs.specs.Valid.{concept_at}
use Rattle.row_cache.specs.Theory.{question_of}
use Rattle.refutation_rules.specs.RefutationContext.{RefutationContext, IsRefutationContext, IsSameButTable}
use Rattle.refutation_rules.specs.RefutationContext.{line_children}
use Rattle.refutation_rules.proofs.Reading.{known_stays}
use Rattle.refutation_rules.proofs.Renumbered.{first_stays}

pub context_stays : (individuals : ℕ) (f g : CacheState) (shapes : List Shape) (q : Query) (roles : List RoleAxiom)
    (numbers : List ℕ) (sub not_sup none : ℕ)
    → IsRefutationContext individuals f shapes q roles numbers sub not_sup none → Extends f.table g.table
    → HasSameAxioms f g → IsRefutationContext individuals g shapes q roles numbers sub not_sup none
context_stays individuals f g shapes q roles numbers sub not_sup none is e over = record {
  few_individuals = is.few_individuals;
  roles_are = is.roles_are ∙ sym (λ i. role_axioms (over.axioms i) (over.named i));
  concepts = first_stays shapes f.table g.table numbers (length shapes + 1) is.concepts e;
  sub_is = number_stays f.table g.table sub (normal_form q.sub) e is.sub_is;
  not_sup_is = number_stays f.table g.table not_sup (negated_form q.sup) e is.not_sup_is;
  bottom_is = number_stays f.table g.table none bottom e is.bottom_is;
}

pub line_stays : (f g : RefutationContext) (k : Branch) (line : Line) → IsSameButTable f g → Extends f.table g.table
    → are_listed (length f.table) k.facts ≡ true → line_children g k line ≡ line_children f k line
line_stays f g k line same e h =
    let known = known_stays f.table g.table k e h in
    λ i. children_of (question_of (same.individuals i) (same.axioms i) (same.named i) (same.query i))
    (concept_at (same.shapes i)) (known i) line

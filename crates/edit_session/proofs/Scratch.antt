-- Answers are those from scratch.
use Rattle.std.proofs.Common.{◌≡◌, ◌⊎◌, ℕ, List, [], get_or, ap, sym, subst, ◌∙◌, inl, inr, arith}
use Rattle.axiom_sets.specs.Sets.{Limited}
use Rattle.pinpointing_specs.proofs.Grown.{grows}
use Rattle.shq_terms.specs.declared.axioms.Query.{Query}
use Rattle.ofn_reader.specs.Queries.{query_start}
use Rattle.ofn_reader.proofs.Unique.{queries, queries_not_refused}
use Rattle.edit_session.specs.Sessions.{State}
use Rattle.edit_session.specs.ScriptLines.{Request}
use Rattle.edit_session.specs.Said.{yes_line, no_line, IsYes, IsNo, IsAnsweredOrRefused, SaidTo}
use Rattle.edit_session.specs.Laws.{IsFromScratch, AnswersAreFromScratch}

-- a yes is no no
differ : (u : Limited) → yes_line u ≡ no_line → ⊥
differ u e = let k : ◌≡◌ {A = ℕ} 121 110 = ap (λ (xs : List ℕ). get_or xs 0 0) e in absurd (omega (arith, k))

verdict_is : (s : State) (q : Query) (answer : List ℕ) → IsYes s q answer ⊎ IsNo s q answer → IsFromScratch s q answer
verdict_is s q answer (inl y) = (
  (
    λ e. absurd (differ y.found (sym y.says ∙ e)),
    λ none. absurd (none (grows s.ontology.axioms q y.found.members s.live y.are_live y.follows)),
  ),
  λ follows. y,
)
verdict_is s q answer (inr n) = ((λ e. n.follows_not, λ none. n.says), λ follows. absurd (n.follows_not follows))

pub from_scratch : AnswersAreFromScratch
from_scratch s next l text answer both q asked is said =
    by (subst (λ (r : Request). SaidTo s r next answer) asked said)
  where
    by : IsAnsweredOrRefused s text next answer → IsFromScratch s q answer
    by (inl h) =
        let same =
        queries s.context.prefixes s.ontology.axioms (query_start s.ontology s.context.nodes) text h.is_query.0 is.0
        h.query q h.is_query.1 is.1 in
        subst (λ (p : Query). IsFromScratch s p answer) same.1 (verdict_is s h.query answer h.verdict)
    by (inr h) =
        absurd (queries_not_refused s.context.prefixes s.ontology.axioms (query_start s.ontology s.context.nodes) text
        is.0 q h.refusal is.1 h.is_why)

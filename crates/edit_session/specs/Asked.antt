-- Queries as texts.
use Rattle.std.specs.Prelude.{◌≡◌, ◌≢◌, ℕ, List, length}
use Rattle.axiom_sets.specs.Sets.{Limited}
use Rattle.shq_terms.specs.Listed.{Listed, with_names_cut}
use Rattle.shq_terms.specs.declared.axioms.Query.{Query}
use Rattle.job_inputs.specs.Limits.{IsInLimit}
use Rattle.ofn_expressions.specs.declared.refusal.Refusal.{Refusal}
use Rattle.ofn_expressions.specs.declared.refusal.Refusal.TheVariants.{NoMemory}
use Rattle.ofn_reader.specs.DocumentContext.{DocumentContext}
use Rattle.ofn_reader.specs.Queries.{IsQueryOn, IsNoQueryOn}
use Rattle.shq_oracle.specs.Entry.{Entry}
use Rattle.shq_oracle.specs.declared.answer.Outcome.{Outcome}
use Rattle.edit_session.specs.Asking.{AnswersOnce}

-- with as many names as the old ontology has, the new one is the old one
abbrev pub IsCutTo : Listed → Listed → Type 0
IsCutTo old new = with_names_cut new (length old.classes) (length old.roles) (length old.individuals) ≡ old

-- the text is a query, which was decided while its names were listed
pub record IsAsked (kept : DocumentContext) (o : Listed) (s : Limited) (text : List ℕ) (budget : ℕ)
    (before after : List Entry) (v : Outcome) : Type 0 where
  pub both : Listed
  pub query : Query
  pub is_query : IsQueryOn kept o text both query
  pub in_limit : IsInLimit both query
  pub decided : AnswersOnce both s query budget before after v

-- why it was not, unless memory was refused
abbrev pub IsUnasked : DocumentContext → Listed → List ℕ → Refusal → Type 0
IsUnasked kept o text e = e ≢ NoMemory → IsNoQueryOn kept o text e

-- New sessions.
use Rattle.std.proofs.Common.{◌≡◌, ℕ, [], refl, ap, ◌∙◌, arith}
use Rattle.std.proofs.lemmas.List.Elements.{All-nil}
use Rattle.lane_sieve.specs.Sets.{NumberSet}
use Rattle.axiom_sets.specs.Sets.{IsFull}
use Rattle.pinpointing_specs.specs.Smallest.{numbers_to}
use Rattle.set_questions.proofs.Rest.{full_is}
use Rattle.shq_terms.specs.Listed.{Listed}
use Rattle.ofn_reader.specs.DocumentContext.{DocumentContext}
use Rattle.edit_session.specs.Noted.{Noted, nothing_noted}
use Rattle.edit_session.specs.Sessions.{SessionLists, state_of, begun}
use Rattle.edit_session.specs.SessionLog.{IsHonestThen}
use Rattle.edit_session.specs.Held.{IsOfHeld, Holds}
use Rattle.edit_session.specs.Laws.{EmptyLogsServe, NewSessionsMayGoOn}
use Rattle.std.specs.Prelude.{length}

pub empty_serves : EmptyLogsServe
empty_serves s budget = record {
  within = omega arith;
  goes_on = refl;
  of_held = All-nil (IsOfHeld (length s.state.ontology.axioms));
  hold = All-nil (Holds s.state.ontology.axioms);
  noted = record { filed = λ within place t q steps e lt at. absurd (omega (arith, within, lt)) };
}

pub new_may_go_on : NewSessionsMayGoOn
new_may_go_on o kept budget = (
  empty_serves (record { state = begun o kept; noted = nothing_noted }) budget,
  record {
    within = omega arith;
    honest = All-nil (IsHonestThen o);
    ends = record { is_last = λ place e at is. cc; is_whole = λ any. cc };
    new = λ place s q steps e at. cc;
  },
)

-- each axiom is live, and nothing is noted
pub new_lists : (o : Listed) (kept : DocumentContext) (n : ℕ) (full : NumberSet) (noted : Noted) → n ≡ length o.axioms
    → IsFull n full → noted.seen ≡ 0 → noted.places ≡ []
    → ◌≡◌ {A = SessionLists} (record { state = state_of o kept full; noted = noted })
    (record { state = begun o kept; noted = nothing_noted })
new_lists o kept n full noted count is seen places =
    let all : full ≡ numbers_to (length o.axioms) = full_is n full is ∙ ap numbers_to count in
    λ i. record { state = state_of o kept (all i); noted = record { seen = seen i; places = places i } }

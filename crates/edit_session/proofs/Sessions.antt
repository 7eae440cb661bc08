-- What is asked of a session, from its parts.
use Rattle.std.proofs.Common.{◌≡◌, ℕ, ◌≤◌, List, length, ap, sym, subst}
use Rattle.std.specs.Prelude.{Option, Result, Ok, Err, IfOk, IfErr, OnErr, option_map}
use Rattle.axiom_sets.specs.Sets.{Limited}
use Rattle.shq_terms.specs.NoMemory.{NoMemory}
use Rattle.shq_terms.specs.Listed.{Listed}
use Rattle.ofn_expressions.specs.declared.refusal.Refusal.{Refusal}
use Rattle.ofn_reader.specs.DocumentContext.{DocumentContext}
use Rattle.shq_oracle.specs.Entry.{Entry}
use Rattle.shq_oracle.specs.Entries.{spent_of}
use Rattle.job_inputs.specs.Answer.{text_bytes}
use Rattle.job_inputs.specs.declared.text.Text.{Text}
use Rattle.shq_oracle.specs.declared.answer.Outcome.{Outcome}
use Rattle.edit_session.specs.Noted.{Noted}
use Rattle.edit_session.specs.Sessions.{SessionLists, state_of, live_set}
use Rattle.edit_session.specs.Places.{MayBeNotedOf}
use Rattle.edit_session.specs.Asked.{IsAsked, IsUnasked}
use Rattle.edit_session.specs.Editing.{IsTextOf, HasText}
use Rattle.edit_session.specs.Lines.{MayGoOn, IsAskTold, AskLogsAtMostOne}
use Rattle.edit_session.proofs.Telling.{ask_told, ask_logs}

abbrev pub lists_of : Listed → DocumentContext → Limited → Noted → SessionLists
lists_of o kept live noted = record { state = state_of o kept live.members; noted = noted }

module _ (o next : Listed) (kept : DocumentContext) (live : Limited) (was left : Noted) (budget : ℕ) (text : List ℕ)
    (before after : List Entry) (old : SessionLists) (view : lists_of o kept live was ≡ old)
    (limit : live.limit ≡ length o.axioms) (same : next ≡ o) (may : MayGoOn old budget before)
    (within : spent_of after ≤ budget) (noted : MayBeNotedOf left live.members after) (asked : Result Outcome Refusal)
    (done : IfOk asked (IsAsked kept o live text budget before after)) (undone : IfErr asked (IsUnasked kept o text))
    (unlogged : OnErr asked (after ≡ before)) where
  abbrev first : SessionLists
  first = lists_of o kept live was

  abbrev second : SessionLists
  second = lists_of next kept live left

  may_first : MayGoOn first budget before
  may_first = subst (λ (s : SessionLists). MayGoOn s budget before) (sym view) may

  same_state : second.state ≡ first.state
  same_state = ap (λ (p : Listed). state_of p kept live.members) same

  live_is : live ≡ live_set first.state
  live_is = ap (λ (n : ℕ). record { limit = n; members = live.members }) limit

  of_live : IfOk asked (IsAsked kept o (live_set first.state) text budget before after)
  of_live = subst (λ (s : Limited). IfOk asked (IsAsked kept o s text budget before after)) live_is done

  told : (found : Option (List ℕ)) → IsTextOf asked found → IsAskTold budget old text before second after found
  told found t =
      subst (λ (s : SessionLists). IsAskTold budget s text before second after found) view
      (ask_told first second budget text before after may_first same_state within noted asked of_live undone unlogged
      found t)

  pub if_told : (r : Result (Option Text) NoMemory) → IfOk r (λ found. IsTextOf asked (option_map text_bytes found))
      → IfOk r (λ found. IsAskTold budget old text before second after (option_map text_bytes found))
  if_told (Ok found) t = told (option_map text_bytes found) t
  if_told (Err e) t = tt

  pub if_logged : (r : Result (Option Text) NoMemory) → OnErr r (HasText asked)
      → OnErr r (AskLogsAtMostOne old.state text before after)
  if_logged (Ok found) has = tt
  if_logged (Err e) has =
      subst (λ (s : SessionLists). AskLogsAtMostOne s.state text before after) view
      (ask_logs first second budget text before after may_first same_state within noted asked of_live unlogged has)

-- What a line is answered, and that the session may go on then.
use Rattle.std.proofs.Common.{◌≡◌, ◌⊎◌, ℕ, ◌+◌, ◌≤◌, Bool, true, false, List, [], ◌∷◌, ◌++◌, length, refl, ap, sym}
use Rattle.std.proofs.Common.{subst, ◌∙◌, arith, inl, inr, append-nil, length-append, get_or}
use Rattle.std.specs.Prelude.{Option, Some, None, Result, Ok, Err, IfOk, IfErr, OnErr, All}
use Rattle.std.specs.FinSet as set
use Rattle.std.specs.List.{list_any}
use Rattle.std.proofs.lemmas.List.Elements.{All-contains, All-push}
use Rattle.lane_sieve.specs.Sets.{NumberSet}
use Rattle.axiom_sets.specs.Sets.{Limited, IsWithin}
use Rattle.pinpointing_specs.specs.LocalModule.{FollowsFrom}
use Rattle.pinpointing_specs.proofs.Grown.{grows}
use Rattle.shq_terms.specs.Listed.{Listed}
use Rattle.shq_terms.specs.declared.axioms.Numbered.{Numbered}
use Rattle.shq_terms.specs.declared.axioms.Query.{Query}
use Rattle.ofn_expressions.specs.declared.refusal.Refusal.{Refusal}
use Rattle.ofn_expressions.specs.declared.refusal.Refusal.TheVariants.{NoMemory}
use Rattle.ofn_reader.specs.DocumentContext.{DocumentContext}
use Rattle.ofn_reader.specs.Queries.{IsQueryOn, IsNoQueryOn, query_start}
use Rattle.ofn_reader.proofs.Unique.{queries, queries_not_refused}
use Rattle.shq_oracle.specs.Entry.{Entry}
use Rattle.shq_oracle.specs.Entry.TheVariants.{Test}
use Rattle.shq_oracle.specs.TestEnd.{TestEnd}
use Rattle.shq_oracle.specs.TestEnd.TheVariants as E
use Rattle.shq_oracle.specs.Entries.{spent_of, is_spent}
use Rattle.shq_oracle.specs.HonestLog.{IsAxiomSet, IsHonestEntry}
use Rattle.shq_oracle.proofs.Named.{follows_from}
use Rattle.job_inputs.specs.Complaints.{Complaint, complaint}
use Rattle.shq_oracle.specs.declared.answer.Outcome.{Outcome}
use Rattle.shq_oracle.specs.declared.answer.Outcome.TheVariants.{Yes, No, Undecided}
use Rattle.edit_session.specs.Noted.{Noted}
use Rattle.edit_session.specs.Sessions.{State, SessionLists, live_set, state_of}
use Rattle.edit_session.specs.ScriptLines.{Request, adds, removes, asks, other, request}
use Rattle.edit_session.specs.Said.{bad_line, yes_line, no_line, IsRemoved, IsYes}
use Rattle.edit_session.specs.Said.{IsNo, IsAddedOrRefused, IsRemovedOrNot, IsAnsweredOrRefused, SaidTo, Said}
use Rattle.edit_session.specs.SessionLog.{Tests}
use Rattle.edit_session.specs.Held.{IsOfHeld, Holds}
use Rattle.edit_session.specs.Logged.{LogsAtMostOne, ShowsVerdict, ShowsAnswer}
use Rattle.edit_session.specs.Places.{AreFiled, MayBeNotedOf}
use Rattle.edit_session.specs.Asking.{IsTold, TestsAtMostOnce}
use Rattle.edit_session.specs.Asked.{IsAsked, IsUnasked}
use Rattle.edit_session.specs.Editing.{IsTextOf, HasText, IsRemovedIf, IsRemovedFrom}
use Rattle.edit_session.specs.Lines.{MayGoOn, IsAnsweredLine, IsAskTold, AskLogsAtMostOne}
use Rattle.edit_session.proofs.Standing.{hold_more, held_more}
use Rattle.edit_session.proofs.Filed.{filed_added, filed_removed}
use Rattle.edit_session.proofs.Limits.{query_axioms, addition_longer}
use Rattle.edit_session.proofs.Honest.{spent_after}

-- ---- what a test leaves

module _ (axioms : List Numbered) (o : Listed) (same : o.axioms ≡ axioms) (s : Limited) (q : Query) where
  follows_there : (u : Limited) → IsAxiomSet o u → FollowsFrom o.axioms q u.members → FollowsFrom axioms q u.members
  follows_there u of h = subst (λ (as_ : List Numbered). FollowsFrom as_ q u.members) same h

  within_there : (u : Limited) → IsAxiomSet o u → IsWithin (length axioms) u.members
  within_there u of = subst (λ (n : ℕ). IsWithin n u.members) (of.limit_is ∙ ap length same) of.within

  held_entry : (steps : ℕ) (e : TestEnd) → IsHonestEntry o (Test s q steps e)
      → IsOfHeld (length axioms) (Test s q steps e)
  held_entry steps (E.Yes u) h = (within_there s h.0, within_there u h.1.of_axioms)
  held_entry steps E.No h = (within_there s h.0, tt)
  held_entry steps (E.Spent t) h = (within_there s h.0, tt)

  holding_entry : (steps : ℕ) (e : TestEnd) → IsHonestEntry o (Test s q steps e) → Holds axioms (Test s q steps e)
  holding_entry steps (E.Yes u) h = follows_there u h.1.of_axioms ((follows_from o u q h.1.of_axioms).0 h.1.follows)
  holding_entry steps E.No h =
      λ f. h.1.follows_not
      ((follows_from o s q h.0).1 (subst (λ (as_ : List Numbered). FollowsFrom as_ q s.members) (sym same) f))
  holding_entry steps (E.Spent t) h = tt

  module _ (before after : List Entry) where
    tested_held : (out : Bool) → Tests out o s q before after → All (IsOfHeld (length axioms)) before
        → All (IsOfHeld (length axioms)) after
    tested_held out t all =
        subst (All (IsOfHeld (length axioms))) (sym t.is_log)
        (All-push (IsOfHeld (length axioms)) before (Test s q t.steps t.ended) all
        (held_entry t.steps t.ended t.honest))

    tested_hold : (out : Bool) → Tests out o s q before after → All (Holds axioms) before → All (Holds axioms) after
    tested_hold out t all =
        subst (All (Holds axioms)) (sym t.is_log)
        (All-push (Holds axioms) before (Test s q t.steps t.ended) all (holding_entry t.steps t.ended t.honest))

    once_held : TestsAtMostOnce o s q before after → All (IsOfHeld (length axioms)) before
        → All (IsOfHeld (length axioms)) after
    once_held (inl e) all = subst (All (IsOfHeld (length axioms))) (sym e) all
    once_held (inr t) all = tested_held false t all

    once_hold : TestsAtMostOnce o s q before after → All (Holds axioms) before → All (Holds axioms) after
    once_hold (inl e) all = subst (All (Holds axioms)) (sym e) all
    once_hold (inr t) all = tested_hold false t all

    once_on : TestsAtMostOnce o s q before after → list_any is_spent before ≡ false → list_any is_spent after ≡ false
    once_on (inl e) none = ap (list_any is_spent) e ∙ none
    once_on (inr t) none = spent_after false o s q before after t none

-- ---- a query

complaint_known : (e : Refusal) (c : Complaint) → complaint e ≡ Some c → e ≡ NoMemory → ⊥
complaint_known e c is same = let clash : None ≡ Some c = sym (ap complaint same) ∙ is in cc clash

module _ (old new : SessionLists) (budget : ℕ) (text : List ℕ) (before after : List Entry)
    (may : MayGoOn old budget before) (state : new.state ≡ old.state)
    (within : spent_of after ≤ budget) (noted : MayBeNotedOf new.noted old.state.live after) where
  abbrev o : Listed
  o = old.state.ontology

  abbrev s : Limited
  s = live_set old.state

  here : (P : State → Type 0) → P old.state → P new.state
  here P h = subst P (sym state) h

  go_on : (both : Listed) (q : Query) → both.axioms ≡ o.axioms → TestsAtMostOnce both s q before after
      → MayGoOn new budget after
  go_on both q same once = record {
    within = within;
    goes_on = once_on o.axioms both same s q before after once may.goes_on;
    of_held =
        here (λ (t : State). All (IsOfHeld (length t.ontology.axioms)) after)
        (once_held o.axioms both same s q before after once may.of_held);
    hold =
        here (λ (t : State). All (Holds t.ontology.axioms) after)
        (once_hold o.axioms both same s q before after once may.hold);
    noted = here (λ (t : State). MayBeNotedOf new.noted t.live after) noted;
  }

  go_on_same : after ≡ before → MayGoOn new budget after
  go_on_same same = record {
    within = within;
    goes_on = ap (list_any is_spent) same ∙ may.goes_on;
    of_held =
        here (λ (t : State). All (IsOfHeld (length t.ontology.axioms)) after)
        (subst (All (IsOfHeld (length o.axioms))) (sym same) may.of_held);
    hold = here (λ (t : State). All (Holds t.ontology.axioms) after) (subst (All (Holds o.axioms)) (sym same) may.hold);
    noted = here (λ (t : State). MayBeNotedOf new.noted t.live after) noted;
  }

  abbrev IsSo : Outcome → Type 0
  IsSo v = IsAsked old.state.context o s text budget before after v

  same_axioms : (v : Outcome) (a : IsSo v) → a.both.axioms ≡ o.axioms
  same_axioms v a = query_axioms old.state.context o text a.both a.query a.is_query

  logs : (v : Outcome) (a : IsSo v) (l : List ℕ) → request l ≡ asks text → TestsAtMostOnce a.both s a.query before after
      → LogsAtMostOne old.state l before after
  logs v a l asked (inl e) = inl e
  logs v a l asked (inr t) = inr (record {
    text = text;
    is_asked = asked;
    both = a.both;
    query = a.query;
    is_query = a.is_query;
    in_limit = a.in_limit;
    tests = t;
  })

  said : (l answer : List ℕ) → request l ≡ asks text → IsAnsweredOrRefused old.state text new.state answer
      → Said old.state l new.state answer
  said l answer asked h = subst (λ (r : Request). SaidTo old.state r new.state answer) (sym asked) h

  yes_is : (u : Limited) (a : IsSo (Yes u)) (answer : List ℕ) → IsWithin u.limit u.members → answer ≡ yes_line u
      → IsYes old.state a.query answer
  yes_is u a answer limited says =
      let told = a.decided.1 in
      record {
        found = u;
        within = limited;
        are_live = told.3;
        follows =
            All-contains (Holds o.axioms) after (Test told.0 a.query told.1 (E.Yes u))
            (once_hold o.axioms a.both (same_axioms (Yes u) a) s a.query before after a.decided.0 may.hold) told.2;
        says = says;
      }

  no_is : (a : IsSo No) (answer : List ℕ) → answer ≡ no_line → IsNo old.state a.query answer
  no_is a answer says =
      let told = a.decided.1 in
      record {
        follows_not = λ f.
            All-contains (Holds o.axioms) after (Test told.0 a.query told.1 E.No)
            (once_hold o.axioms a.both (same_axioms No a) s a.query before after a.decided.0 may.hold) told.2
            (grows o.axioms a.query old.state.live told.0.members told.3 f);
        says = says;
      }

  yes_shown : (u : Limited) (q : Query) (answer : List ℕ) → IsTold after s q (Yes u) → answer ≡ yes_line u
      → ShowsVerdict after s q answer
  yes_shown u q answer told says =
      inl (record { tested = told.0; steps = told.1; found = u; is_yes = told.2; part = told.3; says = says })

  no_shown : (q : Query) (answer : List ℕ) → IsTold after s q No → answer ≡ no_line → ShowsVerdict after s q answer
  no_shown q answer told says =
      inr (record { tested = told.0; steps = told.1; is_no = told.2; has_part = told.3; says = says })

  shows : (v : Outcome) (a : IsSo v) (answer l : List ℕ) → request l ≡ asks text → ShowsVerdict after s a.query answer
      → ShowsAnswer old.state l answer after
  shows v a answer l asked shown again both q asked_too is =
      let same_text : text ≡ again = cc (sym asked ∙ asked_too) in
      let is' : IsQueryOn old.state.context o text both q =
      subst (λ (t : List ℕ). IsQueryOn old.state.context o t both q) (sym same_text) is in
      let same =
      queries old.state.context.prefixes o.axioms (query_start o old.state.context.nodes) text a.is_query.0 is'.0
      a.query q a.is_query.1 is'.1 in
      subst (λ (asks' : Query). ShowsVerdict after s asks' answer) same.1 shown

  shows_none : (e : Refusal) (answer l : List ℕ) → request l ≡ asks text → IsNoQueryOn old.state.context o text e
      → ShowsAnswer old.state l answer after
  shows_none e answer l asked why again both q asked_too is =
      let same_text : text ≡ again = cc (sym asked ∙ asked_too) in
      let is' : IsQueryOn old.state.context o text both q =
      subst (λ (t : List ℕ). IsQueryOn old.state.context o t both q) (sym same_text) is in
      absurd (queries_not_refused old.state.context.prefixes o.axioms (query_start o old.state.context.nodes) text is'.0
      q e is'.1 why)

  answered : (v : Outcome) (a : IsSo v) (answer l : List ℕ) → request l ≡ asks text
      → IsYes old.state a.query answer ⊎ IsNo old.state a.query answer → TestsAtMostOnce a.both s a.query before after
      → ShowsVerdict after s a.query answer → IsAnsweredLine budget old l before new after answer
  answered v a answer l asked verdict once shown = record {
    is_said = said l answer asked
        (inl (record { both = a.both; query = a.query; is_query = a.is_query; verdict = verdict; same = state }));
    logged = logs v a l asked once;
    shown = shows v a answer l asked shown;
    may_go_on = go_on a.both a.query (same_axioms v a) once;
  }

  pub ask_told : (asked : Result Outcome Refusal) → IfOk asked IsSo → IfErr asked (IsUnasked old.state.context o text)
      → OnErr asked (after ≡ before) → (found : Option (List ℕ)) → IsTextOf asked found
      → IsAskTold budget old text before new after found
  ask_told (Ok (Yes u)) a un same (Some answer) t l asked =
      answered (Yes u) a answer l asked (inl (yes_is u a answer t.1 t.0)) a.decided.0
      (yes_shown u a.query answer a.decided.1 t.0)
  ask_told (Ok (Yes u)) a un same None t l asked = absurd t
  ask_told (Ok No) a un same (Some answer) t l asked =
      answered No a answer l asked (inr (no_is a answer t)) a.decided.0 (no_shown a.query answer a.decided.1 t)
  ask_told (Ok No) a un same None t l asked = absurd t
  ask_told (Ok Undecided) a un same (Some answer) t l asked = absurd t
  ask_told (Ok Undecided) a un same None t l asked = (
    record {
      test = record {
        text = text;
        is_asked = asked;
        both = a.both;
        query = a.query;
        is_query = a.is_query;
        in_limit = a.in_limit;
        tests = a.decided.0;
      };
      is_whole = a.decided.1;
    },
    state,
  )
  ask_told (Err e) a un same (Some answer) t l asked = record {
    is_said = said l answer asked
        (inr (record { refusal = e; is_why = un (complaint_known e t.wrong t.is_wrong); same = state; says = t }));
    logged = inl same;
    shown = shows_none e answer l asked (un (complaint_known e t.wrong t.is_wrong));
    may_go_on = go_on_same same;
  }
  ask_told (Err e) a un same None t l asked = absurd t

  -- where memory was refused for the answer
  pub ask_logs : (asked : Result Outcome Refusal) → IfOk asked IsSo → OnErr asked (after ≡ before) → HasText asked
      → AskLogsAtMostOne old.state text before after
  ask_logs (Ok (Yes u)) a same has l asked = logs (Yes u) a l asked a.decided.0
  ask_logs (Ok No) a same has l asked = logs No a l asked a.decided.0
  ask_logs (Ok Undecided) a same has l asked = absurd has
  ask_logs (Err e) a same has l asked = inl same

-- ---- axioms that come and go

module _ (old new : SessionLists) (budget : ℕ) (log : List Entry) (may : MayGoOn old budget log)
    (noted : new.noted ≡ old.noted) where
  -- with other live axioms, and perhaps more axioms
  goes_on_with : (more : List Numbered) → new.state.ontology.axioms ≡ old.state.ontology.axioms ++ more
      → MayBeNotedOf old.noted new.state.live log → MayGoOn new budget log
  goes_on_with more longer kept =
      let xs = old.state.ontology.axioms in
      let le : length xs ≤ length new.state.ontology.axioms = omega (arith, ap length longer, length-append xs more) in
      record {
        within = may.within;
        goes_on = may.goes_on;
        of_held =
            λ k d lt. held_more (length xs) (length new.state.ontology.axioms) le (get_or log k d) (may.of_held k d lt);
        hold =
            λ k d lt. subst (λ (as_ : List Numbered). Holds as_ (get_or log k d)) (sym longer)
            (hold_more xs more (get_or log k d) (may.of_held k d lt) (may.hold k d lt));
        noted = subst (λ (n : Noted). MayBeNotedOf n new.state.live log) (sym noted) kept;
      }

  stays : new.state ≡ old.state → MayGoOn new budget log
  stays same =
      goes_on_with [] (ap (λ (s : State). s.ontology.axioms) same ∙ sym (append-nil old.state.ontology.axioms))
      (subst (λ (s : State). MayBeNotedOf old.noted s.live log) (sym same) may.noted)

  abbrev Tells : Request → List ℕ → Type 0
  Tells r answer = (l : List ℕ) → request l ≡ r → IsAnsweredLine budget old l log new log answer

  abbrev AsksNothing : Request → Type 0
  AsksNothing r = (text : List ℕ) → r ≡ asks text → ⊥

  tells : (r : Request) (answer : List ℕ) → AsksNothing r → SaidTo old.state r new.state answer → MayGoOn new budget log
      → Tells r answer
  tells r answer none said on l is = record {
    is_said = subst (λ (x : Request). SaidTo old.state x new.state answer) (sym is) said;
    logged = inl refl;
    shown = λ text both q asked read. absurd (none text (sym is ∙ asked));
    may_go_on = on;
  }

  pub add_told : (text answer : List ℕ) → IsAddedOrRefused old.state text new.state answer → Tells (adds text) answer
  add_told text answer (inl h) =
      let longer =
      addition_longer old.state.context old.state.ontology text new.state.ontology new.state.context h.number
      h.is_axiom in
      let n = length old.state.ontology.axioms in
      let live : new.state.live ≡ set.insert old.state.live (n + 1) =
      h.is_live ∙ ap (set.insert old.state.live) h.is_axiom.5 in
      tells (adds text) answer (λ asked e. cc) (inl h) (goes_on_with (longer.0 ∷ []) longer.1 (record {
        filed = λ within.
            subst (λ (m : NumberSet). AreFiled old.noted.places m old.noted.seen log) (sym live)
            (filed_added old.state.live n log old.noted.places old.noted.seen may.of_held (may.noted.filed within));
      }))
  add_told text answer (inr h) = tells (adds text) answer (λ asked e. cc) (inr h) (stays h.same)

  pub remove_told : (k : ℕ) (answer : List ℕ) → IsRemovedOrNot old.state k new.state answer → Tells (removes k) answer
  remove_told k answer h = tells (removes k) answer (λ asked e. cc) h (by (set.contains old.state.live k) h)
    where
      by : (b : Bool) → IsRemoved b old.state k new.state answer → MayGoOn new budget log
      by true r =
          goes_on_with [] (ap (λ (s : State). s.ontology.axioms) r.0 ∙ sym (append-nil old.state.ontology.axioms))
          (record {
            filed = λ within.
                subst (λ (s : State). AreFiled old.noted.places s.live old.noted.seen log) (sym r.0)
                (filed_removed old.state.live k log old.noted.places old.noted.seen (may.noted.filed within));
          })
      by false r = stays r.0

  pub other_told : (answer : List ℕ) → new.state ≡ old.state → answer ≡ bad_line → Tells other answer
  other_told answer same is = tells other answer (λ asked e. cc) (same, is) (stays same)

-- ---- states

pub removed_state : (o : Listed) (kept : DocumentContext) (live next : NumberSet) (k : ℕ) (answer : List ℕ)
    → IsRemovedFrom live k next answer
    → IsRemovedOrNot (state_of o kept live) k (state_of o kept next) answer
removed_state o kept live next k answer h = by (set.contains live k) h
  where
    by : (b : Bool) → IsRemovedIf b live k next answer
        → IsRemoved b (state_of o kept live) k (state_of o kept next) answer
    by true r = (ap (state_of o kept) r.0, r.1)
    by false r = (ap (state_of o kept) r.0, r.1)

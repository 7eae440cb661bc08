-- What holds of a search that begins.
use Rattle.std.proofs.Common.{◌≡◌, ℕ, ◌&&◌, true, false, List, [], Option, refl, sym, subst}
use Rattle.std.proofs.lemmas.Bool.{and_from}
use Rattle.std.proofs.lemmas.List.Elements.{All-nil}
use Rattle.std.specs.FinSet as sets
use Rattle.shq_terms.specs.declared.axioms.Query.{Query}
use Rattle.tableau_specs.specs.Steps.{SearchContext}
use Rattle.search_trace.specs.Noted.{start_of}
use Rattle.search_trace.specs.Grounded.{is_known_within, AreGrounded}
use Rattle.search_trace.proofs.Trail.{first_is_known}
use Rattle.search_trace.proofs.Places.{start_is_traced}
use Rattle.step_agenda.specs.Entry.{Entry}
use Rattle.step_agenda.specs.Trail.{facts_in}
use Rattle.step_agenda.specs.Followed.{Printed, AreFirstBlocks, IsCurrent}
use Rattle.step_finders.specs.declared.clash.Clash.{Clash}
use Rattle.search_trace.specs.Trace.{TraceLists, begun}
use Rattle.search_state.specs.Marked.{marked_in}
use Rattle.search_state.specs.Beginning.{begun_entries}
use Rattle.search_state.specs.Progress.{ProgressLists, asked_of, IsAsked, IsFitLine, IsStanding, IsClashOf}
use Rattle.search_state.specs.Stepping.{HasBegun}

module _ (w : SearchContext) (q : Query) (at sub not_sup : ℕ) (asked : IsAsked w q at sub not_sup) where
  abbrev entries_now : List Entry
  entries_now = begun_entries at sub not_sup

  abbrev at_start : Printed → Option Clash → ProgressLists
  at_start found_blocks clash = record {
    query = q;
    at = at;
    sub = sub;
    not_sup = not_sup;
    first = w.first;
    entries = entries_now;
    found_blocks = found_blocks;
    trace = begun;
    marks = [];
    clash = clash;
    steps = 0;
    behind = false;
  }

  grounded_now : AreGrounded w.first (marked_in entries_now)
  grounded_now =
      let k = first_is_known w.first sets.empty (marked_in entries_now) at asked.at_first in
      and_from (is_known_within w.first sets.empty (marked_in entries_now) at && true)
      ((is_known_within w.first sets.empty (marked_in entries_now) at && true) && true)
      (and_from (is_known_within w.first sets.empty (marked_in entries_now) at) true k refl)
      (and_from (is_known_within w.first sets.empty (marked_in entries_now) at && true) true
      (and_from (is_known_within w.first sets.empty (marked_in entries_now) at) true k refl) refl)

  stands : (found_blocks : Printed) → AreFirstBlocks w.first (facts_in entries_now) found_blocks
      → (clash : Option Clash)
      → IsStanding w (at_start found_blocks clash)
  stands found_blocks blocks clash = record {
    asked = asked;
    first_is = refl;
    follows = refl;
    blocks = blocks;
    places = [];
    from = start_of (asked_of w q at);
    from_is = λ begun. refl;
    traced = record {
      are_at = tt;
      traced = start_is_traced (asked_of w q at) w.table sub not_sup asked.sub_is asked.not_sup_is;
    };
    are_marks = tt;
    grounded = grounded_now;
    fit = All-nil (IsFitLine w sub not_sup);
  }

  starts : (found_blocks : Printed) → IsCurrent w.first (facts_in entries_now) found_blocks
      → AreFirstBlocks w.first (facts_in entries_now) found_blocks → (clash : Option Clash)
      → IsClashOf w (facts_in entries_now) clash
      → HasBegun w (at_start found_blocks clash)
  starts found_blocks current blocks clash is = record {
    is_searching = record { standing = stands found_blocks blocks clash; clash = is };
    current = current;
    trail_is = refl;
    no_steps = refl;
    from_nothing = refl;
  }

  pub begins : (first : ℕ) → first ≡ w.first → (es : List Entry) → es ≡ entries_now → (found_blocks : Printed)
      → IsCurrent first (facts_in es) found_blocks → AreFirstBlocks first (facts_in es) found_blocks
      → (trace : TraceLists)
      → trace ≡ begun
      → (marks : List ℕ) → marks ≡ [] → (clash : Option Clash) → IsClashOf w (facts_in es) clash
      → HasBegun w (record {
        query = q;
        at = at;
        sub = sub;
        not_sup = not_sup;
        first = first;
        entries = es;
        found_blocks = found_blocks;
        trace = trace;
        marks = marks;
        clash = clash;
        steps = 0;
        behind = false;
      })
  begins first one es are found_blocks current blocks trace traced marks none clash is =
      let h =
      starts found_blocks
      (subst (λ (k : ℕ). IsCurrent k (facts_in entries_now) found_blocks) one
      (subst (λ (xs : List Entry). IsCurrent first (facts_in xs) found_blocks) are current))
      (subst (λ (k : ℕ). AreFirstBlocks k (facts_in entries_now) found_blocks) one
      (subst (λ (xs : List Entry). AreFirstBlocks first (facts_in xs) found_blocks) are blocks))
      clash
      (subst (λ (xs : List Entry). IsClashOf w (facts_in xs) clash) are is) in
      let all : at_start found_blocks clash
      ≡ record {
        query = q;
        at = at;
        sub = sub;
        not_sup = not_sup;
        first = first;
        entries = es;
        found_blocks = found_blocks;
        trace = trace;
        marks = marks;
        clash = clash;
        steps = 0;
        behind = false;
      } =
      (λ i. record {
        query = q;
        at = at;
        sub = sub;
        not_sup = not_sup;
        first = sym one i;
        entries = sym are i;
        found_blocks = found_blocks;
        trace = sym traced i;
        marks = sym none i;
        clash = clash;
        steps = 0;
        behind = false;
      }) in
      subst (λ (s : ProgressLists). HasBegun w s) all h

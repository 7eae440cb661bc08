-- Whether there is a next step.
use Rattle.std.proofs.Common.{◌≡◌, ℕ, zero, suc, ◌+◌, ◌<◌, true, List, [], ◌∷◌, ◌++◌, take, get_or, refl, ap, ◌∙◌, sym}
use Rattle.std.proofs.Common.{subst, arith}
use Rattle.std.proofs.lemmas.Option.{slice_get-get_or}
use Rattle.lane_sieve.specs.Sets.{NumberSet}
use Rattle.calculus_specs.specs.Shape.{Shape, shape_of}
use Rattle.calculus_specs.specs.Shape.Shape.{top, bottom, name, not_name, intersection, union, some_of, all_of}
use Rattle.calculus_specs.specs.Shape.Shape.{at_least, at_most}
use Rattle.calculus_specs.specs.declared.facts.Fact.{Fact}
use Rattle.calculus_specs.specs.declared.facts.Fact.TheVariants.{Has, Same, Apart}
use Rattle.calculus_specs.specs.State.{node_count_from, fresh_facts}
use Rattle.calculus_specs.specs.Line.{Line}
use Rattle.tableau_specs.specs.declared.Branch.{Branch}
use Rattle.tableau_specs.specs.declared.Branch.TheVariants.{Or, Choose, Pair}
use Rattle.tableau_specs.specs.declared.Item.TheVariants.{Fact as Says, Mark as Marks}
use Rattle.tableau_specs.specs.LineLaws.{IsNumbered}
use Rattle.tableau_specs.specs.Steps.{SearchContext, IsGiven, below_of, IsAlternative, HasClash, HasPlainClash}
use Rattle.tableau_specs.specs.Steps.{next_choice}
use Rattle.tableau_specs.specs.Steps.IsAlternative.{of_union, of_filler, of_complement, of_joining, of_parting}
use Rattle.tableau_specs.specs.Steps.IsLegal.{add, give, generate, choose, back}
use Rattle.tableau_specs.specs.declared.Choice.{Choice}
use Rattle.tableau_specs.specs.Items.{facts_of, says}
use Rattle.tableau_specs.specs.Clash.{IsClash, IsPlainClash}
use Rattle.tableau_specs.proofs.PlainClash.{plain_is_clash}
use Rattle.step_agenda.specs.Entry.{Entry}
use Rattle.step_agenda.specs.Trail.{facts_in, items_of}
use Rattle.step_finders.specs.declared.clash.Clash.{Clash}
use Rattle.step_finders.specs.declared.step.Step.{Step}
use Rattle.step_finders.specs.declared.step.Step.TheVariants.{Give, Add, Generate, Choose as ChooseStep}
use Rattle.step_finders.specs.Choosing.{branch_of}
use Rattle.step_finders.specs.Clashing.{IsShown}
use Rattle.step_finders.specs.Found.{Files}
use Rattle.step_finders.specs.Stepping.{IsStep}
use Rattle.step_finders.proofs.Clashing.{shown_is_plain}
use Rattle.step_lines.specs.Kinds.{part_count, alternative_count}
use Rattle.search_trace.specs.declared.opens.Back.{Back}
use Rattle.search_trace.specs.declared.opens.Back.TheVariants.{Turned, Closed}
use Rattle.search_trace.specs.Trace.{TraceLists, with_line, answer_of, is_turn}
use Rattle.search_trace.proofs.Going.{turns_as_it_goes}
use Rattle.search_state.specs.Resting.{RestsClash}
use Rattle.search_state.specs.Progress.{ProgressLists, IsStanding}
use Rattle.search_state.specs.Stepping.{HasNext, IsClosed}
use Rattle.search_state.specs.Turning.{IsTurning, IsClosing, HasGoneBack}
use Rattle.search_state.proofs.Entries.{facts-items}
use Rattle.search_state.proofs.Choices.{get_item}
use Rattle.search_state.proofs.Taking.{left, has_more, is_numbered}
use Rattle.search_state.proofs.GoneBack.{back_progress, has_gone_back}

-- ---- there is an alternative

part_there : (table : List Shape) (x c k : ℕ) (s : Shape) → shape_of table c ≡ s → k < part_count s
    → (f : Fact ℕ) × IsAlternative table (Or x c) (k + 1) f
part_there table x c k (union parts) is lt =
    (Has x (get_or parts k 0), of_union x c k (get_or parts k 0) parts is (slice_get-get_or parts k 0 lt))
part_there table x c k top is lt = absurd (omega (arith, lt))
part_there table x c k bottom is lt = absurd (omega (arith, lt))
part_there table x c k (name a) is lt = absurd (omega (arith, lt))
part_there table x c k (not_name a) is lt = absurd (omega (arith, lt))
part_there table x c k (intersection parts) is lt = absurd (omega (arith, lt))
part_there table x c k (some_of r d) is lt = absurd (omega (arith, lt))
part_there table x c k (all_of r d) is lt = absurd (omega (arith, lt))
part_there table x c k (at_least n r d) is lt = absurd (omega (arith, lt))
part_there table x c k (at_most n r d) is lt = absurd (omega (arith, lt))

alternative_there : (table : List Shape) (b : Branch) (k : ℕ) → k < alternative_count table b → IsNumbered table b
    → (f : Fact ℕ) × IsAlternative table b (k + 1) f
alternative_there table (Or x c) k lt numbered = part_there table x c k (shape_of table c) refl lt
alternative_there table (Choose y c) zero lt numbered = (Has y c, of_filler y c)
alternative_there table (Choose y c) (suc zero) lt numbered =
    (Has y numbered.0, of_complement y c numbered.0 numbered.1)
alternative_there table (Choose y c) (suc (suc k)) lt numbered = absurd (omega (arith, lt))
alternative_there table (Pair y z) zero lt numbered = (Same y z, of_joining y z)
alternative_there table (Pair y z) (suc zero) lt numbered = (Apart y z, of_parting y z)
alternative_there table (Pair y z) (suc (suc k)) lt numbered = absurd (omega (arith, lt))

-- ---- from a clash

-- the line of a clash does not change where going back leads
pub same_turn : (t : TraceLists) (line : Line) (u : NumberSet)
    → is_turn (answer_of t u) ≡ is_turn (answer_of (with_line t line u) u)
same_turn t line u = sym (turns_as_it_goes t.lines t.opens u) ∙ turns_as_it_goes (with_line t line u).lines t.opens u

turning_has_next : (w : SearchContext) (s : ProgressLists) (mark : ℕ) (marks : NumberSet) → IsTurning w s mark marks
    → HasNext w s
turning_has_next w s mark marks t =
    let l = left w s mark marks t in
    let c = l.mark.choice in
    let a =
    alternative_there w.table c.branch c.alternative (has_more w s mark marks t) (is_numbered w s mark marks t) in
    record {
      next = take l.at (items_of s.entries) ++ Marks (next_choice w c) ∷ Says a.0 ∷ [];
      is_legal = back l.at c a.0 t.has_clash (get_item s.entries l.at c l.mark.stands) a.1;
    }

by_answer : (w : SearchContext) (s : ProgressLists) (b : Back) → HasGoneBack w s b → is_turn b ≡ true → HasNext w s
by_answer w s Closed h is = absurd (cc is)
by_answer w s (Turned mark marks) h is = turning_has_next w s mark marks h

pub clash_has_next : (w : SearchContext) (old : ProgressLists) → IsStanding w old → HasClash w (items_of old.entries)
    → (line : Line) (u : NumberSet) → RestsClash w old.entries line u → is_turn (answer_of old.trace u) ≡ true
    → HasNext w old
clash_has_next w old st clash line u r is =
    let lined = with_line old.trace line u in
    let next =
    by_answer w (back_progress w old st clash line u r) (answer_of lined u)
    (has_gone_back w old st clash line u r (answer_of lined u) refl) (sym (same_turn old.trace line u) ∙ is) in
    record { next = next.next; is_legal = next.is_legal }

-- a clash that is shown is one
pub shown_is_clash : (w : SearchContext) (es : List Entry) (clash : Clash) → IsShown w (facts_in es) clash
    → HasClash w (items_of es)
shown_is_clash w es clash shown =
    subst (λ (fs : List (Fact ℕ)). IsClash w.first (below_of w) w.table fs) (sym (facts-items es))
    (plain_is_clash w.first (below_of w) w.table (facts_in es) (shown_is_plain w (facts_in es) clash shown))

-- where the trace closes everything
pub closing_is_closed : (w : SearchContext) (old new : ProgressLists) → new ≡ record old { trace = new.trace }
    → IsClosing w new → IsClosed w old new
closing_is_closed w old new same h = record {
  same = record {
    query = ap (λ (q : ProgressLists). q.query) same;
    at = ap (λ (q : ProgressLists). q.at) same;
    first = ap (λ (q : ProgressLists). q.first) same;
    sub = ap (λ (q : ProgressLists). q.sub) same;
    not_sup = ap (λ (q : ProgressLists). q.not_sup) same;
    behind = ap (λ (q : ProgressLists). q.behind) same;
  };
  entries = ap (λ (q : ProgressLists). q.entries) same;
  blocks = h.blocks;
  steps = ap (λ (q : ProgressLists). q.steps) same;
  has_clash = h.has_clash;
  from = h.from;
  from_is = h.from_is;
  closes = h.closes;
  fit = h.fit;
}

-- without a plain clash, what can be made is a next step
pub step_has_next : (w : SearchContext) (s : ProgressLists) (files : Files) (step : Step)
    → ¬ IsPlainClash w.first (below_of w) w.table (facts_in s.entries) → IsStep w (facts_in s.entries) files step
    → HasNext w s
step_has_next w s files step none is =
    by_step step (at (λ fs. ¬ IsPlainClash w.first (below_of w) w.table fs) none) (at (λ fs. IsStep w fs files step) is)
  where
    at : (P : List (Fact ℕ) → Type 0) → P (facts_in s.entries) → P (facts_of (items_of s.entries))
    at P h = subst P (sym (facts-items s.entries)) h

    by_step : (step : Step) → ¬ HasPlainClash w (items_of s.entries)
        → IsStep w (facts_of (items_of s.entries)) files step → HasNext w s
    by_step (Give g) none h =
        let given : IsGiven w g.fact = record {
          axiom_number = g.«axiom»;
          place = g.place;
          is_there = h.is_given.is_there;
          listed = h.is_given.listed;
          on_first = h.is_given.on_first;
        } in
        record { next = items_of s.entries ++ Says g.fact ∷ []; is_legal = give g.fact none given h.lacks }
    by_step (Add a) none h = record {
      next = items_of s.entries ++ Says (Has a.node a.concept) ∷ [];
      is_legal = add a.node a.concept none h.adds h.lacks;
    }
    by_step (Generate m) none h =
        let new : List (Fact ℕ) =
        fresh_facts m.parent m.role m.filler (node_count_from w.first (facts_of (items_of s.entries))) m.count in
        record { next = items_of s.entries ++ says new; is_legal = generate new none h.generates }
    by_step (ChooseStep k) none h =
        let c : Choice = record { line = 0; branch = branch_of k; alternative = 1 } in
        record {
          next = items_of s.entries ++ Marks c ∷ Says h.first ∷ [];
          is_legal = choose c h.first none h.may refl h.is_first;
        }

-- A step that is made keeps what is always so of a search.
use Rattle.std.proofs.Common.{◌≡◌, ℕ, suc, ◌+◌, true, false, List, [], ◌∷◌, ◌++◌, map, ap, ◌∙◌, sym, subst, arith}
use Rattle.std.specs.List.{All}
use Rattle.std.proofs.lemmas.List.Elements.{All-append, All-cons, All-nil}
use Rattle.lane_sieve.specs.Sets.{NumberSet}
use Rattle.shq_terms.specs.Concept.{Concept}
use Rattle.calculus_specs.specs.declared.facts.Fact.{Fact}
use Rattle.calculus_specs.specs.Line.{Line}
use Rattle.tableau_specs.specs.Items.{says}
use Rattle.tableau_specs.specs.Steps.{SearchContext, IsLegal}
use Rattle.tableau_specs.specs.Reached.{start, Follows, IsReached}
use Rattle.tableau_specs.specs.StepLaws.{AreOfKind}
use Rattle.tableau_specs.proofs.KeptKinds.{kept_kinds_stay}
use Rattle.search_trace.specs.Noted.{marked, Noted, NotedLine, start_of}
use Rattle.search_trace.specs.Premises.{Added, is_single}
use Rattle.search_trace.specs.Trail.{MarkedFact, Puts}
use Rattle.search_trace.specs.Grounded.{AreGrounded}
use Rattle.search_trace.specs.Places.{Place}
use Rattle.step_agenda.specs.By.{By}
use Rattle.step_agenda.specs.Entry.{Entry}
use Rattle.step_agenda.specs.Trail.{facts_in, items_of, grounded}
use Rattle.step_agenda.specs.Followed.{AreFirstBlocks}
use Rattle.search_trace.specs.Trace.{TraceLists, with_line}
use Rattle.search_trace.specs.Laws.{IsTracedAt}
use Rattle.search_trace.proofs.Traced.{goes_on}
use Rattle.search_state.specs.Marked.{marked_in}
use Rattle.search_state.specs.Branchings.{AreMarks}
use Rattle.search_state.specs.Resting.{IsResting}
use Rattle.search_state.specs.Progress.{ProgressLists, asked_by, IsAsked, IsFitLine, IsStanding, HasMoved}
use Rattle.search_state.proofs.Entries.{facts-items, items-append, items-grounded, marked-append, marked-grounded}
use Rattle.search_state.proofs.Marks.{marks_stay}

-- how the progress after a step differs from that before
pub record IsNext (old new : ProgressLists) (entries : List Entry) (trace : TraceLists) (marks : List ℕ) : Type 0 where
  pub query : new.query ≡ old.query
  pub at : new.at ≡ old.at
  pub sub : new.sub ≡ old.sub
  pub not_sup : new.not_sup ≡ old.not_sup
  pub first : new.first ≡ old.first
  pub entries_are : new.entries ≡ entries
  pub trace_is : new.trace ≡ trace
  pub marks_are : new.marks ≡ marks
  pub counted : new.steps ≡ old.steps + 1
  pub behind : new.behind ≡ old.behind
  pub blocks : AreFirstBlocks new.first (facts_in new.entries) new.found_blocks

module _ (w : SearchContext) (old : ProgressLists) where
  -- what is kept of the entries, the trace and the marks
  pub record AreKept (entries : List Entry) (trace : TraceLists) (marks : List ℕ) : Type 0 where
    pub is_legal : IsLegal w (items_of old.entries) (items_of entries)
    pub places : List Place
    pub from : Noted
    pub from_is : old.behind ≡ false → from ≡ start_of (asked_by w old)
    pub traced : IsTracedAt (asked_by w old) w.table from trace places (marked_in entries)
    pub are_marks : AreMarks w entries marks places
    pub grounded : AreGrounded w.first (marked_in entries)
    pub fit : All (IsFitLine w old.sub old.not_sup) trace.lines

  pub moved : IsAsked w old.query old.at old.sub old.not_sup → old.first ≡ w.first
      → Follows w (start old.at old.sub old.not_sup) old.steps (items_of old.entries)
      → (new : ProgressLists) (entries : List Entry) (trace : TraceLists) (marks : List ℕ) → AreKept entries trace marks
      → IsNext old new entries trace marks → HasMoved w old new
  moved asked first_is follows new entries trace marks k n =
      let explicit : ProgressLists = record {
        query = old.query;
        at = old.at;
        sub = old.sub;
        not_sup = old.not_sup;
        first = old.first;
        entries = entries;
        found_blocks = new.found_blocks;
        trace = trace;
        marks = marks;
        clash = new.clash;
        steps = old.steps + 1;
        behind = old.behind;
      } in
      let same : explicit ≡ new =
      (λ i. record {
        query = sym n.query i;
        at = sym n.at i;
        sub = sym n.sub i;
        not_sup = sym n.not_sup i;
        first = sym n.first i;
        entries = sym n.entries_are i;
        found_blocks = new.found_blocks;
        trace = sym n.trace_is i;
        marks = sym n.marks_are i;
        clash = new.clash;
        steps = sym n.counted i;
        behind = sym n.behind i;
      }) in
      let more : suc old.steps ≡ old.steps + 1 = omega arith in
      let base : Follows w (start old.at old.sub old.not_sup) (suc old.steps) (items_of entries) =
      (items_of old.entries, follows, k.is_legal) in
      let here : IsStanding w explicit = record {
        asked = asked;
        first_is = first_is;
        follows = subst (λ (m : ℕ). Follows w (start old.at old.sub old.not_sup) m (items_of entries)) more base;
        blocks =
            subst (λ (k : ℕ). AreFirstBlocks k (facts_in entries) new.found_blocks) n.first
            (subst (λ (es : List Entry). AreFirstBlocks new.first (facts_in es) new.found_blocks) n.entries_are
            n.blocks);
        places = k.places;
        from = k.from;
        from_is = k.from_is;
        traced = k.traced;
        are_marks = k.are_marks;
        grounded = k.grounded;
        fit = k.fit;
      } in
      record {
        same = record { query = n.query; at = n.at; sub = n.sub; not_sup = n.not_sup; first = n.first; behind = n.behind };
        standing = subst (λ (q : ProgressLists). IsStanding w q) same here;
        is_legal =
            subst (λ (es : List Entry). IsLegal w (items_of old.entries) (items_of es)) (sym n.entries_are) k.is_legal;
        counted = n.counted;
      }

module _ (w : SearchContext) (old : ProgressLists) (st : IsStanding w old) where
  -- ---- the trail is reached

  pub reached : IsReached (asked_by w old) w.table w.rows old.steps (items_of old.entries)
  reached = record {
    is_table = st.asked.is_table;
    is_choice = st.asked.is_choice;
    facts_have_numbers = st.asked.facts_have_numbers;
    at_first = st.asked.at_first;
    sub_number = old.sub;
    sub_listed = st.asked.sub_listed;
    sub_reads = st.asked.sub_is;
    not_sup_number = old.not_sup;
    not_sup_listed = st.asked.not_sup_listed;
    not_sup_reads = st.asked.not_sup_is;
    follows = st.follows;
  }

  -- a line that is written for the trail is fit
  pub line_fits : (number : ℕ) (line : Line) (u : NumberSet) (children : List Added) (nodes : List ℕ)
      → IsResting w old.entries line u children nodes
      → IsFitLine w old.sub old.not_sup (record { number = number; line = line; marks = u })
  line_fits number line u children nodes r = record {
    over = r.numbered;
    of_kind = λ p e kept is_sub is_not_sup.
        (let kinds = kept_kinds_stay (asked_by w old) w.table w.rows old.steps (items_of old.entries) reached p e kept
        (subst (λ (c : Concept). p c ≡ true) st.asked.sub_is is_sub)
        (subst (λ (c : Concept). p c ≡ true) st.asked.not_sup_is is_not_sup) in
        r.of_kind p e kept (subst (λ (fs : List (Fact ℕ)). AreOfKind w.table fs p e) (facts-items old.entries) kinds));
    has_part = r.has_part;
  }

  pub lines_fit : (number : ℕ) (line : Line) (u : NumberSet) (children : List Added) (nodes : List ℕ)
      → IsResting w old.entries line u children nodes
      → All (IsFitLine w old.sub old.not_sup)
      (old.trace.lines ++ record { number = number; line = line; marks = u } ∷ [])
  lines_fit number line u children nodes r = (let l : NotedLine = record { number = number; line = line; marks = u } in
      All-append (IsFitLine w old.sub old.not_sup) old.trace.lines (l ∷ []) st.fit
      (All-cons (IsFitLine w old.sub old.not_sup) l [] (line_fits number line u children nodes r)
      (All-nil (IsFitLine w old.sub old.not_sup))))

  -- ---- one line with one child

  pub single_kept : (line : Line) (u : NumberSet) (child : Added) (nodes : List ℕ) (fs : List (Fact ℕ)) (by : By)
      → IsResting w old.entries line u (child ∷ []) nodes → Puts w.first w.table child fs → is_single line ≡ true
      → by.marks ≡ u → AreGrounded w.first (marked_in old.entries ++ map (marked u) fs)
      → IsLegal w (items_of old.entries) (items_of old.entries ++ says fs)
      → AreKept w old (old.entries ++ grounded by fs) (with_line old.trace line u) old.marks
  single_kept line u child nodes fs by r puts single same ground legal =
      let at = r.holds (asked_by w old) old.trace.next in
      let ms : marked_in (old.entries ++ grounded by fs) ≡ marked_in old.entries ++ map (marked u) fs =
      marked-append old.entries (grounded by fs)
      ∙ ap (λ (ns : List MarkedFact). marked_in old.entries ++ ns)
      (marked-grounded by fs ∙ ap (λ (v : NumberSet). map (marked v) fs) same) in
      let trail : items_of (old.entries ++ grounded by fs) ≡ items_of old.entries ++ says fs =
      items-append old.entries (grounded by fs) ∙ ap (λ xs. items_of old.entries ++ xs) (items-grounded by fs) in
      record {
        is_legal = subst (λ xs. IsLegal w (items_of old.entries) xs) (sym trail) legal;
        places = st.places;
        from = st.from;
        from_is = st.from_is;
        traced =
            subst (λ (ns : List MarkedFact). IsTracedAt (asked_by w old) w.table st.from
            (with_line old.trace line u) st.places ns)
            (sym ms)
            ((goes_on (asked_by w old) w.table st.from old.trace st.places (marked_in old.entries) st.traced).single
            line u at.rule child fs at.holds at.children_are single puts);
        are_marks = marks_stay w old.entries (grounded by fs) old.marks st.places st.are_marks;
        grounded = subst (AreGrounded w.first) (sym ms) ground;
        fit = lines_fit old.trace.next line u (child ∷ []) nodes r;
      }

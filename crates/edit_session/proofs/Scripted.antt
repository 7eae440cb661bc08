-- Scripts, line by line.
use Rattle.std.proofs.Common.{◌≡◌, ◌⊎◌, ℕ, ◌+◌, ◌<◌, ◌≤◌, Bool, true, false, not, List, [], ◌∷◌, ◌++◌}
use Rattle.std.proofs.Common.{length, take, drop, refl, ap, sym, subst, ◌∙◌, inl, inr, append-nil}
use Rattle.std.proofs.Common.{append_assoc, get_or}
use Rattle.std.specs.Prelude.{if◌then◌else◌, Result, Ok, Err, IfOk, OnErr}
use Rattle.std.specs.Borrow.{Bor}
use Rattle.std.specs.List.{list_any}
use Rattle.std.proofs.lemmas.List.{take_more, take_all, take-append-drop, drop_more}
use Rattle.std.proofs.lemmas.List.Elements.{filter-append}
use Rattle.certificate_lines.specs.Lines.{bytes_of, is_blank}
use Rattle.shq_terms.specs.NoMemory.{NoMemory}
use Rattle.shq_terms.specs.Listed.{Listed}
use Rattle.shq_terms.specs.declared.axioms.Numbered.{Numbered}
use Rattle.shq_oracle.specs.Entry.{Entry}
use Rattle.shq_oracle.specs.Entries.{spent_of, is_spent}
use Rattle.edit_session.specs.Sessions.{State, SessionLists}
use Rattle.edit_session.specs.ScriptLines.{script_lines}
use Rattle.edit_session.specs.SessionLog.{IsSessionLog}
use Rattle.edit_session.specs.Logged.{LogsAtMostOne, RunsOut}
use Rattle.edit_session.specs.Lines.{MayGoOn, HoldsMore, IsLineDone}
use Rattle.edit_session.specs.Scripts.{HasTold, undecided_line, IsScriptWritten}
use Rattle.edit_session.specs.Scripts.{LogsNext, IsToldAtFirst, IsLoggedLine, IsSaidIf, IsSaidTo, IsToldSoFar}
use Rattle.edit_session.specs.Scripts.HasTold.{nothing, one_more}
use Rattle.edit_session.specs.declared.said.Said.{Said as Outcome}
use Rattle.edit_session.specs.declared.said.Said.TheVariants.{Answered, Spent}
use Rattle.edit_session.proofs.Limits.{query_axioms}
use Rattle.edit_session.proofs.Honest.{log_stays, log_longer}

-- ---- axioms that were put last

pub holds_same : (o : Listed) → HoldsMore o o
holds_same o = ([], sym (append-nil o.axioms))

pub holds_both : (o p q : Listed) → HoldsMore o p → HoldsMore p q → HoldsMore o q
holds_both o p q (first, is) (second, longer) =
    (first ++ second, longer ∙ ap (λ (as_ : List Numbered). as_ ++ second) is ∙ append_assoc o.axioms first second)

-- ---- honest logs

module _ (s : State) (p : Listed) (l : List ℕ) (budget : ℕ) (before after : List Entry) (more : HoldsMore s.ontology p)
    (none : list_any is_spent before ≡ false) (within : spent_of after ≤ budget)
    (honest : IsSessionLog s.ontology budget before) where
  -- a line logged one test at most
  pub honest_next : LogsAtMostOne s l before after → IsSessionLog p budget after
  honest_next (inl same) =
      log_stays s.ontology p budget after more (subst (IsSessionLog s.ontology budget) (sym same) honest)
  honest_next (inr t) =
      log_stays s.ontology p budget after more
      (log_longer false s.ontology t.both _ t.query budget before after
      (query_axioms s.context s.ontology t.text t.both t.query t.is_query) t.in_limit t.tests none within (λ e. cc)
      honest)

  -- or one that ran out
  pub honest_last : RunsOut budget s l before after → IsSessionLog p budget after
  honest_last r =
      log_stays s.ontology p budget after more
      (log_longer true s.ontology r.test.both _ r.test.query budget before after
      (query_axioms s.context s.ontology r.test.text r.test.both r.test.query r.test.is_query) r.test.in_limit
      r.test.tests none within (λ e. r.is_whole) honest)

-- however a line ends
pub honest_line : (budget : ℕ) (old new : SessionLists) (l : List ℕ) (before after : List Entry) (text longer : List ℕ)
    → MayGoOn old budget before → HoldsMore old.state.ontology new.state.ontology → spent_of after ≤ budget
    → IsSessionLog old.state.ontology budget before → (r : Result Outcome NoMemory)
    → IfOk r (IsLineDone budget old l before text new after longer) → OnErr r (LogsAtMostOne old.state l before after)
    → IsSessionLog new.state.ontology budget after
honest_line budget old new l before after text longer may more within honest (Ok Answered) d logged =
    honest_next old.state new.state.ontology l budget before after more may.goes_on within honest d.1.logged
honest_line budget old new l before after text longer may more within honest (Ok Spent) d logged =
    honest_last old.state new.state.ontology l budget before after more may.goes_on within honest d.0
honest_line budget old new l before after text longer may more within honest (Err e) d logged =
    honest_next old.state new.state.ontology l budget before after more may.goes_on within honest logged

-- ---- lines

pub lines_more : (ls : List (Bor (List ℕ))) (i : ℕ) (d : Bor (List ℕ)) → i < length ls
    → bytes_of (take (i + 1) ls) ≡ bytes_of (take i ls) ++ (get_or ls i d).now ∷ []
lines_more ls i d lt = ap bytes_of (take_more ls i d lt) ∙ map_push (take i ls) (get_or ls i d)
  where
    map_push : (xs : List (Bor (List ℕ))) (y : Bor (List ℕ)) → bytes_of (xs ++ y ∷ []) ≡ bytes_of xs ++ y.now ∷ []
    map_push [] y = refl
    map_push (z ∷ zs) y = ap (λ (bs : List (List ℕ)). z.now ∷ bs) (map_push zs y)

-- a line of whitespace alone is passed over, and any other is not
script_blank : (ls : List (List ℕ)) (l : List ℕ) → is_blank l ≡ true → script_lines (ls ++ l ∷ []) ≡ script_lines ls
script_blank ls l blank =
    filter-append (λ (x : List ℕ). not (is_blank x)) ls (l ∷ [])
    ∙ ap (λ (b : Bool). script_lines ls ++ (if not b then l ∷ [] else [])) blank
    ∙ append-nil (script_lines ls)

script_line : (ls : List (List ℕ)) (l : List ℕ) → is_blank l ≡ false
    → script_lines (ls ++ l ∷ []) ≡ script_lines ls ++ l ∷ []
script_line ls l words =
    filter-append (λ (x : List ℕ). not (is_blank x)) ls (l ∷ [])
    ∙ ap (λ (b : Bool). script_lines ls ++ (if not b then l ∷ [] else [])) words

-- ---- so far

pub told_none : (budget : ℕ) (s : SessionLists) (before : List Entry) (text : List ℕ) → MayGoOn s budget before
    → IsSessionLog s.state.ontology budget before → IsToldSoFar budget s.state before text [] s before text
told_none budget s before text may honest = record {
  told = [];
  has_told = nothing;
  put = sym (append-nil text);
  more = holds_same s.state.ontology;
  may_go_on = may;
  honest = honest;
}

module _ (budget : ℕ) (start : State) (before : List Entry) (text : List ℕ) (ls : List (List ℕ)) (l : List ℕ)
    (old new : SessionLists) (log after : List Entry) (out longer : List ℕ)
    (so_far : IsToldSoFar budget start before text ls old log out)
    (more : HoldsMore old.state.ontology new.state.ontology)
    (honest : IsSessionLog new.state.ontology budget after) where
  still_more : HoldsMore start.ontology new.state.ontology
  still_more = holds_both start.ontology old.state.ontology new.state.ontology so_far.more more

  told_more : (b : Bool) → is_blank l ≡ b → IsSaidIf b budget old l log out new after longer Answered
      → IsToldSoFar budget start before text (ls ++ l ∷ []) new after longer
  told_more true blank h = record {
    told = so_far.told;
    has_told =
        subst (λ (s : SessionLists). HasTold start before (script_lines (ls ++ l ∷ [])) s.state after so_far.told)
        (sym h.0)
        (subst (λ (es : List Entry). HasTold start before (script_lines (ls ++ l ∷ [])) old.state es so_far.told)
        (sym h.1)
        (subst (λ (xs : List (List ℕ)). HasTold start before xs old.state log so_far.told)
        (sym (script_blank ls l blank)) so_far.has_told));
    put = h.2 ∙ so_far.put;
    more = still_more;
    may_go_on =
        subst (λ (s : SessionLists). MayGoOn s budget after) (sym h.0)
        (subst (MayGoOn old budget) (sym h.1) so_far.may_go_on);
    honest = honest;
  }
  told_more false words h = record {
    told = so_far.told ++ h.0;
    has_told =
        subst (λ (xs : List (List ℕ)). HasTold start before xs new.state after (so_far.told ++ h.0))
        (sym (script_line ls l words))
        (one_more (script_lines ls) old.state log so_far.told l new.state after h.0 so_far.has_told h.1.is_said
        h.1.logged h.1.shown);
    put = h.2 ∙ ap (λ (xs : List ℕ). xs ++ h.0) so_far.put ∙ append_assoc text so_far.told h.0;
    more = still_more;
    may_go_on = h.1.may_go_on;
    honest = honest;
  }

  pub told_next : (said : Outcome) → said ≡ Answered → IsSaidTo budget old l log out new after longer said
      → IsToldSoFar budget start before text (ls ++ l ∷ []) new after longer
  told_next said is h = told_more (is_blank l) refl (subst (IsSaidTo budget old l log out new after longer) is h)

  -- the line could not be decided
  cut : (b : Bool) → is_blank l ≡ b → IsSaidIf b budget old l log out new after longer Spent
      → (behind whole : List (List ℕ)) → script_lines whole ≡ script_lines (ls ++ l ∷ []) ++ script_lines behind
      → (written : List ℕ) → written ≡ longer ++ undecided_line
      → IsScriptWritten budget start before text whole new.state after written Spent
  cut true blank h behind whole is written put = cc (h.3)
  cut false words h behind whole is written put =
      let same : longer ≡ text ++ so_far.told = h.2 ∙ so_far.put in (
        so_far.told ++ undecided_line,
        record {
          front = script_lines ls;
          undecided = l;
          behind = script_lines behind;
          is_script =
              is ∙ ap (λ (xs : List (List ℕ)). xs ++ script_lines behind) (script_line ls l words)
              ∙ append_assoc (script_lines ls) (l ∷ []) (script_lines behind);
          standing = old.state;
          log = log;
          told = so_far.told;
          has_told = so_far.has_told;
          runs_out = h.0;
          says = refl;
          honest = subst (λ (s : State). IsSessionLog s.ontology budget after) h.1 honest;
        },
        put ∙ ap (λ (xs : List ℕ). xs ++ undecided_line) same ∙ append_assoc text so_far.told undecided_line,
      )

  pub cut_off : (said : Outcome) → said ≡ Spent → IsSaidTo budget old l log out new after longer said
      → (behind whole : List (List ℕ)) → whole ≡ (ls ++ l ∷ []) ++ behind → (written : List ℕ)
      → written ≡ longer ++ undecided_line
      → IsScriptWritten budget start before text whole new.state after written Spent
  cut_off said is h behind whole split written put =
      cut (is_blank l) refl (subst (IsSaidTo budget old l log out new after longer) is h) behind whole
      (ap script_lines split ∙ filter-append (λ (x : List ℕ). not (is_blank x)) (ls ++ l ∷ []) behind) written put

-- ---- where memory was refused

-- what is so in any case is so then
pub after_err : {T E : Type 0} (r : Result T E) (P : Type 0) → P → OnErr r P
after_err (Ok x) P p = tt
after_err (Err e) P p = p

pub told_at_first : (budget : ℕ) (start : State) (before : List Entry) (text : List ℕ) (ls behind whole : List (List ℕ))
    (s : SessionLists) (log after : List Entry) (out written : List ℕ)
    → IsToldSoFar budget start before text ls s log out → whole ≡ ls ++ behind → written ≡ out
    → LogsNext budget s.state (script_lines behind) log after
    → IsToldAtFirst budget start before text whole after written
told_at_first budget start before text ls behind whole s log after out written h split same next = record {
  front = script_lines ls;
  behind = script_lines behind;
  is_script = ap script_lines split ∙ filter-append (λ (x : List ℕ). not (is_blank x)) ls behind;
  standing = s.state;
  log = log;
  told = h.told;
  has_told = h.has_told;
  put = same ∙ h.put;
  logged = next;
}

-- the lines that are left begin with this one
lines_left : (ls : List (Bor (List ℕ))) (i : ℕ) (d : Bor (List ℕ)) → i < length ls
    → is_blank (get_or ls i d).now ≡ false
    → script_lines (bytes_of (drop i ls)) ≡ (get_or ls i d).now ∷ script_lines (bytes_of (drop (i + 1) ls))
lines_left ls i d lt words =
    let rest = script_lines (bytes_of (drop (i + 1) ls)) in
    ap (λ (ms : List (Bor (List ℕ))). script_lines (bytes_of ms)) (drop_more ls i d lt)
    ∙ ap (λ (b : Bool). if not b then (get_or ls i d).now ∷ rest else rest) words

pub next_logged : (budget : ℕ) (s : State) (ls : List (Bor (List ℕ))) (i : ℕ) (d : Bor (List ℕ))
    (before after : List Entry)
    → i < length ls → is_blank (get_or ls i d).now ≡ false
    → LogsAtMostOne s (get_or ls i d).now before after ⊎ RunsOut budget s (get_or ls i d).now before after
    → LogsNext budget s (script_lines (bytes_of (drop i ls))) before after
next_logged budget s ls i d before after lt words logged =
    subst (λ (xs : List (List ℕ)). LogsNext budget s xs before after) (sym (lines_left ls i d lt words)) logged

pub line_logged : (r : Result Outcome NoMemory) (s : State) (l : List ℕ) (before after : List Entry)
    → is_blank l ≡ false
    → OnErr r (LogsAtMostOne s l before after) → OnErr r (IsLoggedLine s l before after)
line_logged (Ok x) s l before after words h = tt
line_logged (Err e) s l before after words h = (words, h)

-- a line that could not be decided logged a test that ran out
pub ran_out : (budget : ℕ) (old new : SessionLists) (l : List ℕ) (log after : List Entry) (out longer : List ℕ)
    (said : Outcome)
    → said ≡ Spent → IsSaidTo budget old l log out new after longer said
    → (is_blank l ≡ false) × RunsOut budget old.state l log after
ran_out budget old new l log after out longer said is h =
    by (is_blank l) refl (subst (IsSaidTo budget old l log out new after longer) is h)
  where
    by : (b : Bool) → is_blank l ≡ b → IsSaidIf b budget old l log out new after longer Spent
        → (is_blank l ≡ false) × RunsOut budget old.state l log after
    by true blank h = cc (h.3)
    by false words h = (words, h.0)

-- a line that could not be decided has no answer
pub nothing_put : (budget : ℕ) (old new : SessionLists) (l : List ℕ) (log after : List Entry) (out longer : List ℕ)
    (said : Outcome)
    → said ≡ Spent → IsSaidTo budget old l log out new after longer said → longer ≡ out
nothing_put budget old new l log after out longer said is h =
    by (is_blank l) (subst (IsSaidTo budget old l log out new after longer) is h)
  where
    by : (b : Bool) → IsSaidIf b budget old l log out new after longer Spent → longer ≡ out
    by true blank = blank.2
    by false spent = spent.2

-- ---- at the end

pub wholly_told : (budget : ℕ) (start : State) (before : List Entry) (text : List ℕ) (ls : List (List ℕ))
    (s : SessionLists) (log : List Entry) (out : List ℕ)
    → IsToldSoFar budget start before text ls s log out
    → IsScriptWritten budget start before text ls s.state log out Answered
wholly_told budget start before text ls s log out h =
    (h.told, record { has_told = h.has_told; honest = h.honest }, h.put)

-- ---- lines of a text

pub lines_all : (ls : List (Bor (List ℕ))) (i : ℕ) → length ls ≤ i → bytes_of (take i ls) ≡ bytes_of ls
lines_all ls i le = ap bytes_of (take_all i ls le)

map_append : (xs ys : List (Bor (List ℕ))) → bytes_of (xs ++ ys) ≡ bytes_of xs ++ bytes_of ys
map_append [] ys = refl
map_append (z ∷ zs) ys = ap (λ (bs : List (List ℕ)). z.now ∷ bs) (map_append zs ys)

pub lines_halves : (ls : List (Bor (List ℕ))) (i : ℕ) → bytes_of ls ≡ bytes_of (take i ls) ++ bytes_of (drop i ls)
lines_halves ls i = ap bytes_of (sym (take-append-drop i ls)) ∙ map_append (take i ls) (drop i ls)

pub lines_split : (ls : List (Bor (List ℕ))) (i : ℕ) (d : Bor (List ℕ)) → i < length ls
    → bytes_of ls ≡ (bytes_of (take i ls) ++ (get_or ls i d).now ∷ []) ++ bytes_of (drop (i + 1) ls)
lines_split ls i d lt =
    lines_halves ls (i + 1)
    ∙ ap (λ (bs : List (List ℕ)). bs ++ bytes_of (drop (i + 1) ls)) (lines_more ls i d lt)

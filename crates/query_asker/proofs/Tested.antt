-- What a test or a node that is put into the log makes of an asker.
use Rattle.std.proofs.Common.{◌≡◌, ◌⊎◌, ℕ, ◌+◌, ◌-◌, ◌<◌, ◌≤◌, true, false, List, [], ◌∷◌, ◌++◌, length, take, drop}
use Rattle.std.proofs.Common.{refl, ap, sym, ◌∙◌, subst, arith, inl, inr, length-append, append_assoc}
use Rattle.std.specs.Prelude.{Option, Result, Ok, Err, IfOk, OnErr, Bool}
use Rattle.std.specs.FinSet as set
use Rattle.std.specs.List.{Contains, list_any}
use Rattle.std.proofs.lemmas.List.{append-nil, take-append-drop, take-append-le, drop-append-le}
use Rattle.std.proofs.lemmas.List.Elements.{All-contains, Contains-append_cases, Contains-push}
use Rattle.std.proofs.lemmas.List.Elements.{Contains-push_cases}
use Rattle.std.proofs.lemmas.List.Sums.{sum_by-append}
use Rattle.lane_sieve.specs.Sets.{NumberSet, IsPart}
use Rattle.axiom_sets.specs.Sets.{Limited}
use Rattle.shq_terms.specs.NoMemory.{NoMemory}
use Rattle.shq_terms.specs.declared.axioms.Query.{Query}
use Rattle.set_questions.specs.Meaning.{ShowsNothing, one_more}
use Rattle.set_questions.specs.Asked.{Answers, ShowsNoOther, AsksInBudget, Takes}
use Rattle.set_questions.specs.declared.entail.Reply.{Reply}
use Rattle.set_questions.specs.declared.entail.Reply.TheVariants.{Yes}
use Rattle.shq_oracle.specs.Entry.{Entry}
use Rattle.shq_oracle.specs.Entry.TheVariants.{Test, Node}
use Rattle.shq_oracle.specs.TestEnd.{TestEnd}
use Rattle.shq_oracle.specs.TestEnd.TheVariants as E
use Rattle.shq_oracle.specs.Entries.{cost_of, spent_of, nodes_of, is_spent, ended_spent, AnswersQuery, IsAnswered}
use Rattle.shq_oracle.specs.HonestLog.{IsAxiomSet, IsHonestEnd, EndsWhenSpent}
use Rattle.shq_oracle.specs.Shown.{IsShownYes}
use Rattle.shq_oracle.specs.OracleLists.{OracleLists}
use Rattle.shq_oracle.specs.Decided.{EndsAs, AddsTest, SpendsAll, TakesNode}
use Rattle.shq_oracle.specs.declared.answer.Outcome.{Outcome}
use Rattle.shq_oracle.specs.declared.answer.Outcome.TheVariants as Found
use Rattle.query_asker.specs.declared.memo.Memo.{Memo}
use Rattle.query_asker.specs.AskerLists.{AskerLists, origin_of}
use Rattle.query_asker.specs.Told.{IsTestOfOther, AreTestsOfOthers, asker_meaning, IsAskerLog, IsUnknown}
use Rattle.query_asker.specs.Told.{LogsNode}
use Rattle.query_asker.specs.Memory.{yes_by, yes_of, no_of, IsMemo}
use Rattle.query_asker.specs.Asking.{lists_of, CanAsk, IsAsker, IsLater, reply_of}
use Rattle.query_asker.specs.Deciding.{GainsTest, GainsAtMostOne}
use Rattle.query_asker.proofs.Remembered.{kept_still}
use Rattle.query_asker.proofs.Logged.{goes_on, with_entry, with_asks, MayBeLast, log_with, log_counted}
use Rattle.query_asker.proofs.Answering.{yes_by_log, no_by_log, unspent_with, tested_in_budget}
use Rattle.set_questions.specs.declared.antichain.Kind.TheVariants.{Minimal, Maximal}
use Rattle.set_questions.specs.Kept.{kept_sets}

-- ---- nodes

pub nodes_test : (log : List Entry) (s : Limited) (q : Query) (steps : ℕ) (d : TestEnd)
    → nodes_of (log ++ Test s q steps d ∷ []) ≡ nodes_of log
nodes_test [] s q steps d = refl
nodes_test (Test t p n e ∷ es) s q steps d = nodes_test es s q steps d
nodes_test (Node t ∷ es) s q steps d = ap (λ (xs : List Limited). t ∷ xs) (nodes_test es s q steps d)

pub nodes_node : (log : List Entry) (s : Limited) → nodes_of (log ++ Node s ∷ []) ≡ nodes_of log ++ s ∷ []
nodes_node [] s = refl
nodes_node (Test t p n e ∷ es) s = nodes_node es s
nodes_node (Node t ∷ es) s = ap (λ (xs : List Limited). t ∷ xs) (nodes_node es s)

-- ---- one entry more

abbrev pub logged : OracleLists → Entry → OracleLists
logged o e = record { ontology = o.ontology; budget = o.budget; log = o.log ++ e ∷ [] }

pub is_logged : (o o' : OracleLists) (e : Entry) → o'.ontology ≡ o.ontology → o'.budget ≡ o.budget
    → o'.log ≡ o.log ++ e ∷ [] → o' ≡ logged o e
is_logged o o' e ontology budget log = λ i. record { ontology = ontology i; budget = budget i; log = log i }

pub lists_logged : (o : OracleLists) (q : Query) (among : Option Limited) (first asks asks' : ℕ) (e : Entry)
    → first ≤ length o.log
    → lists_of (logged o e) q among first asks' ≡ with_entry (lists_of o q among first asks) e asks'
lists_logged o q among first asks asks' e le =
    let front : take first (o.log ++ e ∷ []) ≡ take first o.log = take-append-le first o.log (e ∷ []) le in
    let back : drop first (o.log ++ e ∷ []) ≡ drop first o.log ++ e ∷ [] = drop-append-le first o.log (e ∷ []) le in
    λ i. record {
      ontology = o.ontology;
      query = q;
      budget = o.budget;
      local_part = (lists_of o q among first asks).local_part;
      before = front i;
      gained = back i;
      asks = asks';
    }

memo_still : (memo : Memo) (log more : List Entry) → IsMemo memo log → IsMemo memo (log ++ more)
memo_still memo log more h = record {
  within = omega (arith, h.within, length-append log more);
  yes_kind = h.yes_kind;
  no_kind = h.no_kind;
  yes_kept = kept_still yes_of Minimal log more memo.seen (kept_sets memo.yes) h.within h.yes_kept;
  no_kept = kept_still no_of Maximal log more memo.seen (kept_sets memo.no) h.within h.no_kept;
}

pub asker_logged : (o : OracleLists) (q : Query) (among : Option Limited) (first : ℕ) (memo : Memo) (asks asks' : ℕ)
    (e : Entry)
    → IsAsker o q among first memo asks
    → MayBeLast (lists_of o q among first asks) e asks' → IsAsker (logged o e) q among first memo asks'
asker_logged o q among first memo asks asks' e h may =
    let same = lists_logged o q among first asks asks' e h.first_within in
    record {
      first_within = omega (arith, h.first_within, length-append o.log (e ∷ []));
      limit = h.limit;
      can_ask = subst CanAsk (sym same)
          (record { in_limit = h.can_ask.in_limit; others = h.can_ask.others; keeps = h.can_ask.keeps });
      is_log = subst IsAskerLog (sym same) (log_with (lists_of o q among first asks) e asks' h.is_log may);
      remembers =
          subst (IsMemo memo) (sym (drop-append-le first o.log (e ∷ []) h.first_within))
          (memo_still memo (drop first o.log) (e ∷ []) h.remembers);
    }

-- one ask more, and no entry
pub asker_counted : (o : OracleLists) (q : Query) (among : Option Limited) (first : ℕ) (memo : Memo) (asks : ℕ)
    → IsAsker o q among first memo asks → IsAsker o q among first memo (one_more asks)
asker_counted o q among first memo asks h = record {
  first_within = h.first_within;
  limit = h.limit;
  can_ask = record { in_limit = h.can_ask.in_limit; others = h.can_ask.others; keeps = h.can_ask.keeps };
  is_log = log_counted (lists_of o q among first asks) h.is_log;
  remembers = h.remembers;
}

-- ---- what the oracle asks for

module _ (o : OracleLists) (q : Query) (among : Option Limited) (first asks : ℕ) where
  abbrev a : AskerLists
  a = lists_of o q among first asks

  whole : a.before ++ a.gained ≡ o.log
  whole = take-append-drop first o.log

  pub none_spent : IsAskerLog a → ¬ (spent_of o.log ≡ o.budget) → list_any is_spent o.log ≡ false
  none_spent is_log some = goes_on o.budget o.log (subst (EndsWhenSpent o.budget) whole is_log.ends) some

  others_do_not : (s : Limited) (e : Entry) → IsTestOfOther q e → ¬ AnswersQuery e s q
  others_do_not s (Test t p steps d) other answers = other answers.0
  others_do_not s (Node t) other answers = answers

  pub is_new : AreTestsOfOthers q a.before → (s : Limited) → ¬ IsAnswered a.gained s q → ¬ IsAnswered o.log s q
  is_new others s none found =
      elim (Contains-append_cases a.before a.gained found.0
      (subst (λ (log : List Entry). Contains log found.0) (sym whole) found.1)) [
        | inl old ↦ others_do_not s found.0 (All-contains (IsTestOfOther q) a.before found.0 others old) found.2
        | inr new ↦ none (found.0, new, found.2)
      ]

  -- ---- a test

  module _ (o' : OracleLists) (s : Limited) (v : Outcome) (is_log : IsAskerLog a) (some : ¬ (spent_of o.log ≡ o.budget))
      (ontology : o'.ontology ≡ o.ontology) (budget : o'.budget ≡ o.budget)
      (appends : AddsTest o.ontology s q o.log o'.log v) (spends : SpendsAll o' v)
      (within : spent_of o'.log ≤ o'.budget) (part : IsPart s.members a.local_part)
      (new : ¬ IsAnswered a.gained s q) where
    abbrev pub entry : Entry
    entry = Test s q appends.steps appends.ended

    spent_is : (w : Outcome) (d : TestEnd) → EndsAs w d → ended_spent d ≡ true → SpendsAll o' w
        → spent_of o'.log ≡ o'.budget
    spent_is (Found.Yes x) (E.Yes u) m e l = cc
    spent_is (Found.Yes x) E.No m e l = absurd m
    spent_is (Found.Yes x) (E.Spent t) m e l = absurd m
    spent_is Found.No (E.Yes u) m e l = absurd m
    spent_is Found.No E.No m e l = cc
    spent_is Found.No (E.Spent t) m e l = absurd m
    spent_is Found.Undecided (E.Yes u) m e l = absurd m
    spent_is Found.Undecided E.No m e l = absurd m
    spent_is Found.Undecided (E.Spent t) m e l = l

    longer : (a.before ++ a.gained) ++ entry ∷ [] ≡ o'.log
    longer = ap (λ (log : List Entry). log ++ entry ∷ []) whole ∙ sym appends.is_log

    may_test : MayBeLast a entry (one_more asks)
    may_test = record {
      goes_on = ap (list_any is_spent) whole ∙ none_spent is_log some;
      honest = appends.honest;
      within =
          subst (λ (log : List Entry). spent_of log ≤ o.budget) (sym longer)
          (subst (λ (n : ℕ). spent_of o'.log ≤ n) budget within);
      whole = λ e. ap spent_of longer ∙ spent_is v appends.ended appends.matches e spends ∙ budget;
      of_query = refl;
      new = new;
      in_part = part;
      counted = inr refl;
    }

    pub after_test : (memo : Memo) → IsAsker o q among first memo asks → IsAsker o' q among first memo (one_more asks)
    after_test memo h =
        subst (λ (l : OracleLists). IsAsker l q among first memo (one_more asks))
        (sym (is_logged o o' entry ontology budget appends.is_log))
        (asker_logged o q among first memo asks (one_more asks) entry h may_test)

    abbrev pub after : AskerLists
    after = with_entry a entry (one_more asks)

    nothing_left : spent_of o'.log ≡ o'.budget → (asker_meaning after).left ≡ 0
    nothing_left e =
        let same : a.before ++ (a.gained ++ entry ∷ []) ≡ o'.log =
        sym (append_assoc a.before a.gained (entry ∷ [])) ∙ longer in
        let spent : spent_of (a.before ++ (a.gained ++ entry ∷ [])) ≡ o.budget = ap spent_of same ∙ e ∙ budget in
        omega (arith, spent)

    by_end : (w : Outcome) (d : TestEnd) → IsAskerLog after → s.limit ≡ length o.ontology.axioms
        → Contains after.gained (Test s q appends.steps d) → IsHonestEnd o.ontology s q appends.steps d
        → EndsAs w d → SpendsAll o' w → Answers (asker_meaning after) s (reply_of w)
    by_end (Found.Yes x) (E.Yes u) log' limit at honest m l =
        subst (λ (y : Limited). Answers (asker_meaning after) s (Yes y)) m
        (yes_by_log after log' s s q appends.steps u at limit honest.part)
    by_end Found.No E.No log' limit at honest m l = no_by_log after log' s s q appends.steps at (λ k h. h)
    by_end Found.Undecided (E.Spent x) log' limit at honest m l = nothing_left l
    by_end (Found.Yes x) E.No log' limit at honest m l = absurd m
    by_end (Found.Yes x) (E.Spent t) log' limit at honest m l = absurd m
    by_end Found.No (E.Yes u) log' limit at honest m l = absurd m
    by_end Found.No (E.Spent t) log' limit at honest m l = absurd m
    by_end Found.Undecided (E.Yes u) log' limit at honest m l = absurd m
    by_end Found.Undecided E.No log' limit at honest m l = absurd m

    -- a test that spent the budget answers nothing
    no_answer : (d : TestEnd) → EndsAs Found.Undecided d → ¬ AnswersQuery (Test s q appends.steps d) s q
    no_answer (E.Yes u) m answers = absurd m
    no_answer E.No m answers = absurd m
    no_answer (E.Spent t) m answers = answers.1

    still_unknown : (w : Outcome) → EndsAs w appends.ended → IsUnknown after s (reply_of w)
    still_unknown (Found.Yes x) m = tt
    still_unknown Found.No m = tt
    still_unknown Found.Undecided m = λ found. elim (Contains-push_cases a.gained entry found.0 found.1) [
      | inl old ↦ new (found.0, old, found.2)
      | inr is ↦ no_answer appends.ended m (subst (λ (e : Entry). AnswersQuery e s q) (sym is) found.2)
    ]

    -- the test shows no yes-set but the one that its outcome names
    shown_by_end : (w : Outcome) (d : TestEnd) → EndsAs w d → (enough : Limited) (j : NumberSet)
        → yes_by d ≡ enough ∷ [] → enough.members ≡ j → (P : Type 0)
        → ((x : Limited) → w ≡ Found.Yes x → j ≡ x.members → P) → P
    shown_by_end (Found.Yes x) (E.Yes u) m enough j e is P gives =
        let same : u ≡ enough = cc e in gives x refl (sym is ∙ ap (λ (l : Limited). l.members) (sym same ∙ m))
    shown_by_end (Found.Yes x) E.No m enough j e is P gives = absurd m
    shown_by_end (Found.Yes x) (E.Spent t) m enough j e is P gives = absurd m
    shown_by_end Found.No (E.Yes u) m enough j e is P gives = absurd m
    shown_by_end Found.No E.No m enough j e is P gives = absurd (cc e)
    shown_by_end Found.No (E.Spent t) m enough j e is P gives = absurd m
    shown_by_end Found.Undecided (E.Yes u) m enough j e is P gives = absurd m
    shown_by_end Found.Undecided E.No m enough j e is P gives = absurd m
    shown_by_end Found.Undecided (E.Spent t) m enough j e is P gives = absurd (cc e)

    shown_before : (w : Outcome) → EndsAs w appends.ended → (j : NumberSet) → IsShownYes after.gained q j
        → IsShownYes a.gained q j ⊎ ((x : Limited) × (w ≡ Found.Yes x) × (j ≡ x.members))
    shown_before w m j h =
        elim (Contains-push_cases a.gained entry (Test h.tested q h.steps (E.Yes h.enough)) h.is_yes) [
          | inl old ↦
              inl (record { tested = h.tested; steps = h.steps; enough = h.enough; is_yes = old; is_set = h.is_set })
          | inr is ↦
              inr (shown_by_end w appends.ended m h.enough j (ap yes_of is) h.is_set
              ((x : Limited) × (w ≡ Found.Yes x) × (j ≡ x.members)) (λ x e f. (x, e, f)))
        ]

    shows_named : (w : Outcome) → EndsAs w appends.ended
        → ShowsNoOther (asker_meaning a) (asker_meaning after) (reply_of w)
    shows_named (Found.Yes x) m =
        λ j h. elim (shown_before (Found.Yes x) m j h) [
          | inl old ↦ inl old
          | inr new' ↦
              let same : new'.0 ≡ x = cc (sym new'.1) in
              inr (λ k at. subst (λ (t : NumberSet). set.contains t k ≡ true)
              (sym (new'.2 ∙ ap (λ (l : Limited). l.members) same)) at)
        ]
    shows_named Found.No m = λ j h. elim (shown_before Found.No m j h) [ inl old ↦ old | inr new' ↦ absurd (cc new'.1) ]
    shows_named Found.Undecided m =
        λ j h. elim (shown_before Found.Undecided m j h) [ inl old ↦ old | inr new' ↦ absurd (cc new'.1) ]

    is_after : first ≤ length o.log → lists_of o' q among first (one_more asks) ≡ after
    is_after le =
        ap (λ (l : OracleLists). lists_of l q among first (one_more asks))
        (is_logged o o' entry ontology budget appends.is_log)
        ∙ lists_logged o q among first asks (one_more asks) entry le

    pub answered : (memo : Memo) → IsAsker o q among first memo asks → s.limit ≡ length o.ontology.axioms → (t : Reply)
        → t ≡ reply_of v → Answers (asker_meaning (lists_of o' q among first (one_more asks))) s t
    answered memo h limit t e =
        let log' : IsAskerLog after = log_with a entry (one_more asks) h.is_log may_test in
        subst (λ (r : Reply). Answers (asker_meaning (lists_of o' q among first (one_more asks))) s r) (sym e)
        (subst (λ (l : AskerLists). Answers (asker_meaning l) s (reply_of v)) (sym (is_after h.first_within))
        (by_end v appends.ended log' limit (Contains-push a.gained entry) appends.honest.1 appends.matches spends))

    pub unknown : first ≤ length o.log → (t : Reply) → t ≡ reply_of v
        → IsUnknown (lists_of o' q among first (one_more asks)) s t
    unknown le t e =
        subst (λ (r : Reply). IsUnknown (lists_of o' q among first (one_more asks)) s r) (sym e)
        (subst (λ (l : AskerLists). IsUnknown l s (reply_of v)) (sym (is_after le)) (still_unknown v appends.matches))

    pub shows : first ≤ length o.log → (t : Reply) → t ≡ reply_of v
        → ShowsNoOther (asker_meaning a) (asker_meaning (lists_of o' q among first (one_more asks))) t
    shows le t e =
        subst
        (λ (r : Reply). ShowsNoOther (asker_meaning a) (asker_meaning (lists_of o' q among first (one_more asks))) r)
        (sym e)
        (subst (λ (l : AskerLists). ShowsNoOther (asker_meaning a) (asker_meaning l) (reply_of v)) (sym (is_after le))
        (shows_named v appends.matches))

    pub later : first ≤ length o.log → IsLater a (lists_of o' q among first (one_more asks))
    later le = record { more = entry ∷ []; is_more = is_after le }

    pub gains : first ≤ length o.log → GainsTest a (lists_of o' q among first (one_more asks)) s v
    gains le = record {
      more = entry ∷ [];
      is_more = is_after le;
      is_test =
          inl (record { steps = appends.steps; ended = appends.ended; is_more = refl; matches = appends.matches });
    }

    pub in_budget : first ≤ length o.log → (t : Reply) → t ≡ reply_of v
        → AsksInBudget (asker_meaning a) (asker_meaning (lists_of o' q among first (one_more asks))) t
    in_budget le t e =
        let after = lists_of o' q among first (one_more asks) in
        subst (λ (r : Reply). AsksInBudget (asker_meaning a) (asker_meaning after) r) (sym e)
        (tested_in_budget a after s v (gains le))

    pub same_nodes : first ≤ length o.log
        → nodes_of (lists_of o' q among first (one_more asks)).gained ≡ nodes_of a.gained
    same_nodes le =
        ap (λ (l : AskerLists). nodes_of l.gained) (is_after le) ∙ nodes_test a.gained s q appends.steps appends.ended

  -- ---- a node

  module _ (o' : OracleLists) (s : Limited) (is_log : IsAskerLog a) (some : spent_of o.log < o.budget)
      (ontology : o'.ontology ≡ o.ontology) (budget : o'.budget ≡ o.budget)
      (appends : o'.log ≡ o.log ++ Node s ∷ []) (is_set : IsAxiomSet o.ontology s) where
    node_longer : (a.before ++ a.gained) ++ Node s ∷ [] ≡ o.log ++ Node s ∷ []
    node_longer = ap (λ (log : List Entry). log ++ Node s ∷ []) whole

    node_spent : spent_of ((a.before ++ a.gained) ++ Node s ∷ []) ≡ spent_of o.log + 1
    node_spent = ap spent_of node_longer ∙ sum_by-append cost_of o.log (Node s ∷ [])

    may_take : MayBeLast a (Node s) asks
    may_take = record {
      goes_on = ap (list_any is_spent) whole ∙ none_spent is_log (λ e. absurd (omega (arith, e, some)));
      honest = is_set;
      within = omega (arith, node_spent, some);
      whole = λ e. cc;
      of_query = tt;
      new = tt;
      in_part = tt;
      counted = inl (refl, refl);
    }

    after_node : (memo : Memo) → IsAsker o q among first memo asks → IsAsker o' q among first memo asks
    after_node memo h =
        subst (λ (l : OracleLists). IsAsker l q among first memo asks)
        (sym (is_logged o o' (Node s) ontology budget appends))
        (asker_logged o q among first memo asks asks (Node s) h may_take)

    is_after_node : first ≤ length o.log → lists_of o' q among first asks ≡ with_entry a (Node s) asks
    is_after_node le =
        ap (λ (l : OracleLists). lists_of l q among first asks) (is_logged o o' (Node s) ontology budget appends)
        ∙ lists_logged o q among first asks asks (Node s) le

    node_left : (asker_meaning (with_entry a (Node s) asks)).left ≡ (asker_meaning a).left - 1
    node_left =
        let same : spent_of (a.before ++ (a.gained ++ Node s ∷ [])) ≡ spent_of o.log + 1 =
        ap spent_of (sym (append_assoc a.before a.gained (Node s ∷ []))) ∙ node_spent in
        let old : spent_of (a.before ++ a.gained) ≡ spent_of o.log = ap spent_of whole in
        omega (arith, same, old)

    takes_one : first ≤ length o.log → Takes (asker_meaning a) (asker_meaning (lists_of o' q among first asks)) s true
    takes_one le =
        let old : spent_of (a.before ++ a.gained) ≡ spent_of o.log = ap spent_of whole in
        subst (λ (l : AskerLists). Takes (asker_meaning a) (asker_meaning l) s true) (sym (is_after_node le))
        ((λ e. absurd (omega (arith, old, some))), node_left, nodes_node a.gained s)

  -- ---- a call that takes a node, or finds nothing left, or is refused memory

  module _ (o' : OracleLists) (s : Limited) (memo : Memo) (h : IsAsker o q among first memo asks)
      (ontology : o'.ontology ≡ o.ontology) (budget : o'.budget ≡ o.budget) (is_set : IsAxiomSet o.ontology s) where
    abbrev b : AskerLists
    b = lists_of o' q among first asks

    same_oracle : o'.log ≡ o.log → o' ≡ o
    same_oracle e = λ i. record { ontology = ontology i; budget = budget i; log = e i }

    same_asker : o'.log ≡ o.log → b ≡ a
    same_asker e = ap (λ (l : OracleLists). lists_of l q among first asks) (same_oracle e)

    asker_still : o'.log ≡ o.log → IsAsker o' q among first memo asks
    asker_still e = subst (λ (l : OracleLists). IsAsker l q among first memo asks) (sym (same_oracle e)) h

    pub after_take : (r : Result Bool NoMemory) → IfOk r (TakesNode o o' s) → OnErr r (o'.log ≡ o.log)
        → IsAsker o' q among first memo asks
    after_take (Ok true) t e = after_node o' s h.is_log t.0 ontology budget t.1 is_set memo h
    after_take (Ok false) t e = asker_still t.1
    after_take (Err x) t e = asker_still e

    pub logs_node : (r : Result Bool NoMemory) → IfOk r (TakesNode o o' s) → IfOk r (LogsNode a b s)
    logs_node (Ok true) t = is_after_node o' s h.is_log t.0 ontology budget t.1 is_set h.first_within
    logs_node (Ok false) t = same_asker t.1
    logs_node (Err x) t = tt

    pub logs_nothing : (r : Result Bool NoMemory) → OnErr r (o'.log ≡ o.log) → OnErr r (b ≡ a)
    logs_nothing (Ok x) e = tt
    logs_nothing (Err x) e = same_asker e

    nothing_left_of : spent_of o.log ≡ o.budget → (asker_meaning a).left ≡ 0
    nothing_left_of e =
        let old : spent_of (a.before ++ a.gained) ≡ spent_of o.log = ap spent_of whole in omega (arith, old, e)

    pub takes_by : (r : Result Bool NoMemory) → IfOk r (TakesNode o o' s)
        → IfOk r (Takes (asker_meaning a) (asker_meaning b) s)
    takes_by (Ok true) t = takes_one o' s h.is_log t.0 ontology budget t.1 is_set h.first_within
    takes_by (Ok false) t = (nothing_left_of t.0, ap (λ (l : AskerLists). nodes_of l.gained) (same_asker t.1))
    takes_by (Err x) t = tt

-- ---- a call that asks nothing of the oracle

pub gains_none : (a : AskerLists) (s : Limited) → GainsTest a (with_asks a (one_more a.asks)) s Found.Undecided
gains_none a s =
    let none : a.gained ≡ a.gained ++ [] = sym (append-nil a.gained) in
    record {
      more = [];
      is_more =
          λ i. record {
            ontology = a.ontology;
            query = a.query;
            budget = a.budget;
            local_part = a.local_part;
            before = a.before;
            gained = none i;
            asks = one_more a.asks;
          };
      is_test = inr (refl, refl);
    }

-- so there is one test at most
pub gains_one : (old new : AskerLists) (s : Limited) (v : Outcome) → GainsTest old new s v → GainsAtMostOne old new s
gains_one old new s v g =
    record {
      more = g.more;
      is_more = g.is_more;
      at_most_one = elim g.is_test [ inl test ↦ inr (test.steps, test.ended, test.is_more) | inr none ↦ inl none.0 ];
    }

-- ---- what such a call leaves as it is

module _ (a b : AskerLists) (s : Limited) where
  -- a test is among the entries with a node behind them just where it is among them
  test_among : (log : List Entry) (t : Limited) (q : Query) (steps : ℕ) (d : TestEnd)
      → Contains (log ++ Node s ∷ []) (Test t q steps d) → Contains log (Test t q steps d)
  test_among log t q steps d at =
      elim (Contains-push_cases log (Node s) (Test t q steps d) at) [ inl there ↦ there | inr is ↦ absurd (cc is) ]

  yes_fewer : (log : List Entry) (j : NumberSet) → IsShownYes (log ++ Node s ∷ []) a.query j → IsShownYes log a.query j
  yes_fewer log j h = record {
    tested = h.tested;
    steps = h.steps;
    enough = h.enough;
    is_yes = test_among log h.tested a.query h.steps (E.Yes h.enough) h.is_yes;
    is_set = h.is_set;
  }

  shows_still : b ≡ a → ShowsNothing (asker_meaning a) (asker_meaning b)
  shows_still e = subst (λ (x : AskerLists). ShowsNothing (asker_meaning a) (asker_meaning x)) (sym e)
      (λ j y. y)

  pub nothing_later : b ≡ a → IsLater a b
  nothing_later e =
      let none : a.gained ≡ a.gained ++ [] = sym (append-nil a.gained) in
      record {
        more = [];
        is_more =
            λ i. record {
              ontology = (e i).ontology;
              query = (e i).query;
              budget = (e i).budget;
              local_part = (e i).local_part;
              before = (e i).before;
              gained = (ap (λ (x : AskerLists). x.gained) e ∙ none) i;
              asks = b.asks;
            };
      }

  pub later_by : (r : Result Bool NoMemory) → IfOk r (LogsNode a b s) → OnErr r (b ≡ a) → IsLater a b
  later_by (Ok true) l e = record {
    more = Node s ∷ [];
    is_more = l ∙ ap (λ (n : ℕ). with_entry a (Node s) n) (sym (ap (λ (x : AskerLists). x.asks) l));
  }
  later_by (Ok false) l e = nothing_later l
  later_by (Err x) l e = nothing_later e

  pub shows_by : (r : Result Bool NoMemory) → IfOk r (LogsNode a b s) → OnErr r (b ≡ a)
      → ShowsNothing (asker_meaning a) (asker_meaning b)
  shows_by (Ok true) l e =
      subst (λ (x : AskerLists). ShowsNothing (asker_meaning a) (asker_meaning x)) (sym l) (yes_fewer a.gained)
  shows_by (Ok false) l e = shows_still l
  shows_by (Err x) l e = shows_still e

  pub origin_by : (r : Result Bool NoMemory) → IfOk r (LogsNode a b s) → OnErr r (b ≡ a) → origin_of b ≡ origin_of a
  origin_by (Ok true) l e = ap origin_of l
  origin_by (Ok false) l e = ap origin_of l
  origin_by (Err x) l e = ap origin_of e

  pub refused_by : (r : Result Bool NoMemory) → OnErr r (b ≡ a) → OnErr r (nodes_of b.gained ≡ nodes_of a.gained)
  refused_by (Ok x) e = tt
  refused_by (Err x) e = ap (λ (l : AskerLists). nodes_of l.gained) e

  pub ran_out_by : (r : Result Bool NoMemory) → IfOk r (LogsNode a b s) → OnErr r (b ≡ a)
      → (asker_meaning b).ran_out ≡ (asker_meaning a).ran_out
  ran_out_by (Ok true) l e =
      ap (λ (x : AskerLists). list_any is_spent x.gained) l ∙ unspent_with a.gained (Node s) refl
  ran_out_by (Ok false) l e = ap (λ (x : AskerLists). list_any is_spent x.gained) l
  ran_out_by (Err x) l e = ap (λ (y : AskerLists). list_any is_spent y.gained) e

-- From one individual to the next.
use Rattle.std.proofs.Common.{◌≡◌, ℕ, ◌+◌, ◌-◌, ◌<◌, Bool, true, false, eqb, List, [], ◌∷◌, ◌++◌, length, drop, map}
use Rattle.std.proofs.Common.{cond, Result, Ok, Err, refl, ap, sym, ◌∙◌, subst, arith, inl, inr, length-append}
use Rattle.std.proofs.Common.{append-nil, eq-eqb}
use Rattle.std.specs.Prelude.{◌↔◌, IfOk, OnOk, OnErr}
use Rattle.std.specs.List.{Contains, list_any}
use Rattle.std.proofs.Math.Seq.{drop-append_seam}
use Rattle.std.proofs.lemmas.Bool.{cases_eq, ne_eqb}
use Rattle.std.proofs.lemmas.List.{map-append, drop_all}
use Rattle.std.proofs.lemmas.List.Elements.{All-nil, Contains-append_cases, Contains-push_cases}
use Rattle.std.proofs.lemmas.List.Sums.{sum_by-append}
use Rattle.lane_sieve.specs.Sets.{NumberSet, passing}
use Rattle.lane_sieve.proofs.Ranges.{passing-add, passing_same, passing_take, passing_skip}
use Rattle.axiom_sets.specs.Sets.{Limited}
use Rattle.shq_terms.specs.NoMemory.{NoMemory}
use Rattle.shq_terms.specs.Concept.{Concept}
use Rattle.shq_terms.specs.Listed.{Listed}
use Rattle.shq_terms.specs.declared.axioms.Query.{Query}
use Rattle.pinpointing_specs.specs.LocalModule.{IsLocalModule}
use Rattle.job_inputs.specs.Limits.{IsInLimit}
use Rattle.realizer.specs.Entry.{Entry}
use Rattle.realizer.specs.Entries.{cost_of, spent_of, is_spent}
use Rattle.realizer.specs.HonestLog.{IsHonestEntry, IsPinpointingLog}
use Rattle.pinpointing_jobs.specs.Told.{AreTestsOfOthers}
use Rattle.pinpointing_jobs.proofs.Logged.{goes_on}
use Rattle.pinpointing_jobs.specs.TreeFound.{Found}
use Rattle.pinpointing_jobs.specs.Gained.{GainsSearch, GainsBegun}
use Rattle.pinpointing_jobs.specs.declared.wanted.Wanted.TheVariants.{Justifications}
use Rattle.pinpointing_jobs.specs.Wanted.{HasAll, ShowsAll}
use Rattle.pinpointing_jobs.proofs.Listed.{all_justifications, shows_all, are_known}
use Rattle.realizer.specs.Instances.{instance_query, IsInstance}
use Rattle.individual_jobs.specs.ReasonLists.{ReasonLists}
use Rattle.individual_jobs.specs.Reasons.{individual_of, HasAllReasons}
use Rattle.individual_jobs.specs.ReasonLogs.{IsReasonLog}
use Rattle.individual_jobs.specs.Answers.{StopsAt, IsCutShort, HasBlocks}
use Rattle.individual_jobs.specs.Searching.{AreInLimit, IsModuleOfEach, reasons_by, AreReasonsTo, HasExplained}
use Rattle.individual_jobs.specs.Searching.{ExplainsTo}
use Rattle.individual_jobs.proofs.Members.{has_some, decided}
use Rattle.individual_jobs.proofs.Blocks.{tests_of_others, log_more, shown_more, shown_front, shown_before}

-- ---- nothing at first

no_entries : (o : Listed) (c : Concept) (budget : ℕ) → IsReasonLog o c budget [] []
no_entries o c budget = record {
  budget_kept = record {
    within = omega arith;
    honest = All-nil (IsHonestEntry o);
    ends = record { is_last = λ place e at spent. cc; is_whole = λ any. (let k : false ≡ true = any in absurd (cc k)) };
  };
  is_log = refl;
  each = λ a block at. cc;
  listed = omega arith;
}

pub none_explained : (o : Listed) (c : Concept) (budget : ℕ) (rs : List ReasonLists) (log : List Entry) → rs ≡ []
    → log ≡ [] → HasExplained o c budget 0 rs log
unfolding passing
none_explained o c budget rs log no_reasons no_log = record {
  are_reasons = record {
    test = λ a. false;
    is_so = λ a before. absurd (omega (arith, before));
    listed = ap (map individual_of) no_reasons;
    reasons =
        λ r listed.
        let at : Contains [] r = subst (λ (l : List ReasonLists). Contains l r) no_reasons listed in
        absurd (omega (arith, at.1));
  };
  blocks = [];
  is_log = subst (IsReasonLog o c budget []) (sym no_log) (no_entries o c budget);
  count_is = refl;
  shown = λ a block at. cc;
}

-- ---- one individual more

-- the individuals that pass among those up to a are those before it, and it where it passes
last_listed : (test : ℕ → Bool) (a : ℕ) (js : List Limited) → test a ≡ has_some js
    → map individual_of (reasons_by a js) ≡ passing test a 1
unfolding passing
last_listed test a [] is = sym (passing_skip test a 0 is)
last_listed test a (j ∷ js) is = sym (passing_take test a 0 is)

-- the test that says so of one individual more
abbrev with_last : (ℕ → Bool) → ℕ → Bool → ℕ → Bool
with_last test a last b = cond (eqb b a) last (test b)

last_passes : (test : ℕ → Bool) (a : ℕ) (last : Bool) → with_last test a last a ≡ last
last_passes test a last = ap (λ (b : Bool). cond b last (test a)) (eq-eqb a a refl)

others_pass : (test : ℕ → Bool) (a : ℕ) (last : Bool) (b : ℕ) → ¬ (b ≡ a) → with_last test a last b ≡ test b
others_pass test a last b ne = ap (λ (x : Bool). cond x last (test b)) (ne_eqb b a ne)

module _ (o : Listed) (c : Concept) (a : ℕ) (rs : List ReasonLists) (old : AreReasonsTo o c a rs)
    (js : List Limited) where
  abbrev test : ℕ → Bool
  test = with_last old.test a (has_some js)

  is_so_to : (has_some js ≡ true ↔ IsInstance o c a) → (b : ℕ) → b < a + 1 → (test b ≡ true ↔ IsInstance o c b)
  is_so_to last b before =
      elim (cases_eq b a) [
        | inl e ↦
            subst (λ (x : ℕ). test x ≡ true ↔ IsInstance o c x) (sym e) (
              λ h. last.0 (sym (last_passes old.test a (has_some js)) ∙ h),
              λ h. last_passes old.test a (has_some js) ∙ last.1 h,
            )
        | inr ne ↦
            let same : test b ≡ old.test b = others_pass old.test a (has_some js) b ne in
            let before' : b < a = omega (arith, before, ne) in
            (λ h. (old.is_so b before').0 (sym same ∙ h), λ h. same ∙ (old.is_so b before').1 h)
      ]

  listed_to : map individual_of (rs ++ reasons_by a js) ≡ passing test 0 (a + 1)
  listed_to =
      map-append individual_of rs (reasons_by a js)
      ∙ ap (λ (l : List ℕ). l ++ map individual_of (reasons_by a js))
      (old.listed
      ∙ passing_same old.test test 0 a
      (λ k from before. sym (others_pass old.test a (has_some js) k (λ e. omega (arith, before, e)))))
      ∙ ap (λ (l : List ℕ). passing test 0 a ++ l) (last_listed test a js (last_passes old.test a (has_some js)))
      ∙ ap (λ (n : ℕ). passing test 0 a ++ passing test n 1) first
      ∙ sym (passing-add test 0 a 1)
    where
      first : a ≡ 0 + a
      first = omega arith

  last_reasons : (ks : List Limited) → HasAll Justifications o (instance_query c a) ks → (r : ReasonLists)
      → Contains (reasons_by a ks) r → HasAllReasons o c r
  last_reasons [] all r listed = absurd (omega (arith, listed.1))
  last_reasons (j ∷ ks) all r listed =
      elim (Contains-push_cases [] (record { individual = a; justifications = j ∷ ks }) r listed) [
        | inl none ↦ absurd (omega (arith, none.1))
        | inr is ↦ subst (HasAllReasons o c) is all
      ]

  pub reasons_more : (has_some js ≡ true ↔ IsInstance o c a) → HasAll Justifications o (instance_query c a) js
      → AreReasonsTo o c (a + 1) (rs ++ reasons_by a js)
  reasons_more last all = record {
    test = test;
    is_so = is_so_to last;
    listed = listed_to;
    reasons =
        λ r listed. elim (Contains-append_cases rs (reasons_by a js) r listed)
        [ inl before ↦ old.reasons r before | inr new ↦ last_reasons js all r new ];
  }

-- ---- how far a run has come

module _ (o : Listed) (c : Concept) (budget a : ℕ) (rs : List ReasonLists) (log : List Entry)
    (old : HasExplained o c budget a rs log) where
  abbrev q : Query
  q = instance_query c a

  -- where something is left, no test spent the budget
  pub none_spent : ¬ (budget - spent_of log ≡ 0) → list_any is_spent log ≡ false
  none_spent some = goes_on budget log old.is_log.budget_kept.ends (λ e. some (omega (arith, e)))

  pub others : AreTestsOfOthers q log
  others =
      subst (λ (n : ℕ). AreTestsOfOthers (instance_query c n) log) old.count_is
      (tests_of_others o c budget old.blocks log old.is_log)

  -- nothing more was asked
  pub stays_begun : HasBlocks o c budget log
  stays_begun = record {
    blocks = old.blocks;
    is_log = old.is_log;
    shown = shown_front o c old.blocks old.shown (length old.blocks - 1);
  }

  -- and nothing was left
  pub stops_before : a < length o.individuals → budget - spent_of log ≡ 0 → IsCutShort o c budget log
  stops_before listed none = record {
    blocks = old.blocks;
    is_log = old.is_log;
    spent = omega (arith, none, old.is_log.budget_kept.within);
    individual = a;
    listed = listed;
    begun = omega (arith, old.count_is);
    shown = shown_front o c old.blocks old.shown a;
    stops = subst (StopsAt o q) (sym (drop_all a old.blocks (omega (arith, old.count_is)))) tt;
  }

  module _ (some : ¬ (budget - spent_of log ≡ 0)) (listed : a < length o.individuals) (new : List Entry) where
    -- one block more
    log_with : (gained : List Entry) → new ≡ log ++ gained → IsPinpointingLog o q (budget - spent_of log) gained
        → IsReasonLog o c budget (old.blocks ++ gained ∷ []) new
    log_with gained more honest =
        let honest' : IsPinpointingLog o (instance_query c (length old.blocks)) (budget - spent_of log) gained =
        subst (λ (n : ℕ). IsPinpointingLog o (instance_query c n) (budget - spent_of log) gained) (sym old.count_is)
        honest in
        subst (IsReasonLog o c budget (old.blocks ++ gained ∷ [])) (sym more)
        (log_more o c budget old.blocks log old.is_log gained (none_spent some) (omega (arith, listed, old.count_is))
        honest')

    pub begins_next : GainsBegun o q budget log new → HasBlocks o c budget new
    begins_next g =
        elim g.so [
          | inl none ↦
              subst (HasBlocks o c budget) (sym (g.is_more ∙ ap (λ (l : List Entry). log ++ l) none ∙ append-nil log))
              stays_begun
          | inr honest ↦ record {
            blocks = old.blocks ++ g.gained ∷ [];
            is_log = log_with g.gained g.is_more honest;
            shown = shown_before o c old.blocks old.shown g.gained (length (old.blocks ++ g.gained ∷ []) - 1)
                (omega (arith, length-append old.blocks (g.gained ∷ [])));
          }
        ]

    module _ (f : Found) (g : GainsSearch o q budget log new f) where
      abbrev left : ℕ
      left = budget - spent_of log

      pub explains_next : f.finished ≡ true
          → HasExplained o c budget (a + 1) (rs ++ reasons_by a f.justifications.items) new
      explains_next finished = record {
        are_reasons =
            reasons_more o c a rs old.are_reasons f.justifications.items
            (decided o q f.justifications.items f.leaves.items g.so.justifications (g.so.explored finished))
            (all_justifications o q left g.gained f g.so finished);
        blocks = old.blocks ++ g.gained ∷ [];
        is_log = log_with g.gained g.is_more g.so.honest;
        count_is = length-append old.blocks (g.gained ∷ []) ∙ ap (λ (n : ℕ). n + 1) old.count_is;
        shown =
            shown_more o c old.blocks old.shown g.gained
            (subst (λ (n : ℕ). ShowsAll o (instance_query c n) g.gained) (sym old.count_is)
            (shows_all o q left g.gained f g.so finished));
      }

      pub stops_within : f.finished ≡ false → IsCutShort o c budget new
      stops_within unfinished = record {
        blocks = old.blocks ++ g.gained ∷ [];
        is_log = log_with g.gained g.is_more g.so.honest;
        spent = omega (
          arith,
          g.so.spent unfinished,
          ap spent_of g.is_more,
          sum_by-append cost_of log g.gained,
          old.is_log.budget_kept.within,
        );
        individual = a;
        listed = listed;
        begun = omega (arith, length-append old.blocks (g.gained ∷ []), old.count_is);
        shown = shown_before o c old.blocks old.shown g.gained a (sym old.count_is);
        stops =
            subst (StopsAt o q)
            (sym (ap (λ (n : ℕ). drop n (old.blocks ++ g.gained ∷ [])) (sym old.count_is)
            ∙ drop-append_seam old.blocks (g.gained ∷ [])))
            (record {
              found = f.justifications.items;
              are_justifications = g.so.justifications;
              known = are_known o q left g.gained f g.so unfinished;
            });
      }

      pub begins_after : HasBlocks o c budget new
      begins_after = begins_next (record { gained = g.gained; is_more = g.is_more; so = inr g.so.honest })

      -- by what the search is kept as
      pub next_explained : (r : Result Bool NoMemory) (kept : List ReasonLists)
          → IfOk r (λ finished. finished ≡ f.finished) → OnOk r (kept ≡ rs ++ reasons_by a f.justifications.items)
          → IfOk r (ExplainsTo o c budget (a + 1) kept new)
      next_explained (Err e) kept same more = tt
      next_explained (Ok true) kept same more =
          subst (λ (l : List ReasonLists). HasExplained o c budget (a + 1) l new) (sym more) (explains_next (sym same))
      next_explained (Ok false) kept same more = stops_within (sym same)

-- ---- the same of what a call answers

-- an error leaves what is so
pub always : {A E : Type 0} (r : Result A E) (fact : Type 0) → fact → OnErr r fact
always (Ok a) fact so = tt
always (Err e) fact so = so

-- The question of one individual, where an oracle has this ontology and this budget still.
module _ (o p : Listed) (c : Concept) (budget left i : ℕ) (q : Query) (is : q ≡ instance_query c i)
    (same_ontology : p ≡ o) (same_budget : left ≡ budget) where
  sup_is : q.sup ≡ c
  sup_is = ap (λ (x : Query). x.sup) is

  pub is_of_its_class : q ≡ instance_query q.sup i
  is_of_its_class = is ∙ ap (λ (x : Concept). instance_query x i) (sym sup_is)

  pub in_limit_at : AreInLimit o c → i < length o.individuals → IsInLimit p q
  in_limit_at each listed =
      subst (λ (l : Listed). IsInLimit l q) (sym same_ontology) (subst (IsInLimit o) (sym is) (each i listed))

  pub module_at : (m : NumberSet) → IsModuleOfEach o c m → IsLocalModule p.axioms q m
  module_at m each =
      subst (λ (l : Listed). IsLocalModule l.axioms q m) (sym same_ontology)
      (subst (λ (x : Query). IsLocalModule o.axioms x m) (sym is) (each i))

  pub to_oracle : (P : Listed → Concept → ℕ → Type 0) → P o c budget → P p q.sup left
  to_oracle P h =
      subst (λ (l : Listed). P l q.sup left) (sym same_ontology)
      (subst (λ (x : Concept). P o x left) (sym sup_is) (subst (P o c) (sym same_budget) h))

  pub from_oracle : (P : Listed → Concept → ℕ → Type 0) → P p q.sup left → P o c budget
  from_oracle P h =
      subst (λ (l : Listed). P l c budget) same_ontology
      (subst (λ (x : Concept). P p x budget) sup_is (subst (P p q.sup) same_budget h))

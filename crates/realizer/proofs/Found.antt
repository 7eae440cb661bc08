-- What one more question makes of the instances that are known.
use Rattle.std.proofs.Common.{◌≡◌, ℕ, ◌+◌, ◌<◌, ◌≤◌, ◌&&◌, ◌||◌, Bool, true, false, List, [], ◌∷◌, ◌++◌, length, refl}
use Rattle.std.proofs.Common.{sym, ap, subst, ◌∙◌, arith, inl, inr}
use Rattle.std.specs.Prelude.{nat_lt, nat_le}
use Rattle.std.specs.List.{list_any, All}
use Rattle.std.proofs.lemmas.Bool.{cases_Bool, cases_lt, and_parts, and_from, or_right, le-leb, le-ltb, true≢false}
use Rattle.std.proofs.lemmas.List.Elements.{All-nil, All-push, All-weaker}
use Rattle.lane_sieve.specs.Sets.{passing}
use Rattle.axiom_sets.specs.Sets.{Limited, IsFull}
use Rattle.shq_terms.specs.Concept.{Concept}
use Rattle.shq_terms.specs.Listed.{Listed}
use Rattle.shq_terms.specs.declared.axioms.On.{On}
use Rattle.shq_terms.specs.declared.axioms.On.TheVariants.{Any, Individual}
use Rattle.shq_terms.specs.declared.axioms.Query.{Query}
use Rattle.shq_meaning.specs.Truth.{holds}
use Rattle.finite_model.specs.ModelLists.{ModelLists, meaning}
use Rattle.subsumption.specs.Limits.{IsInLimit}
use Rattle.subsumption.specs.Entry.{Entry}
use Rattle.subsumption.specs.Entry.TheVariants.{Test, Node}
use Rattle.subsumption.specs.TestEnd.{TestEnd}
use Rattle.subsumption.specs.TestEnd.TheVariants as E
use Rattle.subsumption.specs.Entries.{spent_of, is_spent, ended_spent}
use Rattle.subsumption.specs.HonestLog.{IsWhole, IsHonestEntry}
use Rattle.subsumption.specs.OracleLists.{OracleLists}
use Rattle.subsumption.specs.Decided.{IsRefuting, AddsTest, EndsAs}
use Rattle.subsumption.specs.Outcome.TheVariants.{Yes, No, Undecided}
use Rattle.subsumption.specs.declared.stop.Stop.TheVariants as stop
use Rattle.subsumption.proofs.Added.{goes_on}
use Rattle.realizer.specs.Instances.{instance_query, IsInstance, AreInstances}
use Rattle.realizer.specs.RealizationLogs.{IsInstancesLog, IsInstanceTest}
use Rattle.realizer.specs.Candidates.{has_individual, stays_possible, AreCandidates}
use Rattle.realizer.specs.Asked.{AreAlike, IsOnBefore, IsTestBefore, IsAsking, HasHalted}
use Rattle.realizer.proofs.Truths.{follows_by_yes, no_instance, asked_is_out}
use Rattle.realizer.specs.ShownLogs.{ShowsMembers}
use Rattle.realizer.proofs.Logged.{instances_more}
use Rattle.realizer.proofs.Shown.{members_stay, members_next, last_yes, last_no}

-- ---- the individuals before one, and that one

before_more_on : (i : ℕ) (on : On) → IsOnBefore i on → IsOnBefore (i + 1) on
before_more_on i Any h = h
before_more_on i (Individual a) h = omega (arith, h)

before_more : (i : ℕ) (e : Entry) → IsTestBefore i e → IsTestBefore (i + 1) e
before_more i (Test s q steps e) h = before_more_on i q.on h
before_more i (Node s) h = h

-- where it is known of one individual more whether it is an instance
candidates_next : (o : Listed) (c : Concept) (i : ℕ) (s : Limited) → AreCandidates o c i s
    → (has_individual s i ≡ true → IsInstance o c i) → AreCandidates o c (i + 1) s
candidates_next o c i s h is = record {
  limit_is = h.limit_is;
  possible = h.possible;
  sure = λ a before_next la member. elim (cases_lt a i) [
    | inl lt ↦ h.sure a lt la member
    | inr ge ↦
        let e : a ≡ i = omega (arith, before_next, ge) in
        subst (λ (b : ℕ). IsInstance o c b) (sym e) (is (subst (λ (b : ℕ). has_individual s b ≡ true) e member))
  ];
}

-- it is not asked about where it is known to be none
pub passed_over : (l : OracleLists) (c : Concept) (i : ℕ) (members : Limited) → IsAsking l c i members
    → has_individual members i ≡ false → IsAsking l c (i + 1) members
passed_over l c i members h out = record {
  in_limit = h.in_limit;
  honest = h.honest;
  goes_on = h.goes_on;
  before = All-weaker (IsTestBefore i) (IsTestBefore (i + 1)) (before_more i) l.log h.before;
  candidates = candidates_next l.ontology c i members h.candidates (λ member. absurd (true≢false (sym member ∙ out)));
  shown = members_next l.ontology c l.log i members h.shown (λ member. absurd (true≢false (sym member ∙ out)));
}

-- ---- one question more

module _ (before : OracleLists) (c : Concept) (i : ℕ) (members : Limited) (asking : IsAsking before c i members)
    (axioms : Limited) (whole : IsWhole before.ontology axioms) (li : i < length before.ontology.individuals) where
  abbrev asked : Query
  asked = instance_query c i

  abbrev entry : ℕ → TestEnd → Entry
  entry steps e = Test axioms asked steps e

  -- the oracle whose log has such an entry more
  abbrev with_entry : ℕ → TestEnd → OracleLists
  with_entry steps e =
      record { ontology = before.ontology; budget = before.budget; log = before.log ++ entry steps e ∷ [] }

  module _ (after : OracleLists) (alike : AreAlike before after) (within : spent_of after.log ≤ after.budget) where
    is_with : (steps : ℕ) (e : TestEnd) → after.log ≡ before.log ++ entry steps e ∷ [] → with_entry steps e ≡ after
    is_with steps e same =
        λ j. record { ontology = sym alike.ontology j; budget = sym alike.budget j; log = sym same j }

    honest_with : (steps : ℕ) (e : TestEnd) → after.log ≡ before.log ++ entry steps e ∷ []
        → IsHonestEntry before.ontology (entry steps e) → (ended_spent e ≡ true → spent_of after.log ≡ after.budget)
        → IsInstancesLog before.ontology c before.budget (before.log ++ entry steps e ∷ [])
    honest_with steps e same so all_spent =
        instances_more before c i members asking li axioms steps e whole so
        (omega (arith, within, alike.budget, ap spent_of same))
        (λ h. sym (ap spent_of same) ∙ all_spent h ∙ alike.budget)

    asking_with : (steps : ℕ) (e : TestEnd) → after.log ≡ before.log ++ entry steps e ∷ []
        → IsHonestEntry before.ontology (entry steps e) → ended_spent e ≡ false
        → (members' : Limited) → AreCandidates before.ontology c (i + 1) members'
        → ShowsMembers before.ontology c (before.log ++ entry steps e ∷ []) (i + 1) members'
        → IsAsking after c (i + 1) members'
    asking_with steps e same so goes members' candidates shown =
        subst (λ (l : OracleLists). IsAsking l c (i + 1) members') (is_with steps e same) (record {
          in_limit = asking.in_limit;
          honest = honest_with steps e same so (λ h. absurd (true≢false (sym h ∙ goes)));
          goes_on = goes_on before.log (entry steps e) asking.goes_on goes;
          before =
              All-push (IsTestBefore (i + 1)) before.log (entry steps e)
              (All-weaker (IsTestBefore i) (IsTestBefore (i + 1)) (before_more i) before.log asking.before)
              (omega arith);
          candidates = candidates;
          shown = shown;
        })

    -- it is an instance
    yes_by_end : (steps : ℕ) (u : Limited) (e : TestEnd) → EndsAs (Yes u) e
        → after.log ≡ before.log ++ entry steps e ∷ [] → IsHonestEntry before.ontology (entry steps e)
        → IsAsking after c (i + 1) members
    yes_by_end steps u (E.Yes v) ends same so =
        asking_with steps (E.Yes v) same so refl members
        (candidates_next before.ontology c i members asking.candidates
        (λ member. follows_by_yes before.ontology axioms asked steps v whole so))
        (members_next before.ontology c (before.log ++ entry steps (E.Yes v) ∷ []) i members
        (members_stay before.log (entry steps (E.Yes v)) before.ontology c i members asking.shown)
        (λ member. last_yes before.log axioms asked steps v))
    yes_by_end steps u E.No ends same so = absurd ends
    yes_by_end steps u (E.Spent t) ends same so = absurd ends

    pub after_yes : (u : Limited) → AddsTest before.ontology axioms asked before.log after.log (Yes u)
        → IsAsking after c (i + 1) members
    after_yes u t = yes_by_end t.steps u t.ended t.matches t.is_log t.honest

    -- or it is none, by a counter-model, which shows more
    module _ (m : ModelLists) (r : IsRefuting before.ontology axioms asked m) (members' : Limited)
        (limit : members'.limit ≡ members.limit)
        (kept : (a : ℕ) → a < members.limit
        → has_individual members' a ≡ (has_individual members a && stays_possible (meaning m) c i a)) where
      was : (a : ℕ) → a < length before.ontology.individuals
          → has_individual members' a ≡ (has_individual members a && stays_possible (meaning m) c i a)
      was a la = kept a (omega (arith, la, asking.candidates.limit_is))

      possible_still : (a : ℕ) → IsInstance before.ontology c a → stays_possible (meaning m) c i a ≡ true
      possible_still a is =
          or_right (nat_lt a i) (holds (meaning m) c ((meaning m).individual a))
          (held (holds (meaning m) c ((meaning m).individual a)) refl)
        where
          held : (v : Bool) → holds (meaning m) c ((meaning m).individual a) ≡ v
              → holds (meaning m) c ((meaning m).individual a) ≡ true
          held true h = h
          held false h = absurd (no_instance before.ontology axioms asked m whole r c a h is)

      fewer : AreCandidates before.ontology c i members'
      fewer = record {
        limit_is = limit ∙ asking.candidates.limit_is;
        possible =
            λ a la is. was a la
            ∙ and_from (has_individual members a) (stays_possible (meaning m) c i a)
            (asking.candidates.possible a la is) (possible_still a is);
        sure =
            λ a lt la h. asking.candidates.sure a lt la
            (and_parts (has_individual members a) (stays_possible (meaning m) c i a) (sym (was a la) ∙ h)).0;
      }

      -- it is taken out itself
      out_now : has_individual members' i ≡ true → ⊥
      out_now h =
          let possible =
          (and_parts (has_individual members i) (stays_possible (meaning m) c i i) (sym (was i li) ∙ h)).1 in
          shut (nat_lt i i) (holds (meaning m) c ((meaning m).individual i)) (le-ltb i i (omega arith))
          (asked_is_out before.ontology axioms asked m whole r c i refl) possible
        where
          shut : (u v : Bool) → u ≡ false → v ≡ false → (u || v) ≡ true → ⊥
          shut true v h k is = absurd (cc h)
          shut false true h k is = absurd (cc k)
          shut false false h k is = absurd (cc is)

      -- those that it takes out are shown to be none
      shown_fewer : (steps : ℕ)
          → ShowsMembers before.ontology c (before.log ++ entry steps E.No ∷ []) i members'
      shown_fewer steps =
          let old = members_stay before.log (entry steps E.No) before.ontology c i members asking.shown in
          record {
            in_them =
                λ a lt la h. old.in_them a lt la
                (and_parts (has_individual members a) (stays_possible (meaning m) c i a) (sym (was a la) ∙ h)).0;
            out_of_them = λ a la gone. elim (cases_Bool (has_individual members a)) [
              | inl member ↦ elim (cases_Bool (holds (meaning m) c ((meaning m).individual a))) [
                | inl there ↦
                    absurd (true≢false
                    (sym (was a la
                    ∙ and_from (has_individual members a) (stays_possible (meaning m) c i a) member
                    (or_right (nat_lt a i) (holds (meaning m) c ((meaning m).individual a)) there))
                    ∙ gone))
                | inr out ↦ last_no before.ontology before.log axioms asked steps m r c a out
              ]
              | inr none ↦ old.out_of_them a la none
            ];
          }

      no_by_end : (steps : ℕ) (e : TestEnd) → EndsAs No e → after.log ≡ before.log ++ entry steps e ∷ []
          → IsHonestEntry before.ontology (entry steps e) → IsAsking after c (i + 1) members'
      no_by_end steps E.No ends same so =
          asking_with steps E.No same so refl members'
          (candidates_next before.ontology c i members' fewer (λ member. absurd (out_now member)))
          (members_next before.ontology c (before.log ++ entry steps E.No ∷ []) i members' (shown_fewer steps)
          (λ member. absurd (out_now member)))
      no_by_end steps (E.Yes u) ends same so = absurd ends
      no_by_end steps (E.Spent t) ends same so = absurd ends

      pub after_no : AddsTest before.ontology axioms asked before.log after.log No → IsAsking after c (i + 1) members'
      after_no t = no_by_end t.steps t.ended t.matches t.is_log t.honest

    -- or the budget is spent
    halted_by_end : (steps : ℕ) (e : TestEnd) → EndsAs Undecided e → after.log ≡ before.log ++ entry steps e ∷ []
        → IsHonestEntry before.ontology (entry steps e) → spent_of after.log ≡ after.budget
        → HasHalted after c stop.Spent
    halted_by_end steps (E.Spent t) ends same so all =
        subst (λ (l : OracleLists). HasHalted l c stop.Spent) (is_with steps (E.Spent t) same)
        (record {
          honest = honest_with steps (E.Spent t) same so (λ h. all);
          is_stop = record {
            before = before.log;
            asked = axioms;
            query = asked;
            steps = steps;
            trail = t;
            is_log = refl;
            whole = sym (ap spent_of same) ∙ all ∙ alike.budget;
          };
        })
    halted_by_end steps (E.Yes u) ends same so all = absurd ends
    halted_by_end steps E.No ends same so all = absurd ends

    pub after_spent : AddsTest before.ontology axioms asked before.log after.log Undecided
        → spent_of after.log ≡ after.budget → HasHalted after c stop.Spent
    after_spent t all = halted_by_end t.steps t.ended t.matches t.is_log t.honest all

  -- memory is refused, and the log is as it was
  pub halted_as_before : (after : OracleLists) → AreAlike before after → after.log ≡ before.log
      → HasHalted after c stop.NoMemory
  halted_as_before after alike same =
      let is : before ≡ after =
      λ j. record { ontology = sym alike.ontology j; budget = sym alike.budget j; log = sym same j } in
      subst (λ (l : OracleLists). HasHalted l c stop.NoMemory) is
      (record { honest = asking.honest; is_stop = asking.goes_on })

-- ---- the beginning and the end

-- no question was asked, and each individual may be an instance
pub first : (l : OracleLists) (c : Concept) (members : Limited)
    → ((a : ℕ) → a < length l.ontology.individuals → IsInLimit l.ontology (instance_query c a)) → l.log ≡ []
    → members.limit ≡ length l.ontology.individuals → IsFull members.limit members.members
    → IsAsking l c 0 members
first l c members limit none is full = record {
  in_limit = limit;
  honest = subst (IsInstancesLog l.ontology c l.budget) (sym none) (nothing_asked l.ontology c l.budget);
  goes_on = ap (list_any is_spent) none;
  before = subst (λ (es : List Entry). All (IsTestBefore 0) es) (sym none) (All-nil (IsTestBefore 0));
  candidates = record {
    limit_is = is;
    possible = λ a la h. possible_all a la;
    sure = λ a lt la h. absurd (omega (arith, lt));
  };
  shown = record {
    in_them = λ a lt la h. absurd (omega (arith, lt));
    out_of_them = λ a la gone. absurd (true≢false (sym (possible_all a la) ∙ gone));
  };
}
  where
    possible_all : (a : ℕ) → a < length l.ontology.individuals → has_individual members a ≡ true
    possible_all a la =
        full (a + 1)
        ∙ and_from (nat_le 1 (a + 1)) (nat_le (a + 1) members.limit) (le-leb 1 (a + 1) (omega arith))
        (le-leb (a + 1) members.limit (omega (arith, la, is)))

    nothing_asked : (o : Listed) (c : Concept) (budget : ℕ) → IsInstancesLog o c budget []
    nothing_asked o c budget = record {
      budget_kept = record {
        within = omega arith;
        honest = All-nil (IsHonestEntry o);
        ends = record { is_last = λ place e at h. cc; is_whole = λ h. (let k : false ≡ true = h in absurd (cc k)) };
      };
      tests = All-nil (IsInstanceTest o c);
      once = λ j k s t p q m n e f lt at there. cc;
    }

-- each individual was settled
pub all_found : (o : Listed) (c : Concept) (members : Limited) → AreCandidates o c (length o.individuals) members
    → (found : List ℕ) → found ≡ passing (has_individual members) 0 members.limit → AreInstances o c found
all_found o c members h found is = record {
  test = has_individual members;
  is_so = λ a la. (λ member. h.sure a la la member, λ is_one. h.possible a la is_one);
  listed = is ∙ ap (passing (has_individual members) 0) h.limit_is;
}

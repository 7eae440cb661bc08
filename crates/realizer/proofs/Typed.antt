-- What one more question on an individual makes of what is known of it.
use Rattle.std.proofs.Common.{◌≡◌, ℕ, ◌+◌, ◌<◌, ◌≤◌, ◌&&◌, ◌||◌, not, Bool, true, false, List, [], ◌∷◌, ◌++◌, length}
use Rattle.std.proofs.Common.{refl, sym, ap, subst, ◌∙◌, arith, inl, inr}
use Rattle.std.specs.Prelude.{nat_lt}
use Rattle.std.specs.List.{list_any, All, Contains}
use Rattle.std.specs.FinSet as sets
use Rattle.std.specs.Cmp.{nat_cmp_total}
use Rattle.std.proofs.lemmas.Bool.{cases_Bool, and_parts, and_from, or_cases, or_left, or_right, le-ltb, true≢false}
use Rattle.std.proofs.lemmas.List.Elements.{All-push, All-weaker, All-contains, All-contains_itself}
use Rattle.lane_sieve.specs.Sets.{NumberSet}
use Rattle.axiom_sets.specs.Sets.{Limited}
use Rattle.shq_terms.specs.Concept.{Concept, name}
use Rattle.shq_terms.specs.Listed.{Listed}
use Rattle.shq_terms.specs.declared.axioms.On.{On}
use Rattle.shq_terms.specs.declared.axioms.On.TheVariants.{Any, Individual}
use Rattle.shq_terms.specs.declared.axioms.Query.{Query}
use Rattle.shq_meaning.specs.Truth.{holds as has_element, Entails}
use Rattle.finite_model.specs.ModelLists.{ModelLists, meaning}
use Rattle.subsumption.specs.Theory.{all_axioms}
use Rattle.subsumption.specs.Entry.{Entry}
use Rattle.subsumption.specs.Entry.TheVariants.{Test, Node}
use Rattle.subsumption.specs.TestEnd.{TestEnd}
use Rattle.subsumption.specs.TestEnd.TheVariants as E
use Rattle.subsumption.specs.Entries.{spent_of, is_spent, ended_spent}
use Rattle.subsumption.specs.HonestLog.{IsHonestEntry}
use Rattle.subsumption.specs.OracleLists.{OracleLists}
use Rattle.subsumption.specs.Decided.{IsRefuting, AddsTest, EndsAs}
use Rattle.subsumption.specs.Outcome.{Outcome}
use Rattle.subsumption.specs.Outcome.TheVariants.{Yes, No, Undecided}
use Rattle.subsumption.specs.Rows.{Rows, holds}
use Rattle.subsumption.specs.Subsumption.{class_at}
use Rattle.subsumption.specs.declared.stop.Stop.TheVariants as stop
use Rattle.subsumption.proofs.Added.{goes_on}
use Rattle.subsumption.proofs.InLimit.{at_name}
use Rattle.subsumption.specs.ClassSets.{has_class}
use Rattle.realizer.specs.Instances.{instance_query, IsInstance}
use Rattle.realizer.specs.RealizationLogs.{IsTypingTest, IsTypingQuery, IsListedClass, IsRealizationLog}
use Rattle.realizer.specs.TypeRows.{AreTypeRows, typed_by}
use Rattle.realizer.specs.Candidates.{stays_possible, AreCandidateRows, ArePruned}
use Rattle.realizer.specs.Asked.{AreAlike, IsTyping, IsNoted, IsKnownOn, IsKnown, AreKnownTypes, IsAmid, is_open}
use Rattle.realizer.specs.Asked.{IsCloser, HasStopped}
use Rattle.realizer.proofs.Truths.{follows_by_yes, instance_above, no_instance, asked_is_out}
use Rattle.realizer.specs.ShownLogs.{ShowsRows}
use Rattle.realizer.proofs.Logged.{realization_more}
use Rattle.realizer.proofs.Shown.{types_stay, rows_stay, last_yes, last_no}

-- ---- entries that are known stay so

-- where there are more types
module _ (rows : List Limited) (a : ℕ) (types types' : Limited)
    (more : (y : ℕ) → has_class types y ≡ true → has_class types' y ≡ true) where
  noted_wider : (sup : Concept) (e : TestEnd) → IsNoted rows a types sup e → IsNoted rows a types' sup e
  noted_wider (name y) (E.Yes u) h = more y h
  noted_wider (name y) E.No h = h
  noted_wider (name y) (E.Spent t) h = h
  noted_wider _ _ h = h

  known_wider_on : (sup : Concept) (e : TestEnd) (on : On) → IsKnownOn rows a types sup e on
      → IsKnownOn rows a types' sup e on
  known_wider_on sup e Any h = tt
  known_wider_on sup e (Individual b) h = (λ same. noted_wider sup e (h.0 same), h.1)

  pub known_wider : (e : Entry) → IsKnown rows a types e → IsKnown rows a types' e
  known_wider (Test s q steps e) h = known_wider_on q.sup e q.on h
  known_wider (Node s) h = h

-- and where less is possible
module _ (o : Listed) (rows rows' : List Limited) (a : ℕ) (types : Limited)
    (less : (y : ℕ) → y < length o.classes → typed_by rows a y ≡ false → typed_by rows' a y ≡ false) where
  noted_narrower : (sup : Concept) (e : TestEnd) → IsListedClass o sup → IsNoted rows a types sup e
      → IsNoted rows' a types sup e
  noted_narrower (name y) (E.Yes u) ly h = h
  noted_narrower (name y) E.No ly h = less y ly h
  noted_narrower (name y) (E.Spent t) ly h = h
  noted_narrower _ _ ly h = h

  known_narrower_on : (sub sup : Concept) (e : TestEnd) (on : On) → IsTypingQuery o sub sup on
      → IsKnownOn rows a types sup e on → IsKnownOn rows' a types sup e on
  known_narrower_on sub sup e Any test h = tt
  known_narrower_on sub sup e (Individual b) test h = (λ same. noted_narrower sup e test.2 (h.0 same), h.1)

  pub known_narrower : (e : Entry) → IsTypingTest o e × IsKnown rows a types e → IsKnown rows' a types e
  known_narrower (Test s q steps e) (test, h) = known_narrower_on q.sub q.sup e q.on test.1 h
  known_narrower (Node s) (test, h) = h

-- ---- one question more

module _ (before : OracleLists) (known : Rows) (axioms : Limited) (a : ℕ) (rows : List Limited) (types : Limited)
    (amid : IsAmid before known axioms a rows types) (x : ℕ) (lx : x < known.count)
    (open_yet : is_open rows a types x ≡ true) where
  abbrev asked : Query
  asked = instance_query (name x) a

  abbrev entry : ℕ → TestEnd → Entry
  entry steps e = Test axioms asked steps e

  -- the oracle whose log has such an entry more
  abbrev with_entry : ℕ → TestEnd → OracleLists
  with_entry steps e =
      record { ontology = before.ontology; budget = before.budget; log = before.log ++ entry steps e ∷ [] }

  listed : (y : ℕ) → y < known.count → y < length before.ontology.classes
  listed y lt = omega (arith, lt, amid.typing.count_is)

  module _ (after : OracleLists) (alike : AreAlike before after) (within : spent_of after.log ≤ after.budget) where
    is_with : (steps : ℕ) (e : TestEnd) → after.log ≡ before.log ++ entry steps e ∷ [] → with_entry steps e ≡ after
    is_with steps e same =
        λ i. record { ontology = sym alike.ontology i; budget = sym alike.budget i; log = sym same i }

    honest_with : (steps : ℕ) (e : TestEnd) → after.log ≡ before.log ++ entry steps e ∷ []
        → IsHonestEntry before.ontology (entry steps e) → (ended_spent e ≡ true → spent_of after.log ≡ after.budget)
        → IsRealizationLog before.ontology before.budget (before.log ++ entry steps e ∷ [])
    honest_with steps e same so all_spent =
        realization_more before known axioms a rows types amid x lx open_yet steps e so
        (omega (arith, within, alike.budget, ap spent_of same))
        (λ h. sym (ap spent_of same) ∙ all_spent h ∙ alike.budget)

    goes_on_with : (steps : ℕ) (e : TestEnd) → ended_spent e ≡ false
        → list_any is_spent (before.log ++ entry steps e ∷ []) ≡ false
    goes_on_with steps e h = goes_on before.log (entry steps e) amid.typing.goes_on h

    typing_with : (steps : ℕ) (e : TestEnd) → after.log ≡ before.log ++ entry steps e ∷ []
        → IsHonestEntry before.ontology (entry steps e) → ended_spent e ≡ false
        → (rows' : List Limited) → AreCandidateRows before.ontology a rows'
        → ShowsRows before.ontology known (before.log ++ entry steps e ∷ []) a rows'
        → IsTyping (with_entry steps e) known axioms a rows'
    typing_with steps e same so goes rows' candidates shown = record {
      in_limit = amid.typing.in_limit;
      honest = honest_with steps e same so (λ h. absurd (true≢false (sym h ∙ goes)));
      goes_on = goes_on_with steps e goes;
      whole = amid.typing.whole;
      count_is = amid.typing.count_is;
      order = amid.typing.order;
      is_so = amid.typing.is_so;
      candidates = candidates;
      shown = shown;
    }

    -- the individual is in the class
    module _ (above types' : Limited) (limit : types'.limit ≡ types.limit)
        (members : types'.members ≡ sets.union types.members above.members)
        (is_above : (y : ℕ) → y < known.count + 2 → sets.contains above.members (y + 1) ≡ holds known x y) where
      has_now : (y : ℕ) → has_class types' y ≡ (has_class types y || has_class above y)
      has_now y =
          ap (λ (s : NumberSet). sets.contains s (y + 1)) members
          ∙ sets.contains-union nat_cmp_total types.members above.members (y + 1)

      stays : (y : ℕ) → has_class types y ≡ true → has_class types' y ≡ true
      stays y h = has_now y ∙ or_left (has_class types y) (has_class above y) h

      new_type : (y : ℕ) → y < known.count + 2 → holds known x y ≡ true → has_class types' y ≡ true
      new_type y ly h = has_now y ∙ or_right (has_class types y) (has_class above y) (is_above y ly ∙ h)

      old_or_above : {P : Type 0} (y : ℕ) → y < known.count + 2 → has_class types' y ≡ true
          → (has_class types y ≡ true → P) → (holds known x y ≡ true → P) → P
      old_or_above y ly h old new = elim (or_cases (has_class types y) (has_class above y) (sym (has_now y) ∙ h))
          [ inl k ↦ old k | inr k ↦ new (sym (is_above y ly) ∙ k) ]

      -- a number of the relation is one of the ontology
      in_order : (y : ℕ) → y < known.count + 2 → y < length before.ontology.classes + 2
      in_order y lt = omega (arith, lt, amid.typing.count_is)

      is_itself : holds known x x ≡ true
      is_itself = amid.typing.order.reflexive x (in_order x (omega (arith, lx)))

      part_of : (y : ℕ) → y < known.count → holds known x y ≡ true
          → Entails (all_axioms before.ontology.axioms) (record { sub = name x; sup = name y; on = Any })
      part_of y ly h =
          let n = length before.ontology.classes in
          let e =
          (amid.typing.is_so x y (omega (arith, lx, amid.typing.count_is)) (omega (arith, ly, amid.typing.count_is))).0
          h in
          subst
          (λ (c : Concept). Entails (all_axioms before.ontology.axioms) (record { sub = c; sup = name y; on = Any }))
          (at_name n x (listed x lx))
          (subst (λ (c : Concept). Entails (all_axioms before.ontology.axioms)
          (record { sub = class_at n x; sup = c; on = Any }))
          (at_name n y (listed y ly)) e)

      types_with : IsInstance before.ontology (name x) a → AreKnownTypes before.ontology known a types'
      types_with is = record {
        limit_is = limit ∙ amid.types_known.limit_is;
        closed = λ y z ly lz h part. old_or_above y ly h
            (λ k. stays z (amid.types_known.closed y z ly lz k part))
            (λ k. new_type z lz
            (amid.typing.order.transitive x y z (in_order x (omega (arith, lx))) (in_order y ly) (in_order z lz) k
            part));
        has_top = stays known.count amid.types_known.has_top;
        sure = λ y ly h. old_or_above y (omega (arith, ly)) h
            (λ k. amid.types_known.sure y ly k)
            (λ k. instance_above before.ontology (name x) (name y) a is (part_of y ly k));
      }

      amid_yes : (steps : ℕ) (u : Limited) → after.log ≡ before.log ++ entry steps (E.Yes u) ∷ []
          → IsHonestEntry before.ontology (entry steps (E.Yes u))
          → IsAmid (with_entry steps (E.Yes u)) known axioms a rows types'
      amid_yes steps u same so = record {
        typing =
            typing_with steps (E.Yes u) same so refl rows amid.typing.candidates
            (rows_stay before.log (entry steps (E.Yes u)) before.ontology known a rows amid.typing.shown);
        is_individual = amid.is_individual;
        noted =
            All-push (IsKnown rows a types') before.log (entry steps (E.Yes u))
            (All-weaker (IsKnown rows a types) (IsKnown rows a types') (known_wider rows a types types' stays)
            before.log amid.noted)
            (λ e. new_type x (omega (arith, lx)) is_itself, omega arith);
        types_known = types_with (follows_by_yes before.ontology axioms asked steps u amid.typing.whole so);
        types_shown = λ y ly h. old_or_above y (omega (arith, ly)) h
            (λ k. types_stay before.log (entry steps (E.Yes u)) known a types amid.types_shown y ly k)
            (λ k. record {
              lower = x;
              is_part = k;
              is_type = inr (lx, last_yes before.log axioms asked steps u);
            });
      }

      yes_by_end : (steps : ℕ) (u : Limited) (e : TestEnd) → EndsAs (Yes u) e
          → after.log ≡ before.log ++ entry steps e ∷ [] → IsHonestEntry before.ontology (entry steps e)
          → IsAmid after known axioms a rows types'
      yes_by_end steps u (E.Yes v) ends same so =
          subst (λ (l : OracleLists). IsAmid l known axioms a rows types') (is_with steps (E.Yes v) same)
          (amid_yes steps v same so)
      yes_by_end steps u E.No ends same so = absurd ends
      yes_by_end steps u (E.Spent t) ends same so = absurd ends

      pub after_yes : (u : Limited) → AddsTest before.ontology axioms asked before.log after.log (Yes u)
          → IsAmid after known axioms a rows types'
      after_yes u t = yes_by_end t.steps u t.ended t.matches t.is_log t.honest

      pub closer_yes : IsCloser known.count rows types rows types' a x
      closer_yes = record {
        fewer = λ y ly h.
            let parts = and_parts (typed_by rows a y) (not (has_class types' y)) h in
            and_from (typed_by rows a y) (not (has_class types y)) parts.0
            (still (has_class types y) (has_class types' y) (stays y) parts.1);
        settled = shut (typed_by rows a x) (has_class types' x) (new_type x (omega (arith, lx)) is_itself);
      }
        where
          still : (p q : Bool) → (p ≡ true → q ≡ true) → not q ≡ true → not p ≡ true
          still false q h k = refl
          still true q h k = let e : q ≡ true = h refl in cc

          shut : (p q : Bool) → q ≡ true → (p && not q) ≡ false
          shut p false h = absurd (cc h)
          shut false true h = refl
          shut true true h = refl

    -- or it is not, by a counter-model, which shows more
    module _ (m : ModelLists) (r : IsRefuting before.ontology axioms asked m) (rows' : List Limited)
        (p : ArePruned (meaning m) (length before.ontology.classes) a rows rows') where
      was : (b y : ℕ) → b < length before.ontology.individuals → y < length before.ontology.classes
          → typed_by rows' b y ≡ (typed_by rows b y && stays_possible (meaning m) (name y) a b)
      was b y lb ly = p.classes_are b y (omega (arith, lb, amid.typing.candidates.are_rows.long)) ly

      possible_still : (b y : ℕ) → IsInstance before.ontology (name y) b
          → stays_possible (meaning m) (name y) a b ≡ true
      possible_still b y is =
          or_right (nat_lt b a) (has_element (meaning m) (name y) ((meaning m).individual b))
          (held (has_element (meaning m) (name y) ((meaning m).individual b)) refl)
        where
          held : (v : Bool) → has_element (meaning m) (name y) ((meaning m).individual b) ≡ v
              → has_element (meaning m) (name y) ((meaning m).individual b) ≡ true
          held true h = h
          held false h = absurd (no_instance before.ontology axioms asked m amid.typing.whole r (name y) b h is)

      candidates_with : AreCandidateRows before.ontology a rows'
      candidates_with = record {
        are_rows =
            subst (λ (k : ℕ). AreTypeRows (length before.ontology.classes) k rows') amid.typing.candidates.are_rows.long
            p.are_rows;
        possible =
            λ b y lb ly is. was b y lb ly
            ∙ and_from (typed_by rows b y) (stays_possible (meaning m) (name y) a b)
            (amid.typing.candidates.possible b y lb ly is) (possible_still b y is);
        sure =
            λ b y before_a lb ly h. amid.typing.candidates.sure b y before_a lb ly
            (and_parts (typed_by rows b y) (stays_possible (meaning m) (name y) a b) (sym (was b y lb ly) ∙ h)).0;
      }

      -- what it takes out is shown to be impossible
      shown_with : (steps : ℕ) → ShowsRows before.ontology known (before.log ++ entry steps E.No ∷ []) a rows'
      shown_with steps =
          let old = rows_stay before.log (entry steps E.No) before.ontology known a rows amid.typing.shown in
          record {
            chains = old.chains;
            pairs = old.pairs;
            in_rows =
                λ b y before_a lb ly h. old.in_rows b y before_a lb ly
                (and_parts (typed_by rows b y) (stays_possible (meaning m) (name y) a b) (sym (was b y lb ly) ∙ h)).0;
            out_of_rows = λ b y lb ly gone. elim (cases_Bool (typed_by rows b y)) [
              | inl typed ↦ elim (cases_Bool (has_element (meaning m) (name y) ((meaning m).individual b))) [
                | inl there ↦
                    absurd (true≢false
                    (sym (was b y lb ly
                    ∙ and_from (typed_by rows b y) (stays_possible (meaning m) (name y) a b) typed
                    (or_right (nat_lt b a) (has_element (meaning m) (name y) ((meaning m).individual b)) there))
                    ∙ gone))
                | inr out ↦ last_no before.ontology before.log axioms asked steps m r (name y) b out
              ]
              | inr none ↦ old.out_of_rows b y lb ly none
            ];
          }

      less : (y : ℕ) → y < length before.ontology.classes → typed_by rows a y ≡ false → typed_by rows' a y ≡ false
      less y ly h = was a y amid.is_individual ly ∙ ap (λ (v : Bool). v && stays_possible (meaning m) (name y) a a) h

      out_now : typed_by rows' a x ≡ false
      out_now =
          was a x amid.is_individual (listed x lx)
          ∙ shut (typed_by rows a x) (nat_lt a a) (has_element (meaning m) (name x) ((meaning m).individual a))
          (le-ltb a a (omega arith)) (asked_is_out before.ontology axioms asked m amid.typing.whole r (name x) a refl)
        where
          shut : (t u v : Bool) → u ≡ false → v ≡ false → (t && (u || v)) ≡ false
          shut t true v h k = absurd (cc h)
          shut t false true h k = absurd (cc k)
          shut true false false h k = refl
          shut false false false h k = refl

      all_narrower : (log : List Entry) → All (IsTypingTest before.ontology) log → All (IsKnown rows a types) log
          → All (IsKnown rows' a types) log
      all_narrower log tests noted = All-weaker (Contains log) (IsKnown rows' a types)
          (λ e there. known_narrower before.ontology rows rows' a types less e (
            All-contains (IsTypingTest before.ontology) log e tests there,
            All-contains (IsKnown rows a types) log e noted there,
          ))
          log (All-contains_itself log)

      amid_no : (steps : ℕ) → after.log ≡ before.log ++ entry steps E.No ∷ []
          → IsHonestEntry before.ontology (entry steps E.No) → IsAmid (with_entry steps E.No) known axioms a rows' types
      amid_no steps same so = record {
        typing = typing_with steps E.No same so refl rows' candidates_with (shown_with steps);
        is_individual = amid.is_individual;
        noted =
            All-push (IsKnown rows' a types) before.log (entry steps E.No)
            (all_narrower before.log amid.typing.honest.tests amid.noted) (λ e. out_now, omega arith);
        types_known = amid.types_known;
        types_shown = types_stay before.log (entry steps E.No) known a types amid.types_shown;
      }

      no_by_end : (steps : ℕ) (e : TestEnd) → EndsAs No e → after.log ≡ before.log ++ entry steps e ∷ []
          → IsHonestEntry before.ontology (entry steps e) → IsAmid after known axioms a rows' types
      no_by_end steps E.No ends same so =
          subst (λ (l : OracleLists). IsAmid l known axioms a rows' types) (is_with steps E.No same)
          (amid_no steps same so)
      no_by_end steps (E.Yes u) ends same so = absurd ends
      no_by_end steps (E.Spent t) ends same so = absurd ends

      pub after_no : AddsTest before.ontology axioms asked before.log after.log No
          → IsAmid after known axioms a rows' types
      after_no t = no_by_end t.steps t.ended t.matches t.is_log t.honest

      pub closer_no : IsCloser known.count rows types rows' types a x
      closer_no = record {
        fewer = λ y ly h.
            let parts = and_parts (typed_by rows' a y) (not (has_class types y)) h in
            and_from (typed_by rows a y) (not (has_class types y))
            (and_parts (typed_by rows a y) (stays_possible (meaning m) (name y) a a)
            (sym (was a y amid.is_individual (listed y ly)) ∙ parts.0)).0
            parts.1;
        settled = ap (λ (v : Bool). v && not (has_class types x)) out_now;
      }

    -- ---- or the questions stop

    stopped_by_end : (steps : ℕ) (e : TestEnd) → EndsAs Undecided e → after.log ≡ before.log ++ entry steps e ∷ []
        → IsHonestEntry before.ontology (entry steps e) → spent_of after.log ≡ after.budget
        → HasStopped after stop.Spent
    stopped_by_end steps (E.Spent t) ends same so all =
        subst (λ (l : OracleLists). HasStopped l stop.Spent) (is_with steps (E.Spent t) same)
        (record {
          honest = honest_with steps (E.Spent t) same so (λ h. all);
          is_stop = record {
            before = before.log;
            asked = axioms;
            query = asked;
            steps = steps;
            trail = t;
            is_log = refl;
            whole = sym (ap spent_of same) ∙ all ∙ alike.budget;
          };
        })
    stopped_by_end steps (E.Yes u) ends same so all = absurd ends
    stopped_by_end steps E.No ends same so all = absurd ends

    -- the budget is spent
    pub after_spent : AddsTest before.ontology axioms asked before.log after.log Undecided
        → spent_of after.log ≡ after.budget → HasStopped after stop.Spent
    after_spent t all = stopped_by_end t.steps t.ended t.matches t.is_log t.honest all

    -- memory is refused when its answer is to be noted
    refused_by_end : (steps : ℕ) (v : Outcome) (e : TestEnd) → ended_spent e ≡ false
        → after.log ≡ before.log ++ entry steps e ∷ [] → IsHonestEntry before.ontology (entry steps e)
        → HasStopped after stop.NoMemory
    refused_by_end steps v e goes same so =
        subst (λ (l : OracleLists). HasStopped l stop.NoMemory) (is_with steps e same)
        (record {
          honest = honest_with steps e same so (λ h. absurd (true≢false (sym h ∙ goes)));
          is_stop = goes_on_with steps e goes;
        })

    ends_no : (e : TestEnd) → EndsAs No e → ended_spent e ≡ false
    ends_no E.No h = refl
    ends_no (E.Yes u) h = absurd h
    ends_no (E.Spent t) h = absurd h

    pub after_refused : AddsTest before.ontology axioms asked before.log after.log No → HasStopped after stop.NoMemory
    after_refused t = refused_by_end t.steps No t.ended (ends_no t.ended t.matches) t.is_log t.honest

  -- the same where the log is as it was
  pub stopped_as_before : (after : OracleLists) → AreAlike before after → after.log ≡ before.log
      → HasStopped after stop.NoMemory
  stopped_as_before after alike same =
      let is : before ≡ after =
      λ i. record { ontology = sym alike.ontology i; budget = sym alike.budget i; log = sym same i } in
      subst (λ (l : OracleLists). HasStopped l stop.NoMemory) is
      (record { honest = amid.typing.honest; is_stop = amid.typing.goes_on })

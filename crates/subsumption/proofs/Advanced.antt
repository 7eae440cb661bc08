-- What one test more makes of what is known.
use Rattle.std.proofs.Common.{◌≡◌, ℕ, ◌+◌, ◌<◌, ◌≤◌, ◌&&◌, ◌||◌, true, false, [], ◌∷◌, ◌++◌, length, refl, sym, ap}
use Rattle.std.proofs.Common.{subst, ◌∙◌, arith, inl, inr}
use Rattle.std.specs.List.{list_any}
use Rattle.std.proofs.lemmas.Bool.{or_parts, or_cases, or_left, or_right, and_from}
use Rattle.axiom_sets.specs.Sets.{Limited, IsFull}
use Rattle.shq_oracle.specs.Limits.{IsInLimit}
use Rattle.shq_oracle.specs.Entry.{Entry}
use Rattle.shq_oracle.specs.Entry.TheVariants.{Test}
use Rattle.shq_oracle.specs.TestEnd.{TestEnd}
use Rattle.shq_oracle.specs.TestEnd.TheVariants as E
use Rattle.shq_oracle.specs.Entries.{spent_of, is_spent, ended_spent, IsAnswered}
use Rattle.shq_oracle.specs.HonestLog.{IsWhole, IsHonestEntry, IsClassificationLog}
use Rattle.shq_oracle.specs.HonestLog.IsChain.{none}
use Rattle.shq_oracle.specs.OracleLists.{OracleLists}
use Rattle.subsumption.specs.Matrices.{has, IsMatrix, Adds}
use Rattle.subsumption.specs.Rows.{Rows, holds, Relates}
use Rattle.subsumption.specs.Subsumption.{class_at, query_at}
use Rattle.subsumption.specs.declared.progress.Progress.{Progress}
use Rattle.subsumption.specs.declared.stop.Stop.TheVariants as stop
use Rattle.subsumption.specs.declared.testing.Verdict.{Verdict}
use Rattle.subsumption.specs.declared.testing.Verdict.TheVariants.{Yes, No, Spent}
use Rattle.subsumption.specs.Tests.{EndsAs, IsTested, AreAlike}
use Rattle.subsumption.specs.Excluded.{AsksNoExcluded}
use Rattle.subsumption.specs.Mirrors.{Mirrors, passed_up, passed_on}
use Rattle.subsumption.specs.Progress.{IsGoing, HasStopped, Advances, is_settled}
use Rattle.subsumption.proofs.InLimit.{query_in_limit}
use Rattle.subsumption.proofs.Added.{goes_on}
use Rattle.subsumption.proofs.Logged.{unanswered, one_more, asks_no_excluded}
use Rattle.subsumption.proofs.Mirrored.{mirrors_no, mirrors_yes}

-- a log that is as it was is honest as it was
pub stopped_as_before : (before after : OracleLists) (p : Progress) → IsGoing before p → AreAlike before after
    → after.log ≡ before.log → HasStopped after stop.NoMemory
stopped_as_before before after p going alike same =
    let is : before ≡ after =
    λ i. record { ontology = sym alike.ontology i; budget = sym alike.budget i; log = sym same i } in
    subst (λ (l : OracleLists). HasStopped l stop.NoMemory) is
    (record { honest = going.honest; excluded = going.excluded; is_stop = going.goes_on })

module _ (before : OracleLists) (p : Progress) (going : IsGoing before p) (x y : ℕ) (lx : x < p.known.count + 2)
    (ly : y < p.known.count + 2) (open_yet : is_settled p x y ≡ false) where
  below : (z : ℕ) → z < p.known.count + 2 → z < length before.ontology.classes + 2
  below z lz = omega (arith, lz, going.mirrors.count_is)

  -- the question may be asked
  pub may_ask : (n : ℕ) → n ≡ p.known.count → IsInLimit before.ontology (query_at n x y)
  may_ask n same =
      subst (λ (k : ℕ). IsInLimit before.ontology (query_at k x y)) (sym (same ∙ going.mirrors.count_is))
      (query_in_limit before.ontology x y going.in_limit (below x lx) (below y ly))

  pub is_new : (n : ℕ) → n ≡ p.known.count → IsAnswered before.log p.axioms (query_at n x y) → ⊥
  is_new n same =
      subst (λ (k : ℕ). IsAnswered before.log p.axioms (query_at k x y) → ⊥) (sym (same ∙ going.mirrors.count_is))
      (unanswered before.ontology before.log p.known p.ruled_out going.mirrors x y (below x lx) (below y ly)
      (or_parts (holds p.known x y) (has p.ruled_out x y) open_yet).0
      (or_parts (holds p.known x y) (has p.ruled_out x y) open_yet).1 going.goes_on p.axioms)

  -- one test more
  module _ (after : OracleLists) (alike : AreAlike before after) (within : spent_of after.log ≤ after.budget) where
    abbrev entry : ℕ → TestEnd → Entry
    entry steps e = Test p.axioms (query_at (length before.ontology.classes) x y) steps e

    -- the oracle whose log has such an entry more
    abbrev with_entry : ℕ → TestEnd → OracleLists
    with_entry steps e =
        record { ontology = before.ontology; budget = before.budget; log = before.log ++ entry steps e ∷ [] }

    is_with : (steps : ℕ) (e : TestEnd) → after.log ≡ before.log ++ entry steps e ∷ [] → with_entry steps e ≡ after
    is_with steps e same =
        λ i. record { ontology = sym alike.ontology i; budget = sym alike.budget i; log = sym same i }

    honest_with : (steps : ℕ) (e : TestEnd) → after.log ≡ before.log ++ entry steps e ∷ []
        → IsHonestEntry before.ontology (entry steps e) → (ended_spent e ≡ true → spent_of after.log ≡ after.budget)
        → IsClassificationLog before.ontology before.budget (before.log ++ entry steps e ∷ [])
    honest_with steps e same so all_spent =
        one_more before.ontology before.log p.known p.ruled_out going.mirrors x y (below x lx) (below y ly)
        (or_parts (holds p.known x y) (has p.ruled_out x y) open_yet).0
        (or_parts (holds p.known x y) (has p.ruled_out x y) open_yet).1 going.goes_on before.budget going.honest
        p.axioms steps e going.whole so
        (omega (arith, within, alike.budget, ap spent_of same))
        (λ h. sym (ap spent_of same) ∙ all_spent h ∙ alike.budget)

    excluded_with : (steps : ℕ) (e : TestEnd) → IsHonestEntry before.ontology (entry steps e)
        → AsksNoExcluded (before.log ++ entry steps e ∷ [])
    excluded_with steps e so =
        asks_no_excluded before.ontology before.log p.known p.ruled_out going.mirrors x y (below x lx) (below y ly)
        (or_parts (holds p.known x y) (has p.ruled_out x y) open_yet).0
        (or_parts (holds p.known x y) (has p.ruled_out x y) open_yet).1 going.goes_on before.budget going.honest
        p.axioms steps e going.whole so going.excluded

    at_count : (v : Verdict) (n : ℕ) → n ≡ p.known.count → IsTested before after p.axioms (query_at n x y) v
        → IsTested before after p.axioms (query_at (length before.ontology.classes) x y) v
    at_count v n same =
        subst (λ (k : ℕ). IsTested before after p.axioms (query_at k x y) v) (same ∙ going.mirrors.count_is)

    goes_on_with : (steps : ℕ) (e : TestEnd) → ended_spent e ≡ false
        → list_any is_spent (before.log ++ entry steps e ∷ []) ≡ false
    goes_on_with steps e h = goes_on before.log (entry steps e) going.goes_on h

    -- it found that x is part of y
    module _ (p' : Progress) (relates : Relates x y p.known p'.known)
        (passes : IsMatrix (p.known.count + 2) (passed_on p'.known x y p.ruled_out) p'.ruled_out)
        (axioms : p'.axioms ≡ p.axioms) (classes : p'.classes ≡ p.classes) where
      knows : (a b : ℕ) → a < p.known.count + 2 → b < p.known.count + 2 → holds p.known a b ≡ true
          → is_settled p' a b ≡ true
      knows a b la lb h =
          or_left (holds p'.known a b) (has p'.ruled_out a b)
          (relates.pairs a b la lb ∙ or_left (holds p.known a b) (holds p.known a x && holds p.known y b) h)

      keeps_out : (a b : ℕ) → a < p.known.count + 2 → b < p.known.count + 2 → has p.ruled_out a b ≡ true
          → is_settled p' a b ≡ true
      keeps_out a b la lb h =
          or_right (holds p'.known a b) (has p'.ruled_out a b)
          (passes.pairs a b la lb
          ∙ or_left (passed_up p'.known x y p.ruled_out a b)
          (passed_up p'.known x y p.ruled_out a y && holds p'.known b x)
          (or_left (has p.ruled_out a b) (holds p'.known y a && has p.ruled_out x b) h))

      itself : (a : ℕ) → a < p.known.count + 2 → holds p.known a a ≡ true
      itself a la =
          (going.mirrors.known_is a a (below a la) (below a la)).1 (none (class_at (length before.ontology.classes) a))

      now_settled : is_settled p' x y ≡ true
      now_settled = or_left (holds p'.known x y) (has p'.ruled_out x y)
          (relates.pairs x y lx ly
          ∙ or_right (holds p.known x y) (holds p.known x x && holds p.known y y)
          (and_from (holds p.known x x) (holds p.known y y) (itself x lx) (itself y ly)))

      advances_yes : (steps : ℕ) (u : Limited) → after.log ≡ before.log ++ entry steps (E.Yes u) ∷ []
          → IsHonestEntry before.ontology (entry steps (E.Yes u)) → Advances (with_entry steps (E.Yes u)) p p'
      advances_yes steps u same so = record {
        going = record {
          in_limit = going.in_limit;
          honest = honest_with steps (E.Yes u) same so (λ h. absurd (cc h));
          excluded = excluded_with steps (E.Yes u) so;
          goes_on = goes_on_with steps (E.Yes u) refl;
          whole = subst (IsWhole before.ontology) (sym axioms) going.whole;
          limit = ap (λ (s : Limited). s.limit) classes ∙ going.limit;
          full =
              subst (λ (s : Limited). IsFull (length before.ontology.classes + 2) s.members) (sym classes) going.full;
          mirrors =
              mirrors_yes before.ontology before.log p.known p.ruled_out going.mirrors x y (below x lx) (below y ly)
              p.axioms steps (or_parts (holds p.known x y) (has p.ruled_out x y) open_yet).1 u p'.known p'.ruled_out
              relates passes;
        };
        count_is = relates.count_is;
        stays =
            λ a b la lb h. elim (or_cases (holds p.known a b) (has p.ruled_out a b) h)
            [ inl k ↦ knows a b la lb k | inr k ↦ keeps_out a b la lb k ];
      }

      yes_by_end : (steps : ℕ) (e : TestEnd) → EndsAs Yes e → after.log ≡ before.log ++ entry steps e ∷ []
          → IsHonestEntry before.ontology (entry steps e) → Advances after p p'
      yes_by_end steps (E.Yes u) ends same so =
          subst (λ (l : OracleLists). Advances l p p') (is_with steps (E.Yes u) same) (advances_yes steps u same so)
      yes_by_end steps E.No ends same so = absurd ends
      yes_by_end steps (E.Spent t) ends same so = absurd ends

      pub after_yes : (n : ℕ) → n ≡ p.known.count → IsTested before after p.axioms (query_at n x y) Yes
          → Advances after p p' × (is_settled p' x y ≡ true)
      after_yes n same t =
          let k : IsTested before after p.axioms (query_at (length before.ontology.classes) x y) Yes =
          at_count Yes n same t in
          (yes_by_end k.steps k.ended k.ends_as k.is_log k.honest, now_settled)

    -- or that it is not
    module _ (p' : Progress) (known : p'.known ≡ p.known)
        (adds : Adds (λ a b. holds p.known x a && holds p.known b y) p.ruled_out p'.ruled_out)
        (axioms : p'.axioms ≡ p.axioms) (classes : p'.classes ≡ p.classes) where
      out : (a b : ℕ) → a < p.known.count + 2 → b < p.known.count + 2
          → has p'.ruled_out a b ≡ (has p.ruled_out a b || (holds p.known x a && holds p.known b y))
      out a b la lb = adds.pairs a b (omega (arith, la, going.mirrors.count_is, going.mirrors.size_is))
          (omega (arith, lb, going.mirrors.count_is, going.mirrors.size_is))

      related_to : (a : ℕ) → a < p.known.count + 2 → holds p.known a a ≡ true
      related_to a la =
          (going.mirrors.known_is a a (below a la) (below a la)).1 (none (class_at (length before.ontology.classes) a))

      now_out : is_settled p' x y ≡ true
      now_out = or_right (holds p'.known x y) (has p'.ruled_out x y)
          (out x y lx ly
          ∙ or_right (has p.ruled_out x y) (holds p.known x x && holds p.known y y)
          (and_from (holds p.known x x) (holds p.known y y) (related_to x lx) (related_to y ly)))

      stays_no : (a b : ℕ) → a < p.known.count + 2 → b < p.known.count + 2 → is_settled p a b ≡ true
          → is_settled p' a b ≡ true
      stays_no a b la lb h = elim (or_cases (holds p.known a b) (has p.ruled_out a b) h) [
        | inl k ↦ or_left (holds p'.known a b) (has p'.ruled_out a b) (ap (λ (r : Rows). holds r a b) known ∙ k)
        | inr k ↦
            or_right (holds p'.known a b) (has p'.ruled_out a b)
            (out a b la lb ∙ or_left (has p.ruled_out a b) (holds p.known x a && holds p.known b y) k)
      ]

      advances_no : (steps : ℕ) → after.log ≡ before.log ++ entry steps E.No ∷ []
          → IsHonestEntry before.ontology (entry steps E.No) → Advances (with_entry steps E.No) p p'
      advances_no steps same so = record {
        going = record {
          in_limit = going.in_limit;
          honest = honest_with steps E.No same so (λ h. absurd (cc h));
          excluded = excluded_with steps E.No so;
          goes_on = goes_on_with steps E.No refl;
          whole = subst (IsWhole before.ontology) (sym axioms) going.whole;
          limit = ap (λ (s : Limited). s.limit) classes ∙ going.limit;
          full =
              subst (λ (s : Limited). IsFull (length before.ontology.classes + 2) s.members) (sym classes) going.full;
          mirrors =
              subst (λ (r : Rows). Mirrors before.ontology (before.log ++ entry steps E.No ∷ []) r p'.ruled_out)
              (sym known)
              (mirrors_no before.ontology before.log p.known p.ruled_out going.mirrors x y (below x lx) (below y ly)
              p.axioms steps p'.ruled_out adds);
        };
        count_is = ap (λ (r : Rows). r.count) known;
        stays = stays_no;
      }

      no_by_end : (steps : ℕ) (e : TestEnd) → EndsAs No e → after.log ≡ before.log ++ entry steps e ∷ []
          → IsHonestEntry before.ontology (entry steps e) → Advances after p p'
      no_by_end steps E.No ends same so =
          subst (λ (l : OracleLists). Advances l p p') (is_with steps E.No same) (advances_no steps same so)
      no_by_end steps (E.Yes u) ends same so = absurd ends
      no_by_end steps (E.Spent t) ends same so = absurd ends

      pub after_no : (n : ℕ) → n ≡ p.known.count → IsTested before after p.axioms (query_at n x y) No
          → Advances after p p' × (is_settled p' x y ≡ true)
      after_no n same t =
          let k : IsTested before after p.axioms (query_at (length before.ontology.classes) x y) No =
          at_count No n same t in
          (no_by_end k.steps k.ended k.ends_as k.is_log k.honest, now_out)

    -- or the budget was spent
    spent_by_end : (steps : ℕ) (e : TestEnd) → EndsAs Spent e → after.log ≡ before.log ++ entry steps e ∷ []
        → IsHonestEntry before.ontology (entry steps e) → spent_of after.log ≡ after.budget
        → HasStopped after stop.Spent
    spent_by_end steps (E.Spent t) ends same so all =
        subst (λ (l : OracleLists). HasStopped l stop.Spent) (is_with steps (E.Spent t) same)
        (record {
          honest = honest_with steps (E.Spent t) same so (λ h. all);
          excluded = excluded_with steps (E.Spent t) so;
          is_stop = record {
            before = before.log;
            asked = p.axioms;
            query = query_at (length before.ontology.classes) x y;
            steps = steps;
            trail = t;
            is_log = refl;
            whole = sym (ap spent_of same) ∙ all ∙ alike.budget;
          };
        })
    spent_by_end steps (E.Yes u) ends same so all = absurd ends
    spent_by_end steps E.No ends same so all = absurd ends

    pub after_spent : (n : ℕ) → n ≡ p.known.count → IsTested before after p.axioms (query_at n x y) Spent
        → HasStopped after stop.Spent
    after_spent n same t =
        let k : IsTested before after p.axioms (query_at (length before.ontology.classes) x y) Spent =
        at_count Spent n same t in
        spent_by_end k.steps k.ended k.ends_as k.is_log k.honest k.spends

    -- or memory was refused when its answer was to be noted
    noted_by_end : (steps : ℕ) (e : TestEnd) → EndsAs Yes e → after.log ≡ before.log ++ entry steps e ∷ []
        → IsHonestEntry before.ontology (entry steps e) → HasStopped after stop.NoMemory
    noted_by_end steps (E.Yes u) ends same so =
        subst (λ (l : OracleLists). HasStopped l stop.NoMemory) (is_with steps (E.Yes u) same) (record {
          honest = honest_with steps (E.Yes u) same so (λ h. absurd (cc h));
          excluded = excluded_with steps (E.Yes u) so;
          is_stop = goes_on_with steps (E.Yes u) refl;
        })
    noted_by_end steps E.No ends same so = absurd ends
    noted_by_end steps (E.Spent t) ends same so = absurd ends

    pub after_refused : (n : ℕ) → n ≡ p.known.count → IsTested before after p.axioms (query_at n x y) Yes
        → HasStopped after stop.NoMemory
    after_refused n same t =
        let k : IsTested before after p.axioms (query_at (length before.ontology.classes) x y) Yes =
        at_count Yes n same t in
        noted_by_end k.steps k.ended k.ends_as k.is_log k.honest

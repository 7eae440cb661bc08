-- A log with one test more is honest still.
use Rattle.std.proofs.Common.{◌≡◌, ◌⊎◌, ℕ, zero, suc, ◌+◌, ◌≤◌, Bool, true, false, List, [], ◌∷◌, ◌++◌, length, take}
use Rattle.std.proofs.Common.{Some, refl, ap, sym, ◌∙◌, subst, arith, inl, inr, length-append}
use Rattle.std.specs.Prelude.{◌||◌, slice_get, All}
use Rattle.std.specs.List.{list_any}
use Rattle.std.proofs.lemmas.Bool.{true≢false, cases_Bool}
use Rattle.std.proofs.lemmas.List.{take_all}
use Rattle.std.proofs.lemmas.List.Elements.{All-push}
use Rattle.std.proofs.lemmas.List.Folds.{list_any-append}
use Rattle.axiom_sets.specs.Sets.{Limited}
use Rattle.shq_terms.specs.Listed.{Listed}
use Rattle.shq_terms.specs.declared.axioms.Numbered.{Numbered}
use Rattle.shq_terms.specs.declared.axioms.Query.{Query}
use Rattle.job_inputs.specs.Limits.{IsInLimit}
use Rattle.shq_oracle.specs.Entry.{Entry}
use Rattle.shq_oracle.specs.Entry.TheVariants.{Test}
use Rattle.shq_oracle.specs.TestEnd.{TestEnd}
use Rattle.shq_oracle.specs.Entries.{spent_of, is_spent, ended_spent, IsAnswered}
use Rattle.shq_oracle.specs.HonestLog.{IsHonestEntry, EndsWhenSpent, AsksNoAnswer}
use Rattle.edit_session.specs.SessionLog.{IsHonestThen, IsSessionLog, Tests}
use Rattle.edit_session.proofs.Standing.{stay_honest}

-- ---- one entry more

-- what stands at a place stood there before, or is the entry
last_or_before : (log : List Entry) (e : Entry) (place : ℕ) (d : Entry) → slice_get (log ++ e ∷ []) place ≡ Some d
    → ((slice_get log place ≡ Some d) × (take place (log ++ e ∷ []) ≡ take place log)) ⊎
    ((e ≡ d) × (place ≡ length log) × (take place (log ++ e ∷ []) ≡ log))
last_or_before [] e zero d at = inr (cc at, refl, refl)
last_or_before [] e (suc place) d at = cc
last_or_before (x ∷ xs) e zero d at = inl (at, refl)
last_or_before (x ∷ xs) e (suc place) d at =
    elim (last_or_before xs e place d at) [
      | inl h ↦ inl (h.0, ap (λ (l : List Entry). x ∷ l) h.1)
      | inr h ↦ inr (h.0, omega (arith, h.1), ap (λ (l : List Entry). x ∷ l) h.2)
    ]

-- no entry ran out
none_spent : (log : List Entry) (place : ℕ) (d : Entry) → list_any is_spent log ≡ false → slice_get log place ≡ Some d
    → is_spent d ≡ true → ⊥
none_spent [] place d none at is = cc
none_spent (x ∷ xs) zero d none at is =
    let e : x ≡ d = cc at in
    elim (cases_Bool (is_spent x)) [
      | inl t ↦ true≢false (sym (ap (λ (b : Bool). b || list_any is_spent xs) t) ∙ none)
      | inr f ↦ true≢false (sym is ∙ sym (ap is_spent e) ∙ f)
    ]
none_spent (x ∷ xs) (suc place) d none at is =
    elim (cases_Bool (is_spent x)) [
      | inl t ↦ true≢false (sym (ap (λ (b : Bool). b || list_any is_spent xs) t) ∙ none)
      | inr f ↦ none_spent xs place d (sym (ap (λ (b : Bool). b || list_any is_spent xs) f) ∙ none) at is
    ]

module _ (budget : ℕ) (log : List Entry) (s : Limited) (q : Query) (steps : ℕ) (e : TestEnd)
    (none : list_any is_spent log ≡ false) where
  abbrev longer : List Entry
  longer = log ++ Test s q steps e ∷ []

  any_longer : list_any is_spent longer ≡ ended_spent e
  any_longer =
      list_any-append is_spent log (Test s q steps e ∷ []) ∙ ap (λ (b : Bool). b || (ended_spent e || false)) none
      ∙ or_false (ended_spent e)
    where
      or_false : (b : Bool) → (false || (b || false)) ≡ b
      or_false true = refl
      or_false false = refl

  ends_longer : (ended_spent e ≡ true → spent_of longer ≡ budget) → EndsWhenSpent budget longer
  ends_longer whole = record {
    is_last = λ place d at spent. elim (last_or_before log (Test s q steps e) place d at) [
      | inl old ↦ absurd (none_spent log place d none old.0 spent)
      | inr new ↦ omega (arith, new.1, length-append log (Test s q steps e ∷ []))
    ];
    is_whole = λ any. whole (sym any_longer ∙ any);
  }

  asks_longer : AsksNoAnswer log → ¬ IsAnswered log s q → AsksNoAnswer longer
  asks_longer old new place t p n d at =
      elim (last_or_before log (Test s q steps e) place (Test t p n d) at) [
        | inl there ↦ subst (λ (es : List Entry). ¬ IsAnswered es t p) (sym there.1) (old place t p n d there.0)
        | inr here ↦
            let same_set : s ≡ t = cc here.0 in
            let same_query : q ≡ p = cc here.0 in
            subst (λ (es : List Entry). ¬ IsAnswered es t p) (sym here.2)
            (subst (λ (v : Limited). ¬ IsAnswered log v p) same_set
            (subst (λ (r : Query). ¬ IsAnswered log s r) same_query new))
      ]

-- ---- a test of all live axioms of the ontology as it stands

-- a test that was honest with more names is honest for the ontology
pub honest_now : (o both : Listed) (s : Limited) (q : Query) (steps : ℕ) (e : TestEnd) → both.axioms ≡ o.axioms
    → IsInLimit both q → IsHonestEntry both (Test s q steps e) → IsHonestThen o (Test s q steps e)
honest_now o both s q steps e same limit honest = record {
  standing = both;
  first_axioms =
      let short : length o.axioms ≤ s.limit = omega (arith, honest.0.limit_is, ap length same) in
      same ∙ sym (take_all s.limit o.axioms short);
  in_limit = limit;
  honest = honest;
}

each_stays : (o p : Listed) (more : List Numbered) → p.axioms ≡ o.axioms ++ more → (log : List Entry)
    → All (IsHonestThen o) log → All (IsHonestThen p) log
each_stays o p more longer log all = λ k d lt. stay_honest o p more _ longer (all k d lt)

-- where axioms were put last at most
pub log_stays : (o p : Listed) (budget : ℕ) (log : List Entry) → (more : List Numbered) × (p.axioms ≡ o.axioms ++ more)
    → IsSessionLog o budget log → IsSessionLog p budget log
log_stays o p budget log longer h =
    record { within = h.within; honest = each_stays o p longer.0 longer.1 log h.honest; ends = h.ends; new = h.new }

-- where one test more was made
pub log_longer : (ran_out : Bool) (o both : Listed) (s : Limited) (q : Query) (budget : ℕ) (before after : List Entry)
    → both.axioms ≡ o.axioms → IsInLimit both q → Tests ran_out both s q before after
    → list_any is_spent before ≡ false → spent_of after ≤ budget → (ran_out ≡ true → spent_of after ≡ budget)
    → IsSessionLog o budget before → IsSessionLog o budget after
log_longer ran_out o both s q budget before after same limit t none within whole h =
    let entry : Entry = Test s q t.steps t.ended in
    let whole' : ended_spent t.ended ≡ true → spent_of (before ++ entry ∷ []) ≡ budget =
    λ x. ap spent_of (sym t.is_log) ∙ whole (sym t.is_end ∙ x) in
    subst (IsSessionLog o budget) (sym t.is_log) (record {
      within = subst (λ (es : List Entry). spent_of es ≤ budget) t.is_log within;
      honest =
          All-push (IsHonestThen o) before entry h.honest (honest_now o both s q t.steps t.ended same limit t.honest);
      ends = ends_longer budget before s q t.steps t.ended none whole';
      new = asks_longer budget before s q t.steps t.ended none h.new t.new;
    })

-- what ran out, and what did not
pub spent_after : (ran_out : Bool) (o : Listed) (s : Limited) (q : Query) (before after : List Entry)
    → Tests ran_out o s q before after → list_any is_spent before ≡ false → list_any is_spent after ≡ ran_out
spent_after ran_out o s q before after t none =
    ap (list_any is_spent) t.is_log ∙ any_longer 0 before s q t.steps t.ended none ∙ t.is_end

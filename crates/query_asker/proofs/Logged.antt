-- One entry more in a log.
use Rattle.std.proofs.Common.{◌≡◌, ℕ, zero, suc, ◌+◌, ◌-◌, ◌^◌, ◌≤◌, Bool, true, false, List, [], ◌∷◌, ◌++◌, length}
use Rattle.std.proofs.Common.{take, Some, refl, ap, sym, ◌∙◌, subst, arith, inl, inr, length-append, append_assoc}
use Rattle.std.specs.Prelude.{◌⊎◌, ◌||◌, slice_get, cond}
use Rattle.std.specs.List.{list_any}
use Rattle.std.proofs.lemmas.Bool.{true≢false, cases_lt, cases_Bool, or_cases}
use Rattle.std.proofs.lemmas.List.Elements.{All-push}
use Rattle.std.proofs.lemmas.List.Folds.{list_any-append}
use Rattle.std.proofs.lemmas.List.Sums.{sum_by_push}
use Rattle.set_questions.specs.Meaning.{one_more}
use Rattle.shq_oracle.specs.Entry.{Entry}
use Rattle.shq_oracle.specs.Entry.TheVariants.{Test, Node}
use Rattle.shq_oracle.specs.Entries.{spent_of, is_test, test_count, is_spent, IsAnswered}
use Rattle.shq_oracle.specs.HonestLog.{IsHonestEntry, EndsWhenSpent, IsTestOf, AsksNoAnswer, IsTestIn}
use Rattle.query_asker.specs.AskerLists.{AskerLists}
use Rattle.query_asker.specs.Told.{IsAskerLog}

-- ---- places in a longer list

-- what stands at a place of a list with one item more stands there without it, or is that item
pub at_end : {X : Type 0} (xs : List X) (x : X) (place : ℕ) (y : X) → slice_get (xs ++ x ∷ []) place ≡ Some y
    → ((slice_get xs place ≡ Some y) × (take place (xs ++ x ∷ []) ≡ take place xs))
    ⊎ ((x ≡ y) × (place ≡ length xs) × (take place (xs ++ x ∷ []) ≡ xs))
at_end {X = X} [] x zero y e = let k : x ≡ y = cc in inr (k, refl, refl)
at_end {X = X} [] x (suc place) y e = cc
at_end {X = X} (z ∷ zs) x zero y e = inl (e, refl)
at_end {X = X} (z ∷ zs) x (suc place) y e =
    elim (at_end zs x place y e) [
      | inl h ↦ inl (h.0, ap (λ (l : List X). z ∷ l) h.1)
      | inr h ↦ inr (h.0, omega (arith, h.1), ap (λ (l : List X). z ∷ l) h.2)
    ]

-- an item that passes a test which none passes
not_among : {X : Type 0} (p : X → Bool) (xs : List X) (place : ℕ) (x : X) → list_any p xs ≡ false
    → slice_get xs place ≡ Some x → p x ≡ true → ⊥
not_among p [] place x none at is = cc
not_among p (y ∷ ys) zero x none at is =
    let e : y ≡ x = cc in
    elim (cases_Bool (p y)) [
      | inl t ↦ true≢false (sym (ap (λ (b : Bool). b || list_any p ys) t) ∙ none)
      | inr f ↦ true≢false (sym is ∙ sym (ap p e) ∙ f)
    ]
not_among p (y ∷ ys) (suc place) x none at is =
    elim (cases_Bool (p y)) [
      | inl t ↦ true≢false (sym (ap (λ (b : Bool). b || list_any p ys) t) ∙ none)
      | inr f ↦ not_among p ys place x (sym (ap (λ (b : Bool). b || list_any p ys) f) ∙ none) at is
    ]

-- ---- the budget

pub ends_more : (budget : ℕ) (log : List Entry) (e : Entry) → list_any is_spent log ≡ false
    → (is_spent e ≡ true → spent_of (log ++ e ∷ []) ≡ budget) → EndsWhenSpent budget (log ++ e ∷ [])
ends_more budget log e none whole = record {
  is_last = λ place d at spent. elim (at_end log e place d at) [
    | inl old ↦ absurd (not_among is_spent log place d none old.0 spent)
    | inr new ↦ omega (arith, new.1, length-append log (e ∷ []))
  ];
  is_whole = λ any.
      let split : (list_any is_spent log || (is_spent e || false)) ≡ true =
      sym (list_any-append is_spent log (e ∷ [])) ∙ any in
      elim (or_cases (list_any is_spent log) (is_spent e || false) split) [
        | inl old ↦ absurd (true≢false (sym old ∙ none))
        | inr new ↦
            elim (or_cases (is_spent e) false new) [ inl is ↦ whole is | inr never ↦ absurd (true≢false (sym never)) ]
      ];
}

pub ends_none : (budget : ℕ) (log : List Entry) → list_any is_spent log ≡ false → EndsWhenSpent budget log
ends_none budget log none = record {
  is_last = λ place d at spent. absurd (not_among is_spent log place d none at spent);
  is_whole = λ any. absurd (true≢false (sym any ∙ none));
}

-- where something is left, no test spent the budget
pub goes_on : (budget : ℕ) (log : List Entry) → EndsWhenSpent budget log → ¬ (spent_of log ≡ budget)
    → list_any is_spent log ≡ false
goes_on budget log ends some =
    elim (cases_Bool (list_any is_spent log)) [ inl t ↦ absurd (some (ends.is_whole t)) | inr f ↦ f ]

-- ---- one entry more

abbrev pub with_entry : AskerLists → Entry → ℕ → AskerLists
with_entry a e asks = record {
  ontology = a.ontology;
  query = a.query;
  budget = a.budget;
  local_part = a.local_part;
  before = a.before;
  gained = a.gained ++ e ∷ [];
  asks = asks;
}

abbrev pub with_asks : AskerLists → ℕ → AskerLists
with_asks a asks = record {
  ontology = a.ontology;
  query = a.query;
  budget = a.budget;
  local_part = a.local_part;
  before = a.before;
  gained = a.gained;
  asks = asks;
}

-- the entry is no test that the log answers
abbrev pub IsNew : List Entry → Entry → Type 0
IsNew log (Test s q steps d) = ¬ IsAnswered log s q
IsNew log (Node s) = Unit {0}

-- what an entry needs that is put last, beside so many asks
pub record MayBeLast (a : AskerLists) (e : Entry) (asks : ℕ) : Type 0 where
  pub goes_on : list_any is_spent (a.before ++ a.gained) ≡ false
  pub honest : IsHonestEntry a.ontology e
  pub within : spent_of ((a.before ++ a.gained) ++ e ∷ []) ≤ a.budget
  pub whole : is_spent e ≡ true → spent_of ((a.before ++ a.gained) ++ e ∷ []) ≡ a.budget
  pub of_query : IsTestOf a.query e
  pub new : IsNew a.gained e
  pub in_part : IsTestIn a.local_part e
  pub counted : ((is_test e ≡ false) × (asks ≡ a.asks)) ⊎ (asks ≡ one_more a.asks)

asks_more : (log : List Entry) (e : Entry) → AsksNoAnswer log → IsNew log e → AsksNoAnswer (log ++ e ∷ [])
asks_more log e old new place s q steps d at =
    elim (at_end log e place (Test s q steps d) at) [
      | inl there ↦ subst (λ (es : List Entry). ¬ IsAnswered es s q) (sym there.1) (old place s q steps d there.0)
      | inr here ↦ subst (λ (es : List Entry). ¬ IsAnswered es s q) (sym here.2) (subst (IsNew log) here.0 new)
    ]

-- so many tests are no more than so many asks, or the count of asks stands at its greatest value
abbrev pub AreFew : ℕ → ℕ → Type 0
AreFew tests asks = (tests ≤ asks) ⊎ (asks ≡ 2 ^ 64 - 1)

pub few_more : (n n' asks : ℕ) → n' ≤ n + 1 → AreFew n asks → AreFew n' (one_more asks)
few_more n n' asks le few =
    elim (cases_lt (asks + 1) (2 ^ 64 - 1)) [
      | inl low ↦ elim few [ inl h ↦ inl (omega (arith, h, le)) | inr e ↦ absurd (omega (arith, e)) ]
      | inr high ↦ inr (omega arith)
    ]

counted_test : (log : List Entry) (e : Entry) → test_count (log ++ e ∷ []) ≡ test_count log + cond (is_test e) 1 0
counted_test log e = sum_by_push (λ (x : Entry). cond (is_test x) 1 0) log e

few_with : (log : List Entry) (e : Entry) (asks asks' : ℕ) → AreFew (test_count log) asks
    → ((is_test e ≡ false) × (asks' ≡ asks)) ⊎ (asks' ≡ one_more asks) → AreFew (test_count (log ++ e ∷ [])) asks'
few_with log e asks asks' few counted =
    elim counted [
      | inl node ↦
          let same : test_count (log ++ e ∷ []) ≡ test_count log =
          counted_test log e ∙ ap (λ (b : Bool). test_count log + cond b 1 0) node.0 ∙ omega arith in
          subst (λ (n : ℕ). AreFew n asks') (sym same) (subst (AreFew (test_count log)) (sym node.1) few)
      | inr test ↦
          let le : test_count (log ++ e ∷ []) ≤ test_count log + 1 = elim (cases_Bool (is_test e)) [
            | inl t ↦ omega (arith, counted_test log e ∙ ap (λ (b : Bool). test_count log + cond b 1 0) t)
            | inr f ↦ omega (arith, counted_test log e ∙ ap (λ (b : Bool). test_count log + cond b 1 0) f)
          ] in
          subst (AreFew (test_count (log ++ e ∷ []))) (sym test)
          (few_more (test_count log) (test_count (log ++ e ∷ [])) asks le few)
    ]

pub log_with : (a : AskerLists) (e : Entry) (asks : ℕ) → IsAskerLog a → MayBeLast a e asks
    → IsAskerLog (with_entry a e asks)
log_with a e asks h may =
    let assoc : (a.before ++ a.gained) ++ e ∷ [] ≡ a.before ++ (a.gained ++ e ∷ []) = simp append_assoc in
    record {
      honest = All-push (IsHonestEntry a.ontology) a.gained e h.honest may.honest;
      ends = subst (EndsWhenSpent a.budget) assoc (ends_more a.budget (a.before ++ a.gained) e may.goes_on may.whole);
      within = subst (λ (log : List Entry). spent_of log ≤ a.budget) assoc may.within;
      tests = All-push (IsTestOf a.query) a.gained e h.tests may.of_query;
      new = asks_more a.gained e h.new may.new;
      in_module = All-push (IsTestIn a.local_part) a.gained e h.in_module may.in_part;
      few = few_with a.gained e a.asks asks h.few may.counted;
    }

-- one ask more, and no entry
pub log_counted : (a : AskerLists) → IsAskerLog a → IsAskerLog (with_asks a (one_more a.asks))
log_counted a h = record {
  honest = h.honest;
  ends = h.ends;
  within = h.within;
  tests = h.tests;
  new = h.new;
  in_module = h.in_module;
  few = few_more (test_count a.gained) (test_count a.gained) a.asks (omega arith) h.few;
}

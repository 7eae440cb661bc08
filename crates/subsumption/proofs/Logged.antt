-- An honest log of questions between classes with one test more.
use Rattle.std.proofs.Common.{◌≡◌, ℕ, ◌+◌, ◌<◌, ◌≤◌, true, false, List, [], ◌∷◌, ◌++◌, length, Some, refl, ap, subst}
use Rattle.std.specs.Prelude.{slice_get}
use Rattle.std.specs.List.{list_any}
use Rattle.std.proofs.lemmas.List.Elements.{All-push}
use Rattle.axiom_sets.specs.Sets.{Limited}
use Rattle.shq_terms.specs.Concept.{Concept}
use Rattle.shq_terms.specs.Listed.{Listed}
use Rattle.shq_terms.specs.declared.axioms.On.TheVariants.{Any}
use Rattle.shq_terms.specs.declared.axioms.Query.{Query}
use Rattle.shq_oracle.specs.Entry.{Entry}
use Rattle.shq_oracle.specs.Entry.TheVariants.{Test}
use Rattle.shq_oracle.specs.TestEnd.{TestEnd}
use Rattle.shq_oracle.specs.TestEnd.TheVariants.{Yes, No, Spent}
use Rattle.shq_oracle.specs.Entries.{spent_of, is_spent, ended_spent, IsAnswered}
use Rattle.shq_oracle.specs.HonestLog.{IsWhole, IsHonestEntry, IsClassTest, IsChain, IsClassificationLog}
use Rattle.shq_oracle.specs.HonestLog.IsStep.{by_test}
use Rattle.shq_oracle.specs.HonestLog.IsChain.{none}
use Rattle.shq_oracle.specs.Shown.{IsRuledOut}
use Rattle.subsumption.specs.Matrices.{Matrix, has}
use Rattle.subsumption.specs.Rows.{Rows, holds}
use Rattle.subsumption.specs.Subsumption.{class_at, query_at}
use Rattle.subsumption.specs.Excluded.{AsksNoExcluded}
use Rattle.subsumption.specs.Mirrors.{Mirrors}
use Rattle.subsumption.proofs.Added.{at_contains, none_of, once_more, new_more, within_more}
use Rattle.subsumption.proofs.Added as added
use Rattle.subsumption.proofs.Chains.{one_step, test_rules_out}
use Rattle.subsumption.proofs.InLimit.{is_class}

-- ---- the pair is open

module _ (o : Listed) (log : List Entry) (known : Rows) (ruled_out : Matrix) (m : Mirrors o log known ruled_out)
    (x y : ℕ) (lx : x < length o.classes + 2) (ly : y < length o.classes + 2)
    (unknown : holds known x y ≡ false) (open_yet : has ruled_out x y ≡ false)
    (unspent : list_any is_spent log ≡ false) where
  no_chain_yet : IsChain log (class_at (length o.classes) x) (class_at (length o.classes) y) → ⊥
  no_chain_yet chain = let k : holds known x y ≡ true = (m.known_is x y lx ly).1 chain in cc

  not_ruled_out_yet : IsRuledOut log (class_at (length o.classes) x) (class_at (length o.classes) y) → ⊥
  not_ruled_out_yet out = let k : has ruled_out x y ≡ true = (m.ruled_out_is x y lx ly).1 out in cc

  -- no test was of its query
  untested : (place : ℕ) (s : Limited) (q : Query) (steps : ℕ) (e : TestEnd)
      → slice_get log place ≡ Some (Test s q steps e) → q ≡ query_at (length o.classes) x y → ⊥
  untested place s q steps (Yes u) at same =
      let any : q.on ≡ Any = ap (λ (p : Query). p.on) same in
      let step : IsChain log q.sub q.sup =
      one_step log q.sub q.sup (by_test s q steps u any (at_contains log (Test s q steps (Yes u)) place at)) in
      no_chain_yet (subst (λ (p : Query). IsChain log p.sub p.sup) same step)
  untested place s q steps No at same =
      let any : q.on ≡ Any = ap (λ (p : Query). p.on) same in
      let out : IsRuledOut log q.sub q.sup =
      test_rules_out log s q steps any (at_contains log (Test s q steps No) place at) in
      not_ruled_out_yet (subst (λ (p : Query). IsRuledOut log p.sub p.sup) same out)
  untested place s q steps (Spent t) at same =
      let k : true ≡ false = none_of is_spent log (Test s q steps (Spent t)) place unspent at in cc

  -- so the log does not answer it
  pub unanswered : (asked : Limited) → IsAnswered log asked (query_at (length o.classes) x y) → ⊥
  unanswered asked = added.unanswered log asked (query_at (length o.classes) x y) untested

  -- ---- the test comes last

  module _ (budget : ℕ) (honest : IsClassificationLog o budget log) (s : Limited) (steps : ℕ) (e : TestEnd)
      (whole : IsWhole o s)
      (so : IsHonestEntry o (Test s (query_at (length o.classes) x y) steps e)) where
    abbrev pub last : Entry
    last = Test s (query_at (length o.classes) x y) steps e

    is_test : IsClassTest o last
    is_test = (
      whole,
      is_class o x lx,
      is_class o y ly,
      λ same. no_chain_yet
          (subst (λ (c : Concept). IsChain log (class_at (length o.classes) x) c) same
          (none (class_at (length o.classes) x))),
      refl,
    )

    -- nor does it ask what was ruled out
    pub asks_no_excluded : AsksNoExcluded log → AsksNoExcluded (log ++ last ∷ [])
    asks_no_excluded old =
        new_more log s (query_at (length o.classes) x y) steps e (λ es q. IsRuledOut es q.sub q.sup) old
        not_ruled_out_yet

    pub one_more : spent_of (log ++ last ∷ []) ≤ budget → (ended_spent e ≡ true → spent_of (log ++ last ∷ []) ≡ budget)
        → IsClassificationLog o budget (log ++ last ∷ [])
    one_more within all_spent = record {
      budget_kept =
          within_more log s (query_at (length o.classes) x y) steps e o budget unspent honest.budget_kept so within
          all_spent;
      tests = All-push (IsClassTest o) log last honest.tests is_test;
      once = once_more log s (query_at (length o.classes) x y) steps e honest.once untested;
      new =
          new_more log s (query_at (length o.classes) x y) steps e (λ es q. IsChain es q.sub q.sup) honest.new
          no_chain_yet;
    }

-- What is kept of tests.
use Rattle.std.proofs.Common.{◌≡◌, ℕ, true, false, Bool, ◌||◌, List, [], ◌∷◌, ◌++◌, length, ap, sym, ◌∙◌, subst, arith}
use Rattle.std.proofs.Common.{inl, inr}
use Rattle.std.specs.Prelude.{Result, Ok, Err, IfOk, OnErr}
use Rattle.std.specs.FinSet as set
use Rattle.std.specs.Cmp.{nat_cmp_total}
use Rattle.std.specs.Ordering.{nat_cmp}
use Rattle.std.specs.List.{Contains}
use Rattle.std.proofs.lemmas.List.{append-nil}
use Rattle.std.proofs.lemmas.List.Elements.{Contains-append_left, Contains-push, Contains-push_cases}
use Rattle.lane_sieve.specs.Sets.{NumberSet}
use Rattle.axiom_sets.specs.Sets.{Limited}
use Rattle.axiom_sets.proofs.Same.{same_limited}
use Rattle.shq_terms.specs.Listed.{Listed}
use Rattle.shq_terms.specs.NoMemory.{NoMemory}
use Rattle.shq_terms.specs.declared.axioms.Query.{Query as Asked}
use Rattle.refutation_tree.specs.RefutationLists.{RefutationLists}
use Rattle.finite_model.specs.ModelLists.{ModelLists}
use Rattle.set_questions.specs.Asked.{Answers, ShowsNoOther, AsksInBudget}
use Rattle.set_questions.specs.declared.entail.Reply.{Reply}
use Rattle.run_log.specs.declared.entry.Entry.{Entry}
use Rattle.run_log.specs.declared.entry.Entry.TheVariants.{Test, Node}
use Rattle.run_log.specs.declared.entry.TestEnd.{TestEnd}
use Rattle.run_log.specs.declared.entry.TestEnd.TheVariants as E
use Rattle.run_log.specs.Entries.{nodes_of}
use Rattle.run_log.specs.HonestLog.{IsAxiomSet}
use Rattle.pinpointing_jobs.specs.Answer.{Answer}
use Rattle.pinpointing_jobs.specs.Answer.TheVariants as Answered
use Rattle.pinpointing_jobs.specs.Outcome.{Outcome}
use Rattle.pinpointing_jobs.specs.Outcome.TheVariants as Found
use Rattle.pinpointing_jobs.specs.Decided.{outcome_of, IsAnswer, EndsAs}
use Rattle.pinpointing_jobs.specs.AskerLists.{AskerLists}
use Rattle.pinpointing_jobs.specs.Told.{asker_meaning, IsUnknown, LogsNode}
use Rattle.pinpointing_jobs.specs.Asking.{reply_of, IsLater}
use Rattle.pinpointing_jobs.specs.Deciding.{GainsTest}
use Rattle.pinpointing_jobs.proofs.Answering.{tested_in_budget}
use Rattle.pinpointing_jobs.proofs.Tested.{nodes_test}
use Rattle.audit_jobs.specs.declared.evidence.CounterModel.{CounterModel}
use Rattle.audit_jobs.specs.declared.evidence.Evidence.{Evidence}
use Rattle.audit_jobs.specs.Kept.{IsRefuted, IsModelled, HasRefutation, HasModel, IsEvidence, NamesUpTo, KeepsAnswer}
use Rattle.audit_jobs.specs.Told.{HasTold}

-- ---- the axioms of a refutation

union_nothing : (s : NumberSet) → set.union set.empty s ≡ s
union_nothing s =
    set.same_set nat_cmp_total set.nat_cmp-IsAntisymmetric (set.union set.empty s) s
    (λ k. set.contains-union nat_cmp_total set.empty s k
    ∙ ap (λ (b : Bool). b || set.contains s k) (set.contains-empty nat_cmp k))

pub names_are : (names new axioms : Limited) → names.members ≡ set.empty → axioms.limit ≡ names.limit
    → new.limit ≡ names.limit → new.members ≡ set.union names.members axioms.members → new ≡ axioms
names_are names new axioms none limit same members =
    same_limited new axioms (same ∙ sym limit)
    (members ∙ ap (λ (s : NumberSet). set.union s axioms.members) none ∙ union_nothing axioms.members)

-- the axioms of a refutation that answers are those of the ontology
pub names_up_to : (o : Listed) (s : Limited) (q : Asked) (n : ℕ) (a : Answer) → n ≡ s.limit → s.limit ≡ length o.axioms
    → IsAnswer o s q a → NamesUpTo n a
names_up_to o s q n (Answered.Entailed r) same limit is = is.writable.limit ∙ sym (same ∙ limit)
names_up_to o s q n (Answered.NotEntailed m) same limit is = tt
names_up_to o s q n Answered.Undecided same limit is = tt

-- ---- evidence of a longer log

-- evidence is told by its lists
module _ (o : Listed) (q : Asked) (log : List Entry) (e : Evidence) (h : IsEvidence o q log e) where
  pub evidence_moved : (f : Evidence) → f.refutations.items ≡ e.refutations.items → f.models.items ≡ e.models.items
      → IsEvidence o q log f
  evidence_moved f rs ms = record {
    are_shown = record {
      refuted = λ r at. h.are_shown.refuted r (subst (λ (xs : List RefutationLists). Contains xs r) rs at);
      modelled = λ m at. h.are_shown.modelled m (subst (λ (xs : List CounterModel). Contains xs m) ms at);
    };
    each_yes =
        λ s p steps u at. subst (λ (xs : List RefutationLists). HasRefutation xs u) (sym rs)
        (h.each_yes s p steps u at);
    each_no = λ s p steps at. subst (λ (xs : List CounterModel). HasModel xs s) (sym ms) (h.each_no s p steps at);
  }

module _ (o : Listed) (q : Asked) (log : List Entry) (e : Evidence) (h : IsEvidence o q log e) where
  -- a node needs none
  evidence_with_node : (s : Limited) → IsEvidence o q (log ++ Node s ∷ []) e
  evidence_with_node s = record {
    are_shown = h.are_shown;
    each_yes =
        λ t p steps u at. elim (Contains-push_cases log (Node s) (Test t p steps (E.Yes u)) at)
        [ inl old ↦ h.each_yes t p steps u old | inr is ↦ absurd (cc is) ];
    each_no =
        λ t p steps at. elim (Contains-push_cases log (Node s) (Test t p steps E.No) at)
        [ inl old ↦ h.each_no t p steps old | inr is ↦ absurd (cc is) ];
  }

  -- a refutation more
  module _ (s : Limited) (steps : ℕ) (f : Evidence) (ms : f.models.items ≡ e.models.items) where
    with_yes : (u : Limited) (r : RefutationLists) → IsRefuted o q r → u ≡ r.axioms
        → f.refutations.items ≡ e.refutations.items ++ r ∷ [] → IsEvidence o q (log ++ Test s q steps (E.Yes u) ∷ []) f
    with_yes u r shown names rs = record {
      are_shown = record {
        refuted =
            λ x at. elim
            (Contains-push_cases e.refutations.items r x (subst (λ (xs : List RefutationLists). Contains xs x) rs at)) [
              | inl old ↦ h.are_shown.refuted x old
              | inr is ↦ subst (IsRefuted o q) is shown
            ];
        modelled = λ m at. h.are_shown.modelled m (subst (λ (xs : List CounterModel). Contains xs m) ms at);
      };
      each_yes = λ t p n v at. elim (Contains-push_cases log (Test s q steps (E.Yes u)) (Test t p n (E.Yes v)) at) [
        | inl old ↦
            let had = h.each_yes t p n v old in (
              had.0,
              subst (λ (xs : List RefutationLists). Contains xs had.0) (sym rs)
                  (Contains-append_left e.refutations.items (r ∷ []) had.0 had.1),
              had.2,
            )
        | inr is ↦
            let same : u ≡ v = cc in (
              r,
              subst (λ (xs : List RefutationLists). Contains xs r) (sym rs) (Contains-push e.refutations.items r),
              sym names ∙ same,
            )
      ];
      each_no = λ t p n at. elim (Contains-push_cases log (Test s q steps (E.Yes u)) (Test t p n E.No) at) [
        | inl old ↦ subst (λ (xs : List CounterModel). HasModel xs t) (sym ms) (h.each_no t p n old)
        | inr is ↦ absurd (cc is)
      ];
    }

  -- a model more
  module _ (s : Limited) (steps : ℕ) (f : Evidence) (rs : f.refutations.items ≡ e.refutations.items) where
    with_no : (m : ModelLists) → IsModelled o q (record { set = s; model = m })
        → f.models.items ≡ e.models.items ++ record { set = s; model = m } ∷ []
        → IsEvidence o q (log ++ Test s q steps E.No ∷ []) f
    with_no m shown ms =
        let kept : CounterModel = record { set = s; model = m } in
        record {
          are_shown = record {
            refuted = λ r at. h.are_shown.refuted r (subst (λ (xs : List RefutationLists). Contains xs r) rs at);
            modelled =
                λ x at. elim
                (Contains-push_cases e.models.items kept x (subst (λ (xs : List CounterModel). Contains xs x) ms at)) [
                  | inl old ↦ h.are_shown.modelled x old
                  | inr is ↦ subst (IsModelled o q) is shown
                ];
          };
          each_yes = λ t p n u at. elim (Contains-push_cases log (Test s q steps E.No) (Test t p n (E.Yes u)) at) [
            | inl old ↦ subst (λ (xs : List RefutationLists). HasRefutation xs u) (sym rs) (h.each_yes t p n u old)
            | inr is ↦ absurd (cc is)
          ];
          each_no = λ t p n at. elim (Contains-push_cases log (Test s q steps E.No) (Test t p n E.No) at) [
            | inl old ↦
                let had = h.each_no t p n old in (
                  had.0,
                  subst (λ (xs : List CounterModel). Contains xs had.0) (sym ms)
                      (Contains-append_left e.models.items (kept ∷ []) had.0 had.1),
                  had.2,
                )
            | inr is ↦
                let same : s ≡ t = cc in (
                  kept,
                  subst (λ (xs : List CounterModel). Contains xs kept) (sym ms) (Contains-push e.models.items kept),
                  same,
                )
          ];
        }

  -- a test that spent the budget
  with_spent : (s : Limited) (steps : ℕ) (d : TestEnd) → EndsAs Found.Undecided d
      → IsEvidence o q (log ++ Test s q steps d ∷ []) e
  with_spent s steps (E.Yes u) ends = absurd ends
  with_spent s steps E.No ends = absurd ends
  with_spent s steps (E.Spent trail) ends = record {
    are_shown = h.are_shown;
    each_yes =
        λ t p n u at. elim (Contains-push_cases log (Test s q steps (E.Spent trail)) (Test t p n (E.Yes u)) at)
        [ inl old ↦ h.each_yes t p n u old | inr is ↦ absurd (cc is) ];
    each_no =
        λ t p n at. elim (Contains-push_cases log (Test s q steps (E.Spent trail)) (Test t p n E.No) at)
        [ inl old ↦ h.each_no t p n old | inr is ↦ absurd (cc is) ];
  }

  -- a test, by what it found
  by_end : (s : Limited) (steps : ℕ) (f : Evidence) (a : Answer) (d : TestEnd) → IsAxiomSet o s → IsAnswer o s q a
      → KeepsAnswer e f s a → EndsAs (outcome_of a) d → IsEvidence o q (log ++ Test s q steps d ∷ []) f
  by_end s steps f (Answered.Entailed r) (E.Yes u) set_is is kept ends =
      with_yes s steps f kept.1 u r (record { refutes = is.refutes; writable = is.writable }) ends kept.0
  by_end s steps f (Answered.Entailed r) E.No set_is is kept ends = absurd ends
  by_end s steps f (Answered.Entailed r) (E.Spent t) set_is is kept ends = absurd ends
  by_end s steps f (Answered.NotEntailed m) (E.Yes u) set_is is kept ends = absurd ends
  by_end s steps f (Answered.NotEntailed m) E.No set_is is kept ends =
      with_no s steps f kept.0 m (record { of_axioms = set_is; refuting = is }) kept.1
  by_end s steps f (Answered.NotEntailed m) (E.Spent t) set_is is kept ends = absurd ends
  by_end s steps f Answered.Undecided d set_is is kept ends =
      evidence_moved o q (log ++ Test s q steps d ∷ []) e (with_spent s steps d ends) f kept.0 kept.1

-- the answer kept, where none was tested
nothing_kept : (e f : Evidence) (s : Limited) (a : Answer) → outcome_of a ≡ Found.Undecided → KeepsAnswer e f s a
    → (f.refutations.items ≡ e.refutations.items) × (f.models.items ≡ e.models.items)
nothing_kept e f s (Answered.Entailed r) is kept = absurd (cc is)
nothing_kept e f s (Answered.NotEntailed m) is kept = absurd (cc is)
nothing_kept e f s Answered.Undecided is kept = kept

-- an asker that gained a test, and what is kept of it
pub evidence_gained : (a b : AskerLists) (s : Limited) (e f : Evidence) (answer : Answer)
    → IsEvidence a.ontology a.query a.gained e → IsAxiomSet a.ontology s → IsAnswer a.ontology s a.query answer
    → KeepsAnswer e f s answer → GainsTest a b s (outcome_of answer)
    → IsEvidence b.ontology b.query b.gained f
evidence_gained a b s e f answer h set_is is kept gains =
    subst (λ (x : AskerLists). IsEvidence x.ontology x.query x.gained f) (sym gains.is_more) (elim gains.is_test [
      | inl one ↦
          subst (λ (more : List Entry). IsEvidence a.ontology a.query (a.gained ++ more) f) (sym one.is_more)
          (by_end a.ontology a.query a.gained e h s one.steps f answer one.ended set_is is kept one.matches)
      | inr none ↦
          let same = nothing_kept e f s answer none.1 kept in
          subst (λ (log : List Entry). IsEvidence a.ontology a.query log f)
          (sym (append-nil a.gained) ∙ ap (λ (more : List Entry). a.gained ++ more) (sym none.0))
          (evidence_moved a.ontology a.query a.gained e h f same.0 same.1)
    ])

-- ---- what a test tells

gained_later : (a b : AskerLists) (s : Limited) (v : Outcome) → GainsTest a b s v → IsLater a b
gained_later a b s v gains = record {
  more = gains.more;
  is_more =
      gains.is_more
      ∙ ap (λ (n : ℕ). record {
        ontology = a.ontology;
        query = a.query;
        budget = a.budget;
        local_part = a.local_part;
        before = a.before;
        gained = a.gained ++ gains.more;
        asks = n;
      })
      (sym (ap (λ (x : AskerLists). x.asks) gains.is_more));
}

gained_nodes : (a b : AskerLists) (s : Limited) (v : Outcome) → GainsTest a b s v
    → nodes_of b.gained ≡ nodes_of a.gained
gained_nodes a b s v gains =
    ap (λ (x : AskerLists). nodes_of x.gained) gains.is_more ∙ (elim gains.is_test [
      | inl one ↦
          ap (λ (more : List Entry). nodes_of (a.gained ++ more)) one.is_more
          ∙ nodes_test a.gained s a.query one.steps one.ended
      | inr none ↦ ap (λ (more : List Entry). nodes_of (a.gained ++ more)) none.0 ∙ ap nodes_of (append-nil a.gained)
    ])

pub has_told : (a b : AskerLists) (s : Limited) (v : Outcome) (reply : Reply) → reply ≡ reply_of v → GainsTest a b s v
    → Answers (asker_meaning b) s (reply_of v) → IsUnknown b s (reply_of v)
    → ShowsNoOther (asker_meaning a) (asker_meaning b) (reply_of v) → HasTold a b s reply
has_told a b s v reply is gains answer unknown shown = record {
  answer = subst (Answers (asker_meaning b) s) (sym is) answer;
  unknown = subst (IsUnknown b s) (sym is) unknown;
  shown = subst (ShowsNoOther (asker_meaning a) (asker_meaning b)) (sym is) shown;
  in_budget =
      subst (AsksInBudget (asker_meaning a) (asker_meaning b)) (sym is) (tested_in_budget a b s v gains);
  later = gained_later a b s v gains;
  counted = ap (λ (x : AskerLists). x.asks) gains.is_more;
  nodes = gained_nodes a b s v gains;
}

-- ---- a node

pub evidence_logged : (a b : AskerLists) (s : Limited) (e : Evidence) (r : Result Bool NoMemory)
    → IsEvidence a.ontology a.query a.gained e → IfOk r (LogsNode a b s) → OnErr r (b ≡ a)
    → IsEvidence b.ontology b.query b.gained e
evidence_logged a b s e (Ok true) h logs same =
    subst (λ (x : AskerLists). IsEvidence x.ontology x.query x.gained e) (sym logs)
    (evidence_with_node a.ontology a.query a.gained e h s)
evidence_logged a b s e (Ok false) h logs same =
    subst (λ (x : AskerLists). IsEvidence x.ontology x.query x.gained e) (sym logs) h
evidence_logged a b s e (Err x) h logs same =
    subst (λ (x : AskerLists). IsEvidence x.ontology x.query x.gained e) (sym same) h

-- ---- none

pub evidence_begun : (a : AskerLists) (e : Evidence) → a.gained ≡ [] → e.refutations.items ≡ [] → e.models.items ≡ []
    → IsEvidence a.ontology a.query a.gained e
evidence_begun a e none rs ms = record {
  are_shown = record {
    refuted = λ r at. absurd (omega (arith, (subst (λ (xs : List RefutationLists). Contains xs r) rs at).1));
    modelled = λ m at. absurd (omega (arith, (subst (λ (xs : List CounterModel). Contains xs m) ms at).1));
  };
  each_yes =
      λ s p steps u at. absurd
      (omega (arith, (subst (λ (log : List Entry). Contains log (Test s p steps (E.Yes u))) none at).1));
  each_no =
      λ s p steps at. absurd
      (omega (arith, (subst (λ (log : List Entry). Contains log (Test s p steps E.No)) none at).1));
}

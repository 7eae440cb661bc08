-- What an answer says, and what it leaves as it is.
use Rattle.std.proofs.Common.{◌≡◌, ◌⊎◌, ℕ, ◌+◌, Bool, true, false, List, [], ◌∷◌, ◌++◌, length, refl, ap, sym, ◌∙◌}
use Rattle.std.proofs.Common.{subst, arith, inl, inr}
use Rattle.std.specs.Prelude.{◌||◌, Option, None, Some, Result, Ok, Err, OnErr}
use Rattle.std.specs.Cmp.{nat_cmp_total}
use Rattle.std.specs.FinSet as set
use Rattle.std.specs.List.{All, Contains, list_any}
use Rattle.std.proofs.Math.Bool.{or-false}
use Rattle.std.proofs.lemmas.Bool.{and_parts, and_from}
use Rattle.std.proofs.lemmas.List.Elements.{All-contains, All-weaker, All-contains_itself, Contains-append_left}
use Rattle.std.proofs.lemmas.List.Folds.{list_any-append}
use Rattle.std.proofs.lemmas.List.Sums.{sum_by-append}
use Rattle.lane_sieve.specs.Sets.{NumberSet, IsPart}
use Rattle.axiom_sets.specs.Sets.{Limited}
use Rattle.axiom_sets.proofs.Same.{same_limited}
use Rattle.shq_terms.specs.Listed.{Listed}
use Rattle.shq_terms.specs.NoMemory.{NoMemory}
use Rattle.shq_terms.specs.declared.axioms.Query.{Query}
use Rattle.set_questions.specs.Meaning.{Keeps}
use Rattle.set_questions.specs.Asked.{Answers, IsUnknownIf, ShowsNoOther, AsksInBudget}
use Rattle.set_questions.specs.declared.entail.Reply.{Reply}
use Rattle.set_questions.specs.declared.entail.Reply.TheVariants.{Yes, No, Spent}
use Rattle.pinpointing_specs.proofs.Grown.{grows}
use Rattle.pinpointing_specs.proofs.Kept.{intersection_part}
use Rattle.shq_oracle.specs.Entry.{Entry}
use Rattle.shq_oracle.specs.Entry.TheVariants.{Test, Node}
use Rattle.shq_oracle.specs.TestEnd.{TestEnd}
use Rattle.shq_oracle.specs.TestEnd.TheVariants as E
use Rattle.shq_oracle.specs.Entries.{cost_of, spent_of, is_spent, ended_spent, AnswersQuery, IsAnswered}
use Rattle.shq_oracle.specs.HonestLog.{IsHonestEntry, EachIsHonest, IsTestOf, FollowsIn}
use Rattle.shq_oracle.specs.Shown.{IsShownYes}
use Rattle.shq_oracle.specs.Decided.{EndsAs}
use Rattle.shq_oracle.specs.declared.answer.Outcome.{Outcome}
use Rattle.shq_oracle.specs.declared.answer.Outcome.TheVariants as Found
use Rattle.shq_oracle.proofs.Named.{follows_from}
use Rattle.query_asker.specs.AskerLists.{AskerLists}
use Rattle.query_asker.specs.Told.{IsShownNoIn, asker_meaning, IsAskerLog, part_in, IsUnknown}
use Rattle.query_asker.specs.Memory.{yes_of, no_of, yes_sets, no_sets, Recalls}
use Rattle.query_asker.specs.Asking.{IsLocalPart, IsRecalled, IsLater, reply_of}
use Rattle.query_asker.specs.Deciding.{GainsTest}
use Rattle.query_asker.proofs.Remembered.{of_log, found_yes, found_no, one_member}

-- ---- what was shown stays shown

yes_still : (log more : List Entry) (q : Query) (s : NumberSet) → IsShownYes log q s → IsShownYes (log ++ more) q s
yes_still log more q s h = record {
  tested = h.tested;
  steps = h.steps;
  enough = h.enough;
  is_yes = Contains-append_left log more _ h.is_yes;
  is_set = h.is_set;
}

no_still : (log more : List Entry) (q : Query) (m s : NumberSet) → IsShownNoIn log q m s
    → IsShownNoIn (log ++ more) q m s
no_still log more q m s h = record {
  tested = h.tested;
  steps = h.steps;
  is_no = Contains-append_left log more _ h.is_no;
  has_part = h.has_part;
}

abbrev with_more : AskerLists → List Entry → ℕ → AskerLists
with_more a more asks = record {
  ontology = a.ontology;
  query = a.query;
  budget = a.budget;
  local_part = a.local_part;
  before = a.before;
  gained = a.gained ++ more;
  asks = asks;
}

keeps_more : (a : AskerLists) (more : List Entry) (asks : ℕ)
    → Keeps (asker_meaning a) (asker_meaning (with_more a more asks))
keeps_more a more asks =
    let spent : spent_of (a.before ++ (a.gained ++ more)) ≡ spent_of a.before + (spent_of a.gained + spent_of more) =
    sum_by-append cost_of a.before (a.gained ++ more)
    ∙ ap (λ (n : ℕ). spent_of a.before + n) (sum_by-append cost_of a.gained more) in
    record {
      same_size = refl;
      same_question = λ s. (λ h. h, λ h. h);
      left_falls = omega (arith, spent, sum_by-append cost_of a.before a.gained);
      keeps_yes = λ s h. yes_still a.gained more a.query s h;
      keeps_no = λ s h. no_still a.gained more a.query a.local_part s h;
    }

pub keeps_later : (old new : AskerLists) → IsLater old new → Keeps (asker_meaning old) (asker_meaning new)
keeps_later old new later =
    subst (λ (a : AskerLists). Keeps (asker_meaning old) (asker_meaning a)) (sym later.is_more)
    (keeps_more old later.more new.asks)

-- ---- an answer about the local part of a set is one about the set

pub lifted : (a : AskerLists) (s p : Limited) (answer : Reply) → IsLocalPart a s p → Answers (asker_meaning a) p answer
    → Answers (asker_meaning a) s answer
lifted a s p (Yes u) local_part h = (
  h.0 ∙ local_part.limit,
  λ k x. intersection_part s.members a.local_part k
      (subst (λ (m : NumberSet). set.contains m k ≡ true) local_part.members (h.1 k x)),
  h.2,
  h.3,
)
lifted a s p No local_part h = (
  λ f. h.0 (local_part.keeps f),
  record {
    tested = h.1.tested;
    steps = h.1.steps;
    is_no = h.1.is_no;
    has_part = λ k in_s in_m. h.1.has_part k
        (subst (λ (m : NumberSet). set.contains m k ≡ true) (sym local_part.members)
        (set.contains-intersection nat_cmp_total s.members a.local_part k
        ∙ and_from (set.contains s.members k) (set.contains a.local_part k) in_s in_m))
        in_m;
  },
)
lifted a s p Spent local_part h = h

-- ---- what the log says

module _ (a : AskerLists) (is_log : IsAskerLog a) (s : Limited) where
  -- a yes is one
  pub yes_by_log : (asked : Limited) (q : Query) (steps : ℕ) (u : Limited)
      → Contains a.gained (Test asked q steps (E.Yes u)) → s.limit ≡ length a.ontology.axioms
      → IsPart u.members s.members
      → Answers (asker_meaning a) s (Yes u)
  yes_by_log asked q steps u at limit part =
      let honest = All-contains (IsHonestEntry a.ontology) a.gained (Test asked q steps (E.Yes u)) is_log.honest at in
      let same : q ≡ a.query =
      All-contains (IsTestOf a.query) a.gained (Test asked q steps (E.Yes u)) is_log.tests at in
      let follows : FollowsIn a.ontology u a.query = subst (FollowsIn a.ontology u) same honest.1.follows in (
        honest.1.of_axioms.limit_is ∙ sym limit,
        part,
        (follows_from a.ontology u a.query honest.1.of_axioms).0 follows,
        record {
          tested = asked;
          steps = steps;
          enough = u;
          is_yes = subst (λ (p : Query). Contains a.gained (Test asked p steps (E.Yes u))) same at;
          is_set = refl;
        },
      )

  -- and so is a no
  pub no_by_log : (tested : Limited) (q : Query) (steps : ℕ) → Contains a.gained (Test tested q steps E.No)
      → IsPart s.members tested.members → Answers (asker_meaning a) s No
  no_by_log tested q steps at part =
      let honest = All-contains (IsHonestEntry a.ontology) a.gained (Test tested q steps E.No) is_log.honest at in
      let same : q ≡ a.query = All-contains (IsTestOf a.query) a.gained (Test tested q steps E.No) is_log.tests at in (
        λ f. honest.1.follows_not
            (subst (FollowsIn a.ontology tested) (sym same)
            ((follows_from a.ontology tested a.query honest.0).1
            (grows a.ontology.axioms a.query s.members tested.members part f))),
        record {
          tested = tested;
          steps = steps;
          is_no = subst (λ (p : Query). Contains a.gained (Test tested p steps E.No)) same at;
          has_part = λ k in_s in_m. part k in_s;
        },
      )

  not_answered : Recalls a.gained s None → (e : Entry) → Contains a.gained e → AnswersQuery e s a.query → ⊥
  not_answered h (Test t q steps (E.Yes u)) at answers =
      h.0 u (of_log yes_of a.gained (Test t q steps (E.Yes u)) u at (one_member u)) answers.1
  not_answered h (Test t q steps E.No) at answers =
      h.1 (t, of_log no_of a.gained (Test t q steps E.No) t at (one_member t), answers.1)
  not_answered h (Test t q steps (E.Spent x)) at answers = answers.1
  not_answered h (Node t) at answers = answers

  pub recalled : s.limit ≡ length a.ontology.axioms → (answer : Option Reply) → Recalls a.gained s answer
      → IsRecalled a s answer
  recalled limit None h = λ found. not_answered h found.0 found.1 found.2
  recalled limit (Some (Yes u)) h =
      let f = found_yes a.gained u h.0 in yes_by_log f.asked f.query f.steps u f.is_test limit h.1
  recalled limit (Some No) h = let f = found_no a.gained h.0 h.1 in no_by_log h.0 f.query f.steps f.is_test h.2
  recalled limit (Some Spent) h = h

-- ---- one ask

-- an answer does not depend on the count of asks
pub answers_counted : (a b : AskerLists) (asks : ℕ) (s : Limited) (answer : Reply)
    → b ≡ record {
      ontology = a.ontology;
      query = a.query;
      budget = a.budget;
      local_part = a.local_part;
      before = a.before;
      gained = a.gained;
      asks = asks;
    }
    → Answers (asker_meaning a) s answer → Answers (asker_meaning b) s answer
answers_counted a b asks s answer e h =
    subst (λ (d : AskerLists). Answers (asker_meaning d) s answer) (sym e) (by_answer answer h)
  where
    by_answer : (x : Reply) → Answers (asker_meaning a) s x
        → Answers
        (asker_meaning (record {
          ontology = a.ontology;
          query = a.query;
          budget = a.budget;
          local_part = a.local_part;
          before = a.before;
          gained = a.gained;
          asks = asks;
        }))
        s x
    by_answer (Yes u) k = k
    by_answer No k = k
    by_answer Spent k = k

-- what the log answers is so, and is no want of budget
pub known_is : (a : AskerLists) (p : Limited) (o : Option Reply) (known : Reply) → o ≡ Some known → IsRecalled a p o
    → Answers (asker_meaning a) p known
known_is a p o (Yes u) e h = subst (IsRecalled a p) e h
known_is a p o No e h = subst (IsRecalled a p) e h
known_is a p o Spent e h = absurd (subst (IsRecalled a p) e h)

pub known_answers : (a b : AskerLists) (s p : Limited) (o : Option Reply) (known : Reply) → o ≡ Some known
    → IsRecalled a p o → IsUnknown b s known
known_answers a b s p o (Yes u) e h = tt
known_answers a b s p o No e h = tt
known_answers a b s p o Spent e h = absurd (subst (IsRecalled a p) e h)

pub new_if_none : (a : AskerLists) (p : Limited) (o : Option Reply) → ((known : Reply) → ¬ (o ≡ Some known))
    → IsRecalled a p o → ¬ IsAnswered a.gained p a.query
new_if_none a p None not_some h = h
new_if_none a p (Some known) not_some h = absurd (not_some known refl)

pub local_inside : (a : AskerLists) (s p : Limited) → IsLocalPart a s p → IsPart p.members a.local_part
local_inside a s p h k x =
    (and_parts (set.contains s.members k) (set.contains a.local_part k)
    (sym (set.contains-intersection nat_cmp_total s.members a.local_part k)
    ∙ subst (λ (m : NumberSet). set.contains m k ≡ true) h.members x)).1

pub local_later : (old new : AskerLists) (s p : Limited) → IsLater old new → IsLocalPart old s p → IsLocalPart new s p
local_later old new s p later h = subst (λ (a : AskerLists). IsLocalPart a s p) (sym later.is_more)
    (record { limit = h.limit; members = h.members; keeps = h.keeps })

-- the local part of a set is the set's part
part_is : (a : AskerLists) (s p : Limited) → IsLocalPart a s p → p ≡ part_in a s
part_is a s p h = same_limited p (part_in a s) h.limit h.members

pub unknown_whole : (a : AskerLists) (s p : Limited) → IsLocalPart a s p → (reply : Reply) → IsUnknown a p reply
    → IsUnknown a (part_in a s) reply
unknown_whole a s p h (Yes u) unknown = tt
unknown_whole a s p h No unknown = tt
unknown_whole a s p h Spent unknown = subst (λ (t : Limited). ¬ IsAnswered a.gained t a.query) (part_is a s p h) unknown

-- the same of the set's numbers
pub left_out : (a : AskerLists) (s : Limited) → s.limit ≡ length a.ontology.axioms → (reply : Reply)
    → IsUnknown a (part_in a s) reply → IsUnknownIf (asker_meaning a) s reply
left_out a s limit (Yes u) unknown = tt
left_out a s limit No unknown = tt
left_out a s limit Spent unknown =
    subst
    (λ (n : ℕ). ¬ IsAnswered a.gained (record { limit = n; members = set.intersection s.members a.local_part }) a.query)
    limit unknown

-- an answer from the log shows nothing
pub shows_counted : (a b : AskerLists) (asks : ℕ) (answer : Reply)
    → b ≡ record {
      ontology = a.ontology;
      query = a.query;
      budget = a.budget;
      local_part = a.local_part;
      before = a.before;
      gained = a.gained;
      asks = asks;
    }
    → ShowsNoOther (asker_meaning a) (asker_meaning b) answer
shows_counted a b asks answer e =
    by_answer answer
  where
    before : (s : NumberSet) → (asker_meaning b).shown_yes s → (asker_meaning a).shown_yes s
    before s h = subst (λ (d : AskerLists). (asker_meaning d).shown_yes s) e h

    by_answer : (x : Reply) → ShowsNoOther (asker_meaning a) (asker_meaning b) x
    by_answer (Yes u) = λ s h. inl (before s h)
    by_answer No = before
    by_answer Spent = before

-- ---- limits

pub yes_limits : (o : Listed) (log : List Entry) (n : ℕ) → n ≡ length o.axioms → EachIsHonest o log
    → All (λ s. s.limit ≡ n) (yes_sets log)
yes_limits o log n e honest =
    All-weaker (Contains (yes_sets log)) (λ s. s.limit ≡ n)
    (λ s at.
    let f = found_yes log s at in
    (All-contains (IsHonestEntry o) log (Test f.asked f.query f.steps (E.Yes s)) honest f.is_test).1.of_axioms.limit_is
    ∙ sym e)
    (yes_sets log) (All-contains_itself (yes_sets log))

pub no_limits : (o : Listed) (log : List Entry) (n : ℕ) → n ≡ length o.axioms → EachIsHonest o log
    → All (λ s. s.limit ≡ n) (no_sets log)
no_limits o log n e honest =
    All-weaker (Contains (no_sets log)) (λ s. s.limit ≡ n)
    (λ s at.
    let f = found_no log s at in
    (All-contains (IsHonestEntry o) log (Test s f.query f.steps E.No) honest f.is_test).0.limit_is ∙ sym e)
    (no_sets log) (All-contains_itself (no_sets log))

-- ---- the budget

-- one entry more, which is no test that ended because the budget was spent
pub unspent_with : (log : List Entry) (e : Entry) → is_spent e ≡ false
    → list_any is_spent (log ++ e ∷ []) ≡ list_any is_spent log
unspent_with log e unspent =
    list_any-append is_spent log (e ∷ [])
    ∙ ap (λ (b : Bool). list_any is_spent log || (b || false)) unspent
    ∙ or-false (list_any is_spent log)

unspent_end : (v : Outcome) (d : TestEnd) → EndsAs v d → (v ≡ Found.Undecided) ⊎ (ended_spent d ≡ false)
unspent_end (Found.Yes x) (E.Yes u) m = inr refl
unspent_end (Found.Yes x) E.No m = absurd m
unspent_end (Found.Yes x) (E.Spent t) m = absurd m
unspent_end Found.No (E.Yes u) m = absurd m
unspent_end Found.No E.No m = inr refl
unspent_end Found.No (E.Spent t) m = absurd m
unspent_end Found.Undecided d m = inl refl

module _ (old new : AskerLists) (s : Limited) (v : Outcome) (gains : GainsTest old new s v) where
  decided_unspent : ¬ (v ≡ Found.Undecided) → list_any is_spent new.gained ≡ list_any is_spent old.gained
  decided_unspent decided =
      ap (λ (a : AskerLists). list_any is_spent a.gained) gains.is_more ∙ (elim gains.is_test [
        | inl t ↦
            let unspent : ended_spent t.ended ≡ false =
            elim (unspent_end v t.ended t.matches) [ inl spent ↦ absurd (decided spent) | inr e ↦ e ] in
            ap (λ (more : List Entry). list_any is_spent (old.gained ++ more)) t.is_more
            ∙ unspent_with old.gained (Test s old.query t.steps t.ended) unspent
        | inr none ↦ absurd (decided none.1)
      ])

-- a test that decides has not ended because the budget was spent
pub tested_in_budget : (old new : AskerLists) (s : Limited) (v : Outcome) → GainsTest old new s v
    → AsksInBudget (asker_meaning old) (asker_meaning new) (reply_of v)
tested_in_budget old new s (Found.Yes x) gains = decided_unspent old new s (Found.Yes x) gains (λ e. absurd (cc e))
tested_in_budget old new s Found.No gains = decided_unspent old new s Found.No gains (λ e. absurd (cc e))
tested_in_budget old new s Found.Undecided gains = tt

-- where memory is refused, nothing has changed
pub still_in_budget : {T : Type 0} (old new : AskerLists) (r : Result T NoMemory) → OnErr r (new ≡ old)
    → OnErr r ((asker_meaning new).ran_out ≡ (asker_meaning old).ran_out)
still_in_budget old new (Ok x) same = tt
still_in_budget old new (Err e) same = ap (λ (a : AskerLists). list_any is_spent a.gained) same

-- From what an object answered that keeps evidence to what a search found.
use Rattle.std.proofs.Common.{◌≡◌, ℕ, ◌+◌, ◌*◌, ◌^◌, ◌<◌, ◌≤◌, true, false, List, [], ◌++◌, length, Result, Ok, Err, ap}
use Rattle.std.proofs.Common.{refl, sym}
use Rattle.std.proofs.Common.{◌∙◌, subst, arith, inr}
use Rattle.std.specs.Prelude.{IfOk, OnErr}
use Rattle.std.specs.Result.{result_map_both}
use Rattle.std.specs.List.{Contains, list_any}
use Rattle.std.specs.FinSet as set
use Rattle.std.proofs.lemmas.List.Elements.{All-contains}
use Rattle.lane_sieve.specs.Sets.{NumberSet, IsPart}
use Rattle.axiom_sets.specs.Sets.{Limited}
use Rattle.axiom_sets.proofs.Same.{same_limited}
use Rattle.pinpointing_specs.specs.Smallest.{numbers_to}
use Rattle.pinpointing_specs.specs.LocalModule.{FollowsFrom, of_axioms, IsJustification, IsRepair}
use Rattle.pinpointing_specs.proofs.Choices.{in_difference, to_rest}
use Rattle.pinpointing_specs.proofs.Explored.{removal_is_leaf}
use Rattle.pinpointing_specs.proofs.Grown.{grows}
use Rattle.set_questions.proofs.Rest.{numbers_within}
use Rattle.pinpointing_jobs.specs.TreeFound.{Found}
use Rattle.pinpointing_jobs.specs.Found.{IsFound, ListsAllShown, HasTree}
use Rattle.pinpointing_jobs.specs.Open.{AsksFew}
use Rattle.pinpointing_jobs.specs.Tree.{LooksInBudget}
use Rattle.shq_terms.specs.Listed.{Listed}
use Rattle.shq_terms.specs.NoMemory.{NoMemory}
use Rattle.shq_terms.specs.declared.axioms.Query.{Query as Asked}
use Rattle.run_log.specs.declared.entry.Entry.{Entry}
use Rattle.run_log.specs.declared.entry.Entry.TheVariants.{Test}
use Rattle.run_log.specs.declared.entry.TestEnd.TheVariants as E
use Rattle.run_log.specs.Entries.{spent_of, nodes_of, is_spent}
use Rattle.run_log.specs.HonestLog.{IsHonestEntry, IsJustificationSet, AreTreeNodes}
use Rattle.pinpointing_jobs.specs.OracleLists.{OracleLists}
use Rattle.run_log.specs.Shown.{IsShownYes, IsShownNo}
use Rattle.pinpointing_jobs.specs.AskerLists.{AskerLists, origin_of}
use Rattle.pinpointing_jobs.specs.Told.{KeepsAnswers, asker_meaning, IsAskerLog}
use Rattle.pinpointing_jobs.proofs.Local.{all_keep}
use Rattle.pinpointing_jobs.proofs.Searched.{left_at_first, spent_both, budget_kept, few, just, tree, fresh, made_fresh}
use Rattle.pinpointing_jobs.proofs.Searched.{IsMadeOf, is_made_of, left_is, asks_few, along, all_shown, leaves_open}
use Rattle.audit_jobs.specs.declared.evidence.Evidence.{Evidence}
use Rattle.audit_jobs.specs.declared.searching.Searched.{Searched}
use Rattle.audit_jobs.specs.Kept.{HasRefutation, IsEvidence}
use Rattle.audit_jobs.specs.Witnessed.{IsEvidenceLog, HasAsked, HasModelOutside, IsOfAll, IsCutShort, IsSearched}
use Rattle.audit_jobs.specs.Witnessed.{ShowsEvidence, IsUnspentLog}

-- ---- the evidence of what was shown

module _ (a : AskerLists) (f : Found) (e : Evidence) (is_log : IsAskerLog a) (found : IsFound (asker_meaning a) f)
    (evidence : IsEvidence a.ontology a.query a.gained e) where
  refuted : (j : Limited) → Contains f.justifications.items j → HasRefutation e.refutations.items j
  refuted j listed =
      let shown = found.shown_yes j listed in
      let has = evidence.each_yes shown.tested a.query shown.steps shown.enough shown.is_yes in
      let honest =
      All-contains (IsHonestEntry a.ontology) a.gained (Test shown.tested a.query shown.steps (E.Yes shown.enough))
      is_log.honest shown.is_yes in (
        has.0,
        has.1,
        has.2
            ∙ same_limited shown.enough j (honest.1.of_axioms.limit_is ∙ sym (found.just_limits j listed)) shown.is_set,
      )

  modelled : a.local_part ≡ numbers_to (length a.ontology.axioms) → (l : Limited) → Contains f.leaves.items l
      → HasModelOutside e.models.items l
  modelled whole l listed =
      let shown = found.shown_no l listed in
      let has = evidence.each_no shown.tested a.query shown.steps shown.is_no in (
        has.0,
        has.1,
        λ k h.
            let inside : set.contains (numbers_to l.limit) k ≡ true =
            (in_difference (numbers_to l.limit) l.members k h).0 in
            let in_part : set.contains a.local_part k ≡ true =
            ap (λ (s : NumberSet). set.contains s k) whole
            ∙ ap (λ (n : ℕ). set.contains (numbers_to n) k) (sym (found.leaf_limits l listed)) ∙ inside in
            ap (λ (s : Limited). set.contains s.members k) has.2 ∙ shown.has_part k h in_part,
      )

-- ---- the log

module _ (a : AskerLists) (is_log : IsAskerLog a)
    (asked : a.asks ≤ (length a.ontology.axioms + 1) * length (nodes_of a.gained))
    (small : length a.ontology.axioms ≤ 20000) (budget_small : a.budget < 2 ^ 32) where
  honest_by : AreTreeNodes a.ontology a.query a.gained → IsEvidenceLog a.ontology a.query (left_at_first a) a.gained
  honest_by nodes = record {
    budget_kept = budget_kept a is_log;
    tests = is_log.tests;
    new = is_log.new;
    nodes = nodes;
    few = few a is_log asked small budget_small;
  }

module _ (a : AskerLists) (s : Searched) (is_log : IsAskerLog a) (found : IsFound (asker_meaning a) s.found)
    (evidence : IsEvidence a.ontology a.query a.gained s.evidence)
    (whole : a.local_part ≡ numbers_to (length a.ontology.axioms))
    (asked : a.asks ≤ (length a.ontology.axioms + 1) * length (nodes_of a.gained))
    (small : length a.ontology.axioms ≤ 20000) (budget_small : a.budget < 2 ^ 32)
    (begun : AskerLists) (fresh_log : begun.gained ≡ [])
    (lists : ListsAllShown (asker_meaning begun) (asker_meaning a) s.found)
    (in_budget : LooksInBudget (asker_meaning begun) (asker_meaning a) s.found.finished) where
  keep : KeepsAnswers a.ontology.axioms a.query a.local_part
  keep = subst (KeepsAnswers a.ontology.axioms a.query) (sym whole) (all_keep a.ontology.axioms a.query)

  in_each : (m : NumberSet) → IsOfAll a.ontology m → IsPart a.local_part m
  in_each m is k h = ap (λ (t : NumberSet). set.contains t k) (is ∙ sym whole) ∙ h

  found_just : (j : Limited) → Contains s.found.justifications.items j → IsJustificationSet a.ontology a.query j
  found_just = just a s.found.justifications.items found.just_limits found.smallest

  cut : s.found.finished ≡ false → IsCutShort a.ontology a.query a.gained
  cut unfinished = record {
    found = s.found.justifications.items;
    justifications = found_just;
    known = record {
      tree = found.nodes;
      shown = all_shown a is_log keep (IsOfAll a.ontology) in_each s.found found begun fresh_log lists;
      left_open = leaves_open a is_log keep (IsOfAll a.ontology) in_each s.found found unfinished;
    };
  }

  -- ---- a finished search

  leaf_of : s.found.finished ≡ true → (r : NumberSet) → IsRepair a.ontology.axioms a.query r
      → Contains s.found.leaves.items (of_axioms a.ontology.axioms r)
  leaf_of finished r x =
      removal_is_leaf (FollowsFrom a.ontology.axioms a.query) (length a.ontology.axioms) s.found.justifications.items
      s.found.leaves.items (grows a.ontology.axioms a.query) (found.explored finished) (of_axioms a.ontology.axioms r)
      refl x

  yes_shown : s.found.finished ≡ true → (j : NumberSet) → IsJustification a.ontology.axioms a.query j
      → IsShownYes a.gained a.query j
  yes_shown finished j x =
      let j' = of_axioms a.ontology.axioms j in found.shown_yes j' (found.all finished j' refl x)

  no_shown : s.found.finished ≡ true → (r : NumberSet) → IsRepair a.ontology.axioms a.query r
      → IsShownNo a.gained a.query (numbers_to (length a.ontology.axioms)) r
  no_shown finished r x =
      let r' = of_axioms a.ontology.axioms r in
      let shown = found.shown_no r' (leaf_of finished r x) in
      record {
        tested = shown.tested;
        steps = shown.steps;
        is_no = shown.is_no;
        has_rest =
            λ k in_all out.
            let inside = numbers_within (length a.ontology.axioms) k in_all in
            shown.has_part k (to_rest r' k inside.0 inside.1 out)
            (ap (λ (t : NumberSet). set.contains t k) whole ∙ in_all);
      }

  shows : s.found.finished ≡ true → ShowsEvidence a.ontology a.query a.gained
  shows finished = record {
    justifications = yes_shown finished;
    repairs = no_shown finished;
    taken = λ r x. found.leaf_taken (of_axioms a.ontology.axioms r) (leaf_of finished r x);
  }

  unspent : s.found.finished ≡ true → list_any is_spent a.gained ≡ false
  unspent finished =
      let same : (asker_meaning a).ran_out ≡ (asker_meaning begun).ran_out =
      subst (LooksInBudget (asker_meaning begun) (asker_meaning a)) finished in_budget in
      same ∙ ap (list_any is_spent) fresh_log

  searched : IsSearched a.ontology a.query (left_at_first a) a.gained s
  searched = record {
    honest =
        honest_by a is_log asked small budget_small
        (tree a s.found.justifications.items found.just_limits found.smallest found.nodes);
    witnessed = record {
      order = found.order;
      justifications = found_just;
      limits = found.limits;
      are_shown = evidence.are_shown;
      refuted = refuted a s.found s.evidence is_log found evidence;
      modelled = modelled a s.found s.evidence is_log found evidence whole;
      explored = found.explored;
    };
    shown = shows;
    unspent = unspent;
    spent = λ unfinished. omega (arith, found.spent unfinished, is_log.within, spent_both a is_log);
    cut_short = cut;
  }

-- ---- of what a call answers

abbrev with_evidence : Evidence → Found → Searched
with_evidence e f = record { found = f; evidence = e }

-- one that asks among all axioms
pub all_fresh : (o : Listed) (q : Asked) (budget : ℕ) (oracle : OracleLists) (log : List Entry) (begun : AskerLists)
    → begun ≡ record {
      ontology = oracle.ontology;
      query = q;
      budget = oracle.budget;
      local_part = numbers_to (length oracle.ontology.axioms);
      before = oracle.log;
      gained = [];
      asks = 0;
    }
    → oracle ≡ record { ontology = o; budget = budget; log = log } → log ≡ []
    → begun ≡ fresh o q budget (numbers_to (length o.axioms)) []
all_fresh o q budget oracle log begun made is none =
    made_fresh o q budget (numbers_to (length o.axioms)) [] oracle begun
    (made ∙ ap
    (λ (x : OracleLists). record {
      ontology = oracle.ontology;
      query = q;
      budget = oracle.budget;
      local_part = numbers_to (length x.ontology.axioms);
      before = oracle.log;
      gained = [];
      asks = 0;
    })
    is)
    (is ∙ ap (λ (l : List Entry). record { ontology = o; budget = budget; log = l }) none)

module _ (o : Listed) (q : Asked) (budget : ℕ) (begun ended : AskerLists) (log : List Entry)
    (made : begun ≡ fresh o q budget (numbers_to (length o.axioms)) []) (same : origin_of ended ≡ origin_of begun)
    (is_log : IsAskerLog ended)
    (log_is : log ≡ ended.before ++ ended.gained) where
  of : IsMadeOf o q budget (numbers_to (length o.axioms)) [] ended
  of = is_made_of o q budget (numbers_to (length o.axioms)) [] ended (same ∙ ap origin_of made)

  logged : ended.gained ≡ log
  logged = sym (ap (λ (l : List Entry). l ++ ended.gained) of.before_is) ∙ sym log_is

  left : left_at_first ended ≡ budget
  left = left_is o q budget (numbers_to (length o.axioms)) [] ended of ∙ omega arith

  pub all_begun : length o.axioms ≤ 20000 → budget < 2 ^ 32 → (e : Evidence) (r : Result Found NoMemory)
      → OnErr r (HasTree (asker_meaning ended))
      → OnErr r ((asker_meaning ended).ran_out ≡ (asker_meaning begun).ran_out)
      → AsksFew (length ended.ontology.axioms) (asker_meaning begun) (asker_meaning ended)
      → OnErr (result_map_both (with_evidence e) (λ (x : NoMemory). x) r) (HasAsked o q budget log)
  all_begun small budget_small e (Ok f) begun_tree ran_out asked = tt
  all_begun small budget_small e (Err x) begun_tree ran_out asked =
      let count : length ended.ontology.axioms ≡ length o.axioms = ap (λ (l : Listed). length l.axioms) of.ontology in
      inr (record {
        honest =
            along IsEvidenceLog ended.ontology o ended.query q (left_at_first ended) budget ended.gained log of.ontology
            of.query left logged
            (honest_by ended is_log (asks_few o q budget (numbers_to (length o.axioms)) [] begun ended made asked)
            (omega (arith, small, count)) (omega (arith, budget_small, of.budget_is))
            (tree ended begun_tree.labels begun_tree.limits begun_tree.smallest begun_tree.nodes));
        unspent =
            ap (list_any is_spent) (sym logged) ∙ ran_out ∙ ap (λ (a : AskerLists). list_any is_spent a.gained) made;
      })

  pub all_searched : (e : Evidence) → IsEvidence ended.ontology ended.query ended.gained e → length o.axioms ≤ 20000
      → budget < 2 ^ 32 → (r : Result Found NoMemory) → IfOk r (IsFound (asker_meaning ended))
      → IfOk r (ListsAllShown (asker_meaning begun) (asker_meaning ended))
      → IfOk r (λ (f : Found). LooksInBudget (asker_meaning begun) (asker_meaning ended) f.finished)
      → AsksFew (length ended.ontology.axioms) (asker_meaning begun) (asker_meaning ended)
      → IfOk (result_map_both (with_evidence e) (λ (x : NoMemory). x) r) (IsSearched o q budget log)
  all_searched e evidence small budget_small (Err x) found lists in_budget few = tt
  all_searched e evidence small budget_small (Ok f) found lists in_budget few =
      let count : length ended.ontology.axioms ≡ length o.axioms = ap (λ (l : Listed). length l.axioms) of.ontology in
      let s : Searched = with_evidence e f in
      along (λ l k n es. IsSearched l k n es s) ended.ontology o ended.query q (left_at_first ended) budget ended.gained
      log of.ontology of.query left logged
      (searched ended s is_log found evidence (of.local_part ∙ ap numbers_to (sym count))
      (asks_few o q budget (numbers_to (length o.axioms)) [] begun ended made few) (omega (arith, small, count))
      (omega (arith, budget_small, of.budget_is)) begun (ap (λ (x : AskerLists). x.gained) made) lists
      in_budget)

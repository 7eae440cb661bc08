-- The audit of what a finished search found is sound.
use Rattle.std.proofs.Common.{◌≡◌, ℕ, ◌+◌, ◌<◌, ◌≤◌, Bool, true, false, ◌||◌, List, [], ◌∷◌, length, map, get_or, refl}
use Rattle.std.proofs.Common.{ap, sym, ◌∙◌, subst, arith, inl, inr}
use Rattle.std.specs.Prelude.{if◌then◌else◌, IsTrue}
use Rattle.std.specs.FinSet as set
use Rattle.std.specs.List.{All, Contains, list_all}
use Rattle.std.proofs.lemmas.Bool.{cases_Bool, cases_eq, true≢false, and_parts, and_from}
use Rattle.std.proofs.lemmas.List.{length-map, get_or-map}
use Rattle.std.proofs.lemmas.List.Elements.{Contains-get_or}
use Rattle.std.proofs.lemmas.List.Sums.{list_all-from_AllPass}
use Rattle.lane_sieve.specs.Sets.{NumberSet, IsPart}
use Rattle.axiom_sets.specs.Sets.{Limited}
use Rattle.axiom_sets.proofs.Same.{set_of_parts, same_limited}
use Rattle.pinpointing_specs.specs.LocalModule.{FollowsFrom, axioms_from, axioms_in_set}
use Rattle.pinpointing_specs.specs.Smallest.{numbers_to, rest, without, MeetsEach}
use Rattle.pinpointing_specs.proofs.Choices.{part_or_more, meet_or_apart, in_difference, to_difference, to_rest}
use Rattle.pinpointing_specs.proofs.Choices.{to_without}
use Rattle.pinpointing_specs.proofs.Grown.{grows}
use Rattle.pinpointing_jobs.specs.TreeFound.{Found}
use Rattle.shq_terms.specs.Listed.{Listed}
use Rattle.shq_terms.specs.declared.axioms.Numbered.{Numbered}
use Rattle.shq_terms.specs.declared.axioms.Query.{Query as Asked}
use Rattle.shq_meaning.specs.Truth.{Interpretation, meets, meets_all}
use Rattle.finite_model.specs.ModelLists.{meaning}
use Rattle.finite_model.specs.Written.{uses_listed_names}
use Rattle.refutation_tree.specs.ReadBack.{IsWritable}
use Rattle.refutation_tree.specs.Written.{names_are_listed}
use Rattle.run_log.specs.HonestLog.{IsJustificationSet}
use Rattle.run_log.proofs.Named.{axioms_are}
use Rattle.audit_check.specs.AuditLists.{AuditLists, repaired_sets}
use Rattle.audit_check.specs.Fitting.{IsOfAxioms, AreOfAxioms}
use Rattle.audit_check.specs.Written.{audit_is_listed}
use Rattle.audit_check.specs.Justification.{Justification}
use Rattle.audit_check.specs.Repair.{Repair}
use Rattle.audit_check.specs.Audits.{IsAntichain}
use Rattle.audit_check.specs.Transversals.{AreTransversals}
use Rattle.audit_check.specs.Sound.{IsShown, meets_rest, IsCounterModel, IsSound}
use Rattle.audit_check.proofs.Hits.{told_by_hits, smallest_hits_alone}
use Rattle.pinpointing_jobs.specs.Searched.{IsLeaf}
use Rattle.pinpointing_jobs.specs.Wanted.{IsRepairSet}
use Rattle.pinpointing_jobs.specs.Written.{AreFoundRepairs}
use Rattle.pinpointing_jobs.proofs.RepairSets.{alone_is_repair, from_repair}
use Rattle.audit_jobs.specs.declared.evidence.CounterModel.{CounterModel}
use Rattle.audit_jobs.specs.declared.evidence.Evidence.{Evidence}
use Rattle.audit_jobs.specs.Kept.{IsModelled}
use Rattle.audit_jobs.specs.Witnessed.{IsWitnessed}
use Rattle.audit_jobs.specs.Listed.{outside, HaveModels, CanBeListed, IsAuditOf}

-- ---- lists

to_map : {A B : Type 0} (f : A → B) (xs : List A) (x : A) → Contains xs x → Contains (map f xs) (f x)
to_map f xs x at =
    (at.0, subst (λ (n : ℕ). at.0 < n) (sym (length-map xs f)) at.1, get_or-map f xs at.0 x (f x) at.1 ∙ ap f at.2)

of_each : {A : Type 0} (P : A → Type 0) (xs : List A) → ((x : A) → Contains xs x → P x) → All P xs
of_each P xs each k d lt = each (get_or xs k d) (Contains-get_or xs k d lt)

-- ---- models

-- an interpretation of the axioms of a set meets all axioms but those of another set, if each axiom is in one of them
module _ (i : Interpretation) (s r : NumberSet) where
  abbrev front : Numbered → List Numbered → ℕ → Bool → Bool
  front a as_ k b = meets_all i (if b then a.axiom ∷ axioms_from (k + 1) s as_ else axioms_from (k + 1) s as_)

  later : (a : Numbered) (as_ : List Numbered) (k : ℕ) (b : Bool) → front a as_ k b ≡ true
      → meets_all i (axioms_from (k + 1) s as_) ≡ true
  later a as_ k true met = (and_parts (meets i a.axiom) (meets_all i (axioms_from (k + 1) s as_)) met).1
  later a as_ k false met = met

  first : (a : Numbered) (as_ : List Numbered) (k : ℕ) → front a as_ k true ≡ true → meets i a.axiom ≡ true
  first a as_ k met = (and_parts (meets i a.axiom) (meets_all i (axioms_from (k + 1) s as_)) met).0

  met_or_out : (a : Numbered) (as_ : List Numbered) (k : ℕ) → (set.contains r k ≡ false → set.contains s k ≡ true)
      → front a as_ k (set.contains s k) ≡ true → (b : Bool) → set.contains r k ≡ b → (b || meets i a.axiom) ≡ true
  met_or_out a as_ k in_s met true is = refl
  met_or_out a as_ k in_s met false is = first a as_ k (ap (front a as_ k) (sym (in_s is)) ∙ met)

  rest_met : (axioms : List Numbered) (k : ℕ)
      → ((n : ℕ) → k ≤ n → n < k + length axioms → set.contains r n ≡ false → set.contains s n ≡ true)
      → meets_all i (axioms_from k s axioms) ≡ true → meets_rest i k r axioms ≡ true
  rest_met [] k in_s met = refl
  rest_met (a ∷ as_) k in_s met =
      and_from (set.contains r k || meets i a.axiom) (meets_rest i (k + 1) r as_)
      (met_or_out a as_ k (in_s k (omega arith) (omega arith)) met (set.contains r k) refl)
      (rest_met as_ (k + 1) (λ n le lt. in_s n (omega (arith, le)) (omega (arith, lt)))
      (later a as_ k (set.contains s k) met))

-- what a model shows not to follow does not
follows_not : (o : Listed) (q : Asked) (m : CounterModel) → IsModelled o q m → ¬ FollowsFrom o.axioms q m.set.members
follows_not o q m is follows =
    let counter = is.refuting.refutes in
    let met : meets_all (meaning m.model) (axioms_in_set m.set.members o.axioms) ≡ true =
    ap (meets_all (meaning m.model)) (sym (axioms_are o m.set is.of_axioms)) ∙ counter.meets_axioms in
    true≢false
    (sym counter.refutes
    ∙ follows (meaning m.model) counter.has_element counter.places met counter.counter_example counter.is_element)

-- a model of the axioms outside of a repair refutes the query without the repair
counter_model : (o : Listed) (q : Asked) (r : Repair) → IsModelled o q (record { set = outside r.set; model = r.model })
    → IsCounterModel o.axioms q r
counter_model o q r is =
    let counter = is.refuting.refutes in
    let met : meets_all (meaning r.model) (axioms_in_set (rest r.set) o.axioms) ≡ true =
    ap (meets_all (meaning r.model)) (sym (axioms_are o (outside r.set) is.of_axioms)) ∙ counter.meets_axioms in
    record {
      places = counter.places;
      meets_them =
          rest_met (meaning r.model) (rest r.set) r.set.members o.axioms 1
          (λ n le lt lacks. to_rest r.set n le (omega (arith, lt, is.of_axioms.limit_is)) lacks) met;
      refutes = (counter.counter_example, counter.is_element, counter.refutes);
    }

-- ---- what was found

module _ (o : Listed) (q : Asked) (f : Found) (e : Evidence) (w : IsWitnessed o q f e.refutations.items e.models.items)
    (finished : f.finished ≡ true) where
  abbrev justifications : List Limited
  justifications = f.justifications.items

  leaf_is : (l : Limited) → Contains f.leaves.items l → IsLeaf o q l
  leaf_is l at =
      let x = w.explored finished in
      record { limit_is = x.leaf_limits l at; within = (x.ends l at).0; ends = (x.ends l at).1 }

  leaf_meets : (l : Limited) → IsLeaf o q l → MeetsEach justifications l.members
  leaf_meets l leaf j listed = elim (meet_or_apart j.members l.members) [
    | inl meet ↦ meet
    | inr apart ↦
        let just = (w.justifications j listed).is_one in
        absurd (leaf.ends (grows o.axioms q j.members (rest l) (λ k in_j.
        let inside = just.within k in_j in
        to_rest l k inside.0 (subst (λ (n : ℕ). k ≤ n) (sym leaf.limit_is) inside.1) (apart k in_j)) just.yes_set))
  ]

  -- the model of a repair is one of just the axioms outside of it
  just_outside : (r : Limited) → IsRepairSet o q r → (m : CounterModel) → IsModelled o q m
      → IsPart (rest r) m.set.members → m.set ≡ outside r
  just_outside r repair m is part =
      let limit : m.set.limit ≡ r.limit = is.of_axioms.limit_is ∙ sym repair.limit_is in
      same_limited m.set (outside r) limit (set_of_parts m.set.members (rest r) (λ k member.
      let inside = is.of_axioms.within k member in
      to_rest r k inside.0 (subst (λ (n : ℕ). k ≤ n) limit inside.1) (elim (cases_Bool (set.contains r.members k)) [
        | inl yes' ↦ absurd (follows_not o q m is (back k yes' member))
        | inr no' ↦ no'
      ])) part)
    where
      back : (k : ℕ) → set.contains r.members k ≡ true → set.contains m.set.members k ≡ true
          → FollowsFrom o.axioms q m.set.members
      back k in_r in_m =
          grows o.axioms q (rest (without r k)) m.set.members (λ n h. elim (cases_eq n k) [
            | inl same ↦ subst (λ (x : ℕ). set.contains m.set.members x ≡ true) (sym same) in_m
            | inr ne ↦
                let both = in_difference (numbers_to r.limit) (set.remove r.members k) n h in
                part n
                (to_difference (numbers_to r.limit) r.members n both.0 (elim (cases_Bool (set.contains r.members n)) [
                  | inl yes' ↦ absurd (true≢false (sym (to_without r.members k n ne yes') ∙ both.1))
                  | inr no' ↦ no'
                ]))
          ]) ((from_repair o q r repair).needed k in_r)

  have_models : (repairs : List Limited) → AreFoundRepairs f repairs → HaveModels e.models.items repairs
  have_models repairs found r at =
      let both = (found.repairs r).0 at in
      let leaf = leaf_is r both.0 in
      let has = w.modelled r both.0 in (
        (
          has.0,
          has.1,
          just_outside r (alone_is_repair o q justifications w.justifications r leaf both.1) has.0
              (w.are_shown.modelled has.0 has.1) has.2,
        ),
        leaf.within,
      )

  pub can_be_listed : CanBeListed f e
  can_be_listed = record { limits = w.limits; order = w.order; refuted = w.refuted; modelled = have_models }

  -- ---- what is listed

  justifications_apart : IsAntichain justifications
  justifications_apart s t in_s in_t part =
      let small = w.justifications s in_s in
      let great = w.justifications t in_t in
      elim (part_or_more t.members s.members) [
        | inl back ↦ same_limited s t (small.limit_is ∙ sym great.limit_is) (set_of_parts s.members t.members part back)
        | inr more ↦
            absurd (great.is_one.needed more.0 more.1
            (grows o.axioms q s.members (set.remove t.members more.0)
            (λ k h. to_without t.members more.0 k
            (λ same. true≢false (sym h ∙ ap (set.contains s.members) same ∙ more.2)) (part k h))
            small.is_one.yes_set))
      ]

  are_transversals : (repairs : List Limited) → AreFoundRepairs f repairs
      → AreTransversals (length o.axioms) justifications repairs
  are_transversals repairs found r = (
    λ at.
        let both = (found.repairs r).0 at in
        let leaf = leaf_is r both.0 in
        (leaf.limit_is, (told_by_hits justifications r).1 (leaf.within, leaf_meets r leaf, both.1)),
    λ is.
        let x = w.explored finished in
        let part = x.covered r.members is.1.meets in
        let leaf = leaf_is part.0 part.1 in
        let back = is.1.smallest part.0.members part.2 (leaf_meets part.0 leaf) in
        let same : part.0 ≡ r =
        same_limited part.0 r (leaf.limit_is ∙ sym is.0) (set_of_parts part.0.members r.members part.2 back) in
        (found.repairs r).1
        (subst (λ (l : Limited). Contains f.leaves.items l) same part.1, smallest_hits_alone justifications r is.1),
  )

  module _ (a : AuditLists) (is : IsAuditOf f e a) where
    just_listed : (j : Justification) → Contains a.justifications j → IsJustificationSet o q j.set
    just_listed j at =
        w.justifications j.set
        (subst (λ (xs : List Limited). Contains xs j.set) is.justifications.sets_are
        (to_map (λ (x : Justification). x.set) a.justifications j at))

    repair_listed : (r : Repair) → Contains a.repairs r → Contains is.sets r.set
    repair_listed r at =
        subst (λ (xs : List Limited). Contains xs r.set) is.repairs.sets_are
        (to_map (λ (x : Repair). x.set) a.repairs r at)

    just_shown : (j : Justification) → Contains a.justifications j → IsShown o q j
    just_shown j at =
        let from = is.justifications.from_kept j at in
        record {
          named = λ k h. subst (λ (s : Limited). set.contains s.members k ≡ true) from.1 h;
          refutes = (w.are_shown.refuted j.refutation from.0).refutes;
        }

    model_of : (r : Repair) → Contains a.repairs r → IsModelled o q (record { set = outside r.set; model = r.model })
    model_of r at = w.are_shown.modelled (record { set = outside r.set; model = r.model }) (is.repairs.from_kept r at)

    pub is_sound : IsSound o q a
    is_sound = record {
      antichain = subst IsAntichain (sym is.justifications.sets_are) justifications_apart;
      shown = just_shown;
      modelled = λ r at. counter_model o q r (model_of r at);
      transversals =
          subst (λ (xs : List Limited). AreTransversals (length o.axioms) xs (repaired_sets a.repairs))
          (sym is.justifications.sets_are)
          (subst (λ (xs : List Limited). AreTransversals (length o.axioms) justifications xs) (sym is.repairs.sets_are)
          (are_transversals is.sets is.are_found));
    }

    pub of_axioms_listed : AreOfAxioms o a
    of_axioms_listed = record {
      justified =
          of_each (λ (j : Justification). IsOfAxioms o j.set) a.justifications (λ j at. (just_listed j at).limit_is);
      repaired =
          of_each (λ (r : Repair). IsOfAxioms o r.set) a.repairs
          (λ r at. (leaf_is r.set ((is.are_found.repairs r.set).0 (repair_listed r at)).0).limit_is);
    }

    pub refutations_writable : All (λ (j : Justification). IsWritable o j.refutation) a.justifications
    refutations_writable =
        of_each (λ (j : Justification). IsWritable o j.refutation) a.justifications
        (λ j at. (w.are_shown.refuted j.refutation (is.justifications.from_kept j at).0).writable)

    pub names_listed : IsTrue (audit_is_listed o a)
    names_listed =
        and_from (list_all (λ (j : Justification). names_are_listed o j.refutation) a.justifications)
        (list_all (λ (r : Repair). uses_listed_names o r.model) a.repairs)
        (list_all-from_AllPass (λ (j : Justification). names_are_listed o j.refutation) a.justifications
        (of_each (λ (j : Justification). names_are_listed o j.refutation ≡ true) a.justifications
        (λ j at. (w.are_shown.refuted j.refutation (is.justifications.from_kept j at).0).writable.listed)))
        (list_all-from_AllPass (λ (r : Repair). uses_listed_names o r.model) a.repairs
        (of_each (λ (r : Repair). uses_listed_names o r.model ≡ true) a.repairs
        (λ r at. (model_of r at).refuting.writable)))

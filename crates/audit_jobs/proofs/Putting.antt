-- The sets of a list are put one after another.
use Rattle.std.proofs.Common.{◌≡◌, ℕ, ◌+◌, ◌-◌, ◌<◌, ◌≤◌, true, false, List, [], ◌∷◌, ◌++◌, length, take, drop, get_or}
use Rattle.std.proofs.Common.{map, Option, refl, ap, sym, ◌∙◌, subst, arith, inl, inr}
use Rattle.std.specs.Prelude.{slice_get, option_map, Result, Ok, Err, IfOk, OnOk}
use Rattle.std.specs.List.{Contains}
use Rattle.std.specs.Ordering.{is_lt}
use Rattle.std.specs.declared.cmp.Ordering.TheVariants.{Less}
use Rattle.std.specs.FinSet as set
use Rattle.std.proofs.lemmas.Bool.{cases_eq, cases_Bool, true≢false}
use Rattle.std.proofs.lemmas.List.{get_or-take, get_or_default, get_or-drop, length-drop, length-take-le, take_more}
use Rattle.std.proofs.lemmas.List.{take_all, drop_more, map-append, length-map}
use Rattle.std.proofs.lemmas.List.Elements.{Contains-append_right, Contains-push_cases}
use Rattle.std.proofs.lemmas.Option.{slice_get-map, slice_get-get_or}
use Rattle.axiom_sets.specs.Sets.{Limited, IsWithin, list_cmp}
use Rattle.axiom_sets.proofs.Same.{set_of_parts, same_limited}
use Rattle.pinpointing_specs.specs.Order.{IsAscending}
use Rattle.pinpointing_specs.proofs.Choices.{in_rest, to_rest}
use Rattle.lane_sieve.specs.Sets.{IsPart}
use Rattle.pinpointing_jobs.specs.TreeFound.{Found}
use Rattle.shq_terms.specs.NoMemory.{NoMemory}
use Rattle.pinpointing_jobs.specs.Written.{AreFoundRepairs}
use Rattle.refutation_tree.specs.RefutationLists.{RefutationLists}
use Rattle.audit_check.specs.AuditLists.{AuditLists, justified_sets, repaired_sets, last_justified, last_repaired}
use Rattle.audit_check.specs.AuditLists.{follows, with_justification, with_repair}
use Rattle.audit_check.specs.Justification.{Justification}
use Rattle.audit_check.specs.Repair.{Repair}
use Rattle.audit_check.proofs.Ascending.{not_before_itself}
use Rattle.audit_jobs.specs.declared.evidence.CounterModel.{CounterModel}
use Rattle.audit_jobs.specs.declared.evidence.Evidence.{Evidence}
use Rattle.audit_jobs.specs.Kept.{HasRefutation, HasModel}
use Rattle.audit_jobs.specs.Taken.{TakesOut}
use Rattle.audit_jobs.specs.Listed.{outside, HaveRefutations, HaveModels, PutsJustification, PutsRepair}
use Rattle.audit_jobs.specs.Listed.{AreFromRefutations, AreFromModels, ListsJustifications, ListsRepairs, IsAuditOf}

-- ---- a list in the order of sets

module _ (sets : List Limited) (order : IsAscending sets) (place : ℕ) (s : Limited) (lt : place < length sets)
    (is : s ≡ get_or sets place s) where
  -- a set comes after the one before it
  follows_front : follows (slice_get (take place sets) (length (take place sets) - 1)) s ≡ true
  follows_front = elim (cases_eq place 0) [
    | inl e ↦ subst (λ (n : ℕ). follows (slice_get (take n sets) (length (take n sets) - 1)) s ≡ true) (sym e) refl
    | inr ne ↦
        let count : length (take place sets) ≡ place = length-take-le place sets (omega (arith, lt)) in
        let last : get_or (take place sets) (length (take place sets) - 1) s ≡ get_or sets (place - 1) s =
        ap (λ (n : ℕ). get_or (take place sets) (n - 1) s) count
        ∙ get_or-take place sets (place - 1) s (omega (arith, ne)) in
        let less : list_cmp (get_or sets (place - 1) s) s ≡ Less =
        ap (list_cmp (get_or sets (place - 1) s)) is ∙ order (place - 1) place s (omega (arith, ne)) lt in
        ap (λ (o : Option Limited). follows o s)
        (slice_get-get_or (take place sets) (length (take place sets) - 1) s (omega (arith, count, ne)))
        ∙ ap (λ (t : Limited). is_lt (list_cmp t s)) last ∙ ap is_lt less
  ]

  pub follows_before : {A : Type 0} (set_of : A → Limited) (xs : List A) → map set_of xs ≡ take place sets
      → follows (option_map set_of (slice_get xs (length xs - 1))) s ≡ true
  follows_before set_of xs e =
      ap (λ (o : Option Limited). follows o s) (sym (slice_get-map set_of xs (length xs - 1)))
      ∙ ap (λ (n : ℕ). follows (slice_get (map set_of xs) (n - 1)) s) (sym (length-map xs set_of))
      ∙ ap (λ (ys : List Limited). follows (slice_get ys (length ys - 1)) s) e ∙ follows_front

  -- and is none of those behind it
  pub no_later : (j : Limited) → Contains (drop (place + 1) sets) j → ¬ (j ≡ s)
  no_later j at same =
      let k = place + 1 + at.0 in
      let inside : k < length sets = omega (arith, at.1, length-drop (place + 1) sets, lt) in
      let here : get_or sets place j ≡ s = get_or_default sets place j s lt ∙ sym is in
      let there : get_or sets k j ≡ s = sym (get_or-drop (place + 1) sets at.0 j) ∙ at.2 ∙ same in
      let less : list_cmp (get_or sets place j) (get_or sets k j) ≡ Less = order place k j (omega arith) inside in
      let both : list_cmp (get_or sets place j) (get_or sets k j) ≡ list_cmp s s = λ i. list_cmp (here i) (there i) in
      not_before_itself s (sym both ∙ less)

  pub still_later : (j : Limited) → Contains (drop (place + 1) sets) j → Contains (drop place sets) j
  still_later j at =
      subst (λ (xs : List Limited). Contains xs j) (sym (drop_more sets place s lt))
      (Contains-append_right (get_or sets place s ∷ []) (drop (place + 1) sets) j at)

  pub now_first : Contains (drop place sets) s
  now_first = subst (λ (xs : List Limited). Contains xs s) (sym (drop_more sets place s lt)) (0, omega arith, sym is)

  pub one_more : {A : Type 0} (set_of : A → Limited) (xs : List A) (x : A) → set_of x ≡ s
      → map set_of xs ≡ take place sets → map set_of (xs ++ x ∷ []) ≡ take (place + 1) sets
  one_more set_of xs x of e =
      let both : map set_of xs ++ set_of x ∷ [] ≡ take place sets ++ s ∷ [] = λ i. e i ++ of i ∷ [] in
      map-append set_of xs (x ∷ []) ∙ both ∙ ap (λ (t : Limited). take place sets ++ t ∷ []) is
      ∙ sym (take_more sets place s lt)

-- ---- what is outside of a set

-- sets of numbers up to the same limit with the same rest are the same
outside_tells : (s t : Limited) → IsWithin s.limit s.members → outside s ≡ outside t → IsPart s.members t.members
outside_tells s t within same k member =
    let inside = within k member in
    let limit : s.limit ≡ t.limit = ap (λ (x : Limited). x.limit) same in
    elim (cases_Bool (set.contains t.members k)) [
      | inl yes' ↦ yes'
      | inr no' ↦
          let lacks : set.contains s.members k ≡ false =
          in_rest s k
          (subst (λ (x : Limited). set.contains x.members k ≡ true) (sym same)
          (to_rest t k inside.0 (subst (λ (n : ℕ). k ≤ n) limit inside.1) no')) in
          absurd (true≢false (sym member ∙ lacks))
    ]

pub outside_same : (s t : Limited) → IsWithin s.limit s.members → IsWithin t.limit t.members → outside s ≡ outside t
    → s ≡ t
outside_same s t within within' same =
    same_limited s t (ap (λ (x : Limited). x.limit) same)
    (set_of_parts s.members t.members (outside_tells s t within same) (outside_tells t s within' (sym same)))

-- ---- justifications

-- so many of the sets are listed, and there is a refutation for each other one
pub record IsListingJustifications (sets : List Limited) (first : List RefutationLists) (place : ℕ)
    (js : List Justification) (rs : List RefutationLists) : Type 0 where
  pub sets_are : justified_sets js ≡ take place sets
  pub from_kept : AreFromRefutations first js
  pub refuted : HaveRefutations rs (drop place sets)
  pub fewer : (r : RefutationLists) → Contains rs r → Contains first r

module _ (sets : List Limited) (order : IsAscending sets) (first : List RefutationLists) (place : ℕ) (a b : AuditLists)
    (rs left : List RefutationLists) (s : Limited) (lt : place < length sets) (is : s ≡ get_or sets place s)
    (state : IsListingJustifications sets first place a.justifications rs) where
  pub justification_after : follows (last_justified a) s ≡ true
  justification_after =
      follows_before sets order place s lt is (λ (j : Justification). j.set) a.justifications state.sets_are

  pub has_refutation : HasRefutation rs s
  has_refutation = state.refuted s (now_first sets order place s lt is)

  still_refuted : (r : RefutationLists) → TakesOut (λ (x : RefutationLists). x.axioms) s rs left r
      → HaveRefutations left (drop (place + 1) sets)
  still_refuted r takes j at =
      let had = state.refuted j (still_later sets order place s lt is j at) in
      (had.0, takes.others had.0 had.1 (λ same. no_later sets order place s lt is j at (sym had.2 ∙ same)), had.2)

  pub justification_put : PutsJustification s a b rs left
      → IsListingJustifications sets first (place + 1) b.justifications left
  justification_put puts =
      let entry : Justification = record { set = s; refutation = puts.refutation } in
      let longer : b.justifications ≡ a.justifications ++ entry ∷ [] =
      ap (λ (x : AuditLists). x.justifications) puts.is_put in
      record {
        sets_are =
            ap justified_sets longer
            ∙ one_more sets order place s lt is (λ (j : Justification). j.set) a.justifications entry refl
            state.sets_are;
        from_kept =
            λ j at. elim
            (Contains-push_cases a.justifications entry j
            (subst (λ (xs : List Justification). Contains xs j) longer at)) [
              | inl old ↦ state.from_kept j old
              | inr new ↦ subst (λ (x : Justification). Contains first x.refutation × (x.refutation.axioms ≡ x.set)) new
                  (state.fewer puts.refutation puts.takes.was, puts.takes.is_of)
            ];
        refuted = still_refuted puts.refutation puts.takes;
        fewer = λ r at. state.fewer r (puts.takes.fewer r at);
      }

  pub justification_repairs : PutsJustification s a b rs left → b.repairs ≡ a.repairs
  justification_repairs puts = ap (λ (x : AuditLists). x.repairs) puts.is_put

pub no_justifications : (sets : List Limited) (js : List Justification) (rs : List RefutationLists) → js ≡ []
    → HaveRefutations rs sets → IsListingJustifications sets rs 0 js rs
no_justifications sets js rs none have = record {
  sets_are = ap justified_sets none;
  from_kept = λ j at. absurd (omega (arith, (subst (λ (xs : List Justification). Contains xs j) none at).1));
  refuted = have;
  fewer = λ r at. at;
}

pub all_justifications : (sets : List Limited) (first : List RefutationLists) (place : ℕ) (js : List Justification)
    (rs : List RefutationLists)
    → length sets ≤ place → IsListingJustifications sets first place js rs → ListsJustifications sets first js
all_justifications sets first place js rs le state =
    record { sets_are = state.sets_are ∙ take_all place sets le; from_kept = state.from_kept }

-- what was put
pub puts_justification : {T : Type 0} (r : Result T NoMemory) (s copy : Limited) (old new : AuditLists)
    (rs left : List RefutationLists) (x : RefutationLists)
    → copy ≡ s → OnOk r (new ≡ with_justification copy x old)
    → TakesOut (λ (y : RefutationLists). y.axioms) copy rs left x → OnOk r (PutsJustification s old new rs left)
puts_justification (Ok t) s copy old new rs left x same put takes = record {
  refutation = x;
  is_put = subst (λ (u : Limited). new ≡ with_justification u x old) same put;
  takes = subst (λ (u : Limited). TakesOut (λ (y : RefutationLists). y.axioms) u rs left x) same takes;
}
puts_justification (Err e) s copy old new rs left x same put takes = tt

-- ---- repairs

pub record IsListingRepairs (sets : List Limited) (first : List CounterModel) (place : ℕ) (listed : List Repair)
    (ms : List CounterModel) : Type 0 where
  pub sets_are : repaired_sets listed ≡ take place sets
  pub from_kept : AreFromModels first listed
  pub modelled : HaveModels ms (drop place sets)
  pub fewer : (m : CounterModel) → Contains ms m → Contains first m

module _ (sets : List Limited) (order : IsAscending sets) (first : List CounterModel) (place : ℕ) (a b : AuditLists)
    (ms left : List CounterModel) (s : Limited) (lt : place < length sets) (is : s ≡ get_or sets place s)
    (state : IsListingRepairs sets first place a.repairs ms) where
  pub repair_after : follows (last_repaired a) s ≡ true
  repair_after = follows_before sets order place s lt is (λ (r : Repair). r.set) a.repairs state.sets_are

  pub has_model : HasModel ms (outside s)
  has_model = (state.modelled s (now_first sets order place s lt is)).0

  still_modelled : (m : CounterModel) → TakesOut (λ (x : CounterModel). x.set) (outside s) ms left m
      → HaveModels left (drop (place + 1) sets)
  still_modelled m takes r at =
      let had = state.modelled r (still_later sets order place s lt is r at) in
      let within = (state.modelled s (now_first sets order place s lt is)).1 in (
        (
          had.0.0,
          takes.others had.0.0 had.0.1
              (λ same. no_later sets order place s lt is r at (outside_same r s had.1 within (sym had.0.2 ∙ same))),
          had.0.2,
        ),
        had.1,
      )

  pub repair_put : PutsRepair s a b ms left → IsListingRepairs sets first (place + 1) b.repairs left
  repair_put puts =
      let entry : Repair = record { set = s; model = puts.kept.model } in
      let longer : b.repairs ≡ a.repairs ++ entry ∷ [] = ap (λ (x : AuditLists). x.repairs) puts.is_put in
      let kept : puts.kept ≡ record { set = outside s; model = puts.kept.model } =
      λ i. record { set = puts.takes.is_of i; model = puts.kept.model } in
      record {
        sets_are =
            ap repaired_sets longer
            ∙ one_more sets order place s lt is (λ (r : Repair). r.set) a.repairs entry refl state.sets_are;
        from_kept =
            λ r at. elim
            (Contains-push_cases a.repairs entry r (subst (λ (xs : List Repair). Contains xs r) longer at)) [
              | inl old ↦ state.from_kept r old
              | inr new ↦
                  subst (λ (x : Repair). Contains first (record { set = outside x.set; model = x.model })) new
                  (subst (Contains first) kept (state.fewer puts.kept puts.takes.was))
            ];
        modelled = still_modelled puts.kept puts.takes;
        fewer = λ m at. state.fewer m (puts.takes.fewer m at);
      }

  pub repair_justifications : PutsRepair s a b ms left → b.justifications ≡ a.justifications
  repair_justifications puts = ap (λ (x : AuditLists). x.justifications) puts.is_put

pub no_repairs : (sets : List Limited) (listed : List Repair) (ms : List CounterModel) → listed ≡ []
    → HaveModels ms sets → IsListingRepairs sets ms 0 listed ms
no_repairs sets listed ms none have = record {
  sets_are = ap repaired_sets none;
  from_kept = λ r at. absurd (omega (arith, (subst (λ (xs : List Repair). Contains xs r) none at).1));
  modelled = have;
  fewer = λ m at. at;
}

pub all_repairs : (sets : List Limited) (first : List CounterModel) (place : ℕ) (listed : List Repair)
    (ms : List CounterModel)
    → length sets ≤ place → IsListingRepairs sets first place listed ms → ListsRepairs sets first listed
all_repairs sets first place listed ms le state =
    record { sets_are = state.sets_are ∙ take_all place sets le; from_kept = state.from_kept }

-- what was put
pub puts_repair : {T : Type 0} (r : Result T NoMemory) (s copy others : Limited) (old new : AuditLists)
    (ms left : List CounterModel) (x : CounterModel)
    → copy ≡ s → others ≡ outside s → OnOk r (new ≡ with_repair copy x.model old)
    → TakesOut (λ (y : CounterModel). y.set) others ms left x → OnOk r (PutsRepair s old new ms left)
puts_repair (Ok t) s copy others old new ms left x same rest_is put takes = record {
  kept = x;
  is_put = subst (λ (u : Limited). new ≡ with_repair u x.model old) same put;
  takes = subst (λ (u : Limited). TakesOut (λ (y : CounterModel). y.set) u ms left x) rest_is takes;
}
puts_repair (Err e) s copy others old new ms left x same rest_is put takes = tt

-- ---- the audit

pub is_audit_of : (f : Found) (e : Evidence) (sets justifications listed : List Limited)
    (r : Result AuditLists NoMemory)
    → justifications ≡ f.justifications.items → listed ≡ sets → AreFoundRepairs f sets
    → IfOk r (λ a. ListsJustifications justifications e.refutations.items a.justifications)
    → IfOk r (λ a. ListsRepairs listed e.models.items a.repairs) → IfOk r (IsAuditOf f e)
is_audit_of f e sets justifications listed (Ok a) just_is listed_is found js rs = record {
  justifications =
      subst (λ (xs : List Limited). ListsJustifications xs e.refutations.items a.justifications) just_is js;
  sets = sets;
  are_found = found;
  repairs = subst (λ (xs : List Limited). ListsRepairs xs e.models.items a.repairs) listed_is rs;
}
is_audit_of f e sets justifications listed (Err x) just_is listed_is found js rs = tt

-- Honest logs of questions on individuals with one test more.
use Rattle.std.proofs.Common.{◌≡◌, not, ℕ, ◌+◌, ◌<◌, ◌≤◌, true, false, List, [], ◌∷◌, ◌++◌, length, Some, refl, sym, ap}
use Rattle.std.proofs.Common.{subst, ◌∙◌, arith, inl, inr}
use Rattle.std.specs.Prelude.{slice_get, Contains}
use Rattle.std.proofs.lemmas.Bool.{and_parts, not-true, true≢false}
use Rattle.std.proofs.lemmas.List.Elements.{All-push, All-contains}
use Rattle.axiom_sets.specs.Sets.{Limited}
use Rattle.shq_terms.specs.Concept.{Concept, top, bottom, name, complement, intersection, union, some_of, all_of}
use Rattle.shq_terms.specs.Concept.{at_least, at_most, exactly}
use Rattle.shq_terms.specs.declared.axioms.On.{On}
use Rattle.shq_terms.specs.declared.axioms.On.TheVariants.{Any, Individual}
use Rattle.shq_terms.specs.declared.axioms.Query.{Query}
use Rattle.subsumption.specs.Entry.TheVariants.{Test}
use Rattle.subsumption.specs.TestEnd.{TestEnd}
use Rattle.subsumption.specs.TestEnd.TheVariants.{Yes, No, Spent}
use Rattle.subsumption.specs.Entries.{spent_of, ended_spent, IsAnswered}
use Rattle.subsumption.specs.HonestLog.{IsWhole, IsHonestEntry, IsChain}
use Rattle.subsumption.specs.OracleLists.{OracleLists}
use Rattle.subsumption.specs.Rows.{Rows, holds}
use Rattle.subsumption.specs.Subsumption.{class_at}
use Rattle.subsumption.proofs.Added.{at_contains, once_more, new_more, within_more}
use Rattle.subsumption.proofs.Added as added
use Rattle.subsumption.proofs.InLimit.{at_top, at_name}
use Rattle.subsumption.specs.ClassSets.{has_class}
use Rattle.realizer.specs.Instances.{instance_query}
use Rattle.realizer.specs.Places.{IsPlaceChain, left_side, right_side, individual_place, class_place}
use Rattle.realizer.specs.RealizationLogs.{IsInstanceTest, IsInstancesLog, IsTypingQuery, IsTypingTest, IsListedClass}
use Rattle.realizer.specs.RealizationLogs.{IsRealizationLog}
use Rattle.realizer.specs.TypeRows.{typed_by}
use Rattle.realizer.specs.Asked.{IsTestBefore, IsOnBefore, IsAsking, IsNoted, IsKnownOn, IsKnown, IsAmid, is_open}
use Rattle.realizer.proofs.Places.{individual_chain, IsFirstClass, FromIndividual}
use Rattle.realizer.proofs.Chains.{chain_is_true}

-- ---- which individuals are in a class expression

module _ (l : OracleLists) (c : Concept) (i : ℕ) (members : Limited) (asking : IsAsking l c i members) where
  -- no individual from i on was asked about
  on_before : (on : On) (a : ℕ) → i ≤ a → on ≡ Individual a → IsOnBefore i on → ⊥
  on_before Any a low same h = h
  on_before (Individual b) a low same h = let e : b ≡ a = cc in omega (arith, low, e, h)

  untested_from : (a : ℕ) → i ≤ a → (place : ℕ) (t : Limited) (p : Query) (k : ℕ) (g : TestEnd)
      → slice_get l.log place ≡ Some (Test t p k g) → p ≡ instance_query c a → ⊥
  untested_from a low place t p k g at same =
      on_before p.on a low (ap (λ (r : Query). r.on) same)
      (All-contains (IsTestBefore i) l.log (Test t p k g) asking.before (at_contains l.log (Test t p k g) place at))

  -- so the log does not answer it
  pub unanswered_from : (a : ℕ) → i ≤ a → (asked : Limited) → IsAnswered l.log asked (instance_query c a) → ⊥
  unanswered_from a low asked = added.unanswered l.log asked (instance_query c a) (untested_from a low)

  pub instances_more : i < length l.ontology.individuals → (s : Limited) (steps : ℕ) (e : TestEnd)
      → IsWhole l.ontology s → IsHonestEntry l.ontology (Test s (instance_query c i) steps e)
      → spent_of (l.log ++ Test s (instance_query c i) steps e ∷ []) ≤ l.budget
      → (ended_spent e ≡ true → spent_of (l.log ++ Test s (instance_query c i) steps e ∷ []) ≡ l.budget)
      → IsInstancesLog l.ontology c l.budget (l.log ++ Test s (instance_query c i) steps e ∷ [])
  instances_more lt s steps e whole so within all_spent = record {
    budget_kept =
        within_more l.log s (instance_query c i) steps e l.ontology l.budget asking.goes_on asking.honest.budget_kept so
        within all_spent;
    tests = All-push (IsInstanceTest l.ontology c) l.log (Test s (instance_query c i) steps e) asking.honest.tests
        (whole, (i, lt, refl));
    once = once_more l.log s (instance_query c i) steps e asking.honest.once (untested_from i (omega arith));
  }

-- ---- which classes each individual is in

module _ (l : OracleLists) (known : Rows) (axioms : Limited) (a : ℕ) (rows : List Limited) (types : Limited)
    (amid : IsAmid l known axioms a rows types) (x : ℕ) (lx : x < known.count)
    (open_yet : is_open rows a types x ≡ true) where
  abbrev n : ℕ
  n = length l.ontology.classes

  below : (y : ℕ) → y < known.count → y < n
  below y lt = omega (arith, lt, amid.typing.count_is)

  pub possible_yet : typed_by rows a x ≡ true
  possible_yet = (and_parts (typed_by rows a x) (not (has_class types x)) open_yet).0

  pub no_type_yet : has_class types x ≡ false
  no_type_yet = not-true (has_class types x) (and_parts (typed_by rows a x) (not (has_class types x)) open_yet).1

  no_type : has_class types x ≡ true → ⊥
  no_type h = true≢false (sym h ∙ no_type_yet)

  -- a test on the individual about a class found what is known
  noted_on : (q : Query) (e : TestEnd) → q.on ≡ Individual a → IsKnownOn rows a types q.sup e q.on
      → IsNoted rows a types q.sup e
  noted_on q e is h = by q.on is h
    where
      by : (on : On) → on ≡ Individual a → IsKnownOn rows a types q.sup e on → IsNoted rows a types q.sup e
      by Any same k = absurd (cc same)
      by (Individual b) same k = let e : b ≡ a = cc in k.0 e

  -- which says more of the class that is open than is known
  not_open : (sup : Concept) (e : TestEnd) → sup ≡ name x → IsNoted rows a types sup e → ⊥
  not_open sup e same h = by (subst (λ (d : Concept). IsNoted rows a types d e) same h)
    where
      by_end : (e : TestEnd) → IsNoted rows a types (name x) e → ⊥
      by_end (Yes u) h = no_type h
      by_end No h = true≢false (sym possible_yet ∙ h)
      by_end (Spent t) h = h

      by : IsNoted rows a types (name x) e → ⊥
      by = by_end e

  known_of : (s : Limited) (q : Query) (steps : ℕ) (e : TestEnd) → Contains l.log (Test s q steps e)
      → IsKnown rows a types (Test s q steps e)
  known_of s q steps e there = All-contains (IsKnown rows a types) l.log (Test s q steps e) amid.noted there

  -- no test was of its query
  untested : (place : ℕ) (t : Limited) (p : Query) (k : ℕ) (g : TestEnd) → slice_get l.log place ≡ Some (Test t p k g)
      → p ≡ instance_query (name x) a → ⊥
  untested place t p k g at same =
      not_open p.sup g (ap (λ (r : Query). r.sup) same)
      (noted_on p g (ap (λ (r : Query). r.on) same) (known_of t p k g (at_contains l.log (Test t p k g) place at)))

  pub unanswered : (asked : Limited) → IsAnswered l.log asked (instance_query (name x) a) → ⊥
  unanswered asked = added.unanswered l.log asked (instance_query (name x) a) untested

  -- a class that is known to be among the types, or that of all things, leads to none that is open
  part_is_known : (y z : ℕ) → y < n + 2 → z < n + 2 → IsChain l.log (class_at n y) (class_at n z)
      → holds known y z ≡ true
  part_is_known y z ly lz chain =
      (amid.typing.is_so y z (omega (arith, ly)) (omega (arith, lz))).1
      (chain_is_true l.ontology l.log amid.typing.honest.budget_kept.honest amid.typing.honest.tests (class_at n y)
      (class_at n z) chain)

  leads_not : (y : ℕ) → y < known.count + 2 → has_class types y ≡ true → IsChain l.log (class_at n y) (name x) → ⊥
  leads_not y ly member chain =
      let lyn : y < n + 2 = omega (arith, ly, amid.typing.count_is) in
      let lxn : x < n + 2 = omega (arith, lx, amid.typing.count_is) in
      let part : holds known y x ≡ true =
      part_is_known y x lyn lxn (subst (IsChain l.log (class_at n y)) (sym (at_name n x (below x lx))) chain) in
      no_type (amid.types_known.closed y x ly (omega (arith, lx)) member part)

  -- the class of a test on the individual is listed
  is_listed : (q : Query) → q.on ≡ Individual a → IsTypingQuery l.ontology q.sub q.sup q.on
      → IsListedClass l.ontology q.sup
  is_listed q is h = by q.on is h
    where
      by : (on : On) → on ≡ Individual a → IsTypingQuery l.ontology q.sub q.sup on → IsListedClass l.ontology q.sup
      by Any same k = absurd (cc same)
      by (Individual b) same k = k.2

  from_type : (sup : Concept) (u : Limited) → IsListedClass l.ontology sup → IsNoted rows a types sup (Yes u)
      → IsChain l.log sup (name x) → ⊥
  from_type (name y) u ly member chain =
      leads_not y (omega (arith, ly, amid.typing.count_is)) member
      (subst (λ (d : Concept). IsChain l.log d (name x)) (sym (at_name n y ly)) chain)
  from_type top u ly member chain = ly
  from_type bottom u ly member chain = ly
  from_type (complement d) u ly member chain = ly
  from_type (intersection ds) u ly member chain = ly
  from_type (union ds) u ly member chain = ly
  from_type (some_of r d) u ly member chain = ly
  from_type (all_of r d) u ly member chain = ly
  from_type (at_least k r d) u ly member chain = ly
  from_type (at_most k r d) u ly member chain = ly
  from_type (exactly k r d) u ly member chain = ly

  no_chain_from : FromIndividual l.log a (name x) → ⊥
  no_chain_from (z, first, chain) = by first
    where
      by : IsFirstClass l.log a z → ⊥
      by (inl is) =
          let e : class_at n known.count ≡ z = at_top n known.count amid.typing.count_is ∙ sym is in
          leads_not known.count (omega arith) amid.types_known.has_top
          (subst (λ (d : Concept). IsChain l.log d (name x)) (sym e) chain)
      by (inr (s, q, steps, u, on, sup, there)) =
          let test =
          All-contains (IsTypingTest l.ontology) l.log (Test s q steps (Yes u)) amid.typing.honest.tests there in
          from_type q.sup u (is_listed q on test.1) (noted_on q (Yes u) on (known_of s q steps (Yes u) there))
          (subst (λ (d : Concept). IsChain l.log d (name x)) (sym sup) chain)

  no_chain_yet : IsPlaceChain l.log (individual_place a) (class_place (name x)) → ⊥
  no_chain_yet chain = no_chain_from (individual_chain l.log a (name x) chain)

  pub realization_more : (steps : ℕ) (e : TestEnd)
      → IsHonestEntry l.ontology (Test axioms (instance_query (name x) a) steps e)
      → spent_of (l.log ++ Test axioms (instance_query (name x) a) steps e ∷ []) ≤ l.budget
      → (ended_spent e ≡ true → spent_of (l.log ++ Test axioms (instance_query (name x) a) steps e ∷ []) ≡ l.budget)
      → IsRealizationLog l.ontology l.budget (l.log ++ Test axioms (instance_query (name x) a) steps e ∷ [])
  realization_more steps e so within all_spent =
      let q = instance_query (name x) a in
      let h = amid.typing.honest in
      record {
        budget_kept =
            within_more l.log axioms q steps e l.ontology l.budget amid.typing.goes_on h.budget_kept so within
            all_spent;
        tests = All-push (IsTypingTest l.ontology) l.log (Test axioms q steps e) h.tests
            (amid.typing.whole, (amid.is_individual, refl, below x lx));
        once = once_more l.log axioms q steps e h.once untested;
        new = new_more l.log axioms q steps e (λ es p. IsPlaceChain es (left_side p) (right_side p)) h.new no_chain_yet;
      }

-- Classes, instances and reasons are the same by entailment and by what follows in a world.
use Rattle.std.proofs.Common.{◌≡◌, ℕ, ◌+◌, ◌<◌, ◌≤◌, true, Bool, List, length, map, get_or, refl, sym, ap, ◌∙◌}
use Rattle.std.proofs.Common.{subst, arith}
use Rattle.std.specs.List.{Contains}
use Rattle.std.proofs.lemmas.Bool.{lt-ltb}
use Rattle.std.proofs.lemmas.List.{length-map, get_or-map}
use Rattle.lane_sieve.proofs.Ranges.{Passes, passing-at}
use Rattle.lane_sieve.specs.Sets.{passing}
use Rattle.shq_terms.specs.Concept.{Concept, name}
use Rattle.shq_terms.specs.Listed.{Listed}
use Rattle.shq_terms.specs.declared.axioms.Query.{Query as Asked}
use Rattle.all_worlds.specs.Worlds.{World}
use Rattle.answers_everywhere.specs.Laws.{IsOfWorld, is_listed_class, IsOfNames}
use Rattle.answers_everywhere.proofs.Everywhere.{names}
use Rattle.subsumption.specs.Groups.{Parthood}
use Rattle.subsumption.specs.Subsumption.{class_at, query_at, IsSubsumption}
use Rattle.subsumption.proofs.InLimit.{of_class}
use Rattle.realizer.specs.Instances.{instance_query, AreInstances}
use Rattle.realizer.specs.Realization.{AreTypes}
use Rattle.realizer.specs.declared.types.Types.{Types}
use Rattle.job_inputs.specs.Questions.{has_element, IsDocumentAlone, IsQuestion}
use Rattle.individual_jobs.specs.ReasonLists.{ReasonLists}
use Rattle.individual_jobs.specs.Reasons.{individual_of, AreReasons}
use Rattle.pinpointing_jobs.specs.declared.wanted.Wanted.TheVariants.{Justifications}
use Rattle.ofn_reader.specs.DocumentContext.{DocumentContext}
use Rattle.runs_everywhere.specs.Names.{IsSubsumptionIn, AreInstancesIn, AreTypesIn, AreReasonsIn}
use Rattle.runs_everywhere.proofs.Sets.{has_all}
use Rattle.runs_everywhere.proofs.Worlds.{of_instance}

-- each class that has a number is a listed one, or one that all things or none are in
listed_at : (n x : ℕ) → x ≤ n + 1 → is_listed_class n (class_at n x) ≡ true
listed_at n x within =
    of_class n (λ (c : Concept). is_listed_class n c ≡ true) refl refl (λ a lt. lt-ltb a n lt) x (omega (arith, within))

module _ {d : Type 0} (w : World d) where
  -- ---- on a document

  module _ (bytes : List ℕ) (o : Listed) (kept : DocumentContext) (alone : IsDocumentAlone bytes o kept) where
    of_names : (q : Asked) → IsOfNames o q → IsOfWorld w o.axioms q
    of_names q is = names w bytes o kept alone.end alone.is_document q is

    pub subsumption : (part_of : Parthood) → IsSubsumption o part_of → IsSubsumptionIn w o part_of
    subsumption part_of is x y lx ly =
        let n = length o.classes in
        let of =
        of_names (query_at n x y) (record { sub = listed_at n x lx; sup = listed_at n y ly; on = refl }) in
        (λ passes. of.all.0 ((is x y lx ly).0 passes), λ follows. (is x y lx ly).1 (of.all.1 follows))

    pub types : (t : Types) → AreTypes o t → AreTypesIn w o t
    types t h = record {
      part_of = h.part_of;
      is_so = subsumption h.part_of h.is_so;
      typed = h.typed;
      is_typed =
          λ a x la lx.
          let of =
          of_names (instance_query (name x) a) (record {
            sub = refl;
            sup = lt-ltb x (length o.classes) lx;
            on = lt-ltb a (length o.individuals) la;
          }) in (
            λ passes. of.all.0 ((h.is_typed a x la lx).0 passes),
            λ follows. (h.is_typed a x la lx).1 (of.all.1 follows),
          );
      types_are = h.types_are;
    }

  -- ---- on a document with a class expression

  module _ (class bytes : List ℕ) (o : Listed) (q : Asked) (is : IsQuestion (has_element class) bytes o q) where
    pub instances : (found : List ℕ) → AreInstances o q.sub found → AreInstancesIn w o q.sub found
    instances found h = record {
      test = h.test;
      is_so =
          λ a la.
          let of = of_instance w class bytes o q is a la in
          (λ passes. of.all.0 ((h.is_so a la).0 passes), λ follows. (h.is_so a la).1 (of.all.1 follows));
      listed = h.listed;
    }

    -- each listed reason is that of a listed individual
    individual_listed : (rs : List ReasonLists) → AreReasons o q.sub rs → (r : ReasonLists) → Contains rs r
        → r.individual < length o.individuals
    individual_listed rs h r at =
        let test : ℕ → Bool = h.instances.test in
        let n = length o.individuals in
        let all : List ℕ = passing test 0 n in
        let same : map individual_of rs ≡ all = h.instances.listed in
        let place : at.0 < length all =
        subst (λ (xs : List ℕ). at.0 < length xs) same
        (subst (λ (k : ℕ). at.0 < k) (sym (length-map rs individual_of)) at.1) in
        let value : get_or all at.0 0 ≡ r.individual =
        ap (λ (xs : List ℕ). get_or xs at.0 0) (sym same) ∙ get_or-map individual_of rs at.0 r 0 at.1
        ∙ ap individual_of at.2 in
        let passes : Passes test 0 (0 + n) (get_or all at.0 0) = passing-at test 0 n at.0 0 place in
        omega (arith, passes.2, value)

    pub reasons : (rs : List ReasonLists) → AreReasons o q.sub rs → AreReasonsIn w o q.sub rs
    reasons rs h = record {
      instances = instances (map individual_of rs) h.instances;
      reasons =
          λ r at. has_all w o (instance_query q.sub r.individual)
          (of_instance w class bytes o q is r.individual (individual_listed rs h r at)) Justifications r.justifications
          (h.reasons r at);
    }

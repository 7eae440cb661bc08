-- How the questions on one individual begin and end.
use Rattle.std.proofs.Common.{◌≡◌, ℕ, ◌+◌, ◌<◌, ◌&&◌, not, Bool, true, false, List, length, refl, sym, subst, ◌∙◌}
use Rattle.std.proofs.Common.{arith, inl, inr}
use Rattle.std.specs.Prelude.{Option, Some, None}
use Rattle.std.proofs.lemmas.Bool.{cases_lt, lt-ltb}
use Rattle.std.proofs.lemmas.List.Elements.{All-weaker}
use Rattle.axiom_sets.specs.Sets.{Limited}
use Rattle.shq_terms.specs.Concept.{Concept, name}
use Rattle.shq_terms.specs.Listed.{Listed}
use Rattle.shq_terms.specs.declared.axioms.On.{On}
use Rattle.shq_terms.specs.declared.axioms.On.TheVariants.{Any, Individual}
use Rattle.shq_meaning.specs.Truth.{Entails}
use Rattle.subsumption.specs.Theory.{all_axioms}
use Rattle.subsumption.specs.Limits.{IsOntologyInLimit, IsInLimit}
use Rattle.subsumption.specs.Entry.{Entry}
use Rattle.subsumption.specs.Entry.TheVariants.{Test, Node}
use Rattle.subsumption.specs.TestEnd.{TestEnd}
use Rattle.subsumption.specs.HonestLog.{IsWhole, IsClassTest, IsClassificationLog}
use Rattle.subsumption.specs.OracleLists.{OracleLists}
use Rattle.subsumption.specs.Rows.{Rows, holds}
use Rattle.subsumption.specs.Subsumption.{class_at}
use Rattle.subsumption.specs.Settled.{IsSettled}
use Rattle.subsumption.specs.declared.stop.Stop.TheVariants as stop
use Rattle.subsumption.specs.Stops.{IsStop}
use Rattle.subsumption.proofs.InLimit.{at_top, at_name}
use Rattle.subsumption.specs.ClassSets.{has_class}
use Rattle.realizer.specs.Instances.{instance_query, IsInstance}
use Rattle.realizer.specs.TypeRows.{typed_by}
use Rattle.realizer.specs.Candidates.{AreCandidateRows, AreFullRows}
use Rattle.realizer.specs.ShownLogs.{IsShownType}
use Rattle.realizer.specs.Asked.{IsBefore, IsOnEarlier, IsEarlier, IsKnownOn, IsKnown, IsAmid, IsOpenClass}
use Rattle.realizer.proofs.Truths.{instance_of_all}
use Rattle.realizer.proofs.Chains.{realization_log, earlier_class}
use Rattle.realizer.proofs.Shown.{rows_at_first}

-- ---- before the first individual

pub before_all : (l : OracleLists) (known : Rows) (axioms : Limited) (rows : List Limited)
    → IsOntologyInLimit l.ontology → IsClassificationLog l.ontology l.budget l.log → IsStop l.budget l.log stop.NoMemory
    → IsSettled l.ontology l.log known
    → IsWhole l.ontology axioms → AreCandidateRows l.ontology 0 rows → AreFullRows l.ontology rows
    → IsBefore l known axioms 0 rows
before_all l known axioms rows limit honest goes settled whole candidates full = record {
  typing = record {
    in_limit = limit;
    honest = realization_log l.ontology l.budget l.log honest;
    goes_on = goes;
    whole = whole;
    count_is = settled.count_is;
    order = settled.order;
    is_so = settled.is_so;
    candidates = candidates;
    shown = rows_at_first l.ontology l.budget l.log known rows honest settled full;
  };
  earlier = All-weaker (IsClassTest l.ontology) (IsEarlier 0) (earlier_class l.ontology 0) l.log honest.tests;
}

-- the same of an ontology that is the oracle's
pub before_on : (o : Listed) (l : OracleLists) (known : Rows) (axioms : Limited) (rows : List Limited) → l.ontology ≡ o
    → IsOntologyInLimit o → IsClassificationLog o l.budget l.log → IsStop l.budget l.log stop.NoMemory
    → IsSettled o l.log known
    → IsWhole o axioms → AreCandidateRows o 0 rows → AreFullRows o rows → IsBefore l known axioms 0 rows
before_on o l known axioms rows same limit honest goes settled whole candidates full =
    before_all l known axioms rows (subst IsOntologyInLimit (sym same) limit)
    (subst (λ (p : Listed). IsClassificationLog p l.budget l.log) (sym same) honest) goes
    (subst (λ (p : Listed). IsSettled p l.log known) (sym same) settled)
    (subst (λ (p : Listed). IsWhole p axioms) (sym same) whole)
    (subst (λ (p : Listed). AreCandidateRows p 0 rows) (sym same) candidates)
    (subst (λ (p : Listed). AreFullRows p rows) (sym same) full)

-- ---- the questions

-- each question whether a listed individual is in a listed class is within the limits
pub instance_in_limit : (o : Listed) (x a : ℕ) → IsOntologyInLimit o → x < length o.classes → a < length o.individuals
    → IsInLimit o (instance_query (name x) a)
instance_in_limit o x a limit lx la = record {
  ontology = limit;
  listed = lt-ltb x (length o.classes) lx;
  items = refl;
  counts = refl;
  simple = refl;
  on_listed = lt-ltb a (length o.individuals) la;
}

-- ---- the first questions on one

module _ (l : OracleLists) (known : Rows) (axioms : Limited) (a : ℕ) (rows : List Limited)
    (b : IsBefore l known axioms a rows) where
  known_on : (types : Limited) (sup : Concept) (e : TestEnd) (on : On) → IsOnEarlier a on
      → IsKnownOn rows a types sup e on
  known_on types sup e Any h = tt
  known_on types sup e (Individual c) h = (λ same. absurd (omega (arith, h, same)), omega (arith, h))

  known_earlier : (types : Limited) (e : Entry) → IsEarlier a e → IsKnown rows a types e
  known_earlier types (Test s q steps e) h = known_on types q.sup e q.on h
  known_earlier types (Node s) h = h

  in_order : (y : ℕ) → y < known.count + 2 → y < length l.ontology.classes + 2
  in_order y lt = omega (arith, lt, b.typing.count_is)

  -- at first its types are the classes that all things are in
  pub begins : a < length l.ontology.individuals → (types : Limited) → types.limit ≡ known.count + 2
      → ((y : ℕ) → y < known.count + 2 → has_class types y ≡ holds known known.count y)
      → IsAmid l known axioms a rows types
  begins lt types limit is = record {
    typing = b.typing;
    is_individual = lt;
    noted = All-weaker (IsEarlier a) (IsKnown rows a types) (known_earlier types) l.log b.earlier;
    types_known = record {
      limit_is = limit;
      closed =
          λ y z ly lz h part. is z lz
          ∙ b.typing.order.transitive known.count y z (in_order known.count (omega arith)) (in_order y ly)
          (in_order z lz) (sym (is y ly) ∙ h) part;
      has_top =
          is known.count (omega arith) ∙ b.typing.order.reflexive known.count (in_order known.count (omega arith));
      sure = λ y ly h.
          let n = length l.ontology.classes in
          let e =
          (b.typing.is_so known.count y (omega (arith, b.typing.count_is)) (omega (arith, ly, b.typing.count_is))).0
          (sym (is y (omega (arith, ly))) ∙ h) in
          instance_of_all l.ontology (name y) a
          (subst (λ (c : Concept). Entails (all_axioms l.ontology.axioms) (record { sub = c; sup = name y; on = Any }))
          (at_top n known.count b.typing.count_is)
          (subst (λ (c : Concept). Entails (all_axioms l.ontology.axioms)
          (record { sub = class_at n known.count; sup = c; on = Any }))
          (at_name n y (omega (arith, ly, b.typing.count_is))) e));
    };
    types_shown =
        λ y ly h. record {
          lower = known.count;
          is_part = sym (is y (omega (arith, ly))) ∙ h;
          is_type = inl refl;
        };
  }

-- ---- and the last

module _ (l : OracleLists) (known : Rows) (axioms : Limited) (a : ℕ) (rows : List Limited) (types : Limited)
    (amid : IsAmid l known axioms a rows types) where
  earlier_on : (sup : Concept) (e : TestEnd) (on : On) → IsKnownOn rows a types sup e on → IsOnEarlier (a + 1) on
  earlier_on sup e Any h = tt
  earlier_on sup e (Individual c) h = h.1

  earlier_known : (e : Entry) → IsKnown rows a types e → IsEarlier (a + 1) e
  earlier_known (Test s q steps e) h = earlier_on q.sup e q.on h
  earlier_known (Node s) h = h

  member : (t u : Bool) → (t && not u) ≡ false → t ≡ true → u ≡ true
  member true true h k = refl
  member true false h k = absurd (cc h)
  member false u h k = absurd (cc k)

  -- where no class is open, the individual is settled
  pub ends : IsOpenClass known.count rows a types None → IsBefore l known axioms (a + 1) rows
  ends none = record {
    typing = record {
      in_limit = amid.typing.in_limit;
      honest = amid.typing.honest;
      goes_on = amid.typing.goes_on;
      whole = amid.typing.whole;
      count_is = amid.typing.count_is;
      order = amid.typing.order;
      is_so = amid.typing.is_so;
      candidates = record {
        are_rows = amid.typing.candidates.are_rows;
        possible = amid.typing.candidates.possible;
        sure = λ c y before_next lc ly h. elim (cases_lt c a) [
          | inl lt ↦ amid.typing.candidates.sure c y lt lc ly h
          | inr ge ↦
              let e : c ≡ a = omega (arith, before_next, ge) in
              let yc : y < known.count = omega (arith, ly, amid.typing.count_is) in
              let here : typed_by rows a y ≡ true = subst (λ (d : ℕ). typed_by rows d y ≡ true) e h in
              subst (λ (d : ℕ). IsInstance l.ontology (name y) d) (sym e)
              (amid.types_known.sure y yc (member (typed_by rows a y) (has_class types y) (none y yc) here))
        ];
      };
      shown = record {
        chains = amid.typing.shown.chains;
        pairs = amid.typing.shown.pairs;
        in_rows = λ c y before_next lc ly h. elim (cases_lt c a) [
          | inl lt ↦ amid.typing.shown.in_rows c y lt lc ly h
          | inr ge ↦
              let e : c ≡ a = omega (arith, before_next, ge) in
              let yc : y < known.count = omega (arith, ly, amid.typing.count_is) in
              let here : typed_by rows a y ≡ true = subst (λ (d : ℕ). typed_by rows d y ≡ true) e h in
              subst (λ (d : ℕ). IsShownType known l.log d y) (sym e)
              (amid.types_shown y yc (member (typed_by rows a y) (has_class types y) (none y yc) here))
        ];
        out_of_rows = amid.typing.shown.out_of_rows;
      };
    };
    earlier = All-weaker (IsKnown rows a types) (IsEarlier (a + 1)) earlier_known l.log amid.noted;
  }

  -- the same where no class was found
  pub ends_at : (r : Option ℕ) → IsOpenClass known.count rows a types r → ((x : ℕ) → r ≡ Some x → ⊥)
      → IsBefore l known axioms (a + 1) rows
  ends_at None none found = ends none
  ends_at (Some x) some found = absurd (found x refl)

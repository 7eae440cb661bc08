-- The types that are found are the direct ones.
use Rattle.std.proofs.Common.{◌≡◌, ℕ, zero, suc, ◌+◌, ◌≤◌, Bool, true, false, List, length, map, refl, sym, ap, subst}
use Rattle.std.proofs.Common.{◌∙◌, arith}
use Rattle.std.specs.Prelude.{nat_lt, if◌then◌else◌}
use Rattle.std.specs.List.{range_with_len}
use Rattle.std.proofs.lemmas.Bool.{and_from, lt-ltb}
use Rattle.axiom_sets.specs.Sets.{Limited}
use Rattle.shq_terms.specs.Concept.{Concept, top, bottom, name}
use Rattle.shq_terms.specs.Listed.{Listed}
use Rattle.shq_terms.specs.declared.axioms.On.TheVariants.{Any}
use Rattle.shq_meaning.specs.Truth.{Entails}
use Rattle.subsumption.specs.Theory.{all_axioms}
use Rattle.subsumption.specs.Entry.{Entry}
use Rattle.subsumption.specs.OracleLists.{OracleLists}
use Rattle.subsumption.specs.Rows.{Rows, holds}
use Rattle.subsumption.specs.Subsumption.{class_at}
use Rattle.subsumption.specs.Settled.{IsSettled}
use Rattle.subsumption.proofs.InLimit.{at_top, at_bottom}
use Rattle.subsumption.specs.Groups.{Parthood}
use Rattle.subsumption.specs.ClassNames.{are_listed}
use Rattle.subsumption.proofs.Passing.{below-passing}
use Rattle.realizer.specs.TypeLists.{TypeLists}
use Rattle.realizer.specs.Realization.{Typing, SaysInstances, is_direct_type, direct_types, type_lists, AreTypeLines}
use Rattle.realizer.specs.Realization.{AreTypes}
use Rattle.realizer.specs.Listing.{line_is_listed, lines_are_listed}
use Rattle.realizer.specs.TypeRows.{typed_by}
use Rattle.realizer.specs.Asked.{IsBefore}
use Rattle.realizer.specs.declared.types.Types.TheVariants.{Inconsistent, Consistent}
use Rattle.realizer.proofs.Truths.{in_each}

-- ---- the lines

-- where each individual was asked about, its row has its classes
pub rows_are_typed : (l : OracleLists) (known : Rows) (axioms : Limited) (rows : List Limited)
    → IsBefore l known axioms (length l.ontology.individuals) rows → SaysInstances l.ontology (typed_by rows)
rows_are_typed l known axioms rows b a x la lx =
    (λ h. b.typing.candidates.sure a x la la lx h, λ is. b.typing.candidates.possible a x la lx is)

pub type_lines_are : (o : Listed) (l : OracleLists) (known : Rows) (axioms : Limited) (rows : List Limited)
    (ts : List TypeLists)
    → l.ontology ≡ o → IsBefore l known axioms (length l.ontology.individuals) rows
    → ts ≡ type_lists known.count (holds known) (length o.individuals) (typed_by rows) → AreTypeLines o (holds known) ts
type_lines_are o l known axioms rows ts same b is = record {
  typed = typed_by rows;
  is_typed = subst (λ (p : Listed). SaysInstances p (typed_by rows)) same (rows_are_typed l known axioms rows b);
  lines_are =
      is ∙ ap (λ (n : ℕ). type_lists n (holds known) (length o.individuals) (typed_by rows))
      (b.typing.count_is ∙ ap (λ (p : Listed). length p.classes) same);
}

module _ (classes individuals : ℕ) (r : Parthood) (typed : Typing) where
  abbrev line_of : ℕ → TypeLists
  line_of a = record { individual = a; types = direct_types classes r (typed a) }

  types_listed : (a : ℕ) → are_listed classes (direct_types classes r (typed a)) ≡ true
  unfolding direct_types
  types_listed a = below-passing (is_direct_type classes r (typed a)) classes

  listed_from : (a n : ℕ) → a + n ≤ individuals
      → lines_are_listed classes individuals (map line_of (range_with_len a n)) ≡ true
  listed_from a zero h = refl
  listed_from a (suc n) h =
      and_from (line_is_listed classes individuals (line_of a))
      (lines_are_listed classes individuals (map line_of (range_with_len (a + 1) n)))
      (and_from (nat_lt a individuals) (are_listed classes (direct_types classes r (typed a)))
      (lt-ltb a individuals (omega (arith, h))) (types_listed a))
      (listed_from (a + 1) n (omega (arith, h)))

  pub all_listed : lines_are_listed classes individuals (type_lists classes r individuals typed) ≡ true
  all_listed = listed_from 0 individuals (omega arith)

pub lines_listed : (o : Listed) (r : Parthood) (ts : List TypeLists) → AreTypeLines o r ts
    → lines_are_listed (length o.classes) (length o.individuals) ts ≡ true
lines_listed o r ts h =
    ap (lines_are_listed (length o.classes) (length o.individuals)) h.lines_are
    ∙ all_listed (length o.classes) (length o.individuals) r h.typed

-- ---- the types

module _ (o : Listed) (log : List Entry) (r : Rows) (settled : IsSettled o log r) (all none : ℕ)
    (is_all : all ≡ r.count) (is_none : none ≡ r.count + 1) where
  abbrev n : ℕ
  n = length o.classes

  by_test : (b : Bool) → holds r all none ≡ b → holds r n (n + 1) ≡ b
  by_test b h =
      (let e : n ≡ all = sym (is_all ∙ settled.count_is) in
      let f : n + 1 ≡ none = omega (arith, settled.count_is, is_none) in (λ i. holds r (e i) (f i)))
      ∙ h

  pub types_inconsistent : holds r all none ≡ true → AreTypes o Inconsistent
  types_inconsistent h = record {
    part_of = holds r;
    is_so = settled.is_so;
    typed = λ a x. true;
    is_typed = λ a x la lx. (λ _. in_each o a (name x) nothing, λ _. refl);
    types_are =
        sym (ap (λ (b : Bool). if b then Inconsistent
        else Consistent (type_lists n (holds r) (length o.individuals) (λ a x. true)))
        (by_test true h));
  }
    where
      nothing : Entails (all_axioms o.axioms) (record { sub = top; sup = bottom; on = Any })
      nothing =
          let e = (settled.is_so n (n + 1) (omega arith) (omega arith)).0 (by_test true h) in
          subst (λ (c : Concept). Entails (all_axioms o.axioms) (record { sub = c; sup = bottom; on = Any }))
          (at_top n n refl)
          (subst (λ (c : Concept). Entails (all_axioms o.axioms) (record { sub = class_at n n; sup = c; on = Any }))
          (at_bottom n (n + 1) refl) e)

  pub types_consistent : (ts : List TypeLists) → holds r all none ≡ false → AreTypeLines o (holds r) ts
      → AreTypes o (Consistent ts)
  types_consistent ts h lines = record {
    part_of = holds r;
    is_so = settled.is_so;
    typed = lines.typed;
    is_typed = lines.is_typed;
    types_are =
        ap Consistent lines.lines_are
        ∙ sym (ap
        (λ (b : Bool). if b then Inconsistent
        else Consistent (type_lists n (holds r) (length o.individuals) lines.typed))
        (by_test false h));
  }

-- The concepts of a reached trail are in the closure.
use Rattle.std.proofs.Common.{◌≡◌, ℕ, suc, eqb, List, [], ◌∷◌, Some, None, refl, sym, subst, arith, inl, inr}
use Rattle.std.specs.List.{list_any, find, Contains}
use Rattle.std.specs.Option.{option_map}
use Rattle.std.proofs.lemmas.Bool.{cases_Bool}
use Rattle.shq_terms.specs.Concept.{Concept, parts_of}
use Rattle.calculus_specs.specs.Rows.{Part, NumberedPart, Trigger, part_at, is_numbered, row_of, row_concept}
use Rattle.calculus_specs.specs.Rows.{are_name_positions, is_some_of}
use Rattle.calculus_specs.specs.Rows.Part.{inclusion, range}
use Rattle.calculus_specs.specs.Rows.Trigger.{always, names, edge, end_of}
use Rattle.calculus_specs.specs.Rules.{Question}
use Rattle.calculus_specs.proofs.Unique.{part_list-parts_of}
use Rattle.tableau_specs.specs.KeptKinds.{IsKept}
use Rattle.tableau_specs.proofs.KeptKinds.{concepts_right}
use Rattle.search_laws.specs.Closure.{IsInClosure}
use Rattle.search_laws.specs.Closure.IsInClosure.{has_top, has_sub, has_not_sup, has_row, has_range, has_member}
use Rattle.search_laws.specs.Closure.IsInClosure.{has_conjunct, has_disjunct, has_some, has_all, has_least, has_most}
use Rattle.search_laws.specs.Closure.IsInClosure.{has_other, has_carried}
use Rattle.search_laws.specs.BoundLaws.{ConceptsAreInClosure}

-- ---- the part that a row names is one of the parts

record Found (parts : List NumberedPart) (q : Part) : Type 0 where
  numbered : NumberedPart
  is_there : Contains parts numbered
  is_it : numbered.part ≡ q

found : (a p : ℕ) (parts : List NumberedPart) (q : Part)
    → option_map (λ n. n.part) (find (is_numbered a p) parts) ≡ Some q → Found parts q
found a p [] q h = cc
found a p (n ∷ ns) q h = elim (cases_Bool (is_numbered a p n)) [
  | inl here ↦
      let e : Some n.part ≡ Some q = rw here at h in
      record { numbered = n; is_there = (0, omega arith, refl); is_it = cc }
  | inr other ↦
      let later = found a p ns q (rw other at h) in
      record {
        numbered = later.numbered;
        is_there = (suc later.is_there.0, omega (arith, later.is_there.1), later.is_there.2);
        is_it = later.is_it;
      }
]

module _ (q : Question) where
  abbrev In : Concept → Type 0
  In c = IsInClosure q c

  row_in : (a p : ℕ) (part : Part) (t : Trigger) (c : Concept) → part_at q.theory a p ≡ Some part
      → row_of part t ≡ Some c → In c
  row_in a p (inclusion cs d) always c h r =
      let f = found a p q.theory.parts (inclusion cs d) h in
      let e : row_concept cs d [] ≡ c = cc in
      subst In e (has_row f.numbered cs d [] f.is_there f.is_it refl)
  row_in a p (inclusion cs d) (names positions) c h r = elim (cases_Bool (are_name_positions cs positions)) [
    | inl good ↦
        let f = found a p q.theory.parts (inclusion cs d) h in
        let k : Some (row_concept cs d positions) ≡ Some c = rw good at r in
        let e : row_concept cs d positions ≡ c = cc in
        subst In e (has_row f.numbered cs d positions f.is_there f.is_it good)
    | inr bad ↦ let k : None ≡ Some c = rw bad at r in absurd (cc)
  ]
  row_in a p (inclusion cs d) (edge s) c h r = elim (cases_Bool (list_any (is_some_of s) cs)) [
    | inl good ↦
        let f = found a p q.theory.parts (inclusion cs d) h in
        let k : Some (row_concept cs d []) ≡ Some c = rw good at r in
        let e : row_concept cs d [] ≡ c = cc in
        subst In e (has_row f.numbered cs d [] f.is_there f.is_it refl)
    | inr bad ↦ let k : None ≡ Some c = rw bad at r in absurd (cc)
  ]
  row_in a p (inclusion cs d) (end_of s) c h r = absurd (cc)
  row_in a p (range s d) always c h r = absurd (cc)
  row_in a p (range s d) (names positions) c h r = absurd (cc)
  row_in a p (range s d) (edge t) c h r = absurd (cc)
  row_in a p (range s d) (end_of t) c h r = elim (cases_Bool (eqb t s)) [
    | inl good ↦
        let f = found a p q.theory.parts (range s d) h in
        let k : Some d ≡ Some c = rw good at r in
        let e : d ≡ c = cc in
        subst In e (has_range f.numbered s d f.is_there f.is_it)
    | inr bad ↦ let k : None ≡ Some c = rw bad at r in absurd (cc)
  ]

  closure_kept : IsKept q.theory q.fact_of In (λ r. Unit {0})
  closure_kept = record {
    top_is = has_top;
    conjunct =
        λ cs c h m. has_conjunct (parts_of cs) c h
        (subst (λ (ds : List Concept). Contains ds c) (sym (part_list-parts_of cs)) m);
    disjunct =
        λ cs c h m. has_disjunct (parts_of cs) c h
        (subst (λ (ds : List Concept). Contains ds c) (sym (part_list-parts_of cs)) m);
    filler_of_some = has_some;
    filler_of_all = has_all;
    filler_of_least = has_least;
    filler_of_most = has_most;
    complement_of_most = has_other;
    carried = λ s t c h tr b. has_carried s t c h tr;
    row = row_in;
    edge_of_some = λ r c h. tt;
    edge_of_least = λ n r c h. tt;
    member = has_member;
    pair = λ a p r x y h. tt;
  }

pub concepts_in_closure : ConceptsAreInClosure
concepts_in_closure q table rows k trail r =
    concepts_right (IsInClosure q) (λ n. Unit {0}) q table rows r.is_table r.is_choice (closure_kept q)
    q.at r.sub_number r.not_sup_number k trail (subst (IsInClosure q) (sym r.sub_reads) has_sub)
    (subst (IsInClosure q) (sym r.not_sup_reads) has_not_sup) r.follows

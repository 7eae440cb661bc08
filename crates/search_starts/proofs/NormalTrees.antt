-- Normal forms within the limits are normal trees, and so is each concept of the closure of a query in limit.
use Rattle.std.proofs.Common.{◌≡◌, ℕ, zero, suc, ◌+◌, ◌-◌, ◌<◌, ◌&&◌, leb, Bool, true, false, not, cond}
use Rattle.std.proofs.Common.{List, [], ◌∷◌, ◌++◌, map, length, filter, Some, None, refl, ap, ◌∙◌, sym, subst}
use Rattle.std.proofs.Common.{arith, inl, inr}
use Rattle.std.specs.Prelude.{slice_get, slice_index_or, if◌then◌else◌, ⊤}
use Rattle.std.specs.List.{list_any, list_all, flat_map, Contains}
use Rattle.std.proofs.lemmas.Bool.{cases_eq, and_parts, and_from, or_parts, le-leb, leb-true, eq-eqb, ne_eqb}
use Rattle.role_box.specs.Concept.{Concept, top, bottom, name, complement, intersection, union, some_of, all_of}
use Rattle.role_box.specs.Concept.{at_least, at_most, exactly, Parts, no_parts, part, parts_of, part_list}
use Rattle.role_box.specs.Axiom.{Axiom}
use Rattle.role_box.specs.Axiom.TheVariants.{SubClassOf, EquivalentClasses, DisjointClasses, DisjointUnion, SubRole}
use Rattle.role_box.specs.Axiom.TheVariants.{EquivalentRoles, Domain, Range, Functional, Transitive, Member, Pair}
use Rattle.role_box.specs.Axiom.TheVariants.{SameAll, Different}
use Rattle.role_box.specs.Numbered.{Numbered}
use Rattle.role_box.specs.Listed.{Listed}
use Rattle.role_box.specs.Query.{Query}
use Rattle.role_box.specs.Fact.{Fact}
use Rattle.role_box.specs.Fact.TheVariants.{Has, Edge, Apart, Same}
use Rattle.role_box.specs.Normal.{is_top, is_bottom, conjuncts_of, conjuncts, intersected, and_of, disjuncts_of}
use Rattle.role_box.specs.Normal.{disjuncts}
use Rattle.role_box.specs.Normal.{united, or_of, least_form, fewer_form, most_form, more_form, normal_form}
use Rattle.role_box.specs.Normal.{negated_form, normal_forms, negated_forms}
use Rattle.role_box.specs.TheoryRows.{is_name, Part, inclusion, range, NumberedPart, is_among, others_from, row_concept}
use Rattle.role_box.specs.TheoryRows.{conjuncts_in, inclusion_of}
use Rattle.shq_nnf.specs.Counts.{has_counts_within, have_counts_within}
use Rattle.shq_nnf.specs.Parts.{disjoint_pair, disjoint_parts, chain_parts, equivalent_parts}
use Rattle.shq_nnf.specs.Parts.{axiom_parts, axiom_has_counts_within}
use Rattle.shq_nnf.specs.Facts.{same_facts, apart_facts, facts_of, fact_at}
use Rattle.refutation_truth.specs.Theory.{parts_in, parts_at, numbered_parts, named_parts, fact_in, question_in}
use Rattle.search_laws.specs.Limits.{IsInLimit}
use Rattle.search_laws.specs.Closure.{IsInClosure}
use Rattle.search_laws.specs.Closure.IsInClosure.{has_top, has_sub, has_not_sup, has_row, has_range, has_member}
use Rattle.search_laws.specs.Closure.IsInClosure.{has_conjunct, has_disjunct, has_some, has_all, has_least, has_most}
use Rattle.search_laws.specs.Closure.IsInClosure.{has_other, has_carried}
use Rattle.search_laws.proofs.AllowedFacts.{given_by}
use Rattle.search_starts.specs.Normal.{is_conjunct_tree, is_disjunct_tree, is_normal_tree, are_conjuncts, are_disjuncts}

abbrev IsNormal : Concept → Type 0
IsNormal c = is_normal_tree c ≡ true

abbrev AreNormal : List Concept → Type 0
AreNormal [] = ⊤
AreNormal (c ∷ cs) = IsNormal c × AreNormal cs

all_append : (cs es : List Concept) → AreNormal cs → AreNormal es → AreNormal (cs ++ es)
all_append [] es h k = k
all_append (c ∷ cs) es h k = (h.0, all_append cs es h.1 k)

-- ---- intersections

abbrev is_and : Concept → Bool
is_and (intersection cs) = true
is_and _ = false

conj_from : (d : Concept) → is_top d ≡ false → is_bottom d ≡ false → is_and d ≡ false → is_conjunct_tree d ≡ true
conj_from top h k l = cc
conj_from bottom h k l = cc
conj_from (intersection cs) h k l = cc
conj_from (name a) h k l = refl
conj_from (complement c) h k l = refl
conj_from (union cs) h k l = refl
conj_from (some_of r c) h k l = refl
conj_from (all_of r c) h k l = refl
conj_from (at_least n r c) h k l = refl
conj_from (at_most n r c) h k l = refl
conj_from (exactly n r c) h k l = refl

conj_is_no_and : (d : Concept) → is_conjunct_tree d ≡ true → is_and d ≡ false
conj_is_no_and top h = refl
conj_is_no_and bottom h = refl
conj_is_no_and (intersection cs) h = cc
conj_is_no_and (name a) h = refl
conj_is_no_and (complement c) h = refl
conj_is_no_and (union cs) h = refl
conj_is_no_and (some_of r c) h = refl
conj_is_no_and (all_of r c) h = refl
conj_is_no_and (at_least n r c) h = refl
conj_is_no_and (at_most n r c) h = refl
conj_is_no_and (exactly n r c) h = refl

-- normal, and no intersection
abbrev ConjOpened : List Concept → Type 0
ConjOpened [] = ⊤
ConjOpened (c ∷ cs) = IsNormal c × (is_and c ≡ false) × ConjOpened cs

-- and not top
abbrev ConjKept : List Concept → Type 0
ConjKept [] = ⊤
ConjKept (c ∷ cs) = IsNormal c × (is_and c ≡ false) × (is_top c ≡ false) × ConjKept cs

conj_parts : (cs : Parts) → are_conjuncts cs ≡ true → ConjOpened (part_list cs)
conj_parts no_parts h = tt
conj_parts (part c cs) h =
    let b = and_parts (is_conjunct_tree c && is_normal_tree c) (are_conjuncts cs) h in
    let here = and_parts (is_conjunct_tree c) (is_normal_tree c) b.0 in
    (here.1, conj_is_no_and c here.0, conj_parts cs b.1)

conj_opened : (c : Concept) → IsNormal c → ConjOpened (conjuncts_of c)
conj_opened (intersection cs) h =
    conj_parts cs (and_parts (leb 2 (length (part_list cs))) (are_conjuncts cs) h).1
conj_opened top h = (h, refl, tt)
conj_opened bottom h = (h, refl, tt)
conj_opened (name a) h = (h, refl, tt)
conj_opened (complement c) h = (h, refl, tt)
conj_opened (union cs) h = (h, refl, tt)
conj_opened (some_of r c) h = (h, refl, tt)
conj_opened (all_of r c) h = (h, refl, tt)
conj_opened (at_least n r c) h = (h, refl, tt)
conj_opened (at_most n r c) h = (h, refl, tt)
conj_opened (exactly n r c) h = (h, refl, tt)

conj_opened_append : (cs es : List Concept) → ConjOpened cs → ConjOpened es → ConjOpened (cs ++ es)
conj_opened_append [] es h k = k
conj_opened_append (c ∷ cs) es h k = (h.0, h.1, conj_opened_append cs es h.2 k)

conj_all_opened : (cs : List Concept) → AreNormal cs → ConjOpened (flat_map conjuncts_of cs)
conj_all_opened [] h = tt
conj_all_opened (c ∷ cs) h =
    conj_opened_append (conjuncts_of c) (flat_map conjuncts_of cs) (conj_opened c h.0) (conj_all_opened cs h.1)

conj_kept : (cs : List Concept) → ConjOpened cs → ConjKept (filter (λ c. not (is_top c)) cs)
conj_kept [] h = tt
conj_kept (c ∷ cs) h = by (is_top c) refl (conj_kept cs h.2)
  where
    by : (b : Bool) → is_top c ≡ b → ConjKept (filter (λ e. not (is_top e)) cs)
        → ConjKept (cond (not (is_top c)) (c ∷ filter (λ e. not (is_top e)) cs) (filter (λ e. not (is_top e)) cs))
    by true e rest =
        subst ConjKept
        (sym
        (ap (λ (b : Bool). cond (not b) (c ∷ filter (λ e. not (is_top e)) cs) (filter (λ e. not (is_top e)) cs)) e))
        rest
    by false e rest =
        subst ConjKept
        (sym
        (ap (λ (b : Bool). cond (not b) (c ∷ filter (λ e. not (is_top e)) cs) (filter (λ e. not (is_top e)) cs)) e))
        (h.0, h.1, e, rest)

conj_fine : (cs : List Concept) → ConjKept cs → list_any is_bottom cs ≡ false → are_conjuncts (parts_of cs) ≡ true
conj_fine [] h k = refl
conj_fine (c ∷ cs) h k =
    let b = or_parts (is_bottom c) (list_any is_bottom cs) k in
    and_from (is_conjunct_tree c && is_normal_tree c) (are_conjuncts (parts_of cs))
    (and_from (is_conjunct_tree c) (is_normal_tree c) (conj_from c h.2 b.0 h.1) h.0) (conj_fine cs h.3 b.1)

conj_intersected : (cs : List Concept) → are_conjuncts (parts_of cs) ≡ true → IsNormal (intersected cs)
conj_intersected [] h = refl
conj_intersected (c ∷ []) h =
    (and_parts (is_conjunct_tree c) (is_normal_tree c) (and_parts (is_conjunct_tree c && is_normal_tree c) true h).0).1
conj_intersected (c ∷ e ∷ cs) h =
    and_from (leb 2 (length (c ∷ e ∷ part_list (parts_of cs)))) (are_conjuncts (parts_of (c ∷ e ∷ cs)))
    (le-leb 2 (length (c ∷ e ∷ part_list (parts_of cs))) (omega arith)) h

and_normal : (cs : List Concept) → AreNormal cs → IsNormal (and_of cs)
and_normal cs h = by (list_any is_bottom (conjuncts cs)) refl
  where
    by : (b : Bool) → list_any is_bottom (conjuncts cs) ≡ b → IsNormal (and_of cs)
    by true e =
        subst IsNormal (sym (ap (λ (b : Bool). if b then bottom else intersected (conjuncts cs)) e)) refl
    by false e =
        subst IsNormal (sym (ap (λ (b : Bool). if b then bottom else intersected (conjuncts cs)) e))
        (conj_intersected (conjuncts cs)
        (conj_fine (conjuncts cs) (conj_kept (flat_map conjuncts_of cs) (conj_all_opened cs h)) e))

-- ---- unions

abbrev is_or : Concept → Bool
is_or (union cs) = true
is_or _ = false

disj_from : (d : Concept) → is_bottom d ≡ false → is_top d ≡ false → is_or d ≡ false → is_disjunct_tree d ≡ true
disj_from bottom h k l = cc
disj_from top h k l = cc
disj_from (union cs) h k l = cc
disj_from (name a) h k l = refl
disj_from (complement c) h k l = refl
disj_from (intersection cs) h k l = refl
disj_from (some_of r c) h k l = refl
disj_from (all_of r c) h k l = refl
disj_from (at_least n r c) h k l = refl
disj_from (at_most n r c) h k l = refl
disj_from (exactly n r c) h k l = refl

disj_is_no_or : (d : Concept) → is_disjunct_tree d ≡ true → is_or d ≡ false
disj_is_no_or bottom h = refl
disj_is_no_or top h = refl
disj_is_no_or (union cs) h = cc
disj_is_no_or (name a) h = refl
disj_is_no_or (complement c) h = refl
disj_is_no_or (intersection cs) h = refl
disj_is_no_or (some_of r c) h = refl
disj_is_no_or (all_of r c) h = refl
disj_is_no_or (at_least n r c) h = refl
disj_is_no_or (at_most n r c) h = refl
disj_is_no_or (exactly n r c) h = refl

-- normal, and no union
abbrev DisjOpened : List Concept → Type 0
DisjOpened [] = ⊤
DisjOpened (c ∷ cs) = IsNormal c × (is_or c ≡ false) × DisjOpened cs

-- and not bottom
abbrev DisjKept : List Concept → Type 0
DisjKept [] = ⊤
DisjKept (c ∷ cs) = IsNormal c × (is_or c ≡ false) × (is_bottom c ≡ false) × DisjKept cs

disj_parts : (cs : Parts) → are_disjuncts cs ≡ true → DisjOpened (part_list cs)
disj_parts no_parts h = tt
disj_parts (part c cs) h =
    let b = and_parts (is_disjunct_tree c && is_normal_tree c) (are_disjuncts cs) h in
    let here = and_parts (is_disjunct_tree c) (is_normal_tree c) b.0 in
    (here.1, disj_is_no_or c here.0, disj_parts cs b.1)

disj_opened : (c : Concept) → IsNormal c → DisjOpened (disjuncts_of c)
disj_opened (union cs) h =
    disj_parts cs (and_parts (leb 2 (length (part_list cs))) (are_disjuncts cs) h).1
disj_opened bottom h = (h, refl, tt)
disj_opened top h = (h, refl, tt)
disj_opened (name a) h = (h, refl, tt)
disj_opened (complement c) h = (h, refl, tt)
disj_opened (intersection cs) h = (h, refl, tt)
disj_opened (some_of r c) h = (h, refl, tt)
disj_opened (all_of r c) h = (h, refl, tt)
disj_opened (at_least n r c) h = (h, refl, tt)
disj_opened (at_most n r c) h = (h, refl, tt)
disj_opened (exactly n r c) h = (h, refl, tt)

disj_opened_append : (cs es : List Concept) → DisjOpened cs → DisjOpened es → DisjOpened (cs ++ es)
disj_opened_append [] es h k = k
disj_opened_append (c ∷ cs) es h k = (h.0, h.1, disj_opened_append cs es h.2 k)

disj_all_opened : (cs : List Concept) → AreNormal cs → DisjOpened (flat_map disjuncts_of cs)
disj_all_opened [] h = tt
disj_all_opened (c ∷ cs) h =
    disj_opened_append (disjuncts_of c) (flat_map disjuncts_of cs) (disj_opened c h.0) (disj_all_opened cs h.1)

disj_kept : (cs : List Concept) → DisjOpened cs → DisjKept (filter (λ c. not (is_bottom c)) cs)
disj_kept [] h = tt
disj_kept (c ∷ cs) h = by (is_bottom c) refl (disj_kept cs h.2)
  where
    by : (b : Bool) → is_bottom c ≡ b → DisjKept (filter (λ e. not (is_bottom e)) cs)
        → DisjKept (cond (not (is_bottom c)) (c ∷ filter (λ e. not (is_bottom e)) cs) (filter (λ e. not (is_bottom e)) cs))
    by true e rest =
        subst DisjKept
        (sym
        (ap
        (λ (b : Bool). cond (not b) (c ∷ filter (λ e. not (is_bottom e)) cs) (filter (λ e. not (is_bottom e)) cs)) e))
        rest
    by false e rest =
        subst DisjKept
        (sym
        (ap
        (λ (b : Bool). cond (not b) (c ∷ filter (λ e. not (is_bottom e)) cs) (filter (λ e. not (is_bottom e)) cs)) e))
        (h.0, h.1, e, rest)

disj_fine : (cs : List Concept) → DisjKept cs → list_any is_top cs ≡ false → are_disjuncts (parts_of cs) ≡ true
disj_fine [] h k = refl
disj_fine (c ∷ cs) h k =
    let b = or_parts (is_top c) (list_any is_top cs) k in
    and_from (is_disjunct_tree c && is_normal_tree c) (are_disjuncts (parts_of cs))
    (and_from (is_disjunct_tree c) (is_normal_tree c) (disj_from c h.2 b.0 h.1) h.0) (disj_fine cs h.3 b.1)

disj_united : (cs : List Concept) → are_disjuncts (parts_of cs) ≡ true → IsNormal (united cs)
disj_united [] h = refl
disj_united (c ∷ []) h =
    (and_parts (is_disjunct_tree c) (is_normal_tree c) (and_parts (is_disjunct_tree c && is_normal_tree c) true h).0).1
disj_united (c ∷ e ∷ cs) h =
    and_from (leb 2 (length (c ∷ e ∷ part_list (parts_of cs)))) (are_disjuncts (parts_of (c ∷ e ∷ cs)))
    (le-leb 2 (length (c ∷ e ∷ part_list (parts_of cs))) (omega arith)) h

or_normal : (cs : List Concept) → AreNormal cs → IsNormal (or_of cs)
or_normal cs h = by (list_any is_top (disjuncts cs)) refl
  where
    by : (b : Bool) → list_any is_top (disjuncts cs) ≡ b → IsNormal (or_of cs)
    by true e =
        subst IsNormal (sym (ap (λ (b : Bool). if b then top else united (disjuncts cs)) e)) refl
    by false e =
        subst IsNormal (sym (ap (λ (b : Bool). if b then top else united (disjuncts cs)) e))
        (disj_united (disjuncts cs)
        (disj_fine (disjuncts cs) (disj_kept (flat_map disjuncts_of cs) (disj_all_opened cs h)) e))

-- ---- cardinalities

least_normal : (n r : ℕ) (c : Concept) → leb n 101 ≡ true → IsNormal c → IsNormal (least_form n r c)
least_normal zero r c h k = refl
least_normal (suc zero) r c h k = k
least_normal (suc (suc n)) r c h k =
    and_from (leb 2 (suc (suc n)) && leb (suc (suc n)) 101) (is_normal_tree c)
    (and_from (leb 2 (suc (suc n))) (leb (suc (suc n)) 101) (le-leb 2 (suc (suc n)) (omega arith)) h) k

fewer_normal : (n r : ℕ) (c e : Concept) → leb n 101 ≡ true → IsNormal c → IsNormal e → IsNormal (fewer_form n r c e)
fewer_normal zero r c e h k l = refl
fewer_normal (suc zero) r c e h k l = l
fewer_normal (suc (suc n)) r c e h k l =
    let le = leb-true (suc (suc n)) 101 h in
    and_from (leb 1 (suc n) && leb (suc n) 100) (is_normal_tree c)
    (and_from (leb 1 (suc n)) (leb (suc n) 100) (le-leb 1 (suc n) (omega arith))
    (le-leb (suc n) 100 (omega (arith, le)))) k

most_normal : (n r : ℕ) (c e : Concept) → leb n 100 ≡ true → IsNormal c → IsNormal e → IsNormal (most_form n r c e)
most_normal zero r c e h k l = l
most_normal (suc n) r c e h k l =
    and_from (leb 1 (suc n) && leb (suc n) 100) (is_normal_tree c)
    (and_from (leb 1 (suc n)) (leb (suc n) 100) (le-leb 1 (suc n) (omega arith)) h) k

more_normal : (n r : ℕ) (c : Concept) → leb n 100 ≡ true → IsNormal c → IsNormal (more_form n r c)
more_normal zero r c h k = k
more_normal (suc n) r c h k =
    let le = leb-true (suc n) 100 h in
    and_from (leb 2 (suc (suc n)) && leb (suc (suc n)) 101) (is_normal_tree c)
    (and_from (leb 2 (suc (suc n))) (leb (suc (suc n)) 101) (le-leb 2 (suc (suc n)) (omega arith))
    (le-leb (suc (suc n)) 101 (omega (arith, le)))) k

wider : (n : ℕ) → leb n 100 ≡ true → leb n 101 ≡ true
wider n h = let le = leb-true n 100 h in le-leb n 101 (omega (arith, le))

-- ---- any class expression

-- whether no number is too great for the forms of the expression
abbrev mutual
  fits : Concept → Bool
  fits top = true
  fits bottom = true
  fits (name a) = true
  fits (complement c) = fits c
  fits (intersection cs) = all_fit cs
  fits (union cs) = all_fit cs
  fits (some_of r c) = fits c
  fits (all_of r c) = fits c
  fits (at_least n r c) = leb n 101 && fits c
  fits (at_most n r c) = leb n 100 && fits c
  fits (exactly n r c) = leb n 100 && fits c

  all_fit : Parts → Bool
  all_fit no_parts = true
  all_fit (part c cs) = fits c && all_fit cs

abbrev F : Concept → Type 0
F c = fits c ≡ true

mutual
  normal_of : (c : Concept) → F c → IsNormal (normal_form c)
  normal_of top h = refl
  normal_of bottom h = refl
  normal_of (name a) h = refl
  normal_of (complement c) h = negated_of c h
  normal_of (intersection cs) h = and_normal (normal_forms cs) (normals_of cs h)
  normal_of (union cs) h = or_normal (normal_forms cs) (normals_of cs h)
  normal_of (some_of r c) h = normal_of c h
  normal_of (all_of r c) h = normal_of c h
  normal_of (at_least n r c) h =
      let b = and_parts (leb n 101) (fits c) h in least_normal n r (normal_form c) b.0 (normal_of c b.1)
  normal_of (at_most n r c) h =
      let b = and_parts (leb n 100) (fits c) h in
      most_normal n r (normal_form c) (negated_form c) b.0 (normal_of c b.1) (negated_of c b.1)
  normal_of (exactly n r c) h =
      let b = and_parts (leb n 100) (fits c) h in
      let k = normal_of c b.1 in
      and_normal (least_form n r (normal_form c) ∷ most_form n r (normal_form c) (negated_form c) ∷ []) (
        least_normal n r (normal_form c) (wider n b.0) k,
        (most_normal n r (normal_form c) (negated_form c) b.0 k (negated_of c b.1), tt),
      )

  negated_of : (c : Concept) → F c → IsNormal (negated_form c)
  negated_of top h = refl
  negated_of bottom h = refl
  negated_of (name a) h = refl
  negated_of (complement c) h = normal_of c h
  negated_of (intersection cs) h = or_normal (negated_forms cs) (negateds_of cs h)
  negated_of (union cs) h = and_normal (negated_forms cs) (negateds_of cs h)
  negated_of (some_of r c) h = negated_of c h
  negated_of (all_of r c) h = negated_of c h
  negated_of (at_least n r c) h =
      let b = and_parts (leb n 101) (fits c) h in
      fewer_normal n r (normal_form c) (negated_form c) b.0 (normal_of c b.1) (negated_of c b.1)
  negated_of (at_most n r c) h =
      let b = and_parts (leb n 100) (fits c) h in more_normal n r (normal_form c) b.0 (normal_of c b.1)
  negated_of (exactly n r c) h =
      let b = and_parts (leb n 100) (fits c) h in
      let k = normal_of c b.1 in
      or_normal (fewer_form n r (normal_form c) (negated_form c) ∷ more_form n r (normal_form c) ∷ []) (
        fewer_normal n r (normal_form c) (negated_form c) (wider n b.0) k (negated_of c b.1),
        (more_normal n r (normal_form c) b.0 k, tt),
      )

  normals_of : (cs : Parts) → all_fit cs ≡ true → AreNormal (normal_forms cs)
  normals_of no_parts h = tt
  normals_of (part c cs) h =
      let b = and_parts (fits c) (all_fit cs) h in (normal_of c b.0, normals_of cs b.1)

  negateds_of : (cs : Parts) → all_fit cs ≡ true → AreNormal (negated_forms cs)
  negateds_of no_parts h = tt
  negateds_of (part c cs) h =
      let b = and_parts (fits c) (all_fit cs) h in (negated_of c b.0, negateds_of cs b.1)

name_fits : (c : Concept) → is_name c ≡ true → F c
name_fits (name a) h = refl
name_fits top h = cc
name_fits bottom h = cc
name_fits (complement c) h = cc
name_fits (intersection cs) h = cc
name_fits (union cs) h = cc
name_fits (some_of r c) h = cc
name_fits (all_of r c) h = cc
name_fits (at_least n r c) h = cc
name_fits (at_most n r c) h = cc
name_fits (exactly n r c) h = cc

mutual
  normal_fits : (c : Concept) → IsNormal c → F c
  normal_fits top h = refl
  normal_fits bottom h = refl
  normal_fits (name a) h = refl
  normal_fits (complement c) h = name_fits c h
  normal_fits (intersection cs) h =
      conjuncts_fit cs (and_parts (leb 2 (length (part_list cs))) (are_conjuncts cs) h).1
  normal_fits (union cs) h = disjuncts_fit cs (and_parts (leb 2 (length (part_list cs))) (are_disjuncts cs) h).1
  normal_fits (some_of r c) h = normal_fits c h
  normal_fits (all_of r c) h = normal_fits c h
  normal_fits (at_least n r c) h =
      let b = and_parts (leb 2 n && leb n 101) (is_normal_tree c) h in
      and_from (leb n 101) (fits c) (and_parts (leb 2 n) (leb n 101) b.0).1 (normal_fits c b.1)
  normal_fits (at_most n r c) h =
      let b = and_parts (leb 1 n && leb n 100) (is_normal_tree c) h in
      and_from (leb n 100) (fits c) (and_parts (leb 1 n) (leb n 100) b.0).1 (normal_fits c b.1)
  normal_fits (exactly n r c) h = cc

  conjuncts_fit : (cs : Parts) → are_conjuncts cs ≡ true → all_fit cs ≡ true
  conjuncts_fit no_parts h = refl
  conjuncts_fit (part c cs) h =
      let b = and_parts (is_conjunct_tree c && is_normal_tree c) (are_conjuncts cs) h in
      and_from (fits c) (all_fit cs) (normal_fits c (and_parts (is_conjunct_tree c) (is_normal_tree c) b.0).1)
      (conjuncts_fit cs b.1)

  disjuncts_fit : (cs : Parts) → are_disjuncts cs ≡ true → all_fit cs ≡ true
  disjuncts_fit no_parts h = refl
  disjuncts_fit (part c cs) h =
      let b = and_parts (is_disjunct_tree c && is_normal_tree c) (are_disjuncts cs) h in
      and_from (fits c) (all_fit cs) (normal_fits c (and_parts (is_disjunct_tree c) (is_normal_tree c) b.0).1)
      (disjuncts_fit cs b.1)

mutual
  counts_fit : (c : Concept) → has_counts_within 100 c ≡ true → F c
  counts_fit top h = refl
  counts_fit bottom h = refl
  counts_fit (name a) h = refl
  counts_fit (complement c) h = counts_fit c h
  counts_fit (intersection cs) h = all_counts_fit cs h
  counts_fit (union cs) h = all_counts_fit cs h
  counts_fit (some_of r c) h = counts_fit c h
  counts_fit (all_of r c) h = counts_fit c h
  counts_fit (at_least n r c) h =
      let b = and_parts (leb n 100) (has_counts_within 100 c) h in
      and_from (leb n 101) (fits c) (wider n b.0) (counts_fit c b.1)
  counts_fit (at_most n r c) h =
      let b = and_parts (leb n 100) (has_counts_within 100 c) h in
      and_from (leb n 100) (fits c) b.0 (counts_fit c b.1)
  counts_fit (exactly n r c) h =
      let b = and_parts (leb n 100) (has_counts_within 100 c) h in
      and_from (leb n 100) (fits c) b.0 (counts_fit c b.1)

  all_counts_fit : (cs : Parts) → have_counts_within 100 cs ≡ true → all_fit cs ≡ true
  all_counts_fit no_parts h = refl
  all_counts_fit (part c cs) h =
      let b = and_parts (has_counts_within 100 c) (have_counts_within 100 cs) h in
      and_from (fits c) (all_fit cs) (counts_fit c b.0) (all_counts_fit cs b.1)

-- ---- parts of axioms

abbrev PartN : Part → Type 0
PartN (inclusion cs e) = AreNormal cs × IsNormal e
PartN (range r e) = IsNormal e

abbrev PartNs : List Part → Type 0
PartNs [] = ⊤
PartNs (p ∷ ps) = PartN p × PartNs ps

parts_append : (ps qs : List Part) → PartNs ps → PartNs qs → PartNs (ps ++ qs)
parts_append [] qs h k = k
parts_append (p ∷ ps) qs h k = (h.0, parts_append ps qs h.1 k)

opened_normal : (cs : List Concept) → ConjOpened cs → AreNormal cs
opened_normal [] h = tt
opened_normal (c ∷ cs) h = (h.0, opened_normal cs h.2)

conjuncts_normal : (c : Concept) → IsNormal c → AreNormal (conjuncts_in c)
conjuncts_normal top h = tt
conjuncts_normal (intersection cs) h =
    opened_normal (part_list cs) (conj_parts cs (and_parts (leb 2 (length (part_list cs))) (are_conjuncts cs) h).1)
conjuncts_normal bottom h = (h, tt)
conjuncts_normal (name a) h = (h, tt)
conjuncts_normal (complement c) h = (h, tt)
conjuncts_normal (union cs) h = (h, tt)
conjuncts_normal (some_of r c) h = (h, tt)
conjuncts_normal (all_of r c) h = (h, tt)
conjuncts_normal (at_least n r c) h = (h, tt)
conjuncts_normal (at_most n r c) h = (h, tt)
conjuncts_normal (exactly n r c) h = (h, tt)

inclusion_normal : (c e : Concept) → F c → F e → PartN (inclusion_of c e)
inclusion_normal c e h k = (conjuncts_normal (normal_form c) (normal_of c h), normal_of e k)

abbrev Fs : List Concept → Type 0
Fs [] = ⊤
Fs (c ∷ cs) = F c × Fs cs

lists_fit : (cs : List Concept) → have_counts_within 100 (parts_of cs) ≡ true → Fs cs
lists_fit [] h = tt
lists_fit (c ∷ cs) h =
    let b = and_parts (has_counts_within 100 c) (have_counts_within 100 (parts_of cs)) h in
    (counts_fit c b.0, lists_fit cs b.1)

chain_normal : (f : Concept) → F f → (cs : List Concept) → Fs cs → PartNs (chain_parts f cs)
chain_normal f h [] k = tt
chain_normal f h (c ∷ []) k = (inclusion_normal c f k.0 h, tt)
chain_normal f h (c ∷ e ∷ es) k = (inclusion_normal c e k.0 k.1.0, chain_normal f h (e ∷ es) k.1)

equivalent_normal : (cs : List Concept) → Fs cs → PartNs (equivalent_parts cs)
equivalent_normal [] h = tt
equivalent_normal (c ∷ cs) h = chain_normal c h.0 (c ∷ cs) h

pairs_normal : (c : Concept) → F c → (cs : List Concept) → Fs cs → PartNs (map (disjoint_pair c) cs)
pairs_normal c h [] k = tt
pairs_normal c h (e ∷ es) k = (inclusion_normal c (complement e) h k.0, pairs_normal c h es k.1)

disjoint_normal : (cs : List Concept) → Fs cs → PartNs (disjoint_parts cs)
disjoint_normal [] h = tt
disjoint_normal (c ∷ cs) h =
    parts_append (map (disjoint_pair c) cs) (disjoint_parts cs) (pairs_normal c h.0 cs h.1) (disjoint_normal cs h.1)

within_normal : (a : Concept) → F a → (cs : List Concept) → Fs cs → PartNs (map (λ c. inclusion_of c a) cs)
within_normal a h [] k = tt
within_normal a h (c ∷ cs) k = (inclusion_normal c a k.0 h, within_normal a h cs k.1)

axiom_normal : (a : Axiom) → axiom_has_counts_within 100 a ≡ true → PartNs (axiom_parts a)
axiom_normal (SubClassOf c e) h =
    let b = and_parts (has_counts_within 100 c) (has_counts_within 100 e) h in
    (inclusion_normal c e (counts_fit c b.0) (counts_fit e b.1), tt)
axiom_normal (EquivalentClasses cs) h = equivalent_normal cs (lists_fit cs h)
axiom_normal (DisjointClasses cs) h = disjoint_normal cs (lists_fit cs h)
axiom_normal (DisjointUnion a cs) h =
    let b = and_parts (has_counts_within 100 a) (have_counts_within 100 (parts_of cs)) h in
    let fa = counts_fit a b.0 in
    let fs = lists_fit cs b.1 in (
      inclusion_normal a (union (parts_of cs)) fa (all_counts_fit (parts_of cs) b.1),
      parts_append (map (λ c. inclusion_of c a) cs) (disjoint_parts cs) (within_normal a fa cs fs)
          (disjoint_normal cs fs),
    )
axiom_normal (SubRole r s) h = tt
axiom_normal (EquivalentRoles rs) h = tt
axiom_normal (Domain r c) h = (inclusion_normal (some_of r top) c refl (counts_fit c h), tt)
axiom_normal (Range r c) h = (normal_of c (counts_fit c h), tt)
axiom_normal (Functional r) h = (inclusion_normal top (at_most 1 r top) refl refl, tt)
axiom_normal (Transitive r) h = tt
axiom_normal (Member c a) h = tt
axiom_normal (Pair r a b) h = tt
axiom_normal (SameAll as_) h = tt
axiom_normal (Different as_) h = tt

abbrev counted : List Numbered → Bool
counted axioms = list_all (λ (a : Numbered). axiom_has_counts_within 100 a.axiom) axioms

at_normal : (axioms : List Numbered) (n : ℕ) → counted axioms ≡ true → PartNs (parts_in (slice_get axioms n))
at_normal [] n h = tt
at_normal (a ∷ axioms) zero h =
    axiom_normal a.axiom (and_parts (axiom_has_counts_within 100 a.axiom) (counted axioms) h).0
at_normal (a ∷ axioms) (suc n) h =
    at_normal axioms n (and_parts (axiom_has_counts_within 100 a.axiom) (counted axioms) h).1

abbrev AreNumbered : List NumberedPart → Type 0
AreNumbered [] = ⊤
AreNumbered (n ∷ ns) = PartN n.part × AreNumbered ns

numbered_append : (ns ms : List NumberedPart) → AreNumbered ns → AreNumbered ms → AreNumbered (ns ++ ms)
numbered_append [] ms h k = k
numbered_append (n ∷ ns) ms h k = (h.0, numbered_append ns ms h.1 k)

numbered_normal : (k first : ℕ) (ps : List Part) → PartNs ps → AreNumbered (numbered_parts k first ps)
numbered_normal k first [] h = tt
numbered_normal k first (p ∷ ps) h = (h.0, numbered_normal k (first + 1) ps h.1)

named_normal : (axioms : List Numbered) (ks : List ℕ) → counted axioms ≡ true → AreNumbered (named_parts axioms ks)
named_normal axioms [] h = tt
named_normal axioms (k ∷ ks) h =
    numbered_append (numbered_parts k 1 (parts_at axioms k)) (named_parts axioms ks)
    (numbered_normal k 1 (parts_at axioms k) (at_normal axioms (k - 1) h)) (named_normal axioms ks h)

one_of : (ns : List NumberedPart) → AreNumbered ns → (n : NumberedPart) (k : ℕ) → k < length ns
    → slice_index_or ns k n ≡ n → PartN n.part
one_of [] h n k lt is = absurd (omega (arith, lt))
one_of (m ∷ ns) h n zero lt is = subst (λ (x : NumberedPart). PartN x.part) is h.0
one_of (m ∷ ns) h n (suc k) lt is = one_of ns h.1 n k (omega (arith, lt)) is

others_normal : (first : ℕ) (positions : List ℕ) (cs : List Concept) → AreNormal cs
    → AreNormal (map negated_form (others_from first positions cs))
others_normal first positions [] h = tt
others_normal first positions (c ∷ cs) h =
    by (is_among positions first) refl (others_normal (first + 1) positions cs h.1)
  where
    by : (b : Bool) → is_among positions first ≡ b → AreNormal (map negated_form (others_from (first + 1) positions cs))
        → AreNormal (map negated_form (others_from first positions (c ∷ cs)))
    by true e rest =
        subst (λ (l : List Concept). AreNormal (map negated_form l))
        (sym (ap (λ (b : Bool). cond b (others_from (first + 1) positions cs) (c ∷ others_from (first + 1) positions cs))
        e))
        rest
    by false e rest =
        subst (λ (l : List Concept). AreNormal (map negated_form l))
        (sym (ap (λ (b : Bool). cond b (others_from (first + 1) positions cs) (c ∷ others_from (first + 1) positions cs))
        e))
        (negated_of c (normal_fits c h.0), rest)

row_normal : (cs : List Concept) (e : Concept) (positions : List ℕ) → AreNormal cs → IsNormal e
    → IsNormal (row_concept cs e positions)
row_normal cs e positions h k =
    or_normal (map negated_form (others_from 1 positions cs) ++ e ∷ [])
    (all_append (map negated_form (others_from 1 positions cs)) (e ∷ []) (others_normal 1 positions cs h) (k, tt))

-- ---- facts

abbrev FactN : Fact Concept → Type 0
FactN (Has x c) = IsNormal c
FactN (Edge r x y) = ⊤
FactN (Apart x y) = ⊤
FactN (Same x y) = ⊤

abbrev FactNs : List (Fact Concept) → Type 0
FactNs [] = ⊤
FactNs (f ∷ fs) = FactN f × FactNs fs

facts_append : (fs gs : List (Fact Concept)) → FactNs fs → FactNs gs → FactNs (fs ++ gs)
facts_append [] gs h k = k
facts_append (f ∷ fs) gs h k = (h.0, facts_append fs gs h.1 k)

same_normal : (as_ : List ℕ) → FactNs (same_facts as_)
same_normal [] = tt
same_normal (a ∷ []) = tt
same_normal (a ∷ b ∷ bs) = (tt, same_normal (b ∷ bs))

aparts_normal : (a : ℕ) (as_ : List ℕ) → FactNs (map (Apart a) as_)
aparts_normal a [] = tt
aparts_normal a (b ∷ bs) = (tt, aparts_normal a bs)

apart_normal : (as_ : List ℕ) → FactNs (apart_facts as_)
apart_normal [] = tt
apart_normal (a ∷ as_) = facts_append (map (Apart a) as_) (apart_facts as_) (aparts_normal a as_) (apart_normal as_)

facts_normal : (a : Axiom) → axiom_has_counts_within 100 a ≡ true → FactNs (facts_of a)
facts_normal (Member c a) h = (normal_of c (counts_fit c h), tt)
facts_normal (Pair r a b) h = (tt, tt)
facts_normal (SameAll as_) h = same_normal as_
facts_normal (Different as_) h = apart_normal as_
facts_normal (SubClassOf c e) h = tt
facts_normal (EquivalentClasses cs) h = tt
facts_normal (DisjointClasses cs) h = tt
facts_normal (DisjointUnion a cs) h = tt
facts_normal (SubRole r s) h = tt
facts_normal (EquivalentRoles rs) h = tt
facts_normal (Domain r c) h = tt
facts_normal (Range r c) h = tt
facts_normal (Functional r) h = tt
facts_normal (Transitive r) h = tt

got_normal : (fs : List (Fact Concept)) (n : ℕ) (f : Fact Concept) → FactNs fs → slice_get fs n ≡ Some f → FactN f
got_normal [] n f h e = cc
got_normal (g ∷ fs) zero f h e = let same : g ≡ f = cc in subst FactN same h.0
got_normal (g ∷ fs) (suc n) f h e = got_normal fs n f h.1 e

fact_normal : (a : Axiom) (place : ℕ) (f : Fact Concept) → axiom_has_counts_within 100 a ≡ true
    → fact_at a place ≡ Some f → FactN f
fact_normal a place f h e = elim (cases_eq place 0) [
  | inl is ↦
      let none : fact_at a place ≡ None =
      ap (λ (b : Bool). if b then None else slice_get (facts_of a) (place - 1)) (eq-eqb place 0 is) in
      cc
  | inr isnt ↦
      let given : fact_at a place ≡ slice_get (facts_of a) (place - 1) =
      ap (λ (b : Bool). if b then None else slice_get (facts_of a) (place - 1)) (ne_eqb place 0 isnt) in
      got_normal (facts_of a) (place - 1) f (facts_normal a h) (sym given ∙ e)
]

in_normal : (axioms : List Numbered) (n place : ℕ) (f : Fact Concept) → counted axioms ≡ true
    → fact_in (slice_get axioms n) place ≡ Some f → FactN f
in_normal [] n place f h e = cc
in_normal (a ∷ axioms) zero place f h e =
    fact_normal a.axiom place f (and_parts (axiom_has_counts_within 100 a.axiom) (counted axioms) h).0 e
in_normal (a ∷ axioms) (suc n) place f h e =
    in_normal axioms n place f (and_parts (axiom_has_counts_within 100 a.axiom) (counted axioms) h).1 e

-- ---- the closure

conj_at : (cs : Parts) (c : Concept) → are_conjuncts cs ≡ true → (k : ℕ) → k < length (part_list cs)
    → slice_index_or (part_list cs) k c ≡ c → IsNormal c
conj_at no_parts c h k lt is = absurd (omega (arith, lt))
conj_at (part e cs) c h zero lt is =
    let b = and_parts (is_conjunct_tree e && is_normal_tree e) (are_conjuncts cs) h in
    subst IsNormal is (and_parts (is_conjunct_tree e) (is_normal_tree e) b.0).1
conj_at (part e cs) c h (suc k) lt is =
    conj_at cs c (and_parts (is_conjunct_tree e && is_normal_tree e) (are_conjuncts cs) h).1 k (omega (arith, lt)) is

disj_at : (cs : Parts) (c : Concept) → are_disjuncts cs ≡ true → (k : ℕ) → k < length (part_list cs)
    → slice_index_or (part_list cs) k c ≡ c → IsNormal c
disj_at no_parts c h k lt is = absurd (omega (arith, lt))
disj_at (part e cs) c h zero lt is =
    let b = and_parts (is_disjunct_tree e && is_normal_tree e) (are_disjuncts cs) h in
    subst IsNormal is (and_parts (is_disjunct_tree e) (is_normal_tree e) b.0).1
disj_at (part e cs) c h (suc k) lt is =
    disj_at cs c (and_parts (is_disjunct_tree e && is_normal_tree e) (are_disjuncts cs) h).1 k (omega (arith, lt)) is

module _ (o : Listed) (ks : List ℕ) (q : Query) (within : IsInLimit o q) where
  query_fits : F q.sub × F q.sup
  query_fits =
      let b = and_parts (has_counts_within 100 q.sub) (has_counts_within 100 q.sup) within.counts in
      (counts_fit q.sub b.0, counts_fit q.sup b.1)

  part_normal : (n : NumberedPart) → Contains (named_parts o.axioms ks) n → PartN n.part
  part_normal n at =
      one_of (named_parts o.axioms ks) (named_normal o.axioms ks within.ontology.counts) n at.0 at.1 at.2

  pub closure_normal : (c : Concept) → IsInClosure (question_in o ks q) c → IsNormal c
  closure_normal c has_top = refl
  closure_normal c has_sub = normal_of q.sub query_fits.0
  closure_normal c has_not_sup = negated_of q.sup query_fits.1
  closure_normal c (has_row n cs e positions at is names) =
      let p : AreNormal cs × IsNormal e = subst PartN is (part_normal n at) in row_normal cs e positions p.0 p.1
  closure_normal c (has_range n r e at is) = let p : IsNormal e = subst PartN is (part_normal n at) in p
  closure_normal c (has_member a p x e given) =
      let by = given_by (length o.individuals) o.axioms ks a p (Has x e) given in
      in_normal o.axioms (a - 1) p (Has x e) within.ontology.counts by.is_in
  closure_normal c (has_conjunct cs e h at) =
      let k = closure_normal (intersection cs) h in
      conj_at cs e (and_parts (leb 2 (length (part_list cs))) (are_conjuncts cs) k).1 at.0 at.1 at.2
  closure_normal c (has_disjunct cs e h at) =
      let k = closure_normal (union cs) h in
      disj_at cs e (and_parts (leb 2 (length (part_list cs))) (are_disjuncts cs) k).1 at.0 at.1 at.2
  closure_normal c (has_some r e h) = closure_normal (some_of r e) h
  closure_normal c (has_all r e h) = closure_normal (all_of r e) h
  closure_normal c (has_least n r e h) =
      (and_parts (leb 2 n && leb n 101) (is_normal_tree e) (closure_normal (at_least n r e) h)).1
  closure_normal c (has_most n r e h) =
      (and_parts (leb 1 n && leb n 100) (is_normal_tree e) (closure_normal (at_most n r e) h)).1
  closure_normal c (has_other n r e h) =
      let k = (and_parts (leb 1 n && leb n 100) (is_normal_tree e) (closure_normal (at_most n r e) h)).1 in
      negated_of e (normal_fits e k)
  closure_normal c (has_carried s t e h transitive) = closure_normal (all_of s e) h

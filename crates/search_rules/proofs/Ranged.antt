-- A range is the first part of its axiom.
use Rattle.std.proofs.Common.{◌≡◌, ℕ, zero, suc, ◌-◌, ◌<◌, ◌&&◌, Bool, true, false, List, [], ◌∷◌, ◌++◌, map, length}
use Rattle.std.proofs.Common.{Option, Some, None, refl, sym, ◌∙◌, arith, cond, leb}
use Rattle.std.specs.Prelude.{slice_get}
use Rattle.std.specs.List.{list_all}
use Rattle.std.proofs.lemmas.Bool.{and_parts, leb-true}
use Rattle.shq_terms.specs.Concept.{Concept}
use Rattle.shq_terms.specs.declared.axioms.Axiom.{Axiom}
use Rattle.shq_terms.specs.declared.axioms.Axiom.TheVariants.{SubClassOf, EquivalentClasses, DisjointClasses}
use Rattle.shq_terms.specs.declared.axioms.Axiom.TheVariants.{DisjointUnion, SubRole, EquivalentRoles, Domain, Range}
use Rattle.shq_terms.specs.declared.axioms.Axiom.TheVariants.{Functional, Transitive, Member, Pair, SameAll, Different}
use Rattle.shq_terms.specs.declared.axioms.Numbered.{Numbered}
use Rattle.calculus_specs.specs.Rows.{Part, inclusion, range, is_among, inclusion_of}
use Rattle.ontology_limits.specs.Parts.{axiom_parts, part_in, disjoint_pair, disjoint_parts, chain_parts}
use Rattle.ontology_limits.specs.Parts.{equivalent_parts}
use Rattle.ontology_limits.specs.Parts.{union_parts}
use Rattle.absorption.specs.Theory.{theory_of, parts_at, parts_in}
use Rattle.absorption.proofs.NumberedParts.{numbered}
use Rattle.absorption.specs.LineLaws.{RangesAreFirst}

abbrev is_inclusion : Part → Bool
is_inclusion (inclusion cs d) = true
is_inclusion (range r d) = false

all_append : (ps qs : List Part) → list_all is_inclusion ps ≡ true → list_all is_inclusion qs ≡ true
    → list_all is_inclusion (ps ++ qs) ≡ true
all_append [] qs h k = k
all_append (inclusion cs d ∷ ps) qs h k = all_append ps qs h k
all_append (range r d ∷ ps) qs h k = cc

all_pairs : (c : Concept) (cs : List Concept) → list_all is_inclusion (map (disjoint_pair c) cs) ≡ true
all_pairs c [] = refl
all_pairs c (d ∷ ds) = all_pairs c ds

all_disjoint : (cs : List Concept) → list_all is_inclusion (disjoint_parts cs) ≡ true
all_disjoint [] = refl
all_disjoint (c ∷ cs) = all_append (map (disjoint_pair c) cs) (disjoint_parts cs) (all_pairs c cs) (all_disjoint cs)

all_chain : (first : Concept) (cs : List Concept) → list_all is_inclusion (chain_parts first cs) ≡ true
all_chain first [] = refl
all_chain first (c ∷ []) = refl
all_chain first (c ∷ d ∷ ds) = all_chain first (d ∷ ds)

all_equivalent : (cs : List Concept) → list_all is_inclusion (equivalent_parts cs) ≡ true
all_equivalent [] = refl
all_equivalent (c ∷ cs) = all_chain c (c ∷ cs)

all_in : (a : Concept) (cs : List Concept) → list_all is_inclusion (map (λ c. inclusion_of c a) cs) ≡ true
all_in a [] = refl
all_in a (c ∷ cs) = all_in a cs

all_union : (a : Concept) (cs : List Concept) → list_all is_inclusion (union_parts a cs) ≡ true
all_union a cs = all_append (map (λ c. inclusion_of c a) cs) (disjoint_parts cs) (all_in a cs) (all_disjoint cs)

-- no part that is an inclusion is a range
no_range : (qs : List Part) (place s : ℕ) (d : Concept) → list_all is_inclusion qs ≡ true → part_in qs place ≡ range s d
    → ⊥
no_range [] place s d h is = cc
no_range (range r e ∷ qs) place s d h is = cc
no_range (inclusion cs e ∷ qs) zero s d h is = cc
no_range (inclusion cs e ∷ qs) (suc place) s d h is = no_range qs place s d h is

range_first : (a : Axiom) (place s : ℕ) (d : Concept) → place < length (axiom_parts a)
    → part_in (axiom_parts a) place ≡ range s d → place ≡ 0
range_first (SubClassOf c e) place s d lt is = absurd (no_range (axiom_parts (SubClassOf c e)) place s d refl is)
range_first (EquivalentClasses cs) place s d lt is =
    absurd (no_range (equivalent_parts cs) place s d (all_equivalent cs) is)
range_first (DisjointClasses cs) place s d lt is = absurd (no_range (disjoint_parts cs) place s d (all_disjoint cs) is)
range_first (DisjointUnion c cs) place s d lt is = absurd (no_range (union_parts c cs) place s d (all_union c cs) is)
range_first (SubRole r q) place s d lt is = absurd (omega arith)
range_first (EquivalentRoles rs) place s d lt is = absurd (omega arith)
range_first (Domain r c) place s d lt is = absurd (no_range (axiom_parts (Domain r c)) place s d refl is)
range_first (Range r c) place s d lt is = omega arith
range_first (Functional r) place s d lt is = absurd (no_range (axiom_parts (Functional r)) place s d refl is)
range_first (Transitive r) place s d lt is = absurd (omega arith)
range_first (Member c a) place s d lt is = absurd (omega arith)
range_first (Pair r a b) place s d lt is = absurd (omega arith)
range_first (SameAll as_) place s d lt is = absurd (omega arith)
range_first (Different as_) place s d lt is = absurd (omega arith)

in_option : (o : Option Numbered) (place s : ℕ) (d : Concept) → place < length (parts_in o)
    → part_in (parts_in o) place ≡ range s d → place ≡ 0
in_option None place s d lt is = absurd (omega arith)
in_option (Some n) place s d lt is = range_first n.axiom place s d lt is

pub ranges_first : (axioms : List Numbered) (ks : List ℕ) → RangesAreFirst (theory_of axioms ks)
ranges_first axioms ks a p s d h =
    by (is_among ks a && leb 1 p && leb p (length (parts_at axioms a))) refl (sym (numbered axioms ks a p) ∙ h)
  where
    by : (b : Bool) → (is_among ks a && leb 1 p && leb p (length (parts_at axioms a))) ≡ b
        → cond b (Some (part_in (parts_at axioms a) (p - 1))) None ≡ Some (range s d) → p ≡ 1
    by true t is =
        let outer = and_parts (is_among ks a && leb 1 p) (leb p (length (parts_at axioms a))) t in
        let inner = and_parts (is_among ks a) (leb 1 p) outer.0 in
        let low = leb-true 1 p inner.1 in
        let high = leb-true p (length (parts_at axioms a)) outer.1 in
        let part : part_in (parts_at axioms a) (p - 1) ≡ range s d = cc in
        let first = in_option (slice_get axioms (a - 1)) (p - 1) s d (omega arith) part in
        omega arith
    by false t is = cc

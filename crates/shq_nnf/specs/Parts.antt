-- The parts of an axiom, in order.
use Rattle.std.specs.Prelude.{◌≡◌, ℕ, Bool, true, ◌&&◌, List, [], ◌∷◌, ◌++◌, map, slice_index_or}
use Rattle.shq_meaning.specs.Concept.{Concept, top, complement, union, some_of, at_most, parts_of}
use Rattle.shq_meaning.specs.Axiom.{Axiom}
use Rattle.shq_meaning.specs.Axiom.TheVariants.{SubClassOf, EquivalentClasses, DisjointClasses, DisjointUnion, SubRole}
use Rattle.shq_meaning.specs.Axiom.TheVariants.{EquivalentRoles, Domain, Range, Functional, Transitive, Member, Pair}
use Rattle.shq_meaning.specs.Axiom.TheVariants.{SameAll, Different}
use Rattle.calculus_specs.specs.Shape.{Shape}
use Rattle.calculus_specs.specs.Normal.{normal_form}
use Rattle.calculus_specs.specs.Tree.{tree_of}
use Rattle.calculus_specs.specs.Rows.{Part, inclusion, range, conjuncts_in, inclusion_of, range_of}
use Rattle.shq_nnf.specs.declared.parts.Part.{Part as Kept}
use Rattle.shq_nnf.specs.declared.parts.Part.TheVariants as K
use Rattle.shq_nnf.specs.Bounds.{signed_form}
use Rattle.shq_nnf.specs.Counts.{has_counts_within, have_counts_within}
use Rattle.shq_nnf.specs.Numbers.{IsNumber, AreNumbers}

-- what is in c is not in d
abbrev pub disjoint_pair : Concept → Concept → Part
disjoint_pair c d = inclusion_of c (complement d)

-- each before each that stands after it
abbrev pub disjoint_parts : List Concept → List Part
disjoint_parts [] = []
disjoint_parts (c ∷ cs) = map (disjoint_pair c) cs ++ disjoint_parts cs

-- each in the next, and the last in the first
abbrev pub chain_parts : Concept → List Concept → List Part
chain_parts first [] = []
chain_parts first (c ∷ []) = inclusion_of c first ∷ []
chain_parts first (c ∷ d ∷ ds) = inclusion_of c d ∷ chain_parts first (d ∷ ds)

-- the parts of an axiom of equivalent classes: each is in the next, and the last in the first
abbrev pub equivalent_parts : List Concept → List Part
equivalent_parts [] = []
equivalent_parts (c ∷ cs) = chain_parts c (c ∷ cs)

-- what is in the class is in one of the classes
abbrev pub covering : Concept → List Concept → Part
covering a cs = inclusion_of a (union (parts_of cs))

-- the class is in their union, each of them is in the class, and no two have a common element
abbrev pub union_parts : Concept → List Concept → List Part
union_parts a cs = covering a cs ∷ (map (λ c. inclusion_of c a) cs ++ disjoint_parts cs)

-- a role axiom has none, and an assertion has none
abbrev pub axiom_parts : Axiom → List Part
axiom_parts (SubClassOf c d) = inclusion_of c d ∷ []
axiom_parts (EquivalentClasses cs) = equivalent_parts cs
axiom_parts (DisjointClasses cs) = disjoint_parts cs
axiom_parts (DisjointUnion a cs) = union_parts a cs
axiom_parts (SubRole r s) = []
axiom_parts (EquivalentRoles rs) = []
axiom_parts (Domain r c) = inclusion_of (some_of r top) c ∷ []
axiom_parts (Range r c) = range_of r c ∷ []
axiom_parts (Functional r) = inclusion_of top (at_most 1 r top) ∷ []
axiom_parts (Transitive r) = []
axiom_parts (Member c a) = []
axiom_parts (Pair r a b) = []
axiom_parts (SameAll as_) = []
axiom_parts (Different as_) = []

-- what is in the left side is in the right side, or in its complement
abbrev pub signed_inclusion : Concept → Bool → Concept → Part
signed_inclusion left negated right = inclusion (conjuncts_in (normal_form left)) (signed_form negated right)

-- the inclusion of what a number stands for in what another does
abbrev pub inclusion_at : List Shape → ℕ → ℕ → Part
inclusion_at table left right = inclusion (conjuncts_in (tree_of table left)) (tree_of table right)

-- the part at a place from 0; one that is not there reads as 'nothing is asked'
abbrev pub part_in : List Part → ℕ → Part
part_in parts place = slice_index_or parts place (inclusion [] top)

-- the numbers of the table stand for the part
abbrev pub StandsForPart : List Shape → Kept → Part → Type 0
StandsForPart table (K.Inclusion ns n) (inclusion cs d) = AreNumbers table ns cs × IsNumber table n d
StandsForPart table (K.Range r n) (range s d) = (r ≡ s) × IsNumber table n d
StandsForPart table _ _ = ⊥

-- the cardinalities of an axiom's class expressions are within a limit
abbrev pub axiom_has_counts_within : ℕ → Axiom → Bool
axiom_has_counts_within limit (SubClassOf c d) = has_counts_within limit c && has_counts_within limit d
axiom_has_counts_within limit (EquivalentClasses cs) = have_counts_within limit (parts_of cs)
axiom_has_counts_within limit (DisjointClasses cs) = have_counts_within limit (parts_of cs)
axiom_has_counts_within limit (DisjointUnion a cs) = has_counts_within limit a && have_counts_within limit (parts_of cs)
axiom_has_counts_within limit (SubRole r s) = true
axiom_has_counts_within limit (EquivalentRoles rs) = true
axiom_has_counts_within limit (Domain r c) = has_counts_within limit c
axiom_has_counts_within limit (Range r c) = has_counts_within limit c
axiom_has_counts_within limit (Functional r) = true
axiom_has_counts_within limit (Transitive r) = true
axiom_has_counts_within limit (Member c a) = has_counts_within limit c
axiom_has_counts_within limit (Pair r a b) = true
axiom_has_counts_within limit (SameAll as_) = true
axiom_has_counts_within limit (Different as_) = true
